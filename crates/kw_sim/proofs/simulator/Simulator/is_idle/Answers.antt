use Rattle.std.proofs.Common.{◌∙◌, ap, arith}
use Rattle.kw_sim.specs.State.{State}
use Rattle.kw_order.specs.Trace.{world_of}
use Rattle.kw_sim.proofs.Runs.{idle_is}
use Rattle.kw_sim.proofs.simulator.Simulator.is_idle.Goals as goal

pub local-local-requires : goal.local-local-requires
local-local-requires c = omega (arith, c.requires, c.self.invariant.0, c.world.ensures.seats)

pub returns : goal.returns
returns c = idle_is c.args.seat c.args.self.now c.world.result.now c.local-local.result.now c.skips.result (c.world.ensures.value ∙ ap (λ (st : State). world_of st.trace) c.self.view_is) c.local-local.ensures c.skips.ensures
