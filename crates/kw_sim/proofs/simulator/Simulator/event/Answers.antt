use Rattle.std.proofs.Common.{◌≡◌, ◌<◌, length, ap, subst, arith}
use Rattle.std.proofs.lemmas.Result.{on_ok_weaker}
use Rattle.kw_world.specs.declared.limits.TheConstants.{MOST_CALLS}
use Rattle.kw_world.specs.declared.event.Event.{Event}
use Rattle.kw_sim.specs.State.{State}
use Rattle.kw_sim.specs.Meaning.{event, after_event}
use Rattle.kw_sim.proofs.Reached.{can_step}
use Rattle.kw_sim.proofs.Runs.{event_is}
use Rattle.kw_sim.proofs.simulator.Simulator.event.Goals as goal

pub local-local-requires : goal.local-local-requires
local-local-requires c = omega (arith, c.requires.seat, c.self.invariant.0, c.world.ensures.seats)

pub push-requires-clause-begin : goal.push-requires-clause-begin
push-requires-clause-begin c =
    let few : length c.self.inside.trace.events < MOST_CALLS = omega (arith, c.requires.room, ap (λ (st : State). length st.trace.events) c.self.view_is) in
    can_step c.self.inside.trace (event c.args.seat c.args.choice) c.requires.fits few

pub returns : goal.returns
returns c =
    let st : State = record { trace = c.self.inside.trace; queues = c.self.inside.queues.items; text = c.self.inside.text.items } in
    let e : Event = event c.args.seat c.args.choice in
    let next : State = record { trace = c.push.new.self; queues = c.self.inside.queues.items; text = c.push_done.new.out.items } in
    on_ok_weaker c.push_done.result
    (λ printed. subst (λ (x : State). next ≡ after_event e x) c.self.view_is
    (event_is st c.push.new.self c.push_done.new.out.items e c.world.result.now c.local-local.result.now c.unwrap_or-call.result c.in_ok-done.done
    c.in_ok-done.ensures.ok c.world.ensures.value c.local-local.ensures c.unwrap_or-call.ensures c.in_ok-done.ensures.step printed))
    c.push_done.ensures
