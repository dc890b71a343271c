use Rattle.std.proofs.Common.{◌≡◌, subst, arith}
use Rattle.kw_sim.specs.State.{State, queue_of, with_queue}
use Rattle.kw_sim.specs.Meaning.{taken}
use Rattle.std.specs.Prelude.{true}
use Rattle.kw_sim.proofs.Runs.{queue_there, take_is}
use Rattle.kw_sim.proofs.simulator.Simulator.take_call.Goals as goal

pub index_mut-queue-requires : goal.index_mut-queue-requires
index_mut-queue-requires c = omega (arith, c.requires, c.self.invariant.1)

pub returns-clause-state : goal.returns-clause-state
returns-clause-state c =
    let st : State = record { trace = c.self.inside.trace; queues = c.self.inside.queues.items; text = c.self.inside.text.items } in
    let there = queue_there c.args.seat st c.index_mut-queue.result.now (omega (arith, c.requires, c.self.invariant.1)) c.index_mut-queue.ensures.value in
    subst (λ (x : State). with_queue c.args.seat c.pop.new.self st ≡ taken true (queue_of c.args.seat x) c.args.seat x) c.self.view_is
    (take_is c.args.seat st c.pop.result c.index_mut-queue.result.now c.pop.new.self there c.pop.ensures.none c.pop.ensures.same c.pop.ensures.first)
