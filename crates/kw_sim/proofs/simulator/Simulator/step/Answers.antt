use Rattle.std.proofs.Common.{length, ap, arith}
use Rattle.kw_sim.specs.State.{State, queue_of}
use Rattle.kw_sim.specs.Meaning.{is_idle}
use Rattle.kw_sim.proofs.Steps.{taken-trace, step_kind, step_state}
use Rattle.kw_sim.proofs.simulator.Simulator.step.Goals as goal

pub event-requires-clause-room : goal.event-requires-clause-room
event-requires-clause-room c = omega (arith, c.requires.room, ap (λ (st : State). length st.trace.events) c.next_choice-choice.ensures.state, ap (λ t. length t.events) (taken-trace (is_idle c.args.seat c.args.self.now) (queue_of c.args.seat c.args.self.now) c.args.seat c.args.self.now))

pub returns-clause-kind : goal.returns-clause-kind
returns-clause-kind c = step_kind c.args.seat c.args.self.now c.next_choice-choice.new.self c.next_choice-choice.result c.kind_of-kind.result c.next_choice-choice.ensures.choice c.next_choice-choice.ensures.state c.kind_of-kind.ensures

pub returns-clause-state : goal.returns-clause-state
returns-clause-state c = step_state c.args.seat c.args.self.now c.next_choice-choice.new.self c.event.new.self c.next_choice-choice.result c.next_choice-choice.ensures.choice c.next_choice-choice.ensures.state c.in_ok-event.ensures
