-- What the tree has of the seat is its snapshot, and it is removed.
use Rattle.std.proofs.Common.{sym, ◌∙◌, ap}
use Rattle.std.specs.Ordering.{nat_cmp}
use Rattle.std.specs.FinMap.{FinMap, remove}
use Rattle.kw_model.specs.Map.{Pairs}
use Rattle.kw_model.specs.Snapshots.{State, snapshot_of, unpin_answer}
use Rattle.kw_model.proofs.Seats.{seat_is, removed}
use Rattle.kw_model.proofs.map_state.MapState.unpin.Goals as goal
use Rattle.kw_model.proofs.map_state.MapState.unpin.Goals.{in-Some, in-None}

pub returns-clause-answer : goal.returns-clause-answer
returns-clause-answer c =
    let held = c.remove.ensures.value ∙ sym (seat_is c.args.seat c.self.inside.pins.entries) ∙ ap (snapshot_of c.args.seat) c.self.view_is in
    elim c.match-remove.branch [
      | in-Some w ↦ w.result-is ∙ ap unpin_answer (sym w.in-Some.is ∙ held)
      | in-None w ↦ w.result-is ∙ ap unpin_answer (sym w.in-None.is ∙ held)
    ]

pub returns-clause-after : goal.returns-clause-after
returns-clause-after c =
    let new = removed c.args.seat c.self.inside.pins.entries c.remove.new.self.entries c.remove.ensures.updates.0 in
    ap (λ (p : FinMap nat_cmp Pairs). record { map = c.self.inside.pairs.entries; pins = p }) new
    ∙ ap (λ (t : State). record t { pins = remove t.pins c.args.seat }) c.self.view_is
