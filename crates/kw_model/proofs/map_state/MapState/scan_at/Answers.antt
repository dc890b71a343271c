-- What the tree has of the seat is its snapshot.
use Rattle.std.proofs.Common.{sym, ◌∙◌, ap}
use Rattle.kw_model.specs.Snapshots.{snapshot_of, scan_answer}
use Rattle.kw_model.proofs.Seats.{seat_is}
use Rattle.kw_model.specs.declared.call.Reply.TheVariants.{Pairs}
use Rattle.kw_model.proofs.map_state.MapState.scan_at.Goals as goal

pub returns-in_ok-between-in-Some-clause-answer : goal.returns-in_ok-between-in-Some-clause-answer
returns-in_ok-between-in-Some-clause-answer c =
    let held = c.in-Some.ensures.value ∙ sym (seat_is c.args.seat c.self.inside.pins.entries) ∙ ap (snapshot_of c.args.seat) c.self.view_is in
    ap Pairs c.in_ok-between-in-Some.ensures ∙ ap (scan_answer c.args.from c.args.to) held

pub returns-in-None-clause-answer : goal.returns-in-None-clause-answer
returns-in-None-clause-answer c =
    let held = c.in-None.ensures.value ∙ sym (seat_is c.args.seat c.self.inside.pins.entries) ∙ ap (snapshot_of c.args.seat) c.self.view_is in
    ap (scan_answer c.args.from c.args.to) held
