use Rattle.std.proofs.Common.{length, sym, ◌∙◌, arith}
use Rattle.std.proofs.lemmas.Bool.{eqb-true, eqb-false}
use Rattle.std.proofs.lemmas.List.{nil_from_length}
use Rattle.kiwid.proofs.Passes.{stays_idle}
use Rattle.kiwid.proofs.Ways.{nothing_left, last_done, last_stops, still_serves}
use Rattle.kiwid.proofs.session.last_line.Goals as goal

pub returns-then-is_empty-clause-stays : goal.returns-then-is_empty-clause-stays
returns-then-is_empty-clause-stays g c = stays_idle _ _ c.requires.idle

pub returns-then-is_empty-clause-ends : goal.returns-then-is_empty-clause-ends
returns-then-is_empty-clause-ends g c = nothing_left _ _ _ c.args.held.now c.requires.few (nil_from_length c.args.held.now (eqb-true _ _ (sym c.is_empty.ensures ∙ c.if-is_empty.true)))

pub returns-in-Ok-clause-ends : goal.returns-in-Ok-clause-ends
returns-in-Ok-clause-ends g c =
    let some = eqb-false (length c.args.held.now) 0 (sym c.is_empty.ensures ∙ c.if-is_empty.false) in
    last_done c.args.held.now _ _ _ _ _ (still_serves _ c.args.held.now c.requires.few c.requires.room (omega arith)) (omega arith) c.requires.one_line c.in-Ok.ensures.done.0

pub returns-in-Err-clause-ends : goal.returns-in-Err-clause-ends
returns-in-Err-clause-ends g c =
    let some = eqb-false (length c.args.held.now) 0 (sym c.is_empty.ensures ∙ c.if-is_empty.false) in
    last_stops c.args.held.now _ _ _ _ _ _ (still_serves _ c.args.held.now c.requires.few c.requires.room (omega arith)) (omega arith) c.requires.one_line c.in-Err.ensures.stops
