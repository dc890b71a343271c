-- The tables of all lines: none, or those from the first one on, with the points of the scan.
use Rattle.std.proofs.Common.{◌+◌, List, length, take, refl, sym, ap, ◌∙◌, subst, arith}
use Rattle.std.specs.List.{count_by}
use Rattle.std.proofs.lemmas.List.{length-take-le}
use Rattle.kw_model.specs.Map.{IsRising}
use Rattle.kw_line.specs.declared.answer.Answer.{Answer}
use Rattle.kw_rollup.specs.declared.item.RollItem.{RollItem}
use Rattle.kw_app.specs.declared.tables.Rolling.{Rolling}
use Rattle.kw_app.specs.Rolled.{StandsBelow}
use Rattle.kw_app.specs.Running.{is_refused}
use Rattle.kw_app.specs.Tables.{AreWhole, points_scanned}
use Rattle.kw_app.proofs.TableLines.{first_inside, is_whole, none_above, scan_is, scanned_points, stands_first}
use Rattle.kw_app.proofs.tables.tables.Goals as goal

pub returns-then-first-items : goal.returns-then-first-items
returns-then-first-items c = c.new.ensures.items ∙ sym (none_above c.args.width c.args.items.now c.args.answers.now (length c.args.items.now) (omega (arith, c.if-first-items.true, c.updates_above-first.ensures.above)))

pub bounds-answers-first : goal.bounds-answers-first
bounds-answers-first c =
    let x : AreWhole c.args.items.now c.args.answers.now = is_whole c.args.items.now c.args.answers.now c.updates_above-first.result c.updates_above-first.ensures.above c.updates_above-first.ensures.within c.if-first-items.false c.requires.whole in
    first_inside c.args.items.now c.args.answers.now c.updates_above-first.result x c.updates_above-first.ensures.above

pub from_pairs-requires-clause-rising : goal.from_pairs-requires-clause-rising
from_pairs-requires-clause-rising c =
    let x : AreWhole c.args.items.now c.args.answers.now = is_whole c.args.items.now c.args.answers.now c.updates_above-first.result c.updates_above-first.ensures.above c.updates_above-first.ensures.within c.if-first-items.false c.requires.whole in
    subst IsRising (sym (scanned_points c.args.items.now c.args.answers.now c.updates_above-first.result c.index-answers-first.result c.in-Pairs.pairs x c.updates_above-first.ensures.above c.index-answers-first.is c.in-Pairs.is)) x.rising

pub slice_bounds-refused_in-end : goal.slice_bounds-refused_in-end
slice_bounds-refused_in-end c =
    let x : AreWhole c.args.items.now c.args.answers.now = is_whole c.args.items.now c.args.answers.now c.updates_above-first.result c.updates_above-first.ensures.above c.updates_above-first.ensures.within c.if-first-items.false c.requires.whole in
    sym (length-take-le c.updates_above-first.result c.args.answers.now (omega (arith, first_inside c.args.items.now c.args.answers.now c.updates_above-first.result x c.updates_above-first.ensures.above)))

pub rolled-requires-clause-stands : goal.rolled-requires-clause-stands
rolled-requires-clause-stands c =
    let items : List RollItem = c.args.items.now in
    let answers : List Answer = c.args.answers.now in
    let e = c.updates_above-first.ensures.above in
    let x : AreWhole items answers = is_whole items answers c.updates_above-first.result e c.updates_above-first.ensures.within c.if-first-items.false c.requires.whole in
    let points = scanned_points items answers c.updates_above-first.result c.index-answers-first.result c.in-Pairs.pairs x e c.index-answers-first.is c.in-Pairs.is in
    let p : Rolling = record { rollup = c.in_ok-from_pairs-in-Pairs.field-0; refused = c.refused_in.result; next = c.updates_above-first.result + 1; text = c.new-in-Pairs.result } in
    subst (λ k. StandsBelow c.in_ok-from_pairs-in-Pairs.field-0.width items answers k p) (sym e)
    (stands_first c.in_ok-from_pairs-in-Pairs.field-0.width items answers p
    (omega (arith, e, first_inside items answers c.updates_above-first.result x e)) refl (c.in_ok-from_pairs-in-Pairs.ensures.pairs ∙ points) (c.refused_in.ensures.count ∙ ap (λ k. count_by is_refused (take k answers)) e) (ap (λ k. k + 1) e) c.new-in-Pairs.ensures.items)

pub unreachable-requires : goal.unreachable-requires
unreachable-requires c =
    let x : AreWhole c.args.items.now c.args.answers.now = is_whole c.args.items.now c.args.answers.now c.updates_above-first.result c.updates_above-first.ensures.above c.updates_above-first.ensures.within c.if-first-items.false c.requires.whole in
    c.in_default.not-Pairs (points_scanned c.args.items.now c.args.answers.now) (scan_is c.args.items.now c.args.answers.now c.updates_above-first.result c.index-answers-first.result x c.updates_above-first.ensures.above c.index-answers-first.is)
