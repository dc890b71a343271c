use Rattle.std.proofs.Common.{◌≡◌, ◌∙◌, sym, arith, ◌<◌, ℕ, get_or, length, Option, Some, None, List, refl, slice_get}
use Rattle.std.specs.Option.{option_copied, is_some, IfSome}
use Rattle.std.proofs.lemmas.Option.{slice_get-get_or, slice_get_past}
use borrow.Author.Tests.{ltb-true, ltb-false}
use denote.Bor.{Bor}
use lib.Dec.{ltb}
use Rattle.kw_core.proofs.GatheredIds.{id_found, id_absent}
use Rattle.kw_core.proofs.change.id_at.Goals as goal

-- what a place of a list holds, if the list is that long
copied : (xs : List ℕ) (i : ℕ) (r : Option (Bor ℕ)) → is_some r ≡ ltb i (length xs) → IfSome r (λ x. x.now ≡ get_or xs i x.now) → option_copied r ≡ slice_get xs i
copied xs i (Some x) w e =
    let v : i < length xs = ltb-true i (length xs) (sym w) in
    let f : Some x.now ≡ Some (get_or xs i x.now) = rw (← e) refl in
    f ∙ sym (slice_get-get_or xs i x.now v)
copied xs i None w e = sym (slice_get_past xs i (ltb-false i (length xs) (sym w)))

pub returns-then-cell-place : goal.returns-then-cell-place
returns-then-cell-place c =
    let found = id_found c.args.place c.loop-i.i c.args.cells.now c.args.ids.now c.loop-i.invariant (omega arith) c.if-cell-place.true in
    c.copied.ensures ∙ copied c.args.ids.now c.loop-i.i c.get.result c.get.ensures.lookup.0 c.get.ensures.lookup.1 ∙ sym found

pub returns : goal.returns
returns c = sym (id_absent c.args.place c.args.cells.now c.args.ids.now (λ k w e. c.loop-i.invariant k (omega (arith, w)) e))
