-- What is left to put together of the parts that readers gave, and what they say of the bytes.
use Rattle.std.proofs.Common.{ℕ, ◌≡◌, ◌≤◌, ◌+◌, List, [], ◌∷◌, ◌++◌, map, length, Result, Ok, Err, Vec, refl, sym, ap, ◌∙◌, subst, arith, append-nil, append_assoc, length-append}
use Rattle.std.specs.declared.alloc.Global.{Global}
use Rattle.std.specs.List.{AllByRecursion, flat_map}
use Rattle.std.proofs.lemmas.List.{map-append, nil_from_length}
use Rattle.kw_line.specs.declared.item.Item.{Item}
use Rattle.kw_line.specs.declared.error.LineError.{LineError}
use Rattle.kw_line.specs.declared.error.LineError.TheVariants as error
use Rattle.kw_line.specs.Cut.{lines}
use Rattle.kw_line.specs.Line.{IsItem, item_text, AreLinesOf, IsFirstBadLine}
use Rattle.kw_line.proofs.Texts.{few_items}
use Rattle.kw_beside.specs.Pieces.{AreRead}

-- what a reader gives for a piece
abbrev pub Part : Type 0
Part = Result (Vec Item Global) LineError

-- these items, and what readers gave for the pieces that are left, are what the bytes' lines say
pub record IsLeft (bytes : List ℕ) (items : List Item) (left : List Part) : Type 0 where
  pub pieces : List (List ℕ)
  pub cut : lines bytes ≡ map item_text items ++ flat_map lines pieces
  pub each : AreRead pieces left

-- what holds of each item of two lists holds of each item of both, one after the other
AllByRecursion-append : (P : Item → Type 0) (xs ys : List Item) → AllByRecursion P xs → AllByRecursion P ys → AllByRecursion P (xs ++ ys)
AllByRecursion-append P [] ys first more = more
AllByRecursion-append P (x ∷ xs) ys first more = (first.0, AllByRecursion-append P xs ys first.1 more)

-- the lines of a piece are those of its items
more_cut : (bytes piece : List ℕ) (pieces : List (List ℕ)) (items more : List Item) → lines bytes ≡ map item_text items ++ (lines piece ++ flat_map lines pieces) → lines piece ≡ map item_text more → lines bytes ≡ map item_text (items ++ more) ++ flat_map lines pieces
more_cut bytes piece pieces items more cut texts = cut ∙ (rw (texts, map-append item_text items more, append_assoc) refl)

-- a part with items is put behind the items so far
pub left_more : (bytes : List ℕ) (items all : List Item) (whole left : List Part) (part : Part) (more : Vec Item Global) → whole ≡ part ∷ left → part ≡ Ok more → all ≡ items ++ more.items → IsLeft bytes items whole → IsLeft bytes all left
left_more bytes items all whole left part more first is_ok joined before = subst (λ xs. IsLeft bytes xs left) (sym joined) (go now.pieces now.cut now.each)
  where
    now : IsLeft bytes items (Ok more ∷ left)
    now = subst (IsLeft bytes items) (first ∙ ap (λ p. p ∷ left) is_ok) before

    go : (pieces : List (List ℕ)) → lines bytes ≡ map item_text items ++ flat_map lines pieces → AreRead pieces (Ok more ∷ left) → IsLeft bytes (items ++ more.items) left
    go [] cut each = absurd each
    go (piece ∷ pieces) cut each = record { pieces = pieces; cut = more_cut bytes piece pieces items more.items cut each.0.items.texts; each = each.1 }

-- each of the items is one that a line may be, also of those that are put behind the items so far
pub each_more : (bytes : List ℕ) (items all : List Item) (whole left : List Part) (part : Part) (more : Vec Item Global) → whole ≡ part ∷ left → part ≡ Ok more → all ≡ items ++ more.items → IsLeft bytes items whole → AllByRecursion IsItem items → AllByRecursion IsItem all
each_more bytes items all whole left part more first is_ok joined before fit = subst (AllByRecursion IsItem) (sym joined) (AllByRecursion-append IsItem items more.items fit (go now.pieces now.each))
  where
    now : IsLeft bytes items (Ok more ∷ left)
    now = subst (IsLeft bytes items) (first ∙ ap (λ p. p ∷ left) is_ok) before

    go : (pieces : List (List ℕ)) → AreRead pieces (Ok more ∷ left) → AllByRecursion IsItem more.items
    go [] each = absurd each
    go (piece ∷ pieces) each = each.0.items.each

-- the first bad line of a part, counted on from the items so far, is that of the bytes
pub left_bad : (bytes : List ℕ) (items : List Item) (whole left : List Part) (part : Part) (count line : ℕ) → whole ≡ part ∷ left → part ≡ Err (error.Bad line) → count ≡ length items → AllByRecursion IsItem items → IsLeft bytes items whole → IsFirstBadLine bytes (count + line)
left_bad bytes items whole left part count line first is_bad counted fit before = go now.pieces now.cut now.each
  where
    now : IsLeft bytes items (Err (error.Bad line) ∷ left)
    now = subst (IsLeft bytes items) (first ∙ ap (λ p. p ∷ left) is_bad) before

    go : (pieces : List (List ℕ)) → lines bytes ≡ map item_text items ++ flat_map lines pieces → AreRead pieces (Err (error.Bad line) ∷ left) → IsFirstBadLine bytes (count + line)
    go [] cut each = absurd each
    go (piece ∷ pieces) cut each =
        let bad = each.0.bad in
        record {
          before = items ++ bad.before;
          line = bad.line;
          after = bad.after ++ flat_map lines pieces;
          number_is = omega (arith, bad.number_is, length-append items bad.before);
          cut = cut ∙ (rw (bad.cut, map-append item_text items bad.before) (simp append_assoc));
          each = AllByRecursion-append IsItem items bad.before fit bad.each;
          bad = bad.bad;
        }

-- a bad line's number is no more than there are bytes
pub bad_within : (bytes : List ℕ) (number : ℕ) → IsFirstBadLine bytes number → number ≤ length bytes
bad_within bytes number is = omega (arith, is.number_is, few_items bytes is.before (is.line ∷ is.after) is.cut)

-- where no part is left, the items are those of the lines
pub left_none : (bytes : List ℕ) (items : List Item) (left : List Part) → length left ≡ 0 → AllByRecursion IsItem items → IsLeft bytes items left → AreLinesOf bytes items
left_none bytes items left none fit before = go now.pieces now.cut now.each
  where
    now : IsLeft bytes items []
    now = subst (IsLeft bytes items) (nil_from_length left none) before

    go : (pieces : List (List ℕ)) → lines bytes ≡ map item_text items ++ flat_map lines pieces → AreRead pieces [] → AreLinesOf bytes items
    go [] cut each = record { each = fit; texts = cut ∙ append-nil _ }
    go (piece ∷ pieces) cut each = absurd each
