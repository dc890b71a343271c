-- The gathered cells: no two of them agree, and there are no more than there is room for.
use Rattle.std.proofs.Common.{ℕ, Bool, true, false, ◌≡◌, ◌<◌, ◌≤◌, ◌⊎◌, inl, inr, List, refl, sym, subst, ◌∙◌, arith, length, get_or, nat_lt, if◌then◌else◌}
use Rattle.std.proofs.lemmas.List.{get_or_default}
use Rattle.std.proofs.lemmas.Bool.{cases_order}
use Rattle.std.proofs.lemmas.Bool.Decides.{nat_tests}
use Rattle.kw_cells.specs.Cells.{AreApart}
use Rattle.kw_cells.specs.InOrder.{stands_before, AreInOrder, with_cell}
use Rattle.kw_cells.proofs.InOrder.{length-with_cell}
use Rattle.kw_cells.specs.declared.cell.Cell.{Cell}

-- of two cells that agree neither stands before the other
same_not_before : (c d : Cell) → c.key ≡ d.key → c.version ≡ d.version → c.place ≡ d.place → stands_before c d ≡ false
same_not_before c d k v p = grind (arith, nat_tests)

-- a cell in front of another stands before it
front_stands : (cells : List Cell) (i j : ℕ) (c d : Cell) → AreInOrder cells → i < j → j < length cells → get_or cells i c ≡ c → get_or cells j d ≡ d → stands_before c d ≡ true
front_stands cells i j c d o u w e f =
    let g : get_or cells j c ≡ d = get_or_default cells j c d w ∙ f in
    subst (λ x. stands_before x d ≡ true) e (subst (λ x. stands_before (get_or cells i c) x ≡ true) g (o i j c u w))

-- cells in order that agree in key, version and place are one
pub in_order_apart : (cells : List Cell) → AreInOrder cells → AreApart cells
in_order_apart cells o c d (i, u, e) (j, w, f) k v p = which (cases_order i j)
  where
    which : (i ≡ j) ⊎ ((i < j) ⊎ (j < i)) → c ≡ d
    which (inl s) = sym e ∙ get_or_default cells i c d u ∙ subst (λ x. get_or cells x d ≡ d) (sym s) f
    which (inr (inl l)) = absurd (let t : stands_before c d ≡ true = front_stands cells i j c d o l w e f in let n : stands_before c d ≡ false = same_not_before c d k v p in cc)
    which (inr (inr l)) = absurd (let t : stands_before d c ≡ true = front_stands cells j i d c o l u f e in let n : stands_before d c ≡ false = same_not_before d c (sym k) (sym v) (sym p) in cc)

-- where a cell is put only where there is room, there are never more than the room
pub length-kept_within : (room : ℕ) (c : Cell) (cells : List Cell) → length cells ≤ room → length (if nat_lt (length cells) room then with_cell c cells else cells) ≤ room
length-kept_within room c cells few = which (nat_lt (length cells) room) refl
  where
    which : (b : Bool) → nat_lt (length cells) room ≡ b → length (if b then with_cell c cells else cells) ≤ room
    which true e = let l : length cells < room = grind (arith, nat_tests) in omega (arith, length-with_cell c cells)
    which false e = few
