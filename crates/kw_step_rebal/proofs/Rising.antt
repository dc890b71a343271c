-- Cells that rise by key and version: where the cells of a key end, and parts of them.
use Rattle.std.proofs.Common.{ℕ, ◌≡◌, ◌<◌, ◌≤◌, ◌+◌, ◌-◌, ◌⊎◌, inl, inr, true, nat_le, count_by, List, arith, length, take, drop, get_or, sym}
use Rattle.std.proofs.lemmas.List.{get_or-take, get_or-drop, length-take, length-drop}
use Rattle.std.proofs.lemmas.Bool.{cases_lt, cases_order}
use Rattle.std.proofs.lemmas.Bool.Decides.{nat_tests}
use Rattle.kw_cells.specs.declared.cell.Cell.{Cell}
use Rattle.kw_cells.specs.Kept.{is_below, AreRising}
use Rattle.kw_cells.proofs.CutAt.{IsCut, cut_is, passing}
use Rattle.kw_cells.proofs.Rising.{any_cell, keys_rise}

-- where the cell before a place has no greater key, and none from it on has such a one, so many
-- cells have no greater key
pub key_ends : (cells : List Cell) → AreRising cells → (key place : ℕ) → 0 < place → place ≤ length cells → ((d : Cell) → (get_or cells (place - 1) d).key ≡ key) → (place < length cells → key < (get_or cells place any_cell).key) → place ≡ count_by (λ c. nat_le c.key key) cells
key_ends cells rising key place some within last next = omega (arith, least (cases_lt (place - 1) count), most (cases_lt place count))
  where
    count : ℕ
    count = passing (λ k. nat_le k key) cells

    cut : IsCut (λ k. nat_le k key) cells count
    cut = cut_is (λ k. nat_le k key) (λ a b l e. grind (arith, nat_tests)) cells rising

    least : ((place - 1 < count) ⊎ (count ≤ place - 1)) → place ≤ count
    least (inl h) = omega (arith, h, some)
    least (inr h) = absurd (let b = cut.from_it (place - 1) any_cell h (omega (arith, some, within)) in let l = last any_cell in grind (arith, nat_tests))

    most : ((place < count) ⊎ (count ≤ place)) → count ≤ place
    most (inr h) = h
    most (inl h) = absurd (let b = cut.before place any_cell h in let n = next (let w = cut.within in omega (arith, w, h)) in grind (arith, nat_tests))

-- a cell of another key behind one of this key has a greater one
pub next_above : (cells : List Cell) → AreRising cells → (key place : ℕ) → place < length cells → ((d : Cell) → (get_or cells (place - 1) d).key ≡ key) → ((get_or cells place any_cell).key ≡ key → ⊥) → key < (get_or cells place any_cell).key
next_above cells rising key place within last other = above (cases_order key (get_or cells place any_cell).key)
  where
    rises : key ≤ (get_or cells place any_cell).key
    rises = let l = last any_cell in let r = keys_rise cells rising (place - 1) place any_cell (omega arith) within in omega (arith, l, r)

    above : (key ≡ (get_or cells place any_cell).key) ⊎ ((key < (get_or cells place any_cell).key) ⊎ ((get_or cells place any_cell).key < key)) → key < (get_or cells place any_cell).key
    above (inl e) = absurd (other (sym e))
    above (inr (inl l)) = l
    above (inr (inr g)) = absurd (omega (arith, g, rises))

-- a part of rising cells rises
pub rising_part : (n m : ℕ) (cells : List Cell) → AreRising cells → AreRising (take n (drop m cells))
rising_part n m cells rising i j d g l =
    let a = length-take n (drop m cells) in
    let b = length-drop m cells in
    let o : j < n = omega (arith, a, l) in
    let below : is_below (get_or cells (m + i) d) (get_or cells (m + j) d) ≡ true = rising (m + i) (m + j) d (omega arith) (omega (arith, a, b, l)) in
    rw (get_or-take n (drop m cells) i d (omega arith), get_or-take n (drop m cells) j d o, get_or-drop m cells i d, get_or-drop m cells j d) below
