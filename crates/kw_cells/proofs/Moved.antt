-- The same cells in another order: what is kept of them stays the same. And the order that the sort
-- makes.
use Rattle.std.proofs.Common.{ℕ, true, false, ◌≡◌, ◌≤◌, List, [], refl, arith, Any, length, drop, inl, inr, ◌⊎◌}
use Rattle.std.specs.List.{refill}
use Rattle.std.specs.List.Sorted.{IsPermutation, IsSortedBy}
use Rattle.std.specs.Cmp.{IsStrictWeakOrder}
use Rattle.std.proofs.lemmas.List.Sorted.{Contains-permutation, All-permutation, IsPermutation-sym, sorted_far}
use Rattle.std.proofs.lemmas.List.{drop_all, append-nil}
use Rattle.std.proofs.Math.Seq.{take-length}
use Rattle.std.proofs.lemmas.Bool.Decides.{nat_tests}
use Rattle.kw_cells.specs.Cells.{is_later, IsBest, AreApart}
use Rattle.kw_cells.specs.Kept.{IsNewest, IsChosen, IsKept, IsKeptList}
use Rattle.kw_cells.specs.InOrder.{stands_before}
use Rattle.kw_cells.specs.Ordered.{IsOrdered}
use Rattle.kw_cells.specs.declared.cell.Cell.{Cell}

-- standing before is an order
pub before_orders : IsStrictWeakOrder stands_before
before_orders = record { one_way = one_way; chain = chain }
  where
    one_way : (x y : Cell) → stands_before x y ≡ true → stands_before y x ≡ false
    one_way x y e = grind (arith, nat_tests)

    chain : (x y z : Cell) → stands_before x y ≡ false → stands_before y z ≡ false → stands_before x z ≡ false
    chain x y z e f = grind (arith, nat_tests)

-- what the sort made is in order
pub in_order : (xs : List Cell) → IsSortedBy stands_before xs → IsOrdered xs
in_order xs h = sorted_far stands_before before_orders xs h

-- cells that can be told apart still can be
pub apart_moved : (xs ys : List Cell) → IsPermutation xs ys → AreApart xs → AreApart ys
apart_moved xs ys p h c d i j = h c d (Contains-permutation ys xs c (IsPermutation-sym xs ys p) i) (Contains-permutation ys xs d (IsPermutation-sym xs ys p) j)

-- a chosen cell is chosen
chosen_moved : (xs ys : List Cell) (needed : List ℕ) (c : Cell) → IsPermutation xs ys → IsChosen xs needed c → IsChosen ys needed c
chosen_moved xs ys needed c p (among, which) = (Contains-permutation xs ys c p among, go which)
  where
    go : IsNewest xs c ⊎ Any (λ u. IsBest xs c.key u c) needed → IsNewest ys c ⊎ Any (λ u. IsBest ys c.key u c) needed
    go (inl n) = inl (All-permutation (λ (d : Cell). d.key ≡ c.key → is_later d c ≡ false) xs ys p n)
    go (inr (m, u, lm, e, i)) = inr (m, u, lm, e, record { among = Contains-permutation xs ys c p i.among; of_key = refl; in_bound = i.in_bound; greatest = All-permutation (λ (d : Cell). d.key ≡ c.key → d.version ≤ u → is_later d c ≡ false) xs ys p i.greatest })

-- a cell that is to be kept is to be kept
pub kept_moved : (xs ys : List Cell) (needed : List ℕ) (c : Cell) → IsPermutation xs ys → IsKept xs needed c → IsKept ys needed c
kept_moved xs ys needed c p (ch, (m, x, lm, e, (same, le, chx, val))) =
    let i = Contains-permutation xs ys x p (m, lm, e) in
    (chosen_moved xs ys needed c p ch, (i.0, x, i.1, i.2, (same, le, chosen_moved xs ys needed x p chx, val)))

-- the kept list is the kept list
pub list_moved : (xs ys : List Cell) (needed : List ℕ) (kept : List Cell) → IsPermutation xs ys → IsKeptList ys needed kept → IsKeptList xs needed kept
list_moved xs ys needed kept p list = record { rising = list.rising; exactly = λ c. (λ h. kept_moved ys xs needed c (IsPermutation-sym xs ys p) ((list.exactly c).0 h), λ h. (list.exactly c).1 (kept_moved xs ys needed c p h)) }

-- a list that was written back in full
pub refilled : (xs ws : List Cell) → length ws ≡ length xs → refill (length xs) xs ws ≡ ws
refilled xs ws e =
    let n : length ws ≤ length xs = omega arith in
    let f : drop (length ws) xs ≡ [] = drop_all (length ws) xs (omega arith) in
    rw (f, append-nil, ← e) (take-length ws)
