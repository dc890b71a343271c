-- A cell that does not stand before the one in front of it stands before none in front of it.
use Rattle.std.proofs.Common.{ℕ, zero, suc, ◌≡◌, ◌<◌, ◌≤◌, ◌+◌, ◌^◌, ◌⊎◌, inl, inr, false, List, arith, rules, length, get_or}
use Rattle.std.proofs.lemmas.List.{get_or_default}
use Rattle.std.proofs.lemmas.Bool.{cases_lt}
use Rattle.std.proofs.lemmas.Bool.Decides.{nat_tests}
use Rattle.kw_cells.specs.InOrder.{stands_before}
use Rattle.kw_cells.specs.declared.cell.Cell.{Cell}
use Rattle.kw_cells.proofs.Rising.{any_cell}
use Rattle.kw_cells.proofs.keep.are_in_order.Goals as goal

-- no cell up to a place stands before one in front of it
AreUpto : List Cell → ℕ → Type 0
AreUpto s n = (i j : ℕ) (d : Cell) → i ≤ j → j < n → stands_before (get_or s j d) (get_or s i d) ≡ false

-- nor does it where it does not stand before itself
not_self : (c : Cell) → stands_before c c ≡ false
not_self c = grind (arith, nat_tests)

-- not standing before passes on
not_before : (x y z : Cell) → stands_before x y ≡ false → stands_before y z ≡ false → stands_before x z ≡ false
not_before x y z e f = grind (arith, nat_tests)

-- one cell more
one_more : (s : List Cell) (n : ℕ) → AreUpto s n → ((k : ℕ) (d : Cell) → k + 1 ≡ n → stands_before (get_or s n d) (get_or s k d) ≡ false) → AreUpto s (n + 1)
unfolding AreUpto
one_more s n are next i j d g l = at (cases_lt j n) (cases_lt i j)
  where
    last : (k : ℕ) → i ≤ k → k + 1 ≡ n → stands_before (get_or s n d) (get_or s i d) ≡ false
    last k f e = not_before (get_or s n d) (get_or s k d) (get_or s i d) (next k d e) (are i k d f (omega arith))

    front : (m : ℕ) → i < m → m ≡ n → (k : ℕ) × (k + 1 ≡ n) × (i ≤ k)
    front (suc k) f e = (k, omega arith, omega arith)
    front zero f e = absurd (omega arith)

    at : ((j < n) ⊎ (n ≤ j)) → ((i < j) ⊎ (j ≤ i)) → stands_before (get_or s j d) (get_or s i d) ≡ false
    at (inl a) b = are i j d g a
    at (inr a) (inl b) = let e : j ≡ n = omega arith in let f = front j b e in rw e (last f.0 f.2 f.1)
    at (inr a) (inr b) = let e : i ≡ j = omega arith in rw e (not_self (get_or s j d))

-- what each of so many cells and the next one has
in_more : (s : List Cell) (n : ℕ) (x : Cell) → n < length s → ((i : ℕ) (d : Cell) → i < n → (get_or s i d).version < 2 ^ 64) → (get_or s n x).version < 2 ^ 64 → (i : ℕ) (d : Cell) → i < n + 1 → (get_or s i d).version < 2 ^ 64
in_more s n x w are next i d l = at (cases_lt i n)
  where
    at : ((i < n) ⊎ (n ≤ i)) → (get_or s i d).version < 2 ^ 64
    at (inl a) = are i d a
    at (inr a) = let e : i ≡ n = omega arith in rw (e, get_or_default s n d x w) next

pub loop-place-preserved : goal.loop-place-preserved
unfolding AreUpto
loop-place-preserved c = record {
  ordered = one_more c.args.cells.now c.loop-place.place c.loop-place.invariant.ordered (c.is_early.ensures c.if-is_early.false);
  in_range = in_more c.args.cells.now c.loop-place.place any_cell c.loop-place-test.true c.loop-place.invariant.in_range (search rules);
}
