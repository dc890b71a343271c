-- The cells of a seat's group by their places: which row and which cell stands at a place, and that
-- each place of the group is one of a row of it.
use Rattle.std.proofs.Common.{ℕ, ◌≡◌, ◌⊎◌, inl, inr, ◌+◌, ◌*◌, ◌<◌, ◌≤◌, ◌==◌, Bool, true, false, nat_lt, if◌then◌else◌, Option, Some, None, arith, refl, sym, ◌∙◌, ap, subst, eq-eqb}
use Rattle.std.proofs.lemmas.Bool.Decides.{nat_tests}
use Rattle.kw_words.specs.declared.sizes.TheConstants.{MOST_GROUP}
use Rattle.kw_world.specs.declared.local.Local.{Local}
use Rattle.kw_world.specs.declared.rebalance.Rebalancing.{Rebalancing}
use Rattle.kw_world.specs.GroupPlaces.{base, cell_at, is_row, is_second, place_in_group, places, row_at, source}
use Rattle.kw_world.specs.Sizes.{Sizes}
use Rattle.kw_world.specs.Transition.{row_or_first}
use Rattle.kw_core.proofs.Arrows.{eq_from, not_below}
use Rattle.kw_shape.specs.Hands.{Hand, at_first, at_second, IsBehind}
-- the row of the cell at a place of the group is one of it
pub use Rattle.kw_shape.proofs.Hands.{row_of_group}
use Rattle.kw_shape.proofs.Hands.{cell_few}

-- the row that is this one
pub row_is : (o : Option ℕ) (q : ℕ) → is_row o q ≡ true → o ≡ Some q
row_is (Some c) q e = ap Some (eq_from c q e)
row_is None q e = let x : false ≡ true = e in absurd (cc)

pub is_this_row : (o : Option ℕ) (q : ℕ) → o ≡ Some q → is_row o q ≡ true
is_this_row o q e = rw e (eq-eqb q q refl)

-- a group has no more places than are gathered
pub places_few : (z : Sizes) (o : Option ℕ) → places z o ≤ MOST_GROUP * z.cells
places_few z (Some c) = omega arith
places_few z None = omega arith

-- what stands at a place is the same for a seat that knows the same group
pub source_like : {A : Type 0} (z : Sizes) (o : ℕ → ℕ → A) (k l : Local) → k.row ≡ l.row → k.rebalance.second ≡ l.rebalance.second → (p : ℕ) → source z o k p ≡ source z o l p
source_like z o k l row second p = rw (row, second) refl

-- The row at hand.

module _ (z : Sizes) (b : Rebalancing) where
  -- no place of it is beyond the group
  pub end_within : place_in_group z b z.cells ≤ places z b.second
  end_within = by b.second
    where
      by : (o : Option ℕ) → (if is_row o b.hand then z.cells else 0) + z.cells ≤ places z o
      by None = omega arith
      by (Some c) = which (c == b.hand)
        where
          which : (x : Bool) → (if x then z.cells else 0) + z.cells ≤ places z (Some c)
          which true = omega arith
          which false = omega arith

  pub place_within : (c : ℕ) → c < z.cells → place_in_group z b c < places z b.second
  place_within c u = omega (arith, u, end_within)

  -- the cell at the place of a cell is that cell
  pub cell_in_hand : (c : ℕ) → c < z.cells → cell_at z (place_in_group z b c) ≡ c
  cell_in_hand c u = by (is_second b)
    where
      by : (x : Bool) → cell_at z ((if x then z.cells else 0) + c) ≡ c
      by true = let e : nat_lt (z.cells + c) z.cells ≡ false = grind (arith, nat_tests) in rw e (omega arith)
      by false = let e : nat_lt (0 + c) z.cells ≡ true = grind (arith, nat_tests, u) in rw e (omega arith)

  -- and a place from the first one on is that of the cell there
  pub place_in_hand : (p : ℕ) → base z b ≤ p → p < place_in_group z b z.cells → (cell_at z p < z.cells) × (place_in_group z b (cell_at z p) ≡ p)
  place_in_hand p u w = by (is_second b) u w
    where
      by : (x : Bool) → (if x then z.cells else 0) ≤ p → p < (if x then z.cells else 0) + z.cells → (cell_at z p < z.cells) × ((if x then z.cells else 0) + cell_at z p ≡ p)
      by true m n = let e : nat_lt p z.cells ≡ false = grind (arith, nat_tests, m) in rw e (omega (arith, m, n), omega (arith, m))
      by false m n = let e : nat_lt p z.cells ≡ true = grind (arith, nat_tests, n) in rw e (omega (arith, n), omega arith)

module _ (z : Sizes) (l : Local) where
  -- the row of a cell of the row at hand
  row_in_hand : Hand l → (c : ℕ) → c < z.cells → row_at z l (place_in_group z l.rebalance c) ≡ l.rebalance.hand
  row_in_hand h c u = by (is_second l.rebalance) refl
    where
      first : Hand l → is_second l.rebalance ≡ false → l.row ≡ l.rebalance.hand
      first (at_first e f) x = sym e
      first (at_second e f) x = let y : true ≡ false = sym (is_this_row l.rebalance.second l.rebalance.hand e) ∙ x in absurd (cc)

      by : (x : Bool) → is_second l.rebalance ≡ x → row_at z l ((if x then z.cells else 0) + c) ≡ l.rebalance.hand
      by true x = let e : nat_lt (z.cells + c) z.cells ≡ false = grind (arith, nat_tests) in rw e (ap row_or_first (row_is l.rebalance.second l.rebalance.hand x))
      by false x = let e : nat_lt (0 + c) z.cells ≡ true = grind (arith, nat_tests, u) in rw e (first h x)

  -- and that of any of its places
  pub row_at_place : Hand l → (p : ℕ) → base z l.rebalance ≤ p → p < place_in_group z l.rebalance z.cells → row_at z l p ≡ l.rebalance.hand
  row_at_place h p u w = let at = place_in_hand z l.rebalance p u w in subst (λ y. row_at z l y ≡ l.rebalance.hand) at.1 (row_in_hand h (cell_at z p) at.0)

  -- so this stands at the place of a cell
  pub source_in_hand : {A : Type 0} → (o : ℕ → ℕ → A) → Hand l → (c : ℕ) → c < z.cells → source z o l (place_in_group z l.rebalance c) ≡ o l.rebalance.hand c
  source_in_hand o h c u = ap (λ q. o q (cell_at z (place_in_group z l.rebalance c))) (row_in_hand h c u) ∙ ap (o l.rebalance.hand) (cell_in_hand z l.rebalance c u)

  -- Any place of the group.

  -- the cell there is one of a row
  pub cell_below : (p : ℕ) → p < places z l.rebalance.second → cell_at z p < z.cells
  cell_below p u = cell_few z p (omega (arith, u, places_few z l.rebalance.second))

  -- where the last row of the group is at hand, each place is one of it, or of the row behind it
  pub hand_or_behind : Hand l → l.rebalance.ahead ≡ None → (p : ℕ) → p < places z l.rebalance.second → (base z l.rebalance ≤ p) × (p < place_in_group z l.rebalance z.cells) ⊎ IsBehind l (row_at z l p) × (cell_at z p ≡ p)
  hand_or_behind (at_first e f) n p u = let k : l.rebalance.second ≡ None = sym f ∙ n in let w : p < places z None = rw k at u in inl (rw k (omega arith, omega (arith, w)))
  hand_or_behind (at_second e f) n p u = by (nat_lt p z.cells) refl
    where
      second : is_second l.rebalance ≡ true
      second = is_this_row l.rebalance.second l.rebalance.hand e

      by : (x : Bool) → nat_lt p z.cells ≡ x → (base z l.rebalance ≤ p) × (p < place_in_group z l.rebalance z.cells) ⊎ IsBehind l (row_at z l p) × (cell_at z p ≡ p)
      by true m = rw m (inr ((e, refl), refl))
      by false m = let w : p < places z (Some l.rebalance.hand) = rw e at u in let o = not_below p z.cells m in inl (rw second (omega (arith, o), omega (arith, w)))
