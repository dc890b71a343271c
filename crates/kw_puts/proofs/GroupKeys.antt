-- The rows of a group by keys and places: each key is of one row of the group, so that cells of one
-- key stand in one row, in the order of their places.
use Rattle.std.proofs.Common.{ℕ, ◌≡◌, ◌≢◌, inl, inr, ◌+◌, ◌-◌, ◌<◌, ◌≤◌, nat_lt, if◌then◌else◌, Bool, true, false, Option, Some, None, arith, refl, sym, ◌∙◌, ap}
use Rattle.std.proofs.lemmas.Bool.Decides.{nat_tests}
use Rattle.std.proofs.lemmas.Option.{same_Some}
use Rattle.kw_rows.specs.Group.{Group}
use Rattle.kw_rows.specs.Ledger.{IsHeld, Ledger}
use Rattle.kw_rows.specs.Rows.{Closed, HoldsKey, Rows}
use Rattle.kw_rows.proofs.Named.{ends_at}
use Rattle.kw_world.specs.declared.local.Local.{Local}
use Rattle.kw_world.specs.GroupPlaces.{cell_at, places, row_at}
use Rattle.kw_world.specs.Sizes.{Sizes}
use Rattle.kw_world.specs.Transition.{row_or_first}
use Rattle.kw_core.proofs.Arrows.{below, not_below}
use Rattle.kw_shape.specs.Balances.{led}
use Rattle.kw_shape.specs.Hands.{IsOfGroup}
use Rattle.kw_shape.proofs.Hands.{second_next}

-- one row of the group holds a key
module _ (w : Rows) (g : Ledger) (c : Closed w g) (l : Local) (held : IsHeld g l.row) (known : Group w g (led l.row l.rebalance.second l.rebalance.after)) where
  -- the first row ends where the second one begins
  first_below : (q k : ℕ) → l.rebalance.second ≡ Some q → HoldsKey w g l.row k → HoldsKey w g q k → ⊥
  first_below q k e x y = omega (arith, x.below (w.least q) (ends_at w g c l.row q held (second_next w g l.row q l.rebalance.second l.rebalance.after e known)), y.from)

  pub same_row : (x y k : ℕ) → IsOfGroup l x → IsOfGroup l y → HoldsKey w g x k → HoldsKey w g y k → x ≡ y
  same_row x y k (inl e) (inl f) a b = e ∙ sym f
  same_row x y k (inl e) (inr f) a b = absurd (first_below y k f (rw e at a) b)
  same_row x y k (inr e) (inl f) a b = absurd (first_below x k e (rw f at b) a)
  same_row x y k (inr e) (inr f) a b = same_Some x y (sym e ∙ f)

module _ (z : Sizes) (l : Local) where
  -- each cell of a row of the group has a place
  pub place_of_cell : (q c : ℕ) → IsOfGroup l q → c < z.cells → (p : ℕ) × (p < places z l.rebalance.second) × (row_at z l p ≡ q) × (cell_at z p ≡ c)
  place_of_cell q c (inl e) u = (c, some l.rebalance.second, rw here (sym e), rw here refl)
    where
      here : nat_lt c z.cells ≡ true
      here = grind (arith, nat_tests, u)

      some : (o : Option ℕ) → c < places z o
      some None = omega (arith, u)
      some (Some d) = omega (arith, u)
  place_of_cell q c (inr e) u = (z.cells + c, rw e (omega (arith, u)), rw there (ap row_or_first e), rw there (omega arith))
    where
      there : nat_lt (z.cells + c) z.cells ≡ false
      there = grind (arith, nat_tests)

  -- of two places of one row the lesser one is that of the lesser cell
  pub cells_rise : l.rebalance.second ≢ Some l.row → (p p' : ℕ) → p < p' → p' < places z l.rebalance.second → row_at z l p ≡ row_at z l p' → cell_at z p < cell_at z p'
  cells_rise d p p' o u e = which (nat_lt p z.cells) (nat_lt p' z.cells) refl refl e
    where
      second : (x : Option ℕ) → l.rebalance.second ≡ x → p' < places z x → z.cells ≤ p' → l.row ≡ row_or_first x → ⊥
      second None f m n y = omega (arith, m, n)
      second (Some b) f m n y = d (f ∙ ap Some (sym y))

      which : (x y : Bool) → nat_lt p z.cells ≡ x → nat_lt p' z.cells ≡ y → (if x then l.row else row_or_first l.rebalance.second) ≡ (if y then l.row else row_or_first l.rebalance.second) → (if x then p else p - z.cells) < (if y then p' else p' - z.cells)
      which true true f m y = o
      which true false f m y = absurd (second l.rebalance.second refl u (not_below p' z.cells m) y)
      which false true f m y = absurd (omega (arith, o, not_below p z.cells f, below p' z.cells m))
      which false false f m y = omega (arith, o, not_below p z.cells f)
