-- The rows of the group that a seat rebalances: which of them it has frozen, and that each of them
-- is or was linked.
use Rattle.std.proofs.Common.{ℕ, ◌≡◌, ◌⊎◌, inl, inr, Some, None, arith, sym, ◌∙◌, subst, slice_get}
use Rattle.std.proofs.lemmas.Option.{same_Some}
use Rattle.kw_world.specs.declared.activity.Activity.{Activity}
use Rattle.kw_world.specs.declared.activity.rebalance.freeze.Freeze.TheVariants as Freeze
use Rattle.kw_world.specs.declared.activity.rebalance.Rebalance.TheVariants as Rebalance
use Rattle.kw_world.specs.declared.local.Local.{Local}
use Rattle.kw_world.specs.Sizes.{Sizes}
use Rattle.kw_world.specs.Step.{word}
use Rattle.kw_core.specs.Run.{Run}
use Rattle.kw_rows.specs.Group.{Group}
use Rattle.kw_rows.specs.Ledger.{IsFresh}
use Rattle.kw_rows.specs.Rows.{WasLinked}
use Rattle.kw_rows.proofs.Named.{held_by}
use Rattle.kw_shape.specs.Balances.{led}
use Rattle.kw_shape.specs.Hands.{Hand, at_first, at_second}
use Rattle.kw_shape.specs.RowsIn.{rows_in}
use Rattle.kw_shape.specs.Shape.{Shape}
use Rattle.kw_shape.proofs.Hands.{HasGroup, frozen_group, frozen_of_group, group_balances, group_fresh, second_next, view_led}
use Rattle.kw_shape.proofs.LinkedRows.{fresh_linked}
use Rattle.kw_puts.specs.Freezes.{HasFrozen, IsAllFrozen, IsBehind, IsOfGroup}

-- Which rows are frozen.

-- the group of one who knows the same rows
pub of_group_before : (l k : Local) (q : ℕ) → k.row ≡ l.row → k.rebalance.second ≡ l.rebalance.second → IsOfGroup k q → IsOfGroup l q
of_group_before l k q e f (inl x) = inl (x ∙ e)
of_group_before l k q e f (inr x) = inr (sym f ∙ x)

-- where none is ahead, a row of the group is behind or at hand
pub none_ahead : (l : Local) (q : ℕ) → Hand l → l.rebalance.ahead ≡ None → IsOfGroup l q → IsBehind l q ⊎ (q ≡ l.rebalance.hand)
none_ahead l q (at_first e f) n (inl x) = inr (x ∙ sym e)
none_ahead l q (at_first e f) n (inr x) = let y : None ≡ Some q = sym n ∙ f ∙ x in absurd (cc)
none_ahead l q (at_second e f) n (inl x) = inl (e, x)
none_ahead l q (at_second e f) n (inr x) = inr (same_Some q l.rebalance.hand (sym x ∙ e))

-- where one is, the first one is at hand
pub first_at_hand : (l : Local) (q : ℕ) → Hand l → l.rebalance.ahead ≡ Some q → l.rebalance.hand ≡ l.row
first_at_hand l q (at_first e f) x = e
first_at_hand l q (at_second e f) x = let y : None ≡ Some q = sym f ∙ x in absurd (cc)

-- where all rows are frozen, each is
pub all_frozen : (a : Activity) (l : Local) (q : ℕ) → IsAllFrozen a → IsOfGroup l q → HasFrozen a l q
all_frozen (Activity.Rebalance (Rebalance.Freeze Freeze.Count)) l q x y = absurd x
all_frozen (Activity.Rebalance (Rebalance.Freeze (Freeze.Look i))) l q x y = absurd x
all_frozen (Activity.Rebalance (Rebalance.Freeze (Freeze.Entry i))) l q x y = absurd x
all_frozen _ l q x y = (x, y)

-- The rows in the table.

module _ (z : Sizes) (r : Run) (i : Shape z r) (t : ℕ) (k : Local) (g : slice_get r.world.locals t ≡ Some k) where
  -- what the seat knows of its group
  its_group : HasGroup k.activity → Group (rows_in (word z r.world)) r.ledger.rows (led k.row k.rebalance.second k.rebalance.after)
  its_group x = subst (Group (rows_in (word z r.world)) r.ledger.rows) (view_led k.activity k x) (i.balances t k g).group

  full_fresh : HasGroup k.activity → IsFresh r.ledger.rows t k.row
  full_fresh x = (i.balances t k g).fresh (group_balances k.activity x)

  -- each row of the group is or was linked
  pub group_linked : (q : ℕ) → HasGroup k.activity → IsOfGroup k q → WasLinked r.ledger.rows q
  group_linked q x y = fresh_linked r.ledger.rows t q (group_fresh (rows_in (word z r.world)) r.ledger.rows i.rows.closed t k (full_fresh x) (its_group x) q y)

  pub frozen_linked : (q : ℕ) → HasFrozen k.activity k q → WasLinked r.ledger.rows q
  frozen_linked q x = group_linked q (frozen_group k.activity k q x) (frozen_of_group k.activity k q (i.balances t k g).hands x)

  -- the second one is another row than the first
  pub second_apart : HasGroup k.activity → k.rebalance.second ≡ Some k.row → ⊥
  second_apart x e = omega (arith, i.rows.closed.rises k.row k.row (held_by r.ledger.rows t k.row (full_fresh x)) (second_next (rows_in (word z r.world)) r.ledger.rows k.row k.row k.rebalance.second k.rebalance.after e (its_group x)))
