-- What a seat knows that has replaced its group, until it has retired the rows of it.
use Rattle.std.specs.Prelude.{ℕ, ◌≡◌, ◌<◌, Some, length, slice_get}
use Rattle.kw_rows.specs.Ledger.{Ledger, IsDead, IsFresh}
use Rattle.kw_rows.specs.States.{IsNumbered}
use Rattle.kw_world.specs.declared.activity.Activity.{Activity}
use Rattle.kw_world.specs.declared.activity.rebalance.Rebalance.TheVariants as Rebalance
use Rattle.kw_world.specs.declared.activity.rebalance.replace.Replace.TheVariants as Replace
use Rattle.kw_world.specs.declared.local.Local.{Local}
use Rattle.kw_shape.specs.Hands.{IsToRetire}

abbrev pub IsNormalising : Activity → Type 0
IsNormalising (Activity.Rebalance (Rebalance.Replace Replace.Normalise)) = Unit {0}
IsNormalising _ = ⊥

abbrev pub IsRetiring : Activity → Type 0
IsRetiring (Activity.Rebalance (Rebalance.Replace Replace.Retire)) = Unit {0}
IsRetiring _ = ⊥

abbrev pub HasWon : Activity → Type 0
HasWon (Activity.Rebalance (Rebalance.Replace Replace.Normalise)) = Unit {0}
HasWon (Activity.Rebalance (Rebalance.Replace Replace.Number)) = Unit {0}
HasWon (Activity.Rebalance (Rebalance.Replace Replace.Retire)) = Unit {0}
HasWon _ = ⊥

pub record Won (g : Ledger) (t : ℕ) (a : Activity) (l : Local) : Type 0 where
  pub hand : IsNormalising a → l.rebalance.at < length l.rebalance.taken
  pub fresh : IsNormalising a → (i q : ℕ) → slice_get l.rebalance.taken i ≡ Some q → IsFresh g t q
  pub dead : (q : ℕ) → IsToRetire a l q → IsDead g q
  pub owner : (q : ℕ) → IsToRetire a l q → (g.fates q).owner ≡ t
  pub number : IsRetiring a → IsNumbered g l.rebalance.hand l.rebalance.number
