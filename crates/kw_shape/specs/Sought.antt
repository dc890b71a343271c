-- What a seat knows of the retired row that it asks for, until it tries to take it: the number of
-- the row was drawn, and each visit that it has looked at and that is on began after that. So once
-- it has looked at all, no visit is on in which the row may be named, unless the row was used again
-- meanwhile; and then it went in the seat's own visit, or has another state, and the exchange is
-- lost.
--
-- A number is drawn after the rows that get it went, and visits are compared by where they began,
-- not by their epochs: a seat that enters after the look, with whatever epoch, begins its visit
-- after the number was drawn.
use Rattle.std.specs.Prelude.{ℕ, ◌≡◌, ◌⊎◌, ◌<◌, Some}
use Rattle.kw_rows.specs.Ledger.{Ledger, IsDead, WasHeld}
use Rattle.kw_rows.specs.RowState.{Retired}
use Rattle.kw_world.specs.declared.activity.Activity.{Activity}
use Rattle.kw_world.specs.declared.activity.rebalance.Rebalance.TheVariants as Rebalance
use Rattle.kw_world.specs.declared.activity.rebalance.seek.Seek.TheVariants as Seek
use Rattle.kw_world.specs.declared.local.Local.{Local}
use Rattle.kw_world.specs.Sizes.{Sizes}
use Rattle.kw_core.specs.Words.{Words}
use Rattle.kw_shape.specs.RowsIn.{rows_in}

-- it found the row retired, and looks at the visits, or has looked at all
abbrev pub IsAsking : Activity → Type 0
IsAsking (Activity.Rebalance (Rebalance.Seek (Seek.Pass i))) = Unit {0}
IsAsking (Activity.Rebalance (Rebalance.Seek Seek.Reclaim)) = Unit {0}
IsAsking _ = ⊥

-- it has looked at the visit of seat j
abbrev pub HasLooked : Activity → ℕ → Type 0
HasLooked (Activity.Rebalance (Rebalance.Seek (Seek.Pass i))) j = j < i
HasLooked (Activity.Rebalance (Rebalance.Seek Seek.Reclaim)) j = Unit {0}
HasLooked _ j = ⊥

-- it is about to take the row, which it found free, or has freed, or has tried to free
abbrev pub IsTaking : Activity → Type 0
IsTaking (Activity.Rebalance (Rebalance.Seek Seek.Take)) = Unit {0}
IsTaking _ = ⊥

pub record Sought (z : Sizes) (v : Words) (g : Ledger) (t : ℕ) (a : Activity) (l : Local) : Type 0 where
  pub drawn : IsAsking a → (at : ℕ) × (g.numbered l.rebalance.number ≡ Some at)
  pub young : (j since at : ℕ) → j < z.seats → HasLooked a j → g.visits j ≡ Some since → g.numbered l.rebalance.number ≡ Some at → at < since
  -- the row, if it is dead, is retired with the number, or went in the visit of the seat
  pub asked : IsAsking a → IsDead g l.rebalance.sought → ((rows_in v).state l.rebalance.sought ≡ Retired l.rebalance.number) ⊎ WasHeld g t l.rebalance.sought
  pub taken : IsTaking a → IsDead g l.rebalance.sought → WasHeld g t l.rebalance.sought
