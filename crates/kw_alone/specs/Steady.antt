-- Where a seat that goes on alone stands once it has come to the beginning of a walk, has replaced
-- a row, or has moved to a row that is in the list: all rows that it names are in the list. From
-- there on each of its events lowers three numbers in their order, up to the end of its call.
use Rattle.std.specs.Prelude.{ℕ, ◌≡◌, ◌⊎◌, ◌<◌, true, List}
use Rattle.kw_rows.specs.Ledger.{Ledger}
use Rattle.kw_rows.specs.States.{HasLeader}
use Rattle.kw_windows.specs.Triples.{Triple}
use Rattle.kw_world.specs.declared.activity.Activity.{Activity}
use Rattle.kw_world.specs.declared.activity.rebalance.Rebalance.TheVariants as Rebalance
use Rattle.kw_world.specs.declared.activity.rebalance.left.Left.TheVariants as Left
use Rattle.kw_world.specs.declared.activity.rebalance.seek.Seek.TheVariants as Seek
use Rattle.kw_world.specs.declared.event.Event.{Event}
use Rattle.kw_world.specs.declared.local.Local.{Local}
use Rattle.kw_world.specs.declared.opening.Opening.{Opening}
use Rattle.kw_world.specs.declared.rebalance.Afterwards.TheVariants.{MoveLeft}
use Rattle.kw_world.specs.Sizes.{Sizes}
use Rattle.kw_world.specs.Step.{word}
use Rattle.kw_world.specs.Transition.{row_or_first}
use Rattle.kw_core.specs.Events.{local_of, world}
use Rattle.kw_core.specs.Run.{history}
use Rattle.kw_core.specs.Words.{Words}
use Rattle.kw_shape.specs.RowsIn.{rows_in}
use Rattle.kw_alone.specs.Alone.{activity_after}
use Rattle.kw_alone.specs.Clean.{IsClean}
use Rattle.kw_alone.specs.Fair.{IsFair, IsStart}
use Rattle.kw_alone.specs.Wins.{begins, triple}

-- the row before its own one leads that, where the seat is about to move there with no walk; and it
-- is left of it where the seat gives its new rows back to move
abbrev pub IsLed : Words → Ledger → Activity → Local → Type 0
IsLed v g (Activity.Rebalance (Rebalance.Left Left.Start)) l = HasLeader (rows_in v) g l.row (row_or_first l.rebalance.before)
IsLed v g (Activity.Rebalance (Rebalance.Seek Seek.GiveBack)) l = l.rebalance.afterwards ≡ MoveLeft → l.rebalance.least < l.lower
IsLed v g _ l = Unit {0}

-- in a call, the beginning of a walk is still to come, or is there, or came before
abbrev pub IsOnWay : Words → Ledger → Activity → Local → Type 0
IsOnWay v g Activity.Idle l = ⊥
IsOnWay v g a l = (begins a ≡ true) ⊎ IsStart a ⊎ IsFair v g a l

-- and all rows that the seat names on its way are in the list
pub record IsSteady (v : Words) (g : Ledger) (a : Activity) (l : Local) : Type 0 where
  pub way : IsOnWay v g a l
  pub clean : IsClean g a l
  pub led : IsLed v g a l

-- after these events the seat s stands so
abbrev pub AreSteady : Sizes → Opening → ℕ → List Event → Type 0
AreSteady z o s es = IsSteady (word z (history z o es).world) (history z o es).ledger.rows (activity_after z o s es) (local_of (world z o es) s)

-- and these are its numbers
abbrev pub triple_after : Sizes → Opening → ℕ → List Event → Triple
triple_after z o s es = triple z o.rows (word z (history z o es).world) (history z o es).ledger.rows (activity_after z o s es) (local_of (world z o es) s)
