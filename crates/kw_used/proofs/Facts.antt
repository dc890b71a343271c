-- What is known of the seats where an event is read as one of the laws of windows.
use Rattle.std.proofs.Common.{ℕ, ◌≡◌, ◌⊎◌, ◌≤◌, None, Some, slice_get, length}
use Rattle.kw_rows.specs.Ledger.{IsDead, IsLive, Ledger}
use Rattle.kw_rows.specs.RowState as row
use Rattle.kw_world.specs.declared.activity.Activity.{Activity}
use Rattle.kw_world.specs.declared.activity.rebalance.Rebalance.TheVariants as Rebalance
use Rattle.kw_world.specs.declared.activity.rebalance.left.Left.TheVariants as Left
use Rattle.kw_world.specs.declared.activity.rebalance.seek.Seek.TheVariants as Seek
use Rattle.kw_world.specs.declared.local.Local.{Local}
use Rattle.kw_world.specs.declared.rebalance.Afterwards.{Afterwards}
use Rattle.kw_world.specs.declared.rebalance.Afterwards.TheVariants.{MoveLeft, Refuse, TryAgain}
use Rattle.kw_world.specs.Sizes.{Sizes}
use Rattle.kw_world.specs.Step.{word}
use Rattle.kw_core.specs.Run.{Run}
use Rattle.kw_core.proofs.Building.{IsBuilding}
use Rattle.kw_shape.specs.RowsIn.{rows_in}
use Rattle.kw_reads.specs.Contents.{HasRow}
use Rattle.kw_reads.specs.Inv.{Inv}
use Rattle.kw_laws.proofs.BeforeRows.{EndsBefore, GoesByFull}
use Rattle.kw_counts.specs.Counts.{Counts}
use Rattle.kw_counts.specs.Links.{KeepsLinks}
use Rattle.kw_counts.specs.Walks.{KeepsWalks}
use Rattle.kw_used.specs.Seats.{in_window}

-- the seat gives its new rows back to move left
abbrev pub IsMoveLeft : Afterwards → Type 0
IsMoveLeft MoveLeft = Unit {0}
IsMoveLeft TryAgain = ⊥
IsMoveLeft Refuse = ⊥

abbrev pub IsMoving : Activity → Local → Type 0
IsMoving (Activity.Rebalance (Rebalance.Seek Seek.GiveBack)) l = IsMoveLeft l.rebalance.afterwards
IsMoving _ l = ⊥

-- the seat walks to the leader of its row
abbrev pub IsWalkingLeft : Activity → Type 0
IsWalkingLeft (Activity.Rebalance (Rebalance.Left Left.Next)) = Unit {0}
IsWalkingLeft (Activity.Rebalance (Rebalance.Left Left.NextLeast)) = Unit {0}
IsWalkingLeft _ = ⊥

-- it names this row there
pub data NamesLeft (a : Activity) (l : Local) (q : ℕ) : Type 0 where
  is_at : l.rebalance.before ≡ Some q → NamesLeft a l q
  has_reached : a ≡ Activity.Rebalance (Rebalance.Left Left.NextLeast) → l.candidate ≡ q → NamesLeft a l q

-- the row is in the list, or went after the row p had come to it
abbrev pub IsSince : Ledger → ℕ → ℕ → Type 0
IsSince g p q = IsLive g q ⊎ IsDead g q × ((g.fates p).born ≤ (g.fates q).gone)

-- a seat that goes left from a row of the list was told its leader, and names no row but such as
-- were in the list with that one
pub record GoesLeft (z : Sizes) (r : Run) : Type 0 where
  pub told : (t : ℕ) (l : Local) → slice_get r.world.locals t ≡ Some l → l.activity ≡ Activity.Rebalance (Rebalance.Left Left.Start) → IsLive r.ledger.rows l.row → (p : ℕ) → (rows_in (word z r.world)).state l.row ≡ row.Follower p → l.rebalance.before ≡ Some p
  pub names : (t : ℕ) (l : Local) → slice_get r.world.locals t ≡ Some l → IsWalkingLeft l.activity → IsLive r.ledger.rows l.row → (p : ℕ) → (rows_in (word z r.world)).state l.row ≡ row.Follower p → (q : ℕ) → NamesLeft l.activity l q → IsSince r.ledger.rows p q

-- what is known of the builds
pub record Known (z : Sizes) (r : Run) (c : Counts) : Type 0 where
  -- a seat that has built for a row that had gone, in this window, is on a walk of this window
  pub walks : (t : ℕ) (l : Local) → slice_get r.world.locals t ≡ Some l → HasRow l.activity → 1 ≤ in_window c.wins (c.builds t) (c.builds t).deads → c.walks t ≡ c.wins
  -- one that moves left, and whose build took a row in this window, has its row in the list
  pub moves : (t : ℕ) (l : Local) → slice_get r.world.locals t ≡ Some l → IsMoving l.activity l → (c.builds t).begun ≡ Some c.wins → IsLive r.ledger.rows l.row
  -- one whose build has taken no row has none
  pub none : (t : ℕ) (l : Local) → slice_get r.world.locals t ≡ Some l → IsBuilding l.activity → (c.builds t).begun ≡ None → length l.rebalance.taken ≡ 0
  -- no window is one that is yet to come
  pub window : (t : ℕ) → (c.builds t).window ≤ c.wins
  pub begun : (t n : ℕ) → (c.builds t).begun ≡ Some n → n ≤ c.wins
  -- before the first exchange that replaced a row none has gone
  pub gone : (q : ℕ) → IsDead r.ledger.rows q → 1 ≤ c.wins

-- all of it, with what the layers below have proved
pub record Facts (z : Sizes) (r : Run) (c : Counts) : Type 0 where
  pub inv : Inv z r
  pub walked : KeepsWalks z r.world c
  pub links : KeepsLinks z r.world
  pub ends : EndsBefore z r
  pub passes : GoesByFull z r
  pub known : Known z r c
  pub left : GoesLeft z r
