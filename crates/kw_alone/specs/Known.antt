-- What a seat knows beyond the invariant, after every valid list of events: how many rows it has
-- taken for its rebalance, that its walk to the row before goes up, and that the leader of a
-- follower is no follower.
use Rattle.std.specs.Prelude.{ℕ, ◌≡◌, ◌<◌, ◌≤◌, Some, length, slice_get}
use Rattle.kw_rows.specs.Ledger.{Ledger, IsHeld}
use Rattle.kw_rows.specs.Rows.{Rows}
use Rattle.kw_rows.specs.RowState.{Follower, IsTwo}
use Rattle.kw_world.specs.declared.activity.Activity.{Activity}
use Rattle.kw_world.specs.declared.activity.rebalance.Rebalance.TheVariants as Rebalance
use Rattle.kw_world.specs.declared.activity.rebalance.replace.Replace.TheVariants as Replace
use Rattle.kw_world.specs.declared.activity.rebalance.seek.Seek.TheVariants as Seek
use Rattle.kw_world.specs.declared.local.Local.{Local}
use Rattle.kw_world.specs.Sane.{IsTakingRows}
use Rattle.kw_world.specs.Sizes.{Sizes}
use Rattle.kw_world.specs.Step.{word}
use Rattle.kw_core.specs.Run.{Run}
use Rattle.kw_core.specs.Words.{least_in}
use Rattle.kw_shape.specs.RowsIn.{rows_in}
use Rattle.kw_alone.specs.Facts.{IsBeforeNext}

-- the seat has taken a row at least: it writes new rows, links them in, makes them normal, or gives
-- them back
abbrev pub IsWithRows : Activity → Type 0
IsWithRows (Activity.Rebalance (Rebalance.Write _)) = Unit {0}
IsWithRows (Activity.Rebalance (Rebalance.Replace Replace.Number)) = ⊥
IsWithRows (Activity.Rebalance (Rebalance.Replace Replace.Retire)) = ⊥
IsWithRows (Activity.Rebalance (Rebalance.Replace _)) = Unit {0}
IsWithRows (Activity.Rebalance (Rebalance.Seek Seek.GiveBack)) = Unit {0}
IsWithRows _ = ⊥

-- of each row that a seat has taken it asked before: so it has taken no more rows than it asked
-- for, and fewer as long as it asks for one more
pub record Taken (a : Activity) (l : Local) : Type 0 where
  pub most : length l.rebalance.taken ≤ l.rebalance.asked
  pub fewer : IsTakingRows a → length l.rebalance.taken < l.rebalance.asked
  pub some : IsWithRows a → 1 ≤ length l.rebalance.taken

-- a row that some seat may name and that follows another one follows a leader of two, or one that
-- is retired
abbrev pub HaveLeaders : Rows → Ledger → Type 0
HaveLeaders w g = (x p : ℕ) → IsHeld g x → w.state x ≡ Follower p → IsTwo (w.state p)

-- what every seat of a run knows so. A row that it has reached on its walk to the one before has a
-- greater least key than the row behind which it stands
pub record AreKnown (z : Sizes) (r : Run) : Type 0 where
  pub taken : (t : ℕ) (l : Local) → slice_get r.world.locals t ≡ Some l → Taken l.activity l
  pub climbs : (t : ℕ) (l : Local) → slice_get r.world.locals t ≡ Some l → IsBeforeNext l.activity → l.rebalance.least < least_in (word z r.world) l.candidate
  pub leaders : HaveLeaders (rows_in (word z r.world)) r.ledger.rows
