-- Which rows a seat names on a walk that began in this window: rows of the list alone, since no row
-- has gone from it in this window. And the walk to the row before a full one began in this window
-- where the build for that row took a row in it.
use Rattle.std.specs.Prelude.{ℕ, ◌≡◌, ◌≤◌, Some, slice_get}
use Rattle.kw_world.specs.declared.activity.Activity.{Activity}
use Rattle.kw_world.specs.declared.activity.rebalance.Rebalance.TheVariants as Rebalance
use Rattle.kw_world.specs.declared.activity.rebalance.left.Left.TheVariants as Left
use Rattle.kw_world.specs.declared.activity.rebalance.replace.Replace.TheVariants as Replace
use Rattle.kw_world.specs.declared.activity.rebalance.seek.Seek.TheVariants as Seek
use Rattle.kw_world.specs.declared.local.Local.{Local}
use Rattle.kw_world.specs.declared.rebalance.Afterwards.{Afterwards}
use Rattle.kw_world.specs.declared.rebalance.Afterwards.TheVariants.{MoveLeft, Refuse, TryAgain}
use Rattle.kw_world.specs.Sizes.{Sizes}
use Rattle.kw_world.specs.Step.{word}
use Rattle.kw_world.specs.WorldView.{WorldView}
use Rattle.kw_core.specs.Stages.{IsAtRow}
use Rattle.kw_shape.specs.ReachedRows.{IsReached}
use Rattle.kw_shape.specs.Search.{HasReachedNext}
use Rattle.kw_reads.specs.Contents.{HasCandidate, HasRow}
use Rattle.kw_counts.specs.Counts.{Counts}

-- what a seat gives rows back for that has sought the row before its full one
abbrev pub HasSought : Afterwards → Type 0
HasSought TryAgain = Unit {0}
HasSought MoveLeft = Unit {0}
HasSought Refuse = ⊥

-- a seat that has built new rows seeks the row before its full one, or has found it, or gives its
-- rows back
abbrev pub IsSeeking : Activity → Local → Type 0
IsSeeking (Activity.Rebalance (Rebalance.Replace Replace.First)) l = Unit {0}
IsSeeking (Activity.Rebalance (Rebalance.Replace Replace.GuessedLeast)) l = Unit {0}
IsSeeking (Activity.Rebalance (Rebalance.Replace Replace.Next)) l = Unit {0}
IsSeeking (Activity.Rebalance (Rebalance.Replace Replace.NextLeast)) l = Unit {0}
IsSeeking (Activity.Rebalance (Rebalance.Replace Replace.Exchange)) l = Unit {0}
IsSeeking (Activity.Rebalance (Rebalance.Seek Seek.GiveBack)) l = HasSought l.rebalance.afterwards
IsSeeking _ l = ⊥

-- it names the row at which that walk is, or has ended, if there is one; or the one at which its
-- walk to the leader of its row is
abbrev pub IsAtBefore : Activity → Local → Type 0
IsAtBefore (Activity.Rebalance (Rebalance.Left Left.Next)) l = Unit {0}
IsAtBefore (Activity.Rebalance (Rebalance.Left Left.NextLeast)) l = Unit {0}
IsAtBefore (Activity.Rebalance (Rebalance.Replace Replace.First)) l = ⊥
IsAtBefore a l = IsSeeking a l

-- a row of a walk: the one at which the walk to the row of its key is, or has ended, the one that
-- it has reached behind that, and the one after it, once the walk has ended; and so on the walk to
-- the row before the full one
pub data IsOnWalk (a : Activity) (l : Local) (q : ℕ) : Type 0 where
  is_at : HasRow a → q ≡ l.row → IsOnWalk a l q
  has_reached : HasCandidate a → q ≡ l.candidate → IsOnWalk a l q
  is_next : IsAtRow a → l.next ≡ Some q → IsOnWalk a l q
  is_before : IsAtBefore a l → l.rebalance.before ≡ Some q → IsOnWalk a l q
  has_reached_before : HasReachedNext a → q ≡ l.candidate → IsOnWalk a l q

-- what every valid list keeps
pub record KeepsWalks (z : Sizes) (w : WorldView) (c : Counts) : Type 0 where
  -- no walk began in a window that is yet to come
  pub upto : (t : ℕ) → c.walks t ≤ c.wins
  -- where it began in this window each row that it names is in the list
  pub rows : (t : ℕ) (l : Local) → slice_get w.locals t ≡ Some l → c.walks t ≡ c.wins → (q : ℕ) → IsOnWalk l.activity l q → IsReached (word z w) q
  -- a build that took a row in this window has its walk in this window
  pub builds : (t : ℕ) (l : Local) → slice_get w.locals t ≡ Some l → IsSeeking l.activity l → (c.builds t).begun ≡ Some c.wins → c.walks t ≡ c.wins
