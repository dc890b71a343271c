-- What a seat that goes on alone finds on its way to the row before its full one, whatever has
-- become of the full row itself: it goes along rows that are in the list. So where it moves left
-- its new full row is one. Only the leader that a follower's state names it may reach with no walk;
-- that leader follows no row, so from there it moves no further but by a walk.
use Rattle.std.specs.Prelude.{ℕ, ◌≡◌, Some}
use Rattle.kw_rows.specs.Ledger.{Ledger, IsLive}
use Rattle.kw_rows.specs.RowState.{IsTwo}
use Rattle.kw_world.specs.declared.activity.Activity.{Activity}
use Rattle.kw_world.specs.declared.activity.rebalance.Rebalance.TheVariants as Rebalance
use Rattle.kw_world.specs.declared.activity.rebalance.engage.Engage.TheVariants as Engage
use Rattle.kw_world.specs.declared.activity.rebalance.left.Left.TheVariants as Left
use Rattle.kw_world.specs.declared.activity.rebalance.replace.Replace.TheVariants as Replace
use Rattle.kw_world.specs.declared.activity.rebalance.seek.Seek.TheVariants as Seek
use Rattle.kw_world.specs.declared.local.Local.{Local}
use Rattle.kw_world.specs.declared.rebalance.Afterwards.TheVariants.{MoveLeft}
use Rattle.kw_world.specs.Transition.{row_or_first}
use Rattle.kw_core.specs.Words.{Words}
use Rattle.kw_shape.specs.RowsIn.{rows_in}

-- the row at which the walk is, if it is at one, is in the list
abbrev pub IsBeforeLive : Ledger → Local → Type 0
IsBeforeLive g l = (p : ℕ) → l.rebalance.before ≡ Some p → IsLive g p

-- on the walk to the row before, at its end, and where the seat is about to move there; and so is
-- the row that it has reached behind that one
abbrev pub IsClean : Ledger → Activity → Local → Type 0
IsClean g (Activity.Rebalance (Rebalance.Replace Replace.GuessedLeast)) l = IsBeforeLive g l
IsClean g (Activity.Rebalance (Rebalance.Replace Replace.Next)) l = IsBeforeLive g l
IsClean g (Activity.Rebalance (Rebalance.Replace Replace.NextLeast)) l = IsBeforeLive g l × IsLive g l.candidate
IsClean g (Activity.Rebalance (Rebalance.Replace Replace.Exchange)) l = IsBeforeLive g l
IsClean g (Activity.Rebalance (Rebalance.Left Left.Next)) l = IsBeforeLive g l
IsClean g (Activity.Rebalance (Rebalance.Left Left.NextLeast)) l = IsBeforeLive g l × IsLive g l.candidate
IsClean g (Activity.Rebalance (Rebalance.Seek Seek.GiveBack)) l = l.rebalance.afterwards ≡ MoveLeft → IsBeforeLive g l
IsClean g _ l = Unit {0}

-- the seat of a follower knows its leader, which leads two rows or is retired
abbrev pub KnowsLeader : Words → Activity → Local → Type 0
KnowsLeader v (Activity.Rebalance (Rebalance.Left Left.Start)) l = IsTwo ((rows_in v).state (row_or_first l.rebalance.before))
KnowsLeader v _ l = Unit {0}

-- The seat rebalances a row that follows no other one, and so goes left of none; or that rebalance
-- is over, and the next walk has not begun.
abbrev pub FollowsNone : Words → Activity → Local → Type 0
FollowsNone v Activity.Idle l = ⊥
FollowsNone v (Activity.Walk _) l = ⊥
FollowsNone v (Activity.Look _) l = ⊥
FollowsNone v (Activity.Read _) l = ⊥
FollowsNone v (Activity.Put _) l = ⊥
FollowsNone v (Activity.Insert _) l = ⊥
FollowsNone v (Activity.Rebalance (Rebalance.Engage Engage.Clock)) l = IsTwo ((rows_in v).state l.row)
FollowsNone v (Activity.Rebalance (Rebalance.Engage Engage.Epoch)) l = IsTwo ((rows_in v).state l.row)
FollowsNone v (Activity.Rebalance (Rebalance.Engage Engage.State)) l = IsTwo ((rows_in v).state l.row)
FollowsNone v (Activity.Rebalance (Rebalance.Engage (Engage.Normal seat))) l = ⊥
FollowsNone v (Activity.Rebalance (Rebalance.Engage Engage.Lead)) l = ⊥
FollowsNone v (Activity.Rebalance (Rebalance.Left _)) l = ⊥
FollowsNone v _ l = Unit {0}
