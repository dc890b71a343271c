-- How a rebalance ends, and what it saw that is the cause of it.
--
-- What is seen is said over an opening, a seat and two lists of events, as single events are
-- (`SawIn`), so that it can be carried to other passes' lists.
use Rattle.std.specs.Prelude.{◌≡◌, ◌≢◌, ◌⊎◌, ℕ, ◌≤◌, false, List, Option, Some, None}
use Rattle.kw_words.specs.declared.sizes.TheConstants.{SPENT}
use Rattle.kw_words.specs.declared.state.State.{State}
use Rattle.kw_words.specs.declared.state.State.TheVariants.{Retired}
use Rattle.kw_words.specs.Link.{link_of}
use Rattle.kw_words.specs.Plain.{key_of_word}
use Rattle.kw_words.specs.State.{state_of}
use Rattle.kw_world.specs.declared.answer.Answer.TheVariants as answer
use Rattle.kw_world.specs.declared.activity.Activity.{Activity}
use Rattle.kw_world.specs.declared.activity.rebalance.claim.Claim.TheVariants as Claim
use Rattle.kw_world.specs.declared.activity.rebalance.engage.Engage.TheVariants as Engage
use Rattle.kw_world.specs.declared.activity.rebalance.left.Left.TheVariants as Left
use Rattle.kw_world.specs.declared.activity.rebalance.Rebalance.TheVariants as Rebalance
use Rattle.kw_world.specs.declared.activity.rebalance.replace.Replace.TheVariants as Replace
use Rattle.kw_world.specs.declared.event.Choice.{Choice}
use Rattle.kw_world.specs.declared.event.Event.{Event}
use Rattle.kw_world.specs.declared.local.Local.{Local}
use Rattle.kw_world.specs.declared.opening.Opening.{Opening}
use Rattle.kw_world.specs.Sizes.{product}
use Rattle.kw_world.specs.Step.{word}
use Rattle.kw_world.specs.Transition.{row_linked}
use Rattle.kw_core.specs.Events.{local_of, world}
use Rattle.kw_shape.specs.ReachedRows.{IsReached}
use Rattle.kw_shape.specs.RowsIn.{has_mark}
use Rattle.kw_laws.specs.Causes.{AskedAll}
use Rattle.kw_table.specs.declared.pass.Pass.{Pass}
use Rattle.kw_table.specs.Passes.{view}
use Rattle.kw_follow.specs.Calling.{now_in}
use Rattle.kw_follow.specs.OwnEvents.{Saw, SawIn}
use Rattle.kw_live_rebal.specs.declared.rebalancing.Rebalanced.{Rebalanced}
use Rattle.kw_live_rebal.specs.declared.rebalancing.Rebalanced.TheVariants.{Done, Again, NoRows, Spent}

-- where the call stands after a rebalance that ended so
abbrev pub stands_after : Rebalanced → Activity
stands_after Done = Activity.Retry
stands_after Again = Activity.Retry
stands_after NoRows = Activity.Leave answer.NoRows
stands_after Spent = Activity.Leave answer.Spent

-- the pass found the clock or the epoch at its bound
pub record SawSpent (p q : Pass) : Type 0 where
  pub activity : Activity
  pub at : (activity ≡ Activity.Rebalance (Rebalance.Engage Engage.Clock)) ⊎ (activity ≡ Activity.Rebalance (Rebalance.Engage Engage.Epoch))
  pub choice : Choice
  pub told : ℕ
  pub saw : Saw p q activity choice told
  pub spent : SPENT ≤ told

-- the seat linked new rows in place of a group: its exchange saw a link that led to the full row
-- and was not marked
pub record WonIn (o : Opening) (n : ℕ) (old new : List Event) : Type 0 where
  pub choice : Choice
  pub told : ℕ
  pub saw : SawIn o n old new (Activity.Rebalance (Rebalance.Replace Replace.Exchange)) choice told
  pub leads : row_linked (link_of told) ≡ Some (local_of (world product o saw.front) n).row
  pub unmarked : has_mark (link_of told) ≡ false

abbrev pub SawWon : Pass → Pass → Type 0
SawWon p q = WonIn (view p).opening (view p).number (view p).seen (view q).seen

-- the state is that of a retired row
abbrev pub IsRetired : Option State → Type 0
IsRetired (Some (Retired number)) = Unit {0}
IsRetired _ = ⊥

-- what an event of a seat that knew this was told says that its row was replaced by somebody else:
-- its state, or that of the row which was to go along, is that of a retired row; the list of rows
-- ended before the row, or went on behind it; or the link led to another row by the time that it
-- was exchanged
abbrev pub TellsReplaced : Activity → ℕ → Local → Type 0
TellsReplaced (Activity.Rebalance (Rebalance.Engage Engage.State)) told l = IsRetired (state_of told)
TellsReplaced (Activity.Rebalance (Rebalance.Engage (Engage.Decide count))) told l = IsRetired (state_of told)
TellsReplaced (Activity.Rebalance (Rebalance.Claim Claim.Exchange)) told l = IsRetired (state_of told)
TellsReplaced (Activity.Rebalance (Rebalance.Left Left.Next)) told l = row_linked (link_of told) ≡ None
TellsReplaced (Activity.Rebalance (Rebalance.Left Left.NextLeast)) told l = l.lower ≤ key_of_word told
TellsReplaced (Activity.Rebalance (Rebalance.Replace Replace.Next)) told l = row_linked (link_of told) ≡ None
TellsReplaced (Activity.Rebalance (Rebalance.Replace Replace.NextLeast)) told l = l.lower ≤ key_of_word told
TellsReplaced (Activity.Rebalance (Rebalance.Replace Replace.Exchange)) told l = row_linked (link_of told) ≢ Some l.row
TellsReplaced _ told l = ⊥

-- the walk to the row before the full one, or to the leader of a follower, ends at this activity
abbrev pub IsWalkEnd : Activity → Type 0
IsWalkEnd (Activity.Rebalance (Rebalance.Left Left.Next)) = Unit {0}
IsWalkEnd (Activity.Rebalance (Rebalance.Left Left.NextLeast)) = Unit {0}
IsWalkEnd (Activity.Rebalance (Rebalance.Replace Replace.Next)) = Unit {0}
IsWalkEnd (Activity.Rebalance (Rebalance.Replace Replace.NextLeast)) = Unit {0}
IsWalkEnd _ = ⊥

-- the seat found its row replaced; where a walk ended so, the row was in the list no more, as one
-- who follows the links sees it
pub record ReplacedIn (o : Opening) (n : ℕ) (old new : List Event) : Type 0 where
  pub activity : Activity
  pub choice : Choice
  pub told : ℕ
  pub saw : SawIn o n old new activity choice told
  pub replaced : TellsReplaced activity told (local_of (world product o saw.front) n)
  pub unlinked : IsWalkEnd activity → IsReached (word product (world product o saw.front)) (local_of (world product o saw.front) n).row → ⊥

abbrev pub SawReplaced : Pass → Pass → Type 0
SawReplaced p q = ReplacedIn (view p).opening (view p).number (view p).seen (view q).seen

-- the pass began a search since that asked for each row of the table, its last one, and took fewer
-- rows than it needed
pub record SawNoRows (p q : Pass) : Type 0 where
  pub first : ℕ
  pub asked : AskedAll product (view q).opening (view q).seen (view q).number (view q).opening.rows first (now_in q)
  pub since : now_in p ≤ asked.begun

-- the cause of how a rebalance ended
abbrev pub HasEnded : Pass → Pass → Rebalanced → Type 0
HasEnded p q Done = SawWon p q
HasEnded p q Again = SawReplaced p q
HasEnded p q NoRows = SawNoRows p q
HasEnded p q Spent = SawSpent p q
