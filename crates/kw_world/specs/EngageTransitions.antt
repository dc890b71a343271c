-- What follows from the events by which a rebalance begins: a full row gets a leader, its link is
-- marked, and how many rows the rebalance replaces is decided: the full row alone, or the row after
-- it too. A row that follows another one is left to its leader.
use Rattle.std.specs.Prelude.{ℕ, Bool, true, false, nat_le, ◌==◌, if◌then◌else◌, Option, Some, None, []}
use Rattle.kw_words.specs.declared.sizes.TheConstants.{MOST_GROUP, SPENT}
use Rattle.kw_words.specs.declared.state.State.{State}
use Rattle.kw_words.specs.declared.state.State.TheVariants.{Free, Infant, Normal, Leader, Follower, Retired}
use Rattle.kw_world.specs.declared.answer.Answer.{Answer}
use Rattle.kw_world.specs.declared.activity.Activity.{Activity}
use Rattle.kw_world.specs.declared.answer.Answer.TheVariants.{Done, Spent}
use Rattle.kw_world.specs.declared.activity.rebalance.claim.Claim.TheVariants as Claim
use Rattle.kw_world.specs.declared.activity.rebalance.engage.Engage.TheVariants as Engage
use Rattle.kw_world.specs.declared.activity.rebalance.freeze.Freeze.TheVariants as Freeze
use Rattle.kw_world.specs.declared.activity.rebalance.left.Left.TheVariants as Left
use Rattle.kw_world.specs.declared.activity.rebalance.Rebalance.TheVariants as Rebalance
use Rattle.kw_world.specs.declared.local.Local.{Local}
use Rattle.kw_world.specs.GroupPlaces.{at_first_row}
use Rattle.kw_world.specs.Local.{without_rows, without_rebalance}
use Rattle.kw_world.specs.Transition.{Outcome, to, leave}

-- the rebalance of the seat's row begins, and nothing is known of an earlier one
abbrev pub to_rebalance : Local → Outcome
to_rebalance l = to (Activity.Rebalance (Rebalance.Engage Engage.Clock)) (without_rebalance l)

-- where a rebalance that is over leads: the put tries again; one that was done before leaves
abbrev pub retrying : Local → Activity
retrying l = if l.tidies then (Activity.Leave Done) else Activity.Retry

-- what a put answers that can't rebalance its row; one that was done before is refused nothing
abbrev pub refusal : Answer → Local → Answer
refusal answer l = if l.tidies then Done else answer

-- the rebalance is over: a put that tries again takes its announced epoch back first; every row is
-- forgotten
abbrev pub again : Local → Outcome
again l = to (retrying l) (without_rows (without_rebalance l))

-- the rebalance can't be made: the put is refused with this answer, unless it was done before
abbrev pub refuse : Answer → Local → Outcome
refuse answer l = leave (refusal answer l) (without_rebalance l)

-- Engage::Clock: from a certain clock on no rebalance begins
abbrev pub balance_clock : ℕ → Local → Outcome
balance_clock clock l = if nat_le SPENT clock then refuse Spent l else to (Activity.Rebalance (Rebalance.Engage Engage.Epoch)) l

-- Engage::Epoch: nor from a certain epoch on
abbrev pub balance_epoch : ℕ → Local → Outcome
balance_epoch epoch l = if nat_le SPENT epoch then refuse Spent l else to (Activity.Rebalance (Rebalance.Engage Engage.State)) l

-- the leader that a follower's state names is known
abbrev pub led_by : ℕ → Local → Local
led_by leader l = record l { rebalance = record l.rebalance { before = Some leader } }

-- Engage::State: a normal row is engaged, a leader is helped, a follower is left to its leader, and
-- what its seat has built is made normal first
abbrev pub state_seen : Option State → Local → Outcome
state_seen (Some Free) l = again l
state_seen (Some (Infant seat)) l = to (Activity.Rebalance (Rebalance.Engage (Engage.Normal seat))) l
state_seen (Some Normal) l = to (Activity.Rebalance (Rebalance.Engage Engage.Lead)) l
state_seen (Some (Leader count)) l = to (Activity.Rebalance (Rebalance.Engage (Engage.MarkLink count))) l
state_seen (Some (Follower leader)) l = to (Activity.Rebalance (Rebalance.Left Left.Start)) (led_by leader l)
state_seen (Some (Retired number)) l = again l
state_seen None l = again l

-- Engage: the exchange was made, or the state is asked for once more
abbrev pub engaged : Bool → Local → Outcome
engaged true l = to (Activity.Rebalance (Rebalance.Engage (Engage.MarkLink 0))) l
engaged false l = to (Activity.Rebalance (Rebalance.Engage Engage.State)) l

-- the row after the full one is known
abbrev pub followed_by : Option ℕ → Local → Local
followed_by after l = record l { rebalance = record l.rebalance { after = after } }

-- the rows of the group are known: they are frozen, the first one first, and no cell is remembered
abbrev pub to_group : Local → Outcome
to_group l = to (Activity.Rebalance (Rebalance.Freeze Freeze.Count)) (at_first_row (record l { rebalance = record l.rebalance { marks = [] } }))

-- the row after the full one, if there is one, is to go along
abbrev pub claiming : Option ℕ → Local → Outcome
claiming (Some r) l = to (Activity.Rebalance (Rebalance.Claim Claim.Exchange)) l
claiming None l = to_group l

-- it is decided how many rows the group has
abbrev pub counted : ℕ → Local → Outcome
counted count l = if count == MOST_GROUP then claiming l.rebalance.after l else to_group l

-- it is not decided: a full row that is the last one goes alone, and else the row after it is asked
abbrev pub undecided : Option ℕ → Local → Outcome
undecided (Some r) l = to (Activity.Rebalance (Rebalance.Claim Claim.Count)) l
undecided None l = to (Activity.Rebalance (Rebalance.Engage (Engage.Decide 1))) l

-- Engage::MarkLink: the link does not change any more
abbrev pub link_marked : ℕ → Option ℕ → Local → Outcome
link_marked count after l = if count == 0 then undecided after (followed_by after l) else counted count (followed_by after l)

-- Decide: the exchange was made, or somebody else has decided, whose count holds; in any other
-- state the row is not this seat's any more
abbrev pub decided : ℕ → Option State → Local → Outcome
decided count (Some Free) l = again l
decided count (Some (Infant seat)) l = again l
decided count (Some Normal) l = again l
decided count (Some (Leader found)) l = counted (if found == 0 then count else found) l
decided count (Some (Follower leader)) l = again l
decided count (Some (Retired number)) l = again l
decided count None l = again l
