-- What follows from the events by which the row after a full one is taken along.
--
-- A row that has given few cells goes along, since both fit into few new rows. Who leads decides so
-- by one exchange of its own row's state, and then claims the other one: its state becomes that of
-- a follower, and its link is marked. Where that row leads a group of its own by then, the full row
-- goes alone.
use Rattle.std.specs.Prelude.{ℕ, Bool, false, nat_le, ◌==◌, ◌||◌, if◌then◌else◌, Option, Some, None}
use Rattle.kw_words.specs.declared.count.Count.{Count}
use Rattle.kw_words.specs.declared.sizes.TheConstants.{MOST_GROUP, TAKE_ALONG}
use Rattle.kw_words.specs.declared.state.State.{State}
use Rattle.kw_words.specs.declared.state.State.TheVariants.{Free, Infant, Normal, Leader, Follower, Retired}
use Rattle.kw_world.specs.declared.activity.Activity.TheVariants as Activity
use Rattle.kw_world.specs.declared.activity.rebalance.Rebalance.TheVariants as Rebalance
use Rattle.kw_world.specs.declared.activity.rebalance.claim.Claim.TheVariants as Claim
use Rattle.kw_world.specs.declared.activity.rebalance.engage.Engage.TheVariants as Engage
use Rattle.kw_world.specs.declared.local.Local.{Local}
use Rattle.kw_world.specs.EngageTransitions.{again, to_group}
use Rattle.kw_world.specs.Transition.{Outcome, to, row_or_first}

-- the row after the full one
abbrev pub row_after : Local → ℕ
row_after l = row_or_first l.rebalance.after

-- a row with this count goes along: it is not frozen, and has given few cells; a put that tidies
-- takes it along however many it has given
abbrev pub goes_along : Option Count → Local → Bool
goes_along (Some c) l = if c.frozen then false else l.tidies || nat_le c.given TAKE_ALONG
goes_along None l = false

-- Claim::Count: how many rows the group is to have
abbrev pub next_counted : Option Count → Local → Outcome
next_counted count l = to (Activity.Rebalance (Rebalance.Engage (Engage.Decide (if goes_along count l then MOST_GROUP else 1)))) l

-- the row goes along, and its link is marked next
abbrev pub to_mark_next : Local → Outcome
to_mark_next l = to (Activity.Rebalance (Rebalance.Claim Claim.MarkLink)) l

-- Claim::Exchange: the exchange was made, or another helper has made it; what a seat has built is
-- made normal first; a row that leads a group of its own leaves the full row alone; and in any
-- other state the full row was replaced
abbrev pub claimed : Option State → Local → Outcome
claimed (Some Free) l = again l
claimed (Some (Infant seat)) l = to (Activity.Rebalance (Rebalance.Claim (Claim.Normal seat))) l
claimed (Some Normal) l = to_mark_next l
claimed (Some (Leader count)) l = to_group l
claimed (Some (Follower leader)) l = if leader == l.row then to_mark_next l else again l
claimed (Some (Retired number)) l = again l
claimed None l = again l

-- the row after the full one goes along, and this row stands after both
abbrev pub with_second : Option ℕ → Local → Local
with_second after l = record l { rebalance = record l.rebalance { second = l.rebalance.after; after = after } }

-- Claim::MarkLink: the link does not change any more
abbrev pub next_marked : Option ℕ → Local → Outcome
next_marked after l = to_group (with_second after l)
