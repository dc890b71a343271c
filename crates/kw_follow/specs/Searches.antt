-- Where a search for free rows is, and which local it and the local that stays behind it stand for.
use Rattle.std.specs.Prelude.{ℕ, ◌+◌, Bool, true, false, Option, Some}
use Rattle.kw_words.specs.declared.state.State.{State}
use Rattle.kw_words.specs.declared.state.State.TheVariants.{Free, Retired}
use Rattle.kw_world.specs.declared.activity.Activity.TheVariants as Activity
use Rattle.kw_world.specs.declared.activity.rebalance.Rebalance.TheVariants as Rebalance
use Rattle.kw_world.specs.declared.activity.rebalance.seek.Seek.TheVariants as Seek
use Rattle.kw_world.specs.declared.local.Local.{Local}
use Rattle.kw_world.specs.SeekTransitions.{row_behind}
use Rattle.kw_follow.specs.declared.seeking.Search.{Search}

-- the local of a seat whose search has come so far
abbrev pub with_search : Search → Local → Local
with_search x l = record l { rebalance = record l.rebalance { sought = x.sought; asked = x.asked } }

-- the local of a seat whose search has come so far, and asks for the state of the row at hand
abbrev pub seeking_at : Search → Local → Local
seeking_at x l = record (with_search x l) { activity = Activity.Rebalance (Rebalance.Seek Seek.Next) }

-- the search is at the next row, round a table of so many
abbrev pub behind : ℕ → Search → Search
behind rows x = record { sought = row_behind rows x.sought; asked = x.asked + 1 }

-- a row with this state is gone by
abbrev pub is_in_use : Option State → Bool
is_in_use (Some Free) = false
is_in_use (Some (Retired number)) = false
is_in_use _ = true
