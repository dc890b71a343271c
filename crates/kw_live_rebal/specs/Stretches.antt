-- What has become of the local where a stretch of a rebalance is over.
use Rattle.std.specs.Prelude.{ℕ, ◌≡◌, ◌≤◌, true}
use Rattle.kw_words.specs.State.{state_of}
use Rattle.kw_world.specs.declared.event.Choice.TheVariants.{Go}
use Rattle.kw_world.specs.declared.event.StepDone.{StepDone}
use Rattle.kw_world.specs.declared.local.Local.{Local}
use Rattle.kw_world.specs.Sizes.{product}
use Rattle.kw_world.specs.Step.{next_of}
use Rattle.kw_world.specs.Transition.{outcome}
use Rattle.kw_follow.specs.declared.cursor.Cursor.{Cursor}
use Rattle.kw_follow.specs.declared.seeking.Search.{Search}
use Rattle.kw_follow.specs.BuildsOn.{past_list}
use Rattle.kw_follow.specs.Searches.{is_in_use, seeking_at}

-- it has gone along a list of cells to its end
pub record HasLeftList (m : Local) : Type 0 where
  pub cursor : Cursor
  pub before : Local
  pub left : m ≡ past_list cursor before

-- its search, in a table of so many rows, has stopped at one by the state that it was told of it:
-- at one that is not in use, or at the last one
pub record HasLeftSearch (rows : ℕ) (l m : Local) : Type 0 where
  pub search : Search
  pub told : ℕ
  pub done : StepDone
  pub left : outcome m done ≡ next_of product rows Go (seeking_at search l) told
  pub over : is_in_use (state_of told) ≡ true → rows ≤ search.asked
