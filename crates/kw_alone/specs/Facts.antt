-- What is known of a seat and of its event, of all that the invariant says, so that its rest falls.
use Rattle.std.specs.Prelude.{ℕ, ◌≡◌, ◌<◌, ◌≤◌, Some, length}
use Rattle.kw_words.specs.declared.sizes.TheConstants.{MOST_CELLS}
use Rattle.kw_words.specs.Plain.{cell_of_link_word}
use Rattle.kw_world.specs.declared.activity.Activity.{Activity}
use Rattle.kw_world.specs.declared.activity.insert.Insert.TheVariants as Insert
use Rattle.kw_world.specs.declared.activity.rebalance.Rebalance.TheVariants as Rebalance
use Rattle.kw_world.specs.declared.activity.rebalance.gather.Gather.TheVariants as Gather
use Rattle.kw_world.specs.declared.activity.rebalance.left.Left.TheVariants as Left
use Rattle.kw_world.specs.declared.activity.rebalance.replace.Replace.TheVariants as Replace
use Rattle.kw_world.specs.declared.activity.rebalance.seek.Seek.TheVariants as Seek
use Rattle.kw_world.specs.declared.activity.rebalance.write.Write.TheVariants as Write
use Rattle.kw_world.specs.declared.activity.walk.Walk.TheVariants as Walk
use Rattle.kw_world.specs.declared.local.Local.{Local}
use Rattle.kw_world.specs.ListTransitions.{link_name}
use Rattle.kw_world.specs.Sane.{IsActivity}
use Rattle.kw_world.specs.Sizes.{Sizes}
use Rattle.kw_core.specs.Stages.{IsAtInsertLink, IsAtReadLink, IsAtRow}
use Rattle.kw_core.specs.Words.{Words, least_in}
use Rattle.kw_alone.specs.Rest.{up, gathered_places}

-- the seat's event leaves the least keys of all rows: it is none that writes one
abbrev pub LeavesLeast : Activity → Type 0
LeavesLeast (Activity.Rebalance (Rebalance.Write Write.Least)) = ⊥
LeavesLeast _ = Unit {0}

-- the seat goes through the rows that it took, one by one
abbrev pub IsAtTaken : Activity → Type 0
IsAtTaken (Activity.Rebalance (Rebalance.Seek Seek.GiveBack)) = Unit {0}
IsAtTaken (Activity.Rebalance (Rebalance.Replace Replace.Normalise)) = Unit {0}
IsAtTaken _ = ⊥

-- the seat is at a row that may stand before the full one, or before a follower
abbrev pub IsBeforeNext : Activity → Type 0
IsBeforeNext (Activity.Rebalance (Rebalance.Replace Replace.NextLeast)) = Unit {0}
IsBeforeNext (Activity.Rebalance (Rebalance.Left Left.NextLeast)) = Unit {0}
IsBeforeNext _ = ⊥

-- the seat's event reads the value of a cell of its group, and with that the cell is gathered
abbrev pub IsGatheringCell : Activity → Type 0
IsGatheringCell (Activity.Rebalance (Rebalance.Gather Gather.Value)) = Unit {0}
IsGatheringCell (Activity.Rebalance (Rebalance.Gather Gather.LeftOverValue)) = Unit {0}
IsGatheringCell _ = ⊥

-- this row stands after the seat's own one, whose range ends with the least key of that row
pub record IsRightOf (rows : ℕ) (v : Words) (l : Local) (r : ℕ) : Type 0 where
  pub row : r < rows
  pub least : l.upper ≡ least_in v r
  pub above : l.lower < l.upper

-- what is known of a seat that knows l at the activity a and next after its event, over the words v
-- before it and v' after it
pub record Facts (z : Sizes) (rows : ℕ) (v v' : Words) (a : Activity) (l next : Local) : Type 0 where
  -- a seat or a cell that the activity names is one of the map's or the row's, and so is the entry
  -- that a reader looks at
  pub range : IsActivity z a
  pub looked : l.looked < z.seats
  -- no more cells are remembered than there are entries
  pub remembered : length next.remembered ≤ z.seats
  -- a walk along a list has not reached all cells, where its link leads to one more
  pub reads_on : IsAtReadLink a → (c : ℕ) → cell_of_link_word (v (link_name l.row l.link)) ≡ Some c → l.walked < z.cells
  pub walked : IsAtInsertLink a → l.walked < z.cells
  -- the word of a put's link is one of a link
  pub links : IsAtInsertLink a → v (link_name l.row l.link) ≤ MOST_CELLS
  -- the link at which a put stands is not that after its own cell
  pub apart : a ≡ Activity.Insert Insert.Set → v' (link_name l.row l.link) ≡ v (link_name l.row l.link)
  -- the least keys stay
  pub ups : LeavesLeast a → (b : ℕ) → up v' rows b ≡ up v rows b
  -- walks go to rows of the table, with greater least keys
  pub candidate : l.candidate < rows
  pub climbs : a ≡ Activity.Walk Walk.NextLeast → l.lower < least_in v l.candidate
  pub climbs_before : IsBeforeNext a → l.rebalance.least < least_in v l.candidate
  pub right : IsAtRow a → (r : ℕ) → l.next ≡ Some r → IsRightOf rows v l r
  -- no cell of the group is gathered twice
  pub gathers : IsGatheringCell a → gathered_places z l.rebalance.gathered < gathered_places z next.rebalance.gathered
  -- no more rows are asked for than there are, and one of the rows that were taken is at hand
  pub asked : next.rebalance.asked ≤ rows
  pub taken : IsAtTaken a → l.rebalance.at < length l.rebalance.taken
