-- What follows from the events that gather all cells of the group, and which of them go into the
-- new rows.
--
-- As a reader does, a rebalance walks along a row's list, and reads by themselves the stamped cells
-- of the row that it remembers and did not reach. It gathers every key, and each cell with its
-- place in the group.
use Rattle.std.specs.Prelude.{ℕ, ◌*◌, nat_lt, if◌then◌else◌, Option, Some, None, [], length, unwrap_or}
use Rattle.kw_words.specs.declared.sizes.TheConstants.{MOST_GROUP}
use Rattle.kw_cells.specs.declared.cell.Cell.{Cell}
use Rattle.kw_cells.specs.Kept.{kept_of}
use Rattle.kw_cells.specs.Cuts.{starts_of}
use Rattle.kw_cells.specs.InOrder.{with_cell}
use Rattle.kw_world.specs.declared.activity.Activity.TheVariants as Activity
use Rattle.kw_world.specs.declared.activity.rebalance.gather.Gather.TheVariants as Gather
use Rattle.kw_world.specs.declared.activity.rebalance.Rebalance.TheVariants as Rebalance
use Rattle.kw_world.specs.declared.activity.rebalance.seek.Seek.TheVariants as Seek
use Rattle.kw_world.specs.declared.local.Local.{Local}
use Rattle.kw_world.specs.declared.marks.Mark.{Mark}
use Rattle.kw_world.specs.Sizes.{Sizes}
use Rattle.kw_world.specs.GroupPlaces.{at_first_row, at_last_row, cell_at, place_in_group}
use Rattle.kw_world.specs.Marks.{unmarked, least_mark}
use Rattle.kw_world.specs.ListTransitions.{at_first, one_more, past_cell}
use Rattle.kw_world.specs.ReadTransitions.{cell_in_hand}
use Rattle.kw_world.specs.Transition.{Outcome, to}

-- the walk begins at the first link of the row at hand
abbrev pub to_list : Local → Outcome
to_list l = to (Activity.Rebalance (Rebalance.Gather Gather.Link)) (at_first l)

-- the first row of the group is gathered first, and no cell is as yet
abbrev pub to_take : Local → Outcome
to_take l = to_list (at_first_row (record l { rebalance = record l.rebalance { gathered = [] } }))

-- which cells the new rows get, and where each row starts among them; no row is taken as yet, and
-- row 0 is asked first
abbrev pub planned : Sizes → Local → Local
planned z l = record l {
  rebalance = record l.rebalance {
    kept = kept_of l.rebalance.gathered l.rebalance.needed;
    starts = starts_of z.built (kept_of l.rebalance.gathered l.rebalance.needed);
    taken = [];
    at = 0;
    sought = 0;
    asked = 1;
  };
}

-- the row at hand is gathered: the next row of the group is, and after the last one all cells are
-- gathered: the plan is made, and the search for new rows begins
abbrev pub row_gathered : Sizes → Option ℕ → Local → Outcome
row_gathered z (Some r) l = to_list (at_last_row r l)
row_gathered z None l = to (Activity.Rebalance (Rebalance.Seek Seek.First)) (planned z l)

-- the cell at this place was not reached: it is read, and remembered no more
abbrev pub leaving_over : Sizes → Mark → Local → Local
leaving_over z m l = record l { place = cell_at z m.cell; place_version = m.version; rebalance = record l.rebalance { marks = unmarked m.cell l.rebalance.marks } }

-- a remembered cell of the least place is read, if it is one of the row at hand or of one before;
-- where none such is left, the row is gathered
abbrev pub left_of : Sizes → Option Mark → Local → Outcome
left_of z (Some m) l = if nat_lt m.cell (place_in_group z l.rebalance z.cells) then to (Activity.Rebalance (Rebalance.Gather Gather.LeftOverKey)) (leaving_over z m l) else row_gathered z l.rebalance.ahead l
left_of z None l = row_gathered z l.rebalance.ahead l

-- the remembered cells of the row at hand that were not reached are left
abbrev pub to_left : Sizes → Local → Outcome
to_left z l = left_of z (least_mark l.rebalance.marks) l

-- the cell of the row at hand was reached behind its link: it need not be remembered any more
abbrev pub taking : Sizes → ℕ → Local → Local
taking z cell l = record l { place = cell; walked = one_more z l.walked; rebalance = record l.rebalance { marks = unmarked (place_in_group z l.rebalance cell) l.rebalance.marks } }

-- Gather::Link: the link leads to a cell, which is reached, or the list is at its end
abbrev pub take_reached : Sizes → Option ℕ → Local → Outcome
take_reached z (Some cell) l = to (Activity.Rebalance (Rebalance.Gather Gather.Key)) (taking z cell l)
take_reached z None l = to_left z l

-- Gather::Version: a cell without a version, of which no list has one, counts as one of version 1
abbrev pub take_version : Option ℕ → Local → Outcome
take_version version l = to (Activity.Rebalance (Rebalance.Gather Gather.Value)) (record l { place_version = unwrap_or version 1 })

-- the cell of the row at hand that was read, with its value, and with its place in the group
abbrev pub cell_of_group : Sizes → Option ℕ → Local → Cell
cell_of_group z value l = record (cell_in_hand value l) { place = place_in_group z l.rebalance l.place }

-- the cell is gathered: put among those that were, in the order of a list. A group has no more
-- cells than are gathered
abbrev pub keeping : Sizes → Option ℕ → Local → Local
keeping z value l = record l {
  rebalance = record l.rebalance {
    gathered = if nat_lt (length l.rebalance.gathered) (MOST_GROUP * z.cells) then with_cell (cell_of_group z value l) l.rebalance.gathered else l.rebalance.gathered;
  };
}

-- the walk goes on past the cell that it reached
abbrev pub take_past : Local → Outcome
take_past l = to (Activity.Rebalance (Rebalance.Gather Gather.Link)) (past_cell l)
