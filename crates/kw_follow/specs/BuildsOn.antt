-- How a rebalance gathers the rows of its group and writes a new one while code leaves most of its
-- local where it was, and which local the pass follows meanwhile.
use Rattle.std.specs.Prelude.{◌≡◌, ◌≢◌, ◌<◌, ◌≤◌, ◌+◌, ℕ, Bool, true, false, List, Option, length, slice_index_or}
use Rattle.kw_words.specs.declared.sizes.TheConstants.{CELLS}
use Rattle.kw_cells.specs.declared.cell.Cell.{Cell}
use Rattle.kw_world.specs.declared.activity.Activity.{Activity}
use Rattle.kw_world.specs.declared.activity.rebalance.Rebalance.TheVariants as Rebalance
use Rattle.kw_world.specs.declared.activity.rebalance.freeze.Freeze.TheVariants as Freeze
use Rattle.kw_world.specs.declared.activity.rebalance.gather.Gather.{Gather}
use Rattle.kw_world.specs.declared.activity.rebalance.replace.Replace.TheVariants as Replace
use Rattle.kw_world.specs.declared.activity.rebalance.seek.Seek.TheVariants as Seek
use Rattle.kw_world.specs.declared.activity.rebalance.write.Write.{Write}
use Rattle.kw_world.specs.declared.local.Local.{Local}
use Rattle.kw_world.specs.declared.rebalance.Rebalancing.{Rebalancing}
use Rattle.kw_world.specs.GroupPlaces.{base, place_in_group}
use Rattle.kw_world.specs.Marks.{unmarked}
use Rattle.kw_world.specs.Sizes.{product}
use Rattle.kw_world.specs.TakeTransitions.{to_left}
use Rattle.kw_world.specs.WriteTransitions.{to_write_cell, to_write_entry}
use Rattle.kw_follow.specs.declared.cursor.Cursor.{Cursor}
use Rattle.kw_follow.specs.declared.row_gathering.Hand.{Hand}
use Rattle.kw_follow.specs.Cursors.{cell_at, with_cursor}

-- it stands where it gathers a row or writes a new one, or is about to seek free rows or the row
-- before the full one
abbrev pub IsBuildingOn : Activity → Type 0
IsBuildingOn (Activity.Rebalance (Rebalance.Gather _)) = Unit {0}
IsBuildingOn (Activity.Rebalance (Rebalance.Write _)) = Unit {0}
IsBuildingOn (Activity.Rebalance (Rebalance.Seek Seek.First)) = Unit {0}
IsBuildingOn (Activity.Rebalance (Rebalance.Replace Replace.Start)) = Unit {0}
IsBuildingOn _ = ⊥

-- the next event asks a seat: for its entry of the row at hand, which is looked at or frozen, for
-- its scan, or for its pass
abbrev pub asks_seat : Activity → Bool
asks_seat (Activity.Rebalance (Rebalance.Freeze (Freeze.Look entry))) = true
asks_seat (Activity.Rebalance (Rebalance.Freeze (Freeze.Entry entry))) = true
asks_seat (Activity.Rebalance (Rebalance.Freeze (Freeze.Scan seat))) = true
asks_seat (Activity.Rebalance (Rebalance.Seek (Seek.Pass seat))) = true
asks_seat _ = false

-- the row of the group at hand, and where the places of its cells begin
pub record IsHand (h : Hand) (b : Rebalancing) : Type 0 where
  pub row : h.row ≡ b.hand
  pub base : h.base ≡ base product b
  pub within : h.base ≤ CELLS

-- the local of a seat that stores this word of a new row next
abbrev pub writing : Write → Local → Local
writing w l = record l { activity = Activity.Rebalance (Rebalance.Write w) }

-- there is a cell behind the one at this place, and each of both is the only one of its key
pub record StandAlone (cells : List Cell) (j : ℕ) : Type 0 where
  pub within : j + 1 < length cells
  pub first : (k : ℕ) (d : Cell) → k + 1 ≡ j → (slice_index_or cells k d).key ≢ (slice_index_or cells j d).key
  pub next : (d : Cell) → (slice_index_or cells (j + 1) d).key ≢ (slice_index_or cells j d).key
  pub last : (d : Cell) → j + 2 < length cells → (slice_index_or cells (j + 2) d).key ≢ (slice_index_or cells (j + 1) d).key

-- the local of a seat that has written the entries of the seats below this one, and all that comes
-- before them
abbrev pub at_entry : ℕ → Local → Local
at_entry i l = (to_write_entry product i l).local

-- the local of a seat that has written the cells below this place, and all that comes before them
abbrev pub at_cell : ℕ → Local → Local
at_cell j l = (to_write_cell product j l).local

-- the local of a seat that does this next as it gathers the row at hand, whose cursor is here
abbrev pub taking_at : Gather → Cursor → Local → Local
taking_at g c l = with_cursor (Activity.Rebalance (Rebalance.Gather g)) c l

-- the cell of the row at hand need not be remembered any more
abbrev pub forgetting_mark : ℕ → Local → Local
forgetting_mark cell l = record l { rebalance = record l.rebalance { marks = unmarked (place_in_group product l.rebalance cell) l.rebalance.marks } }

-- the cell at hand, with this value, and with its place in the group
abbrev pub group_cell : Cursor → Option ℕ → Local → Cell
group_cell c value l = record (cell_at c value) { place = place_in_group product l.rebalance c.place }

-- the local of a seat whose cursor stood at the last link of the row's list, once it has seen that
-- no cell is behind it
abbrev pub past_list : Cursor → Local → Local
past_list c l = (to_left product (taking_at Gather.Link c l)).local

-- the local of a seat that has written each word of the new row that it had at hand
abbrev pub past_row : Local → Local
past_row l = at_cell product.cells l
