-- What the events that write a new row store, and what follows from them.
--
-- The kept cells are cut at the starts, and each taken row gets one part, with its cells by rising
-- key and version. They are linked in the order of a row's list: by rising key, then by falling
-- version. So the first link leads to the last cell of the least key; behind a cell stands the one
-- before it, if that has the same key, and else the last cell of the next key.
use Rattle.std.specs.Prelude.{ℕ, ◌+◌, ◌-◌, Bool, false, nat_lt, nat_le, ◌&&◌, ◌==◌, if◌then◌else◌, Option, Some, None, List, [], ◌∷◌, length, take, drop, slice_get, slice_index, count_by}
use Rattle.kw_words.specs.declared.count.Count.{Count}
use Rattle.kw_words.specs.declared.link.Link.{Link}
use Rattle.kw_cells.specs.declared.cell.Cell.{Cell}
use Rattle.kw_cells.specs.Cuts.{end_of}
use Rattle.kw_world.specs.declared.activity.Activity.TheVariants as Activity
use Rattle.kw_world.specs.declared.activity.rebalance.Rebalance.TheVariants as Rebalance
use Rattle.kw_world.specs.declared.activity.rebalance.replace.Replace.TheVariants as Replace
use Rattle.kw_world.specs.declared.activity.rebalance.write.Write.TheVariants as Write
use Rattle.kw_world.specs.declared.local.Local.{Local}
use Rattle.kw_world.specs.declared.rebalance.Rebalancing.{Rebalancing}
use Rattle.kw_world.specs.Sizes.{Sizes}
use Rattle.kw_world.specs.SeekTransitions.{at_infant, has_more}
use Rattle.kw_world.specs.Transition.{Outcome, to}

-- the cells of the new row of this number: the kept ones from its start on, up to the next one
abbrev pub new_row_cells : Rebalancing → ℕ → List Cell
new_row_cells b n = take (end_of b.kept b.starts n - slice_index b.starts n) (drop (slice_index b.starts n) b.kept)

-- the cells of the new row at hand
abbrev pub infant_cells : Local → List Cell
infant_cells l = new_row_cells l.rebalance l.rebalance.at

-- it has given as many cells, and is not frozen
abbrev pub infant_count : Local → Count
infant_count l = record { given = length (infant_cells l); frozen = false }

-- the key of the first cell
abbrev pub first_cell_key : List Cell → ℕ
first_cell_key [] = 0
first_cell_key (c ∷ cells) = c.key

-- its least key is that of the full row for the first new one, and that of its first cell for every
-- other
abbrev pub infant_least : Local → ℕ
infant_least l = if l.rebalance.at == 0 then l.lower else first_cell_key (infant_cells l)

-- the row, if there is one, or else the other
abbrev pub row_or : Option ℕ → Option ℕ → Option ℕ
row_or (Some r) other = Some r
row_or None other = other

-- an unmarked link to this row, or to none
abbrev pub unmarked_link : Option ℕ → Link
unmarked_link r = record { row = r; marked = false }

-- after it stands the next new row, and after the last one the row that stood after the group
abbrev pub infant_link : Local → Link
infant_link l = unmarked_link (row_or (slice_get l.rebalance.taken (l.rebalance.at + 1)) l.rebalance.after)

-- the last place of a key's cells
abbrev pub last_of_key : List Cell → ℕ → ℕ
last_of_key cells key = count_by (λ c. nat_le c.key key) cells - 1

-- the last place of the key of this cell, if there is a cell
abbrev pub last_with : List Cell → Option Cell → Option ℕ
last_with cells (Some c) = Some (last_of_key cells c.key)
last_with cells None = None

-- the first cell of the list
abbrev pub first_listed : List Cell → Option ℕ
first_listed cells = last_with cells (slice_get cells 0)

-- the cell is of this key
abbrev pub has_key : ℕ → Option Cell → Bool
has_key key (Some c) = c.key == key
has_key key None = false

-- the cell that stands behind one of this key, which is at this place
abbrev pub listed_behind : List Cell → ℕ → Option Cell → Option ℕ
listed_behind cells j (Some c) =
    if nat_lt 0 j && has_key c.key (slice_get cells (j - 1)) then Some (j - 1)
    else last_with cells (slice_get cells (count_by (λ d. nat_le d.key c.key) cells))
listed_behind cells j None = None

-- the cell that stands behind that at a place
abbrev pub listed_after : List Cell → ℕ → Option ℕ
listed_after cells j = listed_behind cells j (slice_get cells j)

-- the key of a cell, and 0 where there is none
abbrev pub key_in : Option Cell → ℕ
key_in (Some c) = c.key
key_in None = 0

-- the version of a cell
abbrev pub version_in : Option Cell → Option ℕ
version_in (Some c) = Some c.version
version_in None = None

-- the next new row is written, until all are
abbrev pub row_written : Local → Outcome
row_written l = if has_more l then to (Activity.Rebalance (Rebalance.Write Write.Count)) (at_infant (l.rebalance.at + 1) l) else to (Activity.Rebalance (Rebalance.Replace Replace.Start)) l

-- what is written at this place: a cell, its key first, and of a place without one its version
-- alone, by which nothing stands there. The link after it stays as it was in an earlier use of the
-- row: no walk comes to it before a put has stored there the link after its own cell
abbrev pub to_write_cell : Sizes → ℕ → Local → Outcome
to_write_cell z j l =
    if nat_lt j z.cells then (if nat_lt j (length (infant_cells l)) then to (Activity.Rebalance (Rebalance.Write (Write.Key j))) l else to (Activity.Rebalance (Rebalance.Write (Write.Version j))) l)
    else row_written l

-- the link after this cell is written, where the row has a cell here, and else the next place
abbrev pub to_write_after : Sizes → ℕ → Local → Outcome
to_write_after z j l = if nat_lt j (length (infant_cells l)) then to (Activity.Rebalance (Rebalance.Write (Write.After j))) l else to_write_cell z (j + 1) l

-- this entry is written, and after all entries the cells
abbrev pub to_write_entry : Sizes → ℕ → Local → Outcome
to_write_entry z i l = if nat_lt i z.seats then to (Activity.Rebalance (Rebalance.Write (Write.Entry i))) l else to_write_cell z 0 l
