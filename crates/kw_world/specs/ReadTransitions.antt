-- What follows from the events of a get or a scan that reads a row.
use Rattle.std.specs.Prelude.{ℕ, ◌+◌, nat_lt, nat_le, ◌==◌, if◌then◌else◌, Option, Some, None, [], ◌∷◌, ◌++◌, true, length, unwrap_or}
use Rattle.kw_words.specs.Plain.{key_of_word, cell_of_link_word}
use Rattle.kw_words.specs.declared.pend.Pend.{Pend}
use Rattle.kw_words.specs.declared.pend.Pend.TheVariants.{Idle, Pending, Stamped, Frozen}
use Rattle.kw_cells.specs.declared.cell.Cell.{Cell}
use Rattle.kw_cells.specs.Cells.{shown_at, pairs_of}
use Rattle.kw_cells.specs.InOrder.{with_cell}
use Rattle.kw_model.specs.declared.call.Call.{Call}
use Rattle.kw_model.specs.declared.call.Call.TheVariants.{Put, Del, Get, Scan, Pin, ScanAt, Unpin}
use Rattle.kw_world.specs.declared.answer.Answer.TheVariants.{Pairs}
use Rattle.kw_world.specs.Answers.{answer_found}
use Rattle.kw_world.specs.declared.activity.Activity.TheVariants as Activity
use Rattle.kw_world.specs.declared.activity.look.Look.TheVariants as Look
use Rattle.kw_world.specs.declared.activity.read.Read.TheVariants as Read
use Rattle.kw_world.specs.declared.activity.walk.Walk.TheVariants as Walk
use Rattle.kw_world.specs.declared.local.Local.{Local}
use Rattle.kw_world.specs.declared.marks.Mark.{Mark}
use Rattle.kw_world.specs.declared.limits.TheConstants.{NEWEST}
use Rattle.kw_world.specs.Sizes.{Sizes}
use Rattle.kw_world.specs.Calls.{first_key, last_key, is_in_range}
use Rattle.kw_world.specs.Marks.{mark_of, unmarked, least_mark}
use Rattle.kw_world.specs.Transition.{Outcome, to, leave}
use Rattle.kw_world.specs.ListTransitions.{behind_cell, one_more, past_cell}

-- Look(i): the entry of seat i; once all entries are looked at, the row's list, at whose first link
-- a reader stands since it came to the row
abbrev pub to_look : Sizes → ℕ → Local → Outcome
to_look z i l = if nat_lt i z.seats then to (Activity.Look (Look.Entry i)) l else to (Activity.Read Read.Start) l

-- the cell is remembered with this version
abbrev pub remembering : ℕ → ℕ → Local → Local
remembering cell version l = record l { remembered = l.remembered ++ mark_of cell version ∷ [] }

-- Look(i): a pending cell is helped if its key is in range, a stamped cell is remembered, every
-- other entry is gone by
abbrev pub look_seen : Sizes → ℕ → Option Pend → Local → Outcome
look_seen z i (Some Idle) l = to_look z (i + 1) l
look_seen z i (Some (Pending cell)) l = to (Activity.Look Look.Key) (record l { looked = i; saw = cell })
look_seen z i (Some (Stamped cell version)) l = to_look z (i + 1) (remembering cell version l)
look_seen z i (Some Frozen) l = to_look z (i + 1) l
look_seen z i None l = to_look z (i + 1) l

-- Look::Help: the cell is remembered with the version that the exchange gave it, or with the one
-- that was found
abbrev pub help_seen : Sizes → Option Pend → Local → Outcome
help_seen z (Some Idle) l = to_look z (l.looked + 1) l
help_seen z (Some (Pending cell)) l = to_look z (l.looked + 1) (if cell == l.saw then remembering cell l.helping l else l)
help_seen z (Some (Stamped cell version)) l = to_look z (l.looked + 1) (remembering cell version l)
help_seen z (Some Frozen) l = to_look z (l.looked + 1) l
help_seen z None l = to_look z (l.looked + 1) l

-- the end of a row's cells, for a get: what the best cell for the greatest version shows is the
-- answer
abbrev pub get_answered : ℕ → Local → Outcome
get_answered key l = leave (answer_found (shown_at l.gathered NEWEST key)) l

-- a scan has all its pairs, and is about to say that it is over
abbrev pub scan_ended : Local → Outcome
scan_ended l = to (Activity.EndScan Pairs) l

-- a scan goes on with the next row, unless there is none or its keys are all above the range
abbrev pub scan_on : Option ℕ → ℕ → Local → Outcome
scan_on None upto l = scan_ended l
scan_on (Some r) upto l =
    if nat_lt upto l.upper then scan_ended l
    else to (Activity.Walk Walk.Next) (record l { row = r; lower = l.upper; built = 0; want = l.upper; next = None; upper = 0 })

-- the pairs of the row come after those of the rows before it: each key that is still wanted and
-- shows a value at the scan's version, by rising key. No cell of the row has a key of the range
-- below the wanted one
abbrev pub with_pairs : ℕ → Local → Local
with_pairs upto l = record l { pairs = l.pairs ++ pairs_of l.gathered l.want upto l.version; has_read = true }

-- the end of a row's cells, for a scan
abbrev pub row_scanned : ℕ → Local → Outcome
row_scanned upto l = scan_on l.next upto (with_pairs upto l)

-- the end of a row's cells has no event
abbrev pub row_read : Option Call → Local → Outcome
row_read (Some (Put key value)) l = get_answered key l
row_read (Some (Del key)) l = get_answered key l
row_read (Some (Get key)) l = get_answered key l
row_read (Some (Scan from upto)) l = row_scanned upto l
row_read (Some Pin) l = get_answered 0 l
row_read (Some (ScanAt from upto)) l = get_answered from l
row_read (Some Unpin) l = get_answered 0 l
row_read None l = get_answered 0 l

-- Left over: a remembered cell of the least place is read, and remembered no more; where none is
-- left, the row is read
abbrev pub left_over_of : Option Mark → Local → Outcome
left_over_of (Some m) l = to (Activity.Read Read.LeftOverKey) (record l { place = m.cell; place_version = m.version; remembered = unmarked m.cell l.remembered })
left_over_of None l = row_read l.call l

-- the remembered cells that were not reached are left
abbrev pub to_left_over : Local → Outcome
to_left_over l = left_over_of (least_mark l.remembered) l

-- the reader has reached this cell behind its link: it need not be remembered any more
abbrev pub reaching : Sizes → ℕ → Local → Local
reaching z cell l = record l { place = cell; walked = one_more z l.walked; remembered = unmarked cell l.remembered }

-- Read::Link: the link leads to a cell, which is reached, or the list is at its end
abbrev pub list_reached : Sizes → Option ℕ → Local → Outcome
list_reached z (Some cell) l = to (Activity.Read Read.Key) (reaching z cell l)
list_reached z None l = to_left_over l

-- Read::Start with a guess: behind a cell below the range the walk begins, and else at the row's
-- first link
abbrev pub list_guessed : ℕ → ℕ → Local → Outcome
list_guessed cell key l = if nat_lt key (first_key l.call) then to (Activity.Read Read.Link) (behind_cell cell l) else to (Activity.Read Read.Link) l

-- Read::Start: without a guess all is as at Read::Link
abbrev pub list_started : Sizes → Local → Option ℕ → ℕ → Outcome
list_started z l (Some cell) w = list_guessed cell (key_of_word w) l
list_started z l None w = list_reached z (cell_of_link_word w) l

-- the cell that was reached is gone by
abbrev pub list_past : Local → Outcome
list_past l = to (Activity.Read Read.Link) (past_cell l)

-- Read::Key: a cell below the range is gone by, one of the range is read on, and at one above it
-- the walk is over
abbrev pub list_key : ℕ → Local → Outcome
list_key key l =
    if nat_lt key (first_key l.call) then list_past l
    else if nat_le key (last_key l.call) then to (Activity.Read Read.Version) (record l { place_key = key })
    else to_left_over l

-- Read::Version: a cell without a version, of which no list has one, counts as one of version 1
abbrev pub list_version : Option ℕ → Local → Outcome
list_version version l = to (Activity.Read Read.Value) (record l { place_version = unwrap_or version 1 })

-- the cell that was read, with its value
abbrev pub cell_in_hand : Option ℕ → Local → Cell
cell_in_hand value l = record { key = l.place_key; version = l.place_version; place = l.place; value = value }

-- it is gathered: put among those that were, in the order of the list. A row has no more cells than
-- are gathered
abbrev pub gathering : Sizes → Option ℕ → Local → Local
gathering z value l = record l { gathered = if nat_lt (length l.gathered) z.cells then with_cell (cell_in_hand value l) l.gathered else l.gathered }

-- Read::LeftOverKey: a remembered cell is read on if its key is in the range
abbrev pub left_over_key : ℕ → Local → Outcome
left_over_key key l = if is_in_range l.call key then to (Activity.Read Read.LeftOverValue) (record l { place_key = key }) else to_left_over l
