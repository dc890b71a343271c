-- What follows from the events that freeze the rows of the group, one after the other, and from
-- those that ask which versions scans may still ask for.
--
-- A frozen row gives no cell, and no put of it gets a version any more: each entry is frozen, or is
-- stamped and remembered. A scan that waits is helped to a version, so that every scan has one that
-- is needed, or begins later than all that the rows hold.
use Rattle.std.specs.Prelude.{ℕ, ◌+◌, Bool, true, false, nat_lt, ◌==◌, if◌then◌else◌, Option, Some, None, [], ◌∷◌, ◌++◌}
use Rattle.kw_words.specs.declared.pend.Pend.{Pend}
use Rattle.kw_words.specs.declared.pend.Pend.TheVariants.{Idle, Pending, Stamped, Frozen}
use Rattle.kw_words.specs.declared.scan.ScanWord.{ScanWord}
use Rattle.kw_words.specs.declared.scan.ScanWord.TheVariants.{Quiet, Waiting, Drawn}
use Rattle.kw_world.specs.declared.activity.Activity.TheVariants as Activity
use Rattle.kw_world.specs.declared.activity.rebalance.freeze.Freeze.TheVariants as Freeze
use Rattle.kw_world.specs.declared.activity.rebalance.Rebalance.TheVariants as Rebalance
use Rattle.kw_world.specs.declared.local.Local.{Local}
use Rattle.kw_world.specs.Sizes.{Sizes}
use Rattle.kw_world.specs.GroupPlaces.{at_last_row, place_in_group}
use Rattle.kw_world.specs.Marks.{mark_of}
use Rattle.kw_world.specs.Transition.{Outcome, to}
use Rattle.kw_world.specs.TakeTransitions.{to_take}

-- Freeze::Count: the entries are looked at
abbrev pub count_frozen : Local → Outcome
count_frozen l = to (Activity.Rebalance (Rebalance.Freeze (Freeze.Look 0))) l

-- no version is needed as yet
abbrev pub to_scans : Local → Outcome
to_scans l = to (Activity.Rebalance (Rebalance.Freeze (Freeze.Scan 0))) (record l { rebalance = record l.rebalance { needed = [] } })

-- the row at hand is frozen: the next row of the group is, and after the last one come the scans
abbrev pub row_frozen : Option ℕ → Local → Outcome
row_frozen (Some r) l = to (Activity.Rebalance (Rebalance.Freeze Freeze.Count)) (at_last_row r l)
row_frozen None l = to_scans l

-- Freeze::Look(i): the entry of seat i; once all entries are frozen, the row is
abbrev pub to_freeze_look : Sizes → ℕ → Local → Outcome
to_freeze_look z i l = if nat_lt i z.seats then to (Activity.Rebalance (Rebalance.Freeze (Freeze.Look i))) l else row_frozen l.rebalance.ahead l

-- the cell of the row at hand is remembered with this version, by its place in the group
abbrev pub marking : Sizes → ℕ → ℕ → Local → Local
marking z cell version l = record l { rebalance = record l.rebalance { marks = l.rebalance.marks ++ mark_of (place_in_group z l.rebalance cell) version ∷ [] } }

-- the entry is about to be frozen
abbrev pub freezing : ℕ → Pend → Local → Outcome
freezing i entry l = to (Activity.Rebalance (Rebalance.Freeze (Freeze.Entry i))) (record l { rebalance = record l.rebalance { entry = entry } })

-- Freeze::Look(i): an idle or a pending entry is frozen, a stamped cell is remembered, and a frozen
-- entry is gone by
abbrev pub freeze_seen : Sizes → ℕ → Option Pend → Local → Outcome
freeze_seen z i (Some Idle) l = freezing i Idle l
freeze_seen z i (Some (Pending cell)) l = freezing i (Pending cell) l
freeze_seen z i (Some (Stamped cell version)) l = to_freeze_look z (i + 1) (marking z cell version l)
freeze_seen z i (Some Frozen) l = to_freeze_look z (i + 1) l
freeze_seen z i None l = to_freeze_look z (i + 1) l

-- Freeze(i): the exchange was made, or the entry is looked at once more
abbrev pub entry_tried : Sizes → ℕ → Bool → Local → Outcome
entry_tried z i true l = to_freeze_look z (i + 1) l
entry_tried z i false l = to (Activity.Rebalance (Rebalance.Freeze (Freeze.Look i))) l

-- Freeze::Pin(i): the pin of seat i; once all pins are looked at, the cells of the rows
abbrev pub to_pin_look : Sizes → ℕ → Local → Outcome
to_pin_look z i l = if nat_lt i z.seats then to (Activity.Rebalance (Rebalance.Freeze (Freeze.Pin i))) l else to_take l

-- Freeze::Scan(i): the scan of seat i; once all scans are looked at, the cells of the rows
abbrev pub to_scan_look : Sizes → ℕ → Local → Outcome
to_scan_look z i l = if nat_lt i z.seats then to (Activity.Rebalance (Rebalance.Freeze (Freeze.Scan i))) l else to_take l

-- the version is needed
abbrev pub needing : ℕ → Local → Local
needing version l = record l { rebalance = record l.rebalance { needed = l.rebalance.needed ++ version ∷ [] } }

-- Freeze::Scan(i): a scan that waits is helped, and the version of one that has drawn is needed
abbrev pub scan_seen : Sizes → ℕ → Option ScanWord → Local → Outcome
scan_seen z i (Some Quiet) l = to_scan_look z (i + 1) l
scan_seen z i (Some (Waiting clock)) l = to (Activity.Rebalance (Rebalance.Freeze (Freeze.Draw i))) (record l { rebalance = record l.rebalance { waiting = clock } })
scan_seen z i (Some (Drawn version)) l = to_scan_look z (i + 1) (needing version l)
scan_seen z i None l = to_scan_look z (i + 1) l

-- Freeze::Settle(i): the version that the exchange gave the scan is needed, or the one that was
-- found
abbrev pub scan_helped : Sizes → ℕ → Option ScanWord → Local → Outcome
scan_helped z i (Some Quiet) l = to_scan_look z (i + 1) l
scan_helped z i (Some (Waiting clock)) l = to_scan_look z (i + 1) (if clock == l.rebalance.waiting then needing l.rebalance.drawn l else l)
scan_helped z i (Some (Drawn version)) l = to_scan_look z (i + 1) (needing version l)
scan_helped z i None l = to_scan_look z (i + 1) l

-- Freeze::Pin(i): the version at which the seat has pinned the map is needed
abbrev pub pin_seen : Sizes → ℕ → Option ScanWord → Local → Outcome
pin_seen z i (Some Quiet) l = to_pin_look z (i + 1) l
pin_seen z i (Some (Waiting clock)) l = to_pin_look z (i + 1) l
pin_seen z i (Some (Drawn version)) l = to_pin_look z (i + 1) (needing version l)
pin_seen z i None l = to_pin_look z (i + 1) l
