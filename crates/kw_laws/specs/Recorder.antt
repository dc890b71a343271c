-- The record that is kept along with a world, and what one event adds to it.
use Rattle.std.specs.Prelude.{ℕ, ◌≡◌, ◌+◌, ◌-◌, ◌*◌, ◌<◌, ◌≤◌, Option, Some, None, List, length, set, get_or, replicate}
use Rattle.kw_world.specs.declared.activity.Activity.{Activity}
use Rattle.kw_world.specs.declared.local.Local.{Local}
use Rattle.kw_world.specs.Sizes.{Sizes}
use Rattle.kw_core.specs.declared.history.Change.{Change}
use Rattle.kw_core.specs.declared.history.Change.TheVariants.{Adds}
use Rattle.kw_core.specs.Noted.{IsWithin, nothing_yet}
use Rattle.kw_core.specs.Appended.{settled}
use Rattle.kw_core.specs.declared.seat_log.SeatLog.{SeatLog}
use Rattle.kw_core.specs.declared.change.Settled.{Settled}
use Rattle.kw_core.specs.declared.change.Copied.{Copied}
use Rattle.kw_core.specs.Run.{Run, change_of, settled_scan, copied_cell, no_log}
use Rattle.kw_core.specs.Recording.{Recording, origin_in}
pub use Rattle.kw_core.specs.Happenings.{happening_at, logged_of}
use Rattle.kw_core.specs.Remarks.{remark_of, remarked, HasRoomFor}
use Rattle.kw_core.specs.declared.change.Happening.{Happening}
use Rattle.kw_laws.specs.declared.recorder.Entry.{Entry}

-- the log of a seat
abbrev pub log_of : Recording → ℕ → SeatLog
log_of k s = get_or k.logs s no_log

-- where the version in the word of a seat's scan was drawn
abbrev pub draw_of : Recording → ℕ → ℕ
draw_of k s = get_or k.settled s 0

-- the recorder holds what the run has: the history, the log of each of its seats, where the
-- versions in the words of scans were drawn, and the origins of the cells of its rows
pub record Records (z : Sizes) (k : Recording) (r : Run) : Type 0 where
  pub history : k.history ≡ r.history
  pub seats : length k.logs ≡ length r.world.locals
  pub scans : length k.settled ≡ z.seats
  pub cells : length k.origins ≡ r.world.rows * z.cells
  pub logs : (s : ℕ) → s < length r.world.locals → log_of k s ≡ r.seats s
  pub settled : (s : ℕ) → s < z.seats → draw_of k s ≡ r.settled s
  pub origins : (q c : ℕ) → q < r.world.rows → c < z.cells → origin_in z k.origins q c ≡ r.origin q c

-- the record of no events, of a world with so many rows and seats
abbrev pub opening_record : Sizes → ℕ → ℕ → Recording
opening_record z rows seats = record { history = nothing_yet; logs = replicate seats no_log; settled = replicate z.seats 0; origins = replicate (rows * z.cells) None }

-- what it adds
abbrev pub entry_of : Sizes → Recording → Local → Happening → Entry
entry_of z k l x = record {
  seat = x.seat;
  change = change_of z l.activity x.seat x.choice l x.found (log_of k x.seat) (origin_in z k.origins);
  remark = remark_of z l.activity x.choice l x.found (origin_in z k.origins) k.history (draw_of k x.seat);
  scan = settled_scan l.activity x.seat l x.found (log_of k x.seat);
  copy = copied_cell z l.activity l (origin_in z k.origins);
}

-- the origins with the cell that was given to an attempt
abbrev pub origins_with : Sizes → Change → ℕ → List (Option ℕ) → List (Option ℕ)
origins_with z (Adds call seat key value row cell) p origins = set origins (row * z.cells + cell) (Some p)
origins_with z _ p origins = origins

-- the origins with that of a cell that is written
abbrev pub copies_with : Sizes → Option Copied → List (Option ℕ) → List (Option ℕ)
copies_with z (Some x) origins = set origins (x.row * z.cells + x.cell) x.attempt
copies_with z None origins = origins

-- where the versions of scans were drawn, with that of one that is settled
abbrev pub draws_with : Option Settled → List ℕ → List ℕ
draws_with (Some x) draws = set draws x.seat x.at
draws_with None draws = draws

-- the record with what the event adds whose entry this is, and that was appended to the history;
-- its seat goes on to `next`
abbrev pub settled_by : Sizes → Recording → Entry → Activity → Recording
settled_by z k entry next = record {
  history = settled (length k.history.log - 1) k.history entry.change;
  logs = set k.logs entry.seat (remarked entry.remark next (log_of k entry.seat));
  settled = draws_with entry.scan k.settled;
  origins = copies_with z entry.copy (origins_with z entry.change (length k.history.attempts - 1) k.origins);
}

-- a cell that is given is one of the table's, and its attempt is there
abbrev pub IsInTable : Sizes → Recording → Change → Type 0
IsInTable z k (Adds call seat key value row cell) = (row * z.cells + cell < length k.origins) × (1 ≤ length k.history.attempts)
IsInTable z k _ = Unit {0}

-- a cell that is written is one of so many
abbrev pub IsCopyIn : Sizes → ℕ → Option Copied → Type 0
IsCopyIn z cells (Some x) = x.row * z.cells + x.cell < cells
IsCopyIn z cells None = Unit {0}

-- a scan that is settled is that of a seat
abbrev pub IsScanBelow : ℕ → Option Settled → Type 0
IsScanBelow seats (Some x) = x.seat < seats
IsScanBelow seats None = Unit {0}

-- all that the entry names is there
pub record CanSettle (z : Sizes) (k : Recording) (entry : Entry) : Type 0 where
  pub some : 1 ≤ length k.history.log
  pub within : IsWithin k.history entry.change
  pub seat : entry.seat < length k.logs
  pub room : HasRoomFor z.cells entry.remark (log_of k entry.seat)
  pub scan : IsScanBelow (length k.settled) entry.scan
  pub origin : IsInTable z k entry.change
  pub copy : IsCopyIn z (length k.origins) entry.copy
