-- What led to a world: the world, the record of its history, and what the laws alone need beside
-- them, by one fold over the events.
--
-- Beside the record stands, for each seat, what it did last and where the version in its scan's
-- word was drawn, for each cell, to which attempt it was given, the ledger of rows, and which cells
-- are listed. The fold goes by the activity of the acting seat: `change_of` says what its event
-- adds to the record, `seat_after` what it adds to the seat's own log, `origins_after` to which
-- attempt a cell is given, `ledger_after` what becomes of the ledger, and `listed_after` which
-- cells are listed.
use Rattle.std.specs.Prelude.{ℕ, ◌+◌, ◌==◌, Bool, true, false, ◌&&◌, if◌then◌else◌, Option, Some, None, unwrap_or, List, [], ◌∷◌, length, insert, slice_get}
use Rattle.kw_words.specs.declared.layout.Name.TheVariants.{Clock}
use Rattle.kw_words.specs.declared.kind.Kind.{Kind}
use Rattle.kw_words.specs.declared.pend.Pend.{Pend}
use Rattle.kw_words.specs.declared.pend.Pend.TheVariants as pend
use Rattle.kw_words.specs.Pend.{pend_word}
use Rattle.kw_words.specs.declared.scan.ScanWord.TheVariants.{Waiting}
use Rattle.kw_words.specs.Scan.{scan_word}
use Rattle.kw_words.specs.Count.{count_of}
use Rattle.kw_words.specs.Plain.{value_of_word}
use Rattle.kw_cells.specs.declared.cell.Cell as kw_cell
use Rattle.kw_cells.specs.Cells.{best_of}
use Rattle.kw_cells.specs.InOrder.{index_in}
use Rattle.kw_model.specs.declared.call.Call.{Call}
use Rattle.kw_model.specs.declared.call.Call.TheVariants.{Put, Del, Get, Scan, Pin, ScanAt, Unpin}
use Rattle.kw_world.specs.declared.answer.Answer.{Answer}
use Rattle.kw_world.specs.declared.answer.Answer.TheVariants.{Done, Value, Absent, Pairs, NoRows, Spent, Stopped, Held, NotPinned}
use Rattle.kw_world.specs.Answers.{reply_of}
use Rattle.kw_world.specs.declared.activity.Activity.{Activity}
use Rattle.kw_world.specs.declared.activity.draw.Draw.TheVariants as Draw
use Rattle.kw_world.specs.declared.activity.rebalance.engage.Engage.TheVariants as Engage
use Rattle.kw_world.specs.declared.activity.rebalance.freeze.Freeze.TheVariants as Freeze
use Rattle.kw_world.specs.declared.activity.look.Look.TheVariants as Look
use Rattle.kw_world.specs.declared.activity.put.Put.TheVariants as Put
use Rattle.kw_world.specs.declared.activity.read.Read.TheVariants as Read
use Rattle.kw_world.specs.declared.activity.rebalance.Rebalance.TheVariants as Rebalance
use Rattle.kw_world.specs.declared.activity.rebalance.write.Write.TheVariants as Write
use Rattle.kw_world.specs.declared.local.Local.{Local}
use Rattle.kw_world.specs.declared.limits.TheConstants.{NEWEST}
use Rattle.kw_world.specs.declared.event.Choice.{Choice}
use Rattle.kw_world.specs.declared.event.Choice.TheVariants.{Begin, Go, Guess, Stop}
use Rattle.kw_world.specs.declared.event.Event.{Event}
use Rattle.kw_world.specs.declared.opening.Opening.{Opening}
use Rattle.kw_world.specs.Sizes.{Sizes}
use Rattle.kw_world.specs.WorldView.{WorldView}
use Rattle.kw_world.specs.Calls.{first_key, put_value}
use Rattle.kw_world.specs.Opening.{opened}
use Rattle.kw_world.specs.GroupPlaces.{source}
use Rattle.kw_world.specs.PutTransitions.{has_room, given_of}
use Rattle.kw_world.specs.ReadTransitions.{cell_in_hand}
use Rattle.kw_world.specs.SeekTransitions.{infant}
use Rattle.kw_world.specs.WalkTransitions.{offered}
use Rattle.kw_world.specs.WriteTransitions.{infant_cells}
use Rattle.kw_world.specs.Step.{word, transition_at, moved_of, followed, is_skipped}
-- a scan that an event settles, and where its version was drawn
pub use Rattle.kw_core.specs.declared.change.Settled.{Settled}
-- a cell that an event writes, and the attempt for which it stands
pub use Rattle.kw_core.specs.declared.change.Copied.{Copied}
-- what a seat did last
pub use Rattle.kw_core.specs.declared.seat_log.SeatLog.{SeatLog}
use Rattle.kw_core.specs.History.{History, Logged, Drawn}
use Rattle.kw_core.specs.Noted.{Change, Nothing, Begins, Adds, Announces, Loses, Stamps, Ends, noted, nothing_yet}
use Rattle.kw_core.specs.Ledger.{Ledger, ledger_after, ledger_at_first}
use Rattle.kw_core.specs.Listed.{Listed, listed_after, none_listed}

-- to which attempt each cell of each row was given
abbrev pub Origins : Type 0
Origins = ℕ → ℕ → Option ℕ

-- all that led to a world
pub record Run : Type 0 where
  pub world : WorldView
  pub history : History
  pub seats : ℕ → SeatLog
  -- of each seat, the position of the draw whose version stands in the word of its scan, where one
  -- does
  pub settled : ℕ → ℕ
  pub origin : Origins
  pub ledger : Ledger
  pub listed : Listed

-- the logs with that of one seat set
abbrev pub with_seat : (ℕ → SeatLog) → ℕ → SeatLog → (ℕ → SeatLog)
with_seat seats s g t = if t == s then g else seats t

-- the origins with that of one cell set
abbrev pub with_origin : Origins → ℕ → ℕ → ℕ → Origins
with_origin o r c p x y = if (x == r) && (y == c) then Some p else o x y

-- the origins where this cell stands for the attempt, or for none
abbrev pub with_copy : Origins → ℕ → ℕ → Option ℕ → Origins
with_copy o r c p x y = if (x == r) && (y == c) then p else o x y

-- The attempt beside a cell.

-- the attempt beside the first cell of this place
abbrev pub id_at : ℕ → List kw_cell.Cell → List ℕ → Option ℕ
id_at place [] ids = None
id_at place (c ∷ cells) [] = None
id_at place (c ∷ cells) (p ∷ ids) = if c.place == place then Some p else id_at place cells ids

-- the attempt beside a cell, or none
abbrev pub id_of : Option kw_cell.Cell → List kw_cell.Cell → List ℕ → Option ℕ
id_of (Some c) cells ids = id_at c.place cells ids
id_of None cells ids = None

-- the attempt beside the best cell of a key at a version, or none
abbrev pub best_id : List kw_cell.Cell → List ℕ → ℕ → ℕ → Option ℕ
best_id cells ids key version = id_of (best_of cells key version) cells ids

-- What an event adds to the record.

-- a call begins
abbrev pub beginning : Choice → ℕ → Local → Change
beginning (Begin call) s l = Begins s (l.number + 1) call
beginning Go s l = Nothing
beginning (Guess r) s l = Nothing
beginning Stop s l = Nothing

-- the attempt to which the cell was given is stamped
abbrev pub helping : Option ℕ → ℕ → ℕ → Change
helping (Some p) version load = Stamps p version load
helping None version load = Nothing

-- the attempt to which the cell was given is lost
abbrev pub losing : Option ℕ → Change
losing (Some p) = Loses p
losing None = Nothing

-- a pending entry of the row is frozen: the attempt of its cell gets no version any more. Any other
-- entry has no attempt to lose
abbrev pub freezing : Pend → ℕ → Origins → Change
freezing pend.Idle row o = Nothing
freezing (pend.Pending cell) row o = losing (o row cell)
freezing (pend.Stamped cell version) row o = Nothing
freezing pend.Frozen row o = Nothing

-- the attempt whose value a get answers
abbrev pub answering : Option Call → Local → SeatLog → Option ℕ
answering (Some (Put key value)) l g = None
answering (Some (Del key)) l g = None
answering (Some (Get key)) l g = best_id l.gathered g.ids key NEWEST
answering (Some (Scan from upto)) l g = None
answering (Some Pin) l g = None
answering (Some (ScanAt from upto)) l g = None
answering (Some Unpin) l g = None
answering None l g = None

-- where a scan that ends with pairs drew its version
abbrev pub drawing : Answer → Local → SeatLog → Option Drawn
drawing Pairs l g = Some (record { at = g.drawn; version = l.version })
drawing Done l g = None
drawing (Value value) l g = None
drawing Absent l g = None
drawing NoRows l g = None
drawing Spent l g = None
drawing Stopped l g = None
drawing Held l g = None
drawing NotPinned l g = None

-- what the event of an activity adds, where the seat s with this choice, local and log found this
-- word
abbrev pub change_of : Sizes → Activity → ℕ → Choice → Local → ℕ → SeatLog → Origins → Change
change_of z Activity.Idle s choice l found g o = beginning choice s l
change_of z (Activity.Look Look.Help) s choice l found g o = if found == pend_word (pend.Pending l.saw) then helping (o l.row l.saw) l.helping g.loaded else Nothing
change_of z (Activity.Put Put.Add) s choice l found g o = if has_room z (count_of found) then Adds g.call s (first_key l.call) (put_value l.call) l.row (given_of (count_of found)) else Nothing
change_of z (Activity.Put Put.Announce) s choice l found g o = if found == pend_word pend.Idle then Announces g.own else Nothing
change_of z (Activity.Put Put.Stamp) s choice l found g o = if found == pend_word (pend.Pending l.cell) then Stamps g.own l.version g.loaded else Nothing
change_of z (Activity.Leave answer) s choice l found g o = Ends g.call (reply_of answer l.pairs) (answering l.call l g) (drawing answer l g)
change_of z (Activity.Rebalance (Rebalance.Freeze (Freeze.Entry i))) s choice l found g o = if found == pend_word l.rebalance.entry then freezing l.rebalance.entry l.rebalance.hand o else Nothing
change_of z _ s choice l found g o = Nothing

-- What an event adds to the log of its seat.

-- a call begins: nothing is gathered and no row is read
abbrev pub log_begun : Choice → ℕ → SeatLog → SeatLog
log_begun (Begin call) x g = record g { call = x; own = 0; ids = []; read = None }
log_begun Go x g = g
log_begun (Guess r) x g = g
log_begun Stop x g = g

-- the first entry of a row is looked at: nothing of the row is gathered, and it is not read
abbrev pub log_look : ℕ → ℕ → SeatLog → SeatLog
log_look i now g = if i == 0 then record g { looked = now; ids = []; read = None } else g

-- the seat goes on to a cell of the row
abbrev pub is_at_cell : Activity → Bool
is_at_cell (Activity.Read _) = true
is_at_cell _ = false

-- a seat that does not go on to a cell of the row has read it
abbrev pub log_read : Activity → ℕ → SeatLog → SeatLog
log_read next row g = if is_at_cell next then g else record g { read = Some row }

-- one more cell is gathered, and its attempt is put beside it
abbrev pub log_gathered : Option ℕ → ℕ → SeatLog → SeatLog
log_gathered p at g = record g { ids = insert g.ids at (unwrap_or p 0) }

-- the place among the gathered cells at which the cell in hand is put, where its value is this word
abbrev pub index_gathered : Local → ℕ → ℕ
index_gathered l found = index_in (cell_in_hand (value_of_word found) l) l.gathered

-- the log of a scan that found this word when it tried to settle: another seat has drawn for it if
-- it waits no more, and the place of that draw is known
abbrev pub log_settled : ℕ → ℕ → ℕ → SeatLog → SeatLog
log_settled clock found settled g = if found == scan_word (Waiting clock) then g else record g { drawn = settled }

-- the log after the event of an activity, where the seat goes on to the activity `next`, and the
-- version in the word of its scan was drawn at `settled`
abbrev pub seat_after : Sizes → Activity → Choice → Local → ℕ → Activity → SeatLog → Origins → History → ℕ → SeatLog
seat_after z Activity.Idle choice l found next g o h settled = log_begun choice (length h.calls) g
seat_after z (Activity.Draw Draw.Clock) choice l found next g o h settled = record g { loaded = length h.log }
seat_after z (Activity.Draw Draw.Version) choice l found next g o h settled = record g { drawn = length h.log }
seat_after z (Activity.Draw Draw.Settle) choice l found next g o h settled = log_settled l.waiting found settled g
seat_after z (Activity.Look (Look.Entry i)) choice l found next g o h settled = log_look i (length h.log) g
seat_after z (Activity.Look Look.Clock) choice l found next g o h settled = record g { loaded = length h.log }
seat_after z (Activity.Read Read.Start) choice l found next g o h settled = log_read next l.row g
seat_after z (Activity.Read Read.Link) choice l found next g o h settled = log_read next l.row g
seat_after z (Activity.Read Read.Key) choice l found next g o h settled = log_read next l.row g
seat_after z (Activity.Read Read.Value) choice l found next g o h settled = log_gathered (o l.row l.place) (index_gathered l found) g
seat_after z (Activity.Read Read.LeftOverKey) choice l found next g o h settled = log_read next l.row g
seat_after z (Activity.Read Read.LeftOverValue) choice l found next g o h settled = log_read next l.row (log_gathered (o l.row l.place) (index_gathered l found) g)
seat_after z (Activity.Put Put.Add) choice l found next g o h settled = if has_room z (count_of found) then record g { own = length h.attempts } else g
seat_after z (Activity.Put Put.Clock) choice l found next g o h settled = record g { loaded = length h.log }
seat_after z (Activity.Rebalance (Rebalance.Engage Engage.Clock)) choice l found next g o h settled = record g { loaded = length h.log }
seat_after z (Activity.Rebalance (Rebalance.Freeze (Freeze.Draw i))) choice l found next g o h settled = record g { drawn = length h.log }
seat_after z _ choice l found next g o h settled = g

-- What an event says of the scans.

-- the scan of a seat is settled, by a seat with this log that found this word, if it still waits
-- since this clock
abbrev pub settling : ℕ → ℕ → ℕ → SeatLog → Option Settled
settling seat clock found g = if found == scan_word (Waiting clock) then Some (record { seat = seat; at = g.drawn }) else None

-- which scan the event of an activity settles: its own, or the one that it helps
abbrev pub settled_scan : Activity → ℕ → Local → ℕ → SeatLog → Option Settled
settled_scan (Activity.Draw Draw.Settle) s l found g = settling s l.waiting found g
settled_scan (Activity.Rebalance (Rebalance.Freeze (Freeze.Settle i))) s l found g = settling i l.rebalance.waiting found g
settled_scan _ s l found g = None

-- where the versions of scans were drawn, with that of one that is settled
abbrev pub with_settled : Option Settled → (ℕ → ℕ) → (ℕ → ℕ)
with_settled (Some x) settled t = if t == x.seat then x.at else settled t
with_settled None settled t = settled t

-- the attempt for which the copy of a kept cell stands: that of the cell of the group from whose
-- place it was gathered. A place beyond the kept cells stands for none
abbrev pub copied : Sizes → Origins → Local → Option kw_cell.Cell → Option ℕ
copied z o l (Some c) = source z o l c.place
copied z o l None = None

-- the cell whose origin an event of a seat that knows l sets: the one whose version it writes, of
-- the row that it builds
abbrev pub copied_cell : Sizes → Activity → Local → Origins → Option Copied
copied_cell z (Activity.Rebalance (Rebalance.Write (Write.Version j))) l o = Some (record { row = infant l; cell = j; attempt = copied z o l (slice_get (infant_cells l) j) })
copied_cell z _ l o = None

-- the origins with that of a cell that is written
abbrev pub with_copied : Option Copied → Origins → Origins
with_copied (Some x) o = with_copy o x.row x.cell x.attempt
with_copied None o = o

-- the origins after the event of an activity: a cell is given to a put by the sum that asks for it,
-- and stands for a copied attempt from the event on that writes its version
abbrev pub origins_after : Sizes → Activity → Local → ℕ → Origins → History → Origins
origins_after z (Activity.Put Put.Add) l found o h = if has_room z (count_of found) then with_origin o l.row (given_of (count_of found)) (length h.attempts) else o
origins_after z (Activity.Rebalance (Rebalance.Write (Write.Version j))) l found o h = with_copy o (infant l) j (copied z o l (slice_get (infant_cells l) j))
origins_after z _ l found o h = o

-- One event, and lists of events.

-- an event for the log: who acted, how, and the clock before it
abbrev pub logged : ℕ → Kind → ℕ → Logged
logged s kind clock = record { seat = s; kind = kind; clock = clock }

-- the word that the event of a seat that knows l finds
abbrev pub found_by : Sizes → WorldView → Event → Local → ℕ
found_by z w e l = word z w (transition_at z w e l).operation.name

-- an event that is not skipped, of a seat that knows l
abbrev pub noted_by : Sizes → Run → Event → Local → Run
noted_by z r e l = record {
  world = (moved_of z r.world e l).world;
  history = noted r.history (logged e.seat (transition_at z r.world e l).operation.kind (word z r.world Clock)) (change_of z l.activity e.seat (offered r.world.rows e.choice) l (found_by z r.world e l) (r.seats e.seat) r.origin);
  seats = with_seat r.seats e.seat (seat_after z l.activity (offered r.world.rows e.choice) l (found_by z r.world e l) (followed r.world.rows (transition_at z r.world e l) (found_by z r.world e l)).local.activity (r.seats e.seat) r.origin r.history (r.settled e.seat));
  settled = with_settled (settled_scan l.activity e.seat l (found_by z r.world e l) (r.seats e.seat)) r.settled;
  origin = origins_after z l.activity l (found_by z r.world e l) r.origin r.history;
  ledger = ledger_after z l.activity e.seat l (found_by z r.world e l) (word z r.world) (length r.history.log) r.ledger;
  listed = listed_after l.activity l (found_by z r.world e l) r.listed;
}

-- an event of a seat that knows this; an event that is skipped leaves all as it was
abbrev pub goes_on_of : Sizes → Run → Event → Option Local → Run
goes_on_of z r e (Some l) = if is_skipped l.activity e.choice then r else noted_by z r e l
goes_on_of z r e None = r

-- one more event
unfoldable pub goes_on : Sizes → Run → Event → Run
goes_on z r e = goes_on_of z r e (slice_get r.world.locals e.seat)

-- all events of a list
unfoldable pub run : Sizes → Run → List Event → Run
run z r [] = r
run z r (e ∷ es) = run z (goes_on z r e) es

-- no seat did anything
abbrev pub no_log : SeatLog
no_log = record { call = 0; own = 0; looked = 0; loaded = 0; drawn = 0; ids = []; read = None }

-- where nothing happened yet
abbrev pub start : Sizes → Opening → Run
start z o = record { world = opened z o; history = nothing_yet; seats = λ s. no_log; settled = λ s. 0; origin = λ r c. None; ledger = ledger_at_first o; listed = none_listed }

-- all that led to the world after these events
unfoldable pub history : Sizes → Opening → List Event → Run
history z o es = run z (start z o) es
