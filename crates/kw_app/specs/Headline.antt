-- What the answers of a run are worth: they are those of an ordered map of one thread that the
-- lines' calls ask one after the other.
use Rattle.std.specs.Prelude.{ℕ, ◌≡◌, ◌≢◌, ◌<◌, ◌≤◌, ◌⊎◌, Option, None, true, false, not, IsTrue, All, List, [], length, slice_get, Some}
use Rattle.kw_words.specs.declared.sizes.TheConstants.{SPENT}
use Rattle.kw_model.specs.declared.call.Call.TheVariants.{Scan}
use Rattle.kw_model.specs.declared.call.Reply.{Reply}
use Rattle.kw_model.specs.declared.call.Reply.TheVariants as reply
use Rattle.kw_model.specs.Map.{Pairs, value_of}
use Rattle.kw_core.specs.History.{History, called}
use Rattle.kw_core.specs.declared.history.Drawn.{Drawn}
use Rattle.kw_core.specs.HistoryLaws.{EndsWith, shows}
use Rattle.kw_laws.specs.SeatCalls.{CallSeen, seen}
use Rattle.kw_order.specs.Order.{IsOrder, IsTop}
use Rattle.kw_map.specs.Kiwi.{happened}
use Rattle.kw_map.specs.Refusals.{HasReason}
use Rattle.kw_world.specs.declared.event.Event.{Event}
use Rattle.kw_world.specs.declared.opening.Opening.{Opening}
use Rattle.kw_line.specs.declared.answer.Answer.{Answer}
use Rattle.kw_line.specs.declared.answer.Answer.TheVariants.{NoRows, Spent}
use Rattle.kw_line.specs.declared.item.Form.{Form}
use Rattle.kw_line.specs.declared.item.Item.{Item}
use Rattle.kw_line.specs.Answered.{IsReplyOf, answers_for, is_update, is_get, is_range}
use Rattle.kw_line.specs.Line.{calls, forms}
use Rattle.kw_line.specs.Quiet.{quiet}
use Rattle.kw_work.specs.declared.line.Line.{Line}
use Rattle.kw_work.specs.Collecting.{merge}
use Rattle.kw_work.specs.Dealing.{lines_of, blocks_of, worker_of}
use Rattle.kw_work.specs.LineOrder.{IsOrderOf, StandsBefore, IsLegalIn, KeepsWorkers}
use Rattle.kw_app.specs.OneThread.{answers_to}
use Rattle.kw_app.specs.Recorded.{asked, EndsBefore, IsWithin, no_call, recorded, seat_calls}
use Rattle.kw_app.specs.Running.{is_refused}

-- the calls of the lines in line order, as the list of events shows them
abbrev pub line_calls : Opening → List Event → List Line → List CallSeen
line_calls o E lines = merge o.seats (seat_calls o E) no_call [] lines

-- call x, a scan, drew a version; for each key of its range the pairs have the value of the key's
-- last put or delete with a version not above it, so no pair where that is a delete or where there
-- is none; and they have no other key
pub record HasTops (h : History) (x from upto : ℕ) (pairs : Pairs) : Type 0 where
  pub drawn : Drawn
  pub draw : (called h x).draw ≡ Some drawn
  pub tops : (key : ℕ) → from ≤ key → key ≤ upto → (p : Option ℕ) × IsTop h key drawn.version p × (value_of key pairs ≡ shows h p)
  pub no_others : (key : ℕ) → (key < from) ⊎ (upto < key) → value_of key pairs ≡ None

-- where the call of line i has ended before the first event of the call of line j, i stands before
-- j
abbrev pub KeepsPrecedence : List CallSeen → List ℕ → Type 0
KeepsPrecedence made xs = (i j : ℕ) (c d : CallSeen) → slice_get made i ≡ Some c → slice_get made j ≡ Some d → EndsBefore d.first c.end → StandsBefore xs i j

-- The calls of the record in their one order, of which a list of events has no other; line number a
-- of the order made the a-th of these calls.
pub record IsOrderOfCalls (o : Opening) (E : List Event) (made : List CallSeen) (numbers : List ℕ) : Type 0 where
  -- the places of the calls in the record
  pub places : List ℕ
  pub is_order : IsOrder (happened o E) places
  pub only : (xs : List ℕ) → IsOrder (happened o E) xs → xs ≡ places
  pub as_many : length numbers ≡ length places
  pub made_by : (a i x : ℕ) → slice_get numbers a ≡ Some i → slice_get places a ≡ Some x → slice_get made i ≡ Some (seen (called (happened o E) x))
  -- of each of these scans that ended with pairs: it had a version, and its pairs are those of the
  -- tops at it
  pub scans : (a x from upto at : ℕ) (pairs : Pairs) → slice_get places a ≡ Some x → EndsWith (happened o E) x (Scan from upto) at (reply.Pairs pairs) → HasTops (happened o E) x from upto pairs

-- each line has made its call, and there is one order of the lines in which the map of one thread
-- gives all that is printed
pub record HasOneOrder (o : Opening) (E : List Event) (items : List Item) (printed : List Answer) : Type 0 where
  -- the list of events has for each line the call that it makes, and this call has ended
  pub asks : asked (line_calls o E (lines_of 1 items)) ≡ calls items
  pub ended : All (IsWithin 0 (length E)) (line_calls o E (lines_of 1 items))
  -- what is printed are the replies of these calls
  pub prints : printed ≡ answers_for (forms items) (recorded o.seats (seat_calls o E) (lines_of 1 items))
  -- each is a reply that a line of this form may have, so no call was stopped
  pub are_replies : (i : ℕ) (f : Form) (r : Reply) → slice_get (forms items) i ≡ Some f → slice_get (recorded o.seats (seat_calls o E) (lines_of 1 items)) i ≡ Some r → IsReplyOf f r
  -- a line is refused only for what its worker's seat found while it made the line's call: the
  -- versions or the epochs spent, or too few rows left
  pub causes : (i : ℕ) (l : Line) (c : CallSeen) → slice_get (lines_of 1 items) i ≡ Some l → slice_get (line_calls o E (lines_of 1 items)) i ≡ Some c → HasReason o E (worker_of o.seats l) c
  -- the numbers of the lines in the order, counted from 0: each stands there once
  pub numbers : List ℕ
  pub order : IsOrderOf (length (calls items)) numbers
  -- it is that of the calls, of which the list of events has one
  pub of_calls : IsOrderOfCalls o E (line_calls o E (lines_of 1 items)) numbers
  -- asked in this order of the map, which was empty, the calls have these replies; a refusal leaves
  -- the map as it was
  pub legal : IsLegalIn (calls items) (recorded o.seats (seat_calls o E) (lines_of 1 items)) numbers
  -- a call that ended before another began stands before it
  pub precedence : KeepsPrecedence (line_calls o E (lines_of 1 items)) numbers
  -- lines of earlier blocks stand before those of later ones, and those of one worker in their
  -- order
  pub workers : KeepsWorkers o.seats (blocks_of 1 items) numbers

-- no line that sets a value or takes a key away was refused
abbrev pub UpdatesServed : List Item → List Answer → Type 0
UpdatesServed items printed = (i : ℕ) (f : Form) (a : Answer) → slice_get (forms items) i ≡ Some f → slice_get printed i ≡ Some a → IsTrue (is_update f) → is_refused a ≡ false

-- each quiet line has the answer that it has in line order, or is a range line that was refused
abbrev pub QuietAnswered : List Item → List Answer → Type 0
QuietAnswered items printed = (i : ℕ) (f : Form) → slice_get (forms items) i ≡ Some f → slice_get (quiet items) i ≡ Some true → (slice_get printed i ≡ slice_get (answers_to items) i) ⊎ (IsTrue (is_range f) × (slice_get printed i ≡ Some Spent))

-- which lines may be refused, and how
pub record AreRefusals (items : List Item) (printed : List Answer) : Type 0 where
  -- only a line that sets a value or takes a key away finds no row
  pub no_rows : (i : ℕ) (f : Form) → slice_get (forms items) i ≡ Some f → slice_get printed i ≡ Some NoRows → IsTrue (is_update f)
  -- a line that asks for one key is never refused
  pub spent : (i : ℕ) (f : Form) → slice_get (forms items) i ≡ Some f → slice_get printed i ≡ Some Spent → IsTrue (not (is_get f))

-- another line than line i asks for a range
pub record IsBesideRange (items : List Item) (i : ℕ) : Type 0 where
  pub place : ℕ
  pub apart : place ≢ i
  pub form : Form
  pub here : slice_get (forms items) place ≡ Some form
  pub range : IsTrue (is_range form)

-- a line that asks for a range was refused only beside another one
abbrev pub AreRefusedBeside : List Item → List Answer → Type 0
AreRefusedBeside items printed = (i : ℕ) (f : Form) → slice_get (forms items) i ≡ Some f → IsTrue (is_range f) → slice_get printed i ≡ Some Spent → IsBesideRange items i

-- what is printed for these items, by a run which has this list of events
pub record Headline (o : Opening) (E : List Event) (items : List Item) (printed : List Answer) : Type 0 where
  -- it is what one thread would print in some order of the lines that keeps what came before what
  pub order : HasOneOrder o E items printed
  -- one worker prints what one thread does in line order, where nothing is refused
  pub alone : o.seats ≡ 1 → All (λ a. is_refused a ≡ false) printed → printed ≡ answers_to items
  -- quiet lines have one answer, whatever ran beside them
  pub quiet : UpdatesServed items printed → QuietAnswered items printed
  -- refusals stand only where they may
  pub refusals : AreRefusals items printed
  -- versions are drawn for ranges alone, so the first line that asks for one is not refused
  pub ranges : o.clock < SPENT → AreRefusedBeside items printed
