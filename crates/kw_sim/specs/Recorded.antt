-- The record of a script: which lines it has, and in which order they stand.
use Rattle.std.specs.Prelude.{ℕ, ◌≡◌, ◌<◌, ◌≤◌, ◌⊎◌, ◌||◌, Bool, is_some, Some, None, List, map, filter, length, slice_get, Contains}
use Rattle.kw_core.specs.History.{History, called}
use Rattle.kw_core.specs.declared.history.CallLog.{CallLog}
use Rattle.kw_order.specs.declared.points.CallName.{CallName}
use Rattle.kw_order.specs.Order.{IsOrder}
use Rattle.kw_order.specs.Points.{AreNames}
use Rattle.kw_order.specs.Trace.{TraceView, history_of}
use Rattle.kw_judge.specs.declared.record.Name.{Name}
use Rattle.kw_judge.specs.declared.record.DoneCall.{DoneCall}
use Rattle.kw_judge.specs.declared.record.OpenCall.{OpenCall}
use Rattle.kw_judge.specs.declared.record.TheConstants.{MOST_CALLS}
use Rattle.kw_judge.specs.Record.{RecordView, IsRecordText, record_text}
use Rattle.kw_judge.specs.Good.{IsGood}
use Rattle.kw_sim.specs.declared.command.Command.{Command}
use Rattle.kw_sim.specs.Script.{AreLinesOf, IsFirstBadCommand}
use Rattle.kw_sim.specs.Printed.{judged}
use Rattle.kw_sim.specs.Meaning.{script_state}

-- the name of a call
abbrev pub call_name : CallLog → Name
call_name c = record { seat = c.seat; number = c.number }

-- d is the line of the call x, which ended
pub record IsDoneOf (h : History) (x : ℕ) (d : DoneCall) : Type 0 where
  pub name : d.name ≡ call_name (called h x)
  pub first : d.first ≡ (called h x).first
  pub call : d.call ≡ (called h x).call
  pub end : (called h x).end ≡ Some (record { at = d.last; reply = d.reply })

-- o is the line of the call x, which has not ended, and whose put or delete was stamped
pub record IsOpenOf (h : History) (x : ℕ) (o : OpenCall) : Type 0 where
  pub name : o.name ≡ call_name (called h x)
  pub first : o.first ≡ (called h x).first
  pub call : o.call ≡ (called h x).call
  pub runs : (called h x).end ≡ None
  pub stamped : (p : ℕ) × ((called h x).put ≡ Some p)

-- the lines are those of the calls that ended, one for each, by their last positions
pub record AreDone (h : History) (done : List DoneCall) : Type 0 where
  pub each : (i : ℕ) (d : DoneCall) → slice_get done i ≡ Some d → (x : ℕ) × IsDoneOf h x d
  pub every : (x : ℕ) (d : DoneCall) → IsDoneOf h x d → Contains done d
  pub rises : (i j : ℕ) (a b : DoneCall) → i < j → slice_get done i ≡ Some a → slice_get done j ≡ Some b → a.last < b.last

-- the lines are those of the calls that go on and were stamped, one for each, by their seats
pub record AreOpen (h : History) (open_calls : List OpenCall) : Type 0 where
  pub each : (i : ℕ) (o : OpenCall) → slice_get open_calls i ≡ Some o → (x : ℕ) × IsOpenOf h x o
  pub every : (x : ℕ) (o : OpenCall) → IsOpenOf h x o → Contains open_calls o
  pub rises : (i j : ℕ) (a b : OpenCall) → i < j → slice_get open_calls i ≡ Some a → slice_get open_calls j ≡ Some b → a.name.seat < b.name.seat

-- the record of a trace: its calls with their positions, and the one order of these calls
pub record IsRecorded (t : TraceView) (r : RecordView) : Type 0 where
  pub done : AreDone (history_of t) r.done
  pub open_calls : AreOpen (history_of t) r.open_calls
  pub names : List CallName
  pub are_names : AreNames (history_of t) names
  pub one : (xs : List ℕ) → IsOrder (history_of t) xs → xs ≡ are_names.order
  pub order : r.order ≡ map judged names

-- the call has a line in a record
abbrev pub has_line : CallLog → Bool
has_line c = is_some c.end || is_some c.put

-- the bytes are the text of the record of a trace; this record is good, and not too long
pub record IsRecordAt (t : TraceView) (bytes : List ℕ) : Type 0 where
  pub written : RecordView
  pub recorded : IsRecorded t written
  pub good : IsGood written
  pub text : IsRecordText bytes written
  pub bytes_are : bytes ≡ record_text written
  pub few : length (filter has_line (history_of t).calls) ≤ MOST_CALLS

-- there are more calls with a line than a record may have
abbrev pub IsTooMany : TraceView → Type 0
IsTooMany t = MOST_CALLS < length (filter has_line (history_of t).calls)

-- the bytes are the text of the record of what the commands do whose texts are the lines of the
-- script
pub record IsRecordOf (rows : ℕ) (script bytes : List ℕ) : Type 0 where
  pub commands : List Command
  pub lines : AreLinesOf rows script commands
  pub output : IsRecordAt (script_state rows commands).trace bytes

-- the record of what the script does would be too long
pub record IsTooLong (rows : ℕ) (script : List ℕ) : Type 0 where
  pub commands : List Command
  pub lines : AreLinesOf rows script commands
  pub many : IsTooMany (script_state rows commands).trace

-- why a script has no record: this line is the first bad one, or line 0 stands for a record that
-- would be too long
abbrev pub IsUnrecorded : ℕ → List ℕ → ℕ → Type 0
IsUnrecorded rows script line = IsFirstBadCommand rows script line ⊎ ((line ≡ 0) × IsTooLong rows script)
