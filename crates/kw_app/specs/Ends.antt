-- How a run ends: what it writes and what it reads, and what an input must be for each end.
use Rattle.std.specs.Prelude.{ℕ, ◌≡◌, ◌≢◌, ◌≤◌, ◌<◌, ◌⊎◌, List, length, Option, None, IfSome, Result, IfOk, IsErrOf}
use Rattle.std.specs.Io.KnownBytes.{Appends}
use Rattle.kw_model.specs.Counts.{CountRose}
use Rattle.kw_io.specs.Bytes.{AppendsPrefix}
use Rattle.kw_line.specs.declared.parse.TheConstants.{MOST_BYTES}
use Rattle.kw_line.specs.Line as line
use Rattle.kw_judge.specs.Record as written
use Rattle.kw_rollup.specs.Lines as points
use Rattle.kw_command.specs.declared.command.Command.{Command}
use Rattle.kw_command.specs.declared.command.Command.TheVariants as command
use Rattle.kw_app.specs.declared.input.InputError.{InputError}
use Rattle.kw_app.specs.declared.input.InputError.TheVariants as error
use Rattle.kw_app.specs.declared.outcome.Outcome.{Outcome}
use Rattle.kw_app.specs.declared.outcome.Status.{Status}
use Rattle.kw_app.specs.declared.outcome.Status.TheVariants as status
use Rattle.kw_app.specs.declared.printed.Ending.{Ending}
use Rattle.kw_app.specs.declared.printed.Ending.TheVariants as ending
use Rattle.kw_app.specs.declared.printed.Printed.{Printed}
use Rattle.kw_table.specs.declared.pass.Pass.{Pass}
use Rattle.kw_app.specs.Inputs.{IfNamed}
use Rattle.kw_app.specs.Replay.{IsReplayed}
use Rattle.kw_app.specs.Gen.{Summarizes}
use Rattle.kw_app.specs.Judging.{IsJudged}
use Rattle.kw_app.specs.Rolling.{IsRolled}
use Rattle.kw_app.specs.Simulating.{IsSimulated, IsOutsideScript}

-- the command reads an input
abbrev pub Reads : Command → Type 0
Reads (command.Replay w r) = Unit {0}
Reads (command.Simulate r b) = Unit {0}
Reads command.Judge = Unit {0}
Reads (command.Gen s n w r) = ⊥
Reads (command.Rollup g w r) = Unit {0}

-- the command asks the concurrent map, which may refuse a call
abbrev pub AsksMap : Command → Type 0
AsksMap (command.Replay w r) = Unit {0}
AsksMap (command.Simulate r b) = ⊥
AsksMap command.Judge = ⊥
AsksMap (command.Gen s n w r) = Unit {0}
AsksMap (command.Rollup g w r) = Unit {0}

-- what may be said of a command's text: that a reply is a refusal only where the concurrent map was
-- asked, and that a record is not good only where one was judged
abbrev pub MayEnd : Command → Ending → Type 0
MayEnd c ending.Done = Unit {0}
MayEnd c ending.Refused = AsksMap c
MayEnd c ending.NotLegal = c ≡ command.Judge

-- the text that a command prints of these bytes, each line of which is in its grammar; the pass
-- that shows the run of `replay` or `rollup` on the concurrent map; and what is said of the text:
-- that a call was refused, or that the record which was judged is not good
abbrev pub IsPrinted : Command → Option Pass → Ending → List ℕ → List ℕ → Type 0
IsPrinted (command.Replay w r) front end bytes printed = IsReplayed w r bytes printed front end
IsPrinted (command.Simulate r b) front end bytes printed = (front ≡ None) × (end ≡ ending.Done) × IsSimulated b r bytes printed
IsPrinted command.Judge front end bytes printed = (front ≡ None) × IsJudged bytes printed end
IsPrinted (command.Gen s n w r) front end bytes printed = ⊥
IsPrinted (command.Rollup g w r) front end bytes printed = IsRolled g w r bytes printed front end

-- this line of the bytes, counted from 1, is the first that is not in the command's grammar; line 0
-- says that a script's record would have too many calls
abbrev pub IsFirstOutside : Command → List ℕ → ℕ → Type 0
IsFirstOutside (command.Replay w r) bytes at = line.IsFirstBadLine bytes at
IsFirstOutside (command.Simulate r b) bytes at = IsOutsideScript b r bytes at
IsFirstOutside command.Judge bytes at = written.IsFirstBad bytes at
IsFirstOutside (command.Gen s n w r) bytes at = ⊥
IsFirstOutside (command.Rollup g w r) bytes at = points.IsFirstBadRollLine bytes at

-- the command reads, and its input is too long, which is said as line 0, or this line is the first
-- that is not in the grammar
abbrev pub IsBadInput : Command → ℕ → List ℕ → Type 0
IsBadInput command at bytes = Reads command
    × (((MOST_BYTES < length bytes) × (at ≡ 0)) ⊎ ((length bytes ≤ MOST_BYTES) × IsFirstOutside command bytes at))

-- the input is good, and the text that the command prints of it was written, whole or in part
pub record Prints (command : Command) (front : Option Pass) (end : Ending) (Writes : List ℕ → Type 0) (bytes : List ℕ) : Type 0 where
  pub short : length bytes ≤ MOST_BYTES
  pub printed : List ℕ
  pub is_printed : IsPrinted command front end bytes printed
  pub writes : Writes printed

-- the text of the command was written in this way: of what was left to read, where the source tells
-- that, or of no input
abbrev pub Tells : Command → Option (List ℕ) → Option Pass → Ending → (List ℕ → Type 0) → Type 0
Tells (command.Replay w r) left front end Writes = IfSome left (Prints (command.Replay w r) front end Writes)
Tells (command.Simulate r b) left front end Writes = IfSome left (Prints (command.Simulate r b) front end Writes)
Tells command.Judge left front end Writes = IfSome left (Prints command.Judge front end Writes)
Tells (command.Gen s n w r) left front end Writes = Summarizes s n w r front end Writes
Tells (command.Rollup g w r) left front end Writes = IfSome left (Prints (command.Rollup g w r) front end Writes)

-- the outcome names this line of bad input, or a read failed before, or memory was wanted
abbrev pub TellsBad : Outcome → ℕ → Type 0
TellsBad outcome at = ((outcome.status ≡ status.BadInput) × (outcome.line ≡ at)) ⊎ ((outcome.status ≡ status.ReadFault) ⊎ (outcome.status ≡ status.OutOfMemory))

-- bad input is told, by its first bad line
abbrev pub IsToldBad : Command → Outcome → List ℕ → Type 0
IsToldBad command outcome bytes = (at : ℕ) → IsBadInput command at bytes → TellsBad outcome at

-- a status at which nothing was written
abbrev pub IsSilent : Status → Type 0
IsSilent s = (s ≢ status.Done) × (s ≢ status.Refused) × (s ≢ status.NotLegal) × (s ≢ status.WriteFault)

-- What is written by a run that was asked for one of these commands, with this left to read, where
-- the source tells that: its outcome, and its sink before and after. Of a sink are seen the bytes
-- written to it, where it tells them, and its count of faults.
pub record WritesText {K : Type 0} (written : K → Option (List ℕ)) (faults : K → ℕ) (Asked : Command → Type 0)
    (left : Option (List ℕ)) (outcome : Outcome) (before after : K) : Type 0 where
  -- the whole text of the command, where all was done, where only a call was refused, and where a
  -- record is not good
  pub done : outcome.status ≡ status.Done → (c : Command) → Asked c
      → Tells c left outcome.front ending.Done (Appends (written before) (written after))
  pub refused : outcome.status ≡ status.Refused → (c : Command) → Asked c
      → Tells c left outcome.front ending.Refused (Appends (written before) (written after))
  pub not_legal : outcome.status ≡ status.NotLegal → (c : Command) → Asked c
      → Tells c left outcome.front ending.NotLegal (Appends (written before) (written after))
  -- a prefix of it, where a write failed; the sink counted a fault then
  pub cut_short : outcome.status ≡ status.WriteFault → (c : Command) → Asked c
      → (end : Ending) × Tells c left outcome.front end (AppendsPrefix (written before) (written after))
  pub write_fault : outcome.status ≡ status.WriteFault → CountRose (faults before) (faults after)
  -- nothing at every other status, and none of the run is shown
  pub unwritten : IsSilent outcome.status → after ≡ before
  pub no_front : IsSilent outcome.status → outcome.front ≡ None
  pub never_falls : faults before ≤ faults after

-- What is read by a run that was asked for one of these commands, and what it tells of the input:
-- its outcome, and its source before and after. Of a source are seen what is left to read, where it
-- tells that, and its count of faults.
pub record ReadsInput {S : Type 0} (left : S → Option (List ℕ)) (faults : S → ℕ) (Asked : Command → Type 0)
    (outcome : Outcome) (before after : S) : Type 0 where
  pub read_fault : outcome.status ≡ status.ReadFault → CountRose (faults before) (faults after)
  pub bad_input : outcome.status ≡ status.BadInput → (c : Command) → Asked c → IfSome (left before) (IsBadInput c outcome.line)
  -- a command that has no input
  pub reads_nothing : (c : Command) → Asked c → (Reads c → ⊥)
      → (after ≡ before) × (outcome.status ≢ status.ReadFault) × (outcome.status ≢ status.BadInput)
  -- bad input is told, and its first bad line, unless a read failed before or memory was wanted
  pub told : (c : Command) → Asked c → IfSome (left before) (IsToldBad c outcome)
  pub no_line : outcome.status ≢ status.BadInput → outcome.line ≡ 0
  pub never_falls : faults before ≤ faults after

-- What a command came to, with this left to read, where the source tells that: its text, or why it
-- has none; and its source before and after.
pub record Performs {S : Type 0} (left : S → Option (List ℕ)) (faults : S → ℕ) (command : Command) (before after : S)
    (result : Result Printed InputError) : Type 0 where
  -- its text is at hand, and nothing else is said of it than may be
  pub text : IfOk result (λ p. Tells command (left before) p.front p.ending (λ text. p.text.items ≡ text))
  pub ending : IfOk result (λ p. MayEnd command p.ending)
  -- it has none: a read failed, or the input is bad
  pub fault : IsErrOf result error.Fault → CountRose (faults before) (faults after)
  pub bad : (at : ℕ) → IsErrOf result (error.Bad at) → IfSome (left before) (IsBadInput command at)
  -- a command that has no input
  pub reads_nothing : (Reads command → ⊥) → (after ≡ before) × IfNamed (λ at. ⊥) result
  pub never_falls : faults before ≤ faults after

-- how the writing of a text ended
pub record WritesPrinted {K : Type 0} (written : K → Option (List ℕ)) (faults : K → ℕ) (printed : Printed)
    (outcome : Outcome) (before after : K) : Type 0 where
  pub done : outcome.status ≡ status.Done
      → (printed.ending ≡ ending.Done) × Appends (written before) (written after) printed.text.items
  pub refused : outcome.status ≡ status.Refused
      → (printed.ending ≡ ending.Refused) × Appends (written before) (written after) printed.text.items
  pub not_legal : outcome.status ≡ status.NotLegal
      → (printed.ending ≡ ending.NotLegal) × Appends (written before) (written after) printed.text.items
  pub cut_short : outcome.status ≡ status.WriteFault → AppendsPrefix (written before) (written after) printed.text.items
  pub write_fault : outcome.status ≡ status.WriteFault → CountRose (faults before) (faults after)
  pub ends : (outcome.status ≡ status.Done) ⊎ ((outcome.status ≡ status.Refused) ⊎ ((outcome.status ≡ status.NotLegal) ⊎ (outcome.status ≡ status.WriteFault)))
  pub front : outcome.front ≡ printed.front
  pub no_line : outcome.line ≡ 0
  pub never_falls : faults before ≤ faults after
