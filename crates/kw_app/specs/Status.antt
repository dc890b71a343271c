-- The numbers of the statuses, and the line on standard error that says why a run did not do all it
-- was asked.
use Rattle.std.specs.Prelude.{ℕ, List, [], ◌∷◌, ◌++◌, ◌==◌, codes, decimal, if◌then◌else◌}
use Rattle.kw_line.specs.declared.words.TheConstants.{LINE_FEED}
use Rattle.kw_app.specs.declared.input.InputError.{InputError}
use Rattle.kw_app.specs.declared.input.InputError.TheVariants as error
use Rattle.kw_app.specs.declared.outcome.Outcome.{Outcome}
use Rattle.kw_app.specs.declared.outcome.Status.{Status}
use Rattle.kw_app.specs.declared.outcome.Status.TheVariants as status

-- the status with which the process ends
abbrev pub status_code : Status → ℕ
status_code status.Done = 0
status_code status.BadWords = 2
status_code status.BadInput = 3
status_code status.ReadFault = 4
status_code status.WriteFault = 5
status_code status.OutOfMemory = 6
status_code status.NotLegal = 7
status_code status.Refused = 8

-- how a command ends that has no text
abbrev pub status_of : InputError → Status
status_of error.Fault = status.ReadFault
status_of (error.Bad at) = status.BadInput
status_of error.Memory = status.OutOfMemory

-- the line that is named then: 0 where none is
abbrev pub named_line : InputError → ℕ
named_line error.Fault = 0
named_line (error.Bad at) = at
named_line error.Memory = 0

-- a line of text, with its line feed
abbrev pub line_of : List ℕ → List ℕ
line_of text = text ++ LINE_FEED ∷ []

-- what is said of bad input: its first bad line, or, as line 0, that it is too long
abbrev pub bad_input_line : ℕ → List ℕ
bad_input_line line = if line == 0 then line_of (codes "input too long") else line_of (codes "bad line " ++ decimal line)

-- what is said at each status; nothing where all was done
abbrev pub status_text : Status → ℕ → List ℕ
status_text status.Done line = []
status_text status.BadWords line = line_of (codes "bad words")
status_text status.BadInput line = bad_input_line line
status_text status.ReadFault line = line_of (codes "read fault")
status_text status.WriteFault line = line_of (codes "write fault")
status_text status.OutOfMemory line = line_of (codes "out of memory")
status_text status.NotLegal line = line_of (codes "not legal")
status_text status.Refused line = line_of (codes "some calls were refused")

-- the fault line of an outcome
abbrev pub fault_text : Outcome → List ℕ
fault_text outcome = status_text outcome.status outcome.line
