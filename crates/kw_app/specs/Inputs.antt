-- Why a command has no text: what a reader of lines tells, as the error of a command.
use Rattle.std.specs.Prelude.{ℕ, Result, Ok, Err}
use Rattle.kw_line.specs.declared.error.LineError.{LineError}
use Rattle.kw_line.specs.declared.error.LineError.TheVariants as line
use Rattle.kw_app.specs.declared.input.InputError.{InputError}
use Rattle.kw_app.specs.declared.input.InputError.TheVariants as error

-- what a reader of lines tells
abbrev pub of_lines : LineError → InputError
of_lines (line.Bad at) = error.Bad at
of_lines line.Memory = error.Memory

-- of bytes that were read no read fails, and a line of them that is named is such a line
abbrev pub IfNamed : {X : Type 0} → (ℕ → Type 0) → Result X InputError → Type 0
IfNamed IsNamed (Ok x) = Unit {0}
IfNamed IsNamed (Err error.Fault) = ⊥
IfNamed IsNamed (Err (error.Bad at)) = IsNamed at
IfNamed IsNamed (Err error.Memory) = Unit {0}
