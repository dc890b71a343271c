-- A transition, which is one line of the table of events: the operation, and what follows from what
-- it told.
use Rattle.std.specs.Prelude.{ℕ, Option, Some, None, unwrap_or}
use Rattle.kw_words.specs.declared.layout.Name.{Name}
use Rattle.kw_words.specs.declared.kind.Kind.{Kind}
use Rattle.kw_words.specs.declared.link.Link.{Link}
use Rattle.kw_world.specs.declared.activity.Activity.{Activity}
use Rattle.kw_world.specs.declared.answer.Answer.{Answer}
use Rattle.kw_world.specs.declared.local.Local.{Local}
use Rattle.kw_world.specs.declared.event.StepDone.{StepDone}
use Rattle.kw_world.specs.declared.event.StepDone.TheVariants.{Moved, Ended}
use Rattle.kw_world.specs.declared.operation.Action.{Action}
use Rattle.kw_world.specs.declared.operation.Operation.{Operation}
use Rattle.kw_world.specs.Answers.{reply_of}
use Rattle.kw_world.specs.Local.{at_rest, without_rows}

-- what the seat knows after an event, and what the event did
pub record Outcome : Type 0 where
  pub local : Local
  pub done : StepDone

-- what follows from an event, as one value
abbrev pub outcome : Local → StepDone → Outcome
outcome l done = record { local = l; done = done }

-- the operation, and what follows in a table of so many rows from what the seat is told
pub record Transition : Type 0 where
  pub operation : Operation
  pub next : ℕ → ℕ → Outcome

-- the transition with this kind, word and action, and with what follows, however many rows there
-- are
abbrev pub at : Kind → Name → Action → (ℕ → Outcome) → Transition
at kind name action next = record { operation = record { kind = kind; name = name; action = action }; next = λ rows. next }

-- the same, where what follows depends on how many rows there are
abbrev pub at_rows : Kind → Name → Action → (ℕ → ℕ → Outcome) → Transition
at_rows kind name action next = record { operation = record { kind = kind; name = name; action = action }; next = next }

-- the seat goes on to an activity
abbrev pub to : Activity → Local → Outcome
to a l = outcome (record l { activity = a }) Moved

-- the seat is about to leave with this answer, and forgets every row
abbrev pub leave : Answer → Local → Outcome
leave answer l = to (Activity.Leave answer) (without_rows l)

-- the call has ended with this answer, and with the pairs that the seat has: it is idle, and knows
-- how many calls it has begun, and its pin
abbrev pub ended : Answer → Local → Outcome
ended answer l = outcome (at_rest l) (Ended (reply_of answer l.pairs))

-- the row that a link leads to; a word that is no link leads nowhere
abbrev pub row_linked : Option Link → Option ℕ
row_linked (Some link) = link.row
row_linked None = None

-- the row, and row 0 where there is none
abbrev pub row_or_first : Option ℕ → ℕ
row_or_first r = unwrap_or r 0
