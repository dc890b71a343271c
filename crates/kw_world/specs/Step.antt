-- One event of a world.
use Rattle.std.specs.Prelude.{◌≡◌, Bool, true, false, if◌then◌else◌, ℕ, Option, Some, None, slice_index, slice_set, slice_get}
use Rattle.kw_words.specs.declared.layout.Name.{Name}
use Rattle.kw_words.specs.declared.kind.Kind.{Kind}
use Rattle.kw_words.specs.Layout.{place_of}
use Rattle.kw_world.specs.declared.activity.Activity.{Activity}
use Rattle.kw_world.specs.declared.local.Local.{Local}
use Rattle.kw_world.specs.declared.event.Event.{Event}
use Rattle.kw_world.specs.declared.event.Choice.{Choice}
use Rattle.kw_world.specs.declared.event.Choice.TheVariants.{Begin, Go, Guess, Stop}
use Rattle.kw_world.specs.declared.event.StepDone.{StepDone}
use Rattle.kw_world.specs.declared.event.StepDone.TheVariants.{Moved, Ended, Skipped}
use Rattle.kw_world.specs.Sizes.{Sizes}
use Rattle.kw_world.specs.Operation.{word_after, told_by}
use Rattle.kw_world.specs.WorldView.{WorldView}
use Rattle.kw_world.specs.Transition.{Transition, Outcome}
use Rattle.kw_world.specs.WalkTransitions.{offered}
use Rattle.kw_world.specs.Table.{transition}

-- the word of a name
unfoldable pub word : Sizes → WorldView → Name → ℕ
word z w n = slice_index w.words (place_of z.seats z.cells n)

-- the line of the table by which a seat that knows l makes its event
unfoldable pub transition_of : Sizes → ℕ → Choice → Local → Transition
transition_of z s choice l = transition z l.activity s choice l

-- what follows in a table of so many rows from the event of a seat that is told this; it is the
-- same for every number of the seat
abbrev pub next_of : Sizes → ℕ → Choice → Local → ℕ → Outcome
next_of z rows choice l told = (transition_of z 0 choice l).next rows told

-- what follows from a line in a table of so many rows, where its operation found this word
abbrev pub followed : ℕ → Transition → ℕ → Outcome
followed rows t found = t.next rows (told_by t.operation.action found)

-- the world after seat s has made the event of a line: one word, and what the seat knows
abbrev pub after : Sizes → WorldView → ℕ → Transition → WorldView
after z w s t = record {
  rows = w.rows;
  words = slice_set w.words (place_of z.seats z.cells t.operation.name) (word_after t.operation.action (word z w t.operation.name));
  locals = slice_set w.locals s (followed w.rows t (word z w t.operation.name)).local;
}

-- the event is skipped: the seat is idle, and begins nothing
abbrev pub is_skipped : Activity → Choice → Bool
is_skipped Activity.Idle (Begin call) = false
is_skipped Activity.Idle Go = true
is_skipped Activity.Idle (Guess r) = true
is_skipped Activity.Idle Stop = true
is_skipped _ choice = false

-- the event is skipped, of a seat of this world
abbrev pub IsSkipped : WorldView → Event → Type 0
IsSkipped w e = (l : Local) → slice_get w.locals e.seat ≡ Some l → is_skipped l.activity e.choice ≡ true

-- the event was made: the call goes on, or has ended
abbrev pub IsMade : StepDone → Type 0
IsMade Moved = Unit {0}
IsMade (Ended reply) = Unit {0}
IsMade Skipped = ⊥

-- the world after an event, and what the event did
pub record Stepped : Type 0 where
  pub world : WorldView
  pub done : StepDone

-- both as one value
abbrev pub stepped : WorldView → StepDone → Stepped
stepped w done = record { world = w; done = done }

-- the line of an event of a seat that knows l
abbrev pub transition_at : Sizes → WorldView → Event → Local → Transition
transition_at z w e l = transition_of z e.seat (offered w.rows e.choice) l

-- an event that is not skipped
abbrev pub moved_of : Sizes → WorldView → Event → Local → Stepped
moved_of z w e l = stepped (after z w e.seat (transition_at z w e l)) (followed w.rows (transition_at z w e l) (word z w (transition_at z w e l).operation.name)).done

-- an event, where the seat knows this; an event of a seat that does not exist is skipped
abbrev pub step_of : Sizes → WorldView → Event → Option Local → Stepped
step_of z w e (Some l) = if is_skipped l.activity e.choice then stepped w Skipped else moved_of z w e l
step_of z w e None = stepped w Skipped

-- one event
unfoldable pub step : Sizes → WorldView → Event → Stepped
step z w e = step_of z w e (slice_get w.locals e.seat)

-- the kind of an event, where the seat knows this
abbrev pub kind_from : Sizes → WorldView → Event → Option Local → Option Kind
kind_from z w e (Some l) = if is_skipped l.activity e.choice then None else Some (transition_at z w e l).operation.kind
kind_from z w e None = None

-- the kind of an event; none where it is skipped
unfoldable pub kind_of : Sizes → WorldView → Event → Option Kind
kind_of z w e = kind_from z w e (slice_get w.locals e.seat)
