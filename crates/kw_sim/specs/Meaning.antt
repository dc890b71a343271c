-- What each line of a script does, and what the calls that end with it print.
use Rattle.std.specs.Prelude.{ℕ, zero, suc, ◌==◌, Bool, true, false, if◌then◌else◌, Option, Some, None, unwrap_or, List, [], ◌∷◌, ◌++◌, replicate, slice_get}
use Rattle.kw_model.specs.declared.call.Call.{Call}
use Rattle.kw_model.specs.declared.call.Call.TheVariants.{Put, Get}
use Rattle.kw_words.specs.declared.kind.Kind.{Kind}
use Rattle.kw_words.specs.declared.sizes.TheConstants.{SEATS}
use Rattle.kw_words.specs.Kind.{index_in_kinds}
use Rattle.kw_world.specs.declared.event.Event.{Event}
use Rattle.kw_world.specs.declared.event.Choice.{Choice}
use Rattle.kw_world.specs.declared.event.Choice.TheVariants.{Begin, Go, Guess, Stop}
use Rattle.kw_world.specs.declared.event.StepDone.{StepDone}
use Rattle.kw_world.specs.declared.local.Local.{Local}
use Rattle.kw_world.specs.declared.opening.Opening.{Opening}
use Rattle.kw_world.specs.Sizes.{product}
use Rattle.kw_world.specs.Step.{step, kind_of, is_skipped}
use Rattle.kw_line.specs.Line.{FitsCall}
use Rattle.kw_order.specs.Trace.{world_of, pushed}
use Rattle.kw_sim.specs.declared.command.Command.{Command}
use Rattle.kw_sim.specs.declared.command.Command.TheVariants as command
use Rattle.kw_sim.specs.declared.parse.TheConstants.{MOST_STEPS}
use Rattle.kw_sim.specs.Printed.{done_text, missed_line}
use Rattle.kw_sim.specs.State.{State, queue_of, with_queue}

-- One event.

-- an event of a seat
abbrev pub event : ℕ → Choice → Event
event s choice = record { seat = s; choice = choice }

-- the numbers of a call that begins are in range
abbrev pub FitsChoice : Choice → Type 0
FitsChoice (Begin call) = FitsCall call
FitsChoice _ = Unit {0}

-- the call that a seat makes; one that makes none is taken to ask for the value of key 0, and never
-- ends a call
abbrev pub call_made : Local → Call
call_made l = unwrap_or l.call (Get 0)

-- what an event prints of a seat that knew this before it
abbrev pub printed : ℕ → Option Local → StepDone → List ℕ
printed s (Some l) done = done_text s l.number (call_made l) done
printed s None done = []

-- what came of an event
abbrev pub done_by : Event → State → StepDone
done_by e st = (step product (world_of st.trace) e).done

-- an event, and the line of a call that ends with it; one that is skipped leaves all as it was
unfoldable pub after_event : Event → State → State
after_event e st = record {
  trace = pushed st.trace e (done_by e st);
  queues = st.queues;
  text = st.text ++ printed e.seat (slice_get (world_of st.trace).locals e.seat) (done_by e st);
}

-- the kind of an event; none where it is skipped
abbrev pub kind_at : Event → State → Option Kind
kind_at e st = kind_of product (world_of st.trace) e

-- One step of a seat.

-- a seat that knows this makes no call
abbrev pub makes_none : Option Local → Bool
makes_none (Some l) = is_skipped l.activity Go
makes_none None = false

-- the seat is idle
abbrev pub is_idle : ℕ → State → Bool
is_idle s st = makes_none (slice_get (world_of st.trace).locals s)

-- what a seat chooses: where it is idle it begins the first call that it is still to make, and else
-- it goes on; an idle seat with nothing to make makes no event so
abbrev pub next_choice : Bool → List Call → Choice
next_choice true [] = Go
next_choice true (c ∷ cs) = Begin c
next_choice false cs = Go

-- an idle seat takes the first call that it is still to make
abbrev pub taken : Bool → List Call → ℕ → State → State
taken true [] s st = st
taken true (c ∷ cs) s st = with_queue s cs st
taken false calls s st = st

-- the event of the next step of a seat
abbrev pub next_event : ℕ → State → Event
next_event s st = event s (next_choice (is_idle s st) (queue_of s st))

-- one step of a seat; an idle seat that is to make no call does nothing
unfoldable pub seat_step : ℕ → State → State
seat_step s st = after_event (next_event s st) (taken (is_idle s st) (queue_of s st) s st)

-- The lines.

-- calls are put at the end of the queue of a seat
abbrev pub queued : ℕ → List Call → State → State
queued s calls st = with_queue s (queue_of s st ++ calls) st

-- so many steps of a seat
unfoldable pub go : ℕ → ℕ → State → State
go zero s st = st
go (suc n) s st = go n s (seat_step s st)

-- an event of a kind was made
abbrev pub is_kind : Kind → Option Kind → Bool
is_kind kind (Some k) = index_in_kinds k == index_in_kinds kind
is_kind kind None = false

-- no event of the kind was made
abbrev pub missed : State → State
missed st = record st { text = st.text ++ missed_line }

-- steps of a seat until one of the kind was made, at most so many
unfoldable pub until : ℕ → Kind → ℕ → State → State
until zero kind s st = missed st
until (suc n) kind s st = if is_kind kind (kind_at (next_event s st) st) then seat_step s st else until n kind s (seat_step s st)

-- what a line does
abbrev pub after_command : Command → State → State
after_command (command.Call s c) st = queued s (c ∷ []) st
after_command (command.Puts s n k v) st = queued s (replicate n (Put k v)) st
after_command (command.Go s n) st = go n s st
after_command (command.Until s kind) st = until MOST_STEPS kind s st
after_command (command.Guess s r) st = after_event (event s (Guess r)) st
after_command (command.Stop s) st = after_event (event s Stop) st

-- what lines do, one after the other
unfoldable pub after_commands : List Command → State → State
after_commands [] st = st
after_commands (c ∷ cs) st = after_commands cs (after_command c st)

-- what a script begins with: all seats are there, the first version and the first epoch are 1, and
-- no call is to be made
abbrev pub opening : ℕ → Opening
opening rows = record { rows = rows; seats = SEATS; clock = 1; epoch = 1 }

abbrev pub first_state : ℕ → State
first_state rows = record { trace = record { opening = opening rows; events = [] }; queues = replicate SEATS []; text = [] }

-- what the lines of a script do in all
abbrev pub script_state : ℕ → List Command → State
script_state rows commands = after_commands commands (first_state rows)
