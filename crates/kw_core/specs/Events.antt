-- Lists of events: which are valid, the world after one, and what one seat sees of it.
--
-- All of it is over the sizes. Validity is a test, so that data may carry it, and no definition
-- here unfolds by itself: whoever stands above cites the laws on the ends of lists and on one seat.
use Rattle.std.specs.Prelude.{ℕ, ◌==◌, Bool, true, false, not, ◌&&◌, nat_lt, if◌then◌else◌, Option, Some, None, List, [], ◌∷◌, slice_get, get_or}
use Rattle.kw_words.specs.declared.sizes.TheConstants.{KEY_END, VALUE_END}
use Rattle.kw_model.specs.declared.call.Call.{Call}
use Rattle.kw_model.specs.declared.call.Call.TheVariants.{Put, Del, Get, Scan, Pin, ScanAt, Unpin}
use Rattle.kw_world.specs.declared.event.Choice.{Choice}
use Rattle.kw_world.specs.declared.event.Choice.TheVariants.{Begin}
use Rattle.kw_world.specs.declared.activity.Activity.{Activity}
use Rattle.kw_world.specs.declared.event.Event.{Event}
use Rattle.kw_world.specs.declared.opening.Opening.{Opening}
use Rattle.kw_world.specs.declared.local.Local.{Local}
use Rattle.kw_world.specs.Local.{resting}
use Rattle.kw_world.specs.Sizes.{Sizes}
use Rattle.kw_world.specs.WorldView.{WorldView}
use Rattle.kw_world.specs.Opening.{opened}
use Rattle.kw_world.specs.Step.{step, is_skipped}

-- what a seat knows; a seat that does not exist rests
abbrev pub local_of : WorldView → ℕ → Local
local_of w s = get_or w.locals s (resting 0)

-- the world after these events, from this world
unfoldable pub walked : Sizes → WorldView → List Event → WorldView
walked z w [] = w
walked z w (e ∷ es) = walked z (step z w e).world es

-- the world after these events, from the opening
unfoldable pub world : Sizes → Opening → List Event → WorldView
world z o es = walked z (opened z o) es

-- the numbers of a call are in range; no seat pins yet
abbrev pub is_call_in_range : Call → Bool
is_call_in_range (Put key value) = nat_lt key KEY_END && nat_lt value VALUE_END
is_call_in_range (Del key) = nat_lt key KEY_END
is_call_in_range (Get key) = nat_lt key KEY_END
is_call_in_range (Scan from upto) = nat_lt from KEY_END && nat_lt upto KEY_END
is_call_in_range Pin = false
is_call_in_range (ScanAt from upto) = false
is_call_in_range Unpin = false

-- a call that a seat begins at this activity is in range; an idle seat alone begins one
abbrev pub may_begin : Activity → Choice → Bool
may_begin Activity.Idle (Begin call) = is_call_in_range call
may_begin _ choice = true

-- the event of a seat that knows this is not skipped, and a call that it begins is in range
abbrev pub is_made : Choice → Option Local → Bool
is_made choice (Some l) = not (is_skipped l.activity choice) && may_begin l.activity choice
is_made choice None = false

-- the event may come next: its seat is one of the run's, it is not skipped, and a call that it
-- begins is in range
unfoldable pub may_step : Opening → WorldView → Event → Bool
may_step o w e = nat_lt e.seat o.seats && is_made e.choice (slice_get w.locals e.seat)

-- each event of the list may come where it comes, from this world
unfoldable pub is_valid_from : Sizes → Opening → WorldView → List Event → Bool
is_valid_from z o w [] = true
is_valid_from z o w (e ∷ es) = may_step o w e && is_valid_from z o (step z w e).world es

-- each event of the list may come where it comes, from the opening
unfoldable pub is_valid : Sizes → Opening → List Event → Bool
is_valid z o es = is_valid_from z o (opened z o) es

-- the events of one seat
unfoldable pub of_seat : ℕ → List Event → List Event
of_seat s [] = []
of_seat s (e ∷ es) = if e.seat == s then e ∷ of_seat s es else of_seat s es

-- an event, as one value
abbrev pub event : ℕ → Choice → Event
event s choice = record { seat = s; choice = choice }
