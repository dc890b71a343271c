-- What is said of valid lists of events: of each event, and of a list at whose end one seat makes
-- all events.
use Rattle.std.specs.Prelude.{ℕ, ◌≡◌, ◌⊎◌, ◌+◌, ◌<◌, ◌++◌, ◌∷◌, [], List, take, length}
use Rattle.kw_world.specs.declared.activity.Activity.{Activity}
use Rattle.kw_world.specs.declared.activity.walk.Walk.TheVariants as Walk
use Rattle.kw_world.specs.declared.answer.Answer.{Answer}
use Rattle.kw_world.specs.declared.event.Event.{Event}
use Rattle.kw_world.specs.declared.opening.Opening.{Opening}
use Rattle.kw_world.specs.Sizes.{Sizes}
use Rattle.kw_world.specs.Step.{word}
use Rattle.kw_core.specs.Events.{local_of, world}
use Rattle.kw_core.specs.Stages.{IsBusy}
use Rattle.kw_shape.specs.Shape.{IsReadCall}
use Rattle.kw_alone.specs.Falls.{Falls}
use Rattle.kw_alone.specs.Marks.{IsMark}
use Rattle.kw_alone.specs.Rest.{rest}

-- what a seat does next after these events
abbrev pub activity_after : Sizes → Opening → ℕ → List Event → Activity
activity_after z o s es = (local_of (world z o es) s).activity

-- how many events it has left, at most, to a mark or to the beginning of a walk
abbrev pub left_after : Sizes → Opening → ℕ → List Event → ℕ
left_after z o s es = rest z o.rows (word z (world z o es)) (activity_after z o s es) (local_of (world z o es) s)

-- the event after these events is a mark of its seat, or the seat comes to the beginning of a walk,
-- or has fewer events left than before
abbrev pub FallsAfter : Sizes → Opening → List Event → Event → Type 0
FallsAfter z o es e = Falls z o.rows (word z (world z o es)) (word z (world z o (es ++ e ∷ []))) (activity_after z o e.seat es) (local_of (world z o es) e.seat) (local_of (world z o (es ++ e ∷ [])) e.seat)

-- an event that takes its seat from this activity to that one is a mark, or comes to the beginning
-- of a walk
abbrev pub IsTurn : Activity → Activity → Type 0
IsTurn a b = IsMark a b ⊎ (b ≡ Activity.Walk Walk.Start)

-- the event at place i of ys, which come after xs, takes seat s from one activity to another so
abbrev pub ComesAt : (Activity → Activity → Type 0) → Sizes → Opening → ℕ → List Event → List Event → ℕ → Type 0
ComesAt R z o s xs ys i = (i < length ys) × R (activity_after z o s (xs ++ take i ys)) (activity_after z o s (xs ++ take (i + 1) ys))

-- it is a mark, or comes to the beginning of a walk
abbrev pub TurnsAt : Sizes → Opening → ℕ → List Event → List Event → ℕ → Type 0
TurnsAt = ComesAt IsTurn

-- it is a mark
abbrev pub MarksAt : Sizes → Opening → ℕ → List Event → List Event → ℕ → Type 0
MarksAt = ComesAt IsMark

-- it ends a call
abbrev pub IsEnd : Activity → Activity → Type 0
IsEnd a b = (answer : Answer) × (a ≡ Activity.Leave answer)

abbrev pub EndsAt : Sizes → Opening → ℕ → List Event → List Event → ℕ → Type 0
EndsAt = ComesAt IsEnd

-- after these events the seat makes a get or a scan
abbrev pub IsReadBy : Sizes → Opening → ℕ → List Event → Type 0
IsReadBy z o s es = IsReadCall (local_of (world z o es) s).call × IsBusy (activity_after z o s es)
