-- What a view says, and what a step and a look tell of it.
use Rattle.std.specs.Prelude.{◌≡◌, ℕ, ◌-◌, true, List, [], ◌∷◌, ◌++◌, Some}
use mathlib.Core.List.{IsPrefix}
use Rattle.atomic_table.specs.Table.{Me}
use Rattle.kw_world.specs.declared.event.Choice.{Choice}
use Rattle.kw_world.specs.declared.event.Event.{Event}
use Rattle.kw_world.specs.declared.local.Local.{Local}
use Rattle.kw_world.specs.declared.opening.Opening.{Opening}
use Rattle.kw_world.specs.Operation.{told_by}
use Rattle.kw_world.specs.Transition.{Transition}
use Rattle.kw_world.specs.WalkTransitions.{offered}
use Rattle.kw_world.specs.Sizes.{product}
use Rattle.kw_world.specs.Step.{word, transition_of, kind_of}
use Rattle.kw_core.specs.Events.{local_of, world, is_valid, of_seat, event}
use Rattle.kw_table.specs.declared.pass.View.{View}

-- what the view's seat knows after the events that the view has seen
abbrev pub local_in : View → Local
local_in v = local_of (world product v.opening v.seen) v.number

-- the view's own events
abbrev pub mine_in : View → List Event
mine_in v = of_seat v.number v.seen

-- the line of the table of events by which the seat makes its next event, with this choice
abbrev pub transition_in : View → Choice → Transition
transition_in v c = transition_of product v.number (offered v.opening.rows c) (local_in v)

-- The view v made its next event with this choice, was told this, and became w. It has then seen
-- all events up to and with this one, which is the only new one of its own.
pub record Steps (v : View) (c : Choice) (told : ℕ) (w : View) : Type 0 where
  pub number : w.number ≡ v.number
  pub count : w.count ≡ v.count
  pub opening : w.opening ≡ v.opening
  -- the events before this one
  pub front : List Event
  pub later : IsPrefix v.seen front
  pub seen : w.seen ≡ front ++ event v.number c ∷ []
  pub valid : is_valid product v.opening w.seen ≡ true
  pub mine : mine_in w ≡ mine_in v ++ event v.number c ∷ []
  -- in the world before it the seat knows what it knew, and the event is of the kind that its line
  -- names
  pub here : local_of (world product v.opening front) v.number ≡ local_in v
  pub kind : kind_of product (world product v.opening front) (event v.number c) ≡ Some (transition_in v c).operation.kind
  -- the seat is told what the operation tells of that world's word, and goes on by it
  pub told_there : told ≡ told_by (transition_in v c).operation.action (word product (world product v.opening front) (transition_in v c).operation.name)
  pub local : local_in w ≡ ((transition_in v c).next v.opening.rows told).local

-- w has seen all that v has seen and was told of, and no event of its own is new
pub record Looks (v w : View) : Type 0 where
  pub number : w.number ≡ v.number
  pub count : w.count ≡ v.count
  pub opening : w.opening ≡ v.opening
  pub seen : IsPrefix v.seen w.seen
  pub told : IsPrefix v.told w.seen
  pub valid : is_valid product v.opening w.seen ≡ true
  pub mine : mine_in w ≡ mine_in v
  pub local : local_in w ≡ local_in v

-- a seat's view, and the slots that it holds: none in this table
abbrev pub Mine : Type 0
Mine = Me (Unit {0}) View

-- what a step tells its caller, where its operation found this word
abbrev pub StepsFor : Choice → Mine → ℕ → Mine → Type 0
StepsFor c m found n = (n.1 ≡ m.1) × Steps m.0 c (told_by (transition_in m.0 c).operation.action found) n.0

-- what a look tells its caller
abbrev pub LooksFor : Mine → Mine → Type 0
LooksFor m n = (n.1 ≡ m.1) × Looks m.0 n.0

-- the same, of a view that then has seen just what it was told of
abbrev pub CatchesFor : Mine → Mine → Type 0
CatchesFor m n = (n.1 ≡ m.1) × Looks m.0 n.0 × (n.0.seen ≡ m.0.told)

-- w has seen all that v has seen, and is the same in all else
pub record Meets (v w : View) : Type 0 where
  pub number : w.number ≡ v.number
  pub opening : w.opening ≡ v.opening
  pub seen : IsPrefix v.seen w.seen
  pub mine : mine_in w ≡ mine_in v
  pub local : local_in w ≡ local_in v

-- what is left of a view that was joined
abbrev pub spent_view : View
spent_view = record { number = 0; count = 0; opening = record { rows = 0; seats = 0; clock = 0; epoch = 0 }; seen = []; told = [] }

-- a note of what a view has seen
abbrev pub note_of : View → View
note_of v = record { number = 0; count = 0; opening = v.opening; seen = v.seen; told = [] }

-- the view, told of these events
abbrev pub told_of : View → List Event → View
told_of v es = record { number = v.number; count = v.count; opening = v.opening; seen = v.seen; told = es }

-- the view that may act for the seats from n on, which have done nothing
abbrev pub rest_view : Opening → ℕ → View
rest_view o n = record { number = n; count = o.seats - n; opening = o; seen = []; told = [] }
