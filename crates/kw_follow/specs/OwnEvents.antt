-- Single events of a pass's own, among those that it has seen.
use Rattle.std.specs.Prelude.{◌≡◌, ℕ, List, [], ◌∷◌, ◌++◌}
use mathlib.Core.List.{IsPrefix}
use Rattle.kw_world.specs.declared.activity.Activity.{Activity}
use Rattle.kw_world.specs.declared.event.Choice.{Choice}
use Rattle.kw_world.specs.declared.event.Event.{Event}
use Rattle.kw_world.specs.declared.local.Local.{Local}
use Rattle.kw_world.specs.declared.opening.Opening.{Opening}
use Rattle.kw_world.specs.Operation.{told_by}
use Rattle.kw_world.specs.Transition.{Transition}
use Rattle.kw_world.specs.WalkTransitions.{offered}
use Rattle.kw_world.specs.Sizes.{product}
use Rattle.kw_world.specs.Step.{word, transition_of}
use Rattle.kw_core.specs.Events.{local_of, world, of_seat, event}
use Rattle.kw_table.specs.declared.pass.Pass.{Pass}
use Rattle.kw_table.specs.Passes.{view}
use Rattle.kw_follow.specs.Following.{known}

-- what the pass's seat knew after these events
abbrev pub knew : Pass → List Event → Local
knew p es = local_of (world product (view p).opening es) (view p).number

-- the line of the table of events by which this seat makes its event with this choice, after these
-- events
abbrev pub transition_after : Opening → List Event → ℕ → Choice → Transition
transition_after o es n c = transition_of product n (offered o.rows c) (local_of (world product o es) n)

-- among the events from the first list to the second is one of this seat, made at this activity
-- with this choice, which was told this
pub record SawIn (o : Opening) (n : ℕ) (old new : List Event) (a : Activity) (c : Choice) (told : ℕ) : Type 0 where
  -- the events before it
  pub front : List Event
  pub later : IsPrefix old front
  pub here : IsPrefix (front ++ event n c ∷ []) new
  pub activity : (local_of (world product o front) n).activity ≡ a
  pub tells : told ≡ told_by (transition_after o front n c).operation.action (word product (world product o front) (transition_after o front n c).operation.name)

-- among the events that the pass has seen since is such an event of its own
abbrev pub Saw : Pass → Pass → Activity → Choice → ℕ → Type 0
Saw p q a c told = SawIn (view p).opening (view p).number (view p).seen (view q).seen a c told

-- there is such an event, made where the seat knew this, and it is the first one of the pass's own
-- since
pub record SawAs (p q : Pass) (l : Local) (c : Choice) (told : ℕ) : Type 0 where
  pub saw : Saw p q l.activity c told
  pub knew : known (local_of (world product (view p).opening saw.front) (view p).number) ≡ known l
  pub first : of_seat (view p).number saw.front ≡ of_seat (view p).number (view p).seen

-- the pass made just one event since, at this activity, and it was told this
abbrev pub SawOnly : Pass → Pass → Activity → ℕ → Type 0
SawOnly p q a told = (b : Activity) (c : Choice) (n : ℕ) → Saw p q b c n → (b ≡ a) × (n ≡ told)
