-- How many links of rows a view's seat has loaded, by the events that the view has seen.
use Rattle.std.specs.Prelude.{ℕ, ◌+◌, ◌==◌, if◌then◌else◌, Option, Some, None, List, [], ◌∷◌}
use Rattle.kw_words.specs.declared.kind.Kind.{Kind}
use Rattle.kw_words.specs.declared.kind.Kind.TheVariants.{LoadLink}
use Rattle.kw_world.specs.declared.event.Event.{Event}
use Rattle.kw_world.specs.Opening.{opened}
use Rattle.kw_world.specs.Sizes.{product}
use Rattle.kw_world.specs.Step.{step, kind_of}
use Rattle.kw_world.specs.WorldView.{WorldView}
use Rattle.kw_table.specs.declared.pass.View.{View}

-- how many links of rows an operation of this kind loads
abbrev pub walks_by : Kind → ℕ
walks_by LoadLink = 1
walks_by kind = 0

-- the same of an event, which is of no kind where it is skipped
abbrev pub walks_of : Option Kind → ℕ
walks_of (Some kind) = walks_by kind
walks_of None = 0

-- how many seat n loads by this event, which comes in this world
unfoldable pub walks_at : ℕ → WorldView → Event → ℕ
walks_at n w e = if e.seat == n then walks_of (kind_of product w e) else 0

-- how many it loads by these events, of which the first comes in this world
unfoldable pub walks_from : ℕ → WorldView → List Event → ℕ
walks_from n w [] = 0
walks_from n w (e ∷ es) = walks_at n w e + walks_from n (step product w e).world es

-- how many the view's seat has loaded
abbrev pub walks_in : View → ℕ
walks_in v = walks_from v.number (opened product v.opening) v.seen
