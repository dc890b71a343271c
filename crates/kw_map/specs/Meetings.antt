-- What passes know after they met.
use Rattle.std.specs.Prelude.{◌≡◌, ℕ, ◌<◌, List, [], ◌∷◌, length, slice_index_or}
use mathlib.Core.List.{IsPrefix}
use Rattle.kw_world.specs.declared.event.Event.{Event}
use Rattle.kw_table.specs.declared.pass.Pass.{Pass}
use Rattle.kw_table.specs.declared.shared.Shared.{Shared}
use Rattle.kw_table.specs.Passes.{view, IsPassOf}
use Rattle.kw_table.specs.Views.{Meets}

-- the relation holds of the elements at each place
abbrev pub AtEach : {X Y : Type 0} → (X → Y → Type 0) → List X → List Y → Type 0
AtEach {X} {Y} R xs ys = (i : ℕ) (d : X) (e : Y) → i < length xs → R (slice_index_or xs i d) (slice_index_or ys i e)

-- p became q, and the front has seen all that q has
pub record Reaches (s : Shared) (front p q : Pass) : Type 0 where
  pub of_table : IsPassOf s q
  pub meets : Meets (view p) (view q)
  pub seen : IsPrefix (view q).seen (view front).seen

-- p became q, which has seen just E
pub record MeetsAt (s : Shared) (E : List Event) (p q : Pass) : Type 0 where
  pub of_table : IsPassOf s q
  pub meets : Meets (view p) (view q)
  pub seen : (view q).seen ≡ E

-- what the first of the passes has seen
abbrev pub front_seen : List Pass → List Event
front_seen [] = []
front_seen (p ∷ ps) = (view p).seen
