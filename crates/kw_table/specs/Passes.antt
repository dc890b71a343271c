-- What contracts see of a pass, and what its steps ask and give.
use Rattle.std.specs.Prelude.{◌≡◌, ℕ, true, false, []}
use Rattle.kw_words.specs.declared.kind.Kind.{Kind}
use Rattle.kw_words.specs.declared.layout.Name.{Name}
use Rattle.kw_world.specs.declared.event.Choice.{Choice}
use Rattle.kw_world.specs.declared.operation.Action.{Action}
use Rattle.kw_world.specs.declared.opening.Opening.{Opening}
use Rattle.kw_world.specs.declared.operation.Operation.{Operation}
use Rattle.kw_world.specs.Local.{resting}
use Rattle.kw_world.specs.Step.{is_skipped}
use Rattle.kw_core.specs.Events.{may_begin}
use Rattle.kw_table.specs.Views.{local_in, mine_in, transition_in, Steps}
use Rattle.kw_table.specs.declared.pass.Pass.{Pass}
use Rattle.kw_table.specs.declared.pass.View.{View}
use Rattle.kw_table.specs.declared.shared.Shared.{Shared}

-- what the pass has seen
abbrev pub view : Pass → View
view p = p.seat.me.0

-- what the run of the table began with
abbrev pub opening_of : Shared → Opening
opening_of s = s.opening

-- the pass is one of this table
abbrev pub IsPassOf : Shared → Pass → Type 0
IsPassOf s p = (p.seat.table_id ≡ s.table.shared.table_id) × (p.seat.me.0.opening ≡ s.opening)

-- a pass of the table with this number that has seen and done nothing
pub record IsFresh (s : Shared) (n : ℕ) (p : Pass) : Type 0 where
  pub of_table : IsPassOf s p
  pub number : (view p).number ≡ n
  pub seen : (view p).seen ≡ []
  pub mine : mine_in (view p) ≡ []
  pub local : local_in (view p) ≡ resting 0

-- an operation, as one value
abbrev pub operation : Kind → Name → Action → Operation
operation kind name action = record { kind = kind; name = name; action = action }

-- the pass is one of the table, and with this choice its next event is this operation; a call that
-- it begins, where its seat is idle, is in range
pub record Asks (s : Shared) (p : Pass) (c : Choice) (does : Operation) : Type 0 where
  pub of_table : IsPassOf s p
  pub begins : may_begin (local_in (view p)).activity c ≡ true
  pub moves : is_skipped (local_in (view p)).activity c ≡ false
  pub next : (transition_in (view p) c).operation ≡ does

-- the pass has made this event, and was told this
pub record Makes (s : Shared) (p : Pass) (c : Choice) (told : ℕ) (q : Pass) : Type 0 where
  pub of_table : IsPassOf s q
  pub step : Steps (view p) c told (view q)
