-- Which seat made a row lead: one whose put or delete found it full. As long as no update is
-- refused and none tidies, that call has no put yet, and no cell of the row, and goes on for a key
-- of the row. So no seat has made two rows lead.
use Rattle.std.specs.Prelude.{ℕ, ◌≡◌, ◌<◌, ◌≤◌, true, None, Some, length, slice_get}
use Rattle.kw_lists.specs.Counts.{count_below}
use Rattle.kw_world.specs.declared.local.Local.{Local}
use Rattle.kw_world.specs.Calls.{first_key}
use Rattle.kw_world.specs.Sizes.{Sizes}
use Rattle.kw_world.specs.Step.{word}
use Rattle.kw_core.specs.History.{attempt, called}
use Rattle.kw_core.specs.Run.{Run}
use Rattle.kw_core.specs.Stages.{IsBusy}
use Rattle.kw_core.specs.Words.{given_in}
use Rattle.kw_puts.specs.Here.{IsMadeIn}
use Rattle.kw_shape.specs.Shape.{HoldsKey, IsPutCall}
use Rattle.kw_counts.specs.Counts.{Counts}
use Rattle.kw_counts.specs.Leaders.{is_leading}
use Rattle.kw_counts.specs.Refusals.{IsBeforeRefusals}

-- the seat t is in a put or a delete for a key of the row x, which is full; its call has no put
-- yet, and was given no cell of the row
pub record HasEngaged (z : Sizes) (r : Run) (x t : ℕ) : Type 0 where
  pub local : Local
  pub knows : slice_get r.world.locals t ≡ Some local
  pub busy : IsBusy local.activity
  pub update : IsPutCall local.call
  pub unstamped : (called r.history (r.seats t).call).put ≡ None
  pub holds : HoldsKey (word z r.world) r.ledger.rows x (first_key local.call)
  pub full : z.cells ≤ given_in (word z r.world) x
  pub none : (p : ℕ) → p < length r.history.attempts → (attempt r.history p).call ≡ (r.seats t).call → IsMadeIn r.ledger.rows r.history x p → ⊥

-- what every valid list keeps
pub record KeepsEngagers (z : Sizes) (r : Run) (c : Counts) : Type 0 where
  -- the seat that made a row lead is still in such a call
  pub engaged : IsBeforeRefusals z r → (x : ℕ) → is_leading z r x ≡ true → HasEngaged z r x (c.engager x)
  -- so no more rows lead than there are seats
  pub few : IsBeforeRefusals z r → count_below r.world.rows (is_leading z r) ≤ z.seats
