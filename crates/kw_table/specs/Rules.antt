-- The rule: there is one valid list of events, which every view's list begins, and it leads to the
-- table's words, each at its slot.
use Rattle.std.specs.Prelude.{◌≡◌, ℕ, ◌+◌, ◌<◌, ◌≤◌, true, List}
use mathlib.Core.Option.{some}
use mathlib.Core.List.{IsPrefix}
use lib.ListN.{get_elem?}
use Rattle.atomic_table.specs.Table.{State}
use Rattle.kw_world.specs.declared.event.Event.{Event}
use Rattle.kw_world.specs.declared.opening.Opening.{Opening}
use Rattle.kw_world.specs.Sizes.{product}
use Rattle.kw_core.specs.Events.{world, is_valid, of_seat}
use Rattle.kw_table.specs.declared.pass.View.{View}
use Rattle.kw_table.specs.Slots.{IsLaid}

-- the seats of the run that a view may act for
abbrev pub Owns : View → ℕ → Type 0
Owns v n = (v.number ≤ n) × (n < v.number + v.count)

-- what a view has seen and was told of begins the list; it has seen all events of the seats that it
-- may act for
pub record Fits (o : Opening) (es : List Event) (v : View) : Type 0 where
  pub seen : IsPrefix v.seen es
  pub told : IsPrefix v.told es
  pub seats : (n : ℕ) → Owns v n → n < o.seats
  pub own : (n : ℕ) → Owns v n → of_seat n es ≡ of_seat n v.seen

-- the list is valid, the words are those of the world after it, each at its slot, each view fits
-- it, and no two views act for one seat
pub record Kept (o : Opening) (ws : List ℕ) (views : List View) (es : List Event) : Type 0 where
  pub valid : is_valid product o es ≡ true
  pub words : IsLaid o.rows (world product o es).words ws
  pub fits : (i : ℕ) (v : View) → get_elem? views i ≡ some v → Fits o es v
  pub apart : (i j n : ℕ) (v w : View) → get_elem? views i ≡ some v → get_elem? views j ≡ some w → Owns v n → Owns w n → i ≡ j

-- there is such a list
abbrev pub Rule : Opening → State (Unit {0}) View → Type 0
Rule o s = (es : List Event) × Kept o s.words s.views es
