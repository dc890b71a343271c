-- How few updates and scans are never refused: what so many ask of a table, at any sizes and at the
-- product's.
use Rattle.std.specs.Prelude.{ℕ, ◌≡◌, ◌+◌, ◌-◌, ◌*◌, ◌<◌, ◌≤◌, Some, List, slice_get}
use Rattle.kw_words.specs.declared.sizes.TheConstants.{BUILT, CELLS, SEATS, SPENT}
use Rattle.kw_world.specs.declared.activity.Activity.{Activity}
use Rattle.kw_world.specs.declared.answer.Answer.TheVariants.{NoRows}
use Rattle.kw_world.specs.declared.event.Event.{Event}
use Rattle.kw_world.specs.declared.limits.TheConstants.{MOST_CALLS, TIDY_SHARE}
use Rattle.kw_world.specs.declared.local.Local.{Local}
use Rattle.kw_world.specs.declared.opening.Opening.{Opening}
use Rattle.kw_world.specs.Sizes.{Sizes, product}
use Rattle.kw_core.specs.Run.{Run}
use Rattle.kw_counts.specs.Bank.{all_updates}
use Rattle.kw_counts.specs.Draws.{all_scans}
use Rattle.kw_counts.specs.Refusals.{HasNoRefusal}
use Rattle.kw_used.specs.Used.{HasRoom, TidyingIsLate}

-- the clock stays below its bound: each scan that was begun may have cost one version for each seat
abbrev pub HasVersionsLeft : Sizes → Opening → List Event → Type 0
HasVersionsLeft z o es = o.clock + z.seats * all_scans z o es < SPENT

-- the table has enough for the calls that were begun: rows for the updates at this price, so many
-- that by this share none is offered to tidy its row; and versions for the scans
pub record HasEnough (z : Sizes) (o : Opening) (es : List Event) (share price : ℕ) : Type 0 where
  pub room : HasRoom z o es price
  pub late : TidyingIsLate z o share (all_updates z o es)
  pub versions : HasVersionsLeft z o es

-- no put and no delete was refused, and no seat is about to refuse one for want of rows
pub record RefusesNone (r : Run) : Type 0 where
  pub refused : HasNoRefusal r.history
  pub standing : (t : ℕ) (l : Local) → slice_get r.world.locals t ≡ Some l → l.activity ≡ Activity.Leave NoRows → ⊥

-- At the product's sizes.

-- how many updates pay for each exchange that replaces a row
abbrev pub update_share : ℕ
update_share = CELLS - BUILT - SEATS

-- how many rows an update costs for each seat that acts
abbrev pub update_price : ℕ
update_price = 3

-- a new table has enough for the calls that were begun: at that price the updates leave so many
-- rows that none is offered to tidy, and the scans are no more than the seats may begin calls
pub record HasEnoughNew (o : Opening) (es : List Event) : Type 0 where
  pub rows : o.seats * (update_price * all_updates product o es) + TIDY_SHARE ≤ o.rows
  pub scans : all_scans product o es ≤ SEATS * MOST_CALLS
