-- What follows for the rows of a table: how few builds a seat makes in a window, and how few rows
-- are taken for so many updates.
use Rattle.std.specs.Prelude.{ℕ, ◌≡◌, ◌+◌, ◌*◌, ◌<◌, ◌≤◌, true, Some, List, slice_get}
use Rattle.kw_words.specs.declared.sizes.TheConstants.{MOST_GROUP}
use Rattle.kw_lists.specs.Counts.{count_below}
use Rattle.kw_world.specs.declared.activity.Activity.{Activity}
use Rattle.kw_world.specs.declared.answer.Answer.TheVariants.{NoRows}
use Rattle.kw_world.specs.declared.event.Event.{Event}
use Rattle.kw_world.specs.declared.limits.TheConstants.{TIDY_SHARE}
use Rattle.kw_world.specs.declared.local.Local.{Local}
use Rattle.kw_world.specs.declared.opening.Opening.{Opening}
use Rattle.kw_world.specs.Sizes.{Sizes}
use Rattle.kw_core.specs.Events.{is_valid}
use Rattle.kw_core.specs.Run.{Run, history}
use Rattle.kw_counts.specs.Bank.{IsShare, KeepsBank, all_updates, puts_in}
use Rattle.kw_counts.specs.Builds.{IsMostOfBuild}
use Rattle.kw_counts.specs.Counts.{Counts, counts}
use Rattle.kw_counts.specs.Engagers.{KeepsEngagers}
use Rattle.kw_counts.specs.Leaders.{is_leading}
use Rattle.kw_counts.specs.Refusals.{IsBeforeRefusals}
use Rattle.kw_used.specs.Seats.{in_window}

-- What it follows from, which the laws of the bank say of every valid list (`kw_counts`).

-- every valid list keeps what is said of those who make rows lead
abbrev pub AreEngaged : Sizes → Opening → Type 0
AreEngaged z o = (es : List Event) → is_valid z o es ≡ true → KeepsEngagers z (history z o es) (counts z o es)

-- and what is said of the updates that pay for rows
abbrev pub AreBanked : Sizes → Opening → Type 0
AreBanked z o = (es : List Event) → is_valid z o es ≡ true → KeepsBank z o es (history z o es) (counts z o es)

-- What every valid list keeps.

-- of the builds of a seat that took a row in this window at most one is for a row that had gone,
-- and the others are no more than the rows that lead
pub record KeepsFewBuilds (z : Sizes) (r : Run) (c : Counts) : Type 0 where
  pub lives : IsBeforeRefusals z r → (t : ℕ) → in_window c.wins (c.builds t) (c.builds t).lives ≤ count_below r.world.rows (is_leading z r)
  pub deads : IsBeforeRefusals z r → (t : ℕ) → in_window c.wins (c.builds t) (c.builds t).deads ≤ 1

-- a build takes so many rows at most, and at this price the share of an exchange pays for as many
-- builds as there are seats, and two more
pub record IsPriceOf (z : Sizes) (build share price : ℕ) : Type 0 where
  pub most : IsMostOfBuild z build
  pub cells : IsShare z share
  pub pays : build * (z.seats + 2) ≤ price * share

-- the rows that were ever in use are the first one and those that the stamped updates paid for, of
-- which each costs this price for each seat that acts
pub record KeepsUsed (z : Sizes) (o : Opening) (r : Run) (c : Counts) : Type 0 where
  pub rows : IsBeforeRefusals z r → (build share price : ℕ) → IsPriceOf z build share price → count_below o.rows c.ever ≤ o.seats * (price * puts_in r.history.calls) + 1

-- Few enough updates.

-- the rows are so many that the first one, and at this price all updates that were begun, leave one
abbrev pub HasRoom : Sizes → Opening → List Event → ℕ → Type 0
HasRoom z o es price = o.seats * (price * all_updates z o es) + 1 < o.rows

-- where each share of so many updates has cost the numbers of a group, the table has enough rows
-- for each number: no put that is done is offered to tidy its row
abbrev pub TidyingIsLate : Sizes → Opening → ℕ → ℕ → Type 0
TidyingIsLate z o share updates = TIDY_SHARE * (share * o.epoch + MOST_GROUP * updates) ≤ share * o.rows

-- no seat is about to refuse an update for want of rows, as long as none was refused
pub record HasNoneShort (z : Sizes) (r : Run) : Type 0 where
  pub none : IsBeforeRefusals z r → (t : ℕ) (l : Local) → slice_get r.world.locals t ≡ Some l → l.activity ≡ Activity.Leave NoRows → ⊥
