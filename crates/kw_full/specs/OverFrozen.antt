-- Where the attempts stand that never get a version.
use Rattle.std.specs.Prelude.{ℕ, ◌≡◌, ◌⊎◌, ◌<◌, true, length, slice_get}
use Rattle.kw_world.specs.Sizes.{Sizes}
use Rattle.kw_world.specs.Step.{word}
use Rattle.kw_core.specs.History.{attempt}
use Rattle.kw_core.specs.Run.{Run}
use Rattle.kw_puts.specs.Freezes.{IsFrozen}
use Rattle.kw_puts.specs.Puts.{IsCurrent, IsHere}

-- a seat is at work on the attempt, or it is stamped, or its row is frozen
abbrev pub IsOverFrozen : Sizes → Run → ℕ → Type 0
IsOverFrozen z r p = IsCurrent (slice_get r.world.locals) r.seats r.history p ⊎ ((attempt r.history p).is_stamped ≡ true) ⊎ IsFrozen (word z r.world) (attempt r.history p).row

-- what every valid list keeps: so it is with each attempt whose row was not used again. A seat goes
-- on from one that has no version only where its row is frozen
pub record KeepsOver (z : Sizes) (r : Run) : Type 0 where
  pub over : (p : ℕ) → p < length r.history.attempts → IsHere r.ledger.rows r.history p → IsOverFrozen z r p
