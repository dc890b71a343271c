-- Where cells were stamped.
use Rattle.std.specs.Prelude.{ℕ, ◌≡◌}
use Rattle.kw_world.specs.Sizes.{Sizes}
use Rattle.kw_world.specs.Step.{word}
use Rattle.kw_world.specs.WorldView.{WorldView}
use Rattle.kw_shape.specs.ReachedRows.{IsReached}
use Rattle.kw_counts.specs.Counts.{Counts}

-- what every valid list keeps: stamps are counted of rows of the list alone, for a cell is stamped
-- in no other, and those of a row are banked where it goes
pub record KeepsStamps (z : Sizes) (w : WorldView) (c : Counts) : Type 0 where
  pub rows : (q : ℕ) → (IsReached (word z w) q → ⊥) → c.stamps.here q ≡ 0
