-- How many rows a build takes.
use Rattle.std.specs.Prelude.{ℕ, ◌≡◌, ◌+◌, ◌*◌, ◌<◌, ◌≤◌, Some, length, slice_get}
use Rattle.kw_words.specs.declared.sizes.TheConstants.{MOST_GROUP}
use Rattle.kw_world.specs.declared.local.Local.{Local}
use Rattle.kw_world.specs.Sizes.{Sizes}
use Rattle.kw_world.specs.WorldView.{WorldView}
use Rattle.kw_shape.specs.Infants.{nursing_of}
use Rattle.kw_shape.specs.Keyed.{IsPlanned}

-- so many rows are enough for all cells of a group, where each two neighbours have more cells than
-- one new row may have: an odd number, since the last row stands alone
pub record IsMostOfBuild (z : Sizes) (most : ℕ) : Type 0 where
  pub pairs : ℕ
  pub odd : most ≡ pairs + pairs + 1
  pub more : MOST_GROUP * z.cells < (pairs + 1) * (z.built + 1)

-- what every valid list keeps: a seat that seeks, writes or links new rows has taken no more
pub record KeepsBuilds (z : Sizes) (w : WorldView) : Type 0 where
  pub rows : (t : ℕ) (l : Local) → slice_get w.locals t ≡ Some l → IsPlanned (nursing_of l.activity) → (most : ℕ) → IsMostOfBuild z most → length l.rebalance.taken ≤ most
