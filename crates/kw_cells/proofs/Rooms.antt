-- The sizes leave room for a rebuild: those of the product, and the greatest that the encodings
-- have room for.
use Rattle.std.proofs.Common.{ℕ, suc, ◌≡◌, ◌<◌, ◌≤◌, ◌+◌, ◌*◌, ◌/◌, refl, arith}
use Rattle.kw_words.specs.declared.sizes.TheConstants.{SEATS, CELLS, BUILT, MOST_SEATS, MOST_CELLS, MOST_GROUP}
use Rattle.kw_cells.specs.declared.limits.TheConstants.{MOST_GATHERED, MOST_NEEDED, MOST_STARTS}

-- how many rows are enough for so many cells, where two neighbours have more than `built`: an odd
-- number, since the last row stands alone
pub record AreEnough (gathered built rows : ℕ) : Type 0 where
  pub pairs : ℕ
  pub odd : rows ≡ pairs + pairs + 1
  pub more : gathered < suc pairs * (built + 1)

-- what a rebuild needs of the sizes
pub record HaveRoom (seats cells built group gathered needed rows : ℕ) : Type 0 where
  pub each_seat : 2 * seats ≤ needed
  pub each_key : needed + 1 ≤ built
  pub each_group : group * cells ≤ gathered
  pub enough : AreEnough gathered built rows

-- at the product's sizes
pub room_here : HaveRoom SEATS CELLS BUILT MOST_GROUP MOST_GATHERED MOST_NEEDED MOST_STARTS
room_here = record { each_seat = omega arith; each_key = omega arith; each_group = omega arith; enough = record { pairs = 3; odd = refl; more = omega arith } }

-- at the greatest sizes, with two versions for each seat and half of a row built
pub room_greatest : HaveRoom MOST_SEATS MOST_CELLS (MOST_CELLS / 2) MOST_GROUP (MOST_GROUP * MOST_CELLS) (2 * MOST_SEATS) MOST_STARTS
room_greatest = record { each_seat = omega arith; each_key = omega arith; each_group = omega arith; enough = record { pairs = 3; odd = refl; more = omega arith } }
