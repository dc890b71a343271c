-- The sizes that the definitions are over.
use Rattle.std.specs.Prelude.{ℕ}
use Rattle.kw_words.specs.declared.sizes.TheConstants.{SEATS, CELLS, BUILT}

-- how many seats have an entry in each row, how many cells a row has, and how many of them are
-- filled when it is built
pub record Sizes : Type 0 where
  pub seats : ℕ
  pub cells : ℕ
  pub built : ℕ

-- the sizes of the product
abbrev pub product : Sizes
product = record { seats = SEATS; cells = CELLS; built = BUILT }
