-- What the sizes of a map owe each other and the encodings, as a record over the sizes, and that
-- the product's sizes pay it: other sizes are right where they have such a record.
use Rattle.std.proofs.Common.{ℕ, ◌+◌, ◌*◌, ◌-◌, ◌/◌, ◌%◌, ◌<◌, ◌≤◌, ◌≡◌, refl, arith}
use Rattle.kw_words.specs.declared.sizes.TheConstants.{SEATS, CELLS, BUILT, SEAT_COUNT, CELL_COUNT, BUILT_COUNT, MOST_SEATS, MOST_CELLS, MOST_ROWS, MOST_GROUP, MOST_NEW_ROWS, VERSION_END, NUMBER_END, SPENT, FROZEN_BIT}
use Rattle.kw_words.specs.Layout.{IsSized}

-- how many rows of the table stand against a put for each seat
abbrev pub rows_for_a_put : ℕ
rows_for_a_put = 3

-- what the sizes of a map owe
pub record Inequalities (seats cells built : ℕ) : Type 0 where
  -- there is a seat, and the encodings have room for all
  pub some_seats : 1 ≤ seats
  pub few_seats : seats ≤ MOST_SEATS
  -- a row has a cell, and the encodings have room for all
  pub some_cells : 1 ≤ cells
  pub few_cells : cells ≤ MOST_CELLS
  -- a new row holds a cell
  pub some_built : 1 ≤ built
  -- a new row has room for a cell of each seat beside those that it is built with
  pub built_has_room : built + seats < cells
  -- the rows that a rebalance builds have room for all cells of the rows that it replaces, since
  -- two neighbours hold more than a new row may
  pub new_rows_have_room : MOST_GROUP * cells < (MOST_NEW_ROWS + 1) / 2 * (built + 1)
  -- the puts that fill a new row pay for the rows that its rebalance builds, with a row in hand for
  -- each seat
  pub puts_pay_for_rows : MOST_NEW_ROWS * (seats + 1) ≤ rows_for_a_put * (cells - built - seats)
  -- a try of each seat after the last cell does not reach the frozen bit
  pub tries_below_frozen : cells + seats < FROZEN_BIT
  -- what seats may still draw once the clock is spent fits in a word
  pub clock_has_room : SPENT + seats * seats + seats < VERSION_END
  -- the numbers that seats may still take once the epoch is spent, one for each row that a
  -- rebalance replaces, fit in a word
  pub epoch_has_room : SPENT + MOST_GROUP * seats + 1 < NUMBER_END

-- the product's sizes pay it
pub product : Inequalities SEATS CELLS BUILT
product = record { some_seats = omega arith; few_seats = omega arith; some_cells = omega arith; few_cells = omega arith; some_built = omega arith; built_has_room = omega arith; new_rows_have_room = omega arith; puts_pay_for_rows = omega arith; tries_below_frozen = omega arith; clock_has_room = omega arith; epoch_has_room = omega arith }

-- sizes that pay it are those of a layout, with any number of rows in range
pub are_sized : (seats cells built : ℕ) → Inequalities seats cells built → (rows : ℕ) → 1 ≤ rows → rows ≤ MOST_ROWS → IsSized seats cells rows
are_sized seats cells built owed rows some few = record { some_seats = owed.some_seats; few_seats = owed.few_seats; some_cells = owed.some_cells; few_cells = owed.few_cells; some_rows = some; few_rows = few }

-- an odd number of rows, so that the last one counts as one more pair of neighbours
pub new_rows_are_odd : MOST_NEW_ROWS % 2 ≡ 1
new_rows_are_odd = refl

-- the seats are as many as code counts in words
pub seat_count : SEAT_COUNT ≡ SEATS
seat_count = refl

-- the cells are as many as code counts in words
pub cell_count : CELL_COUNT ≡ CELLS
cell_count = refl

-- the cells of a new row are as many as code counts in words
pub built_count : BUILT_COUNT ≡ BUILT
built_count = refl
