-- The places of the words, for any number of seats and of cells in a row.
use Rattle.std.specs.Prelude.{ℕ, ◌+◌, ◌*◌, ◌<◌, ◌≤◌}
use Rattle.kw_words.specs.declared.layout.Name.{Name}
use Rattle.kw_words.specs.declared.layout.Name.TheVariants.{Clock, Epoch, Head, Turn, Pass, Scan, Pin, State, Count, Least, Next, First, Pend, Key, Value, Version, After}
use Rattle.kw_words.specs.declared.sizes.TheConstants.{MOST_SEATS, MOST_CELLS, MOST_ROWS}

-- the sizes that a table may have
pub record IsSized (seats cells rows : ℕ) : Type 0 where
  pub some_seats : 1 ≤ seats
  pub few_seats : seats ≤ MOST_SEATS
  pub some_cells : 1 ≤ cells
  pub few_cells : cells ≤ MOST_CELLS
  pub some_rows : 1 ≤ rows
  pub few_rows : rows ≤ MOST_ROWS

-- how many words a row has
abbrev pub row_len : ℕ → ℕ → ℕ
row_len seats cells = 5 + seats + 4 * cells

-- where a row begins
abbrev pub row_start : ℕ → ℕ → ℕ → ℕ
row_start seats cells row = 4 + 3 * seats + row * row_len seats cells

-- where a cell of a row begins
abbrev pub cell_start : ℕ → ℕ → ℕ → ℕ → ℕ
cell_start seats cells row cell = row_start seats cells row + 5 + seats + 4 * cell

-- how many words a table has: the next row would begin there
abbrev pub words_of : ℕ → ℕ → ℕ → ℕ
words_of seats cells rows = row_start seats cells rows

-- the place of a word
abbrev pub place_of : ℕ → ℕ → Name → ℕ
place_of seats cells Clock = 0
place_of seats cells Epoch = 1
place_of seats cells Head = 2
place_of seats cells Turn = 3
place_of seats cells (Pass seat) = 4 + seat
place_of seats cells (Scan seat) = 4 + seats + seat
place_of seats cells (Pin seat) = 4 + 2 * seats + seat
place_of seats cells (State row) = row_start seats cells row
place_of seats cells (Count row) = row_start seats cells row + 1
place_of seats cells (Least row) = row_start seats cells row + 2
place_of seats cells (Next row) = row_start seats cells row + 3
place_of seats cells (First row) = row_start seats cells row + 4
place_of seats cells (Pend row seat) = row_start seats cells row + 5 + seat
place_of seats cells (Key row cell) = cell_start seats cells row cell
place_of seats cells (Value row cell) = cell_start seats cells row cell + 1
place_of seats cells (Version row cell) = cell_start seats cells row cell + 2
place_of seats cells (After row cell) = cell_start seats cells row cell + 3

-- the word's seat, row and cell are those of a table with this many rows
abbrev pub IsWithin : ℕ → ℕ → ℕ → Name → Type 0
IsWithin seats cells rows Clock = Unit {0}
IsWithin seats cells rows Epoch = Unit {0}
IsWithin seats cells rows Head = Unit {0}
IsWithin seats cells rows Turn = Unit {0}
IsWithin seats cells rows (Pass seat) = seat < seats
IsWithin seats cells rows (Scan seat) = seat < seats
IsWithin seats cells rows (Pin seat) = seat < seats
IsWithin seats cells rows (State row) = row < rows
IsWithin seats cells rows (Count row) = row < rows
IsWithin seats cells rows (Least row) = row < rows
IsWithin seats cells rows (Next row) = row < rows
IsWithin seats cells rows (First row) = row < rows
IsWithin seats cells rows (Pend row seat) = (row < rows) × (seat < seats)
IsWithin seats cells rows (Key row cell) = (row < rows) × (cell < cells)
IsWithin seats cells rows (Value row cell) = (row < rows) × (cell < cells)
IsWithin seats cells rows (Version row cell) = (row < rows) × (cell < cells)
IsWithin seats cells rows (After row cell) = (row < rows) × (cell < cells)
