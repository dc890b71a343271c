-- Where the words lie in the memory of the running table: those of no row a line apart, the rows
-- behind them, each from the start of a line on, and behind the rows the states of all of them side
-- by side.
use Rattle.std.specs.Prelude.{ℕ, Bool, true, false, ◌≡◌, ◌+◌, ◌-◌, ◌*◌, ◌/◌, List, length, slice_index}
use Rattle.kw_words.specs.declared.layout.Name.{Name}
use Rattle.kw_words.specs.declared.layout.Name.TheVariants.{Clock, Epoch, Head, Turn, Pass, Scan, Pin, State, Count, Least, Next, First, Pend, Key, Value, Version, After}
use Rattle.kw_words.specs.declared.sizes.TheConstants.{SEATS, CELLS}
use Rattle.kw_words.specs.Layout.{IsWithin, row_start, place_of, words_of}
use Rattle.kw_table.specs.declared.slot.TheConstants.{WORDS_A_LINE, LEFT_OUT}

-- the word is of no row
abbrev pub is_rowless : Name → Bool
is_rowless Clock = true
is_rowless Epoch = true
is_rowless Head = true
is_rowless Turn = true
is_rowless (Pass seat) = true
is_rowless (Scan seat) = true
is_rowless (Pin seat) = true
is_rowless (State row) = false
is_rowless (Count row) = false
is_rowless (Least row) = false
is_rowless (Next row) = false
is_rowless (First row) = false
is_rowless (Pend row seat) = false
is_rowless (Key row cell) = false
is_rowless (Value row cell) = false
is_rowless (Version row cell) = false
is_rowless (After row cell) = false

-- how many words are of no row: their places are those before the first row
abbrev pub rowless : ℕ
rowless = row_start SEATS CELLS 0

-- as many slots as whole lines have that hold so many words
abbrev pub in_lines : ℕ → ℕ
in_lines words = (words + (WORDS_A_LINE - 1)) / WORDS_A_LINE * WORDS_A_LINE

-- where the line with this number begins
abbrev pub line_slot : ℕ → ℕ
line_slot line = LEFT_OUT + line * WORDS_A_LINE

-- how many slots the head of a row has: four words of its own, and an entry for each seat
abbrev pub head_slots : ℕ
head_slots = in_lines (4 + SEATS)

-- how many slots a row has: its head and its cells
abbrev pub row_slots : ℕ
row_slots = head_slots + in_lines (4 * CELLS)

-- where a row begins
abbrev pub row_slot : ℕ → ℕ
row_slot row = line_slot rowless + row * row_slots

-- where a cell of a row begins
abbrev pub cell_slot : ℕ → ℕ → ℕ
cell_slot row cell = row_slot row + head_slots + 4 * cell

-- where a word of a table of this many rows lies; the states begin where the next row would
abbrev pub slot : ℕ → Name → ℕ
slot rows Clock = line_slot (place_of SEATS CELLS Clock)
slot rows Epoch = line_slot (place_of SEATS CELLS Epoch)
slot rows Head = line_slot (place_of SEATS CELLS Head)
slot rows Turn = line_slot (place_of SEATS CELLS Turn)
slot rows (Pass seat) = line_slot (place_of SEATS CELLS (Pass seat))
slot rows (Scan seat) = line_slot (place_of SEATS CELLS (Scan seat))
slot rows (Pin seat) = line_slot (place_of SEATS CELLS (Pin seat))
slot rows (State row) = row_slot rows + row
slot rows (Count row) = row_slot row
slot rows (Least row) = row_slot row + 1
slot rows (Next row) = row_slot row + 2
slot rows (First row) = row_slot row + 3
slot rows (Pend row seat) = row_slot row + 4 + seat
slot rows (Key row cell) = cell_slot row cell
slot rows (Value row cell) = cell_slot row cell + 1
slot rows (Version row cell) = cell_slot row cell + 2
slot rows (After row cell) = cell_slot row cell + 3

-- how many words the memory of a table of this many rows has: the states are the last of them
abbrev pub slots : ℕ → ℕ
slots rows = row_slot rows + rows

-- the memory of a table of this many rows holds its words, each at its slot
pub record IsLaid (rows : ℕ) (words memory : List ℕ) : Type 0 where
  pub words_len : length words ≡ words_of SEATS CELLS rows
  pub memory_len : length memory ≡ slots rows
  pub each : (name : Name) → IsWithin SEATS CELLS rows name → slice_index memory (slot rows name) ≡ slice_index words (place_of SEATS CELLS name)
