-- The words that hold one number, or none: keys, values, versions, announced epochs and links
-- between cells; and the word of a row's least key, which holds two.
use Rattle.std.specs.Prelude.{ℕ, ◌+◌, ◌-◌, ◌*◌, ◌/◌, ◌%◌, ◌<◌, ◌≤◌, ◌==◌, nat_lt, nat_le, if◌then◌else◌, Option, Some, None}
use Rattle.kw_words.specs.declared.sizes.TheConstants.{MOST_CELLS, KEY_END, VALUE_END}

-- the value, if there is one, is in range
abbrev pub IsValue : Option ℕ → Type 0
IsValue (Some value) = value < VALUE_END
IsValue None = Unit {0}

-- the word for a value; none is a tombstone
abbrev pub value_word : Option ℕ → ℕ
value_word (Some value) = VALUE_END + value
value_word None = 0

-- the value that a word stands for, or a tombstone
unfoldable pub value_of_word : ℕ → Option ℕ
value_of_word word = if nat_lt word VALUE_END then None else Some (word - VALUE_END)

-- the number, if there is one, is not 0
abbrev pub IsCounted : Option ℕ → Type 0
IsCounted (Some number) = 1 ≤ number
IsCounted None = Unit {0}

-- the number itself, and 0 for none
abbrev pub number_word : Option ℕ → ℕ
number_word (Some number) = number
number_word None = 0

-- the number that a word stands for
unfoldable pub number_of_word : ℕ → Option ℕ
number_of_word word = if word == 0 then None else Some word

-- the word for the version of a cell; a cell without one has none
abbrev pub version_word : Option ℕ → ℕ
version_word = number_word

-- the version that a word stands for
abbrev pub version_of_word : ℕ → Option ℕ
version_of_word = number_of_word

-- the word for the epoch that a seat has announced; outside a call it has none
abbrev pub pass_word : Option ℕ → ℕ
pass_word = number_word

-- the announced epoch that a word stands for
abbrev pub pass_of_word : ℕ → Option ℕ
pass_of_word = number_of_word

-- the cell, if there is one, is in range
abbrev pub IsCell : Option ℕ → Type 0
IsCell (Some cell) = cell < MOST_CELLS
IsCell None = Unit {0}

-- the word for the link to a cell; the last cell of a list leads to none
abbrev pub cell_link_word : Option ℕ → ℕ
cell_link_word (Some cell) = cell + 1
cell_link_word None = 0

-- the cell that a link leads to
unfoldable pub cell_of_link_word : ℕ → Option ℕ
cell_of_link_word word = if word == 0 then None else if nat_le word MOST_CELLS then Some (word - 1) else None

-- the word for the key of a cell
abbrev pub key_word : ℕ → ℕ
key_word key = key

-- the key that a word stands for, of a cell or the least of a row
unfoldable pub key_of_word : ℕ → ℕ
key_of_word word = word % KEY_END

-- the word for the least key of a row that was built with so many cells
abbrev pub least_word : ℕ → ℕ → ℕ
least_word key built = key + KEY_END * built

-- with how many cells a row was built, of the word for its least key
unfoldable pub built_of_word : ℕ → ℕ
built_of_word word = word / KEY_END
