-- A seat's entry in a row, as a word.
use Rattle.std.specs.Prelude.{ℕ, ◌+◌, ◌*◌, ◌/◌, ◌%◌, ◌<◌, ◌≤◌, ◌==◌, ◌&&◌, nat_lt, if◌then◌else◌, Option, Some, None}
use Rattle.kw_words.specs.declared.pend.Pend.{Pend}
use Rattle.kw_words.specs.declared.pend.Pend.TheVariants.{Idle, Pending, Stamped, Frozen}
use Rattle.kw_words.specs.declared.sizes.TheConstants.{MOST_CELLS, VERSION_END, STAMP_UNIT}

-- the cell and the version of an entry are in range
abbrev pub IsPend : Pend → Type 0
IsPend Idle = Unit {0}
IsPend (Pending cell) = cell < MOST_CELLS
IsPend (Stamped cell version) = (cell < MOST_CELLS) × (1 ≤ version) × (version < VERSION_END)
IsPend Frozen = Unit {0}

-- the word for an entry
abbrev pub pend_word : Pend → ℕ
pend_word Idle = 0
pend_word (Pending cell) = 1 + 4 * cell
pend_word (Stamped cell version) = 2 + 4 * cell + STAMP_UNIT * version
pend_word Frozen = 3

-- the entry that a word stands for
unfoldable pub pend_of : ℕ → Option Pend
pend_of word =
    if word == 0 then Some Idle
    else if word == 3 then Some Frozen
    else if (word % 4 == 1) && nat_lt (word / 4) MOST_CELLS then Some (Pending (word / 4))
    else if (word % 4 == 2) && (nat_lt (word % STAMP_UNIT / 4) MOST_CELLS && (nat_lt 0 (word / STAMP_UNIT) && nat_lt (word / STAMP_UNIT) VERSION_END)) then Some (Stamped (word % STAMP_UNIT / 4) (word / STAMP_UNIT))
    else None
