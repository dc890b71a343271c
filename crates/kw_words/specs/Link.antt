-- The link from one row to the next, as a word.
use Rattle.std.specs.Prelude.{ℕ, ◌+◌, ◌-◌, ◌<◌, ◌==◌, nat_lt, nat_le, if◌then◌else◌, true, false, Option, Some, None}
use Rattle.kw_words.specs.declared.link.Link.{Link}
use Rattle.kw_words.specs.declared.sizes.TheConstants.{MOST_ROWS, MARK_BIT}

-- the row, if there is one, is in range
abbrev pub IsRow : Option ℕ → Type 0
IsRow (Some row) = row < MOST_ROWS
IsRow None = Unit {0}

-- the row of a link is in range
abbrev pub IsLink : Link → Type 0
IsLink link = IsRow link.row

-- the word for an unmarked link
abbrev pub row_word : Option ℕ → ℕ
row_word (Some row) = row + 1
row_word None = 0

-- the word for a link
abbrev pub link_word : Link → ℕ
link_word link = if link.marked then row_word link.row + MARK_BIT else row_word link.row

-- the row that an unmarked link leads to
abbrev pub row_of : ℕ → Option ℕ
row_of word = if word == 0 then None else Some (word - 1)

-- the link that a word stands for
unfoldable pub link_of : ℕ → Option Link
link_of word =
    if nat_le word MOST_ROWS then Some (record { row = row_of word; marked = false })
    else if nat_lt word MARK_BIT then None
    else if nat_le (word - MARK_BIT) MOST_ROWS then Some (record { row = row_of (word - MARK_BIT); marked = true })
    else None
