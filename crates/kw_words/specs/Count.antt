-- How many cells of a row were asked for, as a word.
use Rattle.std.specs.Prelude.{ℕ, ◌+◌, ◌-◌, ◌<◌, nat_lt, if◌then◌else◌, true, false, Option, Some, None}
use Rattle.kw_words.specs.declared.count.Count.{Count}
use Rattle.kw_words.specs.declared.sizes.TheConstants.{FROZEN_BIT}

-- the cells asked for are counted below the frozen bit
abbrev pub IsCount : Count → Type 0
IsCount count = count.given < FROZEN_BIT

-- the word for a count
abbrev pub count_word : Count → ℕ
count_word count = if count.frozen then count.given + FROZEN_BIT else count.given

-- the count that a word stands for
unfoldable pub count_of : ℕ → Option Count
count_of word =
    if nat_lt word FROZEN_BIT then Some (record { given = word; frozen = false })
    else if nat_lt (word - FROZEN_BIT) FROZEN_BIT then Some (record { given = word - FROZEN_BIT; frozen = true })
    else None
