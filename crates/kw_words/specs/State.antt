-- The state of a row, as a word.
use Rattle.std.specs.Prelude.{ℕ, ◌+◌, ◌*◌, ◌/◌, ◌%◌, ◌<◌, ◌≤◌, ◌==◌, ◌&&◌, nat_lt, nat_le, if◌then◌else◌, Option, Some, None}
use Rattle.kw_words.specs.declared.state.State.{State}
use Rattle.kw_words.specs.declared.state.State.TheVariants.{Free, Infant, Normal, Leader, Follower, Retired}
use Rattle.kw_words.specs.declared.sizes.TheConstants.{MOST_SEATS, MOST_GROUP, MOST_ROWS, NUMBER_END}

-- the seat, the count, the row and the number of a state are in range
abbrev pub IsState : State → Type 0
IsState Free = Unit {0}
IsState (Infant seat) = seat < MOST_SEATS
IsState Normal = Unit {0}
IsState (Leader count) = count ≤ MOST_GROUP
IsState (Follower leader) = leader < MOST_ROWS
IsState (Retired number) = (1 ≤ number) × (number < NUMBER_END)

-- the word for a state
abbrev pub state_word : State → ℕ
state_word Free = 0
state_word (Infant seat) = 1 + 8 * seat
state_word Normal = 2
state_word (Leader count) = 3 + 8 * count
state_word (Follower leader) = 4 + 8 * leader
state_word (Retired number) = 5 + 8 * number

-- the state that a word stands for
unfoldable pub state_of : ℕ → Option State
state_of word =
    if word == 0 then Some Free
    else if word == 2 then Some Normal
    else if (word % 8 == 1) && nat_lt (word / 8) MOST_SEATS then Some (Infant (word / 8))
    else if (word % 8 == 3) && nat_le (word / 8) MOST_GROUP then Some (Leader (word / 8))
    else if (word % 8 == 4) && nat_lt (word / 8) MOST_ROWS then Some (Follower (word / 8))
    else if (word % 8 == 5) && (nat_lt 0 (word / 8) && nat_lt (word / 8) NUMBER_END) then Some (Retired (word / 8))
    else None
