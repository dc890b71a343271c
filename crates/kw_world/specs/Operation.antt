-- What an action leaves in a word, and what it tells the seat.
use Rattle.std.specs.Prelude.{ℕ, ◌+◌, ◌<◌, ◌^◌, ◌==◌, if◌then◌else◌, bit_or}
use Rattle.kw_world.specs.declared.operation.Action.{Action}
use Rattle.kw_world.specs.declared.operation.Action.TheVariants.{Load, Store, Add, Or, Exchange}

-- the word after the action, where this one was found
abbrev pub word_after : Action → ℕ → ℕ
word_after Load found = found
word_after (Store word) found = word
word_after (Add number) found = found + number
word_after (Or bits) found = bit_or found bits
word_after (Exchange expected word) found = if found == expected then word else found

-- what the seat is told: the word found, and 0 for a store
abbrev pub told_by : Action → ℕ → ℕ
told_by Load found = found
told_by (Store word) found = 0
told_by (Add number) found = found
told_by (Or bits) found = found
told_by (Exchange expected word) found = found

-- a sum fits its word; every other action can always be done
abbrev pub CanHappen : Action → ℕ → Type 0
CanHappen Load found = Unit {0}
CanHappen (Store word) found = Unit {0}
CanHappen (Add number) found = found + number < 2 ^ 64
CanHappen (Or bits) found = Unit {0}
CanHappen (Exchange expected word) found = Unit {0}
