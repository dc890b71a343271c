-- The words of a world as a function of names, and what they say of a row.
use Rattle.std.specs.Prelude.{ℕ, Option}
use Rattle.kw_words.specs.declared.layout.Name.{Name}
use Rattle.kw_words.specs.declared.layout.Name.TheVariants as name
use Rattle.kw_words.specs.Link.{link_of}
use Rattle.kw_words.specs.Count.{count_of}
use Rattle.kw_words.specs.Plain.{key_of_word, built_of_word}
use Rattle.kw_world.specs.Transition.{row_linked}
use Rattle.kw_world.specs.PutTransitions.{given_of}

-- the words by name
abbrev pub Words : Type 0
Words = Name → ℕ

-- the row after a row, or none
abbrev pub next_in : Words → ℕ → Option ℕ
next_in v r = row_linked (link_of (v (name.Next r)))

-- the least key that a row may hold
abbrev pub least_in : Words → ℕ → ℕ
least_in v r = key_of_word (v (name.Least r))

-- with how many cells a row was built
abbrev pub built_in : Words → ℕ → ℕ
built_in v r = built_of_word (v (name.Least r))

-- how many cells of a row were asked for
abbrev pub given_in : Words → ℕ → ℕ
given_in v r = given_of (count_of (v (name.Count r)))
