-- The rows that are reached from Head along links: the rows of the list, as one who follows it sees
-- them.
use Rattle.std.specs.Prelude.{ℕ, ◌≡◌, Some}
use Rattle.kw_words.specs.declared.layout.Name.TheVariants as name
use Rattle.kw_words.specs.Link.{link_of}
use Rattle.kw_world.specs.Transition.{row_linked}
use Rattle.kw_core.specs.Words.{Words, next_in}

-- the first row, to which Head leads, and with each row the one to which its link leads; whether a
-- link is marked does not matter
pub data IsReached (v : Words) : ℕ → Type 0 where
  is_first : (q : ℕ) → row_linked (link_of (v name.Head)) ≡ Some q → IsReached v q
  is_next : (p q : ℕ) → IsReached v p → next_in v p ≡ Some q → IsReached v q
