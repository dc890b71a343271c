-- Three numbers of which the first that changes falls: a measure of how long a seat goes on alone,
-- by the rows that are yet to be replaced, the moves from row to row in between, and the events to
-- the next of these.
use Rattle.std.specs.Prelude.{ℕ, ◌≡◌, ◌⊎◌, ◌+◌, ◌*◌, ◌<◌, ◌≤◌}

pub record Triple : Type 0 where
  pub wins : ℕ
  pub moves : ℕ
  pub rest : ℕ

-- the first that changes falls
abbrev pub Falls : Triple → Triple → Type 0
Falls x y = (y.wins < x.wins) ⊎ (y.wins ≡ x.wins) × ((y.moves < x.moves) ⊎ (y.moves ≡ x.moves) × (y.rest < x.rest))

-- the last two are bounded
pub record IsWithin (most_moves most_rest : ℕ) (x : Triple) : Type 0 where
  pub moves : x.moves ≤ most_moves
  pub rest : x.rest ≤ most_rest

-- how many times a triple may fall whose last two are so bounded
abbrev pub weight : ℕ → ℕ → Triple → ℕ
weight moves rest x = (x.wins * (moves + 1) + x.moves) * (rest + 1) + x.rest
