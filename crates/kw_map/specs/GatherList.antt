-- What the gatherer of all pairs is seen as.
use Rattle.std.specs.Prelude.{ℕ, ◌≡◌}
use Rattle.kw_model.specs.Map.{Pairs}

-- the pairs that it keeps, in order, and how often it stopped
pub record Listed : Type 0 where
  pub pairs : Pairs
  pub stops : ℕ

-- the list that it keeps, and no other
abbrev pub IsListed : Listed → Pairs → Type 0
IsListed kept list = kept.pairs ≡ list
