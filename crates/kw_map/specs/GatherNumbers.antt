-- For which lists a gatherer stands that keeps one number.
use Rattle.std.specs.Prelude.{ℕ, ◌≡◌, ◌+◌, ◌<◌, All, length, sum, Option, Some, None}
use Rattle.kw_words.specs.declared.sizes.TheConstants.{VALUE_END}
use Rattle.kw_model.specs.Map.{Pairs, IsRising}
use Rattle.kw_model.specs.Values.{values, least, greatest}
use Rattle.kw_map.specs.Gather.{last_key}

-- what such a gatherer knows: the last key taken, or none, and its number
pub record Tally (X : Type 0) : Type 0 where
  pub last : Option ℕ
  pub number : X

-- the list rises by key, its values are in range, and it has this last key and this number
pub record IsTallyOf {X : Type 0} (number_of : Pairs → X) (tally : Tally X) (list : Pairs) : Type 0 where
  pub rising : IsRising list
  pub in_range : All (λ p. p.1 < VALUE_END) list
  pub last : tally.last ≡ last_key None list
  pub number : tally.number ≡ number_of list

-- the lists whose values have this sum
abbrev pub Sums : Tally ℕ → Pairs → Type 0
Sums = IsTallyOf (λ list. sum (values list))

-- the lists of this many pairs
abbrev pub Counts : Tally ℕ → Pairs → Type 0
Counts = IsTallyOf (λ list. length list)

-- the lists whose least value is this one, or that have none
abbrev pub HaveLeast : Tally (Option ℕ) → Pairs → Type 0
HaveLeast = IsTallyOf (λ list. least (values list))

-- the lists whose greatest value is this one, or that have none
abbrev pub HaveGreatest : Tally (Option ℕ) → Pairs → Type 0
HaveGreatest = IsTallyOf (λ list. greatest (values list))

-- how many keys there are up to the last one taken
abbrev pub keys_upto : Option ℕ → ℕ
keys_upto None = 0
keys_upto (Some key) = key + 1
