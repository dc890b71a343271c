-- Lists of pairs of a key and its value, and the list that a range of keys shows. A scan of a row
-- and a scan of the plain list are both said in these words.
use Rattle.std.specs.Prelude.{ℕ, zero, suc, ◌-◌, ◌≡◌, ◌≤◌, ◌==◌, List, [], ◌∷◌, Option, Some, None, All, if◌then◌else◌}

-- pairs of a key and its value
abbrev pub Pairs : Type 0
Pairs = List (ℕ × ℕ)

-- the keys rise strictly, and none is below `low`
abbrev pub RisesFrom : ℕ → Pairs → Type 0
RisesFrom low [] = Unit {0}
RisesFrom low (p ∷ m) = (low ≤ p.0) × RisesFrom (suc p.0) m

-- the keys rise strictly
abbrev pub IsRising : Pairs → Type 0
IsRising m = RisesFrom 0 m

-- the value of a key
abbrev pub value_of : ℕ → Pairs → Option ℕ
value_of k [] = None
value_of k (p ∷ m) = if k == p.0 then Some p.1 else value_of k m

-- the pairs are those of the keys from a to b that show a value, each with the value that it shows,
-- by strictly rising key; at most one list is so
pub record ShowsRange (shown : ℕ → Option ℕ) (a b : ℕ) (pairs : Pairs) : Type 0 where
  pub rising : IsRising pairs
  pub inside : All (λ p. (a ≤ p.0) × (p.0 ≤ b)) pairs
  pub each : (k : ℕ) → a ≤ k → k ≤ b → value_of k pairs ≡ shown k

-- the pair of a key that shows a value, before other pairs
abbrev pub with_shown : ℕ → Option ℕ → Pairs → Pairs
with_shown k None m = m
with_shown k (Some v) m = (k, v) ∷ m

-- the pairs of those of n keys from `low` on that show a value
unfoldable pub pairs_along : (ℕ → Option ℕ) → ℕ → ℕ → Pairs
pairs_along shown low zero = []
pairs_along shown low (suc n) = with_shown low (shown low) (pairs_along shown (suc low) n)

-- the pairs of the keys from a to b that show a value, by rising key
unfoldable pub pairs_between : (ℕ → Option ℕ) → ℕ → ℕ → Pairs
pairs_between shown a b = pairs_along shown a (suc b - a)
