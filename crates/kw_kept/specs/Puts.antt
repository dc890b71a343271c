-- Puts and their order, the greatest of a set of them, and when two sets show the same.
use Rattle.std.specs.Prelude.{ℕ, ◌≡◌, ◌⊎◌, ◌<◌, ◌≤◌, Bool, true, Option, Some, None}

-- a put of a value, or of none: a tombstone. `add` is the position at which it was given its cell,
-- `at` the one at which it was stamped with its version
pub record Put : Type 0 where
  pub key : ℕ
  pub version : ℕ
  pub add : ℕ
  pub at : ℕ
  pub value : Option ℕ

-- each put has a number
abbrev pub Puts : Type 0
Puts = ℕ → Put

-- the set that a test picks out: a contract can quantify over tests, and not over sets
abbrev pub On : (ℕ → Bool) → ℕ → Type 0
On test p = test p ≡ true

-- a set for each row, or for each seat, that a test picks out
abbrev pub OnEach : (ℕ → ℕ → Bool) → ℕ → ℕ → Type 0
OnEach test q p = test q p ≡ true

-- by version, and by the place of the add where the versions are equal
abbrev pub StandsBefore : Puts → ℕ → ℕ → Type 0
StandsBefore puts p q = ((puts p).version < (puts q).version) ⊎ (((puts p).version ≡ (puts q).version) × ((puts p).add < (puts q).add))

-- q is the put of this option, or stands before it
abbrev pub StandsUpTo : Puts → Option ℕ → ℕ → Type 0
StandsUpTo puts None q = ⊥
StandsUpTo puts (Some p) q = (q ≡ p) ⊎ StandsBefore puts q p

-- no two of the set were given their cells at one event
abbrev pub AreApart : Puts → (ℕ → Type 0) → Type 0
AreApart puts P = (p q : ℕ) → P p → P q → (puts p).add ≡ (puts q).add → p ≡ q

-- of those of the set that have this key and a version of at most u, the greatest; or none where
-- there are none
pub record Greatest (puts : Puts) (P : ℕ → Type 0) (k u : ℕ) (o : Option ℕ) : Type 0 where
  pub among : (p : ℕ) → o ≡ Some p → P p × ((puts p).key ≡ k) × ((puts p).version ≤ u)
  pub greatest : (q : ℕ) → P q → (puts q).key ≡ k → (puts q).version ≤ u → StandsUpTo puts o q

-- the set has a greatest, or is known to have none of the key
abbrev pub HasGreatest : Puts → (ℕ → Type 0) → ℕ → ℕ → Type 0
HasGreatest puts P k u = (o : Option ℕ) × Greatest puts P k u o

-- the value that is shown: none where there is no put, or a tombstone
abbrev pub value_of : Puts → Option ℕ → Option ℕ
value_of puts None = None
value_of puts (Some p) = (puts p).value

-- both are one put, or neither shows a value
abbrev pub Same : Puts → Option ℕ → Option ℕ → Type 0
Same puts a b = (a ≡ b) ⊎ (value_of puts a ≡ None) × (value_of puts b ≡ None)

-- the first set shows for the key at this version what the second shows
abbrev pub Shows : Puts → (ℕ → Type 0) → (ℕ → Type 0) → ℕ → ℕ → Type 0
Shows puts P Q k u = (b t : Option ℕ) → Greatest puts P k u b → Greatest puts Q k u t → Same puts b t
