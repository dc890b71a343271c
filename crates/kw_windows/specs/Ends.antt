-- Numbers that fall from place to place until an end comes, and runs that begin once.
use Rattle.std.specs.Prelude.{ℕ, ◌≡◌, ◌+◌, ◌<◌, ◌≤◌, Bool, true, false}
use Rattle.kw_windows.specs.Triples.{Triple, Falls, IsWithin}

-- there is an end among the first n places
abbrev pub HasEnd : ℕ → (ℕ → Bool) → Type 0
HasEnd n ends = (i : ℕ) × (i < n) × (ends i ≡ true)

-- none of the places up to this one is an end
abbrev pub HasNoneUpTo : ℕ → (ℕ → Bool) → Type 0
HasNoneUpTo i ends = (j : ℕ) → j ≤ i → ends j ≡ false

-- a number falls at each of the first n places, as long as no end has come
abbrev pub FallsUntil : ℕ → (ℕ → Bool) → (ℕ → ℕ) → Type 0
FallsUntil n ends f = (i : ℕ) → i < n → HasNoneUpTo i ends → f (i + 1) < f i

-- a triple does, and its last two numbers stay within bounds
pub record TripleFallsUntil (moves rest n : ℕ) (ends : ℕ → Bool) (f : ℕ → Triple) : Type 0 where
  pub falls : (i : ℕ) → i < n → HasNoneUpTo i ends → Falls (f i) (f (i + 1))
  pub within : (i : ℕ) → i < n → HasNoneUpTo i ends → IsWithin moves rest (f (i + 1))

-- a number with a bound falls at each of the first n places but those where the run begins, and it
-- begins once at most, as long as no end has come
pub record BeginsOnce (most n : ℕ) (ends begins : ℕ → Bool) (f : ℕ → ℕ) : Type 0 where
  pub bound : (i : ℕ) → f i ≤ most
  pub falls : (i : ℕ) → i < n → HasNoneUpTo i ends → begins i ≡ false → f (i + 1) < f i
  pub once : (i j : ℕ) → i < j → j < n → begins i ≡ true → begins j ≡ true → HasNoneUpTo j ends → ⊥
