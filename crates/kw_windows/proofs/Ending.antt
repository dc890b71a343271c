-- What falls until an end comes is no longer than it was high.
use Rattle.std.proofs.Common.{ℕ, suc, zero, ◌≡◌, ◌⊎◌, inl, inr, ◌+◌, ◌*◌, ◌<◌, ◌≤◌, Bool, true, false, arith, refl, ◌∙◌, ap}
use Rattle.std.proofs.lemmas.Bool.{cases_lt}
use Rattle.kw_windows.specs.Triples.{Triple, weight}
use Rattle.kw_windows.specs.Ends.{HasEnd, HasNoneUpTo, FallsUntil, TripleFallsUntil, BeginsOnce}
use Rattle.kw_windows.proofs.Falling.{weighs_less}

-- An end, or none.

-- none of the first n places is one
abbrev HasNone : ℕ → (ℕ → Bool) → Type 0
HasNone n ends = (i : ℕ) → i < n → ends i ≡ false

-- a place that is none after others that are none
one_more : (n : ℕ) (ends : ℕ → Bool) → HasNone n ends → ends n ≡ false → HasNone (suc n) ends
one_more n ends none e i below = which (cases_lt i n)
  where
    which : (i < n) ⊎ (n ≤ i) → ends i ≡ false
    which (inl x) = none i x
    which (inr x) = let k : i ≡ n = omega (arith, x, below) in ap ends k ∙ e

-- an end among so many places, or none
searched : (n : ℕ) (ends : ℕ → Bool) → HasEnd n ends ⊎ HasNone n ends
searched zero ends = inr (λ i u. absurd (omega (arith, u)))
searched (suc n) ends = which (searched n ends) (ends n) refl
  where
    which : HasEnd n ends ⊎ HasNone n ends → (b : Bool) → ends n ≡ b → HasEnd (suc n) ends ⊎ HasNone (suc n) ends
    which (inl r) b e = inl (r.0, omega (arith, r.1), r.2)
    which (inr none) true e = inl (n, omega arith, e)
    which (inr none) false e = inr (one_more n ends none e)

-- none before a place is none up to it
up_to : (n : ℕ) (ends : ℕ → Bool) → HasNone (suc n) ends → HasNoneUpTo n ends
up_to n ends none j u = none j (omega (arith, u))

-- Numbers.

-- as long as no end has come the number has fallen at each place
fallen : (most n : ℕ) (ends : ℕ → Bool) (f : ℕ → ℕ) → FallsUntil most ends f → n ≤ most → HasNone n ends → n + f n ≤ f 0
fallen most zero ends f falls below none = omega arith
fallen most (suc n) ends f falls below none =
    let before : n + f n ≤ f 0 = fallen most n ends f falls (omega (arith, below)) (λ i u. none i (omega (arith, u))) in
    let here : f (n + 1) < f n = falls n (omega (arith, below)) (up_to n ends none) in
    let same : f (suc n) ≡ f (n + 1) = ap f (omega arith) in
    omega (arith, before, here, same)

-- so a run that is longer has an end
pub number_ends : (n : ℕ) (ends : ℕ → Bool) (f : ℕ → ℕ) → FallsUntil n ends f → f 0 < n → HasEnd n ends
number_ends n ends f falls long = which (searched n ends)
  where
    which : HasEnd n ends ⊎ HasNone n ends → HasEnd n ends
    which (inl r) = r
    which (inr none) = absurd (omega (arith, long, fallen n n ends f falls (omega arith) none))

-- a triple is as high as it weighs
pub triple_ends : (moves rest n : ℕ) (ends : ℕ → Bool) (f : ℕ → Triple) → TripleFallsUntil moves rest n ends f → weight moves rest (f 0) < n → HasEnd n ends
triple_ends moves rest n ends f k long = number_ends n ends (λ i. weight moves rest (f i)) (λ i below none. weighs_less moves rest (f i) (f (i + 1)) (k.within i below none) (k.falls i below none)) long

-- A run that begins once.

module _ (most n : ℕ) (ends begins : ℕ → Bool) (f : ℕ → ℕ) (k : BeginsOnce most n ends begins f) (none : HasNone n ends) where
  -- from a place on the number falls until the run begins
  falls_from : (from m : ℕ) → from + m ≤ n → FallsUntil m (λ i. begins (from + i)) (λ i. f (from + i))
  falls_from from m room i below so_far =
      let next : f (from + (i + 1)) ≡ f (from + i + 1) = ap f (omega arith) in
      let fell : f (from + i + 1) < f (from + i) = k.falls (from + i) (omega (arith, below, room)) (λ j u. none j (omega (arith, u, below, room))) (so_far i (omega arith)) in
      omega (arith, fell, next)

  -- so it begins not much later
  begins_after : (from : ℕ) → from + most + 1 ≤ n → (i : ℕ) × (from ≤ i) × (i < from + most + 1) × (begins i ≡ true)
  begins_after from room =
      let r = number_ends (most + 1) (λ i. begins (from + i)) (λ i. f (from + i)) (falls_from from (most + 1) (omega (arith, room))) (omega (arith, k.bound (from + 0))) in
      (from + r.0, omega arith, omega (arith, r.1), r.2)

  -- and twice in a long run
  no_end : 2 * most + 2 ≤ n → ⊥
  no_end long =
      let r = begins_after 0 (omega (arith, long)) in
      let s = begins_after (r.0 + 1) (omega (arith, r.2, long)) in
      k.once r.0 s.0 (omega (arith, s.1)) (omega (arith, s.2, r.2, long)) r.3 s.3 (λ j u. none j (omega (arith, u, s.2, r.2, long)))

pub begun_ends : (most n : ℕ) (ends begins : ℕ → Bool) (f : ℕ → ℕ) → BeginsOnce most n ends begins f → 2 * most + 2 ≤ n → HasEnd n ends
begun_ends most n ends begins f k long = which (searched n ends)
  where
    which : HasEnd n ends ⊎ HasNone n ends → HasEnd n ends
    which (inl r) = r
    which (inr none) = absurd (no_end most n ends begins f k none long)
