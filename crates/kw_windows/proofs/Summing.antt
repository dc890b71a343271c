-- How sums below a bound compare, and products of unknown numbers, which linear arithmetic leaves
-- alone.
use Rattle.std.proofs.Common.{ℕ, suc, zero, ◌≡◌, ◌≢◌, ◌⊎◌, inl, inr, ◌+◌, ◌*◌, ◌<◌, ◌≤◌, arith, refl, ap}
use Rattle.std.proofs.lemmas.Bool.{cases_lt, cases_eq}
use Rattle.kw_windows.specs.Sums.{sum_below}

-- one more time
pub times_one_more : (a b : ℕ) → a * (b + 1) ≡ a * b + a
times_one_more a b = grind arith

-- a sum of numbers of which none is above a bound
pub sum_most : (n : ℕ) (f : ℕ → ℕ) (c : ℕ) → ((t : ℕ) → t < n → f t ≤ c) → sum_below n f ≤ n * c
unfolding sum_below
sum_most zero f c h = omega arith
sum_most (suc n) f c h =
    let here : f n ≤ c = h n (omega arith) in
    let more : sum_below n f ≤ n * c = sum_most n f c (λ t u. h t (omega (arith, u))) in
    grind (arith, here, more)

-- sums of which no number of the one is above that of the other
pub sum_grows : (n : ℕ) (f g : ℕ → ℕ) → ((t : ℕ) → t < n → f t ≤ g t) → sum_below n f ≤ sum_below n g
unfolding sum_below
sum_grows zero f g h = omega arith
sum_grows (suc n) f g h = omega (arith, h n (omega arith), sum_grows n f g (λ t u. h t (omega (arith, u))))

-- sums of the same numbers
pub sum_same : (n : ℕ) (f g : ℕ → ℕ) → ((t : ℕ) → t < n → g t ≡ f t) → sum_below n g ≡ sum_below n f
unfolding sum_below
sum_same zero f g h = refl
sum_same (suc n) f g h = omega (arith, h n (omega arith), sum_same n f g (λ t u. h t (omega (arith, u))))

-- a sum of which one number changes
pub sum_one_changed : (n t : ℕ) (f g : ℕ → ℕ) → t < n → ((u : ℕ) → u ≢ t → g u ≡ f u) → sum_below n g + f t ≡ sum_below n f + g t
unfolding sum_below
sum_one_changed zero t f g below h = absurd (omega (arith, below))
sum_one_changed (suc n) t f g below h = which (λ less. sum_one_changed n t f g less h) (cases_eq n t)
  where
    which : (t < n → sum_below n g + f t ≡ sum_below n f + g t) → (n ≡ t) ⊎ (n ≡ t → ⊥) → g n + sum_below n g + f t ≡ f n + sum_below n f + g t
    which rest (inl e) =
        let others : sum_below n g ≡ sum_below n f = sum_same n f g (λ u k. h u (λ i. omega (arith, k, i, e))) in
        omega (arith, others, ap f e, ap g e)
    which rest (inr other) = omega (arith, h n other, rest (less (cases_lt t n)))
      where
        less : (t < n) ⊎ (n ≤ t) → t < n
        less (inl x) = x
        less (inr x) = absurd (other (omega (arith, x, below)))
