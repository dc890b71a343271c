-- How counts of cells compare.
use Rattle.std.proofs.Common.{ℕ, suc, zero, ◌≡◌, ◌⊎◌, inl, inr, ◌+◌, ◌<◌, ◌≤◌, Bool, true, false, arith, refl, sym, ◌∙◌, ap}
use Rattle.std.proofs.lemmas.Bool.{cases_lt}
use Rattle.kw_lists.specs.Counts.{count_below, one_if}

-- one is the most that a test adds
one_most : (b : Bool) → one_if b ≤ 1
one_most true = omega arith
one_most false = omega arith

-- no more are counted than there are
pub count_most : (n : ℕ) (f : ℕ → Bool) → count_below n f ≤ n
unfolding count_below
count_most zero f = omega arith
count_most (suc n) f = omega (arith, one_most (f n), count_most n f)

-- a cell that is not counted leaves room
pub count_less : (n : ℕ) (f : ℕ → Bool) (c : ℕ) → c < n → f c ≡ false → count_below n f < n
unfolding count_below
count_less zero f c u e = absurd (omega arith)
count_less (suc n) f c u e = which (λ x. count_less n f c x e) (cases_lt c n)
  where
    which : (c < n → count_below n f < n) → (c < n) ⊎ (n ≤ c) → one_if (f n) + count_below n f < suc n
    which k (inl x) = omega (arith, one_most (f n), k x)
    which _ (inr x) = let k : c ≡ n = omega arith in let y : f n ≡ false = ap f (sym k) ∙ e in rw y (omega (arith, count_most n f))

-- the number of one test against that of another that holds where it does
one_grows : (a b : Bool) → (a ≡ true → b ≡ true) → one_if a ≤ one_if b
one_grows true b h = rw (h refl) (omega arith)
one_grows false b h = omega arith

-- a test that holds wherever the other does counts no fewer
pub count_grows : (n : ℕ) (f g : ℕ → Bool) → ((c : ℕ) → f c ≡ true → g c ≡ true) → count_below n f ≤ count_below n g
unfolding count_below
count_grows zero f g h = omega arith
count_grows (suc n) f g h = omega (arith, one_grows (f n) (g n) (h n), count_grows n f g h)

-- and one more where it holds of a cell that the other leaves out
pub count_gains : (n : ℕ) (f g : ℕ → Bool) (c : ℕ) → c < n → f c ≡ false → g c ≡ true → ((d : ℕ) → f d ≡ true → g d ≡ true) → count_below n f < count_below n g
unfolding count_below
count_gains zero f g c u e w h = absurd (omega arith)
count_gains (suc n) f g c u e w h = which (λ x. count_gains n f g c x e w h) (cases_lt c n)
  where
    which : (c < n → count_below n f < count_below n g) → (c < n) ⊎ (n ≤ c) → one_if (f n) + count_below n f < one_if (g n) + count_below n g
    which k (inl x) = omega (arith, one_grows (f n) (g n) (h n), k x)
    which _ (inr x) =
        let k : c ≡ n = omega arith in
        let y : f n ≡ false = ap f (sym k) ∙ e in
        let z : g n ≡ true = ap g (sym k) ∙ w in
        rw (y, z) (omega (arith, count_grows n f g h))
