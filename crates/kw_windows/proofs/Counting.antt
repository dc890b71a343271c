-- How many numbers below a bound a test picks out, against names for them and against other tests.
use Rattle.std.proofs.Common.{ℕ, suc, zero, ◌≡◌, ◌⊎◌, inl, inr, ◌+◌, ◌<◌, ◌≤◌, ◌==◌, Bool, true, false, nat_le, if◌then◌else◌, arith, refl, sym, ◌∙◌, ap}
use Rattle.std.proofs.lemmas.Bool.{cases_lt, cases_eq}
use Rattle.std.proofs.lemmas.Bool.Decides.{nat_tests}
use Rattle.kw_lists.specs.Counts.{count_below, one_if}

-- a number that one test adds to another
added : (a b : Bool) → (b ≡ true → a ≡ true) → one_if b ≤ one_if a
added a true h = rw (h refl) (omega arith)
added a false h = omega arith

-- one is the most that a test adds
one_most : (b : Bool) → one_if b ≤ 1
one_most true = omega arith
one_most false = omega arith

-- tests that agree below a bound pick out as many
pub count_upto : (n : ℕ) (f g : ℕ → Bool) → ((c : ℕ) → c < n → g c ≡ true → f c ≡ true) → count_below n g ≤ count_below n f
unfolding count_below
count_upto zero f g h = omega arith
count_upto (suc n) f g h = omega (arith, added (f n) (g n) (h n (omega arith)), count_upto n f g (λ c u. h c (omega (arith, u))))

-- where one more may be picked out, at most one more is
pub count_one_more : (n y : ℕ) (f g : ℕ → Bool) → ((c : ℕ) → g c ≡ true → (c ≡ y) ⊎ (f c ≡ true)) → count_below n g ≤ count_below n f + 1
unfolding count_below
count_one_more zero y f g h = omega arith
count_one_more (suc n) y f g h = which (count_one_more n y f g h) (cases_eq n y)
  where
    but : (c : ℕ) → (c ≡ y → ⊥) → g c ≡ true → f c ≡ true
    but c other e = met (h c e)
      where
        met : (c ≡ y) ⊎ (f c ≡ true) → f c ≡ true
        met (inl x) = absurd (other x)
        met (inr x) = x

    which : count_below n g ≤ count_below n f + 1 → (n ≡ y) ⊎ (n ≡ y → ⊥) → one_if (g n) + count_below n g ≤ one_if (f n) + count_below n f + 1
    which rest (inl k) = omega (arith, one_most (g n), count_upto n f g (λ c u. but c (λ e. omega (arith, u, e, k))))
    which rest (inr k) = omega (arith, added (f n) (g n) (but n k), rest)

-- a number that is not picked out
pub count_left_out : (n : ℕ) (f : ℕ → Bool) → count_below n f < n → (c : ℕ) × (c < n) × (f c ≡ false)
unfolding count_below
count_left_out zero f h = absurd (omega (arith, h))
count_left_out (suc n) f h = which (count_left_out n f) (f n) refl
  where
    which : (count_below n f < n → (c : ℕ) × (c < n) × (f c ≡ false)) → (b : Bool) → f n ≡ b → (c : ℕ) × (c < suc n) × (f c ≡ false)
    which rest false e = (n, omega arith, e)
    which rest true e =
        let k : one_if (f n) ≡ 1 = rw e refl in
        let r = rest (omega (arith, h, k)) in
        (r.0, omega (arith, r.1), r.2)

-- a number that is
pub count_picked_out : (n : ℕ) (f : ℕ → Bool) → 1 ≤ count_below n f → (c : ℕ) × (c < n) × (f c ≡ true)
unfolding count_below
count_picked_out zero f h = absurd (omega (arith, h))
count_picked_out (suc n) f h = which (count_picked_out n f) (f n) refl
  where
    which : (1 ≤ count_below n f → (c : ℕ) × (c < n) × (f c ≡ true)) → (b : Bool) → f n ≡ b → (c : ℕ) × (c < suc n) × (f c ≡ true)
    which rest true e = (n, omega arith, e)
    which rest false e =
        let k : one_if (f n) ≡ 0 = rw e refl in
        let r = rest (omega (arith, h, k)) in
        (r.0, omega (arith, r.1), r.2)

-- the test without one number
abbrev but_one : (ℕ → Bool) → ℕ → ℕ → Bool
but_one f y c = if c == y then false else f c

-- where it does not hold of that number, and holds of what else was picked out
but_one_keeps : (f : ℕ → Bool) (y c : ℕ) → f c ≡ true → (c ≡ y) ⊎ (but_one f y c ≡ true)
but_one_keeps f y c e = which (cases_eq c y)
  where
    which : (c ≡ y) ⊎ (c ≡ y → ⊥) → (c ≡ y) ⊎ (but_one f y c ≡ true)
    which (inl k) = inl k
    which (inr k) = let x : (c == y) ≡ false = grind (arith, k) in inr (rw x e)

-- what it picks out was picked out, and is another number
but_one_was : (f : ℕ → Bool) (y c : ℕ) → but_one f y c ≡ true → (f c ≡ true) × (c ≡ y → ⊥)
but_one_was f y c e = met (c == y) refl e
  where
    met : (b : Bool) → (c == y) ≡ b → (if b then false else f c) ≡ true → (f c ≡ true) × (c ≡ y → ⊥)
    met true k x = absurd (cc (x))
    met false k x = (x, λ i. let j : (c == y) ≡ true = grind (arith, i) in absurd (cc (j, k)))

-- no more are picked out than there are names for them
pub count_named : (n m : ℕ) (f : ℕ → Bool) (name : ℕ → ℕ) → ((c : ℕ) → c < n → f c ≡ true → (t : ℕ) × (t < m) × (name t ≡ c)) → count_below n f ≤ m
count_named n zero f name h = which (cases_lt 0 (count_below n f))
  where
    which : (0 < count_below n f) ⊎ (count_below n f ≤ 0) → count_below n f ≤ 0
    which (inr k) = k
    which (inl k) =
        let r = count_picked_out n f (omega (arith, k)) in
        let t = h r.0 r.1 r.2 in
        absurd (omega (arith, t.1))
count_named n (suc m) f name h = omega (arith, count_one_more n (name m) (but_one f (name m)) f (but_one_keeps f (name m)), count_named n m (but_one f (name m)) name rest)
  where
    rest : (c : ℕ) → c < n → but_one f (name m) c ≡ true → (t : ℕ) × (t < m) × (name t ≡ c)
    rest c u e =
        let k = but_one_was f (name m) c e in
        let r = h c u k.0 in
        (r.0, below r.0 r.1 (λ i. k.1 (sym r.2 ∙ ap name i)), r.2)
      where
        below : (t : ℕ) → t < suc m → (t ≡ m → ⊥) → t < m
        below t x other = which (cases_lt t m)
          where
            which : (t < m) ⊎ (m ≤ t) → t < m
            which (inl y) = y
            which (inr y) = absurd (other (omega (arith, x, y)))

-- All but few.

-- from a number on, what a test leaves out
abbrev rest_of : (ℕ → Bool) → ℕ → ℕ → Bool
rest_of f low c = if f c then false else nat_le low c

-- a number is picked out, or left out, or below the one from which on they count
one_of_both : (f : ℕ → Bool) (low c : ℕ) → low ≤ c → 1 ≤ one_if (f c) + one_if (rest_of f low c)
one_of_both f low c h = met (f c)
  where
    from : nat_le low c ≡ true
    from = grind (arith, nat_tests, h)

    met : (b : Bool) → 1 ≤ one_if b + one_if (if b then false else nat_le low c)
    met true = omega arith
    met false = rw from (omega arith)

-- what is picked out and what is left out are all numbers
all_of_both : (n low : ℕ) (f : ℕ → Bool) → n ≤ low + count_below n f + count_below n (rest_of f low)
unfolding count_below
all_of_both zero low f = omega arith
all_of_both (suc n) low f = which (all_of_both n low f) (cases_lt n low)
  where
    which : n ≤ low + count_below n f + count_below n (rest_of f low) → (n < low) ⊎ (low ≤ n) → suc n ≤ low + (one_if (f n) + count_below n f) + (one_if (rest_of f low n) + count_below n (rest_of f low))
    which rest (inl x) = omega (arith, x)
    which rest (inr x) = omega (arith, rest, one_of_both f low n x)

-- so all but few are picked out, where what is left out has few names
pub count_all_but_few : (n low m : ℕ) (f : ℕ → Bool) (name : ℕ → ℕ) → ((c : ℕ) → low ≤ c → c < n → (f c ≡ true) ⊎ ((t : ℕ) × (t < m) × (name t ≡ c))) → n ≤ low + m + count_below n f
count_all_but_few n low m f name h = omega (arith, all_of_both n low f, count_named n m (rest_of f low) name named)
  where
    named : (c : ℕ) → c < n → rest_of f low c ≡ true → (t : ℕ) × (t < m) × (name t ≡ c)
    named c below e = met (f c) refl e
      where
        met : (b : Bool) → f c ≡ b → (if b then false else nat_le low c) ≡ true → (t : ℕ) × (t < m) × (name t ≡ c)
        met true i x = absurd (cc (x))
        met false i x = which (h c (grind (arith, nat_tests, x)) below)
          where
            which : (f c ≡ true) ⊎ ((t : ℕ) × (t < m) × (name t ≡ c)) → (t : ℕ) × (t < m) × (name t ≡ c)
            which (inl y) = absurd (cc (i, y))
            which (inr y) = y
