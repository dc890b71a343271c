-- How many numbers below a bound a test picks out, where what is known of it is known below the
-- bound: none, one more than another test, or no more than there are names, of which no two numbers
-- have one.
use Rattle.std.proofs.Common.{ℕ, suc, zero, ◌≡◌, ◌⊎◌, inl, inr, ◌+◌, ◌<◌, ◌≤◌, ◌==◌, ◌&&◌, Bool, true, false, nat_lt, if◌then◌else◌, arith, refl, sym, ◌∙◌, eq-eqb, ne_eqb}
use Rattle.std.proofs.lemmas.Bool.{and_from, and_parts, cases_eq, cases_lt, lt-ltb, ltb-true}
use Rattle.kw_lists.specs.Counts.{count_below}
use Rattle.kw_lists.proofs.Counting.{count_gains}
use Rattle.kw_windows.proofs.Counting.{count_one_more, count_picked_out, count_upto}
use Rattle.kw_core.proofs.Arrows.{eq_from}

-- where at most one more is picked out below the bound
pub count_one_within : (n y : ℕ) (f g : ℕ → Bool) → ((c : ℕ) → c < n → g c ≡ true → (c ≡ y) ⊎ (f c ≡ true)) → count_below n g ≤ count_below n f + 1
count_one_within n y f g h =
    let within : ℕ → Bool = λ c. nat_lt c n && g c in
    let more : count_below n within ≤ count_below n f + 1 = count_one_more n y f within (λ c e. let t = and_parts (nat_lt c n) (g c) e in h c (ltb-true c n t.0) t.1) in
    let same : count_below n g ≤ count_below n within = count_upto n within g (λ c w e. and_from (nat_lt c n) (g c) (lt-ltb c n w) e) in
    omega (arith, more, same)

-- where none is picked out there are none
pub none_counted : (n : ℕ) (f : ℕ → Bool) → ((c : ℕ) → c < n → f c ≡ true → ⊥) → count_below n f ≡ 0
none_counted n f h = which (cases_lt 0 (count_below n f))
  where
    which : (0 < count_below n f) ⊎ (count_below n f ≤ 0) → count_below n f ≡ 0
    which (inl o) = let t = count_picked_out n f (omega (arith, o)) in absurd (h t.0 t.1 t.2)
    which (inr o) = omega (arith, o)

-- the test without the numbers of this name
abbrev but_named : (ℕ → ℕ) → ℕ → (ℕ → Bool) → ℕ → Bool
but_named name m f c = if name c == m then false else f c

but_named_was : (name : ℕ → ℕ) (m : ℕ) (f : ℕ → Bool) (c : ℕ) → but_named name m f c ≡ true → (f c ≡ true) × (name c ≡ m → ⊥)
but_named_was name m f c e = which (cases_eq (name c) m)
  where
    which : (name c ≡ m) ⊎ (name c ≡ m → ⊥) → (f c ≡ true) × (name c ≡ m → ⊥)
    which (inl i) = let x : false ≡ true = rw (eq-eqb (name c) m i) at e in absurd (cc)
    which (inr d) = (rw (ne_eqb (name c) m d) at e, d)

but_named_is : (name : ℕ → ℕ) (m : ℕ) (f : ℕ → Bool) (c : ℕ) → (name c ≡ m → ⊥) → f c ≡ true → but_named name m f c ≡ true
but_named_is name m f c d e = rw (ne_eqb (name c) m d) e

-- and those of it
abbrev named : (ℕ → ℕ) → ℕ → (ℕ → Bool) → ℕ → Bool
named name m f c = (name c == m) && f c

-- where each has a name of its own below m, there are no more than m
pub count_apart : (n m : ℕ) (f : ℕ → Bool) (name : ℕ → ℕ) → ((c : ℕ) → c < n → f c ≡ true → name c < m) → ((c d : ℕ) → c < n → d < n → f c ≡ true → f d ≡ true → name c ≡ name d → c ≡ d) → count_below n f ≤ m
count_apart n zero f name below apart = omega (arith, none_counted n f (λ c w e. omega (arith, below c w e)))
count_apart n (suc m) f name below apart = which (count_apart n m (but_named name m f) name (λ c w e. let t = but_named_was name m f c e in less (name c) (below c w t.0) t.1) (λ c d w u e k i. apart c d w u (but_named_was name m f c e).0 (but_named_was name m f d k).0 i)) (cases_lt 0 (count_below n (named name m f)))
  where
    less : (t : ℕ) → t < suc m → (t ≡ m → ⊥) → t < m
    less t w d = at (cases_lt t m)
      where
        at : (t < m) ⊎ (m ≤ t) → t < m
        at (inl o) = o
        at (inr o) = absurd (d (omega (arith, w, o)))

    one : (y : ℕ) → y < n → named name m f y ≡ true → (c : ℕ) → c < n → f c ≡ true → (c ≡ y) ⊎ (but_named name m f c ≡ true)
    one y v g c w e = at (cases_eq (name c) m)
      where
        at : (name c ≡ m) ⊎ (name c ≡ m → ⊥) → (c ≡ y) ⊎ (but_named name m f c ≡ true)
        at (inl i) = let t = and_parts (name y == m) (f y) g in inl (apart c y w v e t.1 (i ∙ sym (eq_from (name y) m t.0)))
        at (inr d) = inr (but_named_is name m f c d e)

    which : count_below n (but_named name m f) ≤ m → (0 < count_below n (named name m f)) ⊎ (count_below n (named name m f) ≤ 0) → count_below n f ≤ suc m
    which k (inl o) = let t = count_picked_out n (named name m f) (omega (arith, o)) in omega (arith, k, count_one_within n t.0 (but_named name m f) f (one t.0 t.1 t.2))
    which k (inr o) = omega (arith, k, count_upto n (but_named name m f) f (λ c w e. at c w e (cases_eq (name c) m)))
      where
        at : (c : ℕ) → c < n → f c ≡ true → (name c ≡ m) ⊎ (name c ≡ m → ⊥) → but_named name m f c ≡ true
        at c w e (inl i) = absurd (omega (arith, o, count_gains n (λ d. false) (named name m f) c w refl (and_from (name c == m) (f c) (eq-eqb (name c) m i) e) (λ d x. let y : false ≡ true = x in absurd (cc))))
        at c w e (inr d) = but_named_is name m f c d e
