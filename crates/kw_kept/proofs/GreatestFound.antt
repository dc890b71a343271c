-- A finite set of puts that were given their cells at different events has a greatest for each key
-- and version.
use Rattle.std.proofs.Common.{ℕ, zero, suc, ◌≡◌, ◌⊎◌, inl, inr, ◌<◌, ◌≤◌, Option, Some, None, arith, refl, sym, subst}
use Rattle.std.proofs.lemmas.Bool.{cases_eq, cases_lt}
use Rattle.std.proofs.lemmas.Option.{same_Some}
use Rattle.kw_kept.specs.Puts.{Puts, StandsBefore, StandsUpTo, AreApart, Greatest, HasGreatest}
use Rattle.kw_kept.proofs.PutOrder.{up_to-trans, before_or_tie}

module _ (puts : Puts) (P : ℕ → Type 0) (k u : ℕ) (known : (p : ℕ) → P p ⊎ (P p → ⊥)) (apart : AreApart puts P) where
  -- of the set, those with a number below n
  abbrev Below : ℕ → ℕ → Type 0
  Below n p = P p × (p < n)

  -- the next put is not of the set, or not of the key, or above the bound
  without : (n : ℕ) → (P n → (puts n).key ≡ k → (puts n).version ≤ u → ⊥) → HasGreatest puts (Below n) k u → HasGreatest puts (Below (suc n)) k u
  without n d (o, g) = (
    o,
    record {
      among = λ p e. let x = g.among p e in ((x.0.0, omega (arith, x.0.1)), x.1, x.2);
      greatest = λ q i e l. up q i e l (cases_lt q n);
    },
  )
    where
      up : (q : ℕ) → Below (suc n) q → (puts q).key ≡ k → (puts q).version ≤ u → (q < n) ⊎ (n ≤ q) → StandsUpTo puts o q
      up q i e l (inl s) = g.greatest q (i.0, s) e l
      up q i e l (inr s) =
          let f : q ≡ n = omega (arith, i.1, s) in
          absurd (subst (λ x. P x → (puts x).key ≡ k → (puts x).version ≤ u → ⊥) (sym f) d i.0 e l)

  -- the next put is above all of them
  above : (n : ℕ) → P n → (puts n).key ≡ k → (puts n).version ≤ u → (o : Option ℕ) → Greatest puts (Below n) k u o → ((p : ℕ) → o ≡ Some p → StandsBefore puts p n) → HasGreatest puts (Below (suc n)) k u
  above n i e l o g a = (
    Some n,
    record {
      among = λ p f. at p f;
      greatest = λ q j f m. up q j f m (cases_lt q n);
    },
  )
    where
      at : (p : ℕ) → Some n ≡ Some p → Below (suc n) p × ((puts p).key ≡ k) × ((puts p).version ≤ u)
      at p f = subst (λ x. Below (suc n) x × ((puts x).key ≡ k) × ((puts x).version ≤ u)) (same_Some n p f) ((i, omega arith), e, l)

      below : (q : ℕ) (x : Option ℕ) → o ≡ x → StandsUpTo puts x q → StandsUpTo puts (Some n) q
      below q None f s = absurd s
      below q (Some p) f s = up_to-trans puts (Some n) p q (inr (a p f)) s

      up : (q : ℕ) → Below (suc n) q → (puts q).key ≡ k → (puts q).version ≤ u → (q < n) ⊎ (n ≤ q) → StandsUpTo puts (Some n) q
      up q j f m (inl s) = below q o refl (g.greatest q (j.0, s) f m)
      up q j f m (inr s) = inl (omega (arith, j.1, s))

  -- it stands before the greatest of them
  under : (n p : ℕ) → Greatest puts (Below n) k u (Some p) → StandsBefore puts n p → HasGreatest puts (Below (suc n)) k u
  under n p g b = (
    Some p,
    record {
      among = λ q f. let x = g.among q f in ((x.0.0, omega (arith, x.0.1)), x.1, x.2);
      greatest = λ q j f m. up q j f m (cases_lt q n);
    },
  )
    where
      up : (q : ℕ) → Below (suc n) q → (puts q).key ≡ k → (puts q).version ≤ u → (q < n) ⊎ (n ≤ q) → StandsUpTo puts (Some p) q
      up q j f m (inl s) = g.greatest q (j.0, s) f m
      up q j f m (inr s) = let h : q ≡ n = omega (arith, j.1, s) in inr (subst (λ x. StandsBefore puts x p) (sym h) b)

  -- the greatest of those and the next
  with_next : (n : ℕ) → P n → (puts n).key ≡ k → (puts n).version ≤ u → HasGreatest puts (Below n) k u → HasGreatest puts (Below (suc n)) k u
  with_next n i e l (None, g) = above n i e l None g (λ p f. absurd (some_is p f))
    where
      some_is : (p : ℕ) → None ≡ Some p → ⊥
      some_is p f = cc
  with_next n i e l (Some p, g) = which (before_or_tie puts p n)
    where
      x : Below n p × ((puts p).key ≡ k) × ((puts p).version ≤ u)
      x = g.among p refl

      which : ((puts p).add ≡ (puts n).add) ⊎ (StandsBefore puts p n ⊎ StandsBefore puts n p) → HasGreatest puts (Below (suc n)) k u
      which (inl t) = let f = apart p n x.0.0 i t in absurd (omega (arith, x.0.1, f))
      which (inr (inl b)) = above n i e l (Some p) g (λ q f. subst (λ y. StandsBefore puts y n) (same_Some p q f) b)
      which (inr (inr b)) = under n p g b

  -- the greatest of those with a number below n
  found_below : (n : ℕ) → HasGreatest puts (Below n) k u
  found_below zero = (None, record { among = λ p e. cc; greatest = λ q i e l. absurd (omega (arith, i.1)) })
  found_below (suc n) = which (known n) (cases_eq (puts n).key k) (cases_lt u (puts n).version) (found_below n)
    where
      which : P n ⊎ (P n → ⊥) → ((puts n).key ≡ k) ⊎ ((puts n).key ≡ k → ⊥) → (u < (puts n).version) ⊎ ((puts n).version ≤ u) → HasGreatest puts (Below n) k u → HasGreatest puts (Below (suc n)) k u
      which (inl i) (inl e) (inr l) = with_next n i e l
      which (inr d) e l = without n (λ i f m. d i)
      which (inl i) (inr d) l = without n (λ j f m. d f)
      which (inl i) (inl e) (inl l) = without n (λ j f m. omega (arith, l, m))

  -- a set whose numbers are bounded has a greatest
  pub greatest_found : (n : ℕ) → ((p : ℕ) → P p → p < n) → HasGreatest puts P k u
  greatest_found n b = let r = found_below n in (
    r.0,
    record {
      among = λ p e. let x = r.1.among p e in (x.0.0, x.1, x.2);
      greatest = λ q i e l. r.1.greatest q (i, b q i) e l;
    },
  )
