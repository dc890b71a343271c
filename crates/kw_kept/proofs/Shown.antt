-- What a set of puts shows, from set to set, and where puts that are not of it have changed.
use Rattle.std.proofs.Common.{ℕ, ◌≡◌, ◌⊎◌, inl, inr, ◌<◌, ◌≤◌, Option, Some, None, refl, sym, ◌∙◌, ap, subst}
use Rattle.kw_kept.specs.Puts.{Put, Puts, StandsBefore, StandsUpTo, Greatest, HasGreatest, Same, Shows, value_of}

-- to be the same, or to show no value, goes from option to option
pub same_trans : (puts : Puts) (a b c : Option ℕ) → Same puts a b → Same puts b c → Same puts a c
same_trans puts a b c (inl e) (inl f) = inl (e ∙ f)
same_trans puts a b c (inl e) (inr f) = inr (ap (value_of puts) e ∙ f.0, f.1)
same_trans puts a b c (inr e) (inl f) = inr (e.0, ap (value_of puts) (sym f) ∙ e.1)
same_trans puts a b c (inr e) (inr f) = inr (e.0, f.1)

-- it goes both ways
pub same_sym : (puts : Puts) (a b : Option ℕ) → Same puts a b → Same puts b a
same_sym puts a b (inl e) = inl (sym e)
same_sym puts a b (inr e) = inr (e.1, e.0)

-- what a set shows goes on through a set that has a greatest
pub shows_through : (puts : Puts) (P Q R : ℕ → Type 0) (k u : ℕ) → HasGreatest puts Q k u → Shows puts P Q k u → Shows puts Q R k u → Shows puts P R k u
shows_through puts P Q R k u (c, g) f h b t x y = same_trans puts b c t (f b c x g) (h c t g y)

module _ (puts puts' : Puts) (Q : ℕ → Type 0) (s : (p : ℕ) → Q p → puts' p ≡ puts p) where
  -- the order of two unchanged puts is what it was
  before_was : (p q : ℕ) → Q p → Q q → StandsBefore puts' p q → StandsBefore puts p q
  before_was p q i j b = subst (λ (x : Put). (x.version < (puts q).version) ⊎ ((x.version ≡ (puts q).version) × (x.add < (puts q).add))) (s p i) (subst (λ (x : Put). ((puts' p).version < x.version) ⊎ (((puts' p).version ≡ x.version) × ((puts' p).add < x.add))) (s q j) b)

  -- what stands up to an unchanged put did so before
  up_to_was : (o : Option ℕ) (q : ℕ) → ((p : ℕ) → o ≡ Some p → Q p) → Q q → StandsUpTo puts' o q → StandsUpTo puts o q
  up_to_was None q f j b = b
  up_to_was (Some p) q f j (inl e) = inl e
  up_to_was (Some p) q f j (inr b) = inr (before_was q p j (f p refl) b)

  -- the greatest of a set of unchanged puts was its greatest
  pub greatest_was : (P : ℕ → Type 0) (k u : ℕ) (o : Option ℕ) → ((p : ℕ) → P p → Q p) → Greatest puts' P k u o → Greatest puts P k u o
  greatest_was P k u o f g = record {
    among = λ p e. let x = g.among p e in (x.0, subst (λ (y : Put). y.key ≡ k) (s p (f p x.0)) x.1, subst (λ (y : Put). y.version ≤ u) (s p (f p x.0)) x.2);
    greatest = λ q i e l. up_to_was o q (λ p h. f p (g.among p h).0) (f q i) (g.greatest q i (subst (λ (y : Put). y.key ≡ k) (sym (s q (f q i))) e) (subst (λ (y : Put). y.version ≤ u) (sym (s q (f q i))) l));
  }

  -- an unchanged put shows the value that it did
  value_was : (o : Option ℕ) → ((p : ℕ) → o ≡ Some p → Q p) → value_of puts' o ≡ value_of puts o
  value_was None f = refl
  value_was (Some p) f = ap (λ (x : Put). x.value) (s p (f p refl))

  -- what was the same still is
  pub same_still : (a b : Option ℕ) → ((p : ℕ) → a ≡ Some p → Q p) → ((p : ℕ) → b ≡ Some p → Q p) → Same puts a b → Same puts' a b
  same_still a b f g (inl e) = inl e
  same_still a b f g (inr e) = inr (value_was a f ∙ e.0, value_was b g ∙ e.1)

  -- sets of unchanged puts show what they showed
  pub shows_still : (P R : ℕ → Type 0) (k u : ℕ) → ((p : ℕ) → P p → Q p) → ((p : ℕ) → R p → Q p) → Shows puts P R k u → Shows puts' P R k u
  shows_still P R k u f g h b t x y = same_still b t (λ p e. f p (x.among p e).0) (λ p e. g p (y.among p e).0) (h b t (greatest_was P k u b f x) (greatest_was R k u t g y))
