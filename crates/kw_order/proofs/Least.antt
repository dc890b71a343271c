-- A least number of which something holds.
use Rattle.std.proofs.Common.{ℕ, zero, suc, ◌≡◌, ◌<◌, ◌⊎◌, inl, inr, arith, sym, subst}
use Rattle.std.proofs.lemmas.Bool.{cases_eq}

-- the test P is decided
abbrev pub Decided : (ℕ → Type 0) → Type 0
Decided P = (i : ℕ) → P i ⊎ (P i → ⊥)

-- the comparison is total and transitive
pub record IsTotal (R : ℕ → ℕ → Type 0) : Type 0 where
  pub either : (i j : ℕ) → R i j ⊎ R j i
  pub chain : (i j k : ℕ) → R i j → R j k → R i k

-- m is least among the numbers below n of which P holds
pub record IsLeast (n : ℕ) (P : ℕ → Type 0) (R : ℕ → ℕ → Type 0) (m : ℕ) : Type 0 where
  pub within : m < n
  pub holds : P m
  -- it holds of none, or there is a least one
  pub least : (j : ℕ) → j < n → P j → R m j

pub least : (n : ℕ) (P : ℕ → Type 0) (R : ℕ → ℕ → Type 0) → Decided P → IsTotal R → ((i : ℕ) → i < n → P i → ⊥) ⊎ ((m : ℕ) × IsLeast n P R m)
least zero P R d t = inl (λ i x p. absurd (omega arith))
least (suc n) P R d t = which (least n P R d t) (d n)
  where
    last : (i : ℕ) → i < suc n → (i ≡ n → ⊥) → i < n
    last i x n = omega arith

    which : ((i : ℕ) → i < n → P i → ⊥) ⊎ ((m : ℕ) × IsLeast n P R m) → P n ⊎ (P n → ⊥) → ((i : ℕ) → i < suc n → P i → ⊥) ⊎ ((m : ℕ) × IsLeast (suc n) P R m)
    which (inl none) (inr never) = inl (λ i x p. at i x p (cases_eq i n))
      where
        at : (i : ℕ) → i < suc n → P i → (i ≡ n) ⊎ (i ≡ n → ⊥) → ⊥
        at i x p (inl e) = never (subst P e p)
        at i x p (inr f) = none i (last i x f) p
    which (inl none) (inl now) = inr (n, record { within = omega arith; holds = now; least = λ j x p. at j x p (cases_eq j n) })
      where
        at : (i : ℕ) → i < suc n → P i → (i ≡ n) ⊎ (i ≡ n → ⊥) → R n i
        at i x p (inl e) = subst (R n) (sym e) (self (t.either n n))
          where
            self : R n n ⊎ R n n → R n n
            self (inl r) = r
            self (inr r) = r
        at i x p (inr f) = absurd (none i (last i x f) p)
    which (inr (m, b)) (inr never) = inr (m, record { within = omega (arith, b.within); holds = b.holds; least = λ j x p. at j x p (cases_eq j n) })
      where
        at : (i : ℕ) → i < suc n → P i → (i ≡ n) ⊎ (i ≡ n → ⊥) → R m i
        at i x p (inl e) = absurd (never (subst P e p))
        at i x p (inr f) = b.least i (last i x f) p
    which (inr (m, b)) (inl now) = both (t.either m n)
      where
        both : R m n ⊎ R n m → ((i : ℕ) → i < suc n → P i → ⊥) ⊎ ((m : ℕ) × IsLeast (suc n) P R m)
        both (inl r) = inr (m, record { within = omega (arith, b.within); holds = b.holds; least = λ j x p. at j x p (cases_eq j n) })
          where
            at : (i : ℕ) → i < suc n → P i → (i ≡ n) ⊎ (i ≡ n → ⊥) → R m i
            at i x p (inl e) = subst (R m) (sym e) r
            at i x p (inr f) = b.least i (last i x f) p
        both (inr r) = inr (n, record { within = omega arith; holds = now; least = λ j x p. at j x p (cases_eq j n) })
          where
            at : (i : ℕ) → i < suc n → P i → (i ≡ n) ⊎ (i ≡ n → ⊥) → R n i
            at i x p (inl e) = subst (R n) (sym e) (self (t.either n n))
              where
                self : R n n ⊎ R n n → R n n
                self (inl r) = r
                self (inr r) = r
            at i x p (inr f) = t.chain n m i r (b.least i (last i x f) p)
