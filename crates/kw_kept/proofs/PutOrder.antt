-- The order of puts.
use Rattle.std.proofs.Common.{ℕ, ◌≡◌, ◌⊎◌, inl, inr, ◌<◌, Option, Some, None, arith, sym, ◌∙◌, subst}
use Rattle.std.proofs.lemmas.Bool.{cases_order}
use Rattle.kw_kept.specs.Puts.{Puts, StandsBefore, StandsUpTo}

-- no two puts stand before each other
pub never_both : (puts : Puts) (p q : ℕ) → StandsBefore puts p q → StandsBefore puts q p → ⊥
never_both puts p q (inl a) (inl b) = omega (arith, a, b)
never_both puts p q (inl a) (inr b) = omega (arith, a, b.0)
never_both puts p q (inr a) (inl b) = omega (arith, a.0, b)
never_both puts p q (inr a) (inr b) = omega (arith, a.1, b.1)

-- what stands before a put stands before all that the put stands before
pub before_trans : (puts : Puts) (p q v : ℕ) → StandsBefore puts p q → StandsBefore puts q v → StandsBefore puts p v
before_trans puts p q v (inl a) (inl b) = inl (omega (arith, a, b))
before_trans puts p q v (inl a) (inr b) = inl (omega (arith, a, b.0))
before_trans puts p q v (inr a) (inl b) = inl (omega (arith, a.0, b))
before_trans puts p q v (inr a) (inr b) = inr (a.0 ∙ b.0, omega (arith, a.1, b.1))

-- two puts of which each stands up to the other are one
pub up_to-antisym : (puts : Puts) (p q : ℕ) → StandsUpTo puts (Some p) q → StandsUpTo puts (Some q) p → p ≡ q
up_to-antisym puts p q (inl e) b = sym e
up_to-antisym puts p q (inr a) (inl e) = e
up_to-antisym puts p q (inr a) (inr b) = absurd (never_both puts q p a b)

-- what stands up to a put stands up to all that the put stands up to
pub up_to-trans : (puts : Puts) (o : Option ℕ) (p q : ℕ) → StandsUpTo puts o p → StandsUpTo puts (Some p) q → StandsUpTo puts o q
up_to-trans puts None p q a b = a
up_to-trans puts (Some o) p q (inl e) b = subst (λ x. StandsUpTo puts (Some x) q) e b
up_to-trans puts (Some o) p q (inr a) (inl e) = inr (subst (λ x. StandsBefore puts x o) (sym e) a)
up_to-trans puts (Some o) p q (inr a) (inr b) = inr (before_trans puts q p o b a)

-- of two puts, one stands before the other, or they have one version and one place
pub before_or_tie : (puts : Puts) (p q : ℕ) → ((puts p).add ≡ (puts q).add) ⊎ (StandsBefore puts p q ⊎ StandsBefore puts q p)
before_or_tie puts p q = by_version (cases_order (puts p).version (puts q).version)
  where
    by_add : (puts p).version ≡ (puts q).version → ((puts p).add ≡ (puts q).add) ⊎ (((puts p).add < (puts q).add) ⊎ ((puts q).add < (puts p).add)) → ((puts p).add ≡ (puts q).add) ⊎ (StandsBefore puts p q ⊎ StandsBefore puts q p)
    by_add e (inl f) = inl f
    by_add e (inr (inl l)) = inr (inl (inr (e, l)))
    by_add e (inr (inr l)) = inr (inr (inr (sym e, l)))

    by_version : ((puts p).version ≡ (puts q).version) ⊎ (((puts p).version < (puts q).version) ⊎ ((puts q).version < (puts p).version)) → ((puts p).add ≡ (puts q).add) ⊎ (StandsBefore puts p q ⊎ StandsBefore puts q p)
    by_version (inl e) = by_add e (cases_order (puts p).add (puts q).add)
    by_version (inr (inl l)) = inr (inl (inl l))
    by_version (inr (inr l)) = inr (inr (inl l))
