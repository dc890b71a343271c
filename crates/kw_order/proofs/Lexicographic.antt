-- Comparisons number by number, as a derived comparison makes them.
use Rattle.std.proofs.Common.{ℕ, ◌≡◌, ◌<◌, ◌≤◌, ◌⊎◌, inl, inr, true, false, arith, refl, nat_cmp, is_lt}
use Rattle.std.specs.Ordering.{ordering_then}
use Rattle.std.specs.declared.cmp.Ordering.{Ordering}
use Rattle.std.specs.declared.cmp.Ordering.TheVariants.{Less, Equal, Greater}
use Rattle.std.proofs.lemmas.Bool.{cases_order}
use Rattle.std.proofs.lemmas.Bool.Decides.{nat_tests}

-- a is less than b, or equal to it and Q holds
abbrev pub Lex : ℕ → ℕ → Type 0 → Type 0
Lex a b Q = (a < b) ⊎ ((a ≡ b) × Q)

-- this is transitive
pub lex_chain : (a b c : ℕ) (P Q R : Type 0) → (P → Q → R) → Lex a b P → Lex b c Q → Lex a c R
lex_chain a b c P Q R f (inl x) (inl y) = inl (omega arith)
lex_chain a b c P Q R f (inl x) (inr y) = inl (omega (arith, y.0))
lex_chain a b c P Q R f (inr x) (inl y) = inl (omega (arith, x.0))
lex_chain a b c P Q R f (inr x) (inr y) = inr (omega (arith, x.0, y.0), f x.1 y.1)

-- the first comparison is not the other way round
pub first_not_less : (x o : Ordering) → is_lt (ordering_then x o) ≡ false → is_lt x ≡ false
first_not_less Less o e = let z : true ≡ false = e in cc
first_not_less Equal o e = refl
first_not_less Greater o e = refl

-- from the last comparison
pub last_from : (a b : ℕ) → is_lt (nat_cmp b a) ≡ false → a ≤ b
last_from a b e = grind (arith, nat_tests)

-- and from an earlier one
pub lex_from : (a b : ℕ) (o : Ordering) (Q : Type 0) → (is_lt o ≡ false → Q) → is_lt (ordering_then (nat_cmp b a) o) ≡ false → Lex a b Q
lex_from a b o Q f e = which (cases_order a b)
  where
    equal : a ≡ b → nat_cmp b a ≡ Equal
    equal x = grind (arith, nat_tests)

    less : b < a → nat_cmp b a ≡ Less
    less x = grind (arith, nat_tests)

    which : (a ≡ b) ⊎ ((a < b) ⊎ (b < a)) → Lex a b Q
    which (inl x) = inr (x, f (rw (equal x) at e))
    which (inr (inl x)) = inl x
    which (inr (inr x)) = let z : true ≡ false = rw (less x) at e in absurd (cc)
