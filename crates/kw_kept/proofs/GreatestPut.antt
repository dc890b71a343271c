-- The greatest put of a set, and of a set that has more or the same.
use Rattle.std.proofs.Common.{ℕ, ◌≡◌, ◌≤◌, Option, Some, None, refl, sym, ◌∙◌, ap, subst}
use Rattle.kw_kept.specs.Puts.{Puts, StandsUpTo, Greatest}
use Rattle.kw_kept.proofs.PutOrder.{up_to-antisym}

-- the greatest of a set is that of a larger one, if that is in the set
pub greatest_of_larger : (puts : Puts) (P Q : ℕ → Type 0) (k u : ℕ) (b t : Option ℕ) → Greatest puts P k u b → Greatest puts Q k u t → ((p : ℕ) → P p → Q p) → (q : ℕ) → t ≡ Some q → P q → b ≡ t
greatest_of_larger puts P Q k u None t b s f q e i =
    let x = s.among q e in absurd (b.greatest q i x.1 x.2)
greatest_of_larger puts P Q k u (Some p) t b s f q e i =
    let x = s.among q e in
    let y = b.among p refl in
    let le : StandsUpTo puts (Some q) p = subst (λ o. StandsUpTo puts o p) e (s.greatest p (f p y.0) y.1 y.2) in
    ap Some (up_to-antisym puts p q (b.greatest q i x.1 x.2) le) ∙ sym e

-- two greatest of one set are one
pub one_greatest : (puts : Puts) (P : ℕ → Type 0) (k u : ℕ) (o q : Option ℕ) → Greatest puts P k u o → Greatest puts P k u q → o ≡ q
one_greatest puts P k u None None a b = refl
one_greatest puts P k u (Some p) None a b = let x = a.among p refl in absurd (b.greatest p x.0 x.1 x.2)
one_greatest puts P k u o (Some q) a b = greatest_of_larger puts P P k u o (Some q) a b (λ p i. i) q refl (b.among q refl).0

-- a set of which the same puts have the key and a version in bound has the same greatest
pub greatest_of_same : (puts : Puts) (P Q : ℕ → Type 0) (k u v : ℕ) (o : Option ℕ) → ((p : ℕ) → (puts p).key ≡ k → P p → (puts p).version ≤ u → Q p × ((puts p).version ≤ v)) → ((p : ℕ) → (puts p).key ≡ k → Q p → (puts p).version ≤ v → P p × ((puts p).version ≤ u)) → Greatest puts P k u o → Greatest puts Q k v o
greatest_of_same puts P Q k u v o f g b = record {
  among = λ p e. let x = b.among p e in let y = f p x.1 x.0 x.2 in (y.0, x.1, y.1);
  greatest = λ q i e l. let y = g q e i l in b.greatest q y.0 e y.1;
}
