-- Lists of rows that lead from one to the next.
use Rattle.std.proofs.Common.{ℕ, ◌≡◌, ◌⊎◌, inl, inr, ◌<◌, ◌≤◌, Option, Some, None, List, [], ◌∷◌, arith, refl, sym, ◌∙◌, ap}
use Rattle.std.proofs.lemmas.Bool.{cases_eq}
use Rattle.std.proofs.lemmas.Option.{same_Some}
use Rattle.kw_rows.specs.Events.{IsIn, Links, Rises}

-- a row is in a list, or not
pub in_or_not : (xs : List ℕ) (x : ℕ) → IsIn xs x ⊎ (IsIn xs x → ⊥)
in_or_not [] x = inr (λ a. a)
in_or_not (y ∷ ys) x = which (cases_eq x y) (in_or_not ys x)
  where
    neither : (x ≡ y → ⊥) → (IsIn ys x → ⊥) → IsIn (y ∷ ys) x → ⊥
    neither d f (inl e) = d e
    neither d f (inr i) = f i

    which : (x ≡ y) ⊎ (x ≡ y → ⊥) → IsIn ys x ⊎ (IsIn ys x → ⊥) → IsIn (y ∷ ys) x ⊎ (IsIn (y ∷ ys) x → ⊥)
    which (inl e) b = inl (inl e)
    which (inr d) (inl i) = inl (inr i)
    which (inr d) (inr f) = inr (neither d f)

-- a row's link is the given one, or not
pub link_or_not : (p : Option ℕ) (x : ℕ) → (Some x ≡ p) ⊎ (Some x ≡ p → ⊥)
link_or_not None x = inr (λ e. cc)
link_or_not (Some q) x = which (cases_eq x q)
  where
    which : (x ≡ q) ⊎ (x ≡ q → ⊥) → (Some x ≡ Some q) ⊎ (Some x ≡ Some q → ⊥)
    which (inl e) = inl (ap Some e)
    which (inr d) = inr (λ e. d (same_Some x q e))

-- a row of a list leads to a row of it, or to what stands after it
pub to_next : (next : ℕ → Option ℕ) (x : ℕ) (xs : List ℕ) (after : Option ℕ) → Links next x xs after → (y : ℕ) → IsIn (x ∷ xs) y → ((m : ℕ) × (next y ≡ Some m) × IsIn xs m) ⊎ (next y ≡ after)
to_next next x [] after l y (inl e) = inr (ap next e ∙ l)
to_next next x [] after l y (inr i) = absurd i
to_next next x (m ∷ ms) after l y (inl e) = inl (m, ap next e ∙ l.0, inl refl)
to_next next x (m ∷ ms) after l y (inr i) = which (to_next next m ms after l.1 y i)
  where
    which : ((k : ℕ) × (next y ≡ Some k) × IsIn ms k) ⊎ (next y ≡ after) → ((k : ℕ) × (next y ≡ Some k) × IsIn (m ∷ ms) k) ⊎ (next y ≡ after)
    which (inl k) = inl (k.0, k.1, inr k.2)
    which (inr e) = inr e

-- each row but the first is the next of a row of the list
pub from_last : (next : ℕ → Option ℕ) (x : ℕ) (xs : List ℕ) (after : Option ℕ) → Links next x xs after → (y : ℕ) → IsIn xs y → (m : ℕ) × IsIn (x ∷ xs) m × (next m ≡ Some y)
from_last next x [] after l y i = absurd i
from_last next x (m ∷ ms) after l y (inl e) = (x, inl refl, l.0 ∙ ap Some (sym e))
from_last next x (m ∷ ms) after l y (inr i) = let t = from_last next m ms after l.1 y i in (t.0, inr t.1, t.2)

-- and least keys rise along the list
pub rise_next : (next : ℕ → Option ℕ) (least : ℕ → ℕ) (x : ℕ) (xs : List ℕ) (after : Option ℕ) → Links next x xs after → Rises least x xs → (y : ℕ) → IsIn (x ∷ xs) y → ((m : ℕ) × (next y ≡ Some m) × IsIn xs m × (least y < least m)) ⊎ (next y ≡ after)
rise_next next least x [] after l h y (inl e) = inr (ap next e ∙ l)
rise_next next least x [] after l h y (inr i) = absurd i
rise_next next least x (m ∷ ms) after l h y (inl e) = inl (m, ap next e ∙ l.0, inl refl, omega (arith, h.0, ap least e))
rise_next next least x (m ∷ ms) after l h y (inr i) = which (rise_next next least m ms after l.1 h.1 y i)
  where
    which : ((k : ℕ) × (next y ≡ Some k) × IsIn ms k × (least y < least k)) ⊎ (next y ≡ after) → ((k : ℕ) × (next y ≡ Some k) × IsIn (m ∷ ms) k × (least y < least k)) ⊎ (next y ≡ after)
    which (inl k) = inl (k.0, k.1, inr k.2, k.3)
    which (inr e) = inr e

-- the first of rising rows has the least of their least keys
pub first_rises : (least : ℕ → ℕ) (x : ℕ) (xs : List ℕ) → Rises least x xs → (y : ℕ) → IsIn (x ∷ xs) y → least x ≤ least y
first_rises least x [] h y (inl e) = omega (arith, ap least e)
first_rises least x [] h y (inr i) = absurd i
first_rises least x (m ∷ ms) h y (inl e) = omega (arith, ap least e)
first_rises least x (m ∷ ms) h y (inr i) = omega (arith, h.0, first_rises least m ms h.1 y i)
