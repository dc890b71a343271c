-- Tests of places, and words that change at one place.
use Rattle.std.proofs.Common.{ℕ, ◌≡◌, ◌⊎◌, inl, inr, ◌==◌, Bool, true, false, Option, Some, None, arith, refl, ap, subst}
use Rattle.kw_lists.specs.Changes.{is_same, with_link, with_cell}

-- the same number or another
pub is_here : (a b : ℕ) → (a ≡ b) ⊎ (a == b ≡ false)
is_here a b = grind arith

pub same_self : (at : Option ℕ) → is_same at at ≡ true
same_self None = refl
same_self (Some a) = grind arith

pub same_true : (x at : Option ℕ) → x ≡ at → is_same x at ≡ true
same_true x at e = subst (λ y. is_same x y ≡ true) e (same_self x)

-- the same link or another
pub same_or : (x at : Option ℕ) → (x ≡ at) ⊎ (is_same x at ≡ false)
same_or None None = inl refl
same_or None (Some b) = inr refl
same_or (Some a) None = inr refl
same_or (Some a) (Some b) = which (is_here a b)
  where
    which : (a ≡ b) ⊎ (a == b ≡ false) → (Some a ≡ Some b) ⊎ (a == b ≡ false)
    which (inl e) = inl (ap Some e)
    which (inr e) = inr e

pub link_here : (f : Option ℕ → Option ℕ) (at to : Option ℕ) → with_link f at to at ≡ to
link_here f at to = rw (same_self at)

pub link_else : (f : Option ℕ → Option ℕ) (at to x : Option ℕ) → is_same x at ≡ false → with_link f at to x ≡ f x
link_else f at to x e = rw e

pub cell_here : (f : ℕ → Bool) (c : ℕ) → with_cell f c c ≡ true
cell_here f c = grind arith

pub cell_old : (f : ℕ → Bool) (c x : ℕ) → f x ≡ true → with_cell f c x ≡ true
cell_old f c x e = grind arith

pub cell_or : (f : ℕ → Bool) (c x : ℕ) → with_cell f c x ≡ true → (x ≡ c) ⊎ (f x ≡ true)
cell_or f c x e = grind arith
