-- Lists that rise in a strict order.
use Rattle.std.proofs.Common.{ℕ, zero, suc, ◌≡◌, ◌<◌, ◌⊎◌, inl, inr, List, [], ◌∷◌, Some, None, arith, sym, ◌∙◌, ap, subst, slice_get, refl}
use Rattle.std.proofs.lemmas.Option.{same_Some}

-- x is one of the list
abbrev pub In : ℕ → List ℕ → Type 0
In x [] = ⊥
In x (y ∷ ys) = (x ≡ y) ⊎ In x ys

-- each element stands before all later ones
abbrev pub Sorted : (ℕ → ℕ → Type 0) → List ℕ → Type 0
Sorted R [] = Unit {0}
Sorted R (x ∷ xs) = ((y : ℕ) → In y xs → R x y) × Sorted R xs

-- from its place
pub in_at : (xs : List ℕ) (i x : ℕ) → slice_get xs i ≡ Some x → In x xs
in_at [] i x e = let y : None ≡ Some x = e in absurd (cc)
in_at (y ∷ ys) zero x e = inl (sym (same_Some y x e))
in_at (y ∷ ys) (suc i) x e = inr (in_at ys i x e)

-- and back
pub at_in : (xs : List ℕ) (x : ℕ) → In x xs → (i : ℕ) × (slice_get xs i ≡ Some x)
at_in [] x e = absurd e
at_in (y ∷ ys) x (inl e) = (0, ap Some (sym e))
at_in (y ∷ ys) x (inr e) = let z = at_in ys x e in (suc z.0, z.1)

-- of two places the earlier one has the lesser element
abbrev pub Rises : (ℕ → ℕ → Type 0) → List ℕ → Type 0
Rises R xs = (i j x y : ℕ) → i < j → slice_get xs i ≡ Some x → slice_get xs j ≡ Some y → R x y

-- this says the same
pub sorted_from : (R : ℕ → ℕ → Type 0) (xs : List ℕ) → Rises R xs → Sorted R xs
sorted_from R [] r = tt
sorted_from R (x ∷ xs) r = ((λ y e. let z = at_in xs y e in r 0 (suc z.0) x y (omega arith) refl z.1), sorted_from R xs (λ i j a b w e f. r (suc i) (suc j) a b (omega arith) e f))

-- and the other way round
pub rises_from : (R : ℕ → ℕ → Type 0) (xs : List ℕ) → Sorted R xs → Rises R xs
rises_from R [] s i j x y w e f = let z : None ≡ Some x = e in absurd (cc)
rises_from R (a ∷ xs) s zero zero x y w e f = absurd (omega arith)
rises_from R (a ∷ xs) s zero (suc j) x y w e f = subst (λ q. R q y) (same_Some a x e) (s.0 y (in_at xs j y f))
rises_from R (a ∷ xs) s (suc i) zero x y w e f = absurd (omega arith)
rises_from R (a ∷ xs) s (suc i) (suc j) x y w e f = rises_from R xs s.1 i j x y (omega arith) e f

-- two such lists with the same elements are one
pub same_list : (R : ℕ → ℕ → Type 0) → ((x y : ℕ) → R x y → R y x → ⊥) → (xs ys : List ℕ) → Sorted R xs → Sorted R ys → ((x : ℕ) → In x xs → In x ys) → ((x : ℕ) → In x ys → In x xs) → xs ≡ ys
same_list R n [] [] s t f g = refl
same_list R n [] (y ∷ ys) s t f g = absurd (g y (inl refl))
same_list R n (x ∷ xs) [] s t f g = absurd (f x (inl refl))
same_list R n (x ∷ xs) (y ∷ ys) s t f g = let e = heads in let a = same_list R n xs ys s.1 t.1 into back in cc
  where
    heads : x ≡ y
    heads = which (f x (inl refl)) (g y (inl refl))
      where
        which : (x ≡ y) ⊎ In x ys → (y ≡ x) ⊎ In y xs → x ≡ y
        which (inl e) _ = e
        which (inr a) (inl e) = sym e
        which (inr a) (inr b) = absurd (n x y (s.0 y b) (t.0 x a))

    into : (z : ℕ) → In z xs → In z ys
    into z a = which (f z (inr a))
      where
        which : (z ≡ y) ⊎ In z ys → In z ys
        which (inl e) = let r : R x x = s.0 x (subst (λ q. In q xs) (e ∙ sym heads) a) in absurd (n x x r r)
        which (inr b) = b

    back : (z : ℕ) → In z ys → In z xs
    back z a = which (g z (inr a))
      where
        which : (z ≡ x) ⊎ In z xs → In z xs
        which (inl e) = let r : R y y = t.0 y (subst (λ q. In q ys) (e ∙ heads) a) in absurd (n y y r r)
        which (inr b) = b

-- the list with one more element in its place
pub record Inserted (R : ℕ → ℕ → Type 0) (n : ℕ) (xs : List ℕ) : Type 0 where
  pub list : List ℕ
  pub sorted : Sorted R list
  pub from : (x : ℕ) → In x list → (x ≡ n) ⊎ In x xs
  pub new : In n list
  pub old : (x : ℕ) → In x xs → In x list

-- it can be inserted
pub inserted : (R : ℕ → ℕ → Type 0) → ((x y z : ℕ) → R x y → R y z → R x z) → (n : ℕ) (xs : List ℕ) → Sorted R xs → ((x : ℕ) → In x xs → R n x ⊎ R x n) → Inserted R n xs
inserted R c n [] s t = record { list = n ∷ []; sorted = ((λ y e. absurd e), tt); from = λ x e. e; new = inl refl; old = λ x e. absurd e }
inserted R c n (x ∷ xs) s t = which (t x (inl refl)) (inserted R c n xs s.1 (λ z e. t z (inr e)))
  where
    which : R n x ⊎ R x n → Inserted R n xs → Inserted R n (x ∷ xs)
    which (inl r) _ = record { list = n ∷ x ∷ xs; sorted = (above, s); from = λ z e. e; new = inl refl; old = λ z e. inr e }
      where
        above : (y : ℕ) → (y ≡ x) ⊎ In y xs → R n y
        above y (inl e) = subst (R n) (sym e) r
        above y (inr e) = c n x y r (s.0 y e)
    which (inr r) i = record { list = x ∷ i.list; sorted = ((λ y e. above y (i.from y e)), i.sorted); from = from; new = inr i.new; old = old }
      where
        above : (y : ℕ) → (y ≡ n) ⊎ In y xs → R x y
        above y (inl e) = subst (R x) (sym e) r
        above y (inr e) = s.0 y e

        from : (z : ℕ) → (z ≡ x) ⊎ In z i.list → (z ≡ n) ⊎ ((z ≡ x) ⊎ In z xs)
        from z (inl e) = inr (inl e)
        from z (inr e) = swap (i.from z e)
          where
            swap : (z ≡ n) ⊎ In z xs → (z ≡ n) ⊎ ((z ≡ x) ⊎ In z xs)
            swap (inl f) = inl f
            swap (inr f) = inr (inr f)

        old : (z : ℕ) → (z ≡ x) ⊎ In z xs → (z ≡ x) ⊎ In z i.list
        old z (inl e) = inl e
        old z (inr e) = inr (i.old z e)
