-- The cells that a reader remembers, and lists that stand beside each other.
use Rattle.std.proofs.Common.{ℕ, zero, suc, ◌≡◌, ◌≢◌, ◌⊎◌, inl, inr, ◌==◌, nat_lt, Bool, true, false, if◌then◌else◌, Option, Some, None, List, [], ◌∷◌, ◌++◌, take, drop, arith, refl, sym, ◌∙◌, ap, subst, eq-eqb, ne_eqb}
use Rattle.std.specs.Prelude.{Contains, insert}
use Rattle.std.proofs.lemmas.Bool.{cases_eq}
use Rattle.std.proofs.lemmas.Option.{same_Some}
use Rattle.std.specs.List.{AllZip}
use Rattle.std.proofs.lemmas.List.Elements.{Contains-append_right}
use Rattle.kw_world.specs.declared.marks.Mark.{Mark}
use Rattle.kw_world.specs.Marks.{mark_of, is_marked, unmarked, lesser_of, least_mark}
use Rattle.kw_core.proofs.Arrows.{eq_from}

-- a cell that is remembered stays remembered
pub marked_more : (c : ℕ) (ms : List Mark) (m : Mark) → is_marked c ms ≡ true → is_marked c (ms ++ m ∷ []) ≡ true
marked_more c [] m e = let x : false ≡ true = e in absurd (cc)
marked_more c (n ∷ ms) m e = saw (n.cell == c) (marked_more c ms m) e
  where
    saw : (b : Bool) → (is_marked c ms ≡ true → is_marked c (ms ++ m ∷ []) ≡ true) → (if b then true else is_marked c ms) ≡ true → (if b then true else is_marked c (ms ++ m ∷ [])) ≡ true
    saw true f x = refl
    saw false f x = f x

-- the cell that is remembered last is remembered
pub marked_last : (c version : ℕ) (ms : List Mark) → is_marked c (ms ++ mark_of c version ∷ []) ≡ true
marked_last c version [] = rw (eq-eqb c c refl) refl
marked_last c version (n ∷ ms) = saw (n.cell == c) (marked_last c version ms)
  where
    saw : (b : Bool) → is_marked c (ms ++ mark_of c version ∷ []) ≡ true → (if b then true else is_marked c (ms ++ mark_of c version ∷ [])) ≡ true
    saw true x = refl
    saw false x = x

-- one that is forgotten is not remembered
pub marked_none : (c : ℕ) (ms : List Mark) → is_marked c (unmarked c ms) ≡ false
marked_none c [] = refl
marked_none c (n ∷ ms) = saw (n.cell == c) refl (marked_none c ms)
  where
    saw : (b : Bool) → (n.cell == c) ≡ b → is_marked c (unmarked c ms) ≡ false → is_marked c (unmarked c (n ∷ ms)) ≡ false
    saw true f x = rw f x
    saw false f x = rw f (rw f x)

-- and every other one is as it was
pub marked_other : (c d : ℕ) (ms : List Mark) → c ≢ d → is_marked c (unmarked d ms) ≡ is_marked c ms
marked_other c d [] f = refl
marked_other c d (n ∷ ms) f = saw (n.cell == d) refl (marked_other c d ms f)
  where
    saw : (b : Bool) → (n.cell == d) ≡ b → is_marked c (unmarked d ms) ≡ is_marked c ms → is_marked c (unmarked d (n ∷ ms)) ≡ is_marked c (n ∷ ms)
    saw true g x = let k : (n.cell == c) ≡ false = ne_eqb n.cell c (λ e. f (sym e ∙ eq_from n.cell d g)) in rw (g, k) x
    saw false g x = rw g (ap (λ y. if n.cell == c then true else y) x)

-- where no mark is the least none is there
pub least_none : (c : ℕ) (ms : List Mark) → least_mark ms ≡ None → is_marked c ms ≡ false
least_none c [] e = refl
least_none c (n ∷ ms) e = let x : Some (lesser_of n (least_mark ms)) ≡ None = e in absurd (cc)

-- the least is one of them
pub least_marked : (ms : List Mark) (m : Mark) → least_mark ms ≡ Some m → is_marked m.cell ms ≡ true
least_marked [] m e = let x : None ≡ Some m = e in absurd (cc)
least_marked (n ∷ ms) m e = saw (least_mark ms) refl e (λ k f. least_marked ms k f)
  where
    first : n ≡ m → is_marked m.cell (n ∷ ms) ≡ true
    first f = rw f (rw (eq-eqb m.cell m.cell refl) refl)

    later : (b : Bool) → is_marked m.cell ms ≡ true → (if b then true else is_marked m.cell ms) ≡ true
    later true x = refl
    later false x = x

    saw : (o : Option Mark) → least_mark ms ≡ o → Some (lesser_of n o) ≡ Some m → ((k : Mark) → least_mark ms ≡ Some k → is_marked k.cell ms ≡ true) → is_marked m.cell (n ∷ ms) ≡ true
    saw None f g rest = first (same_Some n m g)
    saw (Some k) f g rest = which (nat_lt k.cell n.cell) g
      where
        which : (b : Bool) → Some (if b then k else n) ≡ Some m → is_marked m.cell (n ∷ ms) ≡ true
        which true x = later (n.cell == m.cell) (subst (λ (y : Mark). is_marked y.cell ms ≡ true) (same_Some k m x) (rest k f))
        which false x = first (same_Some n m x)

-- one that is remembered beside another was remembered
pub marked_back : (c d : ℕ) (ms : List Mark) → is_marked c (unmarked d ms) ≡ true → is_marked c ms ≡ true
marked_back c d ms e = which (cases_eq c d)
  where
    which : (c ≡ d) ⊎ (c ≡ d → ⊥) → is_marked c ms ≡ true
    which (inl f) = let x : is_marked c (unmarked d ms) ≡ false = rw f (marked_none d ms) in let y : true ≡ false = sym e ∙ x in absurd (cc)
    which (inr f) = sym (marked_other c d ms f) ∙ e

-- Lists.

-- the element that is put in is one of the list
pub contains_new : {X : Type 0} (xs : List X) (n : ℕ) (x : X) → Contains (insert xs n x) x
contains_new xs n x = Contains-append_right (take n xs) (x ∷ drop n xs) x (0, omega arith, refl)

-- and those that were there still are
pub contains_old : {X : Type 0} (xs : List X) (n : ℕ) (x y : X) → Contains xs y → Contains (insert xs n x) y
contains_old xs zero x y c = Contains-append_right (x ∷ []) xs y c
contains_old [] (suc n) x y c = absurd (omega (arith, c.1))
contains_old (z ∷ xs) (suc n) x y (zero, u, e) = (zero, omega arith, e)
contains_old (z ∷ xs) (suc n) x y (suc i, u, e) = Contains-append_right (z ∷ []) (insert xs n x) y (contains_old xs n x y (i, omega (arith, u), e))

-- and no other is
pub contains_back : {X : Type 0} (xs : List X) (n : ℕ) (x y : X) → Contains (insert xs n x) y → (x ≡ y) ⊎ Contains xs y
contains_back xs zero x y (zero, u, e) = inl e
contains_back xs zero x y (suc i, u, e) = inr (i, omega (arith, u), e)
contains_back [] (suc n) x y (zero, u, e) = inl e
contains_back [] (suc n) x y (suc i, u, e) = absurd (omega (arith, u))
contains_back (z ∷ xs) (suc n) x y (zero, u, e) = inr (zero, omega arith, e)
contains_back (z ∷ xs) (suc n) x y (suc i, u, e) = which (contains_back xs n x y (i, omega (arith, u), e))
  where
    which : (x ≡ y) ⊎ Contains xs y → (x ≡ y) ⊎ Contains (z ∷ xs) y
    which (inl f) = inl f
    which (inr f) = inr (Contains-append_right (z ∷ []) xs y f)

-- one more beside one more
pub zip_insert : {A B : Type 0} (R : A → B → Type 0) (xs : List A) (ys : List B) (n : ℕ) (x : A) (y : B) → AllZip R xs ys → R x y → AllZip R (insert xs n x) (insert ys n y)
zip_insert R xs ys zero x y a b = (b, a)
zip_insert R [] [] (suc n) x y a b = (b, tt)
zip_insert R [] (u ∷ ys) (suc n) x y a b = absurd a
zip_insert R (u ∷ xs) [] (suc n) x y a b = absurd a
zip_insert R (u ∷ xs) (w ∷ ys) (suc n) x y a b = (a.0, zip_insert R xs ys n x y a.1 b)

-- what follows place by place
pub zip_weaker : {A B : Type 0} (R S : A → B → Type 0) → ((x : A) (y : B) → R x y → S x y) → (xs : List A) (ys : List B) → AllZip R xs ys → AllZip S xs ys
zip_weaker R S f [] [] a = tt
zip_weaker R S f [] (u ∷ ys) a = absurd a
zip_weaker R S f (u ∷ xs) [] a = absurd a
zip_weaker R S f (u ∷ xs) (w ∷ ys) a = (f u w a.0, zip_weaker R S f xs ys a.1)
