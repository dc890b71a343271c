-- The elements of a list of which a test is true, each with the number of those before it.
use Rattle.std.proofs.Common.{ℕ, zero, suc, Bool, true, false, cond, ◌≡◌, ◌+◌, ◌<◌, ◌⊎◌, inl, inr, List, [], ◌∷◌, length, take, Some, refl, sym, ap, ◌∙◌, arith}
use Rattle.std.specs.List.{slice_get}
use Rattle.std.specs.Prelude.{filter}
use Rattle.std.proofs.lemmas.Bool.{cases_order, false≢true}
use Rattle.std.proofs.lemmas.Option.{same_Some}

module _ {X : Type 0} (f : X → Bool) where
  -- of how many of the first x elements it is true
  abbrev pub counted : List X → ℕ → ℕ
  counted xs x = length (filter f (take x xs))

  -- an element of which f is true is found among those, behind those that do before it
  pub filtered_at : (xs : List X) (x : ℕ) (c : X) → slice_get xs x ≡ Some c → f c ≡ true → slice_get (filter f xs) (counted xs x) ≡ Some c
  filtered_at [] x c e t = absurd (cc)
  filtered_at (y ∷ xs) zero c e t = first (f y) (ap f (same_Some y c e) ∙ t)
    where
      first : (b : Bool) → b ≡ true → slice_get (cond b (y ∷ filter f xs) (filter f xs)) 0 ≡ Some c
      first true u = e
      first false u = absurd (false≢true u)
  filtered_at (y ∷ xs) (suc x) c e t = go (f y) (filtered_at xs x c e t)
    where
      go : (b : Bool) → slice_get (filter f xs) (counted xs x) ≡ Some c → slice_get (cond b (y ∷ filter f xs) (filter f xs)) (length (cond b (y ∷ filter f (take x xs)) (filter f (take x xs)))) ≡ Some c
      go true i = i
      go false i = i

  -- where such an element stands in the whole list
  pub record IsCounted (xs : List X) (k : ℕ) (c : X) : Type 0 where
    pub place : ℕ
    pub here : slice_get xs place ≡ Some c
    pub is_true : f c ≡ true
    pub before : counted xs place ≡ k

  -- each stands somewhere
  pub index_of : (xs : List X) (k : ℕ) (c : X) → slice_get (filter f xs) k ≡ Some c → IsCounted xs k c
  index_of [] k c e = absurd (cc)
  index_of (y ∷ xs) k c e = go (f y) refl k e (λ j. index_of xs j c)
    where
      more : (b : Bool) → f y ≡ b → (x : ℕ) → counted (y ∷ xs) (suc x) ≡ cond b 1 0 + counted xs x
      more true t x = ap (λ b. length (cond b (y ∷ filter f (take x xs)) (filter f (take x xs)))) t ∙ omega arith
      more false t x = ap (λ b. length (cond b (y ∷ filter f (take x xs)) (filter f (take x xs)))) t ∙ omega arith

      later : (b : Bool) → f y ≡ b → (j k : ℕ) → k ≡ cond b 1 0 + j → IsCounted xs j c → IsCounted (y ∷ xs) k c
      later b t j k n w = record { place = suc w.place; here = w.here; is_true = w.is_true; before = more b t w.place ∙ ap (λ q. cond b 1 0 + q) w.before ∙ sym n }

      go : (b : Bool) → f y ≡ b → (k : ℕ) → slice_get (cond b (y ∷ filter f xs) (filter f xs)) k ≡ Some c → ((j : ℕ) → slice_get (filter f xs) j ≡ Some c → IsCounted xs j c) → IsCounted (y ∷ xs) k c
      go true t zero e rest = record { place = 0; here = e; is_true = ap f (sym (same_Some y c e)) ∙ t; before = refl }
      go true t (suc j) e rest = later true t j (suc j) (omega arith) (rest j e)
      go false t k e rest = later false t k k (omega arith) (rest k e)

  -- behind such an element there is one more
  pub counted_more : (xs : List X) (x y : ℕ) (c : X) → x < y → slice_get xs x ≡ Some c → f c ≡ true → counted xs x < counted xs y
  counted_more [] x y c l e t = absurd (cc)
  counted_more (z ∷ xs) x zero c l e t = absurd (omega arith)
  counted_more (z ∷ xs) zero (suc y) c l e t = first (f z) (ap f (same_Some z c e) ∙ t)
    where
      first : (b : Bool) → b ≡ true → 0 < length (cond b (z ∷ filter f (take y xs)) (filter f (take y xs)))
      first true u = omega arith
      first false u = absurd (false≢true u)
  counted_more (z ∷ xs) (suc x) (suc y) c l e t = go (f z) (counted_more xs x y c (omega arith) e t)
    where
      go : (b : Bool) → counted xs x < counted xs y → length (cond b (z ∷ filter f (take x xs)) (filter f (take x xs))) < length (cond b (z ∷ filter f (take y xs)) (filter f (take y xs)))
      go true i = omega arith
      go false i = i

  -- so it is known by how many there are before it
  pub counted_once : (xs : List X) (x y : ℕ) (c d : X) → slice_get xs x ≡ Some c → f c ≡ true → slice_get xs y ≡ Some d → f d ≡ true → counted xs x ≡ counted xs y → x ≡ y
  counted_once xs x y c d e t g u n = go (cases_order x y)
    where
      go : (x ≡ y) ⊎ ((x < y) ⊎ (y < x)) → x ≡ y
      go (inl s) = s
      go (inr (inl l)) = let w = counted_more xs x y c l e t in absurd (omega arith)
      go (inr (inr l)) = let w = counted_more xs y x d l g u in absurd (omega arith)
