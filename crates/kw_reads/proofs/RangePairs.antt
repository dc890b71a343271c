-- Pairs of a range, one row after the other: joined lists rise, and a key has the value that its
-- row gives it.
use Rattle.std.proofs.Common.{ℕ, zero, suc, ◌≡◌, ◌⊎◌, inl, inr, ◌+◌, ◌<◌, ◌≤◌, ◌==◌, Bool, true, false, Option, Some, None, List, [], ◌∷◌, ◌++◌, arith, refl, sym, ◌∙◌, ap, subst, All, if◌then◌else◌, ne_eqb}
use Rattle.std.proofs.lemmas.Bool.{cases_lt}
use Rattle.kw_model.specs.Map.{value_of}
use Rattle.kw_cells.specs.Pairs as plain
use Rattle.kw_cells.specs.Pairs.{ShowsRange, pairs_between}
use Rattle.kw_cells.proofs.Pairs.{none_outside}
use Rattle.kw_cells.proofs.Ranges.{pairs_between-shows, shows-is}
use Rattle.kw_reads.specs.Replies.{RisesBelow}

-- the value of a key, in the words of either crate
same_value : (k : ℕ) (m : List (ℕ × ℕ)) → value_of k m ≡ plain.value_of k m
same_value k [] = refl
same_value k (p ∷ m) = ap (λ x. if k == p.0 then Some p.1 else x) (same_value k m)

-- a bound below
lower : (low mid high : ℕ) (m : List (ℕ × ℕ)) → low ≤ mid → RisesBelow mid high m → RisesBelow low high m
lower low mid high [] w x = tt
lower low mid high (p ∷ m) w x = (omega (arith, w, x.0), x.1, x.2)

-- one after the other
pub rises_joined : (low mid high : ℕ) (m n : List (ℕ × ℕ)) → low ≤ mid → mid ≤ high → RisesBelow low mid m → RisesBelow mid high n → RisesBelow low high (m ++ n)
rises_joined low mid high [] n w o x y = lower low mid high n w y
rises_joined low mid high (p ∷ m) n w o x y = (x.0, omega (arith, x.1, o), rises_joined (suc p.0) mid high m n (omega (arith, x.1)) o x.2 y)

-- a key outside of the bounds has no value
pub none_from : (low high k : ℕ) (m : List (ℕ × ℕ)) → RisesBelow low high m → high ≤ k → value_of k m ≡ None
none_from low high k [] x w = refl
none_from low high k (p ∷ m) x w = rw (ne_eqb k p.0 (λ e. omega (arith, e, w, x.1))) (none_from (suc p.0) high k m x.2 w)

-- nor has a key below them
pub none_under : (low high k : ℕ) (m : List (ℕ × ℕ)) → RisesBelow low high m → k < low → value_of k m ≡ None
none_under low high k [] x w = refl
none_under low high k (p ∷ m) x w = rw (ne_eqb k p.0 (λ e. omega (arith, e, w, x.0))) (none_under (suc p.0) high k m x.2 (omega (arith, w, x.0)))

-- the value of a key in joined lists
pub value_first : (k : ℕ) (m n : List (ℕ × ℕ)) → value_of k n ≡ None → value_of k (m ++ n) ≡ value_of k m
value_first k [] n e = e
value_first k (p ∷ m) n e = ap (λ x. if k == p.0 then Some p.1 else x) (value_first k m n e)

-- and where the first list has none
pub value_second : (k : ℕ) (m n : List (ℕ × ℕ)) → value_of k m ≡ None → value_of k (m ++ n) ≡ value_of k n
value_second k [] n e = refl
value_second k (p ∷ m) n e = saw (k == p.0) (λ f. value_second k m n f) e
  where
    saw : (b : Bool) → (value_of k m ≡ None → value_of k (m ++ n) ≡ value_of k n) → (if b then Some p.1 else value_of k m) ≡ None → (if b then Some p.1 else value_of k (m ++ n)) ≡ value_of k n
    saw true g f = let x : Some p.1 ≡ None = f in absurd (cc)
    saw false g f = g f

-- the pairs of a range rise from its first key on
rises_from : (low last : ℕ) (m : List (ℕ × ℕ)) → plain.RisesFrom low m → All (λ p. p.0 ≤ last) m → RisesBelow low (suc last) m
rises_from low last [] x y = tt
rises_from low last (p ∷ m) x y = let h : p.0 ≤ last = y 0 p (omega arith) in (x.0, omega (arith, h), rises_from (suc p.0) last m x.1 (λ k d w. y (suc k) d (omega (arith, w))))

-- pairs with keys from a number on rise from it on
starts_at : (low : ℕ) (m : List (ℕ × ℕ)) → plain.RisesFrom 0 m → All (λ p. low ≤ p.0) m → plain.RisesFrom low m
starts_at low [] x y = tt
starts_at low (p ∷ m) x y = (y 0 p (omega arith), x.1)

-- where no key from the bound on shows a value, the pairs lie below the bound
pub range_rises : (shown : ℕ → Option ℕ) (a b bound : ℕ) → a < bound → bound ≤ b + 1 → ((k : ℕ) → bound ≤ k → k ≤ b → shown k ≡ None) → RisesBelow a bound (pairs_between shown a b)
range_rises shown a b zero w o f = absurd (omega (arith, w))
range_rises shown a b (suc last) w o f = subst (RisesBelow a (suc last)) same (rises_from a last short (starts_at a short s.rising (λ k d h. (s.inside k d h).0)) (λ k d h. (s.inside k d h).1))
  where
    short : List (ℕ × ℕ)
    short = pairs_between shown a last

    s : ShowsRange shown a last short
    s = pairs_between-shows shown a last

    each : (k : ℕ) → a ≤ k → k ≤ b → (k ≤ last) ⊎ (last < k) → plain.value_of k short ≡ shown k
    each k g h (inl x) = s.each k g x
    each k g h (inr x) = none_outside k a last short s.inside (λ u v. omega (arith, x, v)) ∙ sym (f k (omega (arith, x)) h)

    split : (k : ℕ) → (k ≤ last) ⊎ (last < k)
    split k = which (cases_lt last k)
      where
        which : (last < k) ⊎ (k ≤ last) → (k ≤ last) ⊎ (last < k)
        which (inl x) = inr x
        which (inr x) = inl x

    same : short ≡ pairs_between shown a b
    same = shows-is shown a b short (record { rising = s.rising; inside = λ k d h. let x = s.inside k d h in (x.0, omega (arith, x.1, o)); each = λ k g h. each k g h (split k) })

-- each key of the range has the value that it shows
pub range_value : (shown : ℕ → Option ℕ) (a b k : ℕ) → a ≤ k → k ≤ b → value_of k (pairs_between shown a b) ≡ shown k
range_value shown a b k g h = same_value k (pairs_between shown a b) ∙ (pairs_between-shows shown a b).each k g h
