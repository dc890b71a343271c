-- The pairs that a range of keys shows: what they are at each key, that no other list is so, and
-- how they begin.
use Rattle.std.proofs.Common.{ℕ, zero, suc, Bool, true, false, ◌≡◌, ◌<◌, ◌≤◌, ◌+◌, ◌-◌, ◌&&◌, leb, Option, Some, None, [], ◌∷◌, refl, sym, ap, ◌∙◌, arith, All}
use Rattle.std.proofs.lemmas.Bool.Decides.{nat_tests}
use Rattle.kw_cells.specs.Pairs.{Pairs, RisesFrom, value_of, ShowsRange, with_shown, pairs_along, pairs_between}
use Rattle.kw_cells.proofs.Pairs.{lower, none_below, none_outside, same_from_values, LieIn, wider, all_lie}

-- the pairs of n keys rise
rises_along : (shown : ℕ → Option ℕ) (low n : ℕ) → RisesFrom low (pairs_along shown low n)
unfolding pairs_along
rises_along shown low zero = tt
rises_along shown low (suc n) = go (shown low) (rises_along shown (suc low) n)
  where
    go : (o : Option ℕ) → RisesFrom (suc low) (pairs_along shown (suc low) n) → RisesFrom low (with_shown low o (pairs_along shown (suc low) n))
    go None r = lower low (suc low) (pairs_along shown (suc low) n) (omega arith) r
    go (Some v) r = (omega arith, r)

-- they lie among the keys
lie_along : (shown : ℕ → Option ℕ) (low n : ℕ) → LieIn low (low + n) (pairs_along shown low n)
unfolding pairs_along
lie_along shown low zero = tt
lie_along shown low (suc n) = go (shown low) (let e : suc low + n ≡ low + suc n = omega arith in rw e at (lie_along shown (suc low) n))
  where
    go : (o : Option ℕ) → LieIn (suc low) (low + suc n) (pairs_along shown (suc low) n) → LieIn low (low + suc n) (with_shown low o (pairs_along shown (suc low) n))
    go None h = wider low (suc low) (low + suc n) (pairs_along shown (suc low) n) (omega arith) h
    go (Some v) h = ((omega arith, omega arith), wider low (suc low) (low + suc n) (pairs_along shown (suc low) n) (omega arith) h)

-- each of the keys has the value that it shows
value_along : (shown : ℕ → Option ℕ) (low n k : ℕ) → low ≤ k → k < low + n → value_of k (pairs_along shown low n) ≡ shown k
unfolding pairs_along
value_along shown low zero k a b = absurd (omega arith)
value_along shown low (suc n) k a b = go (shown low) refl (λ l. value_along shown (suc low) n k l (omega arith))
  where
    go : (o : Option ℕ) → shown low ≡ o → (suc low ≤ k → value_of k (pairs_along shown (suc low) n) ≡ shown k) → value_of k (with_shown low o (pairs_along shown (suc low) n)) ≡ shown k
    go None e above =
        let below : k < suc low → value_of k (pairs_along shown (suc low) n) ≡ None = λ l. none_below k (suc low) (pairs_along shown (suc low) n) l (rises_along shown (suc low) n) in
        let at_low : k ≡ low → shown k ≡ shown low = ap shown in
        grind (arith, nat_tests)
    go (Some v) e above =
        let at_low : k ≡ low → shown k ≡ shown low = ap shown in
        grind (arith, nat_tests)

-- the pairs of a range are those that the range shows
pub pairs_between-shows : (shown : ℕ → Option ℕ) (a b : ℕ) → ShowsRange shown a b (pairs_between shown a b)
unfolding pairs_between pairs_along
pairs_between-shows shown a b = record {
  rising = lower 0 a (pairs_along shown a (suc b - a)) (omega arith) (rises_along shown a (suc b - a));
  inside = inside;
  each = λ k l h. value_along shown a (suc b - a) k l (omega arith);
}
  where
    inside : All (λ p. (a ≤ p.0) × (p.0 ≤ b)) (pairs_along shown a (suc b - a))
    inside = go (suc b - a) refl
      where
        go : (n : ℕ) → suc b - a ≡ n → All (λ p. (a ≤ p.0) × (p.0 ≤ b)) (pairs_along shown a n)
        go zero e k d i = absurd (omega arith)
        go (suc n) e k d i = all_lie a b (a + suc n) (pairs_along shown a (suc n)) (omega arith) (lie_along shown a (suc n)) k d i

-- no other list is what a range shows
pub shows_one : (shown : ℕ → Option ℕ) (a b : ℕ) (m n : Pairs) → ShowsRange shown a b m → ShowsRange shown a b n → m ≡ n
shows_one shown a b m n s t = same_from_values 0 0 m n s.rising t.rising (λ k. at k (leb a k && leb k b) refl)
  where
    at : (k : ℕ) (inside : Bool) → (leb a k && leb k b) ≡ inside → value_of k m ≡ value_of k n
    at k true e = s.each k (grind (arith, nat_tests)) (grind (arith, nat_tests)) ∙ sym (t.each k (grind (arith, nat_tests)) (grind (arith, nat_tests)))
    at k false e =
        let out : a ≤ k → k ≤ b → ⊥ = λ l h. grind (arith, nat_tests) in
        none_outside k a b m s.inside out ∙ sym (none_outside k a b n t.inside out)

-- what a range shows is its pairs
pub shows-is : (shown : ℕ → Option ℕ) (a b : ℕ) (m : Pairs) → ShowsRange shown a b m → m ≡ pairs_between shown a b
shows-is shown a b m s = shows_one shown a b m (pairs_between shown a b) s (pairs_between-shows shown a b)

-- no key of the range shows a value: there are no pairs
pub pairs_between-none : (shown : ℕ → Option ℕ) (a b : ℕ) → ((k : ℕ) → a ≤ k → k ≤ b → shown k ≡ None) → pairs_between shown a b ≡ []
pairs_between-none shown a b h = sym (shows-is shown a b [] (record { rising = tt; inside = λ k d i. absurd (omega arith); each = λ k l g. sym (h k l g) }))

-- the pairs begin with the least key that shows a value, and go on with those of the keys above it
pub pairs_between-next : (shown : ℕ → Option ℕ) (a b k v : ℕ) → a ≤ k → k ≤ b → shown k ≡ Some v → ((q : ℕ) → a ≤ q → q < k → shown q ≡ None) → pairs_between shown a b ≡ (k, v) ∷ pairs_between shown (suc k) b
unfolding pairs_between
pairs_between-next shown a b k v l h e none = sym (shows-is shown a b ((k, v) ∷ pairs_between shown (suc k) b) (record { rising = (omega arith, rises); inside = inside; each = each }))
  where
    rest : ShowsRange shown (suc k) b (pairs_between shown (suc k) b)
    rest = pairs_between-shows shown (suc k) b

    rises : RisesFrom (suc k) (pairs_between shown (suc k) b)
    rises = rises_along shown (suc k) (suc b - suc k)

    inside : All (λ p. (a ≤ p.0) × (p.0 ≤ b)) ((k, v) ∷ pairs_between shown (suc k) b)
    inside zero d i = (l, h)
    inside (suc j) d i = let r = rest.inside j d (omega arith) in (omega arith, r.1)

    each : (q : ℕ) → a ≤ q → q ≤ b → value_of q ((k, v) ∷ pairs_between shown (suc k) b) ≡ shown q
    each q g f =
        let low : q < suc k → value_of q (pairs_between shown (suc k) b) ≡ None = λ i. none_below q (suc k) (pairs_between shown (suc k) b) i rises in
        let high : suc k ≤ q → value_of q (pairs_between shown (suc k) b) ≡ shown q = λ i. rest.each q i f in
        let here : q ≡ k → shown q ≡ shown k = ap shown in
        let before : q < k → shown q ≡ None = none q g in
        grind (arith, nat_tests)
