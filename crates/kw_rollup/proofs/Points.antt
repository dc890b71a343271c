-- What a put and a delete leave in each bucket.
use Rattle.std.proofs.Common.{ℕ, suc, Bool, true, false, ◌≡◌, ◌<◌, ◌+◌, cond, eqb, ltb, not, [], ◌∷◌, Some, None, refl, sym, ap, ◌∙◌, arith}
use Rattle.std.proofs.lemmas.Bool.Decides.{nat_tests}
use Rattle.std.specs.List.{filter, sum_by}
use Rattle.std.proofs.lemmas.List.Sums.{sum_by-cons}
use Rattle.kw_model.specs.Map.{Pairs, RisesFrom, value_of, put, without}
use Rattle.kw_model.specs.Values.{values}
use Rattle.kw_model.proofs.Pairs.{none_below, without_below, pair_same}
use Rattle.kw_rollup.proofs.Bags.{IsSameBag}

-- a sum over the pairs after a put of a key that has no value
sum-put_new : (h : ℕ × ℕ → ℕ) (k v : ℕ) (m : Pairs) → value_of k m ≡ None → sum_by h (put k v m) ≡ h (k, v) + sum_by h m
sum-put_new h k v [] n = sum_by-cons h (k, v) []
sum-put_new h k v (p ∷ m) n = go (sum-put_new h k v m) (ltb k p.0) (eqb k p.0) refl
  where
    go : (value_of k m ≡ None → sum_by h (put k v m) ≡ h (k, v) + sum_by h m) → (b c : Bool) → eqb k p.0 ≡ c → sum_by h (cond b ((k, v) ∷ p ∷ m) (cond c ((k, v) ∷ m) (p ∷ put k v m))) ≡ h (k, v) + sum_by h (p ∷ m)
    go rest true c f = sum_by-cons h (k, v) (p ∷ m)
    go rest false true f = let x : Some p.1 ≡ None = rw f at n in cc
    go rest false false f =
        let x : value_of k m ≡ None = rw f at n in
        omega (arith, rest x, sum_by-cons h p (put k v m), sum_by-cons h p m)

-- and after a put of a key that has one
sum-put_over : (h : ℕ × ℕ → ℕ) (k v o low : ℕ) (m : Pairs) → RisesFrom low m → value_of k m ≡ Some o → sum_by h (put k v m) + h (k, o) ≡ sum_by h m + h (k, v)
sum-put_over h k v o low [] r s = cc
sum-put_over h k v o low (p ∷ m) r s = go (sum-put_over h k v o (suc p.0) m r.1) (ltb k p.0) (eqb k p.0) refl refl
  where
    go : (value_of k m ≡ Some o → sum_by h (put k v m) + h (k, o) ≡ sum_by h m + h (k, v)) → (b c : Bool) → ltb k p.0 ≡ b → eqb k p.0 ≡ c → sum_by h (cond b ((k, v) ∷ p ∷ m) (cond c ((k, v) ∷ m) (p ∷ put k v m))) + h (k, o) ≡ sum_by h (p ∷ m) + h (k, v)
    go rest true c e f =
        let n : k < suc p.0 → value_of k m ≡ None = λ l. none_below k (suc p.0) m l r.1 in
        let bad : ⊥ = grind (arith, nat_tests) in
        absurd bad
    go rest false true e f =
        let v_is : Some p.1 ≡ Some o = rw f at s in
        let k_is : p.0 ≡ k = grind (arith, nat_tests) in
        let o_is : p.1 ≡ o = cc in
        let same : h p ≡ h (k, o) = ap h (pair_same p (k, o) k_is o_is) in
        omega (arith, same, sum_by-cons h (k, v) m, sum_by-cons h p m)
    go rest false false e f =
        let x : value_of k m ≡ Some o = rw f at s in
        omega (arith, rest x, sum_by-cons h p (put k v m), sum_by-cons h p m)

-- and after a delete of a key that has one
sum-without : (h : ℕ × ℕ → ℕ) (k o low : ℕ) (m : Pairs) → RisesFrom low m → value_of k m ≡ Some o → sum_by h (without k m) + h (k, o) ≡ sum_by h m
sum-without h k o low [] r s = cc
sum-without h k o low (p ∷ m) r s = go (sum-without h k o (suc p.0) m r.1) (eqb k p.0) refl
  where
    go : (value_of k m ≡ Some o → sum_by h (without k m) + h (k, o) ≡ sum_by h m) → (c : Bool) → eqb k p.0 ≡ c → sum_by h (cond (not c) (p ∷ without k m) (without k m)) + h (k, o) ≡ sum_by h (p ∷ m)
    go rest true f =
        let v_is : Some p.1 ≡ Some o = rw f at s in
        let k_is : p.0 ≡ k = grind (arith, nat_tests) in
        let o_is : p.1 ≡ o = cc in
        let same : h p ≡ h (k, o) = ap h (pair_same p (k, o) k_is o_is) in
        let gone : sum_by h (without k m) ≡ sum_by h m = ap (sum_by h) (without_below k (suc p.0) m (omega (arith, k_is)) r.1) in
        omega (arith, same, gone, sum_by-cons h p m)
    go rest false f =
        let x : value_of k m ≡ Some o = rw f at s in
        omega (arith, rest x, sum_by-cons h p (without k m), sum_by-cons h p m)

-- a sum over the values of the pairs that pass a test
sum-values : (f : ℕ → ℕ) (t : ℕ → Bool) (m : Pairs) → sum_by f (values (filter (λ p. t p.0) m)) ≡ sum_by (λ p. cond (t p.0) (f p.1) 0) m
sum-values f t [] = refl
sum-values f t (p ∷ m) = go (sum-values f t m) (t p.0) ∙ sym (sum_by-cons (λ (q : ℕ × ℕ). cond (t q.0) (f q.1) 0) p m)
  where
    go : sum_by f (values (filter (λ p. t p.0) m)) ≡ sum_by (λ p. cond (t p.0) (f p.1) 0) m → (b : Bool) → sum_by f (values (cond b (p ∷ filter (λ p. t p.0) m) (filter (λ p. t p.0) m))) ≡ cond b (f p.1) 0 + sum_by (λ p. cond (t p.0) (f p.1) 0) m
    go i true = omega (arith, i, sum_by-cons f p.1 (values (filter (λ p. t p.0) m)))
    go i false = omega (arith, i)

-- the values of the pairs whose keys pass a test that this key passes: after a put of it, where it
-- is new
pub bag-put_new : (t : ℕ → Bool) (k v : ℕ) (m : Pairs) → t k ≡ true → value_of k m ≡ None → IsSameBag (v ∷ values (filter (λ p. t p.0) m)) (values (filter (λ p. t p.0) (put k v m)))
bag-put_new t k v m h n = record {
  sums = λ f.
      let w : ℕ × ℕ → ℕ = λ p. cond (t p.0) (f p.1) 0 in
      let here : w (k, v) ≡ f v = rw h refl in
      omega (arith, here, sum_by-cons f v (values (filter (λ p. t p.0) m)), sum-values f t m, sum-values f t (put k v m), sum-put_new w k v m n);
}

-- where it had a value
pub bag-put_over : (t : ℕ → Bool) (k v o : ℕ) (m : Pairs) → t k ≡ true → RisesFrom 0 m → value_of k m ≡ Some o → IsSameBag (v ∷ values (filter (λ p. t p.0) m)) (o ∷ values (filter (λ p. t p.0) (put k v m)))
bag-put_over t k v o m h r s = record {
  sums = λ f.
      let w : ℕ × ℕ → ℕ = λ p. cond (t p.0) (f p.1) 0 in
      let here : w (k, v) ≡ f v = rw h refl in
      let there : w (k, o) ≡ f o = rw h refl in
      omega (arith, here, there, sum_by-cons f v (values (filter (λ p. t p.0) m)), sum_by-cons f o (values (filter (λ p. t p.0) (put k v m))), sum-values f t m, sum-values f t (put k v m), sum-put_over w k v o 0 m r s);
}

-- after a delete of it
pub bag-without : (t : ℕ → Bool) (k o : ℕ) (m : Pairs) → t k ≡ true → RisesFrom 0 m → value_of k m ≡ Some o → IsSameBag (values (filter (λ p. t p.0) m)) (o ∷ values (filter (λ p. t p.0) (without k m)))
bag-without t k o m h r s = record {
  sums = λ f.
      let w : ℕ × ℕ → ℕ = λ p. cond (t p.0) (f p.1) 0 in
      let there : w (k, o) ≡ f o = rw h refl in
      omega (arith, there, sum_by-cons f o (values (filter (λ p. t p.0) (without k m))), sum-values f t m, sum-values f t (without k m), sum-without w k o 0 m r s);
}

-- and where this key does not pass it
pub filter-put_other : (t : ℕ → Bool) (k v : ℕ) (m : Pairs) → t k ≡ false → filter (λ p. t p.0) (put k v m) ≡ filter (λ p. t p.0) m
filter-put_other t k v [] h = rw h refl
filter-put_other t k v (p ∷ m) h = go (filter-put_other t k v m h) (ltb k p.0) (eqb k p.0) refl
  where
    go : filter (λ p. t p.0) (put k v m) ≡ filter (λ p. t p.0) m → (b c : Bool) → eqb k p.0 ≡ c → filter (λ p. t p.0) (cond b ((k, v) ∷ p ∷ m) (cond c ((k, v) ∷ m) (p ∷ put k v m))) ≡ filter (λ p. t p.0) (p ∷ m)
    go i true c f = rw h refl
    go i false true f =
        let k_is : p.0 ≡ k = grind (arith, nat_tests) in
        let there : t p.0 ≡ false = ap t k_is ∙ h in
        rw (h, there) refl
    go i false false f = ap (λ r. cond (t p.0) (p ∷ r) r) i

pub filter-without_other : (t : ℕ → Bool) (k : ℕ) (m : Pairs) → t k ≡ false → filter (λ p. t p.0) (without k m) ≡ filter (λ p. t p.0) m
filter-without_other t k [] h = refl
filter-without_other t k (p ∷ m) h = go (filter-without_other t k m h) (eqb k p.0) refl
  where
    go : filter (λ p. t p.0) (without k m) ≡ filter (λ p. t p.0) m → (c : Bool) → eqb k p.0 ≡ c → filter (λ p. t p.0) (cond (not c) (p ∷ without k m) (without k m)) ≡ filter (λ p. t p.0) (p ∷ m)
    go i true f =
        let k_is : p.0 ≡ k = grind (arith, nat_tests) in
        let there : t p.0 ≡ false = ap t k_is ∙ h in
        rw there i
    go i false f = ap (λ r. cond (t p.0) (p ∷ r) r) i
