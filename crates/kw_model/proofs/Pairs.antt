-- Lists of pairs by rising key: what a put, a delete and a range leave at each key, that they keep
-- the order, and that a rising list is known by its values. The lemmas on orders and replies in
-- other crates stand on these.
use Rattle.std.proofs.Common.{ℕ, suc, Bool, true, false, ◌≡◌, ◌≢◌, ◌<◌, ◌≤◌, cond, eqb, ltb, leb, ◌&&◌, not, ◌==◌, nat_le, [], ◌∷◌, Some, None, refl, arith}
use Rattle.std.proofs.lemmas.Bool.Decides.{nat_tests}
use Rattle.std.specs.List.{filter}
use Rattle.kw_model.specs.Map.{Pairs, RisesFrom, value_of, put, without, between}

-- a list that rises from some key rises from any lower one
pub lower : (low high : ℕ) (m : Pairs) → low ≤ high → RisesFrom high m → RisesFrom low m
lower low high [] h r = tt
lower low high (p ∷ m) h r = (omega arith, r.1)

-- a key below the start is none of the list's
pub none_below : (k low : ℕ) (m : Pairs) → k < low → RisesFrom low m → value_of k m ≡ None
none_below k low [] h r = refl
none_below k low (p ∷ m) h r = let i = none_below k (suc p.0) m (omega arith) r.1 in grind (arith, nat_tests)

-- the value of the first pair's key
pub value-here : (k v : ℕ) (m : Pairs) → value_of k ((k, v) ∷ m) ≡ Some v
value-here k v m = grind (arith, nat_tests)

-- the value of another key is in the rest
pub value-apart : (k : ℕ) (p : ℕ × ℕ) (m : Pairs) → k ≢ p.0 → value_of k (p ∷ m) ≡ value_of k m
value-apart k p m h = grind (arith, nat_tests)

-- a put leaves its value at its key, and every other key as it was
pub value-put : (q k v : ℕ) (m : Pairs) → value_of q (put k v m) ≡ cond (eqb q k) (Some v) (value_of q m)
value-put q k v [] = refl
value-put q k v (p ∷ m) = let i = value-put q k v m in grind (arith, nat_tests)

-- a delete leaves nothing at its key, and every other key as it was
pub value-without : (q k : ℕ) (m : Pairs) → value_of q (without k m) ≡ cond (eqb q k) None (value_of q m)
value-without q k [] = grind (arith, nat_tests)
value-without q k (p ∷ m) = let i = value-without q k m in grind (arith, nat_tests)

-- a range has the values of its keys, and nothing outside
pub value-between : (q a b : ℕ) (m : Pairs) → value_of q (between a b m) ≡ cond (leb a q && leb q b) (value_of q m) None
value-between q a b [] = grind (arith, nat_tests)
value-between q a b (p ∷ m) = let i = value-between q a b m in grind (arith, nat_tests)

-- an empty range has no pairs
pub between_none : (a b : ℕ) (m : Pairs) → b < a → between a b m ≡ []
between_none a b [] h = refl
between_none a b (p ∷ m) h = let i = between_none a b m h in grind (arith, nat_tests)

-- a put keeps the order
pub rises-put : (low k v : ℕ) (m : Pairs) → low ≤ k → RisesFrom low m → RisesFrom low (put k v m)
rises-put low k v [] h r = (h, tt)
rises-put low k v (p ∷ m) h r = go (λ l. rises-put (suc p.0) k v m l r.1) (ltb k p.0) (eqb k p.0) refl refl
  where
    go : (suc p.0 ≤ k → RisesFrom (suc p.0) (put k v m)) → (b c : Bool) → ltb k p.0 ≡ b → eqb k p.0 ≡ c → RisesFrom low (cond b ((k, v) ∷ p ∷ m) (cond c ((k, v) ∷ m) (p ∷ put k v m)))
    go rest true c e f = (h, (grind (arith, nat_tests), r.1))
    go rest false true e f = (h, lower (suc k) (suc p.0) m (grind (arith, nat_tests)) r.1)
    go rest false false e f = (r.0, rest (grind (arith, nat_tests)))

-- leaving pairs out keeps the order
rises-filter : (low : ℕ) (f : ℕ × ℕ → Bool) (m : Pairs) → RisesFrom low m → RisesFrom low (filter f m)
rises-filter low f [] r = tt
rises-filter low f (p ∷ m) r = go (rises-filter (suc p.0) f m r.1) (f p)
  where
    go : RisesFrom (suc p.0) (filter f m) → (b : Bool) → RisesFrom low (cond b (p ∷ filter f m) (filter f m))
    go rest true = (r.0, rest)
    go rest false = lower low (suc p.0) (filter f m) (omega arith) rest

-- a delete keeps the order
pub rises-without : (low k : ℕ) (m : Pairs) → RisesFrom low m → RisesFrom low (without k m)
rises-without low k m r = rises-filter low (λ p. not (k == p.0)) m r

-- a range keeps the order
pub rises-between : (low a b : ℕ) (m : Pairs) → RisesFrom low m → RisesFrom low (between a b m)
rises-between low a b m r = rises-filter low (λ p. nat_le a p.0 && nat_le p.0 b) m r

-- taking away a key below the start changes nothing
pub without_below : (k low : ℕ) (m : Pairs) → k < low → RisesFrom low m → without k m ≡ m
without_below k low [] h r = refl
without_below k low (p ∷ m) h r = let i = without_below k (suc p.0) m (omega arith) r.1 in grind (arith, nat_tests)

-- pairs of one key and one value are equal
pub pair_same : (p q : ℕ × ℕ) → p.0 ≡ q.0 → p.1 ≡ q.1 → p ≡ q
pair_same p q a b = let e : (p.0, p.1) ≡ (q.0, q.1) = cc in e

-- two rising lists with one value at each key are equal
pub same_from_values : (low high : ℕ) (m n : Pairs) → RisesFrom low m → RisesFrom high n → ((k : ℕ) → value_of k m ≡ value_of k n) → m ≡ n
same_from_values low high [] [] r s h = refl
same_from_values low high [] (q ∷ n) r s h = let e = h q.0 in grind (arith, nat_tests)
same_from_values low high (p ∷ m) [] r s h = let e = h p.0 in grind (arith, nat_tests)
same_from_values low high (p ∷ m) (q ∷ n) r s h =
    let a : p.0 < suc q.0 → value_of p.0 n ≡ None = λ l. none_below p.0 (suc q.0) n l s.1 in
    let b : q.0 < suc p.0 → value_of q.0 m ≡ None = λ l. none_below q.0 (suc p.0) m l r.1 in
    let e = h p.0 in
    let f = h q.0 in
    let keys : p.0 ≡ q.0 = grind (arith, nat_tests) in
    let values : p.1 ≡ q.1 = grind (arith, nat_tests) in
    let first : p ≡ q = pair_same p q keys values in
    let rest : m ≡ n = same_from_values (suc p.0) (suc q.0) m n r.1 s.1 (others keys) in
    cc
  where
    others : p.0 ≡ q.0 → (k : ℕ) → value_of k m ≡ value_of k n
    others keys k =
        let a : k < suc p.0 → value_of k m ≡ None = λ l. none_below k (suc p.0) m l r.1 in
        let b : k < suc q.0 → value_of k n ≡ None = λ l. none_below k (suc q.0) n l s.1 in
        let e = h k in
        grind (arith, nat_tests)
