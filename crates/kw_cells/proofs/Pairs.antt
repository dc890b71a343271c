-- Lists of pairs by rising key: a rising list is known by its values.
use Rattle.std.proofs.Common.{ℕ, zero, suc, ◌≡◌, ◌≢◌, ◌<◌, ◌≤◌, [], ◌∷◌, None, refl, arith, All}
use Rattle.std.proofs.lemmas.Bool.Decides.{nat_tests}
use Rattle.kw_cells.specs.Pairs.{Pairs, RisesFrom, value_of}

-- a list that rises from some key rises from any lower one
pub lower : (low high : ℕ) (m : Pairs) → low ≤ high → RisesFrom high m → RisesFrom low m
lower low high [] h r = tt
lower low high (p ∷ m) h r = (omega arith, r.1)

-- a key below the start is none of the list's
pub none_below : (k low : ℕ) (m : Pairs) → k < low → RisesFrom low m → value_of k m ≡ None
none_below k low [] h r = refl
none_below k low (p ∷ m) h r = let i = none_below k (suc p.0) m (omega arith) r.1 in grind (arith, nat_tests)

-- where all keys lie in a range, none outside has a value
pub none_outside : (k a b : ℕ) (m : Pairs) → All (λ p. (a ≤ p.0) × (p.0 ≤ b)) m → (a ≤ k → k ≤ b → ⊥) → value_of k m ≡ None
none_outside k a b [] h o = refl
none_outside k a b (p ∷ m) h o =
    let i = none_outside k a b m (λ j d l. h (suc j) d (omega arith)) o in
    let first : (a ≤ p.0) × (p.0 ≤ b) = h 0 p (omega arith) in
    let apart : k ≢ p.0 = λ e. o (omega arith) (omega arith) in
    grind (arith, nat_tests)

-- pairs of one key and one value are equal
pub pair_same : (p q : ℕ × ℕ) → p.0 ≡ q.0 → p.1 ≡ q.1 → p ≡ q
pair_same p q a b = let e : (p.0, p.1) ≡ (q.0, q.1) = cc in e

-- two rising lists with one value at each key are equal
pub same_from_values : (low high : ℕ) (m n : Pairs) → RisesFrom low m → RisesFrom high n → ((k : ℕ) → value_of k m ≡ value_of k n) → m ≡ n
same_from_values low high [] [] r s h = refl
same_from_values low high [] (q ∷ n) r s h = let e = h q.0 in grind (arith, nat_tests)
same_from_values low high (p ∷ m) [] r s h = let e = h p.0 in grind (arith, nat_tests)
same_from_values low high (p ∷ m) (q ∷ n) r s h =
    let a : p.0 < suc q.0 → value_of p.0 n ≡ None = λ l. none_below p.0 (suc q.0) n l s.1 in
    let b : q.0 < suc p.0 → value_of q.0 m ≡ None = λ l. none_below q.0 (suc p.0) m l r.1 in
    let e = h p.0 in
    let f = h q.0 in
    let keys : p.0 ≡ q.0 = grind (arith, nat_tests) in
    let values : p.1 ≡ q.1 = grind (arith, nat_tests) in
    let first : p ≡ q = pair_same p q keys values in
    let rest : m ≡ n = same_from_values (suc p.0) (suc q.0) m n r.1 s.1 (others keys) in
    cc
  where
    others : p.0 ≡ q.0 → (k : ℕ) → value_of k m ≡ value_of k n
    others keys k =
        let a : k < suc p.0 → value_of k m ≡ None = λ l. none_below k (suc p.0) m l r.1 in
        let b : k < suc q.0 → value_of k n ≡ None = λ l. none_below k (suc q.0) n l s.1 in
        let e = h k in
        grind (arith, nat_tests)

-- the keys of the pairs lie from `low` on, below `high`
abbrev pub LieIn : ℕ → ℕ → Pairs → Type 0
LieIn low high [] = Unit {0}
LieIn low high (p ∷ m) = ((low ≤ p.0) × (p.0 < high)) × LieIn low high m

-- a wider range
pub wider : (low next high : ℕ) (m : Pairs) → low ≤ next → LieIn next high m → LieIn low high m
wider low next high [] l h = tt
wider low next high (p ∷ m) l h = ((omega arith, h.0.1), wider low next high m l h.1)

-- a fact of each pair, by places
pub all_lie : (a b high : ℕ) (m : Pairs) → high ≤ suc b → LieIn a high m → All (λ p. (a ≤ p.0) × (p.0 ≤ b)) m
all_lie a b high [] h l k d i = absurd (omega arith)
all_lie a b high (p ∷ m) h l zero d i = (l.0.0, omega arith)
all_lie a b high (p ∷ m) h l (suc k) d i = all_lie a b high m h l.1 k d (omega arith)
