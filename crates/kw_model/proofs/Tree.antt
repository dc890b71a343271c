-- What std says of the entries of its tree, in the words of the map. Only the map of this crate
-- stands on them.
use Rattle.std.proofs.Common.{ℕ, suc, ◌≡◌, ◌<◌, ◌≤◌, List, [], ◌∷◌, refl, arith}
use Rattle.std.proofs.lemmas.Bool.Decides.{nat_tests}
use Rattle.std.specs.List.{AllByRecursion}
use Rattle.std.specs.Map.{lookup, remove_entry, keys_of}
use Rattle.std.specs.BTreeMap.{insert_entry, is_at}
use Rattle.std.specs.BTreeMap.Range.{entries_between}
use Rattle.std.specs.declared.ops.Bound.TheVariants.{Included}
use Rattle.std.specs.List.Sorted.{IsStrictlySortedBy}
use Rattle.std.specs.Ordering.{nat_cmp}
use Rattle.std.specs.declared.cmp.Ordering.TheVariants.{Less}
use Rattle.kw_model.proofs.Pairs.{without_below}
use Rattle.kw_model.specs.Map.{Pairs, RisesFrom, IsRising, value_of, put, without, between}

-- looking a key up gives its value
pub lookup_is : (k : ℕ) (m : Pairs) → lookup (is_at (nat_cmp k)) m ≡ value_of k m
lookup_is k [] = refl
lookup_is k (p ∷ m) = let i = lookup_is k m in grind (arith, nat_tests)

-- inserting is a put
pub insert_is : (k v : ℕ) (m : Pairs) → insert_entry nat_cmp m k v ≡ put k v m
insert_is k v [] = refl
insert_is k v (p ∷ m) = let i = insert_is k v m in grind (arith, nat_tests)

-- the entries between two keys are the range
pub entries_are : (a b : ℕ) (m : Pairs) → entries_between nat_cmp (Included a) (Included b) m ≡ between a b m
entries_are a b [] = refl
entries_are a b (p ∷ m) = let i = entries_are a b m in grind (arith, nat_tests)

-- removing is a delete
pub remove_is : (k low : ℕ) (m : Pairs) → RisesFrom low m → remove_entry (is_at (nat_cmp k)) m ≡ without k m
remove_is k low [] r = refl
remove_is k low (p ∷ m) r = let i = remove_is k (suc p.0) m r.1 in
    let b : k < suc p.0 → without k m ≡ m = λ l. without_below k (suc p.0) m l r.1 in
    grind (arith, nat_tests)

-- keys that std orders after a key are above it
above : (k : ℕ) (ks : List ℕ) → AllByRecursion (λ y. nat_cmp k y ≡ Less) ks → AllByRecursion (λ y. suc k ≤ y) ks
above k [] a = tt
above k (y ∷ ys) a = let e = a.0 in (grind (arith, nat_tests), above k ys a.1)

-- entries whose keys std calls sorted rise, from any bound below them
rises_in : (low : ℕ) (m : Pairs) → IsStrictlySortedBy nat_cmp (keys_of m) → AllByRecursion (λ k. low ≤ k) (keys_of m) → RisesFrom low m
unfolding IsStrictlySortedBy
rises_in low [] s a = tt
rises_in low (p ∷ m) s a = (a.0, rises_in (suc p.0) m s.1 (above p.0 (keys_of m) s.0))

-- entries whose keys std calls sorted rise
pub rises_from_sorted : (m : Pairs) → IsStrictlySortedBy nat_cmp (keys_of m) → IsRising m
rises_from_sorted m s = rises_in 0 m s (all m)
  where
    all : (n : Pairs) → AllByRecursion (λ k. 0 ≤ k) (keys_of n)
    all [] = tt
    all (p ∷ n) = (omega arith, all n)
