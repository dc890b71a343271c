-- What std says of the entries of its tree, in the words of lists of pairs.
use Rattle.std.proofs.Common.{ℕ, suc, ◌&&◌, nat_le, cond, eqb, ◌≡◌, ◌≤◌, List, [], ◌∷◌, Some, refl, arith}
use Rattle.std.proofs.lemmas.Bool.Decides.{nat_tests}
use Rattle.std.specs.List.{AllByRecursion, filter}
use Rattle.std.specs.Map.{lookup, keys_of}
use Rattle.std.specs.BTreeMap.{insert_entry, is_at}
use Rattle.std.specs.BTreeMap.Range.{entries_between}
use Rattle.std.specs.declared.ops.Bound.TheVariants.{Included}
use Rattle.std.specs.List.Sorted.{IsStrictlySortedBy}
use Rattle.std.specs.Ordering.{nat_cmp}
use Rattle.std.specs.declared.cmp.Ordering.TheVariants.{Less}
use Rattle.kw_cells.specs.Pairs.{Pairs, RisesFrom, IsRising, value_of}

-- the pairs of the keys from a to b
abbrev pub within : ℕ → ℕ → Pairs → Pairs
within a b m = filter (λ p. nat_le a p.0 && nat_le p.0 b) m

-- looking a key up gives its value
pub lookup_is : (k : ℕ) (m : Pairs) → lookup (is_at (nat_cmp k)) m ≡ value_of k m
lookup_is k [] = refl
lookup_is k (p ∷ m) = let i = lookup_is k m in grind (arith, nat_tests)

-- inserting leaves the value at its key, and every other key as it was
pub value-insert_entry : (q k v : ℕ) (m : Pairs) → value_of q (insert_entry nat_cmp m k v) ≡ cond (eqb q k) (Some v) (value_of q m)
value-insert_entry q k v [] = refl
value-insert_entry q k v (p ∷ m) = let i = value-insert_entry q k v m in grind (arith, nat_tests)

-- the entries between two keys are those of the keys from the one to the other
pub entries_are : (a b : ℕ) (m : Pairs) → entries_between nat_cmp (Included a) (Included b) m ≡ within a b m
entries_are a b [] = refl
entries_are a b (p ∷ m) = let i = entries_are a b m in grind (arith, nat_tests)

-- keys that std orders after a key are above it
above : (k : ℕ) (ks : List ℕ) → AllByRecursion (λ y. nat_cmp k y ≡ Less) ks → AllByRecursion (λ y. suc k ≤ y) ks
above k [] a = tt
above k (y ∷ ys) a = let e = a.0 in (grind (arith, nat_tests), above k ys a.1)

-- entries whose keys std calls sorted rise, from any bound below them
rises_in : (low : ℕ) (m : Pairs) → IsStrictlySortedBy nat_cmp (keys_of m) → AllByRecursion (λ k. low ≤ k) (keys_of m) → RisesFrom low m
unfolding IsStrictlySortedBy
rises_in low [] s a = tt
rises_in low (p ∷ m) s a = (a.0, rises_in (suc p.0) m s.1 (above p.0 (keys_of m) s.0))

-- entries whose keys std calls sorted rise
pub rises_from_sorted : (m : Pairs) → IsStrictlySortedBy nat_cmp (keys_of m) → IsRising m
rises_from_sorted m s = rises_in 0 m s (all m)
  where
    all : (n : Pairs) → AllByRecursion (λ k. 0 ≤ k) (keys_of n)
    all [] = tt
    all (p ∷ n) = (omega arith, all n)
