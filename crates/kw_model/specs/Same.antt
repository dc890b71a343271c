-- The test for equal lists of pairs, which `==` on them computes. A file of its own, since it names
-- no type of the crate.
use Rattle.std.specs.Prelude.{ℕ, Bool, nat_eq, List}
use Rattle.std.specs.Ordering.{on, eq_of_both}
use Rattle.std.specs.Cmp.Lexicographic.{pointwise}

-- the same key and value
abbrev pub same_pair : ℕ × ℕ → ℕ × ℕ → Bool
same_pair = eq_of_both (on (λ p. p.0) nat_eq) (on (λ p. p.1) nat_eq)

-- the same pairs in the same order
abbrev pub same_pairs : List (ℕ × ℕ) → List (ℕ × ℕ) → Bool
same_pairs = pointwise same_pair
