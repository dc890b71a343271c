-- The order of the cells, and its test.
use Rattle.std.proofs.Common.{ℕ, ◌≡◌, ◌≢◌, ◌⊎◌, inl, inr, ◌<◌, ◌≤◌, Bool, true, false, Option, Some, None, arith, refl, sym, ◌∙◌, ap}
use Rattle.std.proofs.lemmas.Bool.{cases_lt}
use Rattle.std.proofs.lemmas.Bool.Decides.{nat_tests}
use Rattle.kw_lists.specs.Rows.{Row, Stands, stands, IsBehind}

-- two numbers: less, the same, or greater
compared : (a b : ℕ) → (a < b) ⊎ (a ≡ b) ⊎ (b < a)
compared a b = which (cases_lt a b)
  where
    again : b ≤ a → (b < a) ⊎ (a ≤ b) → (a < b) ⊎ (a ≡ b) ⊎ (b < a)
    again x (inl y) = inr (inr y)
    again x (inr y) = inr (inl (omega arith))

    which : (a < b) ⊎ (b ≤ a) → (a < b) ⊎ (a ≡ b) ⊎ (b < a)
    which (inl x) = inl x
    which (inr x) = again x (cases_lt b a)

-- what stands before a cell stands before those behind it
pub stands_trans : (r : Row) (a b c : ℕ) → Stands r a b → Stands r b c → Stands r a c
stands_trans r a b c (inl x) (inl y) = inl (omega arith)
stands_trans r a b c (inl x) (inr (y, z)) = inl (omega arith)
stands_trans r a b c (inr (x, w)) (inl y) = inl (omega arith)
stands_trans r a b c (inr (x, inl w)) (inr (y, inl z)) = inr (x ∙ y, inl (omega arith))
stands_trans r a b c (inr (x, inl w)) (inr (y, inr z)) = inr (x ∙ y, inl (omega arith))
stands_trans r a b c (inr (x, inr w)) (inr (y, inl z)) = inr (x ∙ y, inl (omega arith))
stands_trans r a b c (inr (x, inr w)) (inr (y, inr z)) = inr (x ∙ y, inr (z.0 ∙ w.0, omega arith))

-- no two cells stand before each other
pub stands_apart : (r : Row) (a b : ℕ) → Stands r a b → Stands r b a → ⊥
stands_apart r a b x y = omega arith

-- no cell stands before itself
pub stands_self : (r : Row) (a : ℕ) → Stands r a a → ⊥
stands_self r a x = omega arith

-- of two cells one stands before the other
pub stands_or : (r : Row) (a b : ℕ) → (a ≡ b) ⊎ Stands r a b ⊎ Stands r b a
stands_or r a b = by_key (compared (r.key a) (r.key b))
  where
    by_place : r.key a ≡ r.key b → r.version a ≡ r.version b → (a < b) ⊎ (a ≡ b) ⊎ (b < a) → (a ≡ b) ⊎ Stands r a b ⊎ Stands r b a
    by_place k v (inl x) = inr (inr (inr (sym k, inr (v, x))))
    by_place k v (inr (inl x)) = inl x
    by_place k v (inr (inr x)) = inr (inl (inr (k, inr (sym v, x))))

    by_version : r.key a ≡ r.key b → (r.version a < r.version b) ⊎ (r.version a ≡ r.version b) ⊎ (r.version b < r.version a) → (a ≡ b) ⊎ Stands r a b ⊎ Stands r b a
    by_version k (inl x) = inr (inr (inr (sym k, inl x)))
    by_version k (inr (inl x)) = by_place k x (compared a b)
    by_version k (inr (inr x)) = inr (inl (inr (k, inl x)))

    by_key : (r.key a < r.key b) ⊎ (r.key a ≡ r.key b) ⊎ (r.key b < r.key a) → (a ≡ b) ⊎ Stands r a b ⊎ Stands r b a
    by_key (inl x) = inr (inl (inl x))
    by_key (inr (inl x)) = by_version x (compared (r.version a) (r.version b))
    by_key (inr (inr x)) = inr (inr (inl x))

-- what stands behind a cell behind the link stands behind the link
pub behind_trans : (r : Row) (at : Option ℕ) (b c : ℕ) → IsBehind r at b → Stands r b c → IsBehind r at c
behind_trans r None b c x y = tt
behind_trans r (Some a) b c x y = stands_trans r a b c x y

-- The test.

-- where it fails the first does not stand before the second
stands_no : (r : Row) (c d : ℕ) → stands r c d ≡ false → Stands r c d → ⊥
stands_no r c d e x = grind (arith, nat_tests)

-- it holds of no cell and itself
not_self : (r : Row) (c d : ℕ) → stands r c d ≡ true → c ≡ d → ⊥
not_self r c d e q = grind (arith, nat_tests, ap r.key q, ap r.version q)

-- where it holds the second does not stand before the first
not_both : (r : Row) (c d : ℕ) → stands r c d ≡ true → Stands r d c → ⊥
not_both r c d e x = grind (arith, nat_tests)

-- where it holds the first stands before the second
pub stands_yes : (r : Row) (c d : ℕ) → stands r c d ≡ true → Stands r c d
stands_yes r c d e = which (stands_or r c d)
  where
    which : (c ≡ d) ⊎ Stands r c d ⊎ Stands r d c → Stands r c d
    which (inl q) = absurd (not_self r c d e q)
    which (inr (inl x)) = x
    which (inr (inr x)) = absurd (not_both r c d e x)

-- of two cells that are not one, where it fails the second stands before the first
pub stands_other : (r : Row) (c d : ℕ) → stands r c d ≡ false → c ≢ d → Stands r d c
stands_other r c d e n = which (stands_or r c d)
  where
    which : (c ≡ d) ⊎ Stands r c d ⊎ Stands r d c → Stands r d c
    which (inl q) = absurd (n q)
    which (inr (inl x)) = absurd (stands_no r c d e x)
    which (inr (inr x)) = x

-- the test holds where the first stands before the second
pub stands_is : (r : Row) (c d : ℕ) → Stands r c d → stands r c d ≡ true
stands_is r c d x = which (stands r c d) refl
  where
    which : (b : Bool) → stands r c d ≡ b → stands r c d ≡ true
    which true e = e
    which false e = absurd (stands_no r c d e x)
