-- The next pair of a range, as keys that show nothing are passed.
use Rattle.std.proofs.Common.{ℕ, ◌≡◌, ◌<◌, ◌≤◌, ◌+◌, Some, None, List, [], ◌∷◌, refl, ap, ◌∙◌, arith, add-one, All, nat_lt, Bool, true, false}
use Rattle.std.proofs.lemmas.Bool.Decides.{nat_tests}
use Rattle.kw_cells.specs.Cells.{shown_at, pairs_of, IsNextPair, IsLeastKey}
use Rattle.kw_cells.specs.declared.cell.Cell.{Cell}
use Rattle.kw_cells.proofs.Best.{shown_at-absent}
use Rattle.kw_cells.proofs.Least.{absent_below, absent_in}
use Rattle.kw_cells.proofs.Ranges.{pairs_between-none, pairs_between-next}

-- no key from `from` on, below `low`, shows a value
abbrev pub IsSilent : List Cell → ℕ → ℕ → ℕ → Type 0
IsSilent cells version from low = (q : ℕ) → from ≤ q → q < low → shown_at cells version q ≡ None

-- no key below the least key of the range shows a value
pub silent_below : (cells : List Cell) (version from low to key : ℕ) → IsLeastKey cells low to key → IsSilent cells version from low → IsSilent cells version from key
silent_below cells version from low to key least before q f l = go (nat_lt q low) refl
  where
    go : (b : Bool) → nat_lt q low ≡ b → shown_at cells version q ≡ None
    go true e = before q f (grind (arith, nat_tests))
    go false e = shown_at-absent cells version q (absent_below cells low to key q least (grind (arith, nat_tests)) l)

-- nor up to it, where it shows none
pub silent_through : (cells : List Cell) (version from low to key : ℕ) → IsLeastKey cells low to key → shown_at cells version key ≡ None → IsSilent cells version from low → IsSilent cells version from (key + 1)
silent_through cells version from low to key least none before q f l = go (nat_lt q key) refl
  where
    go : (b : Bool) → nat_lt q key ≡ b → shown_at cells version q ≡ None
    go true e = silent_below cells version from low to key least before q f (grind (arith, nat_tests))
    go false e = let same : q ≡ key = grind (arith, nat_tests) in ap (shown_at cells version) same ∙ none

-- where no key is left, none of the range shows a value
pub silent_in_all : (cells : List Cell) (version from low to : ℕ) → All (λ c. low ≤ c.key → to < c.key) cells → IsSilent cells version from low → (q : ℕ) → from ≤ q → q ≤ to → shown_at cells version q ≡ None
silent_in_all cells version from low to h before q f l = go (nat_lt q low) refl
  where
    go : (b : Bool) → nat_lt q low ≡ b → shown_at cells version q ≡ None
    go true e = before q f (grind (arith, nat_tests))
    go false e = shown_at-absent cells version q (absent_in cells low to q h (grind (arith, nat_tests)) l)

-- a least key that shows a value gives the next pair
pub next_is : (cells : List Cell) (version from low to key value : ℕ) → from ≤ low → IsLeastKey cells low to key → shown_at cells version key ≡ Some value → IsSilent cells version from low → IsNextPair cells from to version (key, value)
next_is cells version from low to key value f least shown before = record { from = let l = least.from in omega arith; to = least.to; shown = shown; least = silent_below cells version from low to key least before }

-- the pairs of a range begin with the next pair
pub pairs_of-next : (cells : List Cell) (version from to : ℕ) (pair : ℕ × ℕ) → IsNextPair cells from to version pair → pairs_of cells from to version ≡ pair ∷ pairs_of cells (pair.0 + 1) to version
pairs_of-next cells version from to pair n = rw add-one (pairs_between-next (shown_at cells version) from to pair.0 pair.1 n.from n.to n.shown n.least)

-- a range where no key shows a value has no pairs
pub pairs_of-none : (cells : List Cell) (version from to : ℕ) → ((q : ℕ) → from ≤ q → q ≤ to → shown_at cells version q ≡ None) → pairs_of cells from to version ≡ []
pairs_of-none cells version from to h = pairs_between-none (shown_at cells version) from to h
