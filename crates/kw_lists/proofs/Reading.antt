-- What a reader reaches.
use Rattle.std.proofs.Common.{ℕ, ◌≡◌, ◌⊎◌, inl, inr, ◌<◌, ◌≤◌, true, Option, Some, None, arith, ap}
use Rattle.kw_lists.specs.Rows.{Row, Stands, IsBehind, IsNext, Leads}

-- at the end of the list nothing is behind
pub list_ends : (r : Row) (at to : Option ℕ) (d : ℕ) → Leads r at to → to ≡ None → r.listed d ≡ true → IsBehind r at d → ⊥
list_ends r at None d l q e b = l.none d e b
list_ends r at (Some c) d l q e b = let k : Some c ≡ None = q in cc

-- what stands behind a key above the range is above it
pub above_range : (r : Row) (c d upto : ℕ) → upto < r.key c → (d ≡ c) ⊎ Stands r c d → upto < r.key d
above_range r c d upto u (inl q) = let y = ap r.key q in omega arith
above_range r c d upto u (inr x) = omega arith

-- of the cells of one key behind a link the one that the link holds has the greatest version
pub newest : (r : Row) (at : Option ℕ) (c d : ℕ) → IsNext r at c → r.listed d ≡ true → IsBehind r at d → r.key d ≡ r.key c → r.version d ≤ r.version c
newest r at c d l u b e = which (l.first d u b)
  where
    which : (d ≡ c) ⊎ Stands r c d → r.version d ≤ r.version c
    which (inl q) = let y : r.version d ≡ r.version c = ap r.version q in omega arith
    which (inr x) = omega arith
