-- Cells that are as they were stand as they stood.
use Rattle.std.proofs.Common.{ℕ, ◌≡◌, inl, inr, true, Option, Some, None, arith, sym, ◌∙◌}
use Rattle.kw_lists.specs.Rows.{Row, Stands, IsBehind, IsOn}
use Rattle.kw_lists.specs.Changes.{SameCell, IsAhead}

-- what was the same the other way round
pub same_back : (r r' : Row) (c : ℕ) → SameCell r r' c → SameCell r' r c
same_back r r' c s = record { key = sym s.key; version = sym s.version }

-- from row to row to row
pub same_trans : (r m r' : Row) (c : ℕ) → SameCell r m c → SameCell m r' c → SameCell r r' c
same_trans r m r' c s t = record { key = t.key ∙ s.key; version = t.version ∙ s.version }

-- the order of two cells
pub stands_same : (r r' : Row) (c d : ℕ) → SameCell r r' c → SameCell r r' d → Stands r c d → Stands r' c d
stands_same r r' c d s t (inl x) = inl (omega (arith, s.key, t.key))
stands_same r r' c d s t (inr (x, inl y)) = inr (s.key ∙ x ∙ sym t.key, inl (omega (arith, s.version, t.version)))
stands_same r r' c d s t (inr (x, inr y)) = inr (s.key ∙ x ∙ sym t.key, inr (t.version ∙ y.0 ∙ sym s.version, y.1))

-- a cell behind a link of listed cells
pub behind_same : (r r' : Row) → ((c : ℕ) → r.listed c ≡ true → SameCell r r' c) → (at : Option ℕ) (d : ℕ) → IsOn r at → SameCell r r' d → IsBehind r at d → IsBehind r' at d
behind_same r r' s None d o t b = b
behind_same r r' s (Some c) d o t b = stands_same r r' c d (s c o) t b

-- a cell ahead of what a link held
pub ahead_same : (r r' : Row) → ((c : ℕ) → r.listed c ≡ true → SameCell r r' c) → (c : ℕ) (held : Option ℕ) → SameCell r r' c → IsOn r held → IsAhead r c held → IsAhead r' c held
ahead_same r r' s c None t o a = a
ahead_same r r' s c (Some d) t o a = stands_same r r' c d t (s d o) a
