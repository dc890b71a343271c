-- The pairs that a scan adds, one after the other.
use Rattle.std.proofs.Common.{ℕ, ◌≡◌, ◌+◌, ◌++◌, List, [], ◌∷◌, ap, sym, ◌∙◌, arith}
use Rattle.kw_cells.specs.declared.cell.Cell.{Cell}
use Rattle.kw_cells.specs.Cells.{pairs_of}
use Rattle.kw_cells.proofs.Next.{pairs_of-none}

-- once the pair of the last key of the range is added, all pairs are
pub last_added : (cells : List Cell) (version low from upto key value : ℕ) (before had has : List (ℕ × ℕ)) → had ++ pairs_of cells low upto version ≡ before ++ pairs_of cells from upto version → pairs_of cells low upto version ≡ (key, value) ∷ pairs_of cells (key + 1) upto version → key ≡ upto → has ≡ had ++ (key, value) ∷ [] → has ≡ before ++ pairs_of cells from upto version
last_added cells version low from upto key value before had has so_far next at_end added =
    let none : pairs_of cells (key + 1) upto version ≡ [] = pairs_of-none cells version (key + 1) upto (λ q f t. absurd (omega arith)) in
    added ∙ ap (λ (ps : List (ℕ × ℕ)). had ++ ps) (sym (next ∙ ap (λ (ps : List (ℕ × ℕ)). (key, value) ∷ ps) none)) ∙ so_far
