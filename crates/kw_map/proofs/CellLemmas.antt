-- What the cells of a row hand over.
use Rattle.std.proofs.Common.{ℕ, ◌≡◌, ◌<◌, ◌+◌, List, [], Option, Some, None, refl, subst, arith}
use Rattle.std.specs.Prelude.{All}
use Rattle.std.proofs.lemmas.List.Elements.{All-contains}
use Rattle.kw_words.specs.declared.sizes.TheConstants.{VALUE_END}
use Rattle.kw_words.specs.Plain.{IsValue}
use Rattle.kw_cells.specs.declared.cell.Cell.{Cell}
use Rattle.kw_cells.specs.Cells.{best_of, value_in, shown_at, pairs_of}
use Rattle.kw_cells.proofs.Best.{best_is}
use Rattle.kw_cells.proofs.Next.{pairs_of-none}

-- what a version shows is the value of a cell
pub shown_is_value : (cells : List Cell) (version key value : ℕ) → All (λ c. IsValue c.value) cells → shown_at cells version key ≡ Some value → value < VALUE_END
shown_is_value cells version key value h e = saw (best_of cells key version) refl e
  where
    saw : (o : Option Cell) → best_of cells key version ≡ o → value_in o ≡ Some value → value < VALUE_END
    saw (Some c) y x = subst IsValue x (All-contains (λ d. IsValue d.value) cells c h (best_is cells key version c y).among)
    saw None y x = let f : None ≡ Some value = x in absurd (cc)

-- behind the last key of a range there are no pairs
pub pairs_of-behind : (cells : List Cell) (version key upto : ℕ) → key ≡ upto → pairs_of cells (key + 1) upto version ≡ []
pairs_of-behind cells version key upto e = pairs_of-none cells version (key + 1) upto (λ q f t. absurd (omega arith))
