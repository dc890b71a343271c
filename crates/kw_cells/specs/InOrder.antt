-- Cells in the order of a row's list: by key, then by falling version, then by falling place.
use Rattle.std.specs.Prelude.{ℕ, suc, ◌≡◌, ◌<◌, ◌==◌, ◌&&◌, ◌||◌, nat_lt, Bool, true, List, [], ◌∷◌, AllPairs, if◌then◌else◌, length, slice_index_or}
use Rattle.kw_cells.specs.Cells.{is_later}
use Rattle.kw_cells.specs.declared.cell.Cell.{Cell}

-- the first stands before the second in a row's list
abbrev pub stands_before : Cell → Cell → Bool
stands_before c d = nat_lt c.key d.key || (c.key == d.key && is_later c d)

-- each cell stands before all after it; so no two agree in key, version and place
abbrev pub AreInOrder : List Cell → Type 0
AreInOrder cells = AllPairs (λ c d. stands_before c d ≡ true) cells

-- how many cells at the front stand before this one: the place at which it is put among them
abbrev pub index_in : Cell → List Cell → ℕ
index_in c [] = 0
index_in c (d ∷ cells) = if stands_before d c then suc (index_in c cells) else 0

-- the cells with one more at its place; one that agrees with a cell in key, version and place is
-- not put beside it
abbrev pub with_cell : Cell → List Cell → List Cell
with_cell c [] = c ∷ []
with_cell c (d ∷ cells) = if stands_before d c then d ∷ with_cell c cells else if stands_before c d then c ∷ d ∷ cells else d ∷ cells

-- the keys of so many cells at the front are below this one
abbrev pub AreBelow : List Cell → ℕ → ℕ → Type 0
AreBelow cells n key = (i : ℕ) (d : Cell) → i < n → i < length cells → (slice_index_or cells i d).key < key
