-- Rows worked out by hand: what is kept of cells that are written out, and where rows of them
-- start.
use Rattle.std.proofs.Common.{ℕ, ◌≡◌, Some, None, [], ◌∷◌, refl}
use Rattle.kw_cells.specs.Cuts.{limit_of, starts_at, starts_of}
use Rattle.kw_cells.specs.Kept.{kept_of}
use Rattle.kw_cells.specs.declared.cell.Cell.{Cell}

-- a cell of a key with a version and a place, and its version for its value
abbrev put : ℕ → ℕ → ℕ → Cell
put key version place = record { key = key; place = place; version = version; value = Some version }

-- a tombstone
abbrev tombstone : ℕ → ℕ → ℕ → Cell
tombstone key version place = record { key = key; place = place; version = version; value = None }

-- a tombstone stays above an older cell that a version needs, and goes where nobody asks for that
tombstone_stays : kept_of (tombstone 5 4 1 ∷ put 5 1 0 ∷ []) (2 ∷ []) ≡ put 5 1 0 ∷ tombstone 5 4 1 ∷ []
unfolding kept_of
tombstone_stays = refl

tombstone_goes : kept_of (tombstone 5 4 1 ∷ put 5 1 0 ∷ []) [] ≡ []
unfolding kept_of
tombstone_goes = refl

-- of one key and version the greatest place stays, and a cell that is given twice stays once; keys
-- rise
twice_given : kept_of (put 7 1 3 ∷ put 5 2 4 ∷ put 5 2 6 ∷ put 5 2 6 ∷ put 5 2 1 ∷ []) (2 ∷ []) ≡ put 5 2 6 ∷ put 7 1 3 ∷ []
unfolding kept_of
twice_given = refl

-- no cells have one row
one_row : starts_of 2 [] ≡ 0 ∷ []
unfolding starts_of limit_of starts_at
one_row = refl

-- in rows of two, the second key has no room beside the first, nor the third beside the second
three_rows : starts_of 2 (put 1 1 0 ∷ put 2 1 0 ∷ put 2 2 0 ∷ put 3 1 0 ∷ []) ≡ 0 ∷ 1 ∷ 3 ∷ []
unfolding starts_of limit_of starts_at
three_rows = refl

-- five cells in rows of at most four are three and two
five_cells : starts_of 4 (put 1 1 0 ∷ put 2 1 0 ∷ put 3 1 0 ∷ put 4 1 0 ∷ put 5 1 0 ∷ []) ≡ 0 ∷ 3 ∷ []
unfolding starts_of limit_of starts_at
five_cells = refl

-- a key of three cells in the middle stays whole
key_stays_whole : starts_of 4 (put 1 1 0 ∷ put 2 1 0 ∷ put 3 1 0 ∷ put 3 2 0 ∷ put 3 3 0 ∷ put 4 1 0 ∷ []) ≡ 0 ∷ 2 ∷ []
unfolding starts_of limit_of starts_at
key_stays_whole = refl
