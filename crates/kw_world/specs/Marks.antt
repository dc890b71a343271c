-- The stamped cells that a reader has seen in a row.
use Rattle.std.specs.Prelude.{ℕ, List, [], ◌∷◌, Option, Some, None, Bool, true, false, ◌==◌, nat_lt, if◌then◌else◌, filter}
use Rattle.kw_world.specs.declared.marks.Mark.{Mark}

-- a cell and its version
abbrev pub mark_of : ℕ → ℕ → Mark
mark_of cell version = record { cell = cell; version = version }

-- a mark of this cell is among them
abbrev pub is_marked : ℕ → List Mark → Bool
is_marked cell [] = false
is_marked cell (m ∷ marks) = if m.cell == cell then true else is_marked cell marks

-- the mark is of another cell
abbrev pub is_other : ℕ → Mark → Bool
is_other cell m = if m.cell == cell then false else true

-- the marks but for those of a cell
abbrev pub unmarked : ℕ → List Mark → List Mark
unmarked cell marks = filter (is_other cell) marks

-- of two marks the one of the lesser cell
abbrev pub lesser_of : Mark → Option Mark → Mark
lesser_of m None = m
lesser_of m (Some n) = if nat_lt n.cell m.cell then n else m

-- a mark of the least cell, or none
abbrev pub least_mark : List Mark → Option Mark
least_mark [] = None
least_mark (m ∷ marks) = Some (lesser_of m (least_mark marks))
