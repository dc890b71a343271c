-- The rows of a rebalance's group, and the places of their cells.
--
-- A group is a full row, alone or together with the row after it. It is frozen, gathered and
-- retired one row after the other: the row at hand. A cell of the group has one number, its place
-- in the group: its own number in the full row, and that plus the number of cells in the second
-- row. So the cells of two rows are told apart by their places, and the group reads like one row of
-- twice as many cells.
use Rattle.std.specs.Prelude.{ℕ, ◌+◌, ◌-◌, ◌*◌, Bool, false, nat_lt, ◌==◌, if◌then◌else◌, Option, Some, None}
use Rattle.kw_words.specs.declared.sizes.TheConstants.{MOST_GROUP}
use Rattle.kw_world.specs.declared.local.Local.{Local}
use Rattle.kw_world.specs.declared.rebalance.Rebalancing.{Rebalancing}
use Rattle.kw_world.specs.Sizes.{Sizes}
use Rattle.kw_world.specs.Transition.{row_or_first}

-- there is a row, and it is this one
abbrev pub is_row : Option ℕ → ℕ → Bool
is_row (Some r) q = r == q
is_row None q = false

-- the second row of the group is at hand
abbrev pub is_second : Rebalancing → Bool
is_second b = is_row b.second b.hand

-- the place of the first cell of the row at hand
abbrev pub base : Sizes → Rebalancing → ℕ
base z b = if is_second b then z.cells else 0

-- the place of a cell of the row at hand
abbrev pub place_in_group : Sizes → Rebalancing → ℕ → ℕ
place_in_group z b cell = base z b + cell

-- the row of the cell at a place
abbrev pub row_at : Sizes → Local → ℕ → ℕ
row_at z l place = if nat_lt place z.cells then l.row else row_or_first l.rebalance.second

-- the number of the cell at a place in its row
abbrev pub cell_at : Sizes → ℕ → ℕ
cell_at z place = if nat_lt place z.cells then place else place - z.cells

-- so many places has the group
abbrev pub places : Sizes → Option ℕ → ℕ
places z (Some r) = MOST_GROUP * z.cells
places z None = z.cells

-- what a function of rows and cells gives at a place of the group; it is not asked beyond its
-- places
abbrev pub source : {A : Type 0} → Sizes → (ℕ → ℕ → A) → Local → ℕ → A
source z o l place = o (row_at z l place) (cell_at z place)

-- the first row of the group is at hand, and the second one, if there is one, comes after it
abbrev pub at_first_row : Local → Local
at_first_row l = record l { rebalance = record l.rebalance { hand = l.row; ahead = l.rebalance.second } }

-- this row of the group is at hand, and none comes after it
abbrev pub at_last_row : ℕ → Local → Local
at_last_row r l = record l { rebalance = record l.rebalance { hand = r; ahead = None } }
