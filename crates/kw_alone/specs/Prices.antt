-- What the parts of a call cost a seat that goes on alone: for each part how many events it makes
-- at most from its first one on, together with those of the parts that may follow, up to the next
-- mark or the next beginning of a walk.
--
-- None of these numbers is the exact one. Each is so large that an event lowers what is left, and
-- where two ways part the sum of both is taken in place of the greater. So that no more has to be
-- known of a new row than that it has been taken, each of its places counts as if a cell stood
-- there; and each row that is asked for carries the price of writing it.
use Rattle.std.specs.Prelude.{ℕ, ◌+◌, ◌*◌, ◌-◌, Option, Some, None}
use Rattle.kw_words.specs.declared.sizes.TheConstants.{MOST_GROUP}
use Rattle.kw_world.specs.Sizes.{Sizes}

-- A call begins and ends.

-- from a put that tries again, to the beginning of its walk
abbrev pub retry_price : ℕ
retry_price = 9

-- A reader at its row.

-- from where its walk along the list begins: four events for each cell that it reaches, one to load
-- the guessed cell, one at the end, and two for each cell that it remembers
abbrev pub list_price : Sizes → ℕ
list_price z = 4 * z.cells + 2 + 2 * z.seats

-- from the first entry on, and with the two events of the walk to the next row
abbrev pub look_price : Sizes → ℕ
look_price z = 4 * z.seats + list_price z + 2

-- The rows that are in the list again when a rebalance is over.

-- rows that are to be numbered and retired, of which so many are left after the one at hand
abbrev pub retire_price : ℕ → ℕ
retire_price left = 2 * left + 2 + retry_price

-- from the new rows on that are to be made normal, or given back
abbrev pub normal_price : ℕ → ℕ
normal_price n = n + retire_price 1

-- from the walk to the row before the group, with n rows taken. A guess costs two events, and each
-- row that the walk goes by two
abbrev pub before_price : ℕ → ℕ → ℕ
before_price rows n = 2 * rows + 5 + n + retry_price

-- New rows.

-- the words of a new row
abbrev pub row_words : Sizes → ℕ
row_words z = 4 + z.seats + 4 * z.cells

-- a row that is asked for: its state, the visits of all seats, freeing and taking it, and its words
abbrev pub row_price : Sizes → ℕ
row_price z = z.seats + 3 + row_words z + 1

-- from a row that is asked for on, where so many were asked for, n rows are taken, and k events go
-- until this one is
abbrev pub seek_price : Sizes → ℕ → ℕ → ℕ → ℕ → ℕ
seek_price z rows asked n k = (rows - asked) * row_price z + k + row_words z + 1 + n * row_words z + before_price rows n

-- from a row that is written on, which is at this place among n, and of which k words are left
abbrev pub write_price : Sizes → ℕ → ℕ → ℕ → ℕ → ℕ
write_price z rows n at k = (n - (at + 1)) * row_words z + k + before_price rows n

-- from the first row that is asked for
abbrev pub first_seek_price : Sizes → ℕ → ℕ
first_seek_price z rows = seek_price z rows 1 0 (z.seats + 3)

-- The rows of the group. Each part is over all of them, one after the other.

-- as many cells as a group has
abbrev pub group_cells : Sizes → ℕ
group_cells z = MOST_GROUP * z.cells

-- so many rows of the group are left after the one at hand
abbrev pub rows_left : Option ℕ → ℕ
rows_left (Some r) = 1
rows_left None = 0

-- from the first cell that is gathered: four events for each, and one more at the end of a row
abbrev pub take_price : Sizes → ℕ → ℕ
take_price z rows = 4 * group_cells z + 6 + first_seek_price z rows

-- from the first scan that is looked at: three events for each
abbrev pub scan_price : Sizes → ℕ → ℕ
scan_price z rows = 3 * z.seats + take_price z rows

-- the count of one row, and two events for each of its entries
abbrev pub row_freeze_price : Sizes → ℕ
row_freeze_price z = 2 * z.seats + 1

-- from the row of the group on that comes after the one at hand, if one does
abbrev pub ahead_price : Sizes → Option ℕ → ℕ
ahead_price z (Some r) = row_freeze_price z
ahead_price z None = 0

-- from the first row that is frozen
abbrev pub freeze_price : Sizes → ℕ → ℕ
freeze_price z rows = MOST_GROUP * row_freeze_price z + scan_price z rows

-- from the row after the full one that is claimed, but for what its state costs
abbrev pub claim_price : Sizes → ℕ → ℕ
claim_price z rows = freeze_price z rows + 2

-- from the link that is marked: then the next row's count, and what is decided
abbrev pub mark_price : Sizes → ℕ → ℕ
mark_price z rows = claim_price z rows + 5

-- from a follower's seat on that goes left to its leader: two events for each row that it goes by
abbrev pub left_price : ℕ → ℕ
left_price rows = 2 * rows + 3 + retry_price

-- from the state of a full row, but for what that costs: either way
abbrev pub base_price : Sizes → ℕ → ℕ
base_price z rows = mark_price z rows + left_price rows

-- A put or a delete.

-- its last event, after which it may tidy its row
abbrev pub clear_price : Sizes → ℕ → ℕ
clear_price z rows = base_price z rows + 8

-- its walk along the list, which it makes once more where it lost an exchange
abbrev pub insert_price : Sizes → ℕ
insert_price z = 3 * z.cells + 4

-- from the count of its row on
abbrev pub put_price : Sizes → ℕ → ℕ
put_price z rows = clear_price z rows + insert_price z + 8

-- A call at the beginning of its walk, whichever it is.
abbrev pub start_price : Sizes → ℕ → ℕ
start_price z rows = 4 + (2 * rows + 2 + put_price z rows) + (rows * look_price z + 2 + look_price z)
