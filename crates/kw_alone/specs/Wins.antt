-- The measure of how long a seat goes on alone up to the end of its call: the rows that it may yet
-- replace, the rows to which it may yet move before it replaces one, and its rest up to the next of
-- these events.
use Rattle.std.specs.Prelude.{ℕ, ◌+◌, ◌&&◌, ◌||◌, Bool, true, false, nat_lt, nat_le, if◌then◌else◌, Option, Some, None}
use Rattle.kw_lists.specs.Counts.{count_below}
use Rattle.kw_rows.specs.Ledger.{Ledger, Status}
use Rattle.kw_rows.specs.Ledger as fate
use Rattle.kw_rows.specs.RowState as row
use Rattle.kw_windows.specs.Triples.{Triple}
use Rattle.kw_world.specs.declared.activity.Activity.{Activity}
use Rattle.kw_world.specs.declared.activity.put.Put.TheVariants as Put
use Rattle.kw_world.specs.declared.activity.rebalance.Rebalance.TheVariants as Rebalance
use Rattle.kw_world.specs.declared.activity.rebalance.engage.Engage.TheVariants as Engage
use Rattle.kw_world.specs.declared.activity.rebalance.replace.Replace.TheVariants as Replace
use Rattle.kw_world.specs.declared.local.Local.{Local}
use Rattle.kw_world.specs.Calls.{first_key}
use Rattle.kw_world.specs.Sizes.{Sizes}
use Rattle.kw_core.specs.Stages.{is_put}
use Rattle.kw_core.specs.Words.{Words, given_in, least_in}
use Rattle.kw_shape.specs.RowsIn.{rows_in}
use Rattle.kw_alone.specs.Falls.{most_rest}
use Rattle.kw_alone.specs.Rest.{rest}

-- Rows that are to go.

-- a row is in the list
abbrev pub is_live : Status → Bool
is_live fate.Free = false
is_live fate.Infant = false
is_live fate.Live = true
is_live fate.Dead = false

-- it leads a group
abbrev pub is_leading : row.State → Bool
is_leading (row.Leader m) = true
is_leading _ = false

-- nobody has engaged it
abbrev pub is_unled : row.State → Bool
is_unled (row.Infant seat) = true
is_unled row.Normal = true
is_unled _ = false

-- a key is below the end of a range, if it has one
abbrev pub is_below : ℕ → Option ℕ → Bool
is_below key None = true
is_below key (Some end) = nat_lt key end

-- the range of the row has the key
abbrev pub is_of_range : Words → Ledger → ℕ → ℕ → Bool
is_of_range v g x key = nat_le (least_in v x) key && is_below key (g.fates x).upper

-- a put has a cell of its row
abbrev pub has_cell : Activity → Bool
has_cell (Activity.Put Put.Count) = false
has_cell (Activity.Put Put.Add) = false
has_cell (Activity.Put _) = true
has_cell (Activity.Insert _) = true
has_cell _ = false

-- a put or a delete is still to ask its row for a cell
abbrev pub asks : Activity → Local → Bool
asks a l = if l.tidies then false else if has_cell a then false else true

-- The row is one that the seat may yet replace: it is in the list, and leads a group; or the seat
-- may yet engage it, since it is full, and is the one that the seat is still to ask for a cell. A
-- follower goes along with its leader, and does not count
abbrev pub is_to_go : Sizes → Words → Ledger → Activity → Local → ℕ → Bool
is_to_go z v g a l x = is_live (g.fates x).status && (is_leading ((rows_in v).state x) || (asks a l && (is_unled ((rows_in v).state x) && (nat_le z.cells (given_in v x) && is_of_range v g x (first_key l.call)))))

-- 1 where a row that is not engaged is to be
abbrev pub one_unled : row.State → ℕ
one_unled s = if is_unled s then 1 else 0

-- where a seat that tidies is about to engage its row
abbrev pub engaging : Words → Activity → Local → ℕ
engaging v (Activity.Rebalance (Rebalance.Engage Engage.Clock)) l = one_unled ((rows_in v).state l.row)
engaging v (Activity.Rebalance (Rebalance.Engage Engage.Epoch)) l = one_unled ((rows_in v).state l.row)
engaging v (Activity.Rebalance (Rebalance.Engage Engage.State)) l = one_unled ((rows_in v).state l.row)
engaging v (Activity.Rebalance (Rebalance.Engage (Engage.Normal seat))) l = one_unled ((rows_in v).state l.row)
engaging v (Activity.Rebalance (Rebalance.Engage Engage.Lead)) l = one_unled ((rows_in v).state l.row)
engaging v _ l = 0

-- one row more for a put that is not done, and that may engage its row once it is, to tidy it
abbrev pub to_tidy : Words → Activity → Local → ℕ
to_tidy v a l = if l.tidies then engaging v a l else 1

-- The three numbers.

-- the rows that the seat may yet replace: none for a get or a scan, and none at the end of a call
abbrev pub wins_left : Sizes → ℕ → Words → Ledger → Activity → Local → ℕ
wins_left z rows v g (Activity.Leave answer) l = 0
wins_left z rows v g a l = if is_put l.call then count_below rows (is_to_go z v g a l) + to_tidy v a l else 0

-- the row is in the list, left of a key
abbrev pub is_left_of : Words → Ledger → ℕ → ℕ → Bool
is_left_of v g lower x = is_live (g.fates x).status && nat_lt (least_in v x) lower

-- the rows to which a seat may yet move from its full row: those left of it. Any may be where a
-- rebalance is yet to begin
abbrev pub moves_left : ℕ → Words → Ledger → Activity → Local → ℕ
moves_left rows v g (Activity.Leave answer) l = 0
moves_left rows v g (Activity.Rebalance (Rebalance.Replace Replace.Normalise)) l = rows
moves_left rows v g (Activity.Rebalance (Rebalance.Replace Replace.Number)) l = rows
moves_left rows v g (Activity.Rebalance (Rebalance.Replace Replace.Retire)) l = rows
moves_left rows v g (Activity.Rebalance _) l = count_below rows (is_left_of v g l.lower)
moves_left rows v g _ l = rows

-- the beginning of a walk is still to come: the seat enters its call, or has replaced a row
abbrev pub begins : Activity → Bool
begins Activity.Idle = true
begins (Activity.Enter _) = true
begins (Activity.Draw _) = true
begins Activity.Retry = true
begins (Activity.Rebalance (Rebalance.Replace Replace.Normalise)) = true
begins (Activity.Rebalance (Rebalance.Replace Replace.Number)) = true
begins (Activity.Rebalance (Rebalance.Replace Replace.Retire)) = true
begins _ = false

-- the rest, with that of the walk that is still to begin
abbrev pub rest_plus : Sizes → ℕ → Words → Activity → Local → ℕ
rest_plus z rows v a l = if begins a then most_rest z rows + rest z rows v a l else rest z rows v a l

-- all three
abbrev pub triple : Sizes → ℕ → Words → Ledger → Activity → Local → Triple
triple z rows v g a l = record { wins = wins_left z rows v g a l; moves = moves_left rows v g a l; rest = rest_plus z rows v a l }
