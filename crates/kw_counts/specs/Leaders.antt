-- The rows of the list that lead a rebalance.
use Rattle.std.specs.Prelude.{ℕ, ◌&&◌, Bool, true, false}
use Rattle.kw_rows.specs.RowState.{State, Leader}
use Rattle.kw_world.specs.Sizes.{Sizes}
use Rattle.kw_world.specs.Step.{word}
use Rattle.kw_core.specs.Run.{Run}
use Rattle.kw_shape.specs.RowsIn.{rows_in}
use Rattle.kw_counts.specs.Counts.{is_live}

-- the state is that of a leader
abbrev pub is_leader : State → Bool
is_leader (Leader count) = true
is_leader _ = false

-- the row is in the list, and leads
abbrev pub is_leading : Sizes → Run → ℕ → Bool
is_leading z r x = is_live (r.ledger.rows.fates x).status && is_leader ((rows_in (word z r.world)).state x)
