-- The cells gone through are copied, and their versions are in range.
use Rattle.std.proofs.Common.{◌≡◌, ◌<◌, ◌^◌, take, All}
use Rattle.kw_cells.proofs.keep.in_order.Given as goal

abbrev pub invariant-loop-cell : goal.invariant-loop-cell
invariant-loop-cell l = record { copied : l.ordered.items ≡ take l.cell-index l.cells; in_range : All (λ c. c.version < 2 ^ 64) l.ordered.items }
