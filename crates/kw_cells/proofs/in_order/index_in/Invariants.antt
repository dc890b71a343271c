-- No cell from here on stands before the one that is put.
use Rattle.std.proofs.Common.{◌≡◌, ◌≤◌, ◌<◌, false, length, get_or}
use Rattle.kw_cells.specs.InOrder.{stands_before}
use Rattle.kw_cells.specs.declared.cell.Cell.{Cell}
use Rattle.kw_cells.proofs.in_order.index_in.Given as goal

abbrev pub decreases-loop-at : goal.decreases-loop-at
decreases-loop-at l = l.at

abbrev pub invariant-loop-at : goal.invariant-loop-at
invariant-loop-at l = (l.at ≤ length l.cells) × ((d : Cell) → l.at < length l.cells → stands_before (get_or l.cells l.at d) l.cell ≡ false)
