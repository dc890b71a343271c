-- No cell so far fits, so the best of those that are left is the best of all.
use Rattle.std.proofs.Common.{◌≡◌, drop}
use Rattle.kw_cells.specs.Cells.{best_of}
use Rattle.kw_cells.proofs.in_order.first_fit.Given as goal

abbrev pub invariant-loop-cell : goal.invariant-loop-cell
invariant-loop-cell l = best_of (drop l.cell-index l.cells) l.key l.version ≡ best_of l.cells l.key l.version
