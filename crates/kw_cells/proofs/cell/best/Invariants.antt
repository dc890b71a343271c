-- The best cell found so far, and the best of those that are left, give the best of all.
use Rattle.std.proofs.Common.{◌≡◌, drop}
use Rattle.kw_cells.specs.Cells.{best_of}
use Rattle.kw_cells.proofs.Best.{pick}
use Rattle.kw_cells.proofs.cell.best.Given as goal

abbrev pub invariant-loop-cell : goal.invariant-loop-cell
invariant-loop-cell l = pick l.best (best_of (drop l.cell-index l.cells) l.key l.version) ≡ best_of l.cells l.key l.version
