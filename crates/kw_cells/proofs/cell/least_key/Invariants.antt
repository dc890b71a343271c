-- The least key so far is that of the cells gone through.
use Rattle.kw_cells.proofs.Least.{IsLeastOf}
use Rattle.kw_cells.proofs.cell.least_key.Given as goal

abbrev pub invariant-loop-cell : goal.invariant-loop-cell
invariant-loop-cell l = IsLeastOf l.from l.to l.cells l.cell-index l.least
