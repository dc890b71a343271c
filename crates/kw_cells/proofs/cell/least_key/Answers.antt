-- A cell is below the range, above the least key so far, or has the new least key.
use Rattle.kw_cells.proofs.Least.{below_range, above_least, new_least, least_in_all}
use Rattle.kw_cells.proofs.cell.least_key.Goals as goal
use Rattle.kw_cells.proofs.cell.least_key.Goals.{then-from-cell+then-cell-unwrap_or, else-from-cell, else-from-cell-via-then-from-cell+else-cell-unwrap_or, else-from-cell-via-else-from-cell}

pub loop-cell-preserved : goal.loop-cell-preserved
loop-cell-preserved c = elim c.if-from-cell.branch [
  | then-from-cell+then-cell-unwrap_or w ↦ rw w.least-is (new_least c.args.from c.args.to c.loop-cell.cell-index c.args.cells.now _ c.loop-cell.least c.loop-cell-test.true w.if-from-cell.true (rw w.unwrap_or.ensures at w.if-cell-unwrap_or.true) c.loop-cell.invariant)
  | else-from-cell w ↦ rw w.least-is (elim w.else-from-cell.branch [
    | else-from-cell-via-then-from-cell+else-cell-unwrap_or v ↦ above_least c.args.from c.args.to c.loop-cell.cell-index c.args.cells.now _ c.loop-cell.least c.loop-cell-test.true (rw v.unwrap_or.ensures at v.if-cell-unwrap_or.false) c.loop-cell.invariant
    | else-from-cell-via-else-from-cell v ↦ below_range c.args.from c.args.to c.loop-cell.cell-index c.args.cells.now _ c.loop-cell.least c.loop-cell-test.true v.if-from-cell.false c.loop-cell.invariant
  ])
]

pub returns : goal.returns
returns c = least_in_all c.args.from c.args.to c.loop-cell.cell-index c.args.cells.now c.loop-cell.least c.loop-cell-test.false c.loop-cell.invariant
