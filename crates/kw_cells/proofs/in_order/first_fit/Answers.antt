-- The first cell that fits is the best of those that are left.
use Rattle.std.proofs.Common.{sym, ◌∙◌, None}
use Rattle.kw_cells.proofs.Best.{passed, ended}
use Rattle.kw_cells.proofs.FirstFit.{from_here}
use Rattle.kw_cells.proofs.in_order.first_fit.Goals as goal

pub returns-then-fits : goal.returns-then-fits
returns-then-fits c = sym (from_here c.args.cells.now c.loop-cell.cell-index _ c.requires.in_order c.loop-cell-test.true c.args.key c.args.version (sym c.fits.ensures ∙ c.if-fits.true)) ∙ c.loop-cell.invariant

pub loop-cell-preserved : goal.loop-cell-preserved
loop-cell-preserved c = passed c.args.cells.now c.loop-cell.cell-index c.args.key c.args.version _ None _ c.loop-cell-test.true (sym c.fits.ensures ∙ c.if-fits.false) c.loop-cell.invariant

pub returns : goal.returns
returns c = ended c.args.cells.now c.loop-cell.cell-index c.args.key c.args.version None _ c.loop-cell-test.false c.loop-cell.invariant
