-- No key of the range below the present one shows a value, and no cell so far may show one from
-- there on.
use Rattle.std.proofs.Common.{◌-◌, length}
use Rattle.kw_cells.proofs.FirstFit.{Passing}
use Rattle.kw_cells.proofs.in_order.next_in_order.Given as goal

abbrev pub decreases-loop-at : goal.decreases-loop-at
decreases-loop-at l = length l.cells - l.at

abbrev pub invariant-loop-at : goal.invariant-loop-at
invariant-loop-at l = Passing l.cells l.version l.from l.low l.at
