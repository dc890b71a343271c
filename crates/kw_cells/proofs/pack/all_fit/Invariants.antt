-- The rows so far.
use Rattle.std.proofs.Common.{◌≤◌, ◌-◌}
use Rattle.kw_cells.proofs.Turns.{AreCounted}
use Rattle.kw_cells.proofs.pack.all_fit.Given as goal

abbrev pub invariant-loop-counted : goal.invariant-loop-counted
invariant-loop-counted l = record {
  counted : AreCounted l.limit l.cells l.counted l.start;
  upto : l.counted ≤ l.rows;
}

abbrev pub decreases-loop-counted : goal.decreases-loop-counted
decreases-loop-counted l = l.rows - l.counted
