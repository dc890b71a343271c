-- The starts so far.
use Rattle.std.proofs.Common.{length, ◌+◌, ◌-◌}
use Rattle.kw_cells.proofs.Turns.{AreListed}
use Rattle.kw_cells.proofs.pack.starts_at.Given as goal

abbrev pub invariant-loop-start : goal.invariant-loop-start
invariant-loop-start l = AreListed l.limit l.cells l.starts.items l.start

abbrev pub decreases-loop-start : goal.decreases-loop-start
decreases-loop-start l = length l.cells + 1 - length l.starts.items
