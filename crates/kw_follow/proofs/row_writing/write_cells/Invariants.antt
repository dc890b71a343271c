use Rattle.std.proofs.Common.{◌-◌, ◌≤◌, length}
use Rattle.kw_world.specs.WriteTransitions.{infant_cells}
use Rattle.kw_follow.specs.BuildsOn.{at_cell}
use Rattle.kw_follow.specs.Reaching.{Advances}
use Rattle.kw_follow.proofs.row_writing.write_cells.Given as goal

abbrev pub invariant-loop-place : goal.invariant-loop-place
invariant-loop-place l = record {
  within : l.place ≤ length (infant_cells l.local);
  on : Advances l.shared l.fn.pass l.pass (at_cell l.place l.local);
}

abbrev pub decreases-loop-place : goal.decreases-loop-place
decreases-loop-place l = length (infant_cells l.local) - l.place
