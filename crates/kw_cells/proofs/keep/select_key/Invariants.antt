-- What holds of the cells gone through, and whether one of the key was kept.
use Rattle.std.proofs.Common.{◌≤◌, get_or}
use Rattle.kw_cells.proofs.Passing.{IsSoFar, IsShown}
use Rattle.kw_cells.proofs.Rising.{any_cell}
use Rattle.kw_cells.proofs.keep.select_key.Given as goal

abbrev pub invariant-loop-place : goal.invariant-loop-place
invariant-loop-place l = record {
  low : l.from ≤ l.place;
  high : l.place ≤ l.end;
  so_far : IsSoFar l.ordered l.needed l.from l.place l.end l.kept;
  shown : IsShown (get_or l.ordered l.from any_cell).key l.shown l.kept;
}

abbrev pub decreases-loop-place : goal.decreases-loop-place
decreases-loop-place l = l.place
