-- The key stays the same.
use Rattle.std.proofs.Common.{◌≡◌, ◌≤◌, get_or}
use Rattle.kw_cells.specs.Cuts.{key_at}
use Rattle.kw_cells.proofs.Rising.{any_cell}
use Rattle.kw_cells.proofs.pack.first_of_key.Given as goal

abbrev pub invariant-loop-first : goal.invariant-loop-first
invariant-loop-first l = record {
  below : l.first ≤ l.place;
  of_key : (get_or l.cells l.first any_cell).key ≡ key_at l.cells l.place;
}

abbrev pub decreases-loop-first : goal.decreases-loop-first
decreases-loop-first l = l.first
