-- The cell before has the key.
use Rattle.std.proofs.Common.{◌≡◌, ◌<◌, ◌≤◌, ◌-◌, get_or, length}
use Rattle.kw_cells.specs.declared.cell.Cell.{Cell}
use Rattle.kw_step_rebal.proofs.infant_rising.key_end.Given as goal

abbrev pub invariant-loop-end : goal.invariant-loop-end
invariant-loop-end l = record {
  behind : l.at < l.end;
  within : l.end ≤ length l.cells;
  full : (d : Cell) → (get_or l.cells (l.end - 1) d).key ≡ l.key;
}

abbrev pub decreases-loop-end : goal.decreases-loop-end
decreases-loop-end l = length l.cells - l.end
