-- The key stays the same.
use Rattle.std.proofs.Common.{ℕ, ◌≡◌, ◌<◌, ◌≤◌, ◌-◌, length, get_or}
use Rattle.kw_cells.specs.declared.cell.Cell.{Cell}
use Rattle.kw_cells.proofs.keep.end_of_key.Given as goal

abbrev pub invariant-loop-end : goal.invariant-loop-end
invariant-loop-end l = record {
  some : l.from < l.end;
  within : l.end ≤ length l.ordered;
  same : (k : ℕ) (d : Cell) → l.from ≤ k → k < l.end → (get_or l.ordered k d).key ≡ (get_or l.ordered l.from d).key;
}

abbrev pub decreases-loop-end : goal.decreases-loop-end
decreases-loop-end l = length l.ordered - l.end
