-- The keys gone through, and that one begins behind them.
use Rattle.std.proofs.Common.{ℕ, ◌≡◌, ◌<◌, ◌+◌, ◌-◌, length, get_or}
use Rattle.kw_cells.specs.Ordered.{IsKeptTo}
use Rattle.kw_cells.specs.declared.cell.Cell.{Cell}
use Rattle.kw_cells.proofs.keep.select.Given as goal

abbrev pub invariant-loop-from : goal.invariant-loop-from
invariant-loop-from l = record {
  so_far : IsKeptTo l.ordered l.needed l.from l.kept;
  first : (k : ℕ) (d : Cell) → l.from < length l.ordered → k + 1 ≡ l.from → (get_or l.ordered k d).key < (get_or l.ordered l.from d).key;
}

abbrev pub decreases-loop-from : goal.decreases-loop-from
decreases-loop-from l = length l.ordered - l.from
