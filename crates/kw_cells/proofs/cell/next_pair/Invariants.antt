-- No key of the range below the present one shows a value.
use Rattle.std.proofs.Common.{ℕ, ◌≡◌, ◌≤◌, ◌<◌, ◌+◌, ◌-◌, None}
use Rattle.kw_cells.specs.Cells.{shown_at}
use Rattle.kw_cells.proofs.cell.next_pair.Given as goal

abbrev pub decreases-loop-key : goal.decreases-loop-key
decreases-loop-key l = l.to + 1 - l.low

abbrev pub invariant-loop-key : goal.invariant-loop-key
invariant-loop-key l = (l.from ≤ l.low) × ((q : ℕ) → l.from ≤ q → q < l.low → shown_at l.cells l.version q ≡ None)
