use Rattle.std.proofs.Common.{◌-◌, ◌<◌, ◌≤◌}
use Rattle.kw_table.proofs.shared.Shared.cell_below.Given as goal

abbrev pub invariant-loop-low : goal.invariant-loop-low
invariant-loop-low l = (l.row < l.self.opening.rows) × (l.low ≤ l.high) × (l.high ≤ l.built) × (l.high ≤ l.self.opening.rows)

abbrev pub decreases-loop-low : goal.decreases-loop-low
decreases-loop-low l = l.high - l.low
