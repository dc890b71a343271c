-- The pairs added so far, before those of the keys that are left, are all pairs of the range.
use Rattle.std.proofs.Common.{◌≡◌, ◌+◌, ◌-◌, ◌≤◌, ◌++◌, take, length}
use Rattle.kw_cells.specs.Cells.{pairs_of}
use Rattle.kw_cells.specs.InOrder.{AreBelow}
use Rattle.kw_step_put.proofs.resume_cells.add_pairs.Given as goal

abbrev pub invariant-loop-key : goal.invariant-loop-key
invariant-loop-key l =
    (l.pairs ++ pairs_of l.cells l.low l.upto l.version ≡ l.initial.pairs ++ pairs_of l.cells l.from l.upto l.version)
    × (take l.len l.pairs ≡ l.initial.pairs) × (l.len ≤ length l.pairs) × AreBelow l.cells l.at l.low

abbrev pub decreases-loop-key : goal.decreases-loop-key
decreases-loop-key l = l.upto + 1 - l.low
