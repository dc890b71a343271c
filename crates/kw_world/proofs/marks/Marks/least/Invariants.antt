-- The least so far is that of the marks from here on.
use Rattle.std.proofs.Common.{◌≡◌, ◌≤◌, drop, length}
use Rattle.kw_world.specs.Marks.{least_mark}
use Rattle.kw_world.proofs.marks.Marks.least.Given as goal

abbrev pub decreases-loop-at : goal.decreases-loop-at
decreases-loop-at g l = l.at

abbrev pub invariant-loop-at : goal.invariant-loop-at
invariant-loop-at g l = (l.at ≤ length l.marks) × (l.least ≡ least_mark (drop l.at l.marks))
