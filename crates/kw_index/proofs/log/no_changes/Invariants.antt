use Rattle.std.proofs.Common.{◌≡◌, length}
use Rattle.kw_index.proofs.log.no_changes.Given as goal

-- one change for each count that the loop has gone through
abbrev pub invariant-loop-count : goal.invariant-loop-count
invariant-loop-count l = length l.changes.items ≡ l._count
