use Rattle.std.proofs.Common.{◌≡◌}
use Rattle.kw_index.specs.Logs.{after}
use Rattle.kw_index.proofs.log.Log.make_from.Given as goal

-- the changes that the loop has gone through are made, and no others
abbrev pub invariant-loop-count : goal.invariant-loop-count
invariant-loop-count l = (l.entries ≡ after l.self l.seen l.count l.initial.entries) × (l.entries.rows ≡ l.initial.entries.rows)
