use Rattle.std.proofs.Common.{◌≡◌}
use Rattle.kw_index_tests.proofs.index_edits.entries_of.Given as goal

-- placed entries leave the number of rows
abbrev pub invariant-loop-entry : goal.invariant-loop-entry
invariant-loop-entry l = l.entries.rows ≡ 4
