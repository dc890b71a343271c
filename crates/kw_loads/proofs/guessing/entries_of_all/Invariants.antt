use Rattle.std.proofs.Common.{◌≡◌}
use Rattle.kw_loads.proofs.guessing.entries_of_all.Given as goal

-- there is room for as many entries as rows
abbrev pub invariant-loop-row : goal.invariant-loop-row
invariant-loop-row l = l.entries.rows ≡ l.rows
