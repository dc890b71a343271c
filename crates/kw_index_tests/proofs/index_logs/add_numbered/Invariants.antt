use Rattle.std.proofs.Common.{◌≡◌}
use Rattle.kw_index_tests.proofs.index_logs.add_numbered.Given as goal

-- changes leave the base
abbrev pub invariant-loop-least : goal.invariant-loop-least
invariant-loop-least l = l.log.base ≡ l.initial.log.base
