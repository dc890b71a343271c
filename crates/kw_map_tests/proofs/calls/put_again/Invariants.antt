use Rattle.kw_map.specs.Kiwi.{IsIdle}
use Rattle.kw_map_tests.proofs.calls.put_again.Given as goal

abbrev pub invariant-loop-value : goal.invariant-loop-value
invariant-loop-value g l = IsIdle l.kiwi l.pass
