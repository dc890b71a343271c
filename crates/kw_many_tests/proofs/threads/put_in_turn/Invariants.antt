use Rattle.kw_map.specs.Kiwi.{IsIdle}
use Rattle.kw_many_tests.proofs.threads.put_in_turn.Given as goal

abbrev pub invariant-loop-put : goal.invariant-loop-put
invariant-loop-put g l = IsIdle l.kiwi l.pass
