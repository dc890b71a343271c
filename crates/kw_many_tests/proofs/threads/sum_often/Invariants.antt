use Rattle.kw_map.specs.Kiwi.{IsIdle}
use Rattle.kw_many_tests.proofs.threads.sum_often.Given as goal

abbrev pub invariant-loop : goal.invariant-loop
invariant-loop l = IsIdle l.kiwi l.pass
