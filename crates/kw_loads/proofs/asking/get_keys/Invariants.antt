use Rattle.kw_map.specs.Kiwi.{IsIdle}
use Rattle.kw_loads.proofs.asking.get_keys.Given as goal

abbrev pub invariant-loop-call : goal.invariant-loop-call
invariant-loop-call l = IsIdle l.kiwi l.pass
