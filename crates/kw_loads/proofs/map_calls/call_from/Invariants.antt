use Rattle.kw_map.specs.Kiwi.{IsIdle}
use Rattle.kw_loads.proofs.map_calls.call_from.Given as goal

abbrev pub invariant-loop-call : goal.invariant-loop-call
invariant-loop-call g l = IsIdle l.kiwi l.pass
