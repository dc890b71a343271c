use Rattle.kw_map.specs.Kiwi.{IsIdle}
use Rattle.kw_loads.proofs.map_calls.put_until.Given as goal

abbrev pub invariant-loop : goal.invariant-loop
invariant-loop g l = IsIdle l.kiwi l.pass
