use Rattle.kw_map.specs.Kiwi.{IsIdle}
use Rattle.kw_loads.proofs.asking.scan_keys.Given as goal

abbrev pub invariant-loop : goal.invariant-loop
invariant-loop l = IsIdle l.kiwi l.pass
