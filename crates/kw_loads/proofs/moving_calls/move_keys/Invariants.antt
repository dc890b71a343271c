use Rattle.kw_map.specs.Kiwi.{IsIdle}
use Rattle.kw_loads.proofs.moving_calls.move_keys.Given as goal

abbrev pub invariant-loop-number : goal.invariant-loop-number
invariant-loop-number g l = IsIdle l.kiwi l.pass
