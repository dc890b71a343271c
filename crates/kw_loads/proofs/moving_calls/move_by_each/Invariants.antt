use Rattle.std.specs.Prelude.{All}
use Rattle.kw_map.specs.Kiwi.{IsIdle}
use Rattle.kw_loads.proofs.moving_calls.move_by_each.Given as goal

abbrev pub invariant-loop-from : goal.invariant-loop-from
invariant-loop-from g l = All (IsIdle l.kiwi) l.passes.items
