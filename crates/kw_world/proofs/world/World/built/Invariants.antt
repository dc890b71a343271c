use Rattle.std.proofs.Common.{◌≡◌}
use Rattle.std.specs.Prelude.{replicate}
use Rattle.kw_world.specs.Local.{resting}
use Rattle.kw_world.proofs.world.World.built.Given as goal

abbrev pub invariant-loop-seat : goal.invariant-loop-seat
invariant-loop-seat l = l.locals.items ≡ replicate l._seat (resting 0)
