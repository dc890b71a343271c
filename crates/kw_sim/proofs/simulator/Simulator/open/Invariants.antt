-- There is an empty queue for each seat so far.
use Rattle.std.proofs.Common.{◌≡◌, []}
use Rattle.std.specs.Prelude.{replicate}
use Rattle.kw_sim.proofs.simulator.Simulator.open.Given as goal

abbrev pub invariant-loop-seat : goal.invariant-loop-seat
invariant-loop-seat l = l.queues.items ≡ replicate l._seat []
