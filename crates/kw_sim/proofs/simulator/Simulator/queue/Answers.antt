use Rattle.std.proofs.Common.{arith}
use Rattle.kw_sim.proofs.simulator.Simulator.queue.Goals as goal

pub index_mut-queue-requires : goal.index_mut-queue-requires
index_mut-queue-requires c = omega (arith, c.requires.seat, c.self.invariant.1)
