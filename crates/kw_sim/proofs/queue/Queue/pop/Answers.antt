use Rattle.std.proofs.Common.{arith}
use Rattle.kw_sim.proofs.Queues.{next_is}
use Rattle.kw_sim.proofs.queue.Queue.pop.Goals as goal

pub returns-clause-first : goal.returns-clause-first
returns-clause-first c = next_is c.args.self.now c.self.inside.first c.in_ok-next.next c.self.inside.later.items c.pop_front.new.self.items c.pop_front.result (omega arith) c.self.view_is (c.in_ok-next.was {u = tt}) c.pop_front.ensures.items c.self.invariant.1
