use Rattle.kw_judge.proofs.Readings.{nothing_there, after_order}
use Rattle.kw_judge.proofs.read.Reader.take.Goals as goal

pub returns-in_default : goal.returns-in_default
returns-in_default c = nothing_there c.args.self.now c.args.line.now (rw c.in_default.is at (c.in_ok-entry.ensures {u = tt}))

pub returns-then-is_some : goal.returns-then-is_some
returns-then-is_some c = after_order c.args.self.now c.args.line.now c.is_some.result c.requires c.is_some.ensures c.if-is_some.true
