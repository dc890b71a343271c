use Rattle.kw_judge.proofs.Readings.{unfinished}
use Rattle.kw_judge.proofs.read.Reader.finish.Goals as goal

pub returns-in_err-order : goal.returns-in_err-order
returns-in_err-order c = rw c.from_residual.ensures (unfinished c.args.self c.requires (c.in_err-order.was {u = tt}))
