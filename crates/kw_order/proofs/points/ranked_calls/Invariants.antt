use Rattle.kw_order.specs.Points.{AreRankedBelow}
use Rattle.kw_order.proofs.points.ranked_calls.Given as goal

abbrev pub invariant-loop-call : goal.invariant-loop-call
invariant-loop-call l = AreRankedBelow l.history l.ranked.items l.call
