use Rattle.kw_order.specs.Puts.{HavePointsFrom}
use Rattle.kw_order.proofs.puts.put_points.Given as goal

abbrev pub invariant-loop-i : goal.invariant-loop-i
invariant-loop-i l = HavePointsFrom l.history l.puts l.points.items l.i
