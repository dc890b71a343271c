use Rattle.kw_order.specs.Puts.{AreCollected}
use Rattle.kw_order.proofs.puts.sorted_puts.Given as goal

abbrev pub invariant-loop-place : goal.invariant-loop-place
invariant-loop-place l = AreCollected l.history l.puts.items l.place
