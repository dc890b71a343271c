use Rattle.kw_order.specs.Puts.{ArePicked}
use Rattle.kw_order.proofs.puts.deletes_of.Given as goal

abbrev pub invariant-loop-put : goal.invariant-loop-put
invariant-loop-put l = ArePicked l.history l.puts l.deletes.items l.put-index
