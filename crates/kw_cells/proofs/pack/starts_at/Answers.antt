-- Each turn lists one start more.
use Rattle.std.proofs.Common.{arith, inl, inr}
use Rattle.kw_cells.specs.declared.limits.TheConstants.{MOST_STARTS}
use Rattle.kw_cells.proofs.Turns.{listed_first, listed_more, listed_all, listed_room}
use Rattle.kw_cells.proofs.pack.starts_at.Goals as goal

pub loop-start-init : goal.loop-start-init
loop-start-init c = rw (c.push.ensures.items, c.new-starts.ensures) (listed_first c.args.limit c.args.cells.now c.requires.rising)

pub push-requires-in-loop-start : goal.push-requires-in-loop-start
push-requires-in-loop-start c = (omega arith, listed_room c.args.limit c.args.cells.now c.requires.rising MOST_STARTS c.loop-start.starts.items c.loop-start.start c.loop-start.invariant (omega arith) (omega arith) c.requires.rows)

pub loop-start-preserved : goal.loop-start-preserved
loop-start-preserved c = rw c.push-in-loop-start.ensures.items (listed_more c.args.limit c.args.cells.now c.requires.rising c.loop-start.starts.items c.loop-start.start c.first_of_key-start.result c.loop-start.invariant (omega arith) (omega arith) c.first_of_key-start.ensures.is)

pub returns-else-cells-start : goal.returns-else-cells-start
returns-else-cells-start c = listed_all c.args.limit c.args.cells.now c.requires.rising c.loop-start.starts.items c.loop-start.start c.loop-start.invariant (inr (omega arith))

pub returns-after-loop-start : goal.returns-after-loop-start
returns-after-loop-start c = listed_all c.args.limit c.args.cells.now c.requires.rising c.loop-start.starts.items c.loop-start.start c.loop-start.invariant (inl (omega arith))
