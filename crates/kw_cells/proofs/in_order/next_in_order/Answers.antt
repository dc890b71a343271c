-- A cell is above the range, gives the next pair, hides its key, or is passed.
use Rattle.std.proofs.Common.{arith}
use Rattle.kw_cells.proofs.FirstFit.{passing_ends, passing_above, passing_found, passing_hidden, below_next}
use Rattle.kw_cells.proofs.Next.{pairs_of-next, pairs_of-none}
use Rattle.kw_cells.proofs.in_order.next_in_order.Goals as goal

above : goal.returns-then-to-cell-clause-none
above c = passing_above c.args.cells.now c.args.version c.args.from c.loop-at.low c.loop-at.at c.args.to _ c.requires.in_order c.loop-at-test.true c.if-to-cell.true c.loop-at.invariant

pub returns-then-to-cell-clause-none : goal.returns-then-to-cell-clause-none
returns-then-to-cell-clause-none c = above c

pub returns-then-to-cell-clause-no_pairs : goal.returns-then-to-cell-clause-no_pairs
returns-then-to-cell-clause-no_pairs c = pairs_of-none c.args.cells.now c.args.version c.args.from c.args.to (above c)

next : goal.returns-in-Some-clause-next
next c = passing_found c.args.cells.now c.args.version c.args.from c.loop-at.low c.loop-at.at c.args.to c.in-Some.value _ c.requires.in_order c.loop-at-test.true c.if-low-cell.true c.if-to-cell.false c.if-cell-version.true c.in-Some.is c.loop-at.invariant

pub returns-in-Some-clause-next : goal.returns-in-Some-clause-next
returns-in-Some-clause-next c = next c

pub returns-in-Some-clause-passed : goal.returns-in-Some-clause-passed
returns-in-Some-clause-passed c = below_next c.args.cells.now c.loop-at.at _ c.requires.in_order c.loop-at-test.true

pub returns-in-Some-clause-pairs : goal.returns-in-Some-clause-pairs
returns-in-Some-clause-pairs c = pairs_of-next c.args.cells.now c.args.version c.args.from c.args.to _ (next c)

hidden : goal.returns-then-cell-to-clause-none
hidden c = λ q f l. (passing_hidden c.args.cells.now c.args.version c.args.from c.loop-at.low c.loop-at.at _ c.requires.in_order c.loop-at-test.true c.if-low-cell.true c.if-cell-version.true c.in_default.is c.loop-at.invariant).silent q f (omega (arith, c.if-cell-to.true))

pub returns-then-cell-to-clause-none : goal.returns-then-cell-to-clause-none
returns-then-cell-to-clause-none c = hidden c

pub returns-then-cell-to-clause-no_pairs : goal.returns-then-cell-to-clause-no_pairs
returns-then-cell-to-clause-no_pairs c = pairs_of-none c.args.cells.now c.args.version c.args.from c.args.to (hidden c)

pub loop-at-preserved-then-cell-version : goal.loop-at-preserved-then-cell-version
loop-at-preserved-then-cell-version c = passing_hidden c.args.cells.now c.args.version c.args.from c.loop-at.low c.loop-at.at _ c.requires.in_order c.loop-at-test.true c.if-low-cell.true c.if-cell-version.true c.in_default.is c.loop-at.invariant

ends : goal.returns-clause-none
ends c = passing_ends c.args.cells.now c.args.version c.args.from c.loop-at.low c.loop-at.at c.args.to c.loop-at-test.false c.loop-at.invariant

pub returns-clause-none : goal.returns-clause-none
returns-clause-none c = ends c

pub returns-clause-no_pairs : goal.returns-clause-no_pairs
returns-clause-no_pairs c = pairs_of-none c.args.cells.now c.args.version c.args.from c.args.to (ends c)
