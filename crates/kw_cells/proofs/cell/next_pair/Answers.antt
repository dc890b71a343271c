-- A key that shows nothing is passed; the first that shows a value gives the next pair.
use Rattle.std.proofs.Common.{◌≤◌, ◌+◌, sym, ◌∙◌, arith}
use Rattle.kw_cells.proofs.Next.{IsSilent, silent_through, silent_in_all, next_is, pairs_of-next, pairs_of-none}
use Rattle.kw_cells.proofs.cell.next_pair.Goals as goal

next : goal.returns-in-Some-value_at-clause-next
next c = next_is c.args.cells.now c.args.version c.args.from c.loop-key.low c.args.to c.in-Some.key c.in-Some-value_at.value c.loop-key.invariant.0 c.in-Some.ensures (sym c.value_at.ensures ∙ c.in-Some-value_at.is) c.loop-key.invariant.1

pub returns-in-Some-value_at-clause-next : goal.returns-in-Some-value_at-clause-next
returns-in-Some-value_at-clause-next c = next c

pub returns-in-Some-value_at-clause-pairs : goal.returns-in-Some-value_at-clause-pairs
returns-in-Some-value_at-clause-pairs c = pairs_of-next c.args.cells.now c.args.version c.args.from c.args.to _ (next c)

through : (c : goal.Then-key-to) → IsSilent c.args.cells.now c.args.version c.args.from (c.in-Some.key + 1)
through c = silent_through c.args.cells.now c.args.version c.args.from c.loop-key.low c.args.to c.in-Some.key c.in-Some.ensures (sym c.value_at.ensures ∙ c.in_default-value_at.is) c.loop-key.invariant.1

to_the_end : goal.returns-then-key-to-clause-none
to_the_end c = λ q f l. through c q f (let e = c.if-key-to.true in omega arith)

pub returns-then-key-to-clause-none : goal.returns-then-key-to-clause-none
returns-then-key-to-clause-none c = to_the_end c

pub returns-then-key-to-clause-no_pairs : goal.returns-then-key-to-clause-no_pairs
returns-then-key-to-clause-no_pairs c = pairs_of-none c.args.cells.now c.args.version c.args.from c.args.to (to_the_end c)

pub loop-key-preserved : goal.loop-key-preserved
loop-key-preserved c =
    let f = c.loop-key.invariant.0 in
    let least = c.in-Some.ensures in
    let l : c.loop-key.low ≤ c.in-Some.key = least.from in
    (omega arith, silent_through c.args.cells.now c.args.version c.args.from c.loop-key.low c.args.to c.in-Some.key least (sym c.value_at.ensures ∙ c.in_default-value_at.is) c.loop-key.invariant.1)

silent : goal.returns-clause-none
silent c = silent_in_all c.args.cells.now c.args.version c.args.from c.loop-key.low c.args.to c.in_default.ensures c.loop-key.invariant.1

pub returns-clause-none : goal.returns-clause-none
returns-clause-none c = silent c

pub returns-clause-no_pairs : goal.returns-clause-no_pairs
returns-clause-no_pairs c = pairs_of-none c.args.cells.now c.args.version c.args.from c.args.to (silent c)
