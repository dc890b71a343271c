-- What stands before the cell at the end of its front is all that stands before it.
use Rattle.std.proofs.Common.{arith, sym, ◌∙◌, ◌≡◌, ◌-◌}
use Rattle.kw_cells.proofs.InOrder.{index_in-at, front_before}
use Rattle.kw_cells.proofs.in_order.index_in.Goals as goal

pub returns-then-stands_before-clause-place : goal.returns-then-stands_before-clause-place
returns-then-stands_before-clause-place c =
    let i = c.loop-at.invariant in
    sym (index_in-at c.args.cell.now c.args.cells.now c.loop-at.at i.0 (λ k d w. front_before c.args.cell.now c.args.cells.now (c.loop-at.at - 1) _ c.requires.in_order (omega (arith, i.0, c.loop-at-test.true)) (sym c.stands_before.ensures ∙ c.if-stands_before.true) k d (omega (arith, w))) i.1)

pub returns-clause-place : goal.returns-clause-place
returns-clause-place c =
    let i = c.loop-at.invariant in
    let e : c.loop-at.at ≡ 0 = omega (arith, c.loop-at-test.false) in
    sym (index_in-at c.args.cell.now c.args.cells.now 0 (omega arith) (λ k d w. absurd (omega (arith, w))) (λ d w. rw e at (i.1 d (omega (arith, e, w)))))
