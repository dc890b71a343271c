use Rattle.std.proofs.Common.{ap, arith, ◌∙◌}
use Rattle.std.proofs.lemmas.List.{get_or_default}
use Rattle.kw_cells.specs.declared.cell.Cell.{Cell}
use Rattle.kw_cells.proofs.Rising.{any_cell}
use Rattle.kw_step_rebal.proofs.Rising.{key_ends, next_above}
use Rattle.kw_step_rebal.proofs.infant_rising.key_end.Goals as goal

pub returns-else-cells-end-clause-count : goal.returns-else-cells-end-clause-count
returns-else-cells-end-clause-count c =
    let on = c.loop-end.invariant in
    key_ends c.args.cells.now c.requires.rising c.args.key c.loop-end.end (let b = on.behind in omega arith) on.within on.full
    (λ l. next_above c.args.cells.now c.requires.rising c.args.key c.loop-end.end l on.full (λ e. c.if-cells-end.false (ap (λ (x : Cell). x.key) (get_or_default c.args.cells.now c.loop-end.end _ any_cell l) ∙ e)))

pub returns-after-loop-end-clause-count : goal.returns-after-loop-end-clause-count
returns-after-loop-end-clause-count c =
    let on = c.loop-end.invariant in
    key_ends c.args.cells.now c.requires.rising c.args.key c.loop-end.end (let b = on.behind in omega arith) on.within on.full (λ l. absurd (let h = c.loop-end-test.false in omega arith))
