-- The cell before has another key, or there is none before.
use Rattle.std.proofs.Common.{◌<◌, ◌≤◌, ◌-◌, ◌∙◌, ap, arith, length}
use Rattle.std.proofs.lemmas.List.{get_or_default}
use Rattle.kw_cells.specs.declared.cell.Cell.{Cell}
use Rattle.kw_cells.proofs.Rising.{any_cell}
use Rattle.kw_cells.proofs.Places.{index_first}
use Rattle.kw_cells.proofs.pack.first_of_key.Goals as goal

pub returns-else-cells-first-clause-is : goal.returns-else-cells-first-clause-is
returns-else-cells-first-clause-is c =
    let below : c.loop-first.first ≤ c.args.place = c.loop-first.invariant.below in
    index_first c.args.cells.now c.requires.rising c.args.place c.loop-first.first c.requires.place below c.loop-first.invariant.of_key (λ p same. c.if-cells-first.false (
    let before : c.loop-first.first - 1 < length c.args.cells.now = let l = c.requires.place in omega arith in
    ap (λ (x : Cell). x.key) (get_or_default c.args.cells.now (c.loop-first.first - 1) _ any_cell before) ∙ same ∙ ap (λ (x : Cell). x.key) (get_or_default c.args.cells.now c.args.place any_cell _ c.requires.place)))

pub returns-after-loop-first-clause-is : goal.returns-after-loop-first-clause-is
returns-after-loop-first-clause-is c = index_first c.args.cells.now c.requires.rising c.args.place c.loop-first.first c.requires.place c.loop-first.invariant.below c.loop-first.invariant.of_key (λ p same. absurd (omega arith))
