-- Each cell is passed or kept; in the end the one found is the best of all.
use Rattle.std.proofs.Common.{◌≡◌, sym, ◌∙◌, subst, Option, IfSome, IsNone, All, ◌↔◌, ◌<◌}
use Rattle.kw_cells.specs.Cells.{best_of, IsBest}
use Rattle.kw_cells.specs.declared.cell.Cell.{Cell}
use Rattle.kw_cells.proofs.Best.{passed, kept, ended, best_of-tells, best_of-none_exactly}
use Rattle.kw_cells.proofs.cell.best.Goals as goal
use Rattle.kw_cells.proofs.cell.best.Goals.{then-fits, else-fits}

found : (c : goal.After-loop-cell) → c.loop-cell.best ≡ best_of c.args.cells.now c.args.key c.args.version
found c = ended c.args.cells.now c.loop-cell.cell-index c.args.key c.args.version c.loop-cell.best _ c.loop-cell-test.false c.loop-cell.invariant

pub loop-cell-preserved : goal.loop-cell-preserved
loop-cell-preserved c = elim c.if-fits.branch [
  | then-fits w ↦ rw w.best-is (kept c.args.cells.now c.loop-cell.cell-index c.args.key c.args.version _ c.loop-cell.best _ w.later.result c.loop-cell-test.true (sym c.fits.ensures ∙ w.if-fits.true) w.later.ensures c.loop-cell.invariant)
  | else-fits w ↦ rw w.best-is (passed c.args.cells.now c.loop-cell.cell-index c.args.key c.args.version _ c.loop-cell.best _ c.loop-cell-test.true (sym c.fits.ensures ∙ w.if-fits.false) c.loop-cell.invariant)
]

pub returns-clause-function : goal.returns-clause-function
returns-clause-function c = found c

pub returns-clause-best : goal.returns-clause-best
returns-clause-best c = subst (λ (o : Option Cell). IfSome o (IsBest c.args.cells.now c.args.key c.args.version)) (sym (found c)) (best_of-tells c.args.cells.now c.args.key c.args.version)

pub returns-clause-none : goal.returns-clause-none
returns-clause-none c = subst (λ (o : Option Cell). IsNone o ↔ All (λ (d : Cell). d.key ≡ c.args.key → c.args.version < d.version) c.args.cells.now) (sym (found c)) (best_of-none_exactly c.args.cells.now c.args.key c.args.version)
