-- The last cell alone decides.
use Rattle.std.proofs.Common.{arith, sym, ◌∙◌, ◌-◌, ◌<◌, length}
use Rattle.kw_cells.proofs.InOrder.{index_in-behind, index_in-front}
use Rattle.kw_cells.proofs.in_order.is_behind.Goals as goal

pub returns : goal.returns
returns c =
    let some : 0 < length c.args.cells.now = omega (arith, c.if-count-eq0.false) in
    (λ t. index_in-behind c.args.cell.now c.args.cells.now (length c.args.cells.now - 1) _ c.requires (omega (arith, some)) (sym c.stands_before.ensures ∙ t), λ e. c.stands_before.ensures ∙ index_in-front c.args.cell.now c.args.cells.now (length c.args.cells.now - 1) _ (omega (arith, some, e)))
