-- The order of the cells does not matter.
use Rattle.std.proofs.Common.{sym, subst, List}
use Rattle.kw_cells.specs.Cells.{AreApart}
use Rattle.kw_cells.specs.Kept.{IsKeptList}
use Rattle.kw_cells.specs.declared.cell.Cell.{Cell}
use Rattle.kw_cells.proofs.Moved.{apart_moved, list_moved}
use Rattle.kw_cells.proofs.keep.fill.Goals as goal

pub select-requires-else-are_in_order-clause-apart : goal.select-requires-else-are_in_order-clause-apart
select-requires-else-are_in_order-clause-apart c = subst AreApart (sym c.as_slice.ensures.value) (apart_moved c.args.cells.now c.in_order-ordered.result.items c.in_order-ordered.ensures.same c.requires.apart)

pub returns-else-are_in_order-clause-exactly : goal.returns-else-are_in_order-clause-exactly
returns-else-are_in_order-clause-exactly c = list_moved c.args.cells.now c.in_order-ordered.result.items c.args.needed.now c.select-else-are_in_order.new.kept c.in_order-ordered.ensures.same (subst (λ (s : List Cell). IsKeptList s c.args.needed.now c.select-else-are_in_order.new.kept) c.as_slice.ensures.value c.select-else-are_in_order.ensures)
