-- The sort orders by the closure's test.
use Rattle.std.proofs.Common.{◌<◌, ◌^◌, All, get_or, ◌++◌, ◌∷◌, [], rules, sym, ap, ◌∙◌, subst, length}
use Rattle.std.proofs.lemmas.List.Sorted.{answers_always}
use Rattle.std.proofs.lemmas.List.{take_more, take_all}
use Rattle.std.proofs.lemmas.List.Elements.{All-push}
use Rattle.kw_cells.specs.declared.cell.Cell.{Cell}
use Rattle.kw_cells.proofs.Rising.{any_cell}
use Rattle.kw_cells.specs.InOrder.{stands_before}
use Rattle.kw_cells.specs.Ordered.{IsOrdered}
use Rattle.kw_cells.proofs.Moved.{before_orders, in_order, refilled}
use Rattle.kw_cells.proofs.keep.in_order.Goals as goal

pub returns-clause-ordered : goal.returns-clause-ordered
returns-clause-ordered c =
    let o = in_order c.sort_unstable_by.new.self (c.sort_unstable_by.ensures.sorted stands_before before_orders (answers_always _ _ _ (λ f a r g h. search rules))) in
    subst IsOrdered (sym (refilled c.loop-cell.ordered.items c.sort_unstable_by.new.self (c.sort_unstable_by.ensures.len ∙ ap length c.as_mut_slice.ensures.value))) o

pub loop-cell-preserved : goal.loop-cell-preserved
loop-cell-preserved c = record {
  copied = c.push.ensures.items ∙ ap (λ xs. xs ++ get_or c.args.cells.now c.loop-cell.cell-index any_cell ∷ []) c.loop-cell.invariant.copied ∙ sym (take_more c.args.cells.now c.loop-cell.cell-index any_cell c.loop-cell-test.true);
  in_range = rw c.push.ensures.items (All-push (λ (x : Cell). x.version < 2 ^ 64) c.loop-cell.ordered.items (get_or c.args.cells.now c.loop-cell.cell-index any_cell) c.loop-cell.invariant.in_range (search rules));
}

pub returns-clause-in_range : goal.returns-clause-in_range
returns-clause-in_range c = subst (λ xs. All (λ (x : Cell). x.version < 2 ^ 64) xs) (c.loop-cell.invariant.copied ∙ take_all c.loop-cell.cell-index c.args.cells.now c.loop-cell-test.false) c.loop-cell.invariant.in_range
