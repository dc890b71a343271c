-- So far none stands behind one that it stands before.
use Rattle.std.proofs.Common.{ℕ, ◌≡◌, ◌<◌, ◌≤◌, ◌^◌, false, get_or}
use Rattle.kw_cells.specs.InOrder.{stands_before}
use Rattle.kw_cells.specs.declared.cell.Cell.{Cell}
use Rattle.kw_cells.proofs.keep.are_in_order.Given as goal

abbrev pub invariant-loop-place : goal.invariant-loop-place
invariant-loop-place l = record {
  ordered : (i j : ℕ) (d : Cell) → i ≤ j → j < l.place → stands_before (get_or l.cells j d) (get_or l.cells i d) ≡ false;
  in_range : (i : ℕ) (d : Cell) → i < l.place → (get_or l.cells i d).version < 2 ^ 64;
}
