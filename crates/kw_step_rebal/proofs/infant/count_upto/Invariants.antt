-- The count so far is that of the cells gone through.
use Rattle.std.proofs.Common.{◌≡◌, ◌≤◌, nat_le, take, count_by}
use Rattle.kw_step_rebal.proofs.infant.count_upto.Given as goal

abbrev pub invariant-loop-cell : goal.invariant-loop-cell
invariant-loop-cell l = (l.count ≡ count_by (λ c. nat_le c.key l.key) (take l.cell-index l.cells)) × (l.count ≤ l.cell-index)
