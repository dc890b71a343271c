-- The calls so far began no later.
use Rattle.std.proofs.Common.{◌≤◌}
use Rattle.kw_judge.specs.Good.{Recorded, calls_in_order}
use Rattle.kw_judge.proofs.Firsts.{HoldBelow}
use Rattle.kw_judge.proofs.judge.first_after.Given as goal

abbrev pub invariant-loop-place : goal.invariant-loop-place
invariant-loop-place l = HoldBelow (λ _ (c : Recorded). c.first ≤ l.end) (calls_in_order l.written) l.place-index
