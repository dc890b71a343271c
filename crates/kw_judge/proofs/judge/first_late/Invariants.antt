-- The calls so far stand in time, and `greatest` is the greatest of their first positions, or 0.
use Rattle.std.proofs.Common.{◌≤◌}
use Rattle.kw_judge.specs.Good.{Recorded, calls_in_order}
use Rattle.kw_judge.specs.Verdict.{InTime}
use Rattle.kw_judge.proofs.Firsts.{HoldBelow}
use Rattle.kw_judge.proofs.Lates.{IsReached}
use Rattle.kw_judge.proofs.judge.first_late.Given as goal

abbrev pub invariant-loop-place : goal.invariant-loop-place
invariant-loop-place l = record {
  in_time : HoldBelow (InTime (calls_in_order l.written)) (calls_in_order l.written) l.place-index;
  most : HoldBelow (λ _ (c : Recorded). c.first ≤ l.greatest) (calls_in_order l.written) l.place-index;
  reached : IsReached (calls_in_order l.written) l.place-index l.greatest;
}
