-- The calls so far have right replies, and this is the map after them.
use Rattle.std.proofs.Common.{◌≡◌}
use Rattle.kw_judge.specs.Good.{calls_in_order}
use Rattle.kw_judge.specs.Verdict.{state_before, IsRightAt}
use Rattle.kw_judge.proofs.Firsts.{HoldBelow}
use Rattle.kw_judge.proofs.judge.first_wrong.Given as goal

abbrev pub invariant-loop-place : goal.invariant-loop-place
invariant-loop-place l = record {
  right : HoldBelow (IsRightAt (calls_in_order l.written)) (calls_in_order l.written) l.place-index;
  after : l.map ≡ state_before (calls_in_order l.written) l.place-index;
}
