use Rattle.std.proofs.Common.{ap, sym, subst, ◌∙◌, arith, get_or}
use Rattle.kw_model.specs.Snapshots.{State}
use Rattle.kw_judge.specs.Good.{calls_in_order}
use Rattle.kw_judge.specs.Verdict.{IsRightAt}
use Rattle.kw_judge.specs.Index.{call_at}
use Rattle.kw_judge.proofs.Firsts.{more_hold, all_hold}
use Rattle.kw_judge.proofs.Rights.{went_one, IsRightOne, state_more}
use Rattle.kw_judge.proofs.Standing.{stands_at, as_long}
use Rattle.kw_judge.proofs.judge.first_wrong.Goals as goal

pub loop-place-preserved : goal.loop-place-preserved
loop-place-preserved c =
    let r = c.args.written.now in
    let cs = calls_in_order r in
    let i = c.loop-place.place-index in
    let there = stands_at r c.args.places.now i 0 c.requires c.loop-place-test.true in
    let a = call_at r (get_or c.args.places.now i 0) in
    let told = c.in_ok-is_right.ensures in
    let right = subst (IsRightOne c.loop-place.map) c.at-line.ensures (told.right.0 c.if-not-branch.false) in
    record {
      right = more_hold (IsRightAt cs) cs i a there c.loop-place.invariant.right (subst (λ (t : State). IsRightOne t a) c.loop-place.invariant.after right);
      after = told.went ∙ (ap (went_one c.loop-place.map) c.at-line.ensures ∙ (ap (λ (t : State). went_one t a) c.loop-place.invariant.after ∙ sym (state_more cs i a there)));
    }

pub returns : goal.returns
returns c = all_hold _ (calls_in_order c.args.written.now) c.loop-place.place-index (omega (arith, as_long c.args.written.now c.args.places.now c.requires)) c.loop-place.invariant.right
