use Rattle.std.proofs.Common.{ap, ◌∙◌, ◌≡◌, ◌≤◌, arith, get_or}
use Rattle.kw_judge.specs.Good.{Recorded, calls_in_order}
use Rattle.kw_judge.specs.Index.{call_at}
use Rattle.kw_judge.proofs.Firsts.{more_hold, all_hold}
use Rattle.kw_judge.proofs.Standing.{stands_at, as_long}
use Rattle.kw_judge.proofs.judge.first_after.Goals as goal

pub loop-place-preserved : goal.loop-place-preserved
loop-place-preserved c =
    let r = c.args.written.now in
    let i = c.loop-place.place-index in
    let began : c.first.result ≡ (call_at r (get_or c.args.places.now i 0)).first = c.first.ensures ∙ ap (λ (q : Recorded). q.first) c.at-line.ensures in
    more_hold (λ _ (d : Recorded). d.first ≤ c.args.end) (calls_in_order r) i _ (stands_at r c.args.places.now i 0 c.requires c.loop-place-test.true) c.loop-place.invariant (omega (arith, began))

pub returns : goal.returns
returns c = all_hold (λ _ (d : Recorded). d.first ≤ c.args.end) (calls_in_order c.args.written.now) c.loop-place.place-index (omega (arith, as_long c.args.written.now c.args.places.now c.requires)) c.loop-place.invariant
