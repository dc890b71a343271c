use Rattle.std.proofs.Common.{arith, ◌≡◌, length, ap, subst, refl}
use Rattle.kw_order.specs.Points.{AreRankedBelow}
use Rattle.kw_order.proofs.RankedCalls.{sorted_ranked, ranked_more, ranked_same}
use Rattle.kw_order.proofs.points.ranked_calls.Goals as goal
use Rattle.kw_order.proofs.points.ranked_calls.Goals.{in-Some+in_ok-push, in_default}

pub loop-call-preserved : goal.loop-call-preserved
loop-call-preserved c =
    elim c.match-rank_of.branch [
      | in-Some+in_ok-push w ↦ rw (w.ranked-is, w.in_ok-push.ensures.items) (ranked_more c.args.history.now c.loop-call.ranked.items c.loop-call.call _ c.loop-call.invariant w.in-Some.ensures refl)
      | in_default w ↦ rw w.ranked-is (ranked_same c.args.history.now c.loop-call.ranked.items c.loop-call.call c.loop-call.invariant w.in_default.ensures)
    ]

pub returns : goal.returns
returns c =
    let all : c.loop-call.call ≡ length c.args.history.now.calls = omega (arith, ap length c.calls-call-end.ensures) in
    sorted_ranked c.args.history.now c.requires c.loop-call.ranked.items c.sort_unstable.new.self.items (subst (AreRankedBelow c.args.history.now c.loop-call.ranked.items) all c.loop-call.invariant) c.sort_unstable.ensures.permutation c.sort_unstable.ensures.sorted
