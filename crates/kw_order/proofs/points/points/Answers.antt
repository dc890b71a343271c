use Rattle.std.proofs.Common.{arith, ◌≡◌, ◌∷◌, ◌++◌, [], length, ap, sym, subst, ◌∙◌, map, take}
use Rattle.std.proofs.lemmas.List.{map_more, take_all}
use Rattle.kw_core.specs.declared.history.CallLog.{CallLog}
use Rattle.kw_order.specs.declared.points.CallName.{CallName}
use Rattle.kw_order.specs.Points.{name_of, point_from, ranked_at, AreRanked}
use Rattle.kw_order.proofs.CallRanks.{read_called}
use Rattle.kw_order.proofs.RankedCalls.{ranked_within, ranked_points}
use Rattle.kw_order.proofs.points.points.Goals as goal

pub offset_bounds-calls-one : goal.offset_bounds-calls-one
offset_bounds-calls-one c =
    let ranked = subst (AreRanked c.args.history.now) (sym c.deref-one-items.ensures.value) c.in_ok-ranked_calls.ensures in
    omega (arith, ranked_within c.args.history.now c.deref-one-items.result.now ranked c.loop-one.one-index c.loop-one-test.true, ap length c.calls-calls.ensures, c.calls-calls.type_inv)

pub bounds-calls-one : goal.bounds-calls-one
bounds-calls-one c =
    let ranked = subst (AreRanked c.args.history.now) (sym c.deref-one-items.ensures.value) c.in_ok-ranked_calls.ensures in
    omega (arith, ranked_within c.args.history.now c.deref-one-items.result.now ranked c.loop-one.one-index c.loop-one-test.true, ap length c.calls-calls.ensures)

pub loop-one-preserved : goal.loop-one-preserved
loop-one-preserved c =
    let h = c.args.history.now in
    let xs = c.deref-one-items.result.now in
    let ranked = subst (AreRanked h) (sym c.deref-one-items.ensures.value) c.in_ok-ranked_calls.ensures in
    let one = ranked_at xs c.loop-one.one-index in
    let read = read_called h c.calls-calls.result.now one.call c.index-calls-one.result c.calls-calls.ensures c.index-calls-one.is (ranked_within h xs ranked c.loop-one.one-index c.loop-one-test.true) in
    let named : c.name_of.result ≡ name_of h one.call = c.name_of.ensures ∙ ap (λ (q : CallLog). record { seat = q.seat; number = q.number }) read in
    rw (c.in_ok-push.ensures.items, map_more (point_from h) xs c.loop-one.one-index (record { rank = record { at = 0; add = 0; tail = 0 }; call = 0 }) c.loop-one-test.true, c.loop-one.invariant)
    (ap (λ (n : CallName). map (point_from h) (take c.loop-one.one-index xs) ++ record { call = n; at = one.rank.at } ∷ []) named)

pub returns : goal.returns
returns c =
    let h = c.args.history.now in
    let xs = c.deref-one-items.result.now in
    rw (c.loop-one.invariant, take_all c.loop-one.one-index xs c.loop-one-test.false) (ranked_points h xs (subst (AreRanked h) (sym c.deref-one-items.ensures.value) c.in_ok-ranked_calls.ensures))
