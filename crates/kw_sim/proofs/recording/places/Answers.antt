use Rattle.std.proofs.Common.{arith, ◌≡◌, ◌<◌, length, ap, subst, sym, ◌∙◌, refl}
use Rattle.kw_order.proofs.CallRanks.{read_called}
use Rattle.kw_sim.specs.Sections.{stands_at, ArePlacesBelow}
use Rattle.kw_sim.proofs.Gathered.{places_more, places_same, sorted_places}
use Rattle.kw_sim.proofs.recording.places.Goals as goal
use Rattle.kw_sim.proofs.recording.places.Goals.{in-Some+in_ok-push, in_default}

pub loop-call-preserved : goal.loop-call-preserved
loop-call-preserved c =
    let within : c.loop-call.call < length c.args.history.now.calls = omega (arith, c.loop-call-test.true, ap length c.calls-log-items.ensures) in
    let read = read_called c.args.history.now c.calls-log-items.result.now c.loop-call.call c.log-item.result c.calls-log-items.ensures c.log-item.is within in
    let told = sym (ap (stands_at c.args.section) read) ∙ sym c.stands_at.ensures in
    elim c.match-stands_at.branch [
      | in-Some+in_ok-push w ↦ rw (w.places-is, w.in_ok-push.ensures.items) (places_more c.args.history.now c.args.section c.loop-call.call c.loop-call.places.items _ within c.loop-call.invariant (told ∙ w.in-Some.is) refl)
      | in_default w ↦ rw w.places-is (places_same c.args.history.now c.args.section c.loop-call.call c.loop-call.places.items within c.loop-call.invariant (told ∙ w.in_default.is))
    ]

pub returns : goal.returns
returns c =
    let all : c.loop-call.call ≡ length c.args.history.now.calls = omega (arith, ap length c.calls-log-items.ensures) in
    sorted_places c.args.history.now c.args.section c.loop-call.places.items c.sort_unstable.new.self.items (subst (λ n. ArePlacesBelow c.args.history.now c.args.section n c.loop-call.places.items) all c.loop-call.invariant) c.sort_unstable.ensures.permutation c.sort_unstable.ensures.sorted
