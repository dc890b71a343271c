use Rattle.std.proofs.Common.{arith, ◌≡◌, length, ap, subst, sym, ◌∙◌, refl}
use Rattle.std.proofs.lemmas.Bool.{true≢false}
use Rattle.kw_core.specs.declared.history.Attempt.{Attempt}
use Rattle.kw_core.proofs.Attempts.{attempt_at}
use Rattle.kw_order.specs.Puts.{AreCollected}
use Rattle.kw_order.proofs.SortedPuts.{sorted_collected, collected_more, collected_same}
use Rattle.kw_order.proofs.puts.sorted_puts.Goals as goal
use Rattle.kw_order.proofs.puts.sorted_puts.Goals.{then-attempt+in_ok-push, else-attempt}

pub loop-place-preserved : goal.loop-place-preserved
loop-place-preserved c =
    let same = attempt_at c.args.history.now c.attempts-attempt-items.result.now c.loop-place.place c.attempts-attempt-items.ensures in
    let stamped = λ (a : Attempt). a.is_stamped in
    elim c.if-attempt.branch [
      | then-attempt+in_ok-push w ↦ rw (w.puts-is, w.in_ok-push.ensures.items) (collected_more c.args.history.now c.loop-place.puts.items c.loop-place.place _ c.loop-place.invariant (record {
        is_put = sym (ap stamped same) ∙ w.if-attempt.true;
        key = ap (λ (a : Attempt). a.key) same;
        version = ap (λ (a : Attempt). a.version) same;
        add = ap (λ (a : Attempt). a.add) same;
      }) refl)
      | else-attempt w ↦ rw w.puts-is (collected_same c.args.history.now c.loop-place.puts.items c.loop-place.place c.loop-place.invariant (λ t. true≢false (sym t ∙ sym (ap stamped same) ∙ w.if-attempt.false)))
    ]

pub returns : goal.returns
returns c =
    let all : c.loop-place.place ≡ length c.args.history.now.attempts = omega (arith, ap length c.attempts-attempt-items.ensures) in
    sorted_collected c.args.history.now c.requires c.loop-place.puts.items c.sort_unstable.new.self.items (subst (AreCollected c.args.history.now c.loop-place.puts.items) all c.loop-place.invariant) c.sort_unstable.ensures.permutation c.sort_unstable.ensures.sorted
