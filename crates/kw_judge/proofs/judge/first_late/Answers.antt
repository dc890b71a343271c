use Rattle.std.proofs.Common.{ℕ, ap, sym, subst, ◌∙◌, ◌≡◌, ◌≤◌, Some, arith, get_or, max, ◌+◌}
use Rattle.kw_judge.specs.Good.{Recorded, calls_in_order}
use Rattle.kw_judge.specs.Verdict.{InTime}
use Rattle.kw_judge.specs.Index.{call_at}
use Rattle.kw_judge.proofs.Firsts.{HoldBelow, more_hold, all_hold}
use Rattle.kw_judge.proofs.Lates.{IsReached, in_time, more_most, more_reached, first_of}
use Rattle.kw_judge.proofs.Standing.{stands_at, as_long}
use Rattle.kw_judge.proofs.judge.first_late.Goals as goal
use Rattle.kw_judge.proofs.judge.first_late.Goals.{in-Some+else-last-greatest, in_default}

pub returns-then-last-greatest : goal.returns-then-last-greatest
returns-then-last-greatest c =
    let r = c.args.written.now in
    let cs = calls_in_order r in
    let i = c.loop-place.place-index in
    let a = call_at r (get_or c.args.places.now i 0) in
    let found = c.in_ok-before.ensures in
    let ended : a.last ≡ Some c.in-Some.last = sym (ap (λ (q : Recorded). q.last) c.at-line.ensures) ∙ (sym c.last.ensures ∙ c.in-Some.is) in (
      a,
      found.0,
      sym (c.name.ensures ∙ ap (λ (q : Recorded). q.name) c.at-line.ensures),
      found.1,
      record {
        place = i;
        there = stands_at r c.args.places.now i 0 c.requires c.loop-place-test.true;
        fails = first_of cs i c.loop-place.greatest c.in-Some.last a found.0 ended c.if-last-greatest.true c.loop-place.invariant.reached found.2;
        before = c.loop-place.invariant.in_time;
      },
    )

pub loop-place-preserved : goal.loop-place-preserved
loop-place-preserved c =
    let r = c.args.written.now in
    let cs = calls_in_order r in
    let i = c.loop-place.place-index in
    let a = call_at r (get_or c.args.places.now i 0) in
    let there = stands_at r c.args.places.now i 0 c.requires c.loop-place-test.true in
    let began : c.first.result ≡ a.first = c.first.ensures ∙ ap (λ (q : Recorded). q.first) c.at-line.ensures in
    let more : c.max-greatest.result ≡ max c.loop-place.greatest a.first = c.max-greatest.ensures ∙ ap (max c.loop-place.greatest) began in
    let ended : c.last.result ≡ a.last = c.last.ensures ∙ ap (λ (q : Recorded). q.last) c.at-line.ensures in
    let late : (last : ℕ) → a.last ≡ Some last → c.loop-place.greatest ≤ last = elim c.match-last.branch [
      | in-Some+else-last-greatest w ↦ λ last e. let s : Some w.in-Some.last ≡ Some last = sym w.in-Some.is ∙ (ended ∙ e) in let q : w.in-Some.last ≡ last = cc in omega (arith, w.if-last-greatest.false, q)
      | in_default w ↦ λ last e. absurd (w.in_default.not-Some last (ended ∙ e))
    ] in
    record {
      in_time = more_hold (InTime cs) cs i a there c.loop-place.invariant.in_time (in_time cs i c.loop-place.greatest a c.loop-place.invariant.most late);
      most = subst (λ g. HoldBelow (λ _ (d : Recorded). d.first ≤ g) cs (i + 1)) (sym more) (more_most cs i c.loop-place.greatest a there c.loop-place.invariant.most);
      reached = subst (λ g. IsReached cs (i + 1) g) (sym more) (more_reached cs i c.loop-place.greatest a there c.loop-place.invariant.reached);
    }

pub returns : goal.returns
returns c = all_hold (InTime (calls_in_order c.args.written.now)) (calls_in_order c.args.written.now) c.loop-place.place-index (omega (arith, as_long c.args.written.now c.args.places.now c.requires)) c.loop-place.invariant.in_time
