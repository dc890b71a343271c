-- Where the table has enough for the calls that were begun no update is ever refused, by induction
-- over the events: no search has found all rows in use, and no counter has come to its bound.
use Rattle.std.proofs.Common.{ℕ, ◌≡◌, ◌⊎◌, inl, inr, ◌+◌, ◌*◌, ◌<◌, ◌≤◌, true, Some, List, [], ◌∷◌, ◌++◌, arith, sym, ◌∙◌, ap, subst, length}
use Rattle.std.proofs.Math.Nat.{mul-le-mul_left, mul-le-mul_right}
use Rattle.std.proofs.lemmas.Bool.{cases_lt}
use Rattle.kw_words.specs.declared.sizes.TheConstants.{MOST_GROUP}
use Rattle.kw_model.specs.declared.call.Reply.TheVariants.{Spent}
use Rattle.kw_world.specs.declared.event.Event.{Event}
use Rattle.kw_world.specs.declared.opening.Opening.{Opening}
use Rattle.kw_world.specs.Opening.{IsOpening}
use Rattle.kw_world.specs.Sizes.{Sizes}
use Rattle.kw_core.specs.Events.{is_valid, may_step}
use Rattle.kw_core.specs.History.{History, called}
use Rattle.kw_core.specs.declared.history.CallLog.{CallLog}
use Rattle.kw_core.specs.declared.history.End.{End}
use Rattle.kw_core.specs.Run.{Run, history, start}
use Rattle.kw_core.specs.Run as run
use Rattle.kw_core.proofs.Events.{valid-nil}
use Rattle.kw_core.proofs.Runs.{history-nil, history-snoc}
use Rattle.kw_laws.proofs.Along.{holds_along}
use Rattle.kw_laws.proofs.EndedCalls.{ended_lasts, ended_within}
use Rattle.kw_counts.specs.Bank.{all_updates}
use Rattle.kw_counts.specs.Counts.{counts}
use Rattle.kw_counts.specs.Refusals.{HasNoRefusal, IsBeforeRefusals}
use Rattle.kw_counts.specs.Spent.{MayEndClock, MayEndEpoch}
use Rattle.kw_counts.proofs.SpentHold.{spent_holds}
use Rattle.kw_used.specs.Few.{HasEnough, HasVersionsLeft, RefusesNone}
use Rattle.kw_used.specs.Used.{AreBanked, AreEngaged, HasRoom, IsPriceOf, TidyingIsLate}
use Rattle.kw_used.proofs.BuildsHold.{come, happened, ok_next}
use Rattle.kw_used.proofs.NoRowsLeft.{none_is_short}
use Rattle.kw_used.proofs.RefusedNow.{refused_now}
use Rattle.kw_used.proofs.TidyingLate.{late_before, rows_enough, untidied_holds, updates_grow}

-- no call was refused as spent
abbrev HasNoneSpent : History → Type 0
HasNoneSpent h = (x : ℕ) (d : End) → x < length h.calls → (called h x).end ≡ Some d → d.reply ≡ Spent → ⊥

-- a share that pays for builds is none of no updates
some_share : (z : Sizes) (build share price : ℕ) → IsPriceOf z build share price → 1 ≤ share
some_share z build share price cost = which (cases_lt 0 share)
  where
    which : (0 < share) ⊎ (share ≤ 0) → 1 ≤ share
    which (inl w) = omega (arith, w)
    which (inr w) =
        let none : share ≡ 0 = omega (arith, w) in
        let free : price * share ≡ price * 0 = ap (λ n. price * n) none in
        let some : 1 * (z.seats + 2) ≤ build * (z.seats + 2) = mul-le-mul_right (z.seats + 2) (omega (arith, cost.most.odd)) in
        absurd (omega (arith, cost.pays, free, some))

-- fewer updates leave a row too
room_before : (z : Sizes) (o : Opening) (price : ℕ) (es ds : List Event) → all_updates z o es ≤ all_updates z o ds → HasRoom z o ds price → HasRoom z o es price
room_before z o price es ds less room =
    let more : o.seats * (price * all_updates z o es) ≤ o.seats * (price * all_updates z o ds) = mul-le-mul_left o.seats (mul-le-mul_left price less) in
    omega (arith, more, room)

module _ (z : Sizes) (o : Opening) (opening : IsOpening z o) (build share price : ℕ) (cost : IsPriceOf z build share price) (engaged : AreEngaged z o) (banked : AreBanked z o) where
  some : 1 ≤ share
  some = some_share z build share price cost

  -- the numbers last, since the rows do
  numbers_last : (es : List Event) → is_valid z o es ≡ true → TidyingIsLate z o share (all_updates z o es) → MayEndEpoch o (counts z o es) → ⊥
  numbers_last es ok late m =
      let b = banked es ok in
      let paid : (counts z o es).wins * share ≤ all_updates z o es = omega (arith, b.over (untidied_holds z o share some opening cost.cells banked es ok late) share cost.cells, b.stamped, b.begun) in
      omega (arith, rows_enough z o share some (o.epoch + MOST_GROUP * (counts z o es).wins) (counts z o es).wins (all_updates z o es) (omega arith) paid late, m, opening.sized.few_rows)

  none_spent : (es : List Event) → is_valid z o es ≡ true → TidyingIsLate z o share (all_updates z o es) → HasVersionsLeft z o es → HasNoneSpent (history z o es).history
  none_spent es ok late left x d w is spent = which ((spent_holds z o opening es ok).calls x d w is spent)
    where
      which : MayEndClock z o es ⊎ MayEndEpoch o (counts z o es) → ⊥
      which (inl m) = omega (arith, m, left)
      which (inr m) = numbers_last es ok late m

  -- As long as none was refused as spent.

  record Unrefused (es : List Event) (r : Run) : Type 0 where
    valid : is_valid z o es ≡ true
    run_is : history z o es ≡ r
    none : HasRoom z o es price → TidyingIsLate z o share (all_updates z o es) → HasNoneSpent (history z o es).history → HasNoRefusal (history z o es).history

  before : (es : List Event) → is_valid z o es ≡ true → TidyingIsLate z o share (all_updates z o es) → HasNoRefusal (history z o es).history → IsBeforeRefusals z (history z o es)
  before es ok late none = record { untidied = untidied_holds z o share some opening cost.cells banked es ok late; none = none }

  unrefused_on : (es : List Event) (e : Event) (r : Run) → may_step o r.world e ≡ true → Unrefused es r → Unrefused (es ++ e ∷ []) (run.goes_on z r e)
  unrefused_on es e r may u = record {
    valid = next;
    run_is = history-snoc z o es e ∙ ap (λ q. run.goes_on z q e) u.run_is;
    none = λ room late unspent x d w is refused.
        let grows = updates_grow z o opening es (e ∷ []) next in
        let had = room_before z o price es (es ++ e ∷ []) grows room in
        let was = late_before z o share some (all_updates z o es) (all_updates z o (es ++ e ∷ [])) grows late in
        let none = u.none had was (unspent_was unspent) in
        let at = come z o opening es e u.valid now in
        let leaves = refused_now z (history z o es) (history z o (es ++ e ∷ [])) e.seat _ at.local _ at.local.activity (happened z o opening es e u.valid now) none x d w is refused (unspent x d w is) in
        none_is_short z o opening es u.valid e.seat at.local at.knows leaves engaged banked build share price cost had (before es u.valid was none);
  }
    where
      now : may_step o (history z o es).world e ≡ true
      now = subst (λ (q : Run). may_step o q.world e ≡ true) (sym u.run_is) may

      next : is_valid z o (es ++ e ∷ []) ≡ true
      next = ok_next z o opening es e u.valid now

      unspent_was : HasNoneSpent (history z o (es ++ e ∷ [])).history → HasNoneSpent (history z o es).history
      unspent_was unspent x d w is spent =
          let there = ap (λ (c : CallLog). c.end) (ended_lasts z o opening es (e ∷ []) u.valid next x d is) ∙ is in
          unspent x d (ended_within (history z o (es ++ e ∷ [])).history x d there) there spent

  unrefused_start : Unrefused [] (start z o)
  unrefused_start = record {
    valid = valid-nil z o;
    run_is = history-nil z o;
    none = λ room late unspent x d w is refused. omega (arith, w, ap (λ (q : Run). length q.history.calls) (history-nil z o));
  }

  pub never_refused : (es : List Event) → is_valid z o es ≡ true → HasEnough z o es share price → RefusesNone (history z o es)
  never_refused es ok enough = record {
    refused = none;
    standing = λ t l g e. none_is_short z o opening es ok t l g e engaged banked build share price cost enough.room (before es ok enough.late none);
  }
    where
      none : HasNoRefusal (history z o es).history
      none = (holds_along z o Unrefused unrefused_on unrefused_start es ok).none enough.room enough.late (none_spent es ok enough.late enough.versions)
