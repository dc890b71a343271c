-- As long as the updates are few no put that is done is offered to tidy its row: each exchange that
-- replaced a row was paid for by updates, and gave few numbers.
use Rattle.std.proofs.Common.{ℕ, ◌≡◌, ◌⊎◌, inl, inr, ◌+◌, ◌*◌, ◌<◌, ◌≤◌, true, List, [], ◌∷◌, ◌++◌, arith, sym, ◌∙◌, ap, subst}
use Rattle.std.proofs.Math.Nat.{mul-le-mul_left}
use Rattle.std.proofs.lemmas.Bool.{cases_lt}
use Rattle.kw_words.specs.declared.layout.Name.TheVariants as name
use Rattle.kw_words.specs.declared.sizes.TheConstants.{MOST_GROUP}
use Rattle.kw_windows.proofs.Summing.{sum_grows, times_one_more}
use Rattle.kw_rows.specs.Ledger.{IsLive}
use Rattle.kw_world.specs.declared.activity.Activity.{Activity}
use Rattle.kw_world.specs.declared.activity.rebalance.Rebalance.TheVariants as Rebalance
use Rattle.kw_world.specs.declared.activity.rebalance.replace.Replace.TheVariants as Replace
use Rattle.kw_world.specs.declared.event.Event.{Event}
use Rattle.kw_world.specs.declared.limits.TheConstants.{TIDY_SHARE}
use Rattle.kw_world.specs.declared.opening.Opening.{Opening}
use Rattle.kw_world.specs.Opening.{IsOpening}
use Rattle.kw_world.specs.Sizes.{Sizes}
use Rattle.kw_world.specs.Step.{word}
use Rattle.kw_world.specs.WalkTransitions.{offered}
use Rattle.kw_core.specs.Events.{is_valid, may_step}
use Rattle.kw_core.specs.Run.{Run, history, start}
use Rattle.kw_core.specs.Run as run
use Rattle.kw_core.proofs.Events.{valid-nil}
use Rattle.kw_core.proofs.Happens.{found_at}
use Rattle.kw_core.proofs.Runs.{history-nil, history-snoc, history-world}
use Rattle.kw_reads.proofs.Keeps.{inv_holds}
use Rattle.kw_laws.specs.SeatCalls.{AreStill, CallSeen}
use Rattle.kw_laws.proofs.Along.{holds_along}
use Rattle.kw_laws.proofs.SeatCalls.{calls_last}
use Rattle.kw_counts.specs.Bank.{IsShare, all_updates, update_one, updates_by, updates_in}
use Rattle.kw_counts.specs.Counts.{Counts, counts, numbers_after, wins_after}
use Rattle.kw_counts.proofs.CountsHold.{numbers_hold}
use Rattle.kw_counts.proofs.LiveRows.{lives_or_wins}
use Rattle.kw_full.specs.Shares.{IsUntidied}
use Rattle.kw_used.specs.Used.{AreBanked, TidyingIsLate}
use Rattle.kw_used.proofs.BuildsHold.{come, counted_is, counts-nil, happened, ok_next, rows_are}

-- Updates.

-- the calls that a longer list has are as many updates, or more
updates_still : (cs ds : List CallSeen) → AreStill cs ds → updates_in cs ≤ updates_in ds
updates_still [] ds x = omega arith
updates_still (c ∷ cs) [] x = absurd x
updates_still (c ∷ cs) (d ∷ ds) x = omega (arith, ap update_one x.0.call, updates_still cs ds x.1)

pub updates_grow : (z : Sizes) (o : Opening) → IsOpening z o → (xs ys : List Event) → is_valid z o (xs ++ ys) ≡ true → all_updates z o xs ≤ all_updates z o (xs ++ ys)
updates_grow z o opening xs ys ok = sum_grows z.seats (updates_by z o xs) (updates_by z o (xs ++ ys)) (λ t w. updates_still _ _ (calls_last z o t xs ys opening ok))

-- Numbers.

-- what is as much with so many times of each is as much
cancel : (s x y : ℕ) → 1 ≤ s → s * x ≤ s * y → x ≤ y
cancel s x y some less = which (cases_lt y x)
  where
    which : (y < x) ⊎ (x ≤ y) → x ≤ y
    which (inl o) =
        let more : s * (y + 1) ≤ s * x = mul-le-mul_left s (omega (arith, o)) in
        absurd (omega (arith, more, less, times_one_more s y, some))
    which (inr o) = o

module _ (z : Sizes) (o : Opening) (share : ℕ) (some : 1 ≤ share) where
  -- so many exchanges, each paid for by a share of so many updates, leave the table rows enough
  pub rows_enough : (epoch wins updates : ℕ) → epoch ≤ o.epoch + MOST_GROUP * wins → wins * share ≤ updates → TidyingIsLate z o share updates → TIDY_SHARE * epoch ≤ o.rows
  rows_enough epoch wins updates drawn paid late = cancel share (TIDY_SHARE * epoch) o.rows some (omega (arith, first, same, second, late))
    where
      first : share * (TIDY_SHARE * epoch) ≤ share * (TIDY_SHARE * (o.epoch + MOST_GROUP * wins))
      first = mul-le-mul_left share (mul-le-mul_left TIDY_SHARE drawn)

      same : share * (TIDY_SHARE * (o.epoch + MOST_GROUP * wins)) ≡ TIDY_SHARE * (share * o.epoch + MOST_GROUP * (wins * share))
      same = grind arith

      third : MOST_GROUP * (wins * share) ≤ MOST_GROUP * updates
      third = mul-le-mul_left MOST_GROUP paid

      fourth : share * o.epoch + MOST_GROUP * (wins * share) ≤ share * o.epoch + MOST_GROUP * updates
      fourth = omega (arith, third)

      second : TIDY_SHARE * (share * o.epoch + MOST_GROUP * (wins * share)) ≤ TIDY_SHARE * (share * o.epoch + MOST_GROUP * updates)
      second = mul-le-mul_left TIDY_SHARE fourth

  -- fewer updates leave as many
  pub late_before : (n m : ℕ) → n ≤ m → TidyingIsLate z o share m → TidyingIsLate z o share n
  late_before n m less late =
      let more : MOST_GROUP * n ≤ MOST_GROUP * m = mul-le-mul_left MOST_GROUP less in
      let both : share * o.epoch + MOST_GROUP * n ≤ share * o.epoch + MOST_GROUP * m = omega (arith, more) in
      let times : TIDY_SHARE * (share * o.epoch + MOST_GROUP * n) ≤ TIDY_SHARE * (share * o.epoch + MOST_GROUP * m) = mul-le-mul_left TIDY_SHARE both in
      omega (arith, times, late)

  module _ (opening : IsOpening z o) (cells : IsShare z share) (banked : AreBanked z o) where
    epoch_is : (es : List Event) → is_valid z o es ≡ true → word z (history z o es).world name.Epoch ≡ o.epoch + (counts z o es).numbers
    epoch_is es ok = ap (λ w. word z w name.Epoch) (history-world z o es) ∙ (numbers_hold z o opening es ok).epoch

    module _ (es : List Event) (e : Event) (ok : is_valid z o es ≡ true) (may : may_step o (history z o es).world e ≡ true) where
      abbrev c : Counts
      c = counts z o es

      abbrev a : Activity
      a = (come z o opening es e ok may).local.activity

      abbrev found : ℕ
      found = found_at z (word z (history z o es).world) a e.seat (offered (history z o es).world.rows e.choice) (come z o opening es e ok may).local

      abbrev wins : ℕ
      wins = wins_after a (come z o opening es e ok may).local found c.wins

      -- numbers are drawn for rows that were replaced before
      numbers_next : (counts z o (es ++ e ∷ [])).numbers ≤ MOST_GROUP * c.wins
      numbers_next = which (lives_or_wins a (happened z o opening es e ok may) (inv_holds z o opening es ok).shape c.wins)
        where
          was : c.numbers ≤ MOST_GROUP * c.wins
          was = omega (arith, (numbers_hold z o opening es ok).paid)

          is : (counts z o (es ++ e ∷ [])).numbers ≤ MOST_GROUP * (counts z o (es ++ e ∷ [])).wins
          is = omega (arith, (numbers_hold z o opening (es ++ e ∷ []) (ok_next z o opening es e ok may)).paid)

          numbers_are : (counts z o (es ++ e ∷ [])).numbers ≡ numbers_after a c.numbers
          numbers_are = ap (λ (y : Counts). y.numbers) (counted_is z o opening es e ok may)

          which : (a ≡ Activity.Rebalance (Rebalance.Replace Replace.Exchange)) × (wins ≡ c.wins + 1) ⊎ (wins ≡ c.wins) × ((q : ℕ) → IsLive (history z o es).ledger.rows q → IsLive (history z o (es ++ e ∷ [])).ledger.rows q) → (counts z o (es ++ e ∷ [])).numbers ≤ MOST_GROUP * c.wins
          which (inl u) = omega (arith, was, numbers_are, ap (λ b. numbers_after b c.numbers) u.0)
          which (inr u) = omega (arith, is, ap (λ n. MOST_GROUP * n) (ap (λ (y : Counts). y.wins) (counted_is z o opening es e ok may) ∙ u.0))

    record Untidied (es : List Event) (r : Run) : Type 0 where
      valid : is_valid z o es ≡ true
      run_is : history z o es ≡ r
      untidied : TidyingIsLate z o share (all_updates z o es) → IsUntidied z (history z o es).world

    untidied_on : (es : List Event) (e : Event) (r : Run) → may_step o r.world e ≡ true → Untidied es r → Untidied (es ++ e ∷ []) (run.goes_on z r e)
    untidied_on es e r may x = record {
      valid = next;
      run_is = history-snoc z o es e ∙ ap (λ q. run.goes_on z q e) x.run_is;
      untidied = λ late.
          let grows = updates_grow z o opening es (e ∷ []) next in
          let u = x.untidied (late_before (all_updates z o es) (all_updates z o (es ++ e ∷ [])) grows late) in
          let b = banked es x.valid in
          let paid : (counts z o es).wins * share ≤ all_updates z o (es ++ e ∷ []) = omega (arith, b.over u share cells, b.stamped, b.begun, grows) in
          omega (arith, rows_enough (word z (history z o (es ++ e ∷ [])).world name.Epoch) (counts z o es).wins (all_updates z o (es ++ e ∷ [])) (omega (arith, epoch_is (es ++ e ∷ []) next, numbers_next es e x.valid now)) paid late, rows_are z o opening (es ++ e ∷ []));
    }
      where
        now : may_step o (history z o es).world e ≡ true
        now = subst (λ (q : Run). may_step o q.world e ≡ true) (sym x.run_is) may

        next : is_valid z o (es ++ e ∷ []) ≡ true
        next = ok_next z o opening es e x.valid now

    untidied_start : Untidied [] (start z o)
    untidied_start = record {
      valid = valid-nil z o;
      run_is = history-nil z o;
      untidied = λ late. omega (arith, rows_enough (word z (history z o []).world name.Epoch) 0 (all_updates z o []) (omega (arith, epoch_is [] (valid-nil z o), ap (λ (y : Counts). y.numbers) (counts-nil z o))) (omega arith) late, rows_are z o opening []);
    }

    pub untidied_holds : (es : List Event) → is_valid z o es ≡ true → TidyingIsLate z o share (all_updates z o es) → IsUntidied z (history z o es).world
    untidied_holds es ok = (holds_along z o Untidied untidied_on untidied_start es ok).untidied
