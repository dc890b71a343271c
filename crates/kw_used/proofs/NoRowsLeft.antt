-- A seat finds too few rows free only where the updates may have used them all.
use Rattle.std.proofs.Common.{ℕ, ◌≡◌, ◌*◌, ◌<◌, ◌≤◌, true, false, nat_lt, Some, List, [], ◌∷◌, ◌++◌, arith, refl, sym, ◌∙◌, ap, slice_get, length}
use Rattle.std.proofs.Math.Nat.{mul-le-mul_left}
use Rattle.std.proofs.lemmas.Bool.Decides.{nat_tests}
use Rattle.std.proofs.lemmas.Option.{same_Some, slice_get_within}
use Rattle.kw_windows.proofs.Counting.{count_left_out}
use Rattle.kw_world.specs.declared.activity.Activity.{Activity}
use Rattle.kw_world.specs.declared.answer.Answer.TheVariants.{NoRows}
use Rattle.kw_world.specs.declared.event.Choice.TheVariants.{Go}
use Rattle.kw_world.specs.declared.event.Event.{Event}
use Rattle.kw_world.specs.declared.local.Local.{Local}
use Rattle.kw_world.specs.declared.opening.Opening.{Opening}
use Rattle.kw_world.specs.Answers.{reply_of}
use Rattle.kw_world.specs.Opening.{IsOpening}
use Rattle.kw_world.specs.Sizes.{Sizes}
use Rattle.kw_world.specs.Step.{word}
use Rattle.kw_world.specs.WalkTransitions.{offered}
use Rattle.kw_world.specs.WorldView.{WorldView}
use Rattle.kw_core.specs.Events.{event, is_made, is_valid, may_step}
use Rattle.kw_core.specs.History.{called}
use Rattle.kw_core.specs.Run.{history}
use Rattle.kw_core.proofs.Happens.{found_at}
use Rattle.kw_laws.proofs.EndedCalls.{ended_within}
use Rattle.kw_reads.proofs.Keeps.{inv_holds}
use Rattle.kw_counts.specs.Bank.{all_updates, puts_in}
use Rattle.kw_counts.specs.Counts.{Counts, counts, ever_after}
use Rattle.kw_counts.specs.Refusals.{IsBeforeRefusals}
use Rattle.kw_counts.proofs.NoRowsHold.{no_rows_hold}
use Rattle.kw_used.specs.Used.{AreBanked, AreEngaged, HasRoom, IsPriceOf}
use Rattle.kw_used.proofs.BuildsHold.{come, counted_is, happened, ok_next, rows_paid, seats_are}
use Rattle.kw_used.proofs.Calls.{call_ends}

-- an event that may come: a seat that is about to leave goes on
leaves_made : (a : Activity) (l : Local) → l.activity ≡ Activity.Leave NoRows → is_made Go (Some l) ≡ true
leaves_made a l e = rw e refl

leave_may : (o : Opening) (w : WorldView) (t : ℕ) (l : Local) → t < o.seats → slice_get w.locals t ≡ Some l → l.activity ≡ Activity.Leave NoRows → may_step o w (event t Go) ≡ true
unfolding may_step
leave_may o w t l below g e =
    let first : nat_lt t o.seats ≡ true = grind (arith, nat_tests) in
    let second : is_made Go (slice_get w.locals t) ≡ true = ap (is_made Go) g ∙ leaves_made l.activity l e in
    rw (first, second) refl

module _ (z : Sizes) (o : Opening) (opening : IsOpening z o) (es : List Event) (ok : is_valid z o es ≡ true) (t : ℕ) (l : Local) (g : slice_get (history z o es).world.locals t ≡ Some l) (e : l.activity ≡ Activity.Leave NoRows) where
  may : may_step o (history z o es).world (event t Go) ≡ true
  may = leave_may o (history z o es).world t l (omega (arith, slice_get_within (history z o es).world.locals t l g, seats_are z o opening es)) g e

  abbrev k : Local
  k = (come z o opening es (event t Go) ok may).local

  leaves_now : k.activity ≡ Activity.Leave NoRows
  leaves_now = ap (λ (y : Local). y.activity) (same_Some k l (sym (come z o opening es (event t Go) ok may).knows ∙ g)) ∙ e

  -- each row was in use once it has left, and so it was before
  pub all_used : (q : ℕ) → q < o.rows → (counts z o es).ever q ≡ true
  all_used q below = sym same ∙ (no_rows_hold z o opening (es ++ event t Go ∷ []) (ok_next z o opening es (event t Go) ok may)).calls _ _ (ended_within _ _ _ end) end refl q below
    where
      end : (called (history z o (es ++ event t Go ∷ [])).history ((history z o es).seats t).call).end ≡ Some (record { at = length (history z o es).history.log; reply = reply_of NoRows k.pairs })
      end = call_ends z (history z o es) (history z o (es ++ event t Go ∷ [])) t _ k _ k.activity (happened z o opening es (event t Go) ok may) (inv_holds z o opening es ok) NoRows leaves_now

      same : (counts z o (es ++ event t Go ∷ [])).ever q ≡ (counts z o es).ever q
      same = ap (λ (y : Counts). y.ever q) (counted_is z o opening es (event t Go) ok may) ∙ ap (λ b. ever_after b k (found_at z (word z (history z o es).world) k.activity t (offered (history z o es).world.rows Go) k) (counts z o es).ever q) leaves_now

  -- so where the updates leave a row none does so
  pub none_is_short : AreEngaged z o → AreBanked z o → (build share price : ℕ) → IsPriceOf z build share price → HasRoom z o es price → IsBeforeRefusals z (history z o es) → ⊥
  none_is_short engaged banked build share price cost room p =
      let begun : price * puts_in (history z o es).history.calls ≤ price * all_updates z o es = mul-le-mul_left price (banked es ok).begun in
      let paid : o.seats * (price * puts_in (history z o es).history.calls) ≤ o.seats * (price * all_updates z o es) = mul-le-mul_left o.seats begun in
      let x = count_left_out o.rows (counts z o es).ever (omega (arith, rows_paid z o opening engaged build cost.most banked share price cost es ok p, paid, room)) in
      let y : true ≡ false = sym (all_used x.0 x.1) ∙ x.2 in
      cc
