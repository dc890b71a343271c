-- A call that found no version or no number left found the clock or the epoch at its bound, in a
-- world after fewer events; and these had gone on by the scans that were begun, and by the rows
-- that were replaced.
use Rattle.std.proofs.Common.{ℕ, ◌≡◌, ◌⊎◌, inl, inr, ◌+◌, ◌*◌, ◌≤◌, Bool, true, false, Option, None, Some, List, [], ◌∷◌, ◌++◌, take, drop, arith, refl, sym, ◌∙◌, ap, subst, slice_get}
use Rattle.std.proofs.Math.Nat.{mul_comm, mul-le-mul_right}
use Rattle.std.proofs.lemmas.List.{take-append-drop}
use Rattle.kw_words.specs.declared.layout.Name.TheVariants as name
use Rattle.kw_words.specs.declared.sizes.TheConstants.{MOST_GROUP}
use Rattle.kw_windows.proofs.Summing.{sum_grows}
use Rattle.kw_model.specs.declared.call.Call.{Call}
use Rattle.kw_model.specs.declared.call.Call.TheVariants.{Del, Put, Scan, Pin}
use Rattle.kw_world.specs.declared.activity.Activity.{Activity}
use Rattle.kw_world.specs.declared.activity.draw.Draw.TheVariants as Draw
use Rattle.kw_world.specs.declared.activity.rebalance.engage.Engage.TheVariants as Engage
use Rattle.kw_world.specs.declared.activity.rebalance.Rebalance.TheVariants as Rebalance
use Rattle.kw_world.specs.declared.event.Event.{Event}
use Rattle.kw_world.specs.declared.local.Local.{Local}
use Rattle.kw_world.specs.declared.opening.Opening.{Opening}
use Rattle.kw_world.specs.declared.operation.Operation.{Operation}
use Rattle.kw_world.specs.Opening.{IsOpening}
use Rattle.kw_world.specs.Sizes.{Sizes}
use Rattle.kw_world.specs.Step.{is_skipped, word}
use Rattle.kw_world.specs.WorldView.{WorldView}
use Rattle.kw_core.specs.Events.{is_valid, world}
use Rattle.kw_core.specs.History.{called}
use Rattle.kw_core.specs.Run.{Run, found_by, goes_on, history, run, start}
use Rattle.kw_core.proofs.Events.{valid_front}
use Rattle.kw_laws.specs.Causes.{IsAsking, IsSpentBy}
use Rattle.kw_laws.specs.Clocks.{IsScan}
use Rattle.kw_laws.specs.SeatCalls.{AreStill, CallSeen}
use Rattle.kw_laws.proofs.CausesHold.{causes_hold}
use Rattle.kw_laws.proofs.SeatCalls.{calls_last}
use Rattle.kw_counts.specs.Counts.{Counts, counted, counts, counts_on, counts_on_of, no_counts}
use Rattle.kw_counts.specs.Draws.{all_scans, scan_one, scans_by, scans_in}
use Rattle.kw_counts.specs.Spent.{KeepsSpent, MayEndClock, MayEndEpoch}
use Rattle.kw_counts.proofs.CountsHold.{numbers_hold, scans_hold}
use Rattle.kw_counts.proofs.NumbersKeep.{wins_grow}

-- More events.

-- the calls that a longer list has are as many scans, or more
scans_still : (cs ds : List CallSeen) → AreStill cs ds → scans_in cs ≤ scans_in ds
scans_still [] ds x = omega arith
scans_still (c ∷ cs) [] x = absurd x
scans_still (c ∷ cs) (d ∷ ds) x = omega (arith, ap scan_one x.0.call, scans_still cs ds x.1)

scans_grow : (z : Sizes) (o : Opening) → IsOpening z o → (xs ys : List Event) → is_valid z o (xs ++ ys) ≡ true → all_scans z o xs ≤ all_scans z o (xs ++ ys)
scans_grow z o opening xs ys ok = sum_grows z.seats (scans_by z o xs) (scans_by z o (xs ++ ys)) (λ t w. scans_still _ _ (calls_last z o t xs ys opening ok))

-- as many rows were replaced after more events, or more
one_wins : (z : Sizes) (r : Run) (e : Event) (c : Counts) → c.wins ≤ (counts_on z r e c).wins
unfolding counts_on
one_wins z r e c = which (slice_get r.world.locals e.seat)
  where
    here : (l : Local) (b : Bool) → is_skipped l.activity e.choice ≡ b → c.wins ≤ (counts_on_of z r e (Some l) c).wins
    here l true f = rw f (omega arith)
    here l false f = rw f (wins_grow l.activity l (found_by z r.world e l) c.wins)

    which : (x : Option Local) → c.wins ≤ (counts_on_of z r e x c).wins
    which (Some l) = here l (is_skipped l.activity e.choice) refl
    which None = omega arith

wins_along : (z : Sizes) (r : Run) (es : List Event) (c : Counts) → c.wins ≤ (counted z r es c).wins
unfolding counted
wins_along z r [] c = omega arith
wins_along z r (e ∷ es) c = omega (arith, one_wins z r e c, wins_along z (goes_on z r e) es (counts_on z r e c))

pub counted-append : (z : Sizes) (r : Run) (xs ys : List Event) (c : Counts) → counted z r (xs ++ ys) c ≡ counted z (run z r xs) ys (counted z r xs c)
unfolding counted run
counted-append z r [] ys c = refl
counted-append z r (x ∷ xs) ys c = counted-append z (goes_on z r x) xs ys (counts_on z r x c)

wins_front : (z : Sizes) (o : Opening) (xs ys : List Event) → (counts z o xs).wins ≤ (counts z o (xs ++ ys)).wins
unfolding counts
wins_front z o xs ys = omega (arith, ap (λ (c : Counts). c.wins) (counted-append z (start z o) xs ys no_counts), wins_along z (run z (start z o) xs) ys (counted z (start z o) xs no_counts))

-- What was asked.

-- a scan asks the clock alone, and any other call the clock or the epoch
asks_what : (call : Call) (a : Activity) (op : Operation) → IsAsking call a op → (op.name ≡ name.Clock) ⊎ ((op.name ≡ name.Epoch) × (IsScan call → ⊥))
asks_what (Scan from upto) (Activity.Draw Draw.Clock) op e = inl (ap (λ (q : Operation). q.name) e)
asks_what Pin (Activity.Draw Draw.Clock) op e = inl (ap (λ (q : Operation). q.name) e)
asks_what (Put key value) (Activity.Rebalance (Rebalance.Engage Engage.Clock)) op e = inl (ap (λ (q : Operation). q.name) e)
asks_what (Put key value) (Activity.Rebalance (Rebalance.Engage Engage.Epoch)) op e = inr (ap (λ (q : Operation). q.name) e, λ y. y)
asks_what (Del key) (Activity.Rebalance (Rebalance.Engage Engage.Clock)) op e = inl (ap (λ (q : Operation). q.name) e)
asks_what (Del key) (Activity.Rebalance (Rebalance.Engage Engage.Epoch)) op e = inr (ap (λ (q : Operation). q.name) e, λ y. y)
asks_what _ _ op e = absurd e

module _ (z : Sizes) (o : Opening) (opening : IsOpening z o) (es : List Event) (ok : is_valid z o es ≡ true) where
  -- the events before a position
  whole : (x : ℕ) → is_valid z o (take x es ++ drop x es) ≡ true
  whole x = subst (λ q. is_valid z o q ≡ true) (sym (take-append-drop x es)) ok

  front : (x : ℕ) → is_valid z o (take x es) ≡ true
  front x = valid_front z o (take x es) (drop x es) (whole x)

  clock_most : (x : ℕ) → word z (world z o (take x es)) name.Clock ≤ o.clock + z.seats * all_scans z o es
  clock_most x =
      let more : all_scans z o (take x es) ≤ all_scans z o es = subst (λ q. all_scans z o (take x es) ≤ all_scans z o q) (take-append-drop x es) (scans_grow z o opening (take x es) (drop x es) (whole x)) in
      let times : all_scans z o (take x es) * z.seats ≤ all_scans z o es * z.seats = mul-le-mul_right z.seats more in
      omega (arith, (scans_hold z o opening (take x es) (front x)).clock, times, mul_comm z.seats (all_scans z o (take x es)), mul_comm z.seats (all_scans z o es))

  epoch_most : (x : ℕ) → word z (world z o (take x es)) name.Epoch ≤ o.epoch + MOST_GROUP * (counts z o es).wins
  epoch_most x =
      let k = numbers_hold z o opening (take x es) (front x) in
      let more : (counts z o (take x es)).wins ≤ (counts z o es).wins = subst (λ q. (counts z o (take x es)).wins ≤ (counts z o q).wins) (take-append-drop x es) (wins_front z o (take x es) (drop x es)) in
      omega (arith, k.epoch, k.paid, more)

  -- what was found there
  spent_by : (call : Call) (s first last : ℕ) → IsSpentBy z o es call s first last → MayEndClock z o es ⊎ (MayEndEpoch o (counts z o es) × (IsScan call → ⊥))
  spent_by call s first last i = which (asks_what call i.activity i.op i.asks)
    where
      found : word z (world z o (take i.at es)) i.op.name ≡ i.found
      found = ap (λ (w : WorldView). word z w i.op.name) i.acts.occurs.before ∙ i.acts.finds

      which : (i.op.name ≡ name.Clock) ⊎ ((i.op.name ≡ name.Epoch) × (IsScan call → ⊥)) → MayEndClock z o es ⊎ (MayEndEpoch o (counts z o es) × (IsScan call → ⊥))
      which (inl e) = inl (omega (arith, i.spent, found, ap (word z (world z o (take i.at es))) e, clock_most i.at))
      which (inr e) = inr (omega (arith, i.spent, found, ap (word z (world z o (take i.at es))) e.0, epoch_most i.at), e.1)

  pub spent_holds : KeepsSpent z o es (counts z o es) (history z o es).history
  spent_holds = record {
    scans = λ x e w scan f g. of_scan (called (history z o es).history x).call scan (spent_by _ _ _ _ ((causes_hold z o opening es ok).spent x e w f g));
    calls = λ x e w f g. of_call (called (history z o es).history x).call (spent_by _ _ _ _ ((causes_hold z o opening es ok).spent x e w f g));
  }
    where
      of_scan : (call : Call) → IsScan call → MayEndClock z o es ⊎ (MayEndEpoch o (counts z o es) × (IsScan call → ⊥)) → MayEndClock z o es
      of_scan call scan (inl m) = m
      of_scan call scan (inr m) = absurd (m.1 scan)

      of_call : (call : Call) → MayEndClock z o es ⊎ (MayEndEpoch o (counts z o es) × (IsScan call → ⊥)) → MayEndClock z o es ⊎ MayEndEpoch o (counts z o es)
      of_call call (inl m) = inl m
      of_call call (inr m) = inr m.0
