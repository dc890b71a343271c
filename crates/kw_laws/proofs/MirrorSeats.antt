-- What is kept of each seat so that the record mirrors the events: its number, its running call,
-- and its last load of the clock.
use Rattle.std.proofs.Common.{ℕ, ◌≡◌, ◌≢◌, ◌⊎◌, inl, inr, ◌+◌, ◌<◌, ◌==◌, Bool, true, false, if◌then◌else◌, nat_lt, Option, Some, None, List, [], ◌∷◌, ◌++◌, arith, refl, sym, ◌∙◌, ap, subst, length, slice_get, length-append, eq-eqb, ne_eqb}
use Rattle.std.proofs.lemmas.Bool.{cases_eq}
use Rattle.std.proofs.lemmas.Option.{same_Some, slice_get_within}
use Rattle.kw_words.specs.Count.{count_of}
use Rattle.kw_words.specs.declared.kind.Kind.TheVariants as kind
use Rattle.kw_words.specs.declared.layout.Name.TheVariants as name
use Rattle.kw_model.specs.declared.call.Call.{Call}
use Rattle.kw_world.specs.Answers.{reply_of}
use Rattle.kw_world.specs.declared.activity.Activity.{Activity}
use Rattle.kw_world.specs.declared.activity.draw.Draw.TheVariants as Draw
use Rattle.kw_world.specs.declared.activity.rebalance.claim.Claim.TheVariants as Claim
use Rattle.kw_world.specs.declared.activity.rebalance.engage.Engage.TheVariants as Engage
use Rattle.kw_world.specs.declared.activity.rebalance.left.Left.TheVariants as Left
use Rattle.kw_world.specs.declared.activity.look.Look.TheVariants as Look
use Rattle.kw_world.specs.declared.activity.put.Put.TheVariants as Put
use Rattle.kw_world.specs.declared.activity.read.Read.TheVariants as Read
use Rattle.kw_world.specs.declared.activity.rebalance.Rebalance.TheVariants as Rebalance
use Rattle.kw_world.specs.declared.activity.rebalance.replace.Replace.TheVariants as Replace
use Rattle.kw_world.specs.declared.activity.rebalance.seek.Seek.TheVariants as Seek
use Rattle.kw_world.specs.declared.activity.walk.Walk.TheVariants as Walk
use Rattle.kw_world.specs.declared.activity.enter.Enter.TheVariants as Enter
use Rattle.kw_world.specs.declared.activity.rebalance.freeze.Freeze.TheVariants as Freeze
use Rattle.kw_world.specs.declared.activity.rebalance.gather.Gather.TheVariants as Gather
use Rattle.kw_world.specs.declared.activity.insert.Insert.TheVariants as Insert
use Rattle.kw_world.specs.declared.activity.rebalance.write.Write.TheVariants as Write
use Rattle.kw_world.specs.declared.local.Local.{Local}
use Rattle.kw_world.specs.declared.event.Choice.{Choice}
use Rattle.kw_world.specs.declared.event.Choice.TheVariants.{Begin, Go, Guess, Stop}
use Rattle.kw_world.specs.declared.event.Event.{Event}
use Rattle.kw_world.specs.declared.opening.Opening.{Opening}
use Rattle.kw_world.specs.declared.operation.Action.TheVariants.{Load}
use Rattle.kw_world.specs.Sizes.{Sizes}
use Rattle.kw_world.specs.WorldView.{WorldView}
use Rattle.kw_world.specs.Opening.{opened}
use Rattle.kw_world.specs.PutTransitions.{has_room}
use Rattle.kw_world.specs.ListTransitions.{cell_guess, first_operation}
use Rattle.kw_world.specs.WalkTransitions.{offered, start_transition, walk_transition, is_stopped}
use Rattle.kw_world.specs.LeftTransitions.{left_transition}
use Rattle.kw_world.specs.ReplaceTransitions.{before_transition}
use Rattle.kw_world.specs.SeekTransitions.{seek_first_transition}
use Rattle.kw_world.specs.Table.{transition}
use Rattle.kw_world.specs.Step.{word, step, kind_of}
use Rattle.kw_core.specs.Events.{world, walked, event}
use Rattle.kw_core.specs.History.{History, called}
use Rattle.kw_core.specs.declared.history.CallLog.{CallLog}
use Rattle.kw_core.specs.Run.{Run, Origins, seat_after, log_begun, log_gathered, index_gathered, is_at_cell}
use Rattle.kw_core.specs.declared.seat_log.SeatLog.{SeatLog}
use Rattle.kw_core.specs.Stages.{IsBusy, IsStamp, IsHelp, IsUnderway, IsStaying}
use Rattle.kw_core.specs.Words.{Words}
use Rattle.kw_laws.specs.Mirror.{Occurs, Acts, NoLoad, operation, is_begun, begins_by, begun_from, begun}
use Rattle.kw_core.proofs.Happens.{Happens, each_seat, found_at, knows_next, knows_other}
use Rattle.kw_core.proofs.Changes.{made}
use Rattle.kw_core.proofs.Building.{IsBuilding}
use Rattle.kw_core.proofs.BuiltNext.{IsAfterBuilding, built_goes, built_next}
use Rattle.kw_core.proofs.Arrows.{builds, Arrow, NextLook, looks, lists, NextLeftOver, goes_to_left_over, answers, ends_scan, scans_on, asks_of_pin, looks_at_pin}
use Rattle.kw_core.proofs.Arrows.{begins, loads_to_help, loads_clock, sees_stamped, sees_neither, is_gone_by, helps, finds_stamped, finds_other, list_ends, key_above, left_over_gone_by, gathers_left_over, leaves, first_ends}
use Rattle.kw_core.proofs.Arrows.{freezes_last, keeps_no_more, remembers_last, sees_frozen_last, takes_no_more, marks_led, decides}
use Rattle.kw_core.proofs.Grouping.{counted_goes, counted_leads, frozen_goes, frozen_leads, gathered_goes, gathered_leads}
use Rattle.kw_shape.proofs.NextCalls.{cell_call}
use Rattle.kw_shape.proofs.AfterBuilding.{of_pin_goes, look_goes}
use Rattle.kw_core.proofs.Steps.{none_some}
use Rattle.kw_core.proofs.SeatLogs.{either, call_kept, settled_same}
use Rattle.kw_laws.proofs.Occurs.{acts_lasts, occurs_was}
use Rattle.kw_laws.proofs.Over.{CallOver, goes_on, is_ended, call_over, IsCallNow, call_was}
use Rattle.kw_laws.proofs.Mirroring.{Kept, acts_here, kind_here, ended_here}
use Rattle.kw_puts.proofs.BuiltStages.{of_pin_is, pin_look_is}

-- How many calls a seat has begun.

begun_from-append : (z : Sizes) (w : WorldView) (s : ℕ) (xs ys : List Event) → begun_from z w s (xs ++ ys) ≡ begun_from z w s xs + begun_from z (walked z w xs) s ys
unfolding begun_from walked
begun_from-append z w s [] ys = omega arith
begun_from-append z w s (x ∷ xs) ys = let e = begun_from-append z (step z w x).world s xs ys in omega (arith, e)

-- one more event
pub begun-snoc : (z : Sizes) (o : Opening) (s : ℕ) (es : List Event) (e : Event) → begun z o s (es ++ e ∷ []) ≡ begun z o s es + (if begins_by s e (slice_get (world z o es).locals e.seat) then 1 else 0)
unfolding begun begun_from world
begun-snoc z o s es e = let f = begun_from-append z (opened z o) s es (e ∷ []) in omega (arith, f)

-- no event
pub begun-nil : (z : Sizes) (o : Opening) (s : ℕ) → begun z o s [] ≡ 0
unfolding begun begun_from
begun-nil z o s = refl

-- a guess that is not offered begins nothing either
begun_offered : (a : Activity) (rows : ℕ) (choice : Choice) → is_begun a (offered rows choice) ≡ is_begun a choice
begun_offered Activity.Idle rows (Begin call) = refl
begun_offered Activity.Idle rows Go = refl
begun_offered Activity.Idle rows (Guess q) = saw (nat_lt q rows)
  where
    saw : (b : Bool) → is_begun Activity.Idle (if b then Guess q else Go) ≡ false
    saw true = refl
    saw false = refl
begun_offered Activity.Idle rows Stop = refl
begun_offered _ rows choice = refl

-- a seat that builds rows begins no call
built_begins_none : (b : Activity) (choice : Choice) → IsBuilding b → is_begun b choice ≡ false
built_begins_none Activity.Idle choice y = absurd y
built_begins_none _ choice y = refl

-- a seat counts the calls that it begins
arrow_counts : (z : Sizes) (v : Words) (s : ℕ) (choice : Choice) (l : Local) (a : Activity) (k : Local) → Arrow z v s choice l a k → k.number ≡ l.number + (if is_begun a choice then 1 else 0)
arrow_counts z v s choice l a k (builds b next y t) = let x = (built_goes z v choice l b k t).number in rw (built_begins_none b choice y) (omega (arith, x))
arrow_counts z v s choice l a k (begins call e b) = rw e refl
arrow_counts z v s choice l a k (first_ends next e n) = let x = cell_call _ _ n in omega (arith, x.1)
arrow_counts z v s choice l a k (list_ends next e n) = let x = cell_call _ _ n in omega (arith, x.1)
arrow_counts z v s choice l a k (key_above next e n) = let x = cell_call _ _ n in omega (arith, x.1)
arrow_counts z v s choice l a k (left_over_gone_by next e n) = let x = cell_call _ _ n in omega (arith, x.1)
arrow_counts z v s choice l a k (gathers_left_over next n) = let x = cell_call _ _ n in omega (arith, x.1)
arrow_counts z v s choice l a k (remembers_last i c version next e o n) = let x = (frozen_goes _ next n).number in omega (arith, x)
arrow_counts z v s choice l a k (sees_frozen_last i next e o n) = let x = (frozen_goes _ next n).number in omega (arith, x)
arrow_counts z v s choice l a k (freezes_last i next e o n) = let x = (frozen_goes _ next n).number in omega (arith, x)
arrow_counts z v s choice l a k (takes_no_more next e none n) = let x = (gathered_goes z _ next n).number in omega (arith, x)
arrow_counts z v s choice l a k (keeps_no_more next none n) = let x = (gathered_goes z _ next n).number in omega (arith, x)
arrow_counts z v s choice l a k (marks_led count next d n) = let x = (counted_goes _ _ next n).number in omega (arith, x)
arrow_counts z v s choice l a k (decides count m next e n) = let x = (counted_goes _ _ next n).number in omega (arith, x)
arrow_counts z v s choice l a k (asks_of_pin next o n) = let x = (of_pin_goes _ next n).number in omega (arith, x)
arrow_counts z v s choice l a k (looks_at_pin i next n) = let x = (look_goes z _ _ _ next n).number in omega (arith, x)
arrow_counts z v s choice l a k _ = omega arith

-- What an arrow leads to.

next_look : {A : Type 0} (P : Activity → Type 0) (z : Sizes) (j : ℕ) (next : Activity) → NextLook z j next → (P (Activity.Look (Look.Entry j)) → A) → (P (Activity.Read Read.Start) → A) → P next → A
next_look P z j next (looks w) f g p = f p
next_look P z j next (lists w) f g p = g p

next_left_over_busy : (l k : Local) → NextLeftOver l k → IsBusy k.activity
next_left_over_busy l k (goes_to_left_over m w) = tt
next_left_over_busy l k (answers w e) = tt
next_left_over_busy l k (ends_scan w e f) = tt
next_left_over_busy l k (scans_on q w e f g) = tt

next_look_busy : (z : Sizes) (j : ℕ) (next : Activity) → NextLook z j next → IsBusy next
next_look_busy z j next (looks w) = tt
next_look_busy z j next (lists w) = tt

-- nor does what follows the building of rows end a call, or lead to a stamp or to help
after_busy : (b : Activity) → IsAfterBuilding b → IsBusy b
after_busy Activity.Idle x = absurd x
after_busy _ x = tt

after_stamp : {A : Type 0} (b : Activity) → IsAfterBuilding b → IsStamp b ⊎ IsHelp b → A
after_stamp (Activity.Put Put.Stamp) x u = absurd x
after_stamp (Activity.Look Look.Help) x u = absurd x
after_stamp _ x (inl u) = absurd u
after_stamp _ x (inr u) = absurd u

-- a seat that does not leave is in a call afterwards
pub arrow_busy : (z : Sizes) (v : Words) (s : ℕ) (choice : Choice) (l : Local) (a : Activity) (k : Local) → Arrow z v s choice l a k → IsStaying a → IsBusy k.activity
arrow_busy z v s choice l a k (builds b next y t) u = after_busy k.activity (built_next z v choice l b k t)
arrow_busy z v s choice l a k (leaves answer) u = absurd u
arrow_busy z v s choice l a k (sees_stamped i c version next e n) u = next_look_busy z _ next n
arrow_busy z v s choice l a k (sees_neither i next e n) u = next_look_busy z _ next n
arrow_busy z v s choice l a k (is_gone_by next e n) u = next_look_busy z _ next n
arrow_busy z v s choice l a k (helps next e n) u = next_look_busy z _ next n
arrow_busy z v s choice l a k (finds_stamped c version next e n) u = next_look_busy z _ next n
arrow_busy z v s choice l a k (finds_other next e n) u = next_look_busy z _ next n
arrow_busy z v s choice l a k (first_ends next e n) u = next_left_over_busy _ _ n
arrow_busy z v s choice l a k (list_ends next e n) u = next_left_over_busy _ _ n
arrow_busy z v s choice l a k (key_above next e n) u = next_left_over_busy _ _ n
arrow_busy z v s choice l a k (left_over_gone_by next e n) u = next_left_over_busy _ _ n
arrow_busy z v s choice l a k (gathers_left_over next n) u = next_left_over_busy _ _ n
arrow_busy z v s choice l a k (remembers_last i c version next e o n) u = frozen_leads IsBusy tt tt _ next n
arrow_busy z v s choice l a k (sees_frozen_last i next e o n) u = frozen_leads IsBusy tt tt _ next n
arrow_busy z v s choice l a k (freezes_last i next e o n) u = frozen_leads IsBusy tt tt _ next n
arrow_busy z v s choice l a k (takes_no_more next e none n) u = gathered_leads IsBusy tt tt z _ next n
arrow_busy z v s choice l a k (keeps_no_more next none n) u = gathered_leads IsBusy tt tt z _ next n
arrow_busy z v s choice l a k (marks_led count next d n) u = counted_leads IsBusy tt tt _ _ next n
arrow_busy z v s choice l a k (decides count m next e n) u = counted_leads IsBusy tt tt _ _ next n
arrow_busy z v s choice l a k (asks_of_pin next o n) u = of_pin_is IsBusy tt tt tt tt tt tt n
arrow_busy z v s choice l a k (looks_at_pin i next n) u = pin_look_is IsBusy (λ j. tt) tt n
arrow_busy z v s choice l a k _ u = tt

look_stamp : {A : Type 0} (z : Sizes) (j : ℕ) (next : Activity) → NextLook z j next → IsStamp next ⊎ IsHelp next → A
look_stamp z j next (looks w) (inl x) = absurd x
look_stamp z j next (looks w) (inr x) = absurd x
look_stamp z j next (lists w) (inl x) = absurd x
look_stamp z j next (lists w) (inr x) = absurd x

left_over_stamp : {A : Type 0} (l k : Local) → NextLeftOver l k → IsStamp k.activity ⊎ IsHelp k.activity → A
left_over_stamp l k (goes_to_left_over m w) (inl x) = absurd x
left_over_stamp l k (goes_to_left_over m w) (inr x) = absurd x
left_over_stamp l k (answers w e) (inl x) = absurd x
left_over_stamp l k (answers w e) (inr x) = absurd x
left_over_stamp l k (ends_scan w e f) (inl x) = absurd x
left_over_stamp l k (ends_scan w e f) (inr x) = absurd x
left_over_stamp l k (scans_on q w e f g) (inl x) = absurd x
left_over_stamp l k (scans_on q w e f g) (inr x) = absurd x

-- a seat that is to stamp has just loaded its version
arrow_stamp : (z : Sizes) (v : Words) (s : ℕ) (choice : Choice) (l : Local) (a : Activity) (k : Local) → Arrow z v s choice l a k → IsStamp k.activity → (a ≡ Activity.Put Put.Clock) × (k.version ≡ v name.Clock)
arrow_stamp z v s choice l a k (builds b next y t) u = after_stamp k.activity (built_next z v choice l b k t) (inl u)
arrow_stamp z v s choice l a k loads_clock u = (refl, refl)
arrow_stamp z v s choice l a k (sees_stamped i c version next e n) u = look_stamp z _ next n (inl u)
arrow_stamp z v s choice l a k (sees_neither i next e n) u = look_stamp z _ next n (inl u)
arrow_stamp z v s choice l a k (is_gone_by next e n) u = look_stamp z _ next n (inl u)
arrow_stamp z v s choice l a k (helps next e n) u = look_stamp z _ next n (inl u)
arrow_stamp z v s choice l a k (finds_stamped c version next e n) u = look_stamp z _ next n (inl u)
arrow_stamp z v s choice l a k (finds_other next e n) u = look_stamp z _ next n (inl u)
arrow_stamp z v s choice l a k (first_ends next e n) u = left_over_stamp _ _ n (inl u)
arrow_stamp z v s choice l a k (list_ends next e n) u = left_over_stamp _ _ n (inl u)
arrow_stamp z v s choice l a k (key_above next e n) u = left_over_stamp _ _ n (inl u)
arrow_stamp z v s choice l a k (left_over_gone_by next e n) u = left_over_stamp _ _ n (inl u)
arrow_stamp z v s choice l a k (gathers_left_over next n) u = left_over_stamp _ _ n (inl u)
arrow_stamp z v s choice l a k (remembers_last i c version next e o n) u = absurd (frozen_leads (λ b. IsStamp b → ⊥) (λ x. x) (λ x. x) _ next n u)
arrow_stamp z v s choice l a k (sees_frozen_last i next e o n) u = absurd (frozen_leads (λ b. IsStamp b → ⊥) (λ x. x) (λ x. x) _ next n u)
arrow_stamp z v s choice l a k (freezes_last i next e o n) u = absurd (frozen_leads (λ b. IsStamp b → ⊥) (λ x. x) (λ x. x) _ next n u)
arrow_stamp z v s choice l a k (takes_no_more next e none n) u = absurd (gathered_leads (λ b. IsStamp b → ⊥) (λ x. x) (λ x. x) z _ next n u)
arrow_stamp z v s choice l a k (keeps_no_more next none n) u = absurd (gathered_leads (λ b. IsStamp b → ⊥) (λ x. x) (λ x. x) z _ next n u)
arrow_stamp z v s choice l a k (marks_led count next d n) u = absurd (counted_leads (λ b. IsStamp b → ⊥) (λ x. x) (λ x. x) _ _ next n u)
arrow_stamp z v s choice l a k (decides count m next e n) u = absurd (counted_leads (λ b. IsStamp b → ⊥) (λ x. x) (λ x. x) _ _ next n u)
arrow_stamp z v s choice l a k (asks_of_pin next o n) u = absurd (of_pin_is (λ b. IsStamp b → ⊥) (λ x. x) (λ x. x) (λ x. x) (λ x. x) (λ x. x) (λ x. x) n u)
arrow_stamp z v s choice l a k (looks_at_pin i next n) u = absurd (pin_look_is (λ b. IsStamp b → ⊥) (λ j x. x) (λ x. x) n u)
arrow_stamp z v s choice l a k _ u = absurd u

-- so has a seat that is to help
arrow_help : (z : Sizes) (v : Words) (s : ℕ) (choice : Choice) (l : Local) (a : Activity) (k : Local) → Arrow z v s choice l a k → IsHelp k.activity → (a ≡ Activity.Look Look.Clock) × (k.helping ≡ v name.Clock)
arrow_help z v s choice l a k (builds b next y t) u = after_stamp k.activity (built_next z v choice l b k t) (inr u)
arrow_help z v s choice l a k loads_to_help u = (refl, refl)
arrow_help z v s choice l a k (sees_stamped i c version next e n) u = look_stamp z _ next n (inr u)
arrow_help z v s choice l a k (sees_neither i next e n) u = look_stamp z _ next n (inr u)
arrow_help z v s choice l a k (is_gone_by next e n) u = look_stamp z _ next n (inr u)
arrow_help z v s choice l a k (helps next e n) u = look_stamp z _ next n (inr u)
arrow_help z v s choice l a k (finds_stamped c version next e n) u = look_stamp z _ next n (inr u)
arrow_help z v s choice l a k (finds_other next e n) u = look_stamp z _ next n (inr u)
arrow_help z v s choice l a k (first_ends next e n) u = left_over_stamp _ _ n (inr u)
arrow_help z v s choice l a k (list_ends next e n) u = left_over_stamp _ _ n (inr u)
arrow_help z v s choice l a k (key_above next e n) u = left_over_stamp _ _ n (inr u)
arrow_help z v s choice l a k (left_over_gone_by next e n) u = left_over_stamp _ _ n (inr u)
arrow_help z v s choice l a k (gathers_left_over next n) u = left_over_stamp _ _ n (inr u)
arrow_help z v s choice l a k (remembers_last i c version next e o n) u = absurd (frozen_leads (λ b. IsHelp b → ⊥) (λ x. x) (λ x. x) _ next n u)
arrow_help z v s choice l a k (sees_frozen_last i next e o n) u = absurd (frozen_leads (λ b. IsHelp b → ⊥) (λ x. x) (λ x. x) _ next n u)
arrow_help z v s choice l a k (freezes_last i next e o n) u = absurd (frozen_leads (λ b. IsHelp b → ⊥) (λ x. x) (λ x. x) _ next n u)
arrow_help z v s choice l a k (takes_no_more next e none n) u = absurd (gathered_leads (λ b. IsHelp b → ⊥) (λ x. x) (λ x. x) z _ next n u)
arrow_help z v s choice l a k (keeps_no_more next none n) u = absurd (gathered_leads (λ b. IsHelp b → ⊥) (λ x. x) (λ x. x) z _ next n u)
arrow_help z v s choice l a k (marks_led count next d n) u = absurd (counted_leads (λ b. IsHelp b → ⊥) (λ x. x) (λ x. x) _ _ next n u)
arrow_help z v s choice l a k (decides count m next e n) u = absurd (counted_leads (λ b. IsHelp b → ⊥) (λ x. x) (λ x. x) _ _ next n u)
arrow_help z v s choice l a k (asks_of_pin next o n) u = absurd (of_pin_is (λ b. IsHelp b → ⊥) (λ x. x) (λ x. x) (λ x. x) (λ x. x) (λ x. x) (λ x. x) n u)
arrow_help z v s choice l a k (looks_at_pin i next n) u = absurd (pin_look_is (λ b. IsHelp b → ⊥) (λ j x. x) (λ x. x) n u)
arrow_help z v s choice l a k _ u = absurd u

-- Where a seat loaded the clock last.

-- the event loads no clock and leaves this, or it is set to now
abbrev LoadedOver : Sizes → ℕ → Choice → Local → ℕ → Activity → SeatLog → Origins → History → ℕ → Activity → Type 0
LoadedOver z s choice l found next g o h settled a = ((seat_after z a choice l found next g o h settled).loaded ≡ g.loaded) × ((transition z a s choice l).operation.kind ≢ kind.LoadClock) ⊎ ((seat_after z a choice l found next g o h settled).loaded ≡ length h.log)

-- the first event of a walk along a list loads no clock
first_no_clock : (l : Local) (g : Option ℕ) → (first_operation g l).kind ≢ kind.LoadClock
first_no_clock l (Some cell) e = cc
first_no_clock l None e = cc

loaded_over : (z : Sizes) (s : ℕ) (choice : Choice) (l : Local) (found : ℕ) (next : Activity) (g : SeatLog) (o : Origins) (h : History) (settled : ℕ) (a : Activity) → LoadedOver z s choice l found next g o h settled a
loaded_over z s choice l found next g o h settled Activity.Idle = inl (begun choice, λ e. cc)
  where
    begun : (c : Choice) → (log_begun c (length h.calls) g).loaded ≡ g.loaded
    begun (Begin call) = refl
    begun Go = refl
    begun (Guess q) = refl
    begun Stop = refl
loaded_over z s choice l found next g o h settled (Activity.Draw Draw.Clock) = inr refl
loaded_over z s choice l found next g o h settled (Activity.Look Look.Clock) = inr refl
loaded_over z s choice l found next g o h settled (Activity.Put Put.Clock) = inr refl
loaded_over z s choice l found next g o h settled (Activity.Walk Walk.Start) = inl (refl, starts choice)
  where
    starts : (c : Choice) → (start_transition c l).operation.kind ≢ kind.LoadClock
    starts (Begin call) e = cc
    starts Go e = cc
    starts (Guess q) e = cc
    starts Stop e = cc
loaded_over z s choice l found next g o h settled (Activity.Walk Walk.Next) = inl (refl, walks (is_stopped choice l))
  where
    walks : (b : Bool) → (walk_transition b s l).operation.kind ≢ kind.LoadClock
    walks true e = cc
    walks false e = cc
loaded_over z s choice l found next g o h settled (Activity.Look (Look.Entry i)) = inl (either (λ (q : SeatLog). q.loaded) (i == 0) (record g { looked = length h.log; ids = []; read = None }) g g.loaded refl refl, λ e. cc)
loaded_over z s choice l found next g o h settled (Activity.Read Read.Start) = inl (either (λ (q : SeatLog). q.loaded) (is_at_cell next) g (record g { read = Some l.row }) g.loaded refl refl, first_no_clock l (cell_guess choice l))
loaded_over z s choice l found next g o h settled (Activity.Insert Insert.Start) = inl (refl, first_no_clock l (cell_guess choice l))
loaded_over z s choice l found next g o h settled (Activity.Read Read.Link) = inl (either (λ (q : SeatLog). q.loaded) (is_at_cell next) g (record g { read = Some l.row }) g.loaded refl refl, λ e. cc)
loaded_over z s choice l found next g o h settled (Activity.Read Read.Key) = inl (either (λ (q : SeatLog). q.loaded) (is_at_cell next) g (record g { read = Some l.row }) g.loaded refl refl, λ e. cc)
loaded_over z s choice l found next g o h settled (Activity.Read Read.LeftOverKey) = inl (either (λ (q : SeatLog). q.loaded) (is_at_cell next) g (record g { read = Some l.row }) g.loaded refl refl, λ e. cc)
loaded_over z s choice l found next g o h settled (Activity.Read Read.LeftOverValue) = let k = log_gathered (o l.row l.place) (index_gathered l found) g in inl (either (λ (q : SeatLog). q.loaded) (is_at_cell next) k (record k { read = Some l.row }) g.loaded refl refl, λ e. cc)
loaded_over z s choice l found next g o h settled (Activity.Put Put.Add) = inl (either (λ (q : SeatLog). q.loaded) (has_room z (count_of found)) (record g { own = length h.attempts }) g g.loaded refl refl, λ e. cc)
loaded_over z s choice l found next g o h settled (Activity.Draw Draw.Settle) = inl (settled_same (λ (q : SeatLog). q.loaded) l.waiting found settled g refl, λ e. cc)
loaded_over z s choice l found next g o h settled (Activity.Rebalance (Rebalance.Engage Engage.Clock)) = inr refl
loaded_over z s choice l found next g o h settled (Activity.Rebalance (Rebalance.Seek Seek.First)) = inl (refl, seeks choice)
  where
    seeks : (c : Choice) → (seek_first_transition c l).operation.kind ≢ kind.LoadClock
    seeks (Begin call) e = cc
    seeks Go e = cc
    seeks (Guess q) e = cc
    seeks Stop e = cc
loaded_over z s choice l found next g o h settled (Activity.Rebalance (Rebalance.Replace Replace.Start)) = inl (refl, befores choice)
  where
    befores : (c : Choice) → (before_transition c l).operation.kind ≢ kind.LoadClock
    befores (Begin call) e = cc
    befores Go e = cc
    befores (Guess q) e = cc
    befores Stop e = cc
loaded_over z s choice l found next g o h settled (Activity.Rebalance (Rebalance.Left Left.Start)) = inl (refl, lefts choice)
  where
    lefts : (c : Choice) → (left_transition c l).operation.kind ≢ kind.LoadClock
    lefts (Begin call) e = cc
    lefts Go e = cc
    lefts (Guess q) e = cc
    lefts Stop e = cc
loaded_over z s choice l found next g o h settled (Activity.Enter Enter.Announce) = inl (refl, λ e. cc)
loaded_over z s choice l found next g o h settled (Activity.Insert Insert.Link) = inl (refl, λ e. cc)
loaded_over z s choice l found next g o h settled (Activity.Rebalance (Rebalance.Claim Claim.Count)) = inl (refl, λ e. cc)
loaded_over z s choice l found next g o h settled (Activity.Rebalance (Rebalance.Freeze Freeze.Count)) = inl (refl, λ e. cc)
loaded_over z s choice l found next g o h settled (Activity.Rebalance (Rebalance.Gather Gather.Link)) = inl (refl, λ e. cc)
loaded_over z s choice l found next g o h settled (Activity.Rebalance (Rebalance.Write Write.Count)) = inl (refl, λ e. cc)
loaded_over z s choice l found next g o h settled a = inl (refl, λ e. cc)

-- One more event.

module _ (z : Sizes) (o : Opening) (es : List Event) (e : Event) (r r' : Run) (l l' : Local) (a : Activity) (h : Happens z r r' e.seat (offered r.world.rows e.choice) l l' a) (k : Kept z o es r) where
  knows_acting : slice_get (world z o es).locals e.seat ≡ Some l
  knows_acting = subst (λ (w : WorldView). slice_get w.locals e.seat ≡ Some l) (sym k.world) h.knows

  -- the acting seat's number
  number_own : l'.number ≡ begun z o e.seat (es ++ e ∷ [])
  number_own =
      let x : is_begun a (offered r.world.rows e.choice) ≡ is_begun l.activity e.choice = begun_offered a r.world.rows e.choice ∙ ap (λ b. is_begun b e.choice) (sym h.activity) in
      let y : l'.number ≡ l.number + (if is_begun l.activity e.choice then 1 else 0) = subst (λ b. l'.number ≡ l.number + (if b then 1 else 0)) x (arrow_counts z (word z r.world) e.seat (offered r.world.rows e.choice) l a l' h.arrow) in
      let u : begins_by e.seat e (slice_get (world z o es).locals e.seat) ≡ is_begun l.activity e.choice = rw (knows_acting, eq-eqb e.seat e.seat refl) refl in
      y ∙ ap (λ n. n + (if is_begun l.activity e.choice then 1 else 0)) (k.numbers e.seat l h.knows) ∙ sym (begun-snoc z o e.seat es e ∙ ap (λ b. begun z o e.seat es + (if b then 1 else 0)) u)

  -- a seat that begins a call is one further
  pub number_begun : (call : Call) → a ≡ Activity.Idle → offered r.world.rows e.choice ≡ Begin call → l.number + 1 ≡ begun z o e.seat (es ++ e ∷ [])
  number_begun call is chosen =
      let x : is_begun a (offered r.world.rows e.choice) ≡ true = rw (is, chosen) refl in
      sym (subst (λ b. l'.number ≡ l.number + (if b then 1 else 0)) x (arrow_counts z (word z r.world) e.seat (offered r.world.rows e.choice) l a l' h.arrow)) ∙ number_own

  -- another seat's
  number_other : (t : ℕ) (m : Local) → t ≢ e.seat → slice_get r.world.locals t ≡ Some m → m.number ≡ begun z o t (es ++ e ∷ [])
  number_other t m d g =
      let u : begins_by t e (slice_get (world z o es).locals e.seat) ≡ false = rw (knows_acting, ne_eqb e.seat t (λ x. d (sym x))) refl in
      let f : begun z o t (es ++ e ∷ []) ≡ begun z o t es + 0 = begun-snoc z o t es e ∙ ap (λ b. begun z o t es + (if b then 1 else 0)) u in
      omega (arith, f, k.numbers t m g)

  pub numbers_keep : (t : ℕ) (m : Local) → slice_get r'.world.locals t ≡ Some m → m.number ≡ begun z o t (es ++ e ∷ [])
  numbers_keep = each_seat h (λ t m. m.number ≡ begun z o t (es ++ e ∷ [])) number_own number_other

  -- Loads of the clock.

  -- the acting seat's last load
  loads_own : NoLoad z o (es ++ e ∷ []) e.seat (r'.seats e.seat).loaded (length (es ++ e ∷ []))
  loads_own u w choice f g t c = which (loaded_over z e.seat (offered r.world.rows e.choice) l (found_at z (word z r.world) a e.seat (offered r.world.rows e.choice) l) l'.activity (r.seats e.seat) r.origin r.history (r.settled e.seat) a)
    where
      which : LoadedOver z e.seat (offered r.world.rows e.choice) l (found_at z (word z r.world) a e.seat (offered r.world.rows e.choice) l) l'.activity (r.seats e.seat) r.origin r.history (r.settled e.seat) a → ⊥
      which (inl x) = was (occurs_was z o es e u w (event e.seat choice) t)
        where
          same : (r'.seats e.seat).loaded ≡ (r.seats e.seat).loaded
          same = ap (λ (q : SeatLog). q.loaded) h.log ∙ x.0

          was : Occurs z o es u w (event e.seat choice) ⊎ ((u ≡ length es) × (e ≡ event e.seat choice) × (world z o es ≡ w)) → ⊥
          was (inl y) = k.loads e.seat u w choice (omega (arith, f, same)) (slice_get_within es u (event e.seat choice) y.stands) y c
          was (inr y) = x.1 (same_Some _ _ (sym (kind_here z o es e r r' l l' a h k) ∙ subst (λ d. kind_of z r.world d ≡ Some kind.LoadClock) (sym y.1) (subst (λ d. kind_of z d (event e.seat choice) ≡ Some kind.LoadClock) (sym y.2 ∙ k.world) c)))
      which (inr x) = omega (arith, f, g, ap (λ (q : SeatLog). q.loaded) h.log, x, k.mirrors.events, length-append es (e ∷ []))

  -- another seat's
  loads_other : (t : ℕ) → t ≢ e.seat → NoLoad z o (es ++ e ∷ []) t (r'.seats t).loaded (length (es ++ e ∷ []))
  loads_other t d u w choice f g y c = was (occurs_was z o es e u w (event t choice) y)
    where
      was : Occurs z o es u w (event t choice) ⊎ ((u ≡ length es) × (e ≡ event t choice) × (world z o es ≡ w)) → ⊥
      was (inl x) = k.loads t u w choice (omega (arith, f, ap (λ (q : SeatLog). q.loaded) (h.logs t d))) (slice_get_within es u (event t choice) x.stands) x c
      was (inr x) = d (sym (ap (λ (q : Event). q.seat) x.1))

  pub loads_keep : (t : ℕ) → NoLoad z o (es ++ e ∷ []) t (r'.seats t).loaded (length (es ++ e ∷ []))
  loads_keep t = which (cases_eq t e.seat)
    where
      which : (t ≡ e.seat) ⊎ (t ≡ e.seat → ⊥) → NoLoad z o (es ++ e ∷ []) t (r'.seats t).loaded (length (es ++ e ∷ []))
      which (inl i) = subst (λ q. NoLoad z o (es ++ e ∷ []) q (r'.seats q).loaded (length (es ++ e ∷ []))) (sym i) loads_own
      which (inr d) = loads_other t d

  -- a seat that is to stamp
  stamp_own : IsStamp l'.activity → Acts z o (es ++ e ∷ []) (r'.seats e.seat).loaded e.seat (Activity.Put Put.Clock) (operation kind.LoadClock name.Clock Load) l'.version
  stamp_own u =
      let x = arrow_stamp z (word z r.world) e.seat (offered r.world.rows e.choice) l a l' h.arrow u in
      let y : (r'.seats e.seat).loaded ≡ length r.history.log = ap (λ (q : SeatLog). q.loaded) (subst (λ b. r'.seats e.seat ≡ seat_after z b (offered r.world.rows e.choice) l (found_at z (word z r.world) a e.seat (offered r.world.rows e.choice) l) l'.activity (r.seats e.seat) r.origin r.history (r.settled e.seat)) x.0 h.log) in
      subst (λ q. Acts z o (es ++ e ∷ []) q e.seat (Activity.Put Put.Clock) (operation kind.LoadClock name.Clock Load) l'.version) (sym y)
      (acts_here z o es e r r' l l' a h k (Activity.Put Put.Clock) _ l'.version x.0 refl (sym x.1))

  pub stamp_keeps : (t : ℕ) (m : Local) → slice_get r'.world.locals t ≡ Some m → IsStamp m.activity → Acts z o (es ++ e ∷ []) (r'.seats t).loaded t (Activity.Put Put.Clock) (operation kind.LoadClock name.Clock Load) m.version
  stamp_keeps = each_seat h (λ t m. IsStamp m.activity → Acts z o (es ++ e ∷ []) (r'.seats t).loaded t (Activity.Put Put.Clock) (operation kind.LoadClock name.Clock Load) m.version) stamp_own
      (λ t m d g u. subst (λ (q : SeatLog). Acts z o (es ++ e ∷ []) q.loaded t (Activity.Put Put.Clock) (operation kind.LoadClock name.Clock Load) m.version) (sym (h.logs t d)) (acts_lasts z o es e _ t (Activity.Put Put.Clock) _ m.version (k.stamp t m g u)))

  -- a seat that is to help
  help_own : IsHelp l'.activity → Acts z o (es ++ e ∷ []) (r'.seats e.seat).loaded e.seat (Activity.Look Look.Clock) (operation kind.LoadClock name.Clock Load) l'.helping
  help_own u =
      let x = arrow_help z (word z r.world) e.seat (offered r.world.rows e.choice) l a l' h.arrow u in
      let y : (r'.seats e.seat).loaded ≡ length r.history.log = ap (λ (q : SeatLog). q.loaded) (subst (λ b. r'.seats e.seat ≡ seat_after z b (offered r.world.rows e.choice) l (found_at z (word z r.world) a e.seat (offered r.world.rows e.choice) l) l'.activity (r.seats e.seat) r.origin r.history (r.settled e.seat)) x.0 h.log) in
      subst (λ q. Acts z o (es ++ e ∷ []) q e.seat (Activity.Look Look.Clock) (operation kind.LoadClock name.Clock Load) l'.helping) (sym y)
      (acts_here z o es e r r' l l' a h k (Activity.Look Look.Clock) _ l'.helping x.0 refl (sym x.1))

  pub help_keeps : (t : ℕ) (m : Local) → slice_get r'.world.locals t ≡ Some m → IsHelp m.activity → Acts z o (es ++ e ∷ []) (r'.seats t).loaded t (Activity.Look Look.Clock) (operation kind.LoadClock name.Clock Load) m.helping
  help_keeps = each_seat h (λ t m. IsHelp m.activity → Acts z o (es ++ e ∷ []) (r'.seats t).loaded t (Activity.Look Look.Clock) (operation kind.LoadClock name.Clock Load) m.helping) help_own
      (λ t m d g u. subst (λ (q : SeatLog). Acts z o (es ++ e ∷ []) q.loaded t (Activity.Look Look.Clock) (operation kind.LoadClock name.Clock Load) m.helping) (sym (h.logs t d)) (acts_lasts z o es e _ t (Activity.Look Look.Clock) _ m.helping (k.help t m g u)))

  -- Calls that run.

  -- the acting seat was in a call, and does not leave it, where the call runs on
  stays : (x : ℕ) → x < length r.history.calls → (called r'.history x).end ≡ None → IsBusy l.activity → (r.seats e.seat).call ≡ x → IsUnderway a × IsStaying a
  stays x w n b c = which a refl
    where
      which : (b : Activity) → a ≡ b → IsUnderway b × IsStaying b
      which Activity.Idle i = absurd (subst IsBusy (h.activity ∙ i) b)
      which (Activity.Leave answer) i =
          let f = ended_here z o es e r r' l l' a h k answer i (subst (λ q. q < length r.history.calls) (sym c) w) in
          absurd (none_some (called r'.history x).end _ n (subst (λ q. (called r'.history q).end ≡ Some (record { at = length r.history.log; reply = reply_of answer l.pairs })) c f))
      which b i = (tt, tt)

  pub running_keeps : (x t : ℕ) (m : Local) → x < length r'.history.calls → (called r'.history x).end ≡ None → (called r'.history x).seat ≡ t → slice_get r'.world.locals t ≡ Some m → IsBusy m.activity × ((r'.seats t).call ≡ x)
  running_keeps x t m w n s g = saw (call_was r.history r'.history _ z (word z r.world) e.seat (offered r.world.rows e.choice) l (r.seats e.seat) r.origin a _ (made z (word z r.world) e.seat (offered r.world.rows e.choice) l (r.seats e.seat) r.origin a) h.history x w)
    where
      own : (x : ℕ) → IsBusy l'.activity → (r'.seats e.seat).call ≡ x → t ≡ e.seat → IsBusy m.activity × ((r'.seats t).call ≡ x)
      own x b c i =
          let f : Some l' ≡ Some m = sym (knows_next h) ∙ subst (λ q. slice_get r'.world.locals q ≡ Some m) i g in
          (subst (λ (q : Local). IsBusy q.activity) (same_Some l' m f) b, ap (λ q. (r'.seats q).call) i ∙ c)

      -- a call that was there
      old : (v : x < length r.history.calls) → CallOver r.history r'.history l (r.seats e.seat) a x → IsBusy m.activity × ((r'.seats t).call ≡ x)
      old v (is_ended answer i c f) = absurd (none_some (called r'.history x).end (record { at = length r.history.log; reply = reply_of answer l.pairs }) n (ap (λ (q : CallLog). q.end) f))
      old v (goes_on c) = which (cases_eq t e.seat)
        where
          which : (t ≡ e.seat) ⊎ (t ≡ e.seat → ⊥) → IsBusy m.activity × ((r'.seats t).call ≡ x)
          which (inl i) =
              let y = k.running x e.seat l v (sym c.end ∙ n) (sym c.seat ∙ s ∙ i) h.knows in
              let u = stays x v n y.0 y.1 in
              own x (arrow_busy z (word z r.world) e.seat (offered r.world.rows e.choice) l a l' h.arrow u.1)
              (ap (λ (q : SeatLog). q.call) h.log ∙ call_kept z (offered r.world.rows e.choice) l (found_at z (word z r.world) a e.seat (offered r.world.rows e.choice) l) l'.activity (r.seats e.seat) r.origin r.history (r.settled e.seat) a u.0 ∙ y.1) i
          which (inr d) =
              let y = k.running x t m v (sym c.end ∙ n) (sym c.seat ∙ s) (sym (knows_other h t d) ∙ g) in
              (y.0, ap (λ (q : SeatLog). q.call) (h.logs t d) ∙ y.1)

      -- a call that begins
      begun_now : IsCallNow r.history r'.history e.seat (offered r.world.rows e.choice) l a x → IsBusy m.activity × ((r'.seats t).call ≡ x)
      begun_now y =
          let f = subst (λ b. r'.seats e.seat ≡ seat_after z b (offered r.world.rows e.choice) l (found_at z (word z r.world) a e.seat (offered r.world.rows e.choice) l) l'.activity (r.seats e.seat) r.origin r.history (r.settled e.seat)) y.idle h.log in
          let c = subst (λ b. r'.seats e.seat ≡ log_begun b (length r.history.calls) (r.seats e.seat)) y.begins f in
          own x (arrow_busy z (word z r.world) e.seat (offered r.world.rows e.choice) l a l' h.arrow (subst IsStaying (sym y.idle) tt)) (ap (λ (q : SeatLog). q.call) c ∙ sym y.place) (sym s ∙ ap (λ (q : CallLog). q.seat) y.is)

      saw : (x < length r.history.calls) ⊎ IsCallNow r.history r'.history e.seat (offered r.world.rows e.choice) l a x → IsBusy m.activity × ((r'.seats t).call ≡ x)
      saw (inl v) = old v (call_over r.history r'.history _ z (word z r.world) e.seat (offered r.world.rows e.choice) l (r.seats e.seat) r.origin a _ (made z (word z r.world) e.seat (offered r.world.rows e.choice) l (r.seats e.seat) r.origin a) h.history x v)
      saw (inr y) = begun_now y
