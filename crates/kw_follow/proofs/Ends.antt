-- How a call begins and ends, and how a scan is over: what follows for the seat and for code.
use Rattle.std.proofs.Common.{ℕ, ◌≡◌, ◌+◌, Bool, true, false, Some, None, [], nat_lt, if◌then◌else◌, refl, sym, ◌∙◌, ap}
use Rattle.kw_model.specs.declared.call.Call.{Call}
use Rattle.kw_world.specs.declared.answer.Answer.{Answer}
use Rattle.kw_world.specs.Answers.{reply_of}
use Rattle.kw_world.specs.declared.activity.Activity.TheVariants as Activity
use Rattle.kw_world.specs.declared.activity.enter.Enter.TheVariants as Enter
use Rattle.kw_world.specs.declared.event.Choice.{Choice}
use Rattle.kw_world.specs.declared.event.Choice.TheVariants.{Begin, Go, Guess, Stop}
use Rattle.kw_world.specs.declared.event.StepDone.{StepDone}
use Rattle.kw_world.specs.declared.event.StepDone.TheVariants.{Ended}
use Rattle.kw_world.specs.declared.local.Local.{Local}
use Rattle.kw_world.specs.Local.{resting, at_rest}
use Rattle.kw_world.specs.Transition.{Outcome, outcome}
use Rattle.kw_world.specs.ScanTransitions.{answer_or_stopped}
use Rattle.kw_world.specs.WalkTransitions.{offered}
use Rattle.kw_world.specs.Sizes.{product}
use Rattle.kw_world.specs.Step.{next_of, transition_of}
use Rattle.kw_world.specs.Table.{transition}
use Rattle.kw_table.specs.declared.pass.Pass.{Pass}
use Rattle.kw_table.specs.declared.shared.Shared.{Shared}
use Rattle.kw_table.specs.Passes.{view, Makes}
use Rattle.kw_table.specs.Views.{local_in}
use Rattle.kw_follow.specs.Following.{Follows, activity_in, carried, held}
use Rattle.kw_follow.proofs.OneEvent.{Went, seat_goes, follows_from, same_activity}
use Rattle.kw_shape.proofs.Worlds.{rests_unpinned}
use Rattle.kw_follow.proofs.Resting.{idle_rests, holds_none}
use Rattle.kw_world.proofs.Transitions.{transition_of-next}

-- The end of a scan.

-- a scan that is over leaves with its reply, or is stopped
cleared : (rows : ℕ) (c : Choice) (l : Local) (told : ℕ) (answer : Answer) → l.activity ≡ Activity.EndScan answer → (next_of product rows c l told).local.activity ≡ Activity.Leave (answer_or_stopped answer c)
unfolding transition_of
cleared rows c l told answer is = ap (λ a. ((transition product a 0 c l).next rows told).local.activity) is

-- whether it is stopped does not depend on what is offered
pub offered_stopped : (rows : ℕ) (c : Choice) (answer : Answer) → answer_or_stopped answer (offered rows c) ≡ answer_or_stopped answer c
offered_stopped rows (Begin call) answer = refl
offered_stopped rows Go answer = refl
offered_stopped rows (Guess r) answer = saw (nat_lt r rows)
  where
    saw : (b : Bool) → answer_or_stopped answer (if b then Guess r else Go) ≡ answer
    saw true = refl
    saw false = refl
offered_stopped rows Stop answer = refl

module _ {s : Shared} {p q : Pass} {c : Choice} {l after : Local} {done : StepDone} {told : ℕ} where
  -- of the pass
  pub clear_leaves : Went s p q c l after done told → (answer : Answer) → activity_in p ≡ Activity.EndScan answer → activity_in q ≡ Activity.Leave (answer_or_stopped answer c)
  clear_leaves w answer is = ap (λ (k : Local). k.activity) (seat_goes w) ∙ (cleared (view p).opening.rows (offered (view p).opening.rows c) (local_in (view p)) told answer is ∙ ap Activity.Leave (offered_stopped (view p).opening.rows c answer))

  -- and of the local
  pub clear_activity : Went s p q c l after done told → (answer : Answer) → l.activity ≡ Activity.EndScan answer → after.activity ≡ Activity.Leave (answer_or_stopped answer c)
  clear_activity w answer is = ap (λ (x : Outcome). x.local.activity) w.goes ∙ (cleared (view p).opening.rows (offered (view p).opening.rows c) l told answer is ∙ ap Activity.Leave (offered_stopped (view p).opening.rows c answer))

-- The end of a call.

left : (rows : ℕ) (l : Local) (told : ℕ) (answer : Answer) → l.activity ≡ Activity.Leave answer → next_of product rows Go l told ≡ outcome (at_rest l) (Ended (reply_of answer l.pairs))
unfolding transition_of
left rows l told answer is = ap (λ a. (transition product a 0 Go l).next rows told) is

module _ {s : Shared} {p q : Pass} {l after : Local} {done : StepDone} {told : ℕ} where
  -- the pass is idle
  pub end_idles : Went s p q Go l after done told → (answer : Answer) → l.activity ≡ Activity.Leave answer → activity_in q ≡ Activity.Idle
  end_idles w answer is = ap (λ (k : Local). k.activity) (seat_goes w) ∙ ap (λ (x : Outcome). x.local.activity) (left (view p).opening.rows (local_in (view p)) told answer (same_activity s p l w.follows ∙ is))

  -- and the call has ended with the answer; code has no pairs
  pub end_replies : Went s p q Go l after done told → (answer : Answer) → activity_in p ≡ Activity.Leave answer → done ≡ Ended (reply_of answer [])
  end_replies w answer is =
      ap (λ (x : Outcome). x.done) (w.goes ∙ left (view p).opening.rows l told answer (sym (same_activity s p l w.follows) ∙ is))
      ∙ ap (λ (k : Local). Ended (reply_of answer k.pairs)) w.follows.carries

-- what resume gives at the end of a call
pub ends : (l after : Local) (done : StepDone) (told rows : ℕ) (answer : Answer) → l.activity ≡ Activity.Leave answer → outcome after done ≡ next_of product rows Go l told → done ≡ Ended (reply_of answer l.pairs)
ends l after done told rows answer is goes = ap (λ (x : Outcome). x.done) (goes ∙ left rows l told answer is)

-- a local that follows a pass holds no pin
unpinned : (s : Shared) (p : Pass) (l : Local) → Follows s p l → l.pin ≡ None
unpinned s p l f = ap (λ (k : Local). k.pin) f.carries ∙ holds_none p

-- so one that has left is at rest, but for the number of its calls
pub end_rests : (s : Shared) (p : Pass) (l after : Local) (done : StepDone) (told rows : ℕ) (answer : Answer) → Follows s p l → l.activity ≡ Activity.Leave answer → outcome after done ≡ next_of product rows Go l told → record after { number = 0 } ≡ resting 0
end_rests s p l after done told rows answer f is goes = ap (λ (x : Outcome). record x.local { number = 0 }) (goes ∙ left rows l told answer is) ∙ ap (λ (k : Local). record k { number = 0 }) (rests_unpinned l (unpinned s p l f))

-- The begin of a call.

-- what a call that begins leads to
abbrev pub begun_local : ℕ → Call → ℕ → Local
begun_local n call epoch = record (resting n) { activity = Activity.Enter Enter.Announce; call = Some call; number = n + 1; epoch = epoch }

begun_next : (rows n : ℕ) (call : Call) (told : ℕ) → (next_of product rows (Begin call) (resting n) told).local ≡ begun_local n call told
unfolding transition_of
begun_next rows n call told = refl

-- the local after the begin
pub begin_is : {call : Call} {l after : Local} {done : StepDone} {told : ℕ} (rows : ℕ) → l ≡ resting 0 → outcome after done ≡ next_of product rows (Begin call) l told → after ≡ begun_local 0 call told
begin_is {call} {l} {after} {done} {told} rows rests goes = ap (λ (x : Outcome). x.local) (goes ∙ ap (λ k. next_of product rows (Begin call) k told) rests) ∙ begun_next rows 0 call told

module _ {s : Shared} {p q : Pass} {call : Call} {told : ℕ} where
  -- and what its seat knows
  seat_begins : activity_in p ≡ Activity.Idle → Makes s p (Begin call) told q → local_in (view q) ≡ begun_local (local_in (view p)).number call told
  seat_begins idle makes =
      makes.step.local
      ∙ (ap (λ (x : Outcome). x.local) (transition_of-next product (view p).opening.rows (view p).number (Begin call) (local_in (view p)) told ∙ ap (λ k. next_of product (view p).opening.rows (Begin call) k told) (idle_rests p idle))
      ∙ begun_next (view p).opening.rows (local_in (view p)).number call told)

  -- the local follows the pass
  pub begin_follows : {l after : Local} {done : StepDone} (rows : ℕ) → activity_in p ≡ Activity.Idle → Makes s p (Begin call) told q → l ≡ resting 0 → outcome after done ≡ next_of product rows (Begin call) l told → Follows s q after
  begin_follows {l} {after} {done} rows idle makes rests goes = follows_from s q after makes.of_table (begin_is rows rests goes ∙ sym (ap carried (seat_begins idle makes)))

  -- which has no pairs yet
  pub begin_holds : activity_in p ≡ Activity.Idle → Makes s p (Begin call) told q → held q ≡ []
  begin_holds idle makes = ap (λ (k : Local). k.pairs) (seat_begins idle makes)
