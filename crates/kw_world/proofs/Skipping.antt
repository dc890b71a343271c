-- An event is skipped exactly where its seat is idle and begins nothing.
use Rattle.std.proofs.Common.{ℕ, ◌≡◌, ◌↔◌, Bool, true, false, Option, Some, None, refl, ap, sym, ◌∙◌, subst, slice_get}
use Rattle.kw_world.specs.declared.activity.Activity.{Activity}
use Rattle.kw_world.specs.declared.local.Local.{Local}
use Rattle.kw_world.specs.declared.event.Event.{Event}
use Rattle.kw_world.specs.declared.event.Choice.{Choice}
use Rattle.kw_world.specs.declared.event.Choice.TheVariants.{Begin, Go, Guess, Stop}
use Rattle.kw_world.specs.declared.event.StepDone.{StepDone}
use Rattle.kw_world.specs.declared.event.StepDone.TheVariants.{Skipped}
use Rattle.kw_world.specs.Sizes.{Sizes}
use Rattle.kw_world.specs.WorldView.{WorldView}
use Rattle.kw_world.specs.Operation.{told_by}
use Rattle.kw_world.specs.WalkTransitions.{offered}
use Rattle.kw_world.specs.Step.{word, transition_of, transition_at, step, stepped, Stepped, is_skipped, IsSkipped, IsMade}
use Rattle.kw_world.proofs.GoingOn.{is_made}
use Rattle.kw_world.proofs.Steps.{step-absent, step-moved, step-skipped}

-- an event that is not skipped is not where its guess is not offered
pub skipped_offered : (a : Activity) (rows : ℕ) (choice : Choice) → is_skipped a choice ≡ false → is_skipped a (offered rows choice) ≡ false
skipped_offered Activity.Idle rows (Begin call) h = refl
skipped_offered Activity.Idle rows Go h = h
skipped_offered Activity.Idle rows (Guess q) h = let x : true ≡ false = h in absurd (cc)
skipped_offered Activity.Idle rows Stop h = h
skipped_offered _ rows choice h = refl

-- an event that is not skipped is made
pub step-made : (z : Sizes) (w : WorldView) (e : Event) (l : Local) → slice_get w.locals e.seat ≡ Some l → is_skipped l.activity e.choice ≡ false → IsMade (step z w e).done
unfolding transition_of
step-made z w e l knows moves =
    subst (λ (s : Stepped). IsMade s.done) (sym (step-moved z w e l knows moves))
    (is_made z l.activity e.seat (offered w.rows e.choice) l w.rows (told_by (transition_at z w e l).operation.action (word z w (transition_at z w e l).operation.name)) (skipped_offered l.activity w.rows e.choice moves))

-- an event that answers that it was skipped leaves the world as it was
pub step-still : (z : Sizes) (w : WorldView) (e : Event) → (step z w e).done ≡ Skipped → step z w e ≡ stepped w Skipped
step-still z w e done = known (slice_get w.locals e.seat) refl
  where
    known : (o : Option Local) → slice_get w.locals e.seat ≡ o → step z w e ≡ stepped w Skipped
    known None h = step-absent z w e h
    known (Some l) h = saw (is_skipped l.activity e.choice) refl
      where
        saw : (b : Bool) → is_skipped l.activity e.choice ≡ b → step z w e ≡ stepped w Skipped
        saw true skipped = step-skipped z w e l h skipped
        saw false goes = absurd (subst IsMade done (step-made z w e l h goes))

-- the same, where the world and the answer were made by the event
pub step-unchanged : (z : Sizes) (w after : WorldView) (e : Event) (done : StepDone) → stepped after done ≡ step z w e → done ≡ Skipped → after ≡ w
step-unchanged z w after e done is_step skipped = ap (λ (x : Stepped). x.world) (is_step ∙ step-still z w e (ap (λ (x : Stepped). x.done) (sym is_step) ∙ skipped))

-- a step is skipped exactly where its seat is idle and begins nothing
pub skips_exactly : (z : Sizes) (w v : WorldView) (e : Event) (l : Local) (done : StepDone) → slice_get w.locals e.seat ≡ Some l → stepped v done ≡ step z w e → (done ≡ Skipped) ↔ IsSkipped w e
skips_exactly z w v e l done knows is = (there (is_skipped l.activity e.choice) refl, back)
  where
    did : done ≡ (step z w e).done
    did = ap (λ (s : Stepped). s.done) is

    there : (b : Bool) → is_skipped l.activity e.choice ≡ b → done ≡ Skipped → IsSkipped w e
    there true h d = λ k knew. let same : k ≡ l = cc in subst (λ (m : Local). is_skipped m.activity e.choice ≡ true) (sym same) h
    there false h d = absurd (subst IsMade (sym did ∙ d) (step-made z w e l knows h))

    back : IsSkipped w e → done ≡ Skipped
    back skipped = did ∙ ap (λ (s : Stepped). s.done) (step-skipped z w e l knows (skipped l knows))
