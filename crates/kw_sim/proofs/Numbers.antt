-- A seat begins at most one call with an event, so it has begun no more calls than there are
-- events.
use Rattle.std.proofs.Common.{ℕ, zero, suc, ◌≡◌, ◌+◌, ◌≤◌, ◌⊎◌, ◌≢◌, inl, inr, List, ◌∷◌, length, replicate, slice_get, slice_set, refl, sym, ap, ◌∙◌, arith, Option, Some, None, Bool, true, false, []}
use Rattle.kw_world.specs.declared.local.Local.{Local}
use Rattle.kw_world.specs.Sizes.{Sizes}
use Rattle.kw_world.specs.WalkTransitions.{offered}
use Rattle.kw_world.specs.declared.event.Event.{Event}
use Rattle.kw_world.specs.declared.opening.Opening.{Opening}
use Rattle.kw_world.specs.WorldView.{WorldView}
use Rattle.kw_world.specs.Opening.{opened}
use Rattle.kw_world.specs.Local.{resting}
use Rattle.kw_world.specs.Step.{step, step_of, transition_of, transition_at, followed, word, is_skipped}
use Rattle.kw_world.specs.Operation.{told_by}
use Rattle.kw_world.proofs.GoingOn.{begins_few}
use Rattle.kw_world.proofs.Skipping.{skipped_offered}
use Rattle.kw_world.proofs.Lists.{get-set_same, get-set_other}
use Rattle.std.proofs.lemmas.Option.{slice_get_within, same_Some}
use Rattle.std.proofs.lemmas.Bool.{cases_eq}
use Rattle.kw_core.specs.Events.{walked, world}

-- No seat of a world has begun more calls than this.
abbrev pub NumbersUpTo : ℕ → WorldView → Type 0
NumbersUpTo n w = (s : ℕ) (l : Local) → slice_get w.locals s ≡ Some l → l.number ≤ n

-- an event adds one at most
step_numbers : (z : Sizes) (w : WorldView) (e : Event) (n : ℕ) → NumbersUpTo n w → NumbersUpTo (n + 1) (step z w e).world
unfolding step transition_of
step_numbers z w e n up = go (slice_get w.locals e.seat) refl
  where
    moved : (l : Local) → slice_get w.locals e.seat ≡ Some l → (b : Bool) → is_skipped l.activity e.choice ≡ b → NumbersUpTo (n + 1) (step_of z w e (Some l)).world
    moved l knows true h = rw h (λ s k g. omega (arith, up s k g))
    moved l knows false h = rw h (λ s k g. here s k g (cases_eq s e.seat))
      where
        next : Local
        next = (followed w.rows (transition_at z w e l) (word z w (transition_at z w e l).operation.name)).local

        few : next.number ≤ n + 1
        few = omega (arith, begins_few z l.activity e.seat (offered w.rows e.choice) l w.rows (told_by (transition_at z w e l).operation.action (word z w (transition_at z w e l).operation.name)) (skipped_offered l.activity w.rows e.choice h), up e.seat l knows)

        here : (s : ℕ) (k : Local) → slice_get (slice_set w.locals e.seat next) s ≡ Some k → (s ≡ e.seat) ⊎ (s ≢ e.seat) → k.number ≤ n + 1
        here s k g (inl is) =
            let same : Some next ≡ Some k = sym (get-set_same w.locals e.seat next (slice_get_within w.locals e.seat l knows)) ∙ (ap (λ x. slice_get (slice_set w.locals e.seat next) x) (sym is) ∙ g) in
            omega (arith, few, ap (λ (x : Local). x.number) (same_Some next k same))
        here s k g (inr other) = omega (arith, up s k (sym (get-set_other w.locals e.seat s next other) ∙ g))

    go : (x : Option Local) → slice_get w.locals e.seat ≡ x → NumbersUpTo (n + 1) (step_of z w e x).world
    go (Some l) knows = moved l knows (is_skipped l.activity e.choice) refl
    go None knows = λ s k g. omega (arith, up s k g)

walked_numbers : (z : Sizes) (w : WorldView) (es : List Event) (n : ℕ) → NumbersUpTo n w → NumbersUpTo (n + length es) (walked z w es)
unfolding walked
walked_numbers z w [] n up = λ s l g. omega (arith, up s l g)
walked_numbers z w (e ∷ es) n up = λ s l g. omega (arith, walked_numbers z (step z w e).world es (n + 1) (step_numbers z w e n up) s l g)

-- a seat that rests has begun none
none_begun : (seats s : ℕ) (l : Local) → slice_get (replicate seats (resting 0)) s ≡ Some l → l.number ≤ 0
none_begun zero s l g = let x : None ≡ Some l = g in absurd (cc)
none_begun (suc seats) zero l g = omega (arith, ap (λ (x : Local). x.number) (same_Some (resting 0) l g))
none_begun (suc seats) (suc s) l g = none_begun seats s l g

-- no seat has begun more calls than there are events
pub numbers_up_to : (z : Sizes) (o : Opening) (es : List Event) → NumbersUpTo (length es) (world z o es)
unfolding world
numbers_up_to z o es = λ s l g. omega (arith, walked_numbers z (opened z o) es 0 (λ t k h. none_begun o.seats t k h) s l g)
