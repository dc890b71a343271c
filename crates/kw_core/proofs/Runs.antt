-- The fold over a list of events: its ends, and what holds after a valid list.
use Rattle.std.proofs.Common.{◌≡◌, Bool, true, false, List, [], ◌∷◌, ◌++◌, Option, Some, None, refl, sym, ap, ◌∙◌, slice_get, subst}
use Rattle.std.proofs.lemmas.Bool.{and_parts}
use Rattle.kw_world.specs.declared.event.Event.{Event}
use Rattle.kw_world.specs.declared.opening.Opening.{Opening}
use Rattle.kw_world.specs.declared.local.Local.{Local}
use Rattle.kw_world.specs.Sizes.{Sizes}
use Rattle.kw_world.specs.WorldView.{WorldView}
use Rattle.kw_world.specs.Opening.{opened}
use Rattle.kw_world.specs.Step.{step, step_of, is_skipped}
use Rattle.kw_core.specs.Events.{walked, world, may_step, is_valid_from, is_valid}
use Rattle.kw_core.specs.Run.{Run, goes_on, goes_on_of, noted_by, run, start, history}

-- the world goes on by the table
pub goes_on-world : (z : Sizes) (r : Run) (e : Event) → (goes_on z r e).world ≡ (step z r.world e).world
unfolding goes_on step
goes_on-world z r e = go (slice_get r.world.locals e.seat)
  where
    moved : (l : Local) (b : Bool) → is_skipped l.activity e.choice ≡ b → (goes_on_of z r e (Some l)).world ≡ (step_of z r.world e (Some l)).world
    moved l true h = rw h refl
    moved l false h = rw h refl

    go : (x : Option Local) → (goes_on_of z r e x).world ≡ (step_of z r.world e x).world
    go (Some l) = moved l (is_skipped l.activity e.choice) refl
    go None = refl

-- an event that is not skipped is noted
pub goes_on-moved : (z : Sizes) (r : Run) (e : Event) (l : Local) → slice_get r.world.locals e.seat ≡ Some l → is_skipped l.activity e.choice ≡ false → goes_on z r e ≡ noted_by z r e l
unfolding goes_on
goes_on-moved z r e l knows moves = rw (knows, moves) refl

pub run-append : (z : Sizes) (r : Run) (xs ys : List Event) → run z r (xs ++ ys) ≡ run z (run z r xs) ys
unfolding run
run-append z r [] ys = refl
run-append z r (x ∷ xs) ys = run-append z (goes_on z r x) xs ys

-- all that led to a world, with one more event
pub history-snoc : (z : Sizes) (o : Opening) (es : List Event) (e : Event) → history z o (es ++ e ∷ []) ≡ goes_on z (history z o es) e
unfolding history run
history-snoc z o es e = run-append z (start z o) es (e ∷ [])

pub history-append : (z : Sizes) (o : Opening) (xs ys : List Event) → history z o (xs ++ ys) ≡ run z (history z o xs) ys
unfolding history
history-append z o xs ys = run-append z (start z o) xs ys

pub history-nil : (z : Sizes) (o : Opening) → history z o [] ≡ start z o
unfolding history run
history-nil z o = refl

run-world : (z : Sizes) (r : Run) (w : WorldView) (es : List Event) → r.world ≡ w → (run z r es).world ≡ walked z w es
unfolding run walked
run-world z r w [] is = is
run-world z r w (e ∷ es) is = run-world z (goes_on z r e) (step z w e).world es (goes_on-world z r e ∙ ap (λ x. (step z x e).world) is)

-- the world of a history is the one after its events
pub history-world : (z : Sizes) (o : Opening) (es : List Event) → (history z o es).world ≡ world z o es
unfolding history world
history-world z o es = run-world z (start z o) (opened z o) es refl

-- a fact that each event keeps holds after a valid list
pub keeps_along : (z : Sizes) (o : Opening) (P : Run → Type 0) → ((r : Run) (e : Event) → may_step o r.world e ≡ true → P r → P (goes_on z r e))
    → (r : Run) (w : WorldView) (es : List Event) → r.world ≡ w → is_valid_from z o w es ≡ true → P r → P (run z r es)
unfolding run is_valid_from
keeps_along z o P keeps r w [] is ok p = p
keeps_along z o P keeps r w (e ∷ es) is ok p =
    let t = and_parts (may_step o w e) (is_valid_from z o (step z w e).world es) ok in
    keeps_along z o P keeps (goes_on z r e) (step z w e).world es (goes_on-world z r e ∙ ap (λ x. (step z x e).world) is) t.1 (keeps r e (subst (λ x. may_step o x e ≡ true) (sym is) t.0) p)

pub holds_of_history : (z : Sizes) (o : Opening) (P : Run → Type 0) → ((r : Run) (e : Event) → may_step o r.world e ≡ true → P r → P (goes_on z r e)) → P (start z o)
    → (es : List Event) → is_valid z o es ≡ true → P (history z o es)
unfolding history is_valid
holds_of_history z o P keeps starts es ok = keeps_along z o P keeps (start z o) (opened z o) es refl ok starts
