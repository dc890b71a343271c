-- What the definition of one event comes to in each case. The layers above cite these, and do not
-- open it.
use Rattle.std.proofs.Common.{ℕ, ◌≡◌, Bool, Option, Some, None, true, false, refl, length, slice_get, slice_set, slice_index, length-set, ap, sym, ◌∙◌}
use Rattle.kw_words.specs.Layout.{place_of}
use Rattle.kw_world.specs.declared.local.Local.{Local}
use Rattle.kw_world.specs.declared.event.Event.{Event}
use Rattle.kw_world.specs.declared.event.Choice.{Choice}
use Rattle.kw_world.specs.declared.event.StepDone.TheVariants.{Skipped}
use Rattle.kw_world.specs.Sizes.{Sizes}
use Rattle.kw_world.specs.WorldView.{WorldView}
use Rattle.kw_world.specs.declared.event.StepDone.{StepDone}
use Rattle.kw_world.specs.declared.operation.Operation.{Operation}
use Rattle.kw_world.specs.Operation.{word_after, told_by}
use Rattle.kw_world.specs.Transition.{Transition, Outcome, outcome}
use Rattle.kw_world.specs.WalkTransitions.{offered}
use Rattle.kw_world.specs.Table.{transition}
use Rattle.kw_world.specs.Step.{word, transition_of, transition_at, next_of, followed, step, step_of, moved_of, stepped, is_skipped, kind_of}
use Rattle.kw_world.proofs.Transitions.{transition_of-next}

-- the line of a seat is that of its activity
pub transition_of-transition : (z : Sizes) (s : ℕ) (choice : Choice) (l : Local) → transition_of z s choice l ≡ transition z l.activity s choice l
unfolding transition_of
transition_of-transition z s choice l = refl

-- an event of a seat that knows l, and that is not skipped, is the line of the table
pub step-moved : (z : Sizes) (w : WorldView) (e : Event) (l : Local) → slice_get w.locals e.seat ≡ Some l → is_skipped l.activity e.choice ≡ false → step z w e ≡ moved_of z w e l
unfolding step
step-moved z w e l known goes = rw (known, goes)

-- an event that is skipped leaves the world as it was
pub step-skipped : (z : Sizes) (w : WorldView) (e : Event) (l : Local) → slice_get w.locals e.seat ≡ Some l → is_skipped l.activity e.choice ≡ true → step z w e ≡ stepped w Skipped
unfolding step
step-skipped z w e l known skipped = rw (known, skipped)

-- an event of a seat that does not exist leaves the world as it was
pub step-absent : (z : Sizes) (w : WorldView) (e : Event) → slice_get w.locals e.seat ≡ None → step z w e ≡ stepped w Skipped
unfolding step
step-absent z w e absent = rw absent

-- the kind of an event that is not skipped is that of its line
pub kind_of-moved : (z : Sizes) (w : WorldView) (e : Event) (l : Local) → slice_get w.locals e.seat ≡ Some l → is_skipped l.activity e.choice ≡ false → kind_of z w e ≡ Some (transition_at z w e l).operation.kind
unfolding kind_of
kind_of-moved z w e l known goes = rw (known, goes)

-- an event that is skipped has no kind
pub kind_of-skipped : (z : Sizes) (w : WorldView) (e : Event) (l : Local) → slice_get w.locals e.seat ≡ Some l → is_skipped l.activity e.choice ≡ true → kind_of z w e ≡ None
unfolding kind_of
kind_of-skipped z w e l known skipped = rw (known, skipped)

-- an event leaves the number of rows
pub step-rows : (z : Sizes) (w : WorldView) (e : Event) → (step z w e).world.rows ≡ w.rows
unfolding step
step-rows z w e = go (slice_get w.locals e.seat)
  where
    moved : (l : Local) (b : Bool) → is_skipped l.activity e.choice ≡ b → (step_of z w e (Some l)).world.rows ≡ w.rows
    moved l true h = rw h refl
    moved l false h = rw h refl

    go : (x : Option Local) → (step_of z w e x).world.rows ≡ w.rows
    go (Some l) = moved l (is_skipped l.activity e.choice) refl
    go None = refl

-- an event leaves the number of seats
pub step-seats : (z : Sizes) (w : WorldView) (e : Event) → length (step z w e).world.locals ≡ length w.locals
unfolding step
step-seats z w e = go (slice_get w.locals e.seat)
  where
    moved : (l : Local) (b : Bool) → is_skipped l.activity e.choice ≡ b → length (step_of z w e (Some l)).world.locals ≡ length w.locals
    moved l true h = rw h refl
    moved l false h = rw h (length-set w.locals e.seat _)

    go : (x : Option Local) → length (step_of z w e x).world.locals ≡ length w.locals
    go (Some l) = moved l (is_skipped l.activity e.choice) refl
    go None = refl

-- a world with the event's word set and the acting seat's local replaced is the world after the
-- event
made : (z : Sizes) (w : WorldView) (e : Event) (l k : Local) (done : StepDone) → slice_get w.locals e.seat ≡ Some l → is_skipped l.activity e.choice ≡ false
    → outcome k done ≡ next_of z w.rows (offered w.rows e.choice) l (told_by (transition_at z w e l).operation.action (word z w (transition_at z w e l).operation.name))
    → stepped (record {
      rows = w.rows;
      words = slice_set w.words (place_of z.seats z.cells (transition_at z w e l).operation.name) (word_after (transition_at z w e l).operation.action (word z w (transition_at z w e l).operation.name));
      locals = slice_set w.locals e.seat k;
    }) done ≡ step z w e
made z w e l k done known goes next =
    let r : Transition = transition_at z w e l in
    let follows : outcome k done ≡ followed w.rows r (word z w r.operation.name) = next ∙ sym (transition_of-next z w.rows e.seat (offered w.rows e.choice) l _) in
    ap (λ (o : Outcome). stepped (record {
      rows = w.rows;
      words = slice_set w.words (place_of z.seats z.cells r.operation.name) (word_after r.operation.action (word z w r.operation.name));
      locals = slice_set w.locals e.seat o.local;
    }) o.done) follows
    ∙ sym (step-moved z w e l known goes)

-- the same, where each part was made in its turn: the operation, its place, the word found, the
-- word left, what was told, and what the seat knows then
pub made_in_turn : (z : Sizes) (w after : WorldView) (e : Event) (l k : Local) (done : StepDone) (operation : Operation) (place found left told : ℕ)
    → slice_get w.locals e.seat ≡ Some l → is_skipped l.activity e.choice ≡ false
    → operation ≡ (transition_at z w e l).operation → place ≡ place_of z.seats z.cells operation.name
    → found ≡ slice_index w.words place → left ≡ word_after operation.action found → told ≡ told_by operation.action found
    → outcome k done ≡ next_of z w.rows (offered w.rows e.choice) l told
    → after ≡ record { rows = w.rows; words = slice_set w.words place left; locals = slice_set w.locals e.seat k }
    → stepped after done ≡ step z w e
unfolding word
made_in_turn z w after e l k done operation place found left told known goes is_operation is_place is_found is_left is_told next is_after =
    let told_is : told ≡ told_by (transition_at z w e l).operation.action (word z w (transition_at z w e l).operation.name) = rw (is_told, is_found, is_place, is_operation) in
    rw (is_after, is_left, is_found, is_place, is_operation)
    (made z w e l k done known goes (next ∙ ap (next_of z w.rows (offered w.rows e.choice) l) told_is))
