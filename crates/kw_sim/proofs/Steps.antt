-- Steps of a seat: what nothing changes, and how the loops over them go.
use Rattle.std.proofs.Common.{ℕ, zero, suc, ◌≡◌, Bool, true, false, Option, Some, None, List, [], ◌∷◌, ◌++◌, refl, sym, ap, subst, ◌∙◌, slice_get, slice_set, get_or}
use Rattle.std.proofs.lemmas.Option.{unwrap_or-slice_get}
use Rattle.std.proofs.lemmas.List.{set-get_or, append-nil}
use Rattle.kw_model.specs.declared.call.Call.{Call}
use Rattle.kw_words.specs.declared.kind.Kind.{Kind}
use Rattle.kw_world.specs.declared.activity.Activity.{Activity}
use Rattle.kw_world.specs.declared.activity.Activity.TheVariants as Activity
use Rattle.kw_world.specs.declared.event.Choice.{Choice}
use Rattle.kw_world.specs.declared.event.Choice.TheVariants.{Begin, Go}
use Rattle.kw_world.specs.declared.event.Event.{Event}
use Rattle.kw_world.specs.declared.event.StepDone.{StepDone}
use Rattle.kw_world.specs.declared.event.StepDone.TheVariants.{Skipped}
use Rattle.kw_world.specs.declared.local.Local.{Local}
use Rattle.kw_world.specs.Sizes.{product}
use Rattle.kw_world.specs.WorldView.{WorldView}
use Rattle.kw_world.specs.Step.{step, step_of, kind_of, kind_from, is_skipped}
use Rattle.kw_order.specs.Trace.{TraceView, world_of, pushed}
use Rattle.kw_sim.specs.State.{State, queue_of, with_queue}
use Rattle.kw_sim.specs.Meaning.{event, printed, done_by, kind_at, after_event, makes_none, is_idle, next_choice, taken, next_event, seat_step, go, until, is_kind, missed}

-- Taking a call leaves the events.

pub taken-trace : (b : Bool) (calls : List Call) (s : ℕ) (st : State) → (taken b calls s st).trace ≡ st.trace
taken-trace true [] s st = refl
taken-trace true (c ∷ cs) s st = refl
taken-trace false calls s st = refl

-- A step of no kind changes nothing.

-- an event of no kind is skipped
skipped : (w : WorldView) (e : Event) → kind_of product w e ≡ None → (step product w e).done ≡ Skipped
unfolding kind_of step
skipped w e none = go (slice_get w.locals e.seat) none
  where
    moved : (l : Local) (b : Bool) → is_skipped l.activity e.choice ≡ b → kind_from product w e (Some l) ≡ None → (step_of product w e (Some l)).done ≡ Skipped
    moved l true h n = rw h refl
    moved l false h n = let m = rw h at n in cc

    go : (x : Option Local) → kind_from product w e x ≡ None → (step_of product w e x).done ≡ Skipped
    go (Some l) n = moved l (is_skipped l.activity e.choice) refl n
    go None n = refl

-- a skipped event prints nothing
prints_none : (s : ℕ) (l : Option Local) → printed s l Skipped ≡ []
prints_none s (Some l) = refl
prints_none s None = refl

pub none_made : (e : Event) (st : State) → kind_at e st ≡ None → after_event e st ≡ st
unfolding after_event
none_made e st h =
    let none : done_by e st ≡ Skipped = skipped (world_of st.trace) e h in
    let l = slice_get (world_of st.trace).locals e.seat in
    ap (λ (d : StepDone). record { trace = pushed st.trace e d; queues = st.queues; text = st.text ++ printed e.seat l d }) none
    ∙ ap (λ (x : List ℕ). record { trace = st.trace; queues = st.queues; text = x }) (ap (λ (x : List ℕ). st.text ++ x) (prints_none e.seat l) ∙ append-nil st.text)

-- a seat that is skipped when it goes on is idle, and so begins what it is asked to
idle_begins : (a : Activity) (c : Call) → is_skipped a Go ≡ true → is_skipped a (Begin c) ≡ false
idle_begins Activity.Idle c h = refl
idle_begins _ c h = refl

-- the kind of a begin of an idle seat
begins : (w : WorldView) (s : ℕ) (c : Call) → makes_none (slice_get w.locals s) ≡ true → kind_of product w (event s (Begin c)) ≡ None → {A : Type 0} → A
unfolding kind_of
begins w s c idle none {A} = go (slice_get w.locals s) idle none
  where
    go : (x : Option Local) → makes_none x ≡ true → kind_from product w (event s (Begin c)) x ≡ None → A
    go (Some l) i n = let b = idle_begins l.activity c i in let m = rw b at n in cc
    go None i n = cc

still_of : (b : Bool) (calls : List Call) (s : ℕ) (st : State) → is_idle s st ≡ b → kind_at (event s (next_choice b calls)) st ≡ None → after_event (event s (next_choice b calls)) (taken b calls s st) ≡ st
still_of true [] s st i n = none_made (event s Go) st n
still_of true (c ∷ cs) s st i n = begins (world_of st.trace) s c i n
still_of false calls s st i n = none_made (event s Go) st n

pub still : (s : ℕ) (st : State) → kind_at (next_event s st) st ≡ None → seat_step s st ≡ st
unfolding seat_step
still s st n = still_of (is_idle s st) (queue_of s st) s st refl n

-- the step in the code: an event after the call is taken
pub step_kind : (s : ℕ) (st mid : State) (choice : Choice) (k : Option Kind) → choice ≡ next_choice (is_idle s st) (queue_of s st) → mid ≡ taken (is_idle s st) (queue_of s st) s st → k ≡ kind_at (event s choice) mid → k ≡ kind_at (next_event s st) st
step_kind s st mid choice k c m is =
    is ∙ (ap (λ (x : TraceView). kind_of product (world_of x) (event s choice)) (ap (λ x. x.trace) m ∙ taken-trace (is_idle s st) (queue_of s st) s st) ∙ ap (λ (x : Choice). kind_at (event s x) st) c)

pub step_state : (s : ℕ) (st mid end : State) (choice : Choice) → choice ≡ next_choice (is_idle s st) (queue_of s st) → mid ≡ taken (is_idle s st) (queue_of s st) s st → end ≡ after_event (event s choice) mid → end ≡ seat_step s st
unfolding seat_step
step_state s st mid end choice c m is = is ∙ (ap (λ (x : State). after_event (event s choice) x) m ∙ ap (λ (x : Choice). after_event (event s x) (taken (is_idle s st) (queue_of s st) s st)) c)

-- Steps in number.

pub go_more : (n s : ℕ) (st next last : State) → next ≡ seat_step s st → go (suc n) s st ≡ last → go n s next ≡ last
unfolding go
go_more n s st next last is h = ap (go n s) is ∙ h

pub go_none : (s : ℕ) (st : State) → go 0 s st ≡ st
unfolding go
go_none s st = refl

pub go_still : (n s : ℕ) (st : State) → kind_at (next_event s st) st ≡ None → go n s st ≡ st
unfolding go
go_still zero s st h = refl
go_still (suc n) s st h = ap (go n s) (still s st h) ∙ go_still n s st h

-- Steps until one of a kind.

pub until_seen : (n : ℕ) (kind : Kind) (s : ℕ) (st next last : State) → next ≡ seat_step s st → is_kind kind (kind_at (next_event s st) st) ≡ true → until (suc n) kind s st ≡ last → next ≡ last
unfolding until
until_seen n kind s st next last is m h = is ∙ (sym (rw m refl) ∙ h)

pub until_more : (n : ℕ) (kind : Kind) (s : ℕ) (st next last : State) → next ≡ seat_step s st → is_kind kind (kind_at (next_event s st) st) ≡ false → until (suc n) kind s st ≡ last → until n kind s next ≡ last
unfolding until
until_more n kind s st next last is m h = ap (until n kind s) is ∙ (sym (rw m refl) ∙ h)

pub until_none : (kind : Kind) (s : ℕ) (st : State) → until 0 kind s st ≡ missed st
unfolding until
until_none kind s st = refl

pub until_still : (n : ℕ) (kind : Kind) (s : ℕ) (st : State) → kind_at (next_event s st) st ≡ None → until n kind s st ≡ missed st
unfolding until
until_still zero kind s st h = refl
until_still (suc n) kind s st h =
    let no : is_kind kind (kind_at (next_event s st) st) ≡ false = ap (is_kind kind) h in
    rw no (ap (until n kind s) (still s st h) ∙ until_still n kind s st h)

-- A queue that was empty, with no calls set, is as it was.
pub queue_empty : (s : ℕ) (st : State) → queue_of s st ≡ [] → with_queue s [] st ≡ st
queue_empty s st e =
    let none : get_or st.queues s [] ≡ [] = sym (unwrap_or-slice_get st.queues s []) ∙ e in
    ap (λ (q : List (List Call)). record st { queues = q }) (subst (λ (x : List Call). slice_set st.queues s x ≡ st.queues) none (set-get_or st.queues s []))
