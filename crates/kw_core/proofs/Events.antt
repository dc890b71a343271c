-- Lists of events: their ends, their fronts, and what one seat sees of them.
use Rattle.std.proofs.Common.{◌≡◌, ◌≢◌, ℕ, ◌<◌, ◌==◌, Bool, true, false, not, nat_lt, List, [], ◌∷◌, ◌++◌, Option, Some, None, refl, sym, ap, ◌∙◌, subst, eq-eqb, ne_eqb, slice_get, get_or-set_other}
use Rattle.std.proofs.lemmas.Bool.{and_parts, and_from, cases_eq, lt-ltb, ltb-true}
use mathlib.Core.Logic.{⊎_elim}
use Rattle.kw_model.specs.declared.call.Call.{Call}
use Rattle.kw_model.specs.declared.call.Call.TheVariants.{Put, Del, Get, Scan, Pin, ScanAt, Unpin}
use Rattle.kw_world.specs.declared.activity.Activity.{Activity}
use Rattle.kw_world.specs.declared.event.Choice.{Choice}
use Rattle.kw_world.specs.declared.event.Choice.TheVariants.{Begin}
use Rattle.kw_world.specs.declared.event.Event.{Event}
use Rattle.kw_world.specs.declared.opening.Opening.{Opening}
use Rattle.kw_world.specs.declared.local.Local.{Local}
use Rattle.kw_world.specs.declared.operation.Action.{Action}
use Rattle.kw_world.specs.declared.operation.Action.TheVariants.{Load, Store, Add, Or, Exchange}
use Rattle.kw_world.specs.Operation.{told_by}
use Rattle.kw_world.specs.Sizes.{Sizes}
use Rattle.kw_world.specs.Local.{resting}
use Rattle.kw_world.specs.WorldView.{WorldView}
use Rattle.kw_world.specs.Opening.{opened}
use Rattle.kw_world.specs.Transition.{Transition}
use Rattle.kw_world.specs.Sane.{IsCall, IsStore}
use Rattle.kw_world.specs.Step.{step, step_of, is_skipped, followed}
use Rattle.kw_core.specs.Events.{local_of, walked, world, is_call_in_range, may_begin, is_made, may_step, is_valid_from, is_valid, of_seat, event}

-- The world after a list.

pub walked-append : (z : Sizes) (w : WorldView) (xs ys : List Event) → walked z w (xs ++ ys) ≡ walked z (walked z w xs) ys
unfolding walked
walked-append z w [] ys = refl
walked-append z w (x ∷ xs) ys = walked-append z (step z w x).world xs ys

-- the world after two lists
pub world-append : (z : Sizes) (o : Opening) (xs ys : List Event) → world z o (xs ++ ys) ≡ walked z (world z o xs) ys
unfolding world
world-append z o xs ys = walked-append z (opened z o) xs ys

-- the world after one more event
pub world-snoc : (z : Sizes) (o : Opening) (xs : List Event) (e : Event) → world z o (xs ++ e ∷ []) ≡ (step z (world z o xs) e).world
unfolding world walked
world-snoc z o xs e = walked-append z (opened z o) xs (e ∷ [])

-- the world after no event
pub world-nil : (z : Sizes) (o : Opening) → world z o [] ≡ opened z o
unfolding world walked
world-nil z o = refl

-- Valid lists.

-- a fact that each step keeps holds of the world after a valid list
pub invariant : (z : Sizes) (o : Opening) (P : WorldView → Type 0) → ((w : WorldView) (e : Event) → may_step o w e ≡ true → P w → P (step z w e).world)
    → (w : WorldView) (es : List Event) → is_valid_from z o w es ≡ true → P w → P (walked z w es)
unfolding walked is_valid_from
invariant z o P keeps w [] ok p = p
invariant z o P keeps w (e ∷ es) ok p = let t = and_parts (may_step o w e) (is_valid_from z o (step z w e).world es) ok in invariant z o P keeps (step z w e).world es t.1 (keeps w e t.0 p)

pub holds_of_valid : (z : Sizes) (o : Opening) (P : WorldView → Type 0) → ((w : WorldView) (e : Event) → may_step o w e ≡ true → P w → P (step z w e).world) → P (opened z o)
    → (es : List Event) → is_valid z o es ≡ true → P (world z o es)
unfolding world is_valid
holds_of_valid z o P keeps opens es ok = invariant z o P keeps (opened z o) es ok opens

valid_front_from : (z : Sizes) (o : Opening) (w : WorldView) (xs ys : List Event) → is_valid_from z o w (xs ++ ys) ≡ true → is_valid_from z o w xs ≡ true
unfolding is_valid_from
valid_front_from z o w [] ys ok = refl
valid_front_from z o w (e ∷ xs) ys ok = let t = and_parts (may_step o w e) (is_valid_from z o (step z w e).world (xs ++ ys)) ok in
    and_from (may_step o w e) (is_valid_from z o (step z w e).world xs) t.0 (valid_front_from z o (step z w e).world xs ys t.1)

-- the front of a valid list is valid
pub valid_front : (z : Sizes) (o : Opening) (xs ys : List Event) → is_valid z o (xs ++ ys) ≡ true → is_valid z o xs ≡ true
unfolding is_valid
valid_front z o xs ys ok = valid_front_from z o (opened z o) xs ys ok

valid_snoc_from : (z : Sizes) (o : Opening) (w : WorldView) (xs : List Event) (e : Event) → is_valid_from z o w xs ≡ true → may_step o (walked z w xs) e ≡ true → is_valid_from z o w (xs ++ e ∷ []) ≡ true
unfolding is_valid_from walked
valid_snoc_from z o w [] e ok may = and_from (may_step o w e) true may refl
valid_snoc_from z o w (x ∷ xs) e ok may = let t = and_parts (may_step o w x) (is_valid_from z o (step z w x).world xs) ok in
    and_from (may_step o w x) (is_valid_from z o (step z w x).world (xs ++ e ∷ [])) t.0 (valid_snoc_from z o (step z w x).world xs e t.1 may)

-- a valid list with one more event that may come is valid
pub valid-snoc : (z : Sizes) (o : Opening) (xs : List Event) (e : Event) → is_valid z o xs ≡ true → may_step o (world z o xs) e ≡ true → is_valid z o (xs ++ e ∷ []) ≡ true
unfolding is_valid world
valid-snoc z o xs e ok may = valid_snoc_from z o (opened z o) xs e ok may

-- no event is a valid list
pub valid-nil : (z : Sizes) (o : Opening) → is_valid z o [] ≡ true
unfolding is_valid is_valid_from
valid-nil z o = refl

-- Events that may come.

-- a call that may begin is in range
in_range : (call : Call) → is_call_in_range call ≡ true → IsCall (Some call)
in_range (Put key value) h = let t = and_parts _ _ h in (ltb-true key _ t.0, ltb-true value _ t.1)
in_range (Del key) h = ltb-true key _ h
in_range (Get key) h = ltb-true key _ h
in_range (Scan from upto) h = let t = and_parts _ _ h in (ltb-true from _ t.0, ltb-true upto _ t.1)
in_range Pin h = let y : false ≡ true = h in absurd (cc)
in_range (ScanAt from upto) h = let y : false ≡ true = h in absurd (cc)
in_range Unpin h = let y : false ≡ true = h in absurd (cc)

-- a call that a seat begins at this activity is in range
abbrev pub IsBegun : Activity → Choice → Type 0
IsBegun Activity.Idle (Begin call) = IsCall (Some call)
IsBegun _ choice = Unit {0}

begun_in_range : (a : Activity) (choice : Choice) → may_begin a choice ≡ true → IsBegun a choice
begun_in_range Activity.Idle (Begin call) h = in_range call h
begun_in_range _ choice h = tt

-- what is known of an event that may come
pub record MayCome (o : Opening) (w : WorldView) (e : Event) : Type 0 where
  pub seat : e.seat < o.seats
  pub local : Local
  pub begins : IsBegun local.activity e.choice
  pub knows : slice_get w.locals e.seat ≡ Some local
  pub moves : is_skipped local.activity e.choice ≡ false

-- an event that may come is known to be so
pub may_come : (o : Opening) (w : WorldView) (e : Event) → may_step o w e ≡ true → MayCome o w e
unfolding may_step
may_come o w e may =
    let t = and_parts (nat_lt e.seat o.seats) (is_made e.choice (slice_get w.locals e.seat)) may in
    made (ltb-true e.seat o.seats t.0) (slice_get w.locals e.seat) refl t.1
  where
    goes : (b : Bool) → not b ≡ true → b ≡ false
    goes true h = let x : false ≡ true = h in absurd (cc)
    goes false h = refl

    made : e.seat < o.seats → (x : Option Local) → slice_get w.locals e.seat ≡ x → is_made e.choice x ≡ true → MayCome o w e
    made inside (Some l) k h =
        let u = and_parts (not (is_skipped l.activity e.choice)) (may_begin l.activity e.choice) h in
        record { seat = inside; local = l; begins = begun_in_range l.activity e.choice u.1; knows = k; moves = goes (is_skipped l.activity e.choice) u.0 }
    made inside None k h = let x : false ≡ true = h in absurd (cc)

-- an event of an existing seat that is not skipped, and whose call is in range, may come
pub may_step_from : (o : Opening) (w : WorldView) (e : Event) (l : Local) → e.seat < o.seats → may_begin l.activity e.choice ≡ true → slice_get w.locals e.seat ≡ Some l → is_skipped l.activity e.choice ≡ false → may_step o w e ≡ true
unfolding may_step
may_step_from o w e l inside begins knows moves = and_from (nat_lt e.seat o.seats) _ (lt-ltb e.seat o.seats inside) (subst (λ x. is_made e.choice x ≡ true) (sym knows) (and_from (not (is_skipped l.activity e.choice)) _ (ap not moves) begins))

-- What one seat sees.

-- a step leaves what the other seats know
pub local_else : (z : Sizes) (w : WorldView) (e : Event) (s : ℕ) → s ≢ e.seat → local_of (step z w e).world s ≡ local_of w s
unfolding step
local_else z w e s ne = go (slice_get w.locals e.seat)
  where
    moved : (l : Local) (b : Bool) → is_skipped l.activity e.choice ≡ b → local_of (step_of z w e (Some l)).world s ≡ local_of w s
    moved l true h = rw h refl
    moved l false h = rw h (get_or-set_other w.locals e.seat s _ (resting 0) ne)

    go : (x : Option Local) → local_of (step_of z w e x).world s ≡ local_of w s
    go (Some l) = moved l (is_skipped l.activity e.choice) refl
    go None = refl

of_seat_cons : (s : ℕ) (x : Event) (xs ys : List Event) → of_seat s (xs ++ ys) ≡ of_seat s xs ++ of_seat s ys
    → (b : Bool) → (x.seat == s) ≡ b → of_seat s (x ∷ (xs ++ ys)) ≡ of_seat s (x ∷ xs) ++ of_seat s ys
unfolding of_seat
of_seat_cons s x xs ys rest true is = rw is (ap (λ l. x ∷ l) rest)
of_seat_cons s x xs ys rest false is = rw is rest

pub of_seat-append : (s : ℕ) (xs ys : List Event) → of_seat s (xs ++ ys) ≡ of_seat s xs ++ of_seat s ys
unfolding of_seat
of_seat-append s [] ys = refl
of_seat-append s (x ∷ xs) ys = of_seat_cons s x xs ys (of_seat-append s xs ys) (x.seat == s) refl

pub of_seat-here : (s : ℕ) (choice : Choice) → of_seat s (event s choice ∷ []) ≡ event s choice ∷ []
unfolding of_seat
of_seat-here s choice = rw (eq-eqb s s refl) refl

pub of_seat-else : (s t : ℕ) (choice : Choice) → t ≢ s → of_seat s (event t choice ∷ []) ≡ []
unfolding of_seat
of_seat-else s t choice ne = rw (ne_eqb t s ne) refl

-- the first event is the seat's
pub of_seat_own : (s : ℕ) (e : Event) (es : List Event) → e.seat ≡ s → of_seat s (e ∷ es) ≡ e ∷ of_seat s es
unfolding of_seat
of_seat_own s e es is = rw (eq-eqb e.seat s is) refl

-- the first event is another seat's
pub of_seat_other : (s : ℕ) (e : Event) (es : List Event) → e.seat ≢ s → of_seat s (e ∷ es) ≡ of_seat s es
unfolding of_seat
of_seat_other s e es ne = rw (ne_eqb e.seat s ne) refl

-- events of other seats leave what a seat knows
pub local_still : (z : Sizes) (w : WorldView) (s : ℕ) (es : List Event) → of_seat s es ≡ [] → local_of (walked z w es) s ≡ local_of w s
unfolding walked
local_still z w s [] none = refl
local_still z w s (e ∷ es) none = ⊎_elim
    (λ (is : e.seat ≡ s). let p = of_seat_own s e es is in absurd cc)
    (λ (ne : e.seat ≢ s). local_still z (step z w e).world s es (sym (of_seat_other s e es ne) ∙ none) ∙ local_else z w e s (λ h. ne (sym h)))
    (cases_eq e.seat s)

-- what follows from a store does not depend on the word that was there
pub followed_store : (rows : ℕ) (r : Transition) (found other : ℕ) → IsStore r.operation.action → followed rows r found ≡ followed rows r other
followed_store rows r found other h = ap (r.next rows) (told r.operation.action h)
  where
    told : (a : Action) → IsStore a → told_by a found ≡ told_by a other
    told Load h = absurd h
    told (Store x) h = refl
    told (Add x) h = absurd h
    told (Or x) h = absurd h
    told (Exchange x y) h = absurd h
