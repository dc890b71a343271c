-- The events of a pass's own: each step makes one event, and what was seen on a whole way was seen
-- on one part of it.
use Rattle.std.proofs.Common.{ℕ, ◌≡◌, List, [], ◌∷◌, ◌++◌, arith, refl, sym, ◌∙◌, ap, subst, inl, inr, ◌⊎◌, length, length-append, append_assoc}
use Rattle.std.proofs.lemmas.List.{append_cancel_left}
use mathlib.Core.Logic.{⊎_elim}
use mathlib.Core.List.{IsPrefix}
use Rattle.kw_world.specs.declared.activity.Activity.{Activity}
use Rattle.kw_world.specs.declared.event.Choice.{Choice}
use Rattle.kw_world.specs.declared.event.Event.{Event}
use Rattle.kw_world.specs.declared.local.Local.{Local}
use Rattle.kw_world.specs.declared.opening.Opening.{Opening}
use Rattle.kw_world.specs.Operation.{told_by}
use Rattle.kw_world.specs.WalkTransitions.{offered}
use Rattle.kw_world.specs.Sizes.{product}
use Rattle.kw_world.specs.Step.{word, transition_of}
use Rattle.kw_core.specs.Events.{local_of, world, of_seat, event}
use Rattle.kw_core.proofs.Events.{of_seat-append, of_seat-here, of_seat_own}
use Rattle.kw_table.specs.declared.pass.Pass.{Pass}
use Rattle.kw_table.specs.declared.shared.Shared.{Shared}
use Rattle.kw_table.specs.Passes.{view, Makes}
use Rattle.kw_table.proofs.Prefixes.{prefix_nil, prefix_trans}
use Rattle.kw_table.proofs.Stepping.{rest_is_others}
use Rattle.kw_follow.specs.Following.{GoesTo, activity_in}
use Rattle.kw_follow.specs.OwnEvents.{Saw, SawIn, SawOnly, transition_after}
use Rattle.kw_follow.proofs.Growing.{first_own}

-- Lists of events.

-- what stands before an element of a list of one is empty
before_one : {A : Type 0} (xs : List A) (y : A) (ys : List A) (z : A) → xs ++ y ∷ ys ≡ z ∷ [] → xs ≡ []
before_one [] y ys z is = refl
before_one (x ∷ xs) y ys z is = absurd (omega (arith, ap length is, length-append xs (y ∷ ys)))

-- the second part of an empty list is empty
second_empty : {A : Type 0} (xs ys : List A) → xs ++ ys ≡ [] → ys ≡ []
second_empty [] ys is = is
second_empty (x ∷ xs) ys is = absurd (omega (arith, ap length is))

-- a list in which the seat has no event has none of its events after the first either
rest_none : (n : ℕ) (x : Event) (xs : List Event) → of_seat n (x ∷ xs) ≡ [] → of_seat n xs ≡ []
rest_none n x xs none = second_empty (of_seat n (x ∷ [])) (of_seat n xs) (sym (of_seat-append n (x ∷ []) xs) ∙ none)

-- a list that begins with an event of the seat has one
begins_own : (n : ℕ) (c : Choice) (x : Event) (xs : List Event) → event n c ≡ x → of_seat n (x ∷ xs) ≡ [] → ⊥
begins_own n c x xs is none =
    let own : of_seat n (x ∷ xs) ≡ x ∷ of_seat n xs = of_seat_own n x xs (ap (λ (e : Event). e.seat) (sym is)) in
    omega (arith, ap length (sym own ∙ none))

-- two events of a seat in one list, before which it has none, are one event
same_first : (n : ℕ) (xs ys us vs : List Event) (c d : Choice) → of_seat n xs ≡ [] → of_seat n us ≡ [] → xs ++ event n c ∷ ys ≡ us ++ event n d ∷ vs → (xs ≡ us) × (c ≡ d)
same_first n [] ys [] vs c d none neither is =
    let e : event n c ≡ event n d = cc in
    (refl, ap (λ (x : Event). x.choice) e)
same_first n [] ys (u ∷ us) vs c d none neither is =
    let e : event n c ≡ u = cc in
    absurd (begins_own n c u us e neither)
same_first n (x ∷ xs) ys [] vs c d none neither is =
    let e : x ≡ event n d = cc in
    absurd (begins_own n d x xs (sym e) none)
same_first n (x ∷ xs) ys (u ∷ us) vs c d none neither is =
    let e : x ≡ u = cc in
    let t : xs ++ event n c ∷ ys ≡ us ++ event n d ∷ vs = cc in
    let same = same_first n xs ys us vs c d (rest_none n x xs none) (rest_none n u us neither) t in
    (ap (λ l. x ∷ l) same.0 ∙ ap (λ y. y ∷ us) e, same.1)

-- of two beginnings of one list the one begins the other, and where the longer one ends with an
-- event, what is before that too
cut : (xs : List Event) (e : Event) (zs ys ws : List Event) → (xs ++ e ∷ []) ++ zs ≡ ys ++ ws → IsPrefix (xs ++ e ∷ []) ys ⊎ IsPrefix ys xs
cut xs e zs [] ws is = inr (prefix_nil xs)
cut [] e zs (y ∷ ys) ws is =
    let h : e ≡ y = cc in
    inl (ys, ap (λ x. x ∷ ys) h)
cut (x ∷ xs) e zs (y ∷ ys) ws is =
    let h : x ≡ y = cc in
    let t : (xs ++ e ∷ []) ++ zs ≡ ys ++ ws = cc in
    ⊎_elim
    (λ (p : IsPrefix (xs ++ e ∷ []) ys). inl (p.0, ap (λ l. x ∷ l) p.1 ∙ ap (λ z. z ∷ ys) h))
    (λ (p : IsPrefix ys xs). inr (p.0, ap (λ l. y ∷ l) p.1 ∙ ap (λ z. z ∷ xs) (sym h)))
    (cut xs e zs ys ws t)

-- One event.

-- what the event of this choice is told after these events
abbrev tells : Pass → List Event → Choice → ℕ
tells p es c = told_by (transition_after (view p).opening es (view p).number c).operation.action (word product (world product (view p).opening es) (transition_after (view p).opening es (view p).number c).operation.name)

module _ {s : Shared} {p q : Pass} {c : Choice} {told : ℕ} (makes : Makes s p c told q) where
  -- whichever event of the pass's own was seen since, it is the one that was made
  is_that : (a : Activity) (d : Choice) (n : ℕ) → (m : Saw p q a d n) → (makes.step.front ≡ m.front) × (c ≡ d)
  is_that a d n m =
      let k : ℕ = (view p).number in
      let old : List Event = (view p).seen in
      let xs : List Event = makes.step.later.0 in
      let ys : List Event = m.later.0 in
      let zs : List Event = m.here.0 in
      let whole : old ++ (xs ++ event k c ∷ []) ≡ old ++ (ys ++ event k d ∷ zs) =
      sym (append_assoc old xs (event k c ∷ []))
      ∙ (ap (λ es. es ++ event k c ∷ []) makes.step.later.1
      ∙ (sym makes.step.seen
      ∙ (sym m.here.1
      ∙ (append_assoc m.front (event k d ∷ []) zs
      ∙ (ap (λ es. es ++ event k d ∷ zs) (sym m.later.1)
      ∙ append_assoc old ys (event k d ∷ zs)))))) in
      let rest : xs ++ event k c ∷ [] ≡ ys ++ event k d ∷ zs = append_cancel_left old _ _ whole in
      let none : of_seat k xs ≡ [] = rest_is_others (view p) makes.step.front k makes.step.later (first_own makes) in
      let alone : of_seat k ys ++ event k d ∷ of_seat k zs ≡ event k c ∷ [] =
      ap (λ es. of_seat k ys ++ es) (sym (of_seat_own k (event k d) zs refl))
      ∙ (sym (of_seat-append k ys (event k d ∷ zs))
      ∙ (ap (of_seat k) (sym rest)
      ∙ (of_seat-append k xs (event k c ∷ [])
      ∙ (ap (λ es. es ++ of_seat k (event k c ∷ [])) none
      ∙ of_seat-here k c)))) in
      let neither : of_seat k ys ≡ [] = before_one (of_seat k ys) (event k d) (of_seat k zs) (event k c) alone in
      let same = same_first k xs [] ys zs c d none neither rest in
      (sym makes.step.later.1 ∙ (ap (λ es. old ++ es) same.0 ∙ m.later.1), same.1)

  -- so it was made where the pass was, and was told the same
  pub only_event : SawOnly p q (activity_in p) told
  only_event = λ a d n m.
      let k : ℕ = (view p).number in
      let o : Opening = (view p).opening in
      let same = is_that a d n m in
      let was : told ≡ tells p makes.step.front c =
      subst
      (λ (l : Local). told ≡ told_by (transition_of product k (offered o.rows c) l).operation.action (word product (world product o makes.step.front) (transition_of product k (offered o.rows c) l).operation.name))
      (sym makes.step.here) makes.step.told_there in (
        sym m.activity ∙ (ap (λ es. (local_of (world product o es) k).activity) (sym same.0) ∙ ap (λ (l : Local). l.activity) makes.step.here),
        m.tells ∙ (ap (λ es. tells p es d) (sym same.0) ∙ (ap (tells p makes.step.front) (sym same.1) ∙ sym was)),
      )

-- One part of the way after the other.

-- the events of one after the other
pub goes_trans : (s : Shared) (p q r : Pass) → GoesTo s p q → GoesTo s q r → GoesTo s p r
goes_trans s p q r a b = record { of_table = b.of_table; number = b.number ∙ a.number; opening = b.opening ∙ a.opening; seen = prefix_trans _ _ _ a.seen b.seen }

-- nothing is seen while nothing is made
pub sees_none : (p : Pass) (a : Activity) (c : Choice) (told : ℕ) → Saw p p a c told → ⊥
sees_none p a c told m =
    let e : List Event = event (view p).number c ∷ [] in
    omega (arith, ap length m.later.1, ap length m.here.1, length-append (view p).seen m.later.0, length-append (m.front ++ e) m.here.0, length-append m.front e)

module _ {s : Shared} {p q r : Pass} (first : GoesTo s p q) (second : GoesTo s q r) where
  -- an event that was seen on the way was seen on one of its two parts
  pub saw_on_one : (a : Activity) (c : Choice) (told : ℕ) → Saw p r a c told → Saw p q a c told ⊎ Saw q r a c told
  saw_on_one a c told m =
      let e : Event = event (view p).number c in
      ⊎_elim
      (λ (here : IsPrefix (m.front ++ e ∷ []) (view q).seen). inl (record { front = m.front; later = m.later; here = here; activity = m.activity; tells = m.tells }))
      (λ (later : IsPrefix (view q).seen m.front). inr
      (subst (λ n. SawIn (view q).opening n (view q).seen (view r).seen a c told) (sym first.number)
      (subst (λ o. SawIn o (view p).number (view q).seen (view r).seen a c told) (sym first.opening)
      record { front = m.front; later = later; here = m.here; activity = m.activity; tells = m.tells })))
      (cut m.front e m.here.0 (view q).seen second.seen.0 (m.here.1 ∙ sym second.seen.1))

-- it is among the events of a longer list
pub saw_later : (p q r : Pass) {a : Activity} {c : Choice} {told : ℕ} → Saw p q a c told → IsPrefix (view q).seen (view r).seen → Saw p r a c told
saw_later p q r m more = record { front = m.front; later = m.later; here = prefix_trans _ _ _ m.here more; activity = m.activity; tells = m.tells }

-- and of those after a shorter one
pub saw_earlier : (s : Shared) (p q r : Pass) {a : Activity} {c : Choice} {told : ℕ} → GoesTo s p q → Saw q r a c told → Saw p r a c told
saw_earlier s p q r {a} {c} {told} goes m =
    let x : SawIn (view p).opening (view p).number (view q).seen (view r).seen a c told =
    subst (λ n. SawIn (view p).opening n (view q).seen (view r).seen a c told) goes.number (subst (λ o. SawIn o (view q).number (view q).seen (view r).seen a c told) goes.opening m) in
    record { front = x.front; later = prefix_trans _ _ _ goes.seen x.later; here = x.here; activity = x.activity; tells = x.tells }
