-- A seat that makes all events comes to a mark: from any world to a mark or to the beginning of a
-- walk, and from there, where all is fair, to a mark.
use Rattle.std.proofs.Common.{ℕ, suc, ◌≡◌, ◌⊎◌, inl, inr, ◌+◌, ◌<◌, ◌≤◌, ◌++◌, ◌∷◌, [], true, List, take, arith, sym, ◌∙◌, ap, subst, length, append-nil, append_assoc}
use Rattle.kw_world.specs.declared.activity.Activity.{Activity}
use Rattle.kw_world.specs.declared.activity.walk.Walk.TheVariants as Walk
use Rattle.kw_world.specs.declared.event.Event.{Event}
use Rattle.kw_world.specs.declared.local.Local.{Local}
use Rattle.kw_world.specs.declared.opening.Opening.{Opening}
use Rattle.kw_world.specs.Opening.{IsOpening}
use Rattle.kw_world.specs.Sizes.{Sizes, product}
use Rattle.kw_world.specs.Step.{word}
use Rattle.kw_world.specs.WalkTransitions.{offered}
use Rattle.kw_world.specs.WorldView.{WorldView}
use Rattle.kw_core.specs.Events.{is_valid, local_of, world}
use Rattle.kw_core.specs.Run.{history}
use Rattle.kw_core.proofs.Events.{valid_front}
use Rattle.kw_core.proofs.Runs.{history-world}
use Rattle.kw_laws.proofs.LawProofs.{laws_hold}
use Rattle.kw_shape.proofs.Worlds.{shape_holds, world-rows}
use Rattle.kw_alone.specs.Alone.{FallsAfter, MarksAt, activity_after, left_after}
use Rattle.kw_alone.specs.Fair.{IsFair, IsStart}
use Rattle.kw_alone.specs.Falls.{events_to_mark, most_rest, most_to_mark}
use Rattle.kw_alone.specs.Marks.{AreOf, IsMark}
use Rattle.kw_alone.proofs.Bounding.{few_to_mark}
use Rattle.kw_alone.proofs.Staying.{StaysFair, fair_begins, fair_stays}
use Rattle.kw_alone.proofs.Turning.{Made, comes_behind, comes_here, falls_after, here_valid, made, more_valid, most_after, seat_inside}

-- after these events the seat s is fair
abbrev pub AreFair : Sizes → Opening → ℕ → List Event → Type 0
AreFair z o s es = IsFair (word z (history z o es).world) (history z o es).ledger.rows (activity_after z o s es) (local_of (world z o es) s)

-- or it is at the beginning of a walk
abbrev pub BeginsFair : Sizes → Opening → ℕ → List Event → Type 0
BeginsFair z o s es = IsStart (activity_after z o s es) ⊎ AreFair z o s es

-- an event that is made leaves such a seat fair, or is a mark
fair_over : (z : Sizes) (o : Opening) (es : List Event) (e : Event) → IsOpening z o → is_valid z o es ≡ true → (m : Made z o es e) → IsStart m.local.activity ⊎ IsFair (word z (history z o es).world) (history z o es).ledger.rows m.local.activity m.local →
    StaysFair (word z (history z o (es ++ e ∷ [])).world) (history z o (es ++ e ∷ [])).ledger.rows m.local.activity m.next
fair_over z o es e opening ok m (inl x) = fair_begins z (history z o es) (history z o (es ++ e ∷ [])) e.seat (offered (history z o es).world.rows e.choice) m.local m.local.activity m.next m.happens.arrow m.happens (shape_holds z o es opening ok) x
fair_over z o es e opening ok m (inr f) = fair_stays z (history z o es) (history z o (es ++ e ∷ [])) e.seat (offered (history z o es).world.rows e.choice) m.local m.local.activity m.next m.happens.arrow m.happens (shape_holds z o es opening ok) (laws_hold z o opening es ok) f

fair_after : (z : Sizes) (o : Opening) (es : List Event) (e : Event) → IsOpening z o → is_valid z o (es ++ e ∷ []) ≡ true → BeginsFair z o e.seat es → IsMark (activity_after z o e.seat es) (activity_after z o e.seat (es ++ e ∷ [])) ⊎ AreFair z o e.seat (es ++ e ∷ [])
fair_after z o es e opening ok f =
    let m = made z o es e opening ok in
    let g = subst (λ (k : Local). IsStart k.activity ⊎ IsFair (word z (history z o es).world) (history z o es).ledger.rows k.activity k) m.was f in
    let t = fair_over z o es e opening (valid_front z o es (e ∷ []) ok) m g in
    let u = subst (λ (k : Local). IsMark k.activity m.next.activity ⊎ IsFair (word z (history z o (es ++ e ∷ [])).world) (history z o (es ++ e ∷ [])).ledger.rows m.next.activity m.next) (sym m.was) t in
    subst (λ (k : Local). IsMark (activity_after z o e.seat es) k.activity ⊎ IsFair (word z (history z o (es ++ e ∷ [])).world) (history z o (es ++ e ∷ [])).ledger.rows k.activity k) (sym m.is) u

-- the first mark that comes, and what holds up to it
pub record Marked (z : Sizes) (o : Opening) (s : ℕ) (K : List Event → Type 0) (xs ys : List Event) : Type 0 where
  pub at : ℕ
  pub marks : MarksAt z o s xs ys at
  pub kept : K (xs ++ take at ys)

-- what each event of the seat keeps, but a mark
abbrev pub Keeps : Sizes → Opening → ℕ → (List Event → Type 0) → Type 0
Keeps z o s K = (xs : List Event) (e : Event) → is_valid z o (xs ++ e ∷ []) ≡ true → e.seat ≡ s → K xs → IsMark (activity_after z o s xs) (activity_after z o s (xs ++ e ∷ [])) ⊎ K (xs ++ e ∷ [])

module _ (z : Sizes) (o : Opening) (s : ℕ) (opening : IsOpening z o) (K : List Event → Type 0) (keeps : Keeps z o s K) where
  here : (xs : List Event) (e : Event) (ys : List Event) → e.seat ≡ s → K xs → IsMark (activity_after z o e.seat xs) (activity_after z o e.seat (xs ++ e ∷ [])) → Marked z o s K xs (e ∷ ys)
  here xs e ys own k m = record { at = 0; marks = comes_here IsMark z o s xs e ys own m; kept = subst K (sym (append-nil xs)) k }

  here_own : (xs : List Event) (e : Event) (ys : List Event) → e.seat ≡ s → K xs → IsMark (activity_after z o s xs) (activity_after z o s (xs ++ e ∷ [])) → Marked z o s K xs (e ∷ ys)
  here_own xs e ys own k m = here xs e ys own k (subst (λ n. IsMark (activity_after z o n xs) (activity_after z o n (xs ++ e ∷ []))) (sym own) m)

  behind : (xs : List Event) (e : Event) (ys : List Event) → Marked z o s K (xs ++ e ∷ []) ys → Marked z o s K xs (e ∷ ys)
  behind xs e ys t = record { at = suc t.at; marks = comes_behind IsMark z o s xs e ys t.at t.marks; kept = subst K (append_assoc xs (e ∷ []) (take t.at ys)) t.kept }

  -- a fair seat comes to a mark before its rest is used up
  mark_within : (xs ys : List Event) → is_valid z o (xs ++ ys) ≡ true → AreOf s ys → K xs → BeginsFair z o s xs → left_after z o s xs < length ys → Marked z o s K xs ys
  mark_within xs [] ok of k fair less = absurd (omega (arith, less))
  mark_within xs (e ∷ ys) ok of k fair less =
      which (keeps xs e (here_valid z o xs e ys ok) own k) (fair_after z o xs e opening (here_valid z o xs e ys ok) (subst (λ n. BeginsFair z o n xs) (sym own) fair)) (falls_after z o xs e opening (here_valid z o xs e ys ok)) (mark_within (xs ++ e ∷ []) ys (more_valid z o xs e ys ok) (λ n d w. of (suc n) d (omega (arith, w))))
    where
      own : e.seat ≡ s
      own = of 0 e (omega arith)

      which : IsMark (activity_after z o s xs) (activity_after z o s (xs ++ e ∷ [])) ⊎ K (xs ++ e ∷ []) → IsMark (activity_after z o e.seat xs) (activity_after z o e.seat (xs ++ e ∷ [])) ⊎ AreFair z o e.seat (xs ++ e ∷ []) → FallsAfter z o xs e →
          (K (xs ++ e ∷ []) → BeginsFair z o s (xs ++ e ∷ []) → left_after z o s (xs ++ e ∷ []) < length ys → Marked z o s K (xs ++ e ∷ []) ys) → Marked z o s K xs (e ∷ ys)
      which (inl m) f t next = here_own xs e ys own k m
      which (inr n) (inl m) t next = here xs e ys own k m
      which (inr n) (inr f) (inl m) next = here xs e ys own k m
      which (inr n) (inr f) (inr (inl b)) next = absurd (subst (λ a. IsFair (word z (history z o (xs ++ e ∷ [])).world) (history z o (xs ++ e ∷ [])).ledger.rows a (local_of (world z o (xs ++ e ∷ [])) e.seat)) b f)
      which (inr n) (inr f) (inr (inr t)) next =
          let fell : left_after z o s (xs ++ e ∷ []) < left_after z o s xs = subst (λ q. left_after z o q (xs ++ e ∷ []) < left_after z o q xs) own t in
          behind xs e ys (next n (inr (subst (λ q. AreFair z o q (xs ++ e ∷ [])) own f)) (omega (arith, fell, less)))

  -- from any world it comes to one, or to the beginning of a walk first
  mark_beyond : (xs ys : List Event) → is_valid z o (xs ++ ys) ≡ true → AreOf s ys → K xs → left_after z o s xs + most_rest z o.rows + 1 < length ys → Marked z o s K xs ys
  mark_beyond xs [] ok of k less = absurd (omega (arith, less))
  mark_beyond xs (e ∷ ys) ok of k less = which (keeps xs e (here_valid z o xs e ys ok) own k) (falls_after z o xs e opening (here_valid z o xs e ys ok)) (mark_beyond (xs ++ e ∷ []) ys more rest)
    where
      own : e.seat ≡ s
      own = of 0 e (omega arith)

      more : is_valid z o ((xs ++ e ∷ []) ++ ys) ≡ true
      more = more_valid z o xs e ys ok

      rest : AreOf s ys
      rest = λ n d w. of (suc n) d (omega (arith, w))

      inside : s < o.seats
      inside = seat_inside z o s opening xs e ys ok own

      begun : activity_after z o e.seat (xs ++ e ∷ []) ≡ Activity.Walk Walk.Start → BeginsFair z o s (xs ++ e ∷ [])
      begun b = inl (subst IsStart (sym (subst (λ n. activity_after z o n (xs ++ e ∷ []) ≡ Activity.Walk Walk.Start) own b)) tt)

      which : IsMark (activity_after z o s xs) (activity_after z o s (xs ++ e ∷ [])) ⊎ K (xs ++ e ∷ []) → FallsAfter z o xs e → (K (xs ++ e ∷ []) → left_after z o s (xs ++ e ∷ []) + most_rest z o.rows + 1 < length ys → Marked z o s K (xs ++ e ∷ []) ys) → Marked z o s K xs (e ∷ ys)
      which (inl m) t next = here_own xs e ys own k m
      which (inr n) (inl m) next = here xs e ys own k m
      which (inr n) (inr (inl b)) next =
          let few = most_after z o (xs ++ e ∷ []) s opening (here_valid z o xs e ys ok) inside in
          behind xs e ys (mark_within (xs ++ e ∷ []) ys more rest n (begun b) (omega (arith, few, less)))
      which (inr n) (inr (inr t)) next =
          let fell : left_after z o s (xs ++ e ∷ []) < left_after z o s xs = subst (λ q. left_after z o q (xs ++ e ∷ []) < left_after z o q xs) own t in
          behind xs e ys (next n (omega (arith, fell, less)))

  pub marked : (xs ys : List Event) → is_valid z o (xs ++ ys) ≡ true → AreOf s ys → K xs → events_to_mark z o.rows ≤ length ys → Marked z o s K xs ys
  marked xs [] ok of k less = absurd (omega (arith, less))
  marked xs (e ∷ ys) ok of k less =
      let few = most_after z o xs s opening (valid_front z o xs (e ∷ ys) ok) (seat_inside z o s opening xs e ys ok (of 0 e (omega arith))) in
      mark_beyond xs (e ∷ ys) ok of k (omega (arith, less, few))

-- of any seat
pub mark_comes : (z : Sizes) (o : Opening) (s : ℕ) → IsOpening z o → (xs ys : List Event) → is_valid z o (xs ++ ys) ≡ true → AreOf s ys → events_to_mark z o.rows ≤ length ys → (i : ℕ) × MarksAt z o s xs ys i
mark_comes z o s opening xs ys ok of less = let t = marked z o s opening (λ es. Unit {0}) (λ es e v own k. inr tt) xs ys ok of tt less in (t.at, t.marks)

-- at the product's sizes
pub product_marks : (o : Opening) (s : ℕ) → IsOpening product o → (xs ys : List Event) → is_valid product o (xs ++ ys) ≡ true → AreOf s ys → most_to_mark o.rows ≤ length ys → (i : ℕ) × MarksAt product o s xs ys i
product_marks o s opening xs ys ok of less =
    let rows : 1 ≤ o.rows = subst (λ n. 1 ≤ n) (ap (λ (x : WorldView). x.rows) (history-world product o xs) ∙ world-rows product o xs) (shape_holds product o xs opening (valid_front product o xs ys ok)).sane.sized.some_rows in
    mark_comes product o s opening xs ys ok of (omega (arith, less, few_to_mark o.rows rows))
