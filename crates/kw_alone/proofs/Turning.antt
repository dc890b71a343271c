-- Each event of a valid list falls, so a list at whose end one seat makes all events comes to a
-- mark or to the beginning of a walk.
use Rattle.std.proofs.Common.{ℕ, suc, ◌≡◌, inl, inr, ◌+◌, ◌<◌, ◌≤◌, ◌++◌, ◌∷◌, [], true, List, Some, take, arith, sym, ◌∙◌, ap, subst, length, slice_get, append-nil, append_assoc}
use Rattle.std.proofs.lemmas.Bool.{and_parts}
use Rattle.std.proofs.lemmas.Option.{get_or_from_slice_get}
use Rattle.kw_world.specs.declared.activity.Activity.{Activity}
use Rattle.kw_world.specs.declared.event.Event.{Event}
use Rattle.kw_world.specs.declared.local.Local.{Local}
use Rattle.kw_world.specs.declared.opening.Opening.{Opening}
use Rattle.kw_world.specs.Opening.{IsOpening, opened}
use Rattle.kw_world.specs.Local.{resting}
use Rattle.kw_world.specs.Sizes.{Sizes}
use Rattle.kw_world.specs.Step.{step, word}
use Rattle.kw_world.specs.WalkTransitions.{offered}
use Rattle.kw_world.specs.WorldView.{WorldView}
use Rattle.kw_core.specs.Events.{is_valid, is_valid_from, local_of, may_step, walked, world}
use Rattle.kw_core.specs.Run.{Run, history, noted_by}
use Rattle.kw_core.proofs.Events.{may_come, valid_front}
use Rattle.kw_core.proofs.Happens.{Happens, happens, knows_next}
use Rattle.kw_core.proofs.Runs.{goes_on-moved, history-snoc, history-world}
use Rattle.kw_shape.proofs.Worlds.{world-local, world-rows}
use Rattle.kw_laws.proofs.LawProofs.{laws_hold}
use Rattle.kw_alone.specs.Alone.{ComesAt, FallsAfter, IsTurn, TurnsAt, activity_after, left_after}
use Rattle.kw_alone.specs.Falls.{Falls, HasFew, most_rest}
use Rattle.kw_alone.specs.Marks.{AreOf}
use Rattle.kw_alone.proofs.Bounding.{most}
use Rattle.kw_alone.proofs.Drawing.{facts_hold, marks_few}
use Rattle.kw_alone.proofs.Falling.{event_falls}
use Rattle.kw_alone.proofs.Knowing.{Both, both_hold}

-- Lists.

-- the last event of a valid list may come
may_last_from : (z : Sizes) (o : Opening) (w : WorldView) (es : List Event) (e : Event) → is_valid_from z o w (es ++ e ∷ []) ≡ true → may_step o (walked z w es) e ≡ true
unfolding is_valid_from walked
may_last_from z o w [] e ok = (and_parts (may_step o w e) true ok).0
may_last_from z o w (x ∷ es) e ok = may_last_from z o (step z w x).world es e (and_parts (may_step o w x) (is_valid_from z o (step z w x).world (es ++ e ∷ [])) ok).1

may_last : (z : Sizes) (o : Opening) (es : List Event) (e : Event) → is_valid z o (es ++ e ∷ []) ≡ true → may_step o (world z o es) e ≡ true
unfolding is_valid world
may_last z o es e ok = may_last_from z o (opened z o) es e ok

-- One event.

-- what a seat of a run knows is what it knows after the run's list
local_is : (w v : WorldView) (s : ℕ) (l : Local) → w ≡ v → slice_get w.locals s ≡ Some l → local_of v s ≡ l
local_is w v s l is knows = get_or_from_slice_get v.locals s l (resting 0) (subst (λ (x : WorldView). slice_get x.locals s ≡ Some l) is knows)

-- so what is said of the run is said of the list
falls_there : (z : Sizes) (o : Opening) (es : List Event) (e : Event) (w w' : WorldView) (l l' : Local) → w ≡ world z o es → w' ≡ world z o (es ++ e ∷ []) → slice_get w.locals e.seat ≡ Some l → slice_get w'.locals e.seat ≡ Some l' → Falls z w.rows (word z w) (word z w') l.activity l l' → FallsAfter z o es e
falls_there z o es e w w' l l' is is' knows knows' f =
    let rows : w.rows ≡ o.rows = ap (λ (x : WorldView). x.rows) is ∙ world-rows z o es in
    let f1 = subst (λ x. Falls z x (word z w) (word z w') l.activity l l') rows f in
    let f2 = subst (λ x. Falls z o.rows (word z x) (word z w') l.activity l l') is f1 in
    let f3 = subst (λ x. Falls z o.rows (word z (world z o es)) (word z x) l.activity l l') is' f2 in
    let f4 = subst (λ (x : Local). Falls z o.rows (word z (world z o es)) (word z (world z o (es ++ e ∷ []))) x.activity x l') (sym (local_is w (world z o es) e.seat l is knows)) f3 in
    subst (λ (x : Local). Falls z o.rows (word z (world z o es)) (word z (world z o (es ++ e ∷ []))) (activity_after z o e.seat es) (local_of (world z o es) e.seat) x) (sym (local_is w' (world z o (es ++ e ∷ [])) e.seat l' is' knows')) f4

-- what an event of a valid list is: its seat knows this before it and that after it
pub record Made (z : Sizes) (o : Opening) (es : List Event) (e : Event) : Type 0 where
  pub local : Local
  pub next : Local
  pub seat : e.seat < o.seats
  pub happens : Happens z (history z o es) (history z o (es ++ e ∷ [])) e.seat (offered (history z o es).world.rows e.choice) local next local.activity
  pub was : local_of (world z o es) e.seat ≡ local
  pub is : local_of (world z o (es ++ e ∷ [])) e.seat ≡ next

made_of : (z : Sizes) (o : Opening) (es : List Event) (e : Event) (r' : Run) (l l' : Local) → r' ≡ history z o (es ++ e ∷ []) → e.seat < o.seats → Happens z (history z o es) r' e.seat (offered (history z o es).world.rows e.choice) l l' l.activity → Made z o es e
made_of z o es e r' l l' is inside t =
    let h = subst (λ x. Happens z (history z o es) x e.seat (offered (history z o es).world.rows e.choice) l l' l.activity) is t in
    record {
      local = l;
      next = l';
      seat = inside;
      happens = h;
      was = local_is (history z o es).world (world z o es) e.seat l (history-world z o es) h.knows;
      is = local_is (history z o (es ++ e ∷ [])).world (world z o (es ++ e ∷ [])) e.seat l' (history-world z o (es ++ e ∷ [])) (knows_next h);
    }

pub made : (z : Sizes) (o : Opening) (es : List Event) (e : Event) → IsOpening z o → is_valid z o (es ++ e ∷ []) ≡ true → Made z o es e
made z o es e opening ok =
    let r = history z o es in
    let may : may_step o r.world e ≡ true = subst (λ w. may_step o w e ≡ true) (sym (history-world z o es)) (may_last z o es e ok) in
    let c = may_come o r.world e may in
    let both = both_hold z o opening es (valid_front z o es (e ∷ []) ok) in
    let is : noted_by z r e c.local ≡ history z o (es ++ e ∷ []) = sym (goes_on-moved z r e c.local c.knows c.moves) ∙ sym (history-snoc z o es e) in
    made_of z o es e (noted_by z r e c.local) c.local _ is c.seat (happens z r e c.local both.inv.shape.sane c.begins c.knows c.moves)

pub falls_after : (z : Sizes) (o : Opening) (es : List Event) (e : Event) → IsOpening z o → is_valid z o (es ++ e ∷ []) ≡ true → FallsAfter z o es e
falls_after z o es e opening ok =
    let before : is_valid z o es ≡ true = valid_front z o es (e ∷ []) ok in
    let both = both_hold z o opening es before in
    let after = (both_hold z o opening (es ++ e ∷ []) ok).inv in
    let m = made z o es e opening ok in
    let h = m.happens in
    let facts = facts_hold z (history z o es) (history z o (es ++ e ∷ [])) e.seat (offered (history z o es).world.rows e.choice) m.local m.local.activity m.next h (laws_hold z o opening es before) both.inv after both.known in
    falls_there z o es e (history z o es).world (history z o (es ++ e ∷ [])).world m.local m.next (history-world z o es) (history-world z o (es ++ e ∷ [])) h.knows (knows_next h)
    (event_falls z (history z o es) (history z o (es ++ e ∷ [])) e.seat (offered (history z o es).world.rows e.choice) m.local m.next m.local.activity h facts)

-- One world.

few_hold : (z : Sizes) (r : Run) (t : ℕ) (l : Local) → Both z r → slice_get r.world.locals t ≡ Some l → HasFew z r.world.rows l.activity l
few_hold z r t l b g =
    let known = b.inv.shape.sane.locals t l g in
    let n = b.known.taken t l g in
    record { remembered = omega (arith, known.room.remembered, marks_few z l.activity l known.ranges.activity known.ranges.looked); asked = known.below.rebalance.asked; taken = n.most; fewer = n.fewer }

pub most_after : (z : Sizes) (o : Opening) (es : List Event) (s : ℕ) → IsOpening z o → is_valid z o es ≡ true → s < o.seats → left_after z o s es ≤ most_rest z o.rows
most_after z o es s opening ok inside =
    let led : (history z o es).world ≡ world z o es = history-world z o es in
    let knows : slice_get (history z o es).world.locals s ≡ Some (local_of (world z o es) s) = subst (λ (w : WorldView). slice_get w.locals s ≡ Some (local_of (world z o es) s)) (sym led) (world-local z o es s inside) in
    let few = few_hold z (history z o es) s (local_of (world z o es) s) (both_hold z o opening es ok) knows in
    let rows : (history z o es).world.rows ≡ o.rows = ap (λ (x : WorldView). x.rows) led ∙ world-rows z o es in
    most z o.rows (word z (world z o es)) (activity_after z o s es) (local_of (world z o es) s) (subst (λ n. HasFew z n (activity_after z o s es) (local_of (world z o es) s)) rows few)

-- A list at whose end one seat makes all events.

module _ (R : Activity → Activity → Type 0) (z : Sizes) (o : Opening) (s : ℕ) where
  -- what comes in the rest of a list comes in the list
  pub comes_behind : (xs : List Event) (e : Event) (ys : List Event) (i : ℕ) → ComesAt R z o s (xs ++ e ∷ []) ys i → ComesAt R z o s xs (e ∷ ys) (suc i)
  comes_behind xs e ys i t =
      let a : (xs ++ e ∷ []) ++ take i ys ≡ xs ++ e ∷ take i ys = append_assoc xs (e ∷ []) (take i ys) in
      let b : (xs ++ e ∷ []) ++ take (i + 1) ys ≡ xs ++ e ∷ take (i + 1) ys = append_assoc xs (e ∷ []) (take (i + 1) ys) in
      let u = subst (λ x. R (activity_after z o s x) (activity_after z o s ((xs ++ e ∷ []) ++ take (i + 1) ys))) a t.1 in
      let w = subst (λ x. R (activity_after z o s (xs ++ e ∷ take i ys)) (activity_after z o s x)) b u in
      let n : suc (i + 1) ≡ suc i + 1 = omega arith in
      (omega (arith, t.0), subst (λ k. R (activity_after z o s (xs ++ e ∷ take i ys)) (activity_after z o s (xs ++ take k (e ∷ ys)))) n w)

  -- or it is the first event
  pub comes_here : (xs : List Event) (e : Event) (ys : List Event) → e.seat ≡ s → R (activity_after z o e.seat xs) (activity_after z o e.seat (xs ++ e ∷ [])) → ComesAt R z o s xs (e ∷ ys) 0
  comes_here xs e ys is t =
      let u = subst (λ x. R (activity_after z o s x) (activity_after z o s (xs ++ e ∷ []))) (sym (append-nil xs)) (subst (λ n. R (activity_after z o n xs) (activity_after z o n (xs ++ e ∷ []))) is t) in
      (omega arith, u)

-- the first event of the rest of a valid list
pub more_valid : (z : Sizes) (o : Opening) (xs : List Event) (e : Event) (ys : List Event) → is_valid z o (xs ++ e ∷ ys) ≡ true → is_valid z o ((xs ++ e ∷ []) ++ ys) ≡ true
more_valid z o xs e ys ok = subst (λ x. is_valid z o x ≡ true) (sym (append_assoc xs (e ∷ []) ys)) ok

pub here_valid : (z : Sizes) (o : Opening) (xs : List Event) (e : Event) (ys : List Event) → is_valid z o (xs ++ e ∷ ys) ≡ true → is_valid z o (xs ++ e ∷ []) ≡ true
here_valid z o xs e ys ok = valid_front z o (xs ++ e ∷ []) ys (more_valid z o xs e ys ok)

module _ (z : Sizes) (o : Opening) (s : ℕ) (opening : IsOpening z o) where
  -- the seat is one of the run's
  pub seat_inside : (xs : List Event) (e : Event) (ys : List Event) → is_valid z o (xs ++ e ∷ ys) ≡ true → e.seat ≡ s → s < o.seats
  seat_inside xs e ys ok own = subst (λ n. n < o.seats) own (made z o xs e opening (here_valid z o xs e ys ok)).seat

  turn_within : (xs ys : List Event) → is_valid z o (xs ++ ys) ≡ true → AreOf s ys → left_after z o s xs < length ys → (i : ℕ) × TurnsAt z o s xs ys i
  turn_within xs [] ok of less = absurd (omega (arith, less))
  turn_within xs (e ∷ ys) ok of less = which (falls_after z o xs e opening (here_valid z o xs e ys ok)) (turn_within (xs ++ e ∷ []) ys (more_valid z o xs e ys ok) (λ k d w. of (suc k) d (omega (arith, w))))
    where
      own : e.seat ≡ s
      own = of 0 e (omega arith)

      which : FallsAfter z o xs e → (left_after z o s (xs ++ e ∷ []) < length ys → (i : ℕ) × TurnsAt z o s (xs ++ e ∷ []) ys i) → (i : ℕ) × TurnsAt z o s xs (e ∷ ys) i
      which (inl m) next = (0, comes_here IsTurn z o s xs e ys own (inl m))
      which (inr (inl b)) next = (0, comes_here IsTurn z o s xs e ys own (inr b))
      which (inr (inr k)) next =
          let fell : left_after z o s (xs ++ e ∷ []) < left_after z o s xs = subst (λ n. left_after z o n (xs ++ e ∷ []) < left_after z o n xs) own k in
          let t = next (omega (arith, fell, less)) in
          (suc t.0, comes_behind IsTurn z o s xs e ys t.0 t.1)

  pub turn_comes : (xs ys : List Event) → is_valid z o (xs ++ ys) ≡ true → AreOf s ys → most_rest z o.rows < length ys → (i : ℕ) × TurnsAt z o s xs ys i
  turn_comes xs [] ok of less = absurd (omega (arith, less))
  turn_comes xs (e ∷ ys) ok of less =
      let inside = seat_inside xs e ys ok (of 0 e (omega arith)) in
      turn_within xs (e ∷ ys) ok of (omega (arith, less, most_after z o xs s opening (valid_front z o xs (e ∷ ys) ok) inside))
