-- The laws of the calls of one seat, over all valid lists.
use Rattle.std.proofs.Common.{ℕ, ◌≡◌, ◌≢◌, ◌⊎◌, inl, inr, ◌<◌, Bool, true, false, if◌then◌else◌, nat_lt, List, [], ◌∷◌, ◌++◌, Some, arith, refl, sym, ◌∙◌, ap, subst, length, slice_get}
use Rattle.std.proofs.lemmas.Bool.{and_parts, cases_eq}
use Rattle.std.proofs.lemmas.Option.{get_or_from_slice_get, slice_get-get_or}
use Rattle.kw_world.specs.declared.activity.Activity.{Activity}
use Rattle.kw_world.specs.declared.local.Local.{Local}
use Rattle.kw_world.specs.declared.event.Choice.{Choice}
use Rattle.kw_world.specs.declared.event.Choice.TheVariants.{Begin, Go, Guess, Stop}
use Rattle.kw_world.specs.declared.event.Event.{Event}
use Rattle.kw_world.specs.declared.opening.Opening.{Opening}
use Rattle.kw_world.specs.Sizes.{Sizes}
use Rattle.kw_world.specs.Local.{resting}
use Rattle.kw_world.specs.WorldView.{WorldView}
use Rattle.kw_world.specs.Opening.{IsOpening, opened}
use Rattle.kw_world.specs.WalkTransitions.{offered}
use Rattle.kw_world.specs.Table.{transition}
use Rattle.kw_world.specs.Step.{word, step, followed}
use Rattle.kw_core.specs.Events.{local_of, walked, world, may_step, is_valid_from, is_valid, of_seat, event}
use Rattle.kw_core.specs.Run.{Run, goes_on, noted_by, run, start, history}
use Rattle.kw_reads.specs.Inv.{Inv}
use Rattle.kw_core.specs.Stages.{IsBusy}
use Rattle.kw_laws.specs.SeatCalls.{CallSeen, calls_by, calls_of, calls_seen, seen_after, KeepsTurns, AreApart, AreStill}
use Rattle.kw_core.proofs.Events.{MayCome, may_come, valid_front, of_seat_own, of_seat_other}
use Rattle.kw_core.proofs.Runs.{goes_on-world, goes_on-moved, history-snoc, history-append, history-nil, history-world, holds_of_history}
use Rattle.kw_core.proofs.Happens.{Happens, happens, found_at}
use Rattle.kw_reads.proofs.Keeps.{inv_keeps}
use Rattle.kw_shape.proofs.ShapeOpens.{all_resting}
use Rattle.kw_reads.proofs.Opens.{inv_start}
use Rattle.kw_laws.proofs.Records.{seats_kept}
use Rattle.kw_laws.proofs.MirrorKeeps.{mirrors_hold}
use Rattle.kw_laws.proofs.SeatApart.{apart}
use Rattle.kw_laws.proofs.SeatLists.{seen_by, still-same, still-trans}
use Rattle.kw_laws.proofs.SeatTurns.{AreLatest, AllInTurn, seen_else, seen_own, latest_keeps, turns_keep, still_keeps}

-- all that every event keeps, and with it how the calls of each seat lie
record Turns (z : Sizes) (r : Run) : Type 0 where
  inv : Inv z r
  latest : AreLatest r
  turns : AllInTurn r

-- One event that may come.

module _ (z : Sizes) (o : Opening) (r : Run) (e : Event) (may : may_step o r.world e ≡ true) (x : Turns z r) where
  come : MayCome o r.world e
  come = may_come o r.world e may

  -- it is noted
  is_noted : goes_on z r e ≡ noted_by z r e come.local
  is_noted = goes_on-moved z r e come.local come.knows come.moves

  -- what its seat knows then
  next : Local
  next = (followed r.world.rows (transition z come.local.activity e.seat (offered r.world.rows e.choice) come.local) (found_at z (word z r.world) come.local.activity e.seat (offered r.world.rows e.choice) come.local)).local

  it : Happens z r (noted_by z r e come.local) e.seat (offered r.world.rows e.choice) come.local next come.local.activity
  unfolding next
  it = happens z r e come.local x.inv.shape.sane come.begins come.knows come.moves

  turns_go_on : Turns z (goes_on z r e)
  turns_go_on = subst (Turns z) (sym is_noted) (record {
    inv = inv_keeps z r (noted_by z r e come.local) e.seat (offered r.world.rows e.choice) come.local come.local.activity next it x.inv;
    latest = latest_keeps z r (noted_by z r e come.local) e.seat (offered r.world.rows e.choice) come.local next come.local.activity it x.inv x.latest;
    turns = turns_keep z r (noted_by z r e come.local) e.seat (offered r.world.rows e.choice) come.local next come.local.activity it x.inv x.latest x.turns;
  })

  -- the calls of another seat are the same
  one_else : (t : ℕ) → t ≢ e.seat → seen_by t (goes_on z r e).history.calls ≡ seen_by t r.history.calls
  one_else t d = ap (λ (q : Run). seen_by t q.history.calls) is_noted ∙ seen_else z r (noted_by z r e come.local) e.seat (offered r.world.rows e.choice) come.local next come.local.activity it x.inv t d

  -- the calls of its own seat go by its activity
  one_own : seen_by e.seat (goes_on z r e).history.calls ≡ seen_after come.local.activity (offered r.world.rows e.choice) come.local (length r.history.log) (seen_by e.seat r.history.calls)
  one_own = ap (λ (q : Run). seen_by e.seat q.history.calls) is_noted ∙ seen_own z r (noted_by z r e come.local) e.seat (offered r.world.rows e.choice) come.local next come.local.activity it x.inv x.latest

  -- the calls of every seat go on
  one_still : (t : ℕ) → AreStill (seen_by t r.history.calls) (seen_by t (goes_on z r e).history.calls)
  one_still t = subst (λ (q : Run). AreStill (seen_by t r.history.calls) (seen_by t q.history.calls)) (sym is_noted)
      (still_keeps z r (noted_by z r e come.local) e.seat (offered r.world.rows e.choice) come.local next come.local.activity it x.inv x.latest x.turns t)

-- where nothing happened yet
turns_start : (z : Sizes) (o : Opening) → IsOpening z o → Turns z (start z o)
turns_start z o opening = record {
  inv = inv_start z o opening;
  latest = λ t m g u y w e. absurd (omega (arith, w));
  turns = λ t m g. record {
    rests = λ e. omega arith;
    makes = λ u. absurd (subst (λ (m : Local). IsBusy m.activity) (all_resting o.seats t m g) u);
  };
}

-- after every valid list
turns_hold : (z : Sizes) (o : Opening) → IsOpening z o → (es : List Event) → is_valid z o es ≡ true → Turns z (history z o es)
turns_hold z o opening es ok = holds_of_history z o (Turns z) (turns_go_on z o) (turns_start z o opening) es ok

-- Lists.

-- the calls of a seat in a list are those of its record
seen_of : (z : Sizes) (o : Opening) (s : ℕ) (es : List Event) → calls_seen z o s es ≡ seen_by s (history z o es).history.calls
unfolding calls_seen calls_of calls_by
seen_of z o s es = refl

-- the rest of a valid list
valid_rest_from : (z : Sizes) (o : Opening) (w : WorldView) (xs ys : List Event) → is_valid_from z o w (xs ++ ys) ≡ true → is_valid_from z o (walked z w xs) ys ≡ true
unfolding is_valid_from walked
valid_rest_from z o w [] ys ok = ok
valid_rest_from z o w (x ∷ xs) ys ok = valid_rest_from z o (step z w x).world xs ys (and_parts (may_step o w x) (is_valid_from z o (step z w x).world (xs ++ ys)) ok).1

valid_rest : (z : Sizes) (o : Opening) (xs ys : List Event) → is_valid z o (xs ++ ys) ≡ true → is_valid_from z o (history z o xs).world ys ≡ true
unfolding is_valid world
valid_rest z o xs ys ok = subst (λ w. is_valid_from z o w ys ≡ true) (sym (history-world z o xs)) (valid_rest_from z o (opened z o) xs ys ok)

-- the last event of a valid list may come
valid_last : (z : Sizes) (o : Opening) (w : WorldView) (e : Event) → is_valid_from z o w (e ∷ []) ≡ true → may_step o w e ≡ true
unfolding is_valid_from
valid_last z o w e ok = (and_parts (may_step o w e) true ok).0

-- a guess that is not offered begins no call either
seen_offered : (a : Activity) (rows : ℕ) (choice : Choice) (l : Local) (n : ℕ) (cs : List CallSeen) → seen_after a (offered rows choice) l n cs ≡ seen_after a choice l n cs
seen_offered Activity.Idle rows (Begin call) l n cs = refl
seen_offered Activity.Idle rows Go l n cs = refl
seen_offered Activity.Idle rows (Guess q) l n cs = saw (nat_lt q rows)
  where
    saw : (b : Bool) → seen_after Activity.Idle (if b then Guess q else Go) l n cs ≡ cs
    saw true = refl
    saw false = refl
seen_offered Activity.Idle rows Stop l n cs = refl
seen_offered _ rows choice l n cs = refl

-- events of other seats
still_along : (z : Sizes) (o : Opening) (s : ℕ) (r : Run) (w : WorldView) (ys : List Event) → r.world ≡ w → is_valid_from z o w ys ≡ true → Turns z r → of_seat s ys ≡ [] → seen_by s (run z r ys).history.calls ≡ seen_by s r.history.calls
unfolding run is_valid_from
still_along z o s r w [] is ok x none = refl
still_along z o s r w (e ∷ es) is ok x none =
    let t = and_parts (may_step o w e) (is_valid_from z o (step z w e).world es) ok in
    let may : may_step o r.world e ≡ true = subst (λ q. may_step o q e ≡ true) (sym is) t.0 in
    which may (λ n. still_along z o s (goes_on z r e) (step z w e).world es (goes_on-world z r e ∙ ap (λ q. (step z q e).world) is) t.1 (turns_go_on z o r e may x) n) (cases_eq e.seat s)
  where
    which : may_step o r.world e ≡ true → (of_seat s es ≡ [] → seen_by s (run z (goes_on z r e) es).history.calls ≡ seen_by s (goes_on z r e).history.calls) → (e.seat ≡ s) ⊎ (e.seat ≡ s → ⊥) →
        seen_by s (run z (goes_on z r e) es).history.calls ≡ seen_by s r.history.calls
    which may rest (inl i) = let p = sym (of_seat_own s e es i) ∙ none in absurd (cc)
    which may rest (inr n) = rest (sym (of_seat_other s e es n) ∙ none) ∙ one_else z o r e may x s (λ i. n (sym i))

-- every event leaves the calls of every seat, but for their ends
lasts_along : (z : Sizes) (o : Opening) (s : ℕ) (r : Run) (w : WorldView) (ys : List Event) → r.world ≡ w → is_valid_from z o w ys ≡ true → Turns z r → AreStill (seen_by s r.history.calls) (seen_by s (run z r ys).history.calls)
unfolding run is_valid_from
lasts_along z o s r w [] is ok x = still-same _
lasts_along z o s r w (e ∷ es) is ok x =
    let t = and_parts (may_step o w e) (is_valid_from z o (step z w e).world es) ok in
    let may : may_step o r.world e ≡ true = subst (λ q. may_step o q e ≡ true) (sym is) t.0 in
    still-trans _ _ _ (one_still z o r e may x s)
    (lasts_along z o s (goes_on z r e) (step z w e).world es (goes_on-world z r e ∙ ap (λ q. (step z q e).world) is) t.1 (turns_go_on z o r e may x))

-- The laws.

-- no event makes no call
pub calls-none : (z : Sizes) (o : Opening) (s : ℕ) → calls_seen z o s [] ≡ []
calls-none z o s = seen_of z o s [] ∙ ap (λ (r : Run). seen_by s r.history.calls) (history-nil z o)

-- events of other seats leave the seat's calls
pub calls_still : (z : Sizes) (o : Opening) (s : ℕ) (xs ys : List Event) → IsOpening z o → is_valid z o (xs ++ ys) ≡ true → of_seat s ys ≡ [] → calls_seen z o s (xs ++ ys) ≡ calls_seen z o s xs
calls_still z o s xs ys opening ok none =
    seen_of z o s (xs ++ ys) ∙ ap (λ (r : Run). seen_by s r.history.calls) (history-append z o xs ys) ∙
    still_along z o s (history z o xs) (history z o xs).world ys refl (valid_rest z o xs ys ok) (turns_hold z o opening xs (valid_front z o xs ys ok)) none ∙
    sym (seen_of z o s xs)

-- an event of the seat
pub calls-own : (z : Sizes) (o : Opening) (s : ℕ) (xs : List Event) (choice : Choice) → IsOpening z o → is_valid z o (xs ++ event s choice ∷ []) ≡ true →
    calls_seen z o s (xs ++ event s choice ∷ []) ≡ seen_after (local_of (world z o xs) s).activity choice (local_of (world z o xs) s) (length xs) (calls_seen z o s xs)
calls-own z o s xs choice opening ok =
    let front = valid_front z o xs (event s choice ∷ []) ok in
    let r = history z o xs in
    let may = valid_last z o r.world (event s choice) (valid_rest z o xs (event s choice ∷ []) ok) in
    let x = turns_hold z o opening xs front in
    let c = come z o r (event s choice) may x in
    let l : local_of (world z o xs) s ≡ c.local = ap (λ w. local_of w s) (sym (history-world z o xs)) ∙ get_or_from_slice_get r.world.locals s c.local (resting 0) c.knows in
    let n : length r.history.log ≡ length xs = (mirrors_hold z o opening xs front).events in
    seen_of z o s (xs ++ event s choice ∷ []) ∙ ap (λ (q : Run). seen_by s q.history.calls) (history-snoc z o xs (event s choice)) ∙
    one_own z o r (event s choice) may x ∙ seen_offered c.local.activity r.world.rows choice c.local (length r.history.log) (seen_by s r.history.calls) ∙
    ap (λ (m : Local). seen_after m.activity choice m (length r.history.log) (seen_by s r.history.calls)) (sym l) ∙
    ap (λ k. seen_after (local_of (world z o xs) s).activity choice (local_of (world z o xs) s) k (seen_by s r.history.calls)) n ∙
    ap (λ cs. seen_after (local_of (world z o xs) s).activity choice (local_of (world z o xs) s) (length xs) cs) (sym (seen_of z o s xs))

-- the seat's calls lie in turn
pub calls_in_turn : (z : Sizes) (o : Opening) (s : ℕ) (es : List Event) → IsOpening z o → is_valid z o es ≡ true → s < o.seats → KeepsTurns (length es) (local_of (world z o es) s) (calls_seen z o s es)
calls_in_turn z o s es opening ok inside =
    let w = history-world z o es in
    let known : slice_get (world z o es).locals s ≡ Some (local_of (world z o es) s) = slice_get-get_or (world z o es).locals s (resting 0) (omega (arith, inside, seats_kept z o es ok)) in
    let x = (turns_hold z o opening es ok).turns s (local_of (world z o es) s) (ap (λ q. slice_get q.locals s) w ∙ known) in
    rw (seen_of z o s es, sym (mirrors_hold z o opening es ok).events) x

-- so they are apart
pub calls_apart : (z : Sizes) (o : Opening) (s : ℕ) (es : List Event) → IsOpening z o → is_valid z o es ≡ true → s < o.seats → AreApart (length es) (calls_seen z o s es)
calls_apart z o s es opening ok inside = apart (length es) (local_of (world z o es) s) (calls_seen z o s es) (calls_in_turn z o s es opening ok inside)

-- a longer list has the calls of a shorter one
pub calls_last : (z : Sizes) (o : Opening) (s : ℕ) (xs ys : List Event) → IsOpening z o → is_valid z o (xs ++ ys) ≡ true → AreStill (calls_seen z o s xs) (calls_seen z o s (xs ++ ys))
calls_last z o s xs ys opening ok =
    rw (seen_of z o s xs, seen_of z o s (xs ++ ys), history-append z o xs ys)
    (lasts_along z o s (history z o xs) (history z o xs).world ys refl (valid_rest z o xs ys ok) (turns_hold z o opening xs (valid_front z o xs ys ok)))
