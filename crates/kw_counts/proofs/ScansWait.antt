-- A scan waits once at most, by induction over the events: a seat that has yet to wait for its scan
-- has stored so for one scan less than it has begun.
use Rattle.std.proofs.Common.{ℕ, ◌≡◌, ◌≢◌, ◌⊎◌, inl, inr, ◌+◌, ◌≤◌, Option, None, Some, List, [], ◌∷◌, ◌++◌, arith, refl, sym, ap, subst, slice_get, length}
use Rattle.std.proofs.lemmas.Bool.{cases_eq}
use Rattle.kw_words.specs.declared.layout.Name.TheVariants as name
use Rattle.kw_model.specs.declared.call.Call.{Call}
use Rattle.kw_model.specs.declared.call.Call.TheVariants.{Del, Get, Put, Scan, Pin, ScanAt, Unpin}
use Rattle.kw_model.specs.declared.call.Reply.{Reply}
use Rattle.kw_world.specs.declared.activity.Activity.{Activity}
use Rattle.kw_world.specs.declared.activity.draw.Draw.TheVariants as Draw
use Rattle.kw_world.specs.declared.activity.enter.Enter.TheVariants as Enter
use Rattle.kw_world.specs.declared.activity.rebalance.freeze.Freeze.TheVariants as Freeze
use Rattle.kw_world.specs.declared.activity.rebalance.Rebalance.TheVariants as Rebalance
use Rattle.kw_world.specs.declared.event.Choice.{Choice}
use Rattle.kw_world.specs.declared.event.Choice.TheVariants.{Begin}
use Rattle.kw_world.specs.declared.local.Local.{Local}
use Rattle.kw_world.specs.declared.opening.Opening.{Opening}
use Rattle.kw_world.specs.Answers.{reply_of}
use Rattle.kw_world.specs.Sizes.{Sizes}
use Rattle.kw_world.specs.Step.{word}
use Rattle.kw_core.specs.Run.{Run, start}
use Rattle.kw_core.specs.Stages.{IsUnderway}
use Rattle.kw_core.specs.Words.{Words}
use Rattle.kw_core.proofs.Arrows.{Arrow, begins, builds}
use Rattle.kw_core.proofs.Building.{IsBuilding}
use Rattle.kw_core.proofs.Happens.{Happens, each_seat}
use Rattle.kw_shape.specs.Shape.{IsKind, IsPutCall, IsScanCall}
use Rattle.kw_shape.proofs.NextCalls.{arrow_call}
use Rattle.kw_shape.proofs.ShapeOpens.{each_rests}
use Rattle.kw_puts.specs.Positions.{HasLoaded}
use Rattle.kw_puts.proofs.OwnScans.{loaded_from}
use Rattle.kw_reads.specs.Inv.{Inv}
use Rattle.kw_laws.specs.SeatCalls.{CallSeen, end_last, seen_after}
use Rattle.kw_laws.proofs.ScanArrows.{IsBeforeLoad, IsTurning, before_from}
use Rattle.kw_laws.proofs.SeatLists.{seen_by}
use Rattle.kw_laws.proofs.SeatTurns.{AreLatest, seen_else, seen_own}
use Rattle.kw_counts.specs.Counts.{Draws, draws_after, no_draws}
use Rattle.kw_counts.specs.Draws.{scan_one, scans_in}
use Rattle.kw_counts.proofs.Updates.{at_left, at_set}

-- What is kept.

-- 1 for a call that waits to draw
abbrev scans_of : Option Call → ℕ
scans_of (Some call) = scan_one call
scans_of None = 0

-- 1 for a seat that makes a scan and has yet to store that it waits
abbrev ahead : Activity → Local → ℕ
ahead (Activity.Enter _) l = scans_of l.call
ahead (Activity.Draw Draw.Clock) l = scans_of l.call
ahead (Activity.Draw Draw.Wait) l = scans_of l.call
ahead _ l = 0

-- each wait of a seat was for a scan of its own, and it has begun one more where it has yet to wait
pub record Waited (r : Run) (d : Draws) : Type 0 where
  pub most : (t : ℕ) → d.waits t ≤ scans_in (seen_by t r.history.calls)
  pub ahead_of : (t : ℕ) (k : Local) → slice_get r.world.locals t ≡ Some k → d.waits t + ahead k.activity k ≤ scans_in (seen_by t r.history.calls)

-- Calls.

scans_in-push : (cs ds : List CallSeen) → scans_in (cs ++ ds) ≡ scans_in cs + scans_in ds
scans_in-push [] ds = omega arith
scans_in-push (c ∷ cs) ds = omega (arith, scans_in-push cs ds)

-- a call that ends is the same one
scans_in-ended : (n : ℕ) (reply : Reply) (cs : List CallSeen) → scans_in (end_last n reply cs) ≡ scans_in cs
unfolding end_last
scans_in-ended n reply [] = refl
scans_in-ended n reply (c ∷ []) = refl
scans_in-ended n reply (c ∷ d ∷ cs) = omega (arith, scans_in-ended n reply (d ∷ cs))

is_scan_one : (c : Option Call) → IsScanCall c → scans_of c ≡ 1
is_scan_one (Some (Scan from upto)) x = refl
is_scan_one (Some (Put key value)) x = absurd x
is_scan_one (Some (Del key)) x = absurd x
is_scan_one (Some (Get key)) x = absurd x
is_scan_one (Some Pin) x = refl
is_scan_one (Some (ScanAt from upto)) x = absurd x
is_scan_one (Some Unpin) x = absurd x
is_scan_one None x = absurd x

put_is_none : (c : Option Call) → IsPutCall c → scans_of c ≡ 0
put_is_none (Some (Put key value)) x = refl
put_is_none (Some (Del key)) x = refl
put_is_none (Some (Get key)) x = absurd x
put_is_none (Some (Scan from upto)) x = absurd x
put_is_none (Some Pin) x = absurd x
put_is_none (Some (ScanAt from upto)) x = refl
put_is_none (Some Unpin) x = refl
put_is_none None x = absurd x

-- Where the seat has yet to wait.

ahead_most : (a : Activity) (l : Local) → ahead a l ≤ scans_of l.call
ahead_most (Activity.Enter _) l = omega arith
ahead_most (Activity.Draw Draw.Clock) l = omega arith
ahead_most (Activity.Draw Draw.Wait) l = omega arith
ahead_most (Activity.Draw Draw.Version) l = omega arith
ahead_most _ l = omega arith

-- a seat has not, or has not loaded the clock, or is about to store that it waits
data AheadAt (a : Activity) (l : Local) : Type 0 where
  is_none : ahead a l ≡ 0 → AheadAt a l
  is_before : IsBeforeLoad a → AheadAt a l
  is_to_wait : a ≡ Activity.Draw Draw.Wait → AheadAt a l

ahead_at : (a : Activity) (l : Local) → AheadAt a l
ahead_at (Activity.Enter e) l = is_before tt
ahead_at (Activity.Draw Draw.Clock) l = is_before tt
ahead_at (Activity.Draw Draw.Wait) l = is_to_wait refl
ahead_at _ l = is_none refl

-- an event that comes from elsewhere does not lead there
none_ahead : (z : Sizes) (v : Words) (s : ℕ) (choice : Choice) (l : Local) (a : Activity) (k : Local) → Arrow z v s choice l a k → (IsBeforeLoad a → ⊥) → (IsTurning a → ⊥) → a ≢ Activity.Draw Draw.Wait → ahead k.activity k ≡ 0
none_ahead z v s choice l a k t before turns waits = which (ahead_at k.activity k)
  where
    loads : k.activity ≡ Activity.Draw Draw.Wait → HasLoaded k.activity
    loads e = subst HasLoaded (sym e) tt

    not_loaded : {A : Type 0} → ((a ≡ Activity.Draw Draw.Clock) × (k ≡ record l { waiting = v name.Clock; activity = Activity.Draw Draw.Wait })) ⊎ ((a ≡ Activity.Draw Draw.Wait) × (k ≡ record l { activity = Activity.Draw Draw.Version })) → A
    not_loaded (inl p) = absurd (before (subst IsBeforeLoad (sym p.0) tt))
    not_loaded (inr p) = absurd (waits p.0)

    not_before : {A : Type 0} → IsBeforeLoad a ⊎ IsTurning a → A
    not_before (inl x) = absurd (before x)
    not_before (inr x) = absurd (turns x)

    which : AheadAt k.activity k → ahead k.activity k ≡ 0
    which (is_none e) = e
    which (is_before x) = not_before (before_from z v s choice l a k t x)
    which (is_to_wait e) = not_loaded (loaded_from z v s choice l a k t (loads e))

-- a call begins
abbrev IsIdle : Activity → Type 0
IsIdle Activity.Idle = Unit {0}
IsIdle _ = ⊥

record Begun (choice : Choice) (k : Local) : Type 0 where
  call : Call
  chosen : choice ≡ Begin call
  enters : k.activity ≡ Activity.Enter Enter.Announce
  asks : k.call ≡ Some call

idle_builds : {A : Type 0} (a : Activity) → IsIdle a → IsBuilding a → A
idle_builds Activity.Idle x o = absurd o
idle_builds _ x o = absurd x

begun : (z : Sizes) (v : Words) (s : ℕ) (choice : Choice) (l : Local) (a : Activity) (k : Local) → Arrow z v s choice l a k → IsIdle a → Begun choice k
begun z v s choice l a k (begins call e b) x = record { call = call; chosen = e; enters = refl; asks = refl }
begun z v s choice l a k (builds b next y t) x = idle_builds b x y
begun z v s choice l a k _ x = absurd x

-- 1 where the event stores that a scan waits
abbrev waits_now : Activity → ℕ
waits_now (Activity.Draw Draw.Wait) = 1
waits_now _ = 0

waits_own : (a : Activity) (s : ℕ) (d : Draws) → (draws_after a s d).waits s ≡ d.waits s + waits_now a
waits_own (Activity.Draw Draw.Wait) s d = at_set d.waits s (d.waits s + 1) s refl
waits_own (Activity.Draw Draw.Version) s d = omega arith
waits_own (Activity.Rebalance (Rebalance.Freeze (Freeze.Draw j))) s d = omega arith
waits_own _ s d = omega arith

waits_other : (a : Activity) (s : ℕ) (d : Draws) (t : ℕ) → t ≢ s → (draws_after a s d).waits t ≡ d.waits t
waits_other (Activity.Draw Draw.Wait) s d t n = at_left d.waits s (d.waits s + 1) t n
waits_other (Activity.Rebalance (Rebalance.Freeze (Freeze.Draw j))) s d t n = refl
waits_other _ s d t n = refl

-- One event.

module _ (z : Sizes) (r r' : Run) (s : ℕ) (choice : Choice) (l l' : Local) (a : Activity) (h : Happens z r r' s choice l l' a) (v : Inv z r) (latest : AreLatest r) (d : Draws) (x : Waited r d) where
  kind : (b : Activity) → Happens z r r' s choice l l' b → IsKind b l
  kind b g = subst (λ c. IsKind c l) g.activity (v.shape.kinds s l g.knows).kind

  -- a seat in a call goes on with that call
  same_scans : (b : Activity) → Happens z r r' s choice l l' b → IsUnderway b → ahead l'.activity l' ≤ scans_of l.call
  same_scans b g u = omega (arith, ahead_most l'.activity l', ap scans_of (arrow_call z (word z r.world) s choice l b l' g.arrow u).0)

  -- it has yet to wait only where it had, and where it waits it has not
  ahead_goes : (b : Activity) → Happens z r r' s choice l l' b → (IsIdle b → ⊥) → ahead l'.activity l' + waits_now b ≤ ahead b l
  ahead_goes Activity.Idle g n = absurd (n tt)
  ahead_goes (Activity.Enter e) g n = omega (arith, same_scans (Activity.Enter e) g tt)
  ahead_goes (Activity.Draw Draw.Clock) g n = omega (arith, same_scans (Activity.Draw Draw.Clock) g tt)
  ahead_goes (Activity.Draw Draw.Wait) g n = omega (arith, ap (λ (k : Local). ahead k.activity k) g.next, is_scan_one l.call (kind _ g))
  ahead_goes (Activity.Leave answer) g n = omega (arith, ap (λ (k : Local). ahead k.activity k) g.next)
  ahead_goes Activity.Retry g n = omega (arith, same_scans Activity.Retry g tt, put_is_none l.call (kind _ g))
  ahead_goes b g n = omega (arith, none_ahead z (word z r.world) s choice l b l' g.arrow (λ y. y) (λ y. y) (λ y. cc))

  own : (draws_after a s d).waits s + ahead l'.activity l' ≤ scans_in (seen_by s r'.history.calls)
  own = subst (λ cs. (draws_after a s d).waits s + ahead l'.activity l' ≤ scans_in cs) (sym (seen_own z r r' s choice l l' a h v latest)) (by a h)
    where
      seen : List CallSeen
      seen = seen_by s r.history.calls

      was : (b : Activity) → Happens z r r' s choice l l' b → d.waits s + ahead b l ≤ scans_in seen
      was b g = subst (λ c. d.waits s + ahead c l ≤ scans_in seen) g.activity (x.ahead_of s l g.knows)

      -- the seat goes on with its calls
      stays : (b : Activity) → Happens z r r' s choice l l' b → (IsIdle b → ⊥) → (draws_after b s d).waits s + ahead l'.activity l' ≤ scans_in seen
      stays b g n = omega (arith, waits_own b s d, ahead_goes b g n, was b g)

      begun_call : Happens z r r' s choice l l' Activity.Idle → Begun choice l' → d.waits s + ahead l'.activity l' ≤ scans_in (seen_after Activity.Idle choice l (length r.history.log) seen)
      begun_call g b = subst (λ c. d.waits s + ahead l'.activity l' ≤ scans_in (seen_after Activity.Idle c l (length r.history.log) seen)) (sym b.chosen)
          (omega (arith, x.most s, ahead_most l'.activity l', ap scans_of b.asks, scans_in-push seen (record { number = l.number + 1; call = b.call; first = length r.history.log; end = None } ∷ [])))

      by : (b : Activity) → Happens z r r' s choice l l' b → (draws_after b s d).waits s + ahead l'.activity l' ≤ scans_in (seen_after b choice l (length r.history.log) seen)
      by Activity.Idle g = begun_call g (begun z (word z r.world) s choice l Activity.Idle l' g.arrow tt)
      by (Activity.Leave answer) g = omega (arith, stays (Activity.Leave answer) g (λ y. y), scans_in-ended (length r.history.log) (reply_of answer l.pairs) seen)
      by b g = stays b g (λ y. y)

  pub waited_keeps : Waited r' (draws_after a s d)
  waited_keeps = record {
    most = λ t. which t (cases_eq t s);
    ahead_of = each_seat h (λ t k. (draws_after a s d).waits t + ahead k.activity k ≤ scans_in (seen_by t r'.history.calls)) own
        (λ t k n g. omega (arith, x.ahead_of t k g, waits_other a s d t n, ap scans_in (seen_else z r r' s choice l l' a h v t n)));
  }
    where
      which : (t : ℕ) → (t ≡ s) ⊎ (t ≡ s → ⊥) → (draws_after a s d).waits t ≤ scans_in (seen_by t r'.history.calls)
      which t (inl e) = subst (λ q. (draws_after a s d).waits q ≤ scans_in (seen_by q r'.history.calls)) (sym e) (omega (arith, own))
      which t (inr n) = omega (arith, x.most t, waits_other a s d t n, ap scans_in (seen_else z r r' s choice l l' a h v t n))

-- Where a run begins no scan has waited.
pub waited_start : (z : Sizes) (o : Opening) → Waited (start z o) no_draws
waited_start z o = record {
  most = λ t. omega arith;
  ahead_of = each_rests z o (λ t k. 0 + ahead k.activity k ≤ 0) (λ t. omega arith);
}
