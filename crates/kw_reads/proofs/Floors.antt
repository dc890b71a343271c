-- The event from which on a call knows all that was announced lies before now, and stays the same
-- as long as the call walks and reads.
use Rattle.std.proofs.Common.{ℕ, ◌≡◌, ◌<◌, Bool, true, false, Option, Some, None, refl, ◌∙◌, ap, length, slice_get, if◌then◌else◌}
use Rattle.kw_model.specs.declared.call.Call.{Call}
use Rattle.kw_model.specs.declared.call.Call.TheVariants.{Put, Del, Get, Scan, Pin, ScanAt, Unpin}
use Rattle.kw_world.specs.declared.activity.Activity.{Activity}
use Rattle.kw_world.specs.declared.activity.walk.Walk.TheVariants as Walk
use Rattle.kw_world.specs.declared.event.Choice.{Choice}
use Rattle.kw_world.specs.declared.local.Local.{Local}
use Rattle.kw_world.specs.Calls.{is_scan}
use Rattle.kw_world.specs.Sizes.{Sizes}
use Rattle.kw_core.specs.History.{called}
use Rattle.kw_core.specs.Run.{Run}
use Rattle.kw_core.specs.Stages.{HasDrawn, IsBusy, IsUnderway}
use Rattle.kw_core.specs.Step.{Step}
use Rattle.kw_core.specs.Words.{Words}
use Rattle.kw_core.specs.declared.seat_log.SeatLog.{SeatLog}
use Rattle.kw_core.proofs.Arrows.{Arrow, builds, asks_of_pin}
use Rattle.kw_core.proofs.Happens.{Happens, log_entry}
use Rattle.kw_core.proofs.SeatLogs.{IsNoDraw}
use Rattle.kw_core.proofs.Steps.{stands_before}
use Rattle.kw_shape.specs.Shape.{IsKind, IsPutCall}
use Rattle.kw_puts.proofs.OwnScans.{call_first, drawn_kept}
use Rattle.kw_puts.proofs.Rely.{Rely}
use Rattle.kw_reads.specs.Contents.{HasRow, floor_of}
use Rattle.kw_reads.specs.Inv.{Inv, lower}
use Rattle.kw_reads.proofs.HistoryKeeps.{history_step}
use Rattle.kw_reads.proofs.Later.{after_rebalance}
use Rattle.kw_reads.proofs.BuiltReads.{rebalance_next}
use Rattle.kw_puts.proofs.BuiltStages.{of_pin_is}

-- the seat is about to walk, walks, or is at its row
abbrev pub IsOnWay : Activity → Type 0
IsOnWay (Activity.Walk Walk.Start) = Unit {0}
IsOnWay (Activity.Walk Walk.First) = Unit {0}
IsOnWay a = HasRow a

-- such a seat is busy with its call
way_busy : (a : Activity) → IsOnWay a → IsBusy a
way_busy Activity.Idle x = absurd x
way_busy _ x = tt

-- a put or a delete is no scan
not_scan : {A : Type 0} (c : Option Call) → IsPutCall c → is_scan c ≡ true → A
not_scan (Some (Put key value)) x e = let y : false ≡ true = e in absurd (cc)
not_scan (Some (Del key)) x e = let y : false ≡ true = e in absurd (cc)
not_scan (Some (Get key)) x e = absurd x
not_scan (Some (Scan from upto)) x e = absurd x
not_scan (Some Pin) x e = absurd x
not_scan (Some (ScanAt from upto)) x e = absurd x
not_scan (Some Unpin) x e = absurd x
not_scan None x e = absurd x

-- a scan that is on its way has drawn
way_draws : (a : Activity) (l : Local) → IsOnWay a → IsKind a l → is_scan l.call ≡ true → HasDrawn a
way_draws (Activity.Put _) l x k e = not_scan l.call k e
way_draws (Activity.Insert _) l x k e = not_scan l.call k e
way_draws (Activity.Walk _) l x k e = tt
way_draws (Activity.Look _) l x k e = tt
way_draws (Activity.Read _) l x k e = tt
way_draws _ l x k e = absurd x

-- a seat that names a row was on its way, and its event neither begins nor ends a call, nor draws
pub row_from : (z : Sizes) (v : Words) (s : ℕ) (choice : Choice) (l : Local) (a : Activity) (k : Local) → Arrow z v s choice l a k → HasRow k.activity → IsOnWay a × IsUnderway a × IsNoDraw a
row_from z v s choice l (Activity.Rebalance b) k u x = after_rebalance k.activity (rebalance_next z v s choice l b k u) x
row_from z v s choice l a k (builds b next y t) x = absurd y
row_from z v s choice l a k (asks_of_pin next o n) x = absurd (of_pin_is (λ b. HasRow b → ⊥) (λ y. y) (λ y. y) (λ y. y) (λ y. y) (λ y. y) (λ y. y) n x)
row_from z v s choice l (Activity.Walk _) k b x = (tt, tt, tt)
row_from z v s choice l (Activity.Look _) k b x = (tt, tt, tt)
row_from z v s choice l (Activity.Read _) k b x = (tt, tt, tt)
row_from z v s choice l (Activity.Put _) k b x = (tt, tt, tt)
row_from z v s choice l (Activity.Insert _) k b x = (tt, tt, tt)
row_from z v s choice l a k b x = absurd x

module _ (z : Sizes) (r : Run) (i : Inv z r) (t : ℕ) (l : Local) (k : slice_get r.world.locals t ≡ Some l) (x : IsOnWay l.activity) where
  -- its call is one of the record
  call_within : (r.seats t).call < length r.history.calls
  call_within = (i.positions.calling t l k (way_busy l.activity x)).within

  -- the floor lies before now
  pub floor_before : floor_of r t l < length r.history.log
  floor_before = saw (is_scan l.call) refl
    where
      saw : (b : Bool) → is_scan l.call ≡ b → (let f : ℕ = if b then (r.seats t).drawn else (called r.history (r.seats t).call).first in f) < length r.history.log
      saw true e = let d = (i.positions.draws t l k).drawn e (way_draws l.activity l x (i.shape.kinds t l k).kind e) in stands_before r.history (r.seats t).drawn d.kind l.version d.stands
      saw false e = i.history.past.first (r.seats t).call call_within

  -- it is the same after an event of another seat
  pub floor_other : (r' : Run) → Rely z r r' t l → floor_of r' t l ≡ floor_of r t l
  floor_other r' y = saw (is_scan l.call)
    where
      saw : (b : Bool) → (let f : ℕ = if b then (r'.seats t).drawn else (called r'.history (r'.seats t).call).first in f) ≡ (let f : ℕ = if b then (r.seats t).drawn else (called r.history (r.seats t).call).first in f)
      saw true = ap (λ (g : SeatLog). g.drawn) y.log
      saw false = ap (λ (g : SeatLog). (called r'.history g.call).first) y.log ∙ (y.goes_on.calls (r.seats t).call call_within).first

-- and after the seat's own, with a local of the same call
pub floor_own : (z : Sizes) (r r' : Run) (s : ℕ) (choice : Choice) (l : Local) (a : Activity) (l' : Local) → Happens z r r' s choice l l' a → Inv z r → IsUnderway a → IsNoDraw a → (m : Local) → m.call ≡ l.call → floor_of r' s m ≡ floor_of r s l
floor_own z r r' s choice l a l' h i u n m c = ap (λ q. (let f : ℕ = if is_scan q then (r'.seats s).drawn else (called r'.history (r'.seats s).call).first in f)) c ∙ saw (is_scan l.call)
  where
    st : Step r.history r'.history (log_entry z r a s choice l)
    st = history_step z r r' s choice l a l' h i

    saw : (b : Bool) → (let f : ℕ = if b then (r'.seats s).drawn else (called r'.history (r'.seats s).call).first in f) ≡ (let f : ℕ = if b then (r.seats s).drawn else (called r.history (r.seats s).call).first in f)
    saw true = drawn_kept z r r' s choice l a l' h.arrow h (lower i) st n
    saw false = call_first z r r' s choice l a l' h.arrow h (lower i) st u
