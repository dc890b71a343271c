-- The word of a scan, and where its seat drew and looked, over the seat's own event.
use Rattle.std.proofs.Common.{ℕ, zero, suc, ◌≡◌, ◌≢◌, eq-eqb, ◌⊎◌, inl, inr, ◌<◌, ◌≤◌, Bool, true, false, Option, Some, None, arith, refl, sym, ◌∙◌, ap, subst, length}
use Rattle.std.proofs.lemmas.Bool.{cases_eq}
use Rattle.kw_words.specs.declared.layout.Name.TheVariants as name
use Rattle.kw_words.specs.declared.scan.ScanWord.TheVariants.{Quiet, Waiting, Drawn}
use Rattle.kw_words.specs.Scan.{scan_of, scan_word}
use Rattle.kw_words.proofs.ScanWords.{scan_of-Waiting, scan_of-scan_word}
use Rattle.kw_model.specs.declared.call.Call.{Call}
use Rattle.kw_model.specs.declared.call.Call.TheVariants.{Put, Del, Get, Scan, Pin, ScanAt, Unpin}
use Rattle.kw_world.specs.declared.activity.Activity.{Activity}
use Rattle.kw_world.specs.declared.activity.draw.Draw.TheVariants as Draw
use Rattle.kw_world.specs.declared.activity.rebalance.freeze.Freeze.TheVariants as Freeze
use Rattle.kw_world.specs.declared.activity.insert.Insert.TheVariants as Insert
use Rattle.kw_world.specs.declared.activity.look.Look.TheVariants as Look
use Rattle.kw_world.specs.declared.activity.put.Put.TheVariants as Put
use Rattle.kw_world.specs.declared.activity.read.Read.TheVariants as Read
use Rattle.kw_world.specs.declared.activity.rebalance.Rebalance.TheVariants as Rebalance
use Rattle.kw_world.specs.declared.activity.rebalance.replace.Replace.TheVariants as Replace
use Rattle.kw_world.specs.declared.activity.walk.Walk.TheVariants as Walk
use Rattle.kw_world.specs.declared.activity.rebalance.claim.Claim.TheVariants as Claim
use Rattle.kw_world.specs.declared.activity.rebalance.engage.Engage.TheVariants as Engage
use Rattle.kw_world.specs.declared.activity.enter.Enter.TheVariants as Enter
use Rattle.kw_world.specs.declared.activity.rebalance.gather.Gather.TheVariants as Gather
use Rattle.kw_world.specs.declared.activity.rebalance.seek.Seek.TheVariants as Seek
use Rattle.kw_world.specs.declared.activity.rebalance.write.Write.TheVariants as Write
use Rattle.kw_world.specs.declared.local.Local.{Local}
use Rattle.kw_world.specs.declared.event.Choice.{Choice}
use Rattle.kw_world.specs.Sizes.{Sizes}
use Rattle.kw_world.specs.Calls.{is_scan}
use Rattle.kw_world.specs.ScanTransitions.{version_settled}
use Rattle.kw_world.specs.WalkTransitions.{walk_transition, is_stopped}
use Rattle.kw_world.specs.Step.{word, followed}
use Rattle.kw_core.specs.History.{History, called, Draw, Stands}
use Rattle.kw_core.specs.Run.{Run}
use Rattle.kw_core.specs.declared.seat_log.SeatLog.{SeatLog}
use Rattle.kw_core.specs.Stages.{is_put, IsBusy, IsCovering, IsWaiting, IsSettling, IsSettled, HasDrawn, IsReading, IsUnderway, IsAtRead}
use Rattle.kw_core.specs.Words.{Words}
use Rattle.kw_shape.specs.Shape.{IsKind, IsScanCall}
use Rattle.kw_puts.specs.Positions.{IsScanning, Draws, IsDrawnAt, IsHelped, HasLoaded}
use Rattle.kw_puts.specs.Below.{Below}
use Rattle.kw_core.specs.Step.{Step}
use Rattle.kw_core.proofs.Happens.{log_entry, not_exchanged}
use Rattle.kw_puts.proofs.Owners.{true_false}
use Rattle.kw_core.proofs.Frame.{unwritten, no_link, same_scan}
use Rattle.kw_core.proofs.Steps.{new_stands, stands_before}
use Rattle.kw_puts.proofs.RelyProof.{goes_on_by}
use Rattle.kw_core.proofs.Happens.{Changed, Happens, exchanged}
use Rattle.kw_core.proofs.Building.{IsBuilding}
use Rattle.kw_core.proofs.BuiltNext.{built_next}
use Rattle.kw_puts.proofs.BuiltStages.{after_at_read, after_drawn, after_loaded, after_reading, after_settled, after_settling, after_waiting, balancing_drawn, balancing_loaded, balancing_reading, balancing_settled, balancing_waiting, building_after, building_underway, counted_not, freezing_goes, gathering_goes, no_scan_replaced, of_pin_is}
use Rattle.kw_core.proofs.Arrows.{builds, NextLook, looks, lists, NextLeftOver, goes_to_left_over, answers, ends_scan, scans_on, Arrow, begins, enters, stores_waiting, draws, settles_empty, settles, stops, starts_at_head, guesses, guess_fails, takes_head, guess_serves, guess_is_above, reads_last, reads_before, puts_in_last, puts_before, reaches_next, walks_on, sees_pending, is_wanted, loads_to_help, list_leads, key_below, key_within, loads_version, gathers_listed, left_over_wanted, sees_stamped, sees_neither, is_gone_by, helps, finds_stamped, finds_other, list_ends, key_above, left_over_gone_by, gathers_left_over, clears_scan, leaves, waits, begins_at_first, begins_behind, first_ends, first_leads, decides, marks_led, asks_of_pin, stores_pin, settles_pin}
use Rattle.kw_core.proofs.SeatLogs.{IsNoDraw, call_kept, draw_kept, look_kept, settle_kept, settle_lost}
use Rattle.kw_shape.proofs.NextCalls.{arrow_call}
use Rattle.kw_core.specs.Ledger.{Ledger}
use Rattle.kw_world.specs.Sane.{IsVersion}
use Rattle.kw_words.specs.declared.kind.Kind.{Kind}
use Rattle.kw_core.proofs.FreezeFrame.{SettlesScan, clock_never_falls}
use Rattle.kw_core.proofs.Pinning.{IsOfPin}
use Rattle.kw_shape.proofs.AfterBuilding.{of_pin_goes, scan_is_no_pin, kind_at}

-- Where a seat goes on to.

-- after a look at an entry or a cell: it goes on reading, it walks on, or it is over
abbrev pub IsAfterRead : Activity → Type 0
IsAfterRead (Activity.Look _) = Unit {0}
IsAfterRead (Activity.Read _) = Unit {0}
IsAfterRead (Activity.Walk Walk.Next) = Unit {0}
IsAfterRead (Activity.EndScan answer) = Unit {0}
IsAfterRead (Activity.Leave answer) = Unit {0}
IsAfterRead _ = ⊥

-- the next look
look_after : (z : Sizes) (j : ℕ) (next : Activity) → NextLook z j next → IsAfterRead next
look_after z j next (looks w) = tt
look_after z j next (lists w) = tt

-- what follows a cell
cell_after : (l : Local) (k : Local) → NextLeftOver l k → IsAfterRead k.activity
cell_after l k (goes_to_left_over m w) = tt
cell_after l k (answers w e) = tt
cell_after l k (ends_scan w e f) = tt
cell_after l k (scans_on r w e f o) = tt

-- where a seat that reads a row goes on to
pub after_read : (z : Sizes) (v : Words) (s : ℕ) (choice : Choice) (l : Local) (a : Activity) (k : Local) → Arrow z v s choice l a k → IsAtRead a → IsAfterRead k.activity
after_read z v s choice l a k (builds b next y t) x = after_at_read b (building_after b y) x
after_read z v s choice l a k (sees_stamped j c version next e n) x = look_after z _ next n
after_read z v s choice l a k (sees_neither j next e n) x = look_after z _ next n
after_read z v s choice l a k (is_gone_by next e n) x = look_after z _ next n
after_read z v s choice l a k (helps next e n) x = look_after z _ next n
after_read z v s choice l a k (finds_stamped c version next e n) x = look_after z _ next n
after_read z v s choice l a k (finds_other next e n) x = look_after z _ next n
after_read z v s choice l a k (first_ends next e n) x = cell_after _ next n
after_read z v s choice l a k (list_ends next e n) x = cell_after _ next n
after_read z v s choice l a k (key_above next e n) x = cell_after _ next n
after_read z v s choice l a k (left_over_gone_by next e n) x = cell_after _ next n
after_read z v s choice l a k (gathers_left_over next n) x = cell_after _ next n
after_read z v s choice l (Activity.Look (Look.Entry j)) k b x = tt
after_read z v s choice l (Activity.Look Look.Key) k b x = tt
after_read z v s choice l (Activity.Look Look.Clock) k b x = tt
after_read z v s choice l (Activity.Read Read.Start) k b x = tt
after_read z v s choice l (Activity.Read Read.Link) k b x = tt
after_read z v s choice l (Activity.Read Read.Key) k b x = tt
after_read z v s choice l (Activity.Read Read.Version) k b x = tt
after_read z v s choice l (Activity.Read Read.Value) k b x = tt
after_read z v s choice l (Activity.Read Read.LeftOverKey) k b x = tt
after_read z v s choice l a k b x = absurd x

-- a read row does not lead to a scan that has loaded the clock
loaded_not_read : (c : Activity) → HasLoaded c → IsAfterRead c → ⊥
loaded_not_read (Activity.Draw Draw.Wait) x y = y
loaded_not_read (Activity.Draw Draw.Version) x y = y
loaded_not_read (Activity.Walk Walk.First) x y = x
loaded_not_read _ x y = x

-- a read row does not lead to a scan's beginning
waiting_not_read : (c : Activity) → IsWaiting c → IsAfterRead c → ⊥
waiting_not_read (Activity.Draw Draw.Version) x y = y
waiting_not_read (Activity.Draw Draw.Settle) x y = y
waiting_not_read (Activity.Walk Walk.First) x y = x
waiting_not_read _ x y = x

-- a scan that is to settle still says that it waits
pub settling_waits : (c : Activity) → IsSettling c → IsWaiting c
settling_waits (Activity.Draw Draw.Settle) x = tt
settling_waits _ x = absurd x

-- the event that leads to a waiting scan is the store of its word, or its draw
pub waits_from : (z : Sizes) (v : Words) (s : ℕ) (choice : Choice) (l : Local) (a : Activity) (k : Local) → Arrow z v s choice l a k → IsWaiting k.activity → ((a ≡ Activity.Draw Draw.Wait) × (k ≡ record l { activity = Activity.Draw Draw.Version })) ⊎ ((a ≡ Activity.Draw Draw.Version) × (k ≡ record l { drawn = v name.Clock; activity = Activity.Draw Draw.Settle }))
waits_from z v s choice l a k (builds b next y t) x = after_waiting next.activity (built_next z v choice l b next t) x
waits_from z v s choice l a k (asks_of_pin next o n) x = absurd (of_pin_is (λ b. IsWaiting b → ⊥) (λ y. y) (λ y. y) (λ y. y) (λ y. y) (λ y. y) (λ y. y) n x)
waits_from z v s choice l a k stores_waiting x = inl (refl, refl)
waits_from z v s choice l a k draws x = inr (refl, refl)
waits_from z v s choice l (Activity.Look (Look.Entry j)) k b x = absurd (waiting_not_read k.activity x (after_read z v s choice l (Activity.Look (Look.Entry j)) k b tt))
waits_from z v s choice l (Activity.Look Look.Key) k b x = absurd (waiting_not_read k.activity x (after_read z v s choice l (Activity.Look Look.Key) k b tt))
waits_from z v s choice l (Activity.Look Look.Clock) k b x = absurd (waiting_not_read k.activity x (after_read z v s choice l (Activity.Look Look.Clock) k b tt))
waits_from z v s choice l (Activity.Look Look.Help) k b x = absurd (waiting_not_read k.activity x (after_read z v s choice l (Activity.Look Look.Help) k b tt))
waits_from z v s choice l (Activity.Read Read.Start) k b x = absurd (waiting_not_read k.activity x (after_read z v s choice l (Activity.Read Read.Start) k b tt))
waits_from z v s choice l (Activity.Read Read.Link) k b x = absurd (waiting_not_read k.activity x (after_read z v s choice l (Activity.Read Read.Link) k b tt))
waits_from z v s choice l (Activity.Read Read.Key) k b x = absurd (waiting_not_read k.activity x (after_read z v s choice l (Activity.Read Read.Key) k b tt))
waits_from z v s choice l (Activity.Read Read.Version) k b x = absurd (waiting_not_read k.activity x (after_read z v s choice l (Activity.Read Read.Version) k b tt))
waits_from z v s choice l (Activity.Read Read.Value) k b x = absurd (waiting_not_read k.activity x (after_read z v s choice l (Activity.Read Read.Value) k b tt))
waits_from z v s choice l (Activity.Read Read.LeftOverKey) k b x = absurd (waiting_not_read k.activity x (after_read z v s choice l (Activity.Read Read.LeftOverKey) k b tt))
waits_from z v s choice l (Activity.Read Read.LeftOverValue) k b x = absurd (waiting_not_read k.activity x (after_read z v s choice l (Activity.Read Read.LeftOverValue) k b tt))
waits_from z v s choice l (Activity.Draw Draw.Clock) k b x = absurd x
waits_from z v s choice l (Activity.Rebalance (Rebalance.Freeze f)) k b x = balancing_waiting k.activity (freezing_goes z v s choice l f k b) x
waits_from z v s choice l (Activity.Rebalance (Rebalance.Gather g)) k b x = balancing_waiting k.activity (gathering_goes z v s choice l g k b) x
waits_from z v s choice l a k (marks_led count next d n) x = absurd (counted_not IsWaiting (λ x. x) (λ x. x) n x)
waits_from z v s choice l a k (decides count m next e n) x = absurd (counted_not IsWaiting (λ x. x) (λ x. x) n x)
waits_from z v s choice l a k b x = absurd x

-- a call of a pin is no scan
of_pin_not_scan : {A : Type 0} (c : Option Call) → IsOfPin c → is_scan c ≡ true → A
of_pin_not_scan (Some (Put key value)) o f = absurd o
of_pin_not_scan (Some (Del key)) o f = absurd o
of_pin_not_scan (Some (Get key)) o f = absurd o
of_pin_not_scan (Some (Scan from upto)) o f = absurd o
of_pin_not_scan (Some Pin) o f = true_false refl (sym f)
of_pin_not_scan (Some (ScanAt from upto)) o f = true_false refl (sym f)
of_pin_not_scan (Some Unpin) o f = true_false refl (sym f)
of_pin_not_scan None o f = absurd o

-- a scan that has its version had it, or has just settled it; and a seat on its way that is no scan
-- began so
pub drawn_from : (z : Sizes) (v : Words) (s : ℕ) (choice : Choice) (l : Local) (a : Activity) (k : Local) → Arrow z v s choice l a k → IsKind a l → is_scan k.call ≡ true → HasDrawn k.activity → HasDrawn a ⊎ IsSettling a
drawn_from z v s choice l a k (builds b next y t) m e x = after_drawn next.activity (built_next z v choice l b next t) x
drawn_from z v s choice l (Activity.Walk _) k b m e x = inl tt
drawn_from z v s choice l (Activity.Look _) k b m e x = inl tt
drawn_from z v s choice l (Activity.Read _) k b m e x = inl tt
drawn_from z v s choice l (Activity.EndScan answer) k b m e x = inl tt
drawn_from z v s choice l (Activity.Draw Draw.Settle) k b m e x = inr tt
drawn_from z v s choice l a k (asks_of_pin next o n) m e x = of_pin_not_scan l.call o (ap is_scan (sym (of_pin_goes l next n).call) ∙ e)
drawn_from z v s choice l a k stores_pin m e x = absurd m
drawn_from z v s choice l a k (enters n) m e x = true_false e n
drawn_from z v s choice l (Activity.Rebalance (Rebalance.Freeze f)) k b m e x = balancing_drawn k.activity (freezing_goes z v s choice l f k b) x
drawn_from z v s choice l (Activity.Rebalance (Rebalance.Gather g)) k b m e x = balancing_drawn k.activity (gathering_goes z v s choice l g k b) x
drawn_from z v s choice l a k (marks_led count next d n) m f x = absurd (counted_not HasDrawn (λ x. x) (λ x. x) n x)
drawn_from z v s choice l a k (decides count c next e n) m f x = absurd (counted_not HasDrawn (λ x. x) (λ x. x) n x)
drawn_from z v s choice l a k b m e x = absurd x

-- the scan's word says so from then on, until it is cleared
pub settled_from : (z : Sizes) (v : Words) (s : ℕ) (choice : Choice) (l : Local) (a : Activity) (k : Local) → Arrow z v s choice l a k → IsKind a l → is_scan k.call ≡ true → IsSettled k.activity → IsCovering a ⊎ IsSettling a
settled_from z v s choice l a k (builds b next y t) m e x = after_settled next.activity (built_next z v choice l b next t) x
settled_from z v s choice l (Activity.Walk _) k b m e x = inl tt
settled_from z v s choice l (Activity.Look _) k b m e x = inl tt
settled_from z v s choice l (Activity.Read _) k b m e x = inl tt
settled_from z v s choice l (Activity.Draw Draw.Settle) k b m e x = inr tt
settled_from z v s choice l a k (asks_of_pin next o n) m e x = of_pin_not_scan l.call o (ap is_scan (sym (of_pin_goes l next n).call) ∙ e)
settled_from z v s choice l a k stores_pin m e x = absurd m
settled_from z v s choice l a k (enters n) m e x = true_false e n
settled_from z v s choice l (Activity.Rebalance (Rebalance.Freeze f)) k b m e x = balancing_settled k.activity (freezing_goes z v s choice l f k b) x
settled_from z v s choice l (Activity.Rebalance (Rebalance.Gather g)) k b m e x = balancing_settled k.activity (gathering_goes z v s choice l g k b) x
settled_from z v s choice l a k (marks_led count next d n) m f x = absurd (counted_not IsSettled (λ x. x) (λ x. x) n x)
settled_from z v s choice l a k (decides count c next e n) m f x = absurd (counted_not IsSettled (λ x. x) (λ x. x) n x)
settled_from z v s choice l a k b m e x = absurd x

-- a reader that has looked at the first entry had looked at it, or looks at it now
reading_from : (z : Sizes) (v : Words) (s : ℕ) (choice : Choice) (l : Local) (a : Activity) (k : Local) → Arrow z v s choice l a k → IsReading k.activity → IsReading a ⊎ (a ≡ Activity.Look (Look.Entry 0))
reading_from z v s choice l a k (builds b next y t) x = after_reading next.activity (built_next z v choice l b next t) x
reading_from z v s choice l a k (asks_of_pin next o n) x = absurd (of_pin_is (λ b. IsReading b → ⊥) (λ y. y) (λ y. y) (λ y. y) (λ y. y) (λ y. y) (λ y. y) n x)
reading_from z v s choice l (Activity.Look (Look.Entry zero)) k b x = inr refl
reading_from z v s choice l (Activity.Look (Look.Entry (suc j))) k b x = inl (omega arith)
reading_from z v s choice l (Activity.Look _) k b x = inl tt
reading_from z v s choice l (Activity.Read _) k b x = inl tt
reading_from z v s choice l a k (reads_last e n) x = absurd (omega (arith, x))
reading_from z v s choice l a k (reads_before e n) x = absurd (omega (arith, x))
reading_from z v s choice l (Activity.Rebalance (Rebalance.Freeze f)) k b x = balancing_reading k.activity (freezing_goes z v s choice l f k b) x
reading_from z v s choice l (Activity.Rebalance (Rebalance.Gather g)) k b x = balancing_reading k.activity (gathering_goes z v s choice l g k b) x
reading_from z v s choice l a k (marks_led count next d n) x = absurd (counted_not IsReading (λ x. x) (λ x. x) n x)
reading_from z v s choice l a k (decides count m next e n) x = absurd (counted_not IsReading (λ x. x) (λ x. x) n x)
reading_from z v s choice l a k b x = absurd x

-- a scan keeps its version
cell_version : (l : Local) (k : Local) → NextLeftOver l k → k.version ≡ l.version
cell_version l k (goes_to_left_over m w) = refl
cell_version l k (answers w e) = refl
cell_version l k (ends_scan w e f) = refl
cell_version l k (scans_on r w e f o) = refl

-- a scan that has its version keeps it
pub not_idle_drawn : (z : Sizes) (v : Words) (s : ℕ) (choice : Choice) (l : Local) (a : Activity) (k : Local) → Arrow z v s choice l a k → HasDrawn a → HasDrawn k.activity → k.version ≡ l.version
not_idle_drawn z v s choice l a k (builds b next building t) x y = after_drawn next.activity (built_next z v choice l b next t) y
not_idle_drawn z v s choice l a k (first_ends next e n) x y = cell_version _ next n
not_idle_drawn z v s choice l a k (list_ends next e n) x y = cell_version _ next n
not_idle_drawn z v s choice l a k (key_above next e n) x y = cell_version _ next n
not_idle_drawn z v s choice l a k (left_over_gone_by next e n) x y = cell_version _ next n
not_idle_drawn z v s choice l a k (gathers_left_over next n) x y = cell_version _ next n
not_idle_drawn z v s choice l a k (asks_of_pin next o n) x y = absurd x
not_idle_drawn z v s choice l a k (leaves answer) x y = absurd y
not_idle_drawn z v s choice l (Activity.Draw Draw.Settle) k b x y = absurd x
not_idle_drawn z v s choice l (Activity.Rebalance _) k b x y = absurd x
not_idle_drawn z v s choice l (Activity.Put Put.Clock) k b x y = absurd x
not_idle_drawn z v s choice l (Activity.Put Put.Stamp) k b x y = absurd x
not_idle_drawn z v s choice l a k b x y = refl

-- a scan on its way has its version
pub covering_draws : (a : Activity) → IsCovering a → HasDrawn a
covering_draws (Activity.Walk _) x = tt
covering_draws (Activity.Look _) x = tt
covering_draws (Activity.Read _) x = tt
covering_draws _ x = absurd x

-- and its word says so
pub covering_settled : (a : Activity) → IsCovering a → IsSettled a
covering_settled (Activity.EndScan answer) x = tt
covering_settled _ x = x

-- a scan whose word is settled has its version
settled_draws : (a : Activity) → IsSettled a → HasDrawn a
settled_draws (Activity.EndScan answer) x = tt
settled_draws (Activity.Leave answer) x = absurd x
settled_draws _ x = x

-- a scan that reads has its version
pub reading_draws : (a : Activity) → IsReading a → HasDrawn a
reading_draws (Activity.Look _) x = tt
reading_draws (Activity.Read _) x = tt
reading_draws _ x = absurd x

-- where a scan that has its version has no more event of its own that draws
pub draws_no_more : (a : Activity) → HasDrawn a → IsNoDraw a
draws_no_more Activity.Idle x = absurd x
draws_no_more (Activity.Draw Draw.Version) x = absurd x
draws_no_more (Activity.Draw Draw.Settle) x = absurd x
draws_no_more (Activity.Rebalance (Rebalance.Freeze (Freeze.Draw i))) x = absurd x
draws_no_more _ x = tt

-- only a scan settles
settling_scans : (a : Activity) (l : Local) → IsSettling a → IsKind a l → IsScanCall l.call
settling_scans (Activity.Draw Draw.Settle) l x k = k
settling_scans _ l x k = absurd x

-- The word.

module _ {z : Sizes} {r r' : Run} {s : ℕ} {choice : Choice} {l l' : Local} where
  -- a walk that is stopped clears the word and leaves
  pub stopped_clears : Happens z r r' s choice l l' (Activity.Walk Walk.Next) → is_stopped choice l ≡ true → word z r'.world (name.Scan s) ≡ scan_word Quiet
  stopped_clears h e = (subst (λ b. Changed z r.world.rows (word z r.world) (word z r'.world) (walk_transition b s l)) e h.changed).same

  -- its seat is on its way no more
  stopped_leaves : Happens z r r' s choice l l' (Activity.Walk Walk.Next) → is_stopped choice l ≡ true → IsSettled l'.activity → ⊥
  stopped_leaves h e x = subst (λ (k : Local). IsSettled k.activity) (h.next ∙ ap (λ b. (followed r.world.rows (walk_transition b s l) (word z r.world (walk_transition b s l).operation.name)).local) e) x

  -- a walk that is not stopped writes no word
  pub goes_on_walk : Happens z r r' s choice l l' (Activity.Walk Walk.Next) → is_stopped choice l ≡ false → word z r'.world (name.Scan s) ≡ word z r.world (name.Scan s)
  goes_on_walk h e = (subst (λ b. Changed z r.world.rows (word z r.world) (word z r'.world) (walk_transition b s l)) e h.changed).loaded refl (name.Scan s)

  -- the word of a scan on its way stays
  word_settled : (a : Activity) → Happens z r r' s choice l l' a → IsCovering a → IsSettled l'.activity → word z r'.world (name.Scan s) ≡ word z r.world (name.Scan s)
  word_settled (Activity.Walk Walk.Next) h c x = saw (is_stopped choice l) refl
    where
      saw : (b : Bool) → is_stopped choice l ≡ b → word z r'.world (name.Scan s) ≡ word z r.world (name.Scan s)
      saw true e = absurd (stopped_leaves h e x)
      saw false e = goes_on_walk h e
  word_settled (Activity.Draw Draw.Wait) h c x = absurd c
  word_settled (Activity.Draw Draw.Settle) h c x = absurd c
  word_settled (Activity.EndScan answer) h c x = absurd c
  word_settled (Activity.Insert Insert.Exchange) h c x = absurd c
  word_settled (Activity.Enter Enter.Announce) h c x = unwritten (Activity.Enter Enter.Announce) h (name.Scan s) h.seat (λ e. cc)
  word_settled (Activity.Look Look.Key) h c x = unwritten (Activity.Look Look.Key) h (name.Scan s) h.seat (λ e. cc)
  word_settled (Activity.Put Put.Count) h c x = unwritten (Activity.Put Put.Count) h (name.Scan s) h.seat (λ e. cc)
  word_settled (Activity.Read Read.Link) h c x = unwritten (Activity.Read Read.Link) h (name.Scan s) h.seat (λ e. cc)
  word_settled (Activity.Rebalance _) h c x = absurd c
  word_settled a h c x = unwritten a h (name.Scan s) h.seat (λ e. cc)

  -- the word is set where a scan begins to wait and where it settles; every other event keeps it or
  -- clears it
  word_next : (a : Activity) → Happens z r r' s choice l l' a → (IsSettling a → ⊥) → (IsWaiting l'.activity → ⊥) → (a ≡ Activity.Draw Draw.Wait → IsWaiting l'.activity) → (SettlesScan s a → word z r.world (name.Scan s) ≡ scan_word Quiet) → (word z r'.world (name.Scan s) ≡ word z r.world (name.Scan s)) ⊎ (word z r'.world (name.Scan s) ≡ scan_word Quiet)
  word_next (Activity.Walk Walk.Next) h n w f q = saw (is_stopped choice l) refl
    where
      saw : (b : Bool) → is_stopped choice l ≡ b → (word z r'.world (name.Scan s) ≡ word z r.world (name.Scan s)) ⊎ (word z r'.world (name.Scan s) ≡ scan_word Quiet)
      saw true e = inr (stopped_clears h e)
      saw false e = inl (goes_on_walk h e)
  word_next (Activity.Draw Draw.Wait) h n w f q = absurd (w (f refl))
  word_next (Activity.Draw Draw.Settle) h n w f q = absurd (n tt)
  word_next (Activity.EndScan answer) h n w f q = inr h.changed.same
  word_next (Activity.Insert Insert.Exchange) h n w f q = inl (unwritten (Activity.Insert Insert.Exchange) h (name.Scan s) h.seat (λ e. no_link l.row l.link (name.Scan s) refl e))
  word_next (Activity.Rebalance (Rebalance.Freeze (Freeze.Settle j))) h n w f q = which (cases_eq s j)
    where
      other : s ≡ j → word z r.world (name.Scan j) ≢ scan_word (Waiting l.rebalance.waiting)
      other e y = let x : scan_word Quiet ≡ scan_word (Waiting l.rebalance.waiting) = sym (q e) ∙ ap (λ c. word z r.world (name.Scan c)) e ∙ y in absurd (omega (arith, x))

      which : (s ≡ j) ⊎ (s ≡ j → ⊥) → (word z r'.world (name.Scan s) ≡ word z r.world (name.Scan s)) ⊎ (word z r'.world (name.Scan s) ≡ scan_word Quiet)
      which (inl e) = inl (subst (λ c. word z r'.world (name.Scan c) ≡ word z r.world (name.Scan c)) (sym e) (not_exchanged _ _ _ _ h.changed.same (other e)))
      which (inr d) = inl (unwritten (Activity.Rebalance (Rebalance.Freeze (Freeze.Settle j))) h (name.Scan s) h.seat (λ e. d (sym (same_scan j s e))))
  word_next (Activity.Rebalance (Rebalance.Replace Replace.Exchange)) h n w f q = inl (unwritten (Activity.Rebalance (Rebalance.Replace Replace.Exchange)) h (name.Scan s) h.seat (no_scan_replaced l.rebalance.before s))
  word_next (Activity.Enter Enter.Announce) h n w f q = inl (unwritten (Activity.Enter Enter.Announce) h (name.Scan s) h.seat (λ e. cc))
  word_next (Activity.Look Look.Key) h n w f q = inl (unwritten (Activity.Look Look.Key) h (name.Scan s) h.seat (λ e. cc))
  word_next (Activity.Put Put.Count) h n w f q = inl (unwritten (Activity.Put Put.Count) h (name.Scan s) h.seat (λ e. cc))
  word_next (Activity.Read Read.Link) h n w f q = inl (unwritten (Activity.Read Read.Link) h (name.Scan s) h.seat (λ e. cc))
  word_next (Activity.Rebalance (Rebalance.Engage Engage.Clock)) h n w f q = inl (unwritten (Activity.Rebalance (Rebalance.Engage Engage.Clock)) h (name.Scan s) h.seat (λ e. cc))
  word_next (Activity.Rebalance (Rebalance.Claim Claim.Count)) h n w f q = inl (unwritten (Activity.Rebalance (Rebalance.Claim Claim.Count)) h (name.Scan s) h.seat (λ e. cc))
  word_next (Activity.Rebalance (Rebalance.Gather Gather.Link)) h n w f q = inl (unwritten (Activity.Rebalance (Rebalance.Gather Gather.Link)) h (name.Scan s) h.seat (λ e. cc))
  word_next (Activity.Rebalance (Rebalance.Seek Seek.Next)) h n w f q = inl (unwritten (Activity.Rebalance (Rebalance.Seek Seek.Next)) h (name.Scan s) h.seat (λ e. cc))
  word_next (Activity.Rebalance (Rebalance.Write Write.Count)) h n w f q = inl (unwritten (Activity.Rebalance (Rebalance.Write Write.Count)) h (name.Scan s) h.seat (λ e. cc))
  word_next a h n w f q = inl (unwritten a h (name.Scan s) h.seat (λ e. cc))

-- Whether the word is set.

-- the word says that the scan waits, or not
waits_or_not : (c : Activity) → IsWaiting c ⊎ (IsWaiting c → ⊥)
waits_or_not (Activity.Draw Draw.Version) = inl tt
waits_or_not (Activity.Draw Draw.Settle) = inl tt
waits_or_not _ = inr (λ x. x)

-- the scan is to settle, or not
settles_or_not : (c : Activity) → IsSettling c ⊎ (IsSettling c → ⊥)
settles_or_not (Activity.Draw Draw.Settle) = inl tt
settles_or_not _ = inr (λ x. x)

-- a call that is a scan
scan_call : (c : Option Call) → IsScanCall c → is_scan c ≡ true
scan_call (Some (Scan from upto)) x = refl
scan_call (Some (Put key value)) x = absurd x
scan_call (Some (Del key)) x = absurd x
scan_call (Some (Get key)) x = absurd x
scan_call (Some Pin) x = absurd x
scan_call (Some (ScanAt from upto)) x = absurd x
scan_call (Some Unpin) x = absurd x
scan_call None x = absurd x

-- a put is no scan
put_not_scan : {A : Type 0} (c : Option Call) → is_put c ≡ true → is_scan c ≡ true → A
put_not_scan (Some (Put key value)) e f = true_false refl (sym f)
put_not_scan (Some (Del key)) e f = true_false refl (sym f)
put_not_scan (Some (Get key)) e f = true_false refl (sym e)
put_not_scan (Some (Scan from upto)) e f = true_false refl (sym e)
put_not_scan (Some Pin) e f = true_false refl (sym e)
put_not_scan (Some (ScanAt from upto)) e f = true_false refl (sym e)
put_not_scan (Some Unpin) e f = true_false refl (sym e)
put_not_scan None e f = true_false refl (sym e)

-- a scan that stores its word waits
wait_waits : (z : Sizes) (v : Words) (s : ℕ) (choice : Choice) (l : Local) (a : Activity) (k : Local) → Arrow z v s choice l a k → a ≡ Activity.Draw Draw.Wait → IsWaiting k.activity
wait_waits z v s choice l a k (builds b next y t) e = absurd (subst IsBuilding e y)
wait_waits z v s choice l a k stores_waiting e = tt
wait_waits z v s choice l a k _ e = absurd (cc)

-- a scan that draws waits on
draw_waits : (z : Sizes) (v : Words) (s : ℕ) (choice : Choice) (l : Local) (a : Activity) (k : Local) → Arrow z v s choice l a k → IsWaiting a → IsWaiting k.activity ⊎ IsSettling a
draw_waits z v s choice l a k (builds b next y t) x = after_waiting b (building_after b y) x
draw_waits z v s choice l a k draws x = inl tt
draw_waits z v s choice l (Activity.Draw Draw.Settle) k b x = inr tt
draw_waits z v s choice l a k _ x = absurd x

-- a scan that settles is on its way
settling_next : (z : Sizes) (v : Words) (s : ℕ) (choice : Choice) (l : Local) (a : Activity) (k : Local) → Arrow z v s choice l a k → IsSettling a → IsScanCall l.call → IsScanning k.activity k
settling_next z v s choice l a k (builds b next y t) x f = after_settling b (building_after b y) x
settling_next z v s choice l a k (settles_empty e) x f = inr (scan_call l.call f, tt)
settling_next z v s choice l a k (settles e) x f = inr (scan_call l.call f, tt)
settling_next z v s choice l a k (settles_pin e) x f = scan_is_no_pin l.call f e
settling_next z v s choice l a k _ x f = absurd x

-- a look at the next entry keeps a scan on its way
look_settled : (z : Sizes) (j : ℕ) (next : Activity) → NextLook z j next → IsSettled next
look_settled z j next (looks w) = tt
look_settled z j next (lists w) = tt

-- so does a cell, or it ends the scan
cell_settled : (l : Local) (k : Local) → is_scan l.call ≡ true → NextLeftOver l k → IsSettled k.activity
cell_settled l k f (goes_to_left_over m w) = tt
cell_settled l k f (answers w e) = true_false f e
cell_settled l k f (ends_scan w e g) = tt
cell_settled l k f (scans_on r w e g o) = tt

-- the scan clears its word
abbrev IsClear : Activity → Type 0
IsClear (Activity.EndScan answer) = Unit {0}
IsClear _ = ⊥

-- the walk goes on from its start
start_settled : (z : Sizes) (v : Words) (s : ℕ) (choice : Choice) (l : Local) (k : Local) → Arrow z v s choice l (Activity.Walk Walk.Start) k → IsSettled k.activity
start_settled z v s choice l k (builds b next y t) = absurd y
start_settled z v s choice l k starts_at_head = tt
start_settled z v s choice l k (guesses r c e) = tt
start_settled z v s choice l k guess_fails = tt

-- a scan whose word is settled is in its call
settled_underway : (a : Activity) → IsSettled a → IsUnderway a
settled_underway Activity.Idle x = absurd x
settled_underway (Activity.Leave answer) x = absurd x
settled_underway _ x = tt

-- a scan on its way goes on, or clears its word
settled_next : (z : Sizes) (v : Words) (s : ℕ) (choice : Choice) (l : Local) (a : Activity) (k : Local) → Arrow z v s choice l a k → is_scan l.call ≡ true → IsSettled a → IsSettled k.activity ⊎ IsClear a ⊎ (a ≡ Activity.Walk Walk.Next) × (is_stopped choice l ≡ true)
settled_next z v s choice l a k (builds b next y t) f x = after_settled b (building_after b y) x
settled_next z v s choice l a k (sees_stamped j c version next e n) f x = inl (look_settled z _ next n)
settled_next z v s choice l a k (sees_neither j next e n) f x = inl (look_settled z _ next n)
settled_next z v s choice l a k (is_gone_by next e n) f x = inl (look_settled z _ next n)
settled_next z v s choice l a k (helps next e n) f x = inl (look_settled z _ next n)
settled_next z v s choice l a k (finds_stamped c version next e n) f x = inl (look_settled z _ next n)
settled_next z v s choice l a k (finds_other next e n) f x = inl (look_settled z _ next n)
settled_next z v s choice l a k (first_ends next e n) f x = inl (cell_settled _ next f n)
settled_next z v s choice l a k (list_ends next e n) f x = inl (cell_settled _ next f n)
settled_next z v s choice l a k (key_above next e n) f x = inl (cell_settled _ next f n)
settled_next z v s choice l a k (left_over_gone_by next e n) f x = inl (cell_settled _ next f n)
settled_next z v s choice l a k (gathers_left_over next n) f x = inl (cell_settled _ next f n)
settled_next z v s choice l a k (clears_scan answer) f x = inr (inl tt)
settled_next z v s choice l a k (stops e) f x = inr (inr (refl, e))
settled_next z v s choice l a k (puts_in_last e n) f x = put_not_scan l.call e f
settled_next z v s choice l a k (puts_before e n) f x = put_not_scan l.call e f
settled_next z v s choice l (Activity.Walk Walk.Start) k b f x = inl (start_settled z v s choice l k b)
settled_next z v s choice l (Activity.Walk Walk.First) k takes_head f x = inl tt
settled_next z v s choice l (Activity.Walk Walk.GuessedLeast) k (guess_serves w) f x = inl tt
settled_next z v s choice l (Activity.Walk Walk.GuessedLeast) k (guess_is_above w) f x = inl tt
settled_next z v s choice l (Activity.Walk Walk.Next) k (reads_last e n) f x = inl tt
settled_next z v s choice l (Activity.Walk Walk.Next) k (reaches_next q e) f x = inl tt
settled_next z v s choice l (Activity.Walk Walk.NextLeast) k (walks_on w) f x = inl tt
settled_next z v s choice l (Activity.Walk Walk.NextLeast) k (reads_before e n) f x = inl tt
settled_next z v s choice l a k (sees_pending j c e) f x = inl tt
settled_next z v s choice l (Activity.Look Look.Key) k (is_wanted e) f x = inl tt
settled_next z v s choice l (Activity.Look Look.Clock) k loads_to_help f x = inl tt
settled_next z v s choice l a k (first_leads c e) f x = inl tt
settled_next z v s choice l a k (list_leads c e) f x = inl tt
settled_next z v s choice l (Activity.Read Read.Start) k (begins_behind guess inside e) f x = inl tt
settled_next z v s choice l (Activity.Read Read.Start) k (begins_at_first guess e) f x = inl tt
settled_next z v s choice l (Activity.Read Read.Key) k (key_below e) f x = inl tt
settled_next z v s choice l (Activity.Read Read.Key) k (key_within e w) f x = inl tt
settled_next z v s choice l (Activity.Read Read.Version) k loads_version f x = inl tt
settled_next z v s choice l (Activity.Read Read.Value) k gathers_listed f x = inl tt
settled_next z v s choice l (Activity.Read Read.LeftOverKey) k (left_over_wanted e) f x = inl tt
settled_next z v s choice l a k _ f x = absurd x

module _ (z : Sizes) (r r' : Run) (s : ℕ) (choice : Choice) (l : Local) (a : Activity) (l' : Local) (b : Arrow z (word z r.world) s choice l a l') (h : Happens z r r' s choice l l' a) (i : Below z r) where
  -- the activity is one of the call
  kind : IsKind a l
  kind = subst (λ q. IsKind q l) h.activity (i.shape.kinds s l h.knows).kind

  -- a seat that settles the scan of a seat has none at work itself
  own_quiet : (c : Activity) → Happens z r r' s choice l l' c → SettlesScan s c → word z r.world (name.Scan s) ≡ scan_word Quiet
  own_quiet (Activity.Rebalance (Rebalance.Freeze (Freeze.Settle j))) g x = which (i.positions.scans s l g.knows)
    where
      which : IsScanning l.activity l ⊎ (word z r.world (name.Scan s) ≡ scan_word Quiet) → word z r.world (name.Scan s) ≡ scan_word Quiet
      which (inl (inl y)) = absurd (subst IsWaiting g.activity y)
      which (inl (inr y)) = absurd (subst IsSettled g.activity y.1)
      which (inr y) = y
  own_quiet _ g x = absurd x

  -- the word that is cleared
  clears : IsClear a → word z r'.world (name.Scan s) ≡ scan_word Quiet
  clears = which a h
    where
      which : (c : Activity) → Happens z r r' s choice l l' c → IsClear c → word z r'.world (name.Scan s) ≡ scan_word Quiet
      which (Activity.EndScan answer) g x = g.changed.same
      which _ g x = absurd x

  -- the scan is at work, or its word is quiet
  pub scan_is_set : IsScanning l'.activity l' ⊎ (word z r'.world (name.Scan s) ≡ scan_word Quiet)
  scan_is_set = waits (waits_or_not l'.activity) (settles_or_not a)
    where
      call : IsSettled a → l'.call ≡ l.call
      call x = (arrow_call z (word z r.world) s choice l a l' b (settled_underway a x)).0

      on_its_way : is_scan l.call ≡ true → IsSettled a → IsSettled l'.activity ⊎ IsClear a ⊎ (a ≡ Activity.Walk Walk.Next) × (is_stopped choice l ≡ true) → IsScanning l'.activity l' ⊎ (word z r'.world (name.Scan s) ≡ scan_word Quiet)
      on_its_way e x (inl y) = inl (inr (subst (λ q. is_scan q ≡ true) (sym (call x)) e, y))
      on_its_way e x (inr (inl y)) = inr (clears y)
      on_its_way e x (inr (inr y)) = inr (stopped_clears (subst (Happens z r r' s choice l l') y.0 h) y.1)

      was : (IsSettling a → ⊥) → (IsWaiting l'.activity → ⊥) → word z r'.world (name.Scan s) ≡ word z r.world (name.Scan s) → IsScanning l.activity l ⊎ (word z r.world (name.Scan s) ≡ scan_word Quiet) → IsScanning l'.activity l' ⊎ (word z r'.world (name.Scan s) ≡ scan_word Quiet)
      was n w e (inr q) = inr (e ∙ q)
      was n w e (inl (inr x)) = let y = subst IsSettled h.activity x.1 in on_its_way x.0 y (settled_next z (word z r.world) s choice l a l' b x.0 y)
      was n w e (inl (inl x)) = waiting (draw_waits z (word z r.world) s choice l a l' b (subst IsWaiting h.activity x))
        where
          waiting : IsWaiting l'.activity ⊎ IsSettling a → IsScanning l'.activity l' ⊎ (word z r'.world (name.Scan s) ≡ scan_word Quiet)
          waiting (inl y) = inl (inl y)
          waiting (inr y) = absurd (n y)

      next : (IsSettling a → ⊥) → (IsWaiting l'.activity → ⊥) → (word z r'.world (name.Scan s) ≡ word z r.world (name.Scan s)) ⊎ (word z r'.world (name.Scan s) ≡ scan_word Quiet) → IsScanning l'.activity l' ⊎ (word z r'.world (name.Scan s) ≡ scan_word Quiet)
      next n w (inl e) = was n w e (i.positions.scans s l h.knows)
      next n w (inr e) = inr e

      waits : IsWaiting l'.activity ⊎ (IsWaiting l'.activity → ⊥) → IsSettling a ⊎ (IsSettling a → ⊥) → IsScanning l'.activity l' ⊎ (word z r'.world (name.Scan s) ≡ scan_word Quiet)
      waits (inl w) x = inl (inl w)
      waits (inr w) (inl x) = inl (settling_next z (word z r.world) s choice l a l' b x (settling_scans a l x kind))
      waits (inr w) (inr n) = next n w (word_next a h n w (wait_waits z (word z r.world) s choice l a l' b) (own_quiet a h))

-- Where it drew and looked.

-- a seat in a call is busy
underway_busy : (a : Activity) → IsUnderway a → IsBusy a
underway_busy Activity.Idle x = x
underway_busy _ x = tt

-- an event that leads to a scan with a version neither begins nor ends a call
pub drawn_underway : (z : Sizes) (v : Words) (s : ℕ) (choice : Choice) (l : Local) (a : Activity) (k : Local) → Arrow z v s choice l a k → HasDrawn k.activity → IsUnderway a
drawn_underway z v s choice l a k (builds b next y t) x = building_underway b y
drawn_underway z v s choice l a k (begins call e m) x = absurd x
drawn_underway z v s choice l a k (leaves answer) x = absurd x
drawn_underway z v s choice l a k _ x = tt

-- what was drawn stays drawn
pub drawn_lasts : (h h' : History) → ((x : ℕ) (k : Kind) (c : ℕ) → Stands h x k c → Stands h' x k c) → {x version : ℕ} → IsDrawnAt h x version → IsDrawnAt h' x version
drawn_lasts h h' lasts {x} {version} d = record { kind = d.kind; is_draw = d.is_draw; stands = lasts x d.kind version d.stands }

-- how a scan of seat s settles that knew l and knows k: by its own exchange, or for the version
-- that another seat drew for it
pub data Settles (z : Sizes) (r r' : Run) (s : ℕ) (l k : Local) : Type 0 where
  by_itself : k.version ≡ l.drawn → word z r'.world (name.Scan s) ≡ scan_word (Drawn l.drawn) → (r'.seats s).drawn ≡ (r.seats s).drawn → Settles z r r' s l k
  by_helper : (n : IsHelped (word z r.world) r.history s (r.ledger.waits s) (r.settled s)) → k.version ≡ n.version → word z r'.world (name.Scan s) ≡ scan_word (Drawn n.version) → (r'.seats s).drawn ≡ r.settled s → Settles z r r' s l k

-- a scan that settles takes what its word says, or its own draw
settles_at : (z : Sizes) (r r' : Run) (s : ℕ) (choice : Choice) (l k : Local) → Happens z r r' s choice l k (Activity.Draw Draw.Settle) → k.version ≡ version_settled (scan_of (word z r.world (name.Scan s))) l.drawn → IsVersion l.waiting →
    (word z r.world (name.Scan s) ≡ scan_word (Waiting l.waiting)) ⊎ IsHelped (word z r.world) r.history s (r.ledger.waits s) (r.settled s) → Settles z r r' s l k
settles_at z r r' s choice l k h v m (inl e) =
    by_itself (v ∙ ap (λ q. version_settled (scan_of q) l.drawn) e ∙ ap (λ q. version_settled q l.drawn) (scan_of-Waiting l.waiting m.0 m.1)) (exchanged _ _ _ _ h.changed.same e)
    (ap (λ (q : SeatLog). q.drawn) (h.log ∙ settle_kept z choice l _ k.activity (r.seats s) r.origin r.history (r.settled s) e))
settles_at z r r' s choice l k h v m (inr n) =
    by_helper n (v ∙ ap (λ q. version_settled (scan_of q) l.drawn) n.word ∙ ap (λ q. version_settled q l.drawn) (scan_of-scan_word (Drawn n.version) n.range)) (not_exchanged _ _ _ _ h.changed.same other ∙ n.word)
    (ap (λ (q : SeatLog). q.drawn) (h.log ∙ settle_lost z choice l _ k.activity (r.seats s) r.origin r.history (r.settled s) other))
  where
    other : word z r.world (name.Scan s) ≢ scan_word (Waiting l.waiting)
    other e = let f : scan_word (Waiting l.waiting) ≡ scan_word (Drawn n.version) = sym e ∙ n.word in omega (arith, f)

-- by the arrow that it takes
settles_to : (z : Sizes) (r r' : Run) (s : ℕ) (choice : Choice) (l : Local) (a : Activity) (k : Local) → Arrow z (word z r.world) s choice l a k → Happens z r r' s choice l k a → IsSettling a → IsVersion l.waiting →
    (word z r.world (name.Scan s) ≡ scan_word (Waiting l.waiting)) ⊎ IsHelped (word z r.world) r.history s (r.ledger.waits s) (r.settled s) → Settles z r r' s l k
settles_to z r r' s choice l a k (builds b next y t) h x m w = after_settling b (building_after b y) x
settles_to z r r' s choice l a k (settles_empty e) h x m w = settles_at z r r' s choice l k h refl m w
settles_to z r r' s choice l a k (settles e) h x m w = settles_at z r r' s choice l k h refl m w
settles_to z r r' s choice l a k (settles_pin e) h x m w = settles_at z r r' s choice l k h refl m w
settles_to z r r' s choice l a k _ h x m w = absurd x

-- a scan that has loaded the clock has just done so, or is about to draw
pub loaded_from : (z : Sizes) (v : Words) (s : ℕ) (choice : Choice) (l : Local) (a : Activity) (k : Local) → Arrow z v s choice l a k → HasLoaded k.activity → ((a ≡ Activity.Draw Draw.Clock) × (k ≡ record l { waiting = v name.Clock; activity = Activity.Draw Draw.Wait })) ⊎ ((a ≡ Activity.Draw Draw.Wait) × (k ≡ record l { activity = Activity.Draw Draw.Version }))
loaded_from z v s choice l a k (builds b next y t) x = after_loaded next.activity (built_next z v choice l b next t) x
loaded_from z v s choice l a k (asks_of_pin next o n) x = absurd (of_pin_is (λ b. HasLoaded b → ⊥) (λ y. y) (λ y. y) (λ y. y) (λ y. y) (λ y. y) (λ y. y) n x)
loaded_from z v s choice l a k (waits e) x = inl (refl, refl)
loaded_from z v s choice l a k stores_waiting x = inr (refl, refl)
loaded_from z v s choice l (Activity.Look (Look.Entry j)) k b x = absurd (loaded_not_read k.activity x (after_read z v s choice l (Activity.Look (Look.Entry j)) k b tt))
loaded_from z v s choice l (Activity.Look Look.Key) k b x = absurd (loaded_not_read k.activity x (after_read z v s choice l (Activity.Look Look.Key) k b tt))
loaded_from z v s choice l (Activity.Look Look.Clock) k b x = absurd (loaded_not_read k.activity x (after_read z v s choice l (Activity.Look Look.Clock) k b tt))
loaded_from z v s choice l (Activity.Look Look.Help) k b x = absurd (loaded_not_read k.activity x (after_read z v s choice l (Activity.Look Look.Help) k b tt))
loaded_from z v s choice l (Activity.Read Read.Start) k b x = absurd (loaded_not_read k.activity x (after_read z v s choice l (Activity.Read Read.Start) k b tt))
loaded_from z v s choice l (Activity.Read Read.Link) k b x = absurd (loaded_not_read k.activity x (after_read z v s choice l (Activity.Read Read.Link) k b tt))
loaded_from z v s choice l (Activity.Read Read.Key) k b x = absurd (loaded_not_read k.activity x (after_read z v s choice l (Activity.Read Read.Key) k b tt))
loaded_from z v s choice l (Activity.Read Read.Version) k b x = absurd (loaded_not_read k.activity x (after_read z v s choice l (Activity.Read Read.Version) k b tt))
loaded_from z v s choice l (Activity.Read Read.Value) k b x = absurd (loaded_not_read k.activity x (after_read z v s choice l (Activity.Read Read.Value) k b tt))
loaded_from z v s choice l (Activity.Read Read.LeftOverKey) k b x = absurd (loaded_not_read k.activity x (after_read z v s choice l (Activity.Read Read.LeftOverKey) k b tt))
loaded_from z v s choice l (Activity.Read Read.LeftOverValue) k b x = absurd (loaded_not_read k.activity x (after_read z v s choice l (Activity.Read Read.LeftOverValue) k b tt))
loaded_from z v s choice l (Activity.Draw Draw.Clock) k b x = absurd x
loaded_from z v s choice l (Activity.Rebalance (Rebalance.Freeze f)) k b x = balancing_loaded k.activity (freezing_goes z v s choice l f k b) x
loaded_from z v s choice l (Activity.Rebalance (Rebalance.Gather g)) k b x = balancing_loaded k.activity (gathering_goes z v s choice l g k b) x
loaded_from z v s choice l a k (marks_led count next d n) x = absurd (counted_not HasLoaded (λ x. x) (λ x. x) n x)
loaded_from z v s choice l a k (decides count m next e n) x = absurd (counted_not HasLoaded (λ x. x) (λ x. x) n x)
loaded_from z v s choice l a k b x = absurd x

-- the first entry is looked at now
looks_now : (z : Sizes) (r r' : Run) (s : ℕ) (choice : Choice) (l k : Local) → Happens z r r' s choice l k (Activity.Look (Look.Entry 0)) → (r'.seats s).looked ≡ length r.history.log
looks_now z r r' s choice l k h = ap (λ (q : SeatLog). q.looked) h.log

module _ (z : Sizes) (r r' : Run) (s : ℕ) (choice : Choice) (l : Local) (a : Activity) (l' : Local) (b : Arrow z (word z r.world) s choice l a l') (h : Happens z r r' s choice l l' a) (i : Below z r) (st : Step r.history r'.history (log_entry z r a s choice l)) where
  -- what held of the draw before the event
  before : Draws (word z r.world) r.history s (r.ledger.waits s) (r.settled s) l.activity l (r.seats s)
  before = i.positions.draws s l h.knows

  -- the first event of the seat's call is the same
  pub call_first : IsUnderway a → (called r'.history (r'.seats s).call).first ≡ (called r.history (r.seats s).call).first
  call_first u =
      let w = (i.positions.calling s l h.knows (subst IsBusy (sym h.activity) (underway_busy a u))).within in
      let e : (r'.seats s).call ≡ (r.seats s).call = ap (λ (q : SeatLog). q.call) h.log ∙ call_kept z choice l _ l'.activity (r.seats s) r.origin r.history (r.settled s) a u in
      ap (λ q. (called r'.history q).first) e ∙ ((goes_on_by z r r' s choice l a l' h i st).calls (r.seats s).call w).first

  -- it lies before now
  call_before : IsUnderway a → (called r.history (r.seats s).call).first < length r.history.log
  call_before u = i.history.past.first (r.seats s).call (i.positions.calling s l h.knows (subst IsBusy (sym h.activity) (underway_busy a u))).within

  -- a scan was a scan
  pub was_scan : IsUnderway a → is_scan l'.call ≡ true → is_scan l.call ≡ true
  was_scan u e = subst (λ q. is_scan q ≡ true) (arrow_call z (word z r.world) s choice l a l' b u).0 e

  -- where the seat drew is kept
  pub drawn_kept : IsNoDraw a → (r'.seats s).drawn ≡ (r.seats s).drawn
  drawn_kept n = ap (λ (q : SeatLog). q.drawn) h.log ∙ draw_kept z choice l _ l'.activity (r.seats s) r.origin r.history (r.settled s) a n

  -- where it looked is kept
  pub looked_kept : IsReading a → (r'.seats s).looked ≡ (r.seats s).looked
  looked_kept x = ap (λ (q : SeatLog). q.looked) h.log ∙ look_kept z choice l _ l'.activity (r.seats s) r.origin r.history (r.settled s) a x

  -- a scan settles by its own exchange, or for what another seat drew for it
  pub settle : IsSettling a → Settles z r r' s l l'
  settle x = settles_to z r r' s choice l a l' b h x (i.shape.sane.locals s l h.knows).ranges.waiting (before.waits (subst IsWaiting (sym h.activity) (settling_waits a x)))

  -- what stands of a record lasts
  lasts : (x : ℕ) (k : Kind) (c : ℕ) → Stands r.history x k c → Stands r'.history x k c
  lasts = (goes_on_by z r r' s choice l a l' h i st).stands

  -- what the event of a draw leaves of a scan that was helped before
  helped_on : Happens z r r' s choice l l' (Activity.Draw Draw.Version) → IsHelped (word z r.world) r.history s (r.ledger.waits s) (r.settled s) → IsHelped (word z r'.world) r'.history s (r'.ledger.waits s) (r'.settled s)
  helped_on g n =
      let waits : r'.ledger.waits s ≡ r.ledger.waits s = ap (λ (q : Ledger). q.waits s) g.ledger in
      let draw : r'.settled s ≡ r.settled s = ap (λ (q : ℕ → ℕ). q s) g.settled in
      record { version = n.version; range = n.range; word = unwritten (Activity.Draw Draw.Version) g (name.Scan s) h.seat (λ f. cc) ∙ n.word; drawn = rw draw (drawn_lasts r.history r'.history lasts n.drawn); after = omega (arith, n.after, waits, draw) }

  -- the word of a waiting scan
  its_waits : IsWaiting l'.activity → (word z r'.world (name.Scan s) ≡ scan_word (Waiting l'.waiting)) ⊎ IsHelped (word z r'.world) r'.history s (r'.ledger.waits s) (r'.settled s)
  its_waits x = which (waits_from z (word z r.world) s choice l a l' b x)
    where
      drew : Happens z r r' s choice l l' (Activity.Draw Draw.Version) → l' ≡ record l { drawn = word z r.world name.Clock; activity = Activity.Draw Draw.Settle } → (word z r.world (name.Scan s) ≡ scan_word (Waiting l.waiting)) ⊎ IsHelped (word z r.world) r.history s (r.ledger.waits s) (r.settled s) →
          (word z r'.world (name.Scan s) ≡ scan_word (Waiting l'.waiting)) ⊎ IsHelped (word z r'.world) r'.history s (r'.ledger.waits s) (r'.settled s)
      drew g e (inl w) = inl (unwritten (Activity.Draw Draw.Version) g (name.Scan s) h.seat (λ f. cc) ∙ w ∙ ap (λ (k : Local). scan_word (Waiting k.waiting)) (sym e))
      drew g e (inr n) = inr (helped_on g n)

      which : ((a ≡ Activity.Draw Draw.Wait) × (l' ≡ record l { activity = Activity.Draw Draw.Version })) ⊎ ((a ≡ Activity.Draw Draw.Version) × (l' ≡ record l { drawn = word z r.world name.Clock; activity = Activity.Draw Draw.Settle })) → (word z r'.world (name.Scan s) ≡ scan_word (Waiting l'.waiting)) ⊎ IsHelped (word z r'.world) r'.history s (r'.ledger.waits s) (r'.settled s)
      which (inl e) = inl ((subst (Happens z r r' s choice l l') e.0 h).changed.same ∙ ap (λ (k : Local). scan_word (Waiting k.waiting)) (sym e.1))
      which (inr e) = drew (subst (Happens z r r' s choice l l') e.0 h) e.1 (before.waits (subst IsWaiting (sym (h.activity ∙ e.0)) tt))

  -- it has loaded the clock before
  its_loaded : HasLoaded l'.activity → l'.waiting ≤ word z r'.world name.Clock
  its_loaded x = which (loaded_from z (word z r.world) s choice l a l' b x)
    where
      which : ((a ≡ Activity.Draw Draw.Clock) × (l' ≡ record l { waiting = word z r.world name.Clock; activity = Activity.Draw Draw.Wait })) ⊎ ((a ≡ Activity.Draw Draw.Wait) × (l' ≡ record l { activity = Activity.Draw Draw.Version })) → l'.waiting ≤ word z r'.world name.Clock
      which (inl e) = omega (arith, ap (λ (k : Local). k.waiting) e.1, clock_never_falls a h)
      which (inr e) = omega (arith, ap (λ (k : Local). k.waiting) e.1, before.loaded (subst HasLoaded (sym (h.activity ∙ e.0)) tt), clock_never_falls a h)

  -- and draws no earlier version
  its_least : IsSettling l'.activity → l'.waiting ≤ l'.drawn
  its_least x = which (waits_from z (word z r.world) s choice l a l' b (settling_waits l'.activity x))
    where
      which : ((a ≡ Activity.Draw Draw.Wait) × (l' ≡ record l { activity = Activity.Draw Draw.Version })) ⊎ ((a ≡ Activity.Draw Draw.Version) × (l' ≡ record l { drawn = word z r.world name.Clock; activity = Activity.Draw Draw.Settle })) → l'.waiting ≤ l'.drawn
      which (inl e) = let y : IsSettling (Activity.Draw Draw.Version) = subst (λ (k : Local). IsSettling k.activity) e.1 x in absurd y
      which (inr e) = omega (arith, ap (λ (k : Local). k.waiting) e.1, ap (λ (k : Local). k.drawn) e.1, before.loaded (subst HasLoaded (sym (h.activity ∙ e.0)) tt))

  -- it began to wait in its call
  its_began : IsWaiting l'.activity → ((called r'.history (r'.seats s).call).first < r'.ledger.waits s) × (r'.ledger.waits s < length r'.history.log)
  its_began x = which (waits_from z (word z r.world) s choice l a l' b x)
    where
      grows : length r.history.log < length r'.history.log
      grows = (goes_on_by z r r' s choice l a l' h i st).now

      which : ((a ≡ Activity.Draw Draw.Wait) × (l' ≡ record l { activity = Activity.Draw Draw.Version })) ⊎ ((a ≡ Activity.Draw Draw.Version) × (l' ≡ record l { drawn = word z r.world name.Clock; activity = Activity.Draw Draw.Settle })) → ((called r'.history (r'.seats s).call).first < r'.ledger.waits s) × (r'.ledger.waits s < length r'.history.log)
      which (inl e) =
          let u : IsUnderway a = subst IsUnderway (sym e.0) tt in
          let waits : r'.ledger.waits s ≡ length r.history.log = ap (λ (q : Ledger). q.waits s) (subst (Happens z r r' s choice l l') e.0 h).ledger ∙ rw (eq-eqb s s refl) refl in
          (omega (arith, call_first u, call_before u, waits), omega (arith, waits, grows))
      which (inr e) =
          let u : IsUnderway a = subst IsUnderway (sym e.0) tt in
          let waits : r'.ledger.waits s ≡ r.ledger.waits s = ap (λ (q : Ledger). q.waits s) (subst (Happens z r r' s choice l l') e.0 h).ledger in
          let was = before.began (subst IsWaiting (sym (h.activity ∙ e.0)) tt) in
          (omega (arith, call_first u, was.0, waits), omega (arith, was.1, waits, grows))

  -- a scan that is about to settle has just drawn
  pub has_drawn : IsSettling l'.activity → (a ≡ Activity.Draw Draw.Version) × (l'.drawn ≡ word z r.world name.Clock) × ((r'.seats s).drawn ≡ length r.history.log)
  has_drawn x = which (waits_from z (word z r.world) s choice l a l' b (settling_waits l'.activity x))
    where
      which : ((a ≡ Activity.Draw Draw.Wait) × (l' ≡ record l { activity = Activity.Draw Draw.Version })) ⊎ ((a ≡ Activity.Draw Draw.Version) × (l' ≡ record l { drawn = word z r.world name.Clock; activity = Activity.Draw Draw.Settle })) → (a ≡ Activity.Draw Draw.Version) × (l'.drawn ≡ word z r.world name.Clock) × ((r'.seats s).drawn ≡ length r.history.log)
      which (inl e) = let y : IsSettling (Activity.Draw Draw.Version) = subst (λ (k : Local). IsSettling k.activity) e.1 x in absurd y
      which (inr e) = (e.0, ap (λ (k : Local). k.drawn) e.1, ap (λ (q : SeatLog). q.drawn) (subst (Happens z r r' s choice l l') e.0 h).log)

  -- the draw of a scan that is to settle
  its_settling : IsSettling l'.activity → Stands r'.history (r'.seats s).drawn Draw l'.drawn
  its_settling x =
      let e = has_drawn x in
      let g = subst (Happens z r r' s choice l l') e.0 h in
      let t : Stands r'.history (length r.history.log) Draw (word z r.world name.Clock) = new_stands r.history r'.history _ (subst (λ q. Step r.history r'.history (log_entry z r q s choice l)) e.0 st) in
      subst (λ q. Stands r'.history q Draw l'.drawn) (sym e.2) (subst (λ q. Stands r'.history (length r.history.log) Draw q) (sym e.1) t)

  -- the word of a scan that has settled
  its_settled : is_scan l'.call ≡ true → IsSettled l'.activity → word z r'.world (name.Scan s) ≡ scan_word (Drawn l'.version)
  its_settled e x = which (settled_from z (word z r.world) s choice l a l' b (kind_at a h i.shape) e x)
    where
      u : IsUnderway a
      u = drawn_underway z (word z r.world) s choice l a l' b (settled_draws l'.activity x)

      which : IsCovering a ⊎ IsSettling a → word z r'.world (name.Scan s) ≡ scan_word (Drawn l'.version)
      which (inl c) = word_settled a h c x ∙ before.settled (was_scan u e) (subst IsSettled (sym h.activity) (covering_settled a c)) ∙ ap (λ q. scan_word (Drawn q)) (sym (not_idle_drawn z (word z r.world) s choice l a l' b (covering_draws a c) (settled_draws l'.activity x)))
      which (inr y) = word_of (settle y)
        where
          word_of : Settles z r r' s l l' → word z r'.world (name.Scan s) ≡ scan_word (Drawn l'.version)
          word_of (by_itself v w d) = w ∙ ap (λ q. scan_word (Drawn q)) (sym v)
          word_of (by_helper n v w d) = w ∙ ap (λ q. scan_word (Drawn q)) (sym v)

  -- the draw of a scan that has its version
  its_drawn : is_scan l'.call ≡ true → HasDrawn l'.activity → IsDrawnAt r'.history (r'.seats s).drawn l'.version × ((called r'.history (r'.seats s).call).first < (r'.seats s).drawn)
  its_drawn e x = which (drawn_from z (word z r.world) s choice l a l' b (kind_at a h i.shape) e x)
    where
      u : IsUnderway a
      u = drawn_underway z (word z r.world) s choice l a l' b x

      -- the same draw
      same : (at version : ℕ) → (r'.seats s).drawn ≡ at → l'.version ≡ version → IsDrawnAt r.history at version → IsDrawnAt r'.history (r'.seats s).drawn l'.version
      same at version d v t = rw (d, v) (drawn_lasts r.history r'.history lasts t)

      settled_so : IsSettling a → Settles z r r' s l l' → IsDrawnAt r'.history (r'.seats s).drawn l'.version × ((called r'.history (r'.seats s).call).first < (r'.seats s).drawn)
      settled_so y (by_itself v w d) =
          let m = subst IsSettling (sym h.activity) y in
          (same _ _ d v (record { kind = Draw; is_draw = tt; stands = before.settling m }), omega (arith, call_first u, d, before.settling_first m))
      settled_so y (by_helper n v w d) =
          (same _ _ d v n.drawn, omega (arith, call_first u, d, (before.began (subst IsWaiting (sym h.activity) (settling_waits a y))).0, n.after))

      which : HasDrawn a ⊎ IsSettling a → IsDrawnAt r'.history (r'.seats s).drawn l'.version × ((called r'.history (r'.seats s).call).first < (r'.seats s).drawn)
      which (inl y) =
          let m = subst HasDrawn (sym h.activity) y in (
            same _ _ (drawn_kept (draws_no_more a y)) (not_idle_drawn z (word z r.world) s choice l a l' b y x) (before.drawn (was_scan u e) m),
            omega (arith, call_first u, drawn_kept (draws_no_more a y), before.drawn_first (was_scan u e) m),
          )
      which (inr y) = settled_so y (settle y)

  -- a draw is past
  drawn_before : {x version : ℕ} → IsDrawnAt r.history x version → x < length r.history.log
  drawn_before {x} {version} d = stands_before r.history x d.kind version d.stands

  -- where a reader looked: now, or before
  its_looked : IsReading l'.activity → ((called r'.history (r'.seats s).call).first < (r'.seats s).looked) × ((r'.seats s).looked < length r'.history.log) × (is_scan l'.call ≡ true → (r'.seats s).drawn < (r'.seats s).looked)
  its_looked x = which (reading_from z (word z r.world) s choice l a l' b x)
    where
      u : IsUnderway a
      u = drawn_underway z (word z r.world) s choice l a l' b (reading_draws l'.activity x)

      now_grows : length r.history.log < length r'.history.log
      now_grows = (goes_on_by z r r' s choice l a l' h i st).now

      which : IsReading a ⊎ (a ≡ Activity.Look (Look.Entry 0)) → ((called r'.history (r'.seats s).call).first < (r'.seats s).looked) × ((r'.seats s).looked < length r'.history.log) × (is_scan l'.call ≡ true → (r'.seats s).drawn < (r'.seats s).looked)
      which (inl y) =
          let m = subst IsReading (sym h.activity) y in (
            omega (arith, call_first u, looked_kept y, before.looked_first m),
            omega (arith, looked_kept y, before.looked m, now_grows),
            λ e. omega (arith, looked_kept y, drawn_kept (draws_no_more a (reading_draws a y)), before.looked_after (was_scan u e) m),
          )
      which (inr y) =
          let at = looks_now z r r' s choice l l' (subst (Happens z r r' s choice l l') y h) in
          let d : HasDrawn a = subst HasDrawn (sym y) tt in (
            omega (arith, call_first u, at, call_before u),
            omega (arith, at, now_grows),
            λ e. omega (arith, at, drawn_kept (draws_no_more a d), drawn_before (before.drawn (was_scan u e) (subst HasDrawn (sym h.activity) d))),
          )

  -- all of it
  pub draws_after : Draws (word z r'.world) r'.history s (r'.ledger.waits s) (r'.settled s) l'.activity l' (r'.seats s)
  draws_after = record {
    waits = its_waits;
    began = its_began;
    loaded = its_loaded;
    least = its_least;
    settling = its_settling;
    settling_first = λ x. let e = has_drawn x in let u : IsUnderway a = subst IsUnderway (sym e.0) tt in omega (arith, call_first u, call_before u, e.2);
    settled = its_settled;
    drawn = λ e x. (its_drawn e x).0;
    drawn_first = λ e x. (its_drawn e x).1;
    looked_first = λ x. (its_looked x).0;
    looked = λ x. (its_looked x).1;
    looked_after = λ e x. (its_looked x).2 e;
  }
