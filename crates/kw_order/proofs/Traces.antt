-- What a trace keeps: its events are valid, and its world and its record are those of the events.
use Rattle.std.proofs.Common.{◌≡◌, ◌<◌, ◌++◌, ◌∷◌, [], List, true, false, nat_lt, Some, arith, refl, sym, ◌∙◌, ap, subst, length, slice_get}
use Rattle.std.proofs.lemmas.Bool.{and_from, lt-ltb}
use Rattle.kw_words.specs.declared.sizes.TheConstants.{KEY_END, VALUE_END}
use Rattle.kw_model.specs.declared.call.Call.{Call}
use Rattle.kw_model.specs.declared.call.Call.TheVariants.{Put, Del, Get, Scan, Pin, ScanAt, Unpin}
use Rattle.kw_world.specs.declared.event.Event.{Event}
use Rattle.kw_world.specs.declared.activity.Activity.{Activity}
use Rattle.kw_world.specs.declared.event.Choice.{Choice}
use Rattle.kw_world.specs.declared.event.Choice.TheVariants.{Begin}
use Rattle.kw_world.specs.declared.event.StepDone.{StepDone}
use Rattle.kw_world.specs.declared.event.StepDone.TheVariants.{Moved, Ended, Skipped}
use Rattle.kw_world.specs.declared.local.Local.{Local}
use Rattle.kw_world.specs.declared.opening.Opening.{Opening}
use Rattle.kw_world.specs.Sizes.{product}
use Rattle.kw_world.specs.Opening.{IsOpening}
use Rattle.kw_world.specs.Sane.{CanBegin, IsCall, IsSane, CanBeginAt}
use Rattle.kw_world.specs.WorldView.{WorldView}
use Rattle.kw_world.specs.Step.{step, stepped, Stepped, is_skipped, IsMade}
use Rattle.kw_core.specs.Events.{is_valid, world, may_begin, is_call_in_range}
use Rattle.kw_core.specs.declared.history.CallLog.{CallLog}
use Rattle.kw_reads.specs.Inv.{Inv}
use Rattle.kw_laws.specs.Laws.{KeepsLaws}
use Rattle.kw_laws.specs.Live.{AreLive}
use Rattle.kw_laws.specs.Reach.{KeepsRows}
use Rattle.kw_core.specs.Recording.{Recording}
use Rattle.kw_laws.specs.Recorder.{Records, opening_record}
use Rattle.kw_core.specs.Run.{Run, goes_on, start}
use Rattle.kw_laws.proofs.EndedCalls.{ended_lasts}
use Rattle.kw_core.proofs.Events.{may_step_from, valid_front, valid-nil, valid-snoc, world-snoc}
use Rattle.kw_reads.proofs.Keeps.{inv_holds}
use Rattle.kw_laws.proofs.LawProofs.{laws_hold}
use Rattle.kw_laws.proofs.LiveRows.{lives}
use Rattle.kw_laws.proofs.ReachHolds.{reach_holds}
use Rattle.kw_laws.proofs.Records.{records_start, seats_kept}
use Rattle.kw_core.proofs.Runs.{history-nil, history-snoc, history-world}
use Rattle.kw_shape.proofs.Worlds.{world-rows}
use Rattle.kw_alone.proofs.Bounding.{few_to_mark}
use Rattle.kw_alone.proofs.Ending.{read_ends}
use Rattle.kw_alone.proofs.Lasting.{ends_at_last}
use Rattle.kw_alone.proofs.Marking.{product_marks}
use Rattle.kw_order.specs.Bounded.{IsBounded}
use Rattle.kw_order.specs.Trace.{TraceView, IsTrace, run_of, history_of, pushed, longer, GivesTops}
use Rattle.kw_order.proofs.Separate.{scan_top}

-- the laws of the run of a trace
pub trace_laws : (t : TraceView) (w : WorldView) (k : Recording) → IsTrace t w k → KeepsLaws product (run_of t)
trace_laws t w k i = laws_hold product t.opening i.opening t.events i.valid

-- each seat that is at its row is at one that was in the list
pub trace_live : (t : TraceView) (w : WorldView) (k : Recording) → IsTrace t w k → AreLive product t.opening t.events
trace_live t w k i = lives product t.opening i.opening t.events i.valid

-- no row is used again too early
pub trace_reach : (t : TraceView) (w : WorldView) (k : Recording) → IsTrace t w k → KeepsRows product t.opening t.events
trace_reach t w k i = reach_holds product t.opening i.opening t.events i.valid

-- a seat that goes on alone comes to a mark, and to the end of its call
pub trace_bounded : (t : TraceView) (w : WorldView) (k : Recording) → IsTrace t w k → IsBounded t.opening t.events
trace_bounded t w k i = record {
  marks = λ s xs ys zs e of less. product_marks t.opening s i.opening xs ys (part xs ys zs e) of less;
  reads = λ s xs ys zs e of reads less. read_ends product t.opening s i.opening xs ys (part xs ys zs e) of reads (omega (arith, less, few_to_mark t.opening.rows i.opening.sized.some_rows));
  ends = λ s xs ys zs e of less. ends_at_last t.opening s i.opening xs ys (part xs ys zs e) of less;
}
  where
    part : (xs ys zs : List Event) → t.events ≡ (xs ++ ys) ++ zs → is_valid product t.opening (xs ++ ys) ≡ true
    part xs ys zs e = valid_front product t.opening (xs ++ ys) zs (subst (λ x. is_valid product t.opening x ≡ true) e i.valid)

-- its world is sane
pub trace_sane : (t : TraceView) (w : WorldView) (k : Recording) → IsTrace t w k → IsSane product w
trace_sane t w k i = subst (IsSane product) (history-world product t.opening t.events ∙ sym i.world) (trace_laws t w k i).sane

-- it has as many seats as its opening says
pub trace_seats : (t : TraceView) (w : WorldView) (k : Recording) → IsTrace t w k → length w.locals ≡ t.opening.seats
trace_seats t w k i = ap (λ (x : WorldView). length x.locals) i.world ∙ seats_kept product t.opening t.events i.valid

-- and as many rows
pub trace_rows : (t : TraceView) (w : WorldView) (k : Recording) → IsTrace t w k → w.rows ≡ t.opening.rows
trace_rows t w k i = ap (λ (x : WorldView). x.rows) i.world ∙ world-rows product t.opening t.events

-- the run that its world and its record are of
pub trace_run : (t : TraceView) (w : WorldView) (k : Recording) → IsTrace t w k → (r : Run) × (r.world ≡ w) × Records product k r × Inv product r
trace_run t w k i = (run_of t, history-world product t.opening t.events ∙ sym i.world, i.recorded, inv_holds product t.opening i.opening t.events i.valid)

-- the trace of no events
pub trace_open : (o : Opening) (w : WorldView) (k : Recording) → IsOpening product o → w ≡ world product o [] → k ≡ opening_record product o.rows o.seats → IsTrace (record { opening = o; events = [] }) w k
trace_open o w k opening is_world is_record = record {
  opening = opening;
  valid = valid-nil product o;
  world = is_world;
  recorded = subst (λ (r : Run). Records product k r) (sym (history-nil product o)) (subst (λ (x : Recording). Records product x (start product o)) (sym is_record) (records_start product o));
}

-- a call that may begin is in range
in_range : (call : Call) → IsCall (Some call) → is_call_in_range call ≡ true
in_range (Put key value) h = and_from (nat_lt key KEY_END) _ (lt-ltb key KEY_END h.0) (lt-ltb value VALUE_END h.1)
in_range (Del key) h = lt-ltb key KEY_END h
in_range (Get key) h = lt-ltb key KEY_END h
in_range (Scan from upto) h = and_from (nat_lt from KEY_END) _ (lt-ltb from KEY_END h.0) (lt-ltb upto KEY_END h.1)
in_range Pin h = absurd h
in_range (ScanAt from upto) h = absurd h
in_range Unpin h = absurd h

begins : (choice : Choice) (l : Local) → CanBegin choice l → may_begin l.activity choice ≡ true
begins choice l h = which l.activity choice h
  where
    which : (a : Activity) (c : Choice) → CanBeginAt a c l → may_begin a c ≡ true
    which Activity.Idle (Begin call) g = in_range call g.0
    which _ c g = refl

-- the trace with one more event that was made
pub trace_more : (t : TraceView) (w v : WorldView) (k m : Recording) (e : Event) (l : Local) (done : StepDone) → IsTrace t w k → e.seat < t.opening.seats → CanBegin e.choice l → slice_get w.locals e.seat ≡ Some l → is_skipped l.activity e.choice ≡ false →
    stepped v done ≡ step product w e → ((r : Run) → r.world ≡ w → Records product k r → Records product m (goes_on product r e)) → IsTrace (record t { events = t.events ++ e ∷ [] }) v m
trace_more t w v k m e l done i inside begun knows moves is recorded = record {
  opening = i.opening;
  valid = valid-snoc product t.opening t.events e i.valid (may_step_from t.opening (world product t.opening t.events) e l inside (begins e.choice l begun) (subst (λ (x : WorldView). slice_get x.locals e.seat ≡ Some l) i.world knows) moves);
  world = ap (λ (x : Stepped). x.world) is ∙ ap (λ (x : WorldView). (step product x e).world) i.world ∙ sym (world-snoc product t.opening t.events e);
  recorded = subst (Records product m) (sym (history-snoc product t.opening t.events e)) (recorded (run_of t) (history-world product t.opening t.events ∙ sym i.world) i.recorded);
}

-- an event that was made is kept
pub kept : (t : TraceView) (e : Event) (done : StepDone) → IsMade done → pushed t e done ≡ record t { events = t.events ++ e ∷ [] }
kept t e Moved m = refl
kept t e (Ended reply) m = refl
kept t e Skipped m = absurd m

-- a scan that ended gives the tops of every longer trace
pub tops_last : (t : TraceView) → IsOpening product t.opening → is_valid product t.opening t.events ≡ true → (es : List Event) → is_valid product t.opening (t.events ++ es) ≡ true → GivesTops (history_of t) (history_of (longer t es))
tops_last t opening valid es later = λ x from to at pairs d e drawn key v w.
    let same = ended_lasts product t.opening opening t.events es valid later x _ e.1 in
    scan_top (history_of (longer t es)) (laws_hold product t.opening opening (t.events ++ es) later).history x from to at pairs d
    (ap (λ (c : CallLog). c.call) same ∙ e.0, ap (λ (c : CallLog). c.end) same ∙ e.1) (ap (λ (c : CallLog). c.draw) same ∙ drawn) key v w
