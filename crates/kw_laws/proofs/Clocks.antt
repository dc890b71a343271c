-- Until a scan is past its load of the clock, the clock is the opening's, no scan waits and no seat
-- helps one, by induction over the events. So a scan that loads the clock first is not refused.
use Rattle.std.proofs.Common.{ℕ, ◌≡◌, ◌≢◌, ◌⊎◌, inl, inr, ◌+◌, ◌<◌, ◌≤◌, true, Option, Some, None, List, [], ◌∷◌, arith, refl, sym, ◌∙◌, ap, subst, length, length-append, length-set, slice_get}
use Rattle.std.proofs.lemmas.Bool.{cases_eq}
use Rattle.kw_words.specs.declared.layout.Name.TheVariants as name
use Rattle.kw_words.specs.declared.scan.ScanWord.TheVariants.{Waiting, Quiet}
use Rattle.kw_words.specs.declared.sizes.TheConstants.{SPENT}
use Rattle.kw_words.specs.Scan.{scan_of, scan_word}
use Rattle.kw_words.proofs.ScanWords.{scan_word_of}
use Rattle.kw_model.specs.declared.call.Call.{Call}
use Rattle.kw_model.specs.declared.call.Call.TheVariants.{Put, Del, Get, Scan, Pin, ScanAt, Unpin}
use Rattle.kw_model.specs.declared.call.Reply.TheVariants as reply
use Rattle.kw_world.specs.declared.activity.Activity.{Activity}
use Rattle.kw_world.specs.declared.activity.draw.Draw.TheVariants as Draw
use Rattle.kw_world.specs.declared.activity.rebalance.freeze.Freeze.TheVariants as Freeze
use Rattle.kw_world.specs.declared.activity.rebalance.Rebalance.TheVariants as Rebalance
use Rattle.kw_world.specs.declared.answer.Answer.{Answer}
use Rattle.kw_world.specs.declared.answer.Answer.TheVariants.{Done, Value, Absent, Pairs, NoRows, Spent, Stopped, Held, NotPinned}
use Rattle.kw_world.specs.declared.event.Choice.{Choice}
use Rattle.kw_world.specs.declared.event.Event.{Event}
use Rattle.kw_world.specs.declared.local.Local.{Local}
use Rattle.kw_world.specs.declared.opening.Opening.{Opening}
use Rattle.kw_world.specs.Answers.{reply_of}
use Rattle.kw_world.specs.Calls.{is_scan}
use Rattle.kw_world.specs.Opening.{IsOpening}
use Rattle.kw_world.specs.Sane.{IsActivity}
use Rattle.kw_world.specs.Sizes.{Sizes}
use Rattle.kw_world.specs.Step.{word}
use Rattle.kw_world.specs.Table.{transition}
use Rattle.kw_world.specs.WalkTransitions.{offered}
use Rattle.kw_world.specs.WorldView.{WorldView}
use Rattle.kw_core.specs.Events.{is_valid, may_step}
use Rattle.kw_core.specs.History.{History, called}
use Rattle.kw_core.specs.declared.history.Change.{Change}
use Rattle.kw_core.specs.declared.history.CallLog.{CallLog}
use Rattle.kw_core.specs.declared.history.End.{End}
use Rattle.kw_core.specs.declared.history.Logged.{Logged}
use Rattle.kw_core.specs.declared.seat_log.SeatLog.{SeatLog}
use Rattle.kw_core.specs.Noted.{noted}
use Rattle.kw_core.specs.Run as run
use Rattle.kw_core.specs.Run.{Run, Origins, answering, drawing, change_of, history, logged, noted_by, start}
use Rattle.kw_core.specs.Stages.{IsBusy, IsUnderway}
use Rattle.kw_core.specs.Words.{Words}
use Rattle.kw_core.proofs.Changes.{Makes, made, makes_nothing, makes_begin, makes_add, makes_announce, makes_stamp, makes_help, makes_end, makes_lose}
use Rattle.kw_core.proofs.Events.{may_come}
use Rattle.kw_core.proofs.FreezeFrame.{clock_stays}
use Rattle.kw_core.proofs.Happens.{Happens, each_seat, found_at, happens, knows_next, knows_other}
use Rattle.kw_core.proofs.NotedLaws.{called_set_same}
use Rattle.kw_core.proofs.Runs.{goes_on-moved, history-world, holds_of_history}
use Rattle.kw_core.proofs.SeatLogs.{call_kept}
use Rattle.kw_core.proofs.Steps.{none_some}
use Rattle.kw_shape.proofs.NextCalls.{arrow_call}
use Rattle.kw_shape.proofs.ShapeOpens.{all_resting, opens}
use Rattle.kw_shape.specs.Shape.{IsKind}
use Rattle.kw_puts.specs.Positions.{Calling, HelpsScan}
use Rattle.kw_puts.proofs.Helpers.{ScanStep, is_kept, begins_to_wait, waits_no_more, scan_step}
use Rattle.kw_puts.proofs.Owners.{true_false}
use Rattle.kw_reads.specs.Inv.{Inv, lower}
use Rattle.kw_reads.proofs.Keeps.{inv_keeps}
use Rattle.kw_reads.proofs.Opens.{inv_start}
use Rattle.kw_laws.specs.Clocks.{IsScan, IsBehindScan, AreRefusedBehindScans, RestsWithoutScans}
use Rattle.kw_laws.proofs.Over.{CallOver, goes_on, is_ended, call_over, IsCallNow, call_was}
use Rattle.kw_laws.proofs.ScanArrows.{IsBeforeLoad, IsRefused, IsTurning, before_from, help_from, refused_from, scan_turns_not, scans}

-- What is kept.

-- some scan is past its load of the clock, or has ended
data IsPast (r : Run) : Type 0 where
  is_at_work : (t : ℕ) (k : Local) → slice_get r.world.locals t ≡ Some k → is_scan k.call ≡ true → (IsBeforeLoad k.activity → ⊥) → IsPast r
  has_ended : (x : ℕ) (e : End) → x < length r.history.calls → IsScan (called r.history x).call → (called r.history x).end ≡ Some e → IsPast r

-- call x may find no version left at this position, or the clock of the opening was at its bound
abbrev MayBeRefused : Opening → History → ℕ → ℕ → Type 0
MayBeRefused o h x at = (SPENT ≤ o.clock) ⊎ IsBehindScan h x at

-- all that every event keeps, and with it what holds until a scan is past its load of the clock; a
-- scan that is about to leave refused may be so
record Clocks (z : Sizes) (o : Opening) (r : Run) : Type 0 where
  inv : Inv z r
  clock : (word z r.world name.Clock ≡ o.clock) ⊎ IsPast r
  waits : (t c : ℕ) → t < z.seats → word z r.world (name.Scan t) ≡ scan_word (Waiting c) → IsPast r
  helps : (u : ℕ) (k : Local) → slice_get r.world.locals u ≡ Some k → (t : ℕ) → t < z.seats → HelpsScan t k.activity → IsPast r
  leaves : (t : ℕ) (k : Local) → slice_get r.world.locals t ≡ Some k → IsRefused k.activity → is_scan k.call ≡ true → MayBeRefused o r.history (r.seats t).call (length r.history.log)
  refused : AreRefusedBehindScans o r.history

-- Calls.

-- a scan, as a call of the record
is_one : (c : Option Call) (d : Call) → c ≡ Some d → is_scan c ≡ true → IsScan d
is_one c (Scan from upto) i e = tt
is_one c (Put key value) i e = true_false (sym (ap is_scan i) ∙ e) refl
is_one c (Del key) i e = true_false (sym (ap is_scan i) ∙ e) refl
is_one c (Get key) i e = true_false (sym (ap is_scan i) ∙ e) refl
is_one c Pin i e = tt
is_one c (ScanAt from upto) i e = true_false (sym (ap is_scan i) ∙ e) refl
is_one c Unpin i e = true_false (sym (ap is_scan i) ∙ e) refl

-- and as that of a seat
is_the_seats : (c : Option Call) (from upto : ℕ) → c ≡ Some (Scan from upto) → is_scan c ≡ true
is_the_seats c from upto i = ap is_scan i

-- an answer that is printed as a refusal of a scan
is_refusal : (answer : Answer) (pairs : List (ℕ × ℕ)) → reply_of answer pairs ≡ reply.Spent → IsRefused (Activity.Leave answer)
is_refusal Spent pairs e = tt
is_refusal Done pairs e = absurd (cc)
is_refusal (Value value) pairs e = absurd (cc)
is_refusal Absent pairs e = absurd (cc)
is_refusal Pairs pairs e = absurd (cc)
is_refusal NoRows pairs e = absurd (cc)
is_refusal Stopped pairs e = absurd (cc)
is_refusal Held pairs e = absurd (cc)
is_refusal NotPinned pairs e = absurd (cc)

-- no event takes a call out of the record
more_calls : (h h' : History) (e : Logged) (z : Sizes) (v : Words) (s : ℕ) (choice : Choice) (l : Local) (g : SeatLog) (o : Origins) (a : Activity) (c : Change) → Makes z v s choice l g o a c → h' ≡ noted h e c → length h.calls ≤ length h'.calls
more_calls h h' e z v s choice l g o a c (makes_begin call m) n =
    omega (arith, ap (λ (y : History). length y.calls) n, length-append h.calls (record { seat = s; number = l.number + 1; call = call; first = length h.log; end = None; put = None; answer = None; draw = None } ∷ []))
more_calls h h' e z v s choice l g o a c (makes_nothing b) n = omega (arith, ap (λ (y : History). length y.calls) n)
more_calls h h' e z v s choice l g o a c (makes_add m) n = omega (arith, ap (λ (y : History). length y.calls) n)
more_calls h h' e z v s choice l g o a c (makes_announce m) n = omega (arith, ap (λ (y : History). length y.calls) n)
more_calls h h' e z v s choice l g o a c (makes_stamp m) n = omega (arith, ap (λ (y : History). length y.calls) n, length-set {A = CallLog})
more_calls h h' e z v s choice l g o a c (makes_help q m k) n = omega (arith, ap (λ (y : History). length y.calls) n, length-set {A = CallLog})
more_calls h h' e z v s choice l g o a c (makes_lose i cell q y m k) n = omega (arith, ap (λ (y : History). length y.calls) n)
more_calls h h' e z v s choice l g o a c (makes_end answer) n = omega (arith, ap (λ (y : History). length y.calls) n, length-set {A = CallLog})

-- One event.

module _ (z : Sizes) (o : Opening) (r r' : Run) (s : ℕ) (choice : Choice) (l l' : Local) (a : Activity) (h : Happens z r r' s choice l l' a) (x : Clocks z o r) where
  over : (y : ℕ) → y < length r.history.calls → CallOver r.history r'.history l (r.seats s) a y
  over y w = call_over r.history r'.history _ z (word z r.world) s choice l (r.seats s) r.origin a _ (made z (word z r.world) s choice l (r.seats s) r.origin a) h.history y w

  was : (y : ℕ) → y < length r'.history.calls → (y < length r.history.calls) ⊎ IsCallNow r.history r'.history s choice l a y
  was y w = call_was r.history r'.history _ z (word z r.world) s choice l (r.seats s) r.origin a _ (made z (word z r.world) s choice l (r.seats s) r.origin a) h.history y w

  more : length r.history.calls ≤ length r'.history.calls
  more = more_calls r.history r'.history _ z (word z r.world) s choice l (r.seats s) r.origin a _ (made z (word z r.world) s choice l (r.seats s) r.origin a) h.history

  later : length r'.history.log ≡ length r.history.log + 1
  later = ap (λ (y : History). length y.log) h.history ∙ length-append r.history.log (logged s (transition z a s choice l).operation.kind (word z r.world name.Clock) ∷ [])

  kind : IsKind a l
  kind = subst (λ b. IsKind b l) h.activity (x.inv.shape.kinds s l h.knows).kind

  calling : (t : ℕ) (k : Local) → slice_get r.world.locals t ≡ Some k → IsBusy k.activity → Calling r.history t k.activity k (r.seats t)
  calling t k g u = x.inv.positions.calling t k g u

  -- the call and its first event stay
  call_same : (y : ℕ) → CallOver r.history r'.history l (r.seats s) a y → (called r'.history y).call ≡ (called r.history y).call
  call_same y (goes_on c) = c.call
  call_same y (is_ended answer e at c) = ap (λ (d : CallLog). d.call) c

  first_same : (y : ℕ) → CallOver r.history r'.history l (r.seats s) a y → (called r'.history y).first ≡ (called r.history y).first
  first_same y (goes_on c) = c.first
  first_same y (is_ended answer e at c) = ap (λ (d : CallLog). d.first) c

  -- the call that a seat ends
  ends_own : (answer : Answer) → a ≡ Activity.Leave answer → (called r'.history (r.seats s).call).end ≡ Some (record { at = length r.history.log; reply = reply_of answer l.pairs })
  ends_own answer e =
      let own = calling s l h.knows (subst IsBusy (sym (h.activity ∙ e)) tt) in
      let n = subst (λ b. r'.history ≡ noted r.history (logged s (transition z a s choice l).operation.kind (word z r.world name.Clock)) (change_of z b s choice l (found_at z (word z r.world) a s choice l) (r.seats s) r.origin)) e h.history in
      ap (λ (d : CallLog). d.end) (called_set_same r.history r'.history (r.seats s).call (record (called r.history (r.seats s).call) { end = Some (record { at = length r.history.log; reply = reply_of answer l.pairs }); answer = answering l.call l (r.seats s); draw = drawing answer l (r.seats s) }) (ap (λ (y : History). y.calls) n) own.within)

  -- A scan that is past the load, or has ended, stays so.

  past_keeps : IsPast r → IsPast r'
  past_keeps (has_ended y e w c d) = which (over y w)
    where
      which : CallOver r.history r'.history l (r.seats s) a y → IsPast r'
      which (goes_on q) = has_ended y e (omega (arith, w, more)) (subst IsScan (sym q.call) c) (q.end ∙ d)
      which (is_ended answer i at q) = has_ended y (record { at = length r.history.log; reply = reply_of answer l.pairs }) (omega (arith, w, more)) (subst IsScan (sym (ap (λ (u : CallLog). u.call) q)) c) (ap (λ (u : CallLog). u.end) q)
  past_keeps (is_at_work t k g c n) = which (cases_eq t s)
    where
      own : k ≡ l → IsPast r'
      own same = by a refl
        where
          scanning : is_scan l.call ≡ true
          scanning = subst (λ (m : Local). is_scan m.call ≡ true) same c

          late : IsBeforeLoad a → ⊥
          late y = n (subst (λ (m : Local). IsBeforeLoad m.activity) (sym same) (subst IsBeforeLoad (sym h.activity) y))

          goes : (b : Activity) → a ≡ b → IsUnderway b → IsPast r'
          goes b e u =
              let under = subst IsUnderway (sym e) u in
              is_at_work s l' (knows_next h) (ap is_scan (arrow_call z (word z r.world) s choice l a l' h.arrow under).0 ∙ scanning) (λ y. early under (before_from z (word z r.world) s choice l a l' h.arrow y))
            where
              early : IsUnderway a → IsBeforeLoad a ⊎ IsTurning a → ⊥
              early u (inl y) = late y
              early u (inr y) = scan_turns_not a l kind scanning u y

          by : (b : Activity) → a ≡ b → IsPast r'
          by Activity.Idle e = absurd (late (subst IsBeforeLoad (sym e) tt))
          by (Activity.Leave answer) e =
              let m = calling s l h.knows (subst IsBusy (sym (h.activity ∙ e)) tt) in
              has_ended (r.seats s).call _ (omega (arith, m.within, more)) (subst IsScan (sym (call_same (r.seats s).call (over (r.seats s).call m.within))) (is_one l.call (called r.history (r.seats s).call).call m.call scanning)) (ends_own answer e)
          by b e = goes b e tt

      which : (t ≡ s) ⊎ (t ≡ s → ⊥) → IsPast r'
      which (inl e) = own (same_local k l (sym g ∙ subst (λ q. slice_get r.world.locals q ≡ Some l) (sym e) h.knows))
        where
          same_local : (k m : Local) → Some k ≡ Some m → k ≡ m
          same_local k m f = cc
      which (inr d) = is_at_work t k (knows_other h t d ∙ g) c n

  -- What holds until then.

  clock_keeps : (word z r'.world name.Clock ≡ o.clock) ⊎ IsPast r'
  clock_keeps = by a h
    where
      on : (word z r'.world name.Clock ≡ word z r.world name.Clock) → (word z r.world name.Clock ≡ o.clock) ⊎ IsPast r → (word z r'.world name.Clock ≡ o.clock) ⊎ IsPast r'
      on e (inl c) = inl (e ∙ c)
      on e (inr p) = inr (past_keeps p)

      by : (b : Activity) → Happens z r r' s choice l l' b → (word z r'.world name.Clock ≡ o.clock) ⊎ IsPast r'
      by (Activity.Draw Draw.Version) g = inr (past_keeps (is_at_work s l g.knows (scans l.call (subst (λ b. IsKind b l) g.activity (x.inv.shape.kinds s l g.knows).kind)) (λ y. subst IsBeforeLoad g.activity y)))
      by (Activity.Rebalance (Rebalance.Freeze (Freeze.Draw i))) g = inr (past_keeps (helped g))
        where
          helped : Happens z r r' s choice l l' (Activity.Rebalance (Rebalance.Freeze (Freeze.Draw i))) → IsPast r
          helped g = x.helps s l g.knows i (subst (IsActivity z) g.activity (x.inv.shape.sane.locals s l g.knows).ranges.activity) (subst (HelpsScan i) (sym g.activity) refl)
      by b g = on (clock_stays b g (λ y. y)) x.clock

  waits_keeps : (t c : ℕ) → t < z.seats → word z r'.world (name.Scan t) ≡ scan_word (Waiting c) → IsPast r'
  waits_keeps t c w e = which (scan_step z r r' s choice l l' (lower x.inv) a h t w)
    where
      which : ScanStep z r r' s l a t → IsPast r'
      which (is_kept f g) = past_keeps (x.waits t c w (sym f ∙ e))
      which (begins_to_wait f is g) = past_keeps (is_at_work s l h.knows (scans l.call (subst (λ b. IsKind b l) is kind)) (λ y. subst IsBeforeLoad (h.activity ∙ is) y))
      which (waits_no_more f g) = absurd (f c e)

  helps_keeps : (u : ℕ) (k : Local) → slice_get r'.world.locals u ≡ Some k → (t : ℕ) → t < z.seats → HelpsScan t k.activity → IsPast r'
  helps_keeps = each_seat h (λ u k. (t : ℕ) → t < z.seats → HelpsScan t k.activity → IsPast r') own (λ u k d g t w y. past_keeps (x.helps u k g t w y))
    where
      own : (t : ℕ) → t < z.seats → HelpsScan t l'.activity → IsPast r'
      own t w y = which (help_from z (word z r.world) s choice l a l' t h.arrow y)
        where
          which : HelpsScan t a ⊎ ((c : ℕ) × (scan_of (word z r.world (name.Scan t)) ≡ Some (Waiting c))) → IsPast r'
          which (inl b) = past_keeps (x.helps s l h.knows t w (subst (HelpsScan t) (sym h.activity) b))
          which (inr c) = past_keeps (x.waits t c.0 w (sym (scan_word_of _ (Waiting c.0) c.1)))

  -- Refusals.

  -- another scan that began before stays so
  may_keeps : (y at at' : ℕ) → at ≤ at' → MayBeRefused o r.history y at → MayBeRefused o r'.history y at'
  may_keeps y at at' w (inl c) = inl c
  may_keeps y at at' w (inr b) = inr (record {
    other = b.other;
    within = omega (arith, b.within, more);
    scans = subst IsScan (sym (call_same b.other (over b.other b.within))) b.scans;
    apart = b.apart;
    began = omega (arith, b.began, w, first_same b.other (over b.other b.within));
  })

  -- a scan that loads the clock and finds it at its bound
  finds_none : a ≡ Activity.Draw Draw.Clock → SPENT ≤ word z r.world name.Clock → MayBeRefused o r.history (r.seats s).call (length r.history.log)
  finds_none is w = which x.clock
    where
      own : Calling r.history s l.activity l (r.seats s)
      own = calling s l h.knows (subst IsBusy (sym (h.activity ∙ is)) tt)

      -- a call that stands elsewhere
      behind : (y : ℕ) → y < length r.history.calls → IsScan (called r.history y).call → y ≢ (r.seats s).call → MayBeRefused o r.history (r.seats s).call (length r.history.log)
      behind y u c d = inr (record { other = y; within = u; scans = c; apart = d; began = x.inv.history.past.first y u })

      which : (word z r.world name.Clock ≡ o.clock) ⊎ IsPast r → MayBeRefused o r.history (r.seats s).call (length r.history.log)
      which (inl e) = inl (omega (arith, e, w))
      which (inr (has_ended y e u c d)) = behind y u c (λ q. none_some (called r.history y).end e (ap (λ j. (called r.history j).end) q ∙ own.runs) d)
      which (inr (is_at_work t k g c n)) =
          let m = calling t k g (busy k.activity n) in
          behind (r.seats t).call m.within (is_one k.call (called r.history (r.seats t).call).call m.call c) (λ q. apart (sym m.seat ∙ ap (λ j. (called r.history j).seat) q ∙ own.seat))
        where
          busy : (b : Activity) → (IsBeforeLoad b → ⊥) → IsBusy b
          busy Activity.Idle n = n tt
          busy b n = tt

          apart : t ≡ s → ⊥
          apart q = n (subst (λ (m : Local). IsBeforeLoad m.activity) (same_local l k (sym h.knows ∙ subst (λ j. slice_get r.world.locals j ≡ Some k) q g)) (subst IsBeforeLoad (sym (h.activity ∙ is)) tt))
            where
              same_local : (k m : Local) → Some k ≡ Some m → k ≡ m
              same_local k m f = cc

  leaves_keeps : (t : ℕ) (k : Local) → slice_get r'.world.locals t ≡ Some k → IsRefused k.activity → is_scan k.call ≡ true → MayBeRefused o r'.history (r'.seats t).call (length r'.history.log)
  leaves_keeps = each_seat h (λ t k. IsRefused k.activity → is_scan k.call ≡ true → MayBeRefused o r'.history (r'.seats t).call (length r'.history.log)) own others
    where
      others : (t : ℕ) (k : Local) → t ≢ s → slice_get r.world.locals t ≡ Some k → IsRefused k.activity → is_scan k.call ≡ true → MayBeRefused o r'.history (r'.seats t).call (length r'.history.log)
      others t k d g y e = subst (λ (q : SeatLog). MayBeRefused o r'.history q.call (length r'.history.log)) (sym (h.logs t d)) (may_keeps (r.seats t).call (length r.history.log) (length r'.history.log) (omega (arith, later)) (x.leaves t k g y e))

      own : IsRefused l'.activity → is_scan l'.call ≡ true → MayBeRefused o r'.history (r'.seats s).call (length r'.history.log)
      own y e =
          let f = refused_from z (word z r.world) s choice l a l' h.arrow kind y e in
          let c = ap (λ (q : SeatLog). q.call) h.log ∙ call_kept z choice l (found_at z (word z r.world) a s choice l) l'.activity (r.seats s) r.origin r.history (r.settled s) a (subst IsUnderway (sym f.0) tt) in
          subst (λ q. MayBeRefused o r'.history q (length r'.history.log)) (sym c) (may_keeps (r.seats s).call (length r.history.log) (length r'.history.log) (omega (arith, later)) (finds_none f.0 f.1))

  refused_keeps : AreRefusedBehindScans o r'.history
  refused_keeps y from upto at w e = which (was y w)
    where
      old : y < length r.history.calls → CallOver r.history r'.history l (r.seats s) a y → MayBeRefused o r'.history y at
      old u (goes_on q) = may_keeps y at at (omega arith) (x.refused y from upto at u (sym q.call ∙ e.0, sym q.end ∙ e.1))
      old u (is_ended answer is here q) =
          let now : Some (record { at = length r.history.log; reply = reply_of answer l.pairs }) ≡ Some (record { at = at; reply = reply.Spent }) = sym (ap (λ (d : CallLog). d.end) q) ∙ e.1 in
          let end : record { at = length r.history.log; reply = reply_of answer l.pairs } ≡ record { at = at; reply = reply.Spent } = cc in
          let m = calling s l h.knows (subst IsBusy (sym (h.activity ∙ is)) tt) in
          let call : l.call ≡ Some (Scan from upto) = m.call ∙ ap (λ j. Some (called r.history j).call) (sym here) ∙ ap Some (sym (ap (λ (d : CallLog). d.call) q) ∙ e.0) in
          let may = x.leaves s l h.knows (subst IsRefused (sym (h.activity ∙ is)) (is_refusal answer l.pairs (ap (λ (d : End). d.reply) end))) (is_the_seats l.call from upto call) in
          subst (λ j. MayBeRefused o r'.history j at) (sym here) (may_keeps (r.seats s).call (length r.history.log) at (omega (arith, ap (λ (d : End). d.at) end)) may)

      which : (y < length r.history.calls) ⊎ IsCallNow r.history r'.history s choice l a y → MayBeRefused o r'.history y at
      which (inl u) = old u (over y u)
      which (inr n) = absurd (none_some (called r'.history y).end (record { at = at; reply = reply.Spent }) (ap (λ (d : CallLog). d.end) n.is) e.1)

  clocks_keep : Clocks z o r'
  clocks_keep = record {
    inv = inv_keeps z r r' s choice l a l' h x.inv;
    clock = clock_keeps;
    waits = waits_keeps;
    helps = helps_keeps;
    leaves = leaves_keeps;
    refused = refused_keeps;
  }

-- Lists.

clocks_go_on : (z : Sizes) (o : Opening) (r : Run) (e : Event) → may_step o r.world e ≡ true → Clocks z o r → Clocks z o (run.goes_on z r e)
clocks_go_on z o r e may x =
    let come = may_come o r.world e may in
    subst (Clocks z o) (sym (goes_on-moved z r e come.local come.knows come.moves))
    (clocks_keep z o r (noted_by z r e come.local) e.seat (offered r.world.rows e.choice) come.local _ come.local.activity (happens z r e come.local x.inv.shape.sane come.begins come.knows come.moves) x)

clocks_start : (z : Sizes) (o : Opening) → IsOpening z o → Clocks z o (start z o)
clocks_start z o opening = record {
  inv = inv_start z o opening;
  clock = inl (opens z o opening name.Clock tt);
  waits = λ t c w e. let f : scan_word Quiet ≡ scan_word (Waiting c) = sym (opens z o opening (name.Scan t) w) ∙ e in absurd (omega (arith, f));
  helps = λ u k g t w y. absurd (subst (λ (m : Local). HelpsScan t m.activity) (all_resting o.seats u k g) y);
  leaves = λ t k g y e. absurd (subst (λ (m : Local). IsRefused m.activity) (all_resting o.seats t k g) y);
  refused = λ y from upto at w e. absurd (omega (arith, w));
}

clocks_hold : (z : Sizes) (o : Opening) → IsOpening z o → (es : List Event) → is_valid z o es ≡ true → Clocks z o (history z o es)
clocks_hold z o opening es ok = holds_of_history z o (Clocks z o) (clocks_go_on z o) (clocks_start z o opening) es ok

-- The laws.

-- where no scan has begun the clock is the opening's
pub rests_hold : (z : Sizes) (o : Opening) → IsOpening z o → (es : List Event) → is_valid z o es ≡ true → RestsWithoutScans z o es (history z o es).history
rests_hold z o opening es ok none = ap (λ (w : WorldView). word z w name.Clock) (sym (history-world z o es)) ∙ which (clocks_hold z o opening es ok).clock
  where
    r : Run
    r = history z o es

    which : (word z r.world name.Clock ≡ o.clock) ⊎ IsPast r → word z r.world name.Clock ≡ o.clock
    which (inl e) = e
    which (inr (has_ended y e u c d)) = absurd (none y u c)
    which (inr (is_at_work t k g c n)) =
        let m = (clocks_hold z o opening es ok).inv.positions.calling t k g (busy k.activity n) in
        absurd (none (r.seats t).call m.within (is_one k.call (called r.history (r.seats t).call).call m.call c))
      where
        busy : (b : Activity) → (IsBeforeLoad b → ⊥) → IsBusy b
        busy Activity.Idle n = n tt
        busy b n = tt

-- a scan is refused only where another one began before it ended
pub refusals_hold : (z : Sizes) (o : Opening) → IsOpening z o → (es : List Event) → is_valid z o es ≡ true → AreRefusedBehindScans o (history z o es).history
refusals_hold z o opening es ok = (clocks_hold z o opening es ok).refused
