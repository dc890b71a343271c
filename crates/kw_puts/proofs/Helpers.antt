-- Seats that help scans: what becomes of the word of a scan over an event, and what a helper knows
-- of it.
use Rattle.std.proofs.Common.{ℕ, ◌≡◌, ◌≢◌, ◌⊎◌, inl, inr, ◌<◌, ◌≤◌, Bool, true, false, Some, arith, refl, sym, ◌∙◌, ap, subst, length, slice_get, eq-eqb}
use Rattle.std.proofs.lemmas.Bool.{cases_eq}
use Rattle.std.proofs.lemmas.Option.{same_Some}
use Rattle.kw_words.specs.declared.layout.Name.TheVariants as name
use Rattle.kw_words.specs.declared.kind.Kind.TheVariants as kind
use Rattle.kw_words.specs.declared.scan.ScanWord.TheVariants.{Quiet, Waiting, Drawn}
use Rattle.kw_words.specs.Scan.{scan_of, scan_word}
use Rattle.kw_words.proofs.ScanWords.{scan_word_of}
use Rattle.kw_world.specs.declared.activity.Activity.{Activity}
use Rattle.kw_world.specs.declared.activity.draw.Draw.TheVariants as Draw
use Rattle.kw_world.specs.declared.activity.rebalance.freeze.Freeze.TheVariants as Freeze
use Rattle.kw_world.specs.declared.activity.insert.Insert.TheVariants as Insert
use Rattle.kw_world.specs.declared.activity.look.Look.TheVariants as Look
use Rattle.kw_world.specs.declared.activity.read.Read.TheVariants as Read
use Rattle.kw_world.specs.declared.activity.rebalance.Rebalance.TheVariants as Rebalance
use Rattle.kw_world.specs.declared.activity.rebalance.replace.Replace.TheVariants as Replace
use Rattle.kw_world.specs.declared.activity.walk.Walk.TheVariants as Walk
use Rattle.kw_world.specs.declared.activity.rebalance.claim.Claim.TheVariants as Claim
use Rattle.kw_world.specs.declared.activity.rebalance.engage.Engage.TheVariants as Engage
use Rattle.kw_world.specs.declared.activity.enter.Enter.TheVariants as Enter
use Rattle.kw_world.specs.declared.activity.rebalance.gather.Gather.TheVariants as Gather
use Rattle.kw_world.specs.declared.activity.put.Put.TheVariants as Put
use Rattle.kw_world.specs.declared.activity.rebalance.seek.Seek.TheVariants as Seek
use Rattle.kw_world.specs.declared.activity.rebalance.write.Write.TheVariants as Write
use Rattle.kw_world.specs.declared.event.Choice.{Choice}
use Rattle.kw_world.specs.declared.local.Local.{Local}
use Rattle.kw_world.specs.Sizes.{Sizes}
use Rattle.kw_world.specs.Step.{word}
use Rattle.kw_world.specs.WalkTransitions.{is_stopped}
use Rattle.kw_core.specs.History.{Stands, Draw}
use Rattle.kw_core.specs.Ledger.{Ledger}
use Rattle.kw_core.specs.Run.{Run}
use Rattle.kw_core.specs.declared.seat_log.SeatLog.{SeatLog}
use Rattle.kw_core.specs.Stages.{IsWaiting}
use Rattle.kw_core.specs.Step.{Step}
use Rattle.kw_core.specs.Words.{Words}
use Rattle.kw_core.proofs.BuiltNext.{built_next}
use Rattle.kw_core.proofs.Grouping.{NextFrozen, NextGathered, freezes_ahead, froze_all, gathered_all, gathers_ahead}
use Rattle.kw_puts.proofs.BuiltStages.{after_helps, counted_not, no_scan_replaced, of_pin_is, pin_look_is}
use Rattle.kw_core.proofs.Arrows.{builds, Arrow, helps_scan, draws_for, freezes_last, keeps_no_more, remembers_last, sees_frozen_last, takes_no_more, decides, marks_led, asks_of_pin, looks_at_pin}
use Rattle.kw_core.proofs.Frame.{unwritten, no_link, same_scan}
use Rattle.kw_core.proofs.FreezeFrame.{clock_never_falls, scan_stays}
use Rattle.kw_core.proofs.Happens.{Happens, log_entry, knows_next, knows_other, exchanged, not_exchanged}
use Rattle.kw_core.proofs.Steps.{new_stands}
use Rattle.kw_puts.specs.Below.{Below}
use Rattle.kw_puts.specs.Positions.{Draws, Helping, HelpsScan, HasDrawnFor, HasLoaded, IsToWait, IsScanning, IsHelped}
use Rattle.kw_puts.proofs.OwnScans.{IsAfterRead, after_read, loaded_from, stopped_clears, goes_on_walk}
use Rattle.kw_puts.proofs.RelyProof.{goes_on_by, waits_stay}

-- Words of scans.

-- a word that says what was drawn, or that no scan is at work, does not say that one waits
drawn_not : (c u : ℕ) → scan_word (Drawn u) ≢ scan_word (Waiting c)
drawn_not c u e = omega (arith, e)

quiet_not : (c : ℕ) → scan_word Quiet ≢ scan_word (Waiting c)
quiet_not c e = omega (arith, e)

-- what becomes of the word of the scan of seat t over an event of seat s that knows l: it stays; or
-- the seat's own scan begins to wait; or it waits no more, and the clock has gone on since it
-- waited
pub data ScanStep (z : Sizes) (r r' : Run) (s : ℕ) (l : Local) (a : Activity) (t : ℕ) : Type 0 where
  is_kept : word z r'.world (name.Scan t) ≡ word z r.world (name.Scan t) → (t ≡ s → a ≢ Activity.Draw Draw.Wait) → ScanStep z r r' s l a t
  begins_to_wait : t ≡ s → a ≡ Activity.Draw Draw.Wait → word z r'.world (name.Scan t) ≡ scan_word (Waiting l.waiting) → ScanStep z r r' s l a t
  waits_no_more : ((c : ℕ) → word z r'.world (name.Scan t) ≢ scan_word (Waiting c)) → ((c : ℕ) → word z r.world (name.Scan t) ≡ scan_word (Waiting c) → c < word z r.world name.Clock) → ScanStep z r r' s l a t

-- a seat whose scan does not wait has no word that says so
pub not_waiting : (z : Sizes) (r : Run) → Below z r → (t : ℕ) (k : Local) → slice_get r.world.locals t ≡ Some k → (IsWaiting k.activity → ⊥) → (c : ℕ) → word z r.world (name.Scan t) ≢ scan_word (Waiting c)
not_waiting z r i t k q n c w = which (i.positions.scans t k q)
  where
    which : IsScanning k.activity k ⊎ (word z r.world (name.Scan t) ≡ scan_word Quiet) → ⊥
    which (inl (inl x)) = n x
    which (inl (inr x)) = drawn_not c k.version (sym ((i.positions.draws t k q).settled x.0 x.1) ∙ w)
    which (inr e) = quiet_not c (sym e ∙ w)

module _ (z : Sizes) (r r' : Run) (s : ℕ) (choice : Choice) (l l' : Local) (i : Below z r) where
  -- the seat's own scan
  own_step : (a : Activity) → Happens z r r' s choice l l' a → ScanStep z r r' s l a s
  own_step (Activity.Draw Draw.Wait) h = begins_to_wait refl refl h.changed.same
  own_step (Activity.Draw Draw.Settle) h = settles (d.waits tt)
    where
      d : Draws (word z r.world) r.history s (r.ledger.waits s) (r.settled s) (Activity.Draw Draw.Settle) l (r.seats s)
      d = subst (λ b. Draws (word z r.world) r.history s (r.ledger.waits s) (r.settled s) b l (r.seats s)) h.activity (i.positions.draws s l h.knows)

      settles : (word z r.world (name.Scan s) ≡ scan_word (Waiting l.waiting)) ⊎ IsHelped (word z r.world) r.history s (r.ledger.waits s) (r.settled s) → ScanStep z r r' s l (Activity.Draw Draw.Settle) s
      settles (inl e) =
          waits_no_more (λ c f. drawn_not c l.drawn (sym (exchanged _ _ _ _ h.changed.same e) ∙ f))
          (λ c f. let x : scan_word (Waiting l.waiting) ≡ scan_word (Waiting c) = sym e ∙ f in omega (arith, x, d.least tt, i.positions.clocked.drawn _ Draw l.drawn tt (d.settling tt)))
      settles (inr n) = is_kept (not_exchanged _ _ _ _ h.changed.same (λ e. drawn_not l.waiting n.version (sym n.word ∙ e))) (λ x y. cc)
  own_step (Activity.EndScan answer) h = waits_no_more (λ c f. quiet_not c (sym h.changed.same ∙ f)) (λ c f. absurd (not_waiting z r i s l h.knows (λ x. subst IsWaiting h.activity x) c f))
  own_step (Activity.Walk Walk.Next) h = saw (is_stopped choice l) refl
    where
      saw : (b : Bool) → is_stopped choice l ≡ b → ScanStep z r r' s l (Activity.Walk Walk.Next) s
      saw true e = waits_no_more (λ c f. quiet_not c (sym (stopped_clears h e) ∙ f)) (λ c f. absurd (not_waiting z r i s l h.knows (λ x. subst IsWaiting h.activity x) c f))
      saw false e = is_kept (goes_on_walk h e) (λ x y. cc)
  own_step (Activity.Insert Insert.Exchange) h = is_kept (unwritten (Activity.Insert Insert.Exchange) h (name.Scan s) h.seat (λ e. no_link l.row l.link (name.Scan s) refl e)) (λ x y. cc)
  own_step (Activity.Rebalance (Rebalance.Freeze (Freeze.Settle j))) h = which (cases_eq s j)
    where
      which : (s ≡ j) ⊎ (s ≡ j → ⊥) → ScanStep z r r' s l (Activity.Rebalance (Rebalance.Freeze (Freeze.Settle j))) s
      which (inl e) =
          let other = subst (λ q. word z r.world (name.Scan q) ≢ scan_word (Waiting l.rebalance.waiting)) e (not_waiting z r i s l h.knows (λ x. subst IsWaiting h.activity x) l.rebalance.waiting) in
          is_kept (subst (λ q. word z r'.world (name.Scan q) ≡ word z r.world (name.Scan q)) (sym e) (not_exchanged _ _ _ _ h.changed.same other)) (λ x y. cc)
      which (inr d) = is_kept (unwritten (Activity.Rebalance (Rebalance.Freeze (Freeze.Settle j))) h (name.Scan s) h.seat (λ e. d (sym (same_scan j s e)))) (λ x y. cc)
  own_step (Activity.Rebalance (Rebalance.Replace Replace.Exchange)) h = is_kept (unwritten (Activity.Rebalance (Rebalance.Replace Replace.Exchange)) h (name.Scan s) h.seat (no_scan_replaced l.rebalance.before s)) (λ x y. cc)
  own_step (Activity.Enter Enter.Announce) h = is_kept (unwritten (Activity.Enter Enter.Announce) h (name.Scan s) h.seat (λ e. cc)) (λ x y. cc)
  own_step (Activity.Look Look.Key) h = is_kept (unwritten (Activity.Look Look.Key) h (name.Scan s) h.seat (λ e. cc)) (λ x y. cc)
  own_step (Activity.Put Put.Count) h = is_kept (unwritten (Activity.Put Put.Count) h (name.Scan s) h.seat (λ e. cc)) (λ x y. cc)
  own_step (Activity.Read Read.Link) h = is_kept (unwritten (Activity.Read Read.Link) h (name.Scan s) h.seat (λ e. cc)) (λ x y. cc)
  own_step (Activity.Rebalance (Rebalance.Engage Engage.Clock)) h = is_kept (unwritten (Activity.Rebalance (Rebalance.Engage Engage.Clock)) h (name.Scan s) h.seat (λ e. cc)) (λ x y. cc)
  own_step (Activity.Rebalance (Rebalance.Claim Claim.Count)) h = is_kept (unwritten (Activity.Rebalance (Rebalance.Claim Claim.Count)) h (name.Scan s) h.seat (λ e. cc)) (λ x y. cc)
  own_step (Activity.Rebalance (Rebalance.Gather Gather.Link)) h = is_kept (unwritten (Activity.Rebalance (Rebalance.Gather Gather.Link)) h (name.Scan s) h.seat (λ e. cc)) (λ x y. cc)
  own_step (Activity.Rebalance (Rebalance.Seek Seek.Next)) h = is_kept (unwritten (Activity.Rebalance (Rebalance.Seek Seek.Next)) h (name.Scan s) h.seat (λ e. cc)) (λ x y. cc)
  own_step (Activity.Rebalance (Rebalance.Write Write.Count)) h = is_kept (unwritten (Activity.Rebalance (Rebalance.Write Write.Count)) h (name.Scan s) h.seat (λ e. cc)) (λ x y. cc)
  own_step a h = is_kept (unwritten a h (name.Scan s) h.seat (λ e. cc)) (λ x y. cc)

  -- the scan of another seat
  other_step : (a : Activity) → Happens z r r' s choice l l' a → (t : ℕ) → t < z.seats → t ≢ s → ScanStep z r r' s l a t
  other_step (Activity.Rebalance (Rebalance.Freeze (Freeze.Settle j))) h t o d = which (cases_eq t j)
    where
      n : j < z.seats → Helping z r j (Activity.Rebalance (Rebalance.Freeze (Freeze.Settle j))) l (r.seats s)
      n w = subst (λ b. Helping z r j b l (r.seats s)) h.activity (i.positions.helping s l h.knows j w)

      at : j < z.seats → j ≢ s → (word z r.world (name.Scan j) ≡ scan_word (Waiting l.rebalance.waiting)) ⊎ (word z r.world (name.Scan j) ≡ scan_word (Waiting l.rebalance.waiting) → ⊥) → ScanStep z r r' s l (Activity.Rebalance (Rebalance.Freeze (Freeze.Settle j))) j
      at w f (inl e) =
          waits_no_more (λ c y. drawn_not c l.rebalance.drawn (sym (exchanged _ _ _ _ h.changed.same e) ∙ y))
          (λ c y. let x : scan_word (Waiting l.rebalance.waiting) ≡ scan_word (Waiting c) = sym e ∙ y in omega (arith, x, (n w).late refl))
      at w f (inr e) = is_kept (not_exchanged _ _ _ _ h.changed.same e) (λ x. absurd (f x))

      which : (t ≡ j) ⊎ (t ≡ j → ⊥) → ScanStep z r r' s l (Activity.Rebalance (Rebalance.Freeze (Freeze.Settle j))) t
      which (inl e) = subst (ScanStep z r r' s l (Activity.Rebalance (Rebalance.Freeze (Freeze.Settle j)))) (sym e) (at (subst (λ q. q < z.seats) e o) (subst (λ q. q ≢ s) e d) (cases_eq _ _))
      which (inr f) = is_kept (scan_stays (Activity.Rebalance (Rebalance.Freeze (Freeze.Settle j))) h t o d f) (λ x. absurd (d x))
  other_step a h t o d = is_kept (scan_stays a h t o d (λ u. u)) (λ x. absurd (d x))

  -- the scan of any seat
  pub scan_step : (a : Activity) → Happens z r r' s choice l l' a → (t : ℕ) → t < z.seats → ScanStep z r r' s l a t
  scan_step a h t o = which (cases_eq t s)
    where
      which : (t ≡ s) ⊎ (t ≡ s → ⊥) → ScanStep z r r' s l a t
      which (inl e) = subst (ScanStep z r r' s l a) (sym e) (own_step a h)
      which (inr d) = other_step a h t o d

-- a scan waits since a clock that is past, and began to before now
pub waiting_keeps : (z : Sizes) (r r' : Run) (s : ℕ) (choice : Choice) (l : Local) (a : Activity) (l' : Local) → Happens z r r' s choice l l' a → Below z r → Step r.history r'.history (log_entry z r a s choice l) → (t clock : ℕ) → t < z.seats → word z r'.world (name.Scan t) ≡ scan_word (Waiting clock) →
    (clock ≤ word z r'.world name.Clock) × (r'.ledger.waits t < length r'.history.log)
waiting_keeps z r r' s choice l a l' h i st t clock o w = which (scan_step z r r' s choice l l' i a h t o)
  where
    grows : length r.history.log < length r'.history.log
    grows = (goes_on_by z r r' s choice l a l' h i st).now

    which : ScanStep z r r' s l a t → (clock ≤ word z r'.world name.Clock) × (r'.ledger.waits t < length r'.history.log)
    which (is_kept e f) =
        let x = i.positions.waiting t clock o (sym e ∙ w) in
        (omega (arith, x.0, clock_never_falls a h), omega (arith, x.1, waits_stay z r r' s choice l a l' h t f, grows))
    which (begins_to_wait e is v) =
        let x : scan_word (Waiting l.waiting) ≡ scan_word (Waiting clock) = sym v ∙ w in
        let loaded = (i.positions.draws s l h.knows).loaded (subst HasLoaded (sym (h.activity ∙ is)) tt) in
        let waits : r'.ledger.waits t ≡ length r.history.log = ap (λ (g : Ledger). g.waits t) (subst (Happens z r r' s choice l l') is h).ledger ∙ rw (eq-eqb t s e) refl in
        (omega (arith, x, loaded, clock_never_falls a h), omega (arith, waits, grows))
    which (waits_no_more f g) = absurd (f clock w)

-- What a helper knows.

-- a seat that helps has just found that the scan waits, or has just drawn for it
data HelpsFrom (v : Words) (l : Local) (a : Activity) (k : Local) (t : ℕ) : Type 0 where
  has_looked : (j c : ℕ) → t ≡ j → a ≡ Activity.Rebalance (Rebalance.Freeze (Freeze.Scan j)) → scan_of (v (name.Scan j)) ≡ Some (Waiting c) → k ≡ record l { rebalance = record l.rebalance { waiting = c }; activity = Activity.Rebalance (Rebalance.Freeze (Freeze.Draw j)) } → HelpsFrom v l a k t
  has_drawn : (j : ℕ) → t ≡ j → a ≡ Activity.Rebalance (Rebalance.Freeze (Freeze.Draw j)) → k ≡ record l { rebalance = record l.rebalance { drawn = v name.Clock }; activity = Activity.Rebalance (Rebalance.Freeze (Freeze.Settle j)) } → HelpsFrom v l a k t

-- a read row does not lead to help
helps_not_read : (t : ℕ) (c : Activity) → HelpsScan t c → IsAfterRead c → ⊥
helps_not_read t (Activity.Rebalance (Rebalance.Freeze (Freeze.Draw j))) x y = y
helps_not_read t (Activity.Rebalance (Rebalance.Freeze (Freeze.Settle j))) x y = y
helps_not_read t (Activity.Walk Walk.First) x y = x
helps_not_read t _ x y = x

-- nor does a row of a group that is frozen, or gathered
frozen_helps : {A : Type 0} (t : ℕ) (l k : Local) → NextFrozen l k → HelpsScan t k.activity → A
frozen_helps t l k (freezes_ahead q e) x = absurd x
frozen_helps t l k (froze_all e) x = absurd x

gathered_helps : {A : Type 0} (t : ℕ) (z : Sizes) (l k : Local) → NextGathered z l k → HelpsScan t k.activity → A
gathered_helps t z l k (gathers_ahead q e) x = absurd x
gathered_helps t z l k (gathered_all e) x = absurd x

helps_from : (z : Sizes) (v : Words) (s : ℕ) (choice : Choice) (l : Local) (a : Activity) (k : Local) (t : ℕ) → Arrow z v s choice l a k → HelpsScan t k.activity → HelpsFrom v l a k t
helps_from z v s choice l a k t (builds b next y u) x = after_helps t next.activity (built_next z v choice l b next u) x
helps_from z v s choice l a k t (asks_of_pin next o n) x = absurd (of_pin_is (λ b. HelpsScan t b → ⊥) (λ y. y) (λ y. y) (λ y. y) (λ y. y) (λ y. y) (λ y. y) n x)
helps_from z v s choice l a k t (looks_at_pin j next n) x = absurd (pin_look_is (λ b. HelpsScan t b → ⊥) (λ q y. y) (λ y. y) n x)
helps_from z v s choice l a k t (helps_scan j c y) x = has_looked j c x refl y refl
helps_from z v s choice l a k t (draws_for j) x = has_drawn j x refl refl
helps_from z v s choice l (Activity.Look (Look.Entry j)) k t b x = absurd (helps_not_read t k.activity x (after_read z v s choice l (Activity.Look (Look.Entry j)) k b tt))
helps_from z v s choice l (Activity.Look Look.Key) k t b x = absurd (helps_not_read t k.activity x (after_read z v s choice l (Activity.Look Look.Key) k b tt))
helps_from z v s choice l (Activity.Look Look.Clock) k t b x = absurd (helps_not_read t k.activity x (after_read z v s choice l (Activity.Look Look.Clock) k b tt))
helps_from z v s choice l (Activity.Look Look.Help) k t b x = absurd (helps_not_read t k.activity x (after_read z v s choice l (Activity.Look Look.Help) k b tt))
helps_from z v s choice l (Activity.Read Read.Start) k t b x = absurd (helps_not_read t k.activity x (after_read z v s choice l (Activity.Read Read.Start) k b tt))
helps_from z v s choice l (Activity.Read Read.Link) k t b x = absurd (helps_not_read t k.activity x (after_read z v s choice l (Activity.Read Read.Link) k b tt))
helps_from z v s choice l (Activity.Read Read.Key) k t b x = absurd (helps_not_read t k.activity x (after_read z v s choice l (Activity.Read Read.Key) k b tt))
helps_from z v s choice l (Activity.Read Read.Version) k t b x = absurd (helps_not_read t k.activity x (after_read z v s choice l (Activity.Read Read.Version) k b tt))
helps_from z v s choice l (Activity.Read Read.Value) k t b x = absurd (helps_not_read t k.activity x (after_read z v s choice l (Activity.Read Read.Value) k b tt))
helps_from z v s choice l (Activity.Read Read.LeftOverKey) k t b x = absurd (helps_not_read t k.activity x (after_read z v s choice l (Activity.Read Read.LeftOverKey) k b tt))
helps_from z v s choice l (Activity.Read Read.LeftOverValue) k t b x = absurd (helps_not_read t k.activity x (after_read z v s choice l (Activity.Read Read.LeftOverValue) k b tt))
helps_from z v s choice l a k t (remembers_last j c version next e o n) x = frozen_helps t _ next n x
helps_from z v s choice l a k t (sees_frozen_last j next e o n) x = frozen_helps t _ next n x
helps_from z v s choice l a k t (freezes_last j next e o n) x = frozen_helps t _ next n x
helps_from z v s choice l a k t (takes_no_more next e o n) x = gathered_helps t z _ next n x
helps_from z v s choice l a k t (keeps_no_more next o n) x = gathered_helps t z _ next n x
helps_from z v s choice l (Activity.Rebalance (Rebalance.Freeze Freeze.Count)) k t b x = absurd x
helps_from z v s choice l a k t (marks_led count next d n) x = absurd (counted_not (HelpsScan t) (λ x. x) (λ x. x) n x)
helps_from z v s choice l a k t (decides count m next e n) x = absurd (counted_not (HelpsScan t) (λ x. x) (λ x. x) n x)
helps_from z v s choice l a k t b x = absurd x

-- a scan that is about to wait does not wait yet
to_wait_not : (a : Activity) → IsToWait a → IsWaiting a → ⊥
to_wait_not (Activity.Draw Draw.Wait) x y = y
to_wait_not (Activity.Rebalance (Rebalance.Engage Engage.Clock)) x y = x
to_wait_not _ x y = x

-- what is helped is known of the seat that is helped
helped_by : (t : ℕ) (a : Activity) → HasDrawnFor t a → HelpsScan t a
helped_by t (Activity.Rebalance (Rebalance.Freeze (Freeze.Settle j))) x = x
helped_by t _ x = absurd x

module _ (z : Sizes) (r r' : Run) (s : ℕ) (choice : Choice) (l : Local) (a : Activity) (l' : Local) (h : Happens z r r' s choice l l' a) (i : Below z r) (st : Step r.history r'.history (log_entry z r a s choice l)) where
  grows : word z r.world name.Clock ≤ word z r'.world name.Clock
  grows = clock_never_falls a h

  -- a seat that helps and does not act
  helping_other : (u : ℕ) (k : Local) → u ≢ s → slice_get r.world.locals u ≡ Some k → (t : ℕ) → t < z.seats → Helping z r' t k.activity k (r'.seats u)
  helping_other u k d q t o = record {
    waits = λ x. waits step (n.waits x) (n.loads x);
    least = λ x c w. least c w step (n.least x) (n.loads x);
    loads = λ x. loads (n.waits x) (n.loads x);
    late = λ x. omega (arith, n.late x, grows);
    drew = λ x. subst (λ (g : SeatLog). Stands r'.history g.drawn kind.HelpDraw k.rebalance.drawn) (sym (h.logs u d)) ((goes_on_by z r r' s choice l a l' h i st).stands _ kind.HelpDraw _ (n.drew x));
    after = λ x w. after w step (n.after x) (n.loads (helped_by t k.activity x));
  }
    where
      n : Helping z r t k.activity k (r.seats u)
      n = i.positions.helping u k q t o

      step : ScanStep z r r' s l a t
      step = scan_step z r r' s choice l l' i a h t o

      -- the clock that a scan is about to store is past
      stored : a ≡ Activity.Draw Draw.Wait → l.waiting ≤ word z r.world name.Clock
      stored is = (i.positions.draws s l h.knows).loaded (subst HasLoaded (sym (h.activity ∙ is)) tt)

      -- and later than that of the helper
      later : t ≡ s → a ≡ Activity.Draw Draw.Wait → ((m : Local) → slice_get r.world.locals t ≡ Some m → IsToWait m.activity → k.rebalance.waiting < m.waiting) → k.rebalance.waiting < l.waiting
      later e is f = f l (subst (λ c. slice_get r.world.locals c ≡ Some l) (sym e) h.knows) (subst IsToWait (sym (h.activity ∙ is)) tt)

      waits : ScanStep z r r' s l a t → (word z r.world (name.Scan t) ≡ scan_word (Waiting k.rebalance.waiting)) ⊎ (k.rebalance.waiting < word z r.world name.Clock) → ((m : Local) → slice_get r.world.locals t ≡ Some m → IsToWait m.activity → k.rebalance.waiting < m.waiting) →
          (word z r'.world (name.Scan t) ≡ scan_word (Waiting k.rebalance.waiting)) ⊎ (k.rebalance.waiting < word z r'.world name.Clock)
      waits y (inr c) f = inr (omega (arith, c, grows))
      waits (is_kept e g) (inl w) f = inl (e ∙ w)
      waits (begins_to_wait e is v) (inl w) f = inr (omega (arith, later e is f, stored is, grows))
      waits (waits_no_more g b) (inl w) f = inr (omega (arith, b k.rebalance.waiting w, grows))

      least : (c : ℕ) → word z r'.world (name.Scan t) ≡ scan_word (Waiting c) → ScanStep z r r' s l a t → ((y : ℕ) → word z r.world (name.Scan t) ≡ scan_word (Waiting y) → k.rebalance.waiting ≤ y) → ((m : Local) → slice_get r.world.locals t ≡ Some m → IsToWait m.activity → k.rebalance.waiting < m.waiting) → k.rebalance.waiting ≤ c
      least c w (is_kept e g) b f = b c (sym e ∙ w)
      least c w (begins_to_wait e is v) b f = let x : scan_word (Waiting l.waiting) ≡ scan_word (Waiting c) = sym v ∙ w in omega (arith, x, later e is f)
      least c w (waits_no_more g y) b f = absurd (g c w)

      loads : (word z r.world (name.Scan t) ≡ scan_word (Waiting k.rebalance.waiting)) ⊎ (k.rebalance.waiting < word z r.world name.Clock) → ((m : Local) → slice_get r.world.locals t ≡ Some m → IsToWait m.activity → k.rebalance.waiting < m.waiting) → (m : Local) → slice_get r'.world.locals t ≡ Some m → IsToWait m.activity → k.rebalance.waiting < m.waiting
      loads w f m g y = which (cases_eq t s)
        where
          which : (t ≡ s) ⊎ (t ≡ s → ⊥) → k.rebalance.waiting < m.waiting
          which (inr e) = f m (sym (knows_other h t e) ∙ g) y
          which (inl e) = acts (loaded_from z (word z r.world) s choice l a l' h.arrow (to_loaded l'.activity (subst (λ (c : Local). IsToWait c.activity) (sym same) y))) w
            where
              same : l' ≡ m
              same = same_Some l' m (sym (knows_next h) ∙ subst (λ c. slice_get r'.world.locals c ≡ Some m) e g)

              to_loaded : (c : Activity) → IsToWait c → HasLoaded c
              to_loaded (Activity.Draw Draw.Wait) x = tt
              to_loaded (Activity.Rebalance (Rebalance.Engage Engage.Clock)) x = absurd x
              to_loaded _ x = absurd x

              acts : ((a ≡ Activity.Draw Draw.Clock) × (l' ≡ record l { waiting = word z r.world name.Clock; activity = Activity.Draw Draw.Wait })) ⊎ ((a ≡ Activity.Draw Draw.Wait) × (l' ≡ record l { activity = Activity.Draw Draw.Version })) → (word z r.world (name.Scan t) ≡ scan_word (Waiting k.rebalance.waiting)) ⊎ (k.rebalance.waiting < word z r.world name.Clock) → k.rebalance.waiting < m.waiting
              acts (inl b) (inr c) = omega (arith, c, ap (λ (q : Local). q.waiting) (sym same ∙ b.1))
              acts (inl b) (inl c) = absurd (not_waiting z r i s l h.knows (λ x. subst IsWaiting (h.activity ∙ b.0) x) k.rebalance.waiting (subst (λ q. word z r.world (name.Scan q) ≡ scan_word (Waiting k.rebalance.waiting)) e c))
              acts (inr b) c = let x : IsToWait (Activity.Draw Draw.Version) = subst (λ (q : Local). IsToWait q.activity) (sym same ∙ b.1) y in absurd x

      after : word z r'.world (name.Scan t) ≡ scan_word (Waiting k.rebalance.waiting) → ScanStep z r r' s l a t → (word z r.world (name.Scan t) ≡ scan_word (Waiting k.rebalance.waiting) → r.ledger.waits t < (r.seats u).drawn) → ((m : Local) → slice_get r.world.locals t ≡ Some m → IsToWait m.activity → k.rebalance.waiting < m.waiting) → r'.ledger.waits t < (r'.seats u).drawn
      after w (is_kept e g) b f = omega (arith, b (sym e ∙ w), waits_stay z r r' s choice l a l' h t g, ap (λ (q : SeatLog). q.drawn) (h.logs u d))
      after w (begins_to_wait e is v) b f = let x : scan_word (Waiting l.waiting) ≡ scan_word (Waiting k.rebalance.waiting) = sym v ∙ w in absurd (omega (arith, x, later e is f))
      after w (waits_no_more g y) b f = absurd (g k.rebalance.waiting w)

  -- a seat that acts, and helps from then on
  helping_own : (t : ℕ) → t < z.seats → Helping z r' t l'.activity l' (r'.seats s)
  helping_own t o = record {
    waits = λ x. (from (helps_from z (word z r.world) s choice l a l' t h.arrow x)).waits x;
    least = λ x. (from (helps_from z (word z r.world) s choice l a l' t h.arrow x)).least x;
    loads = λ x. (from (helps_from z (word z r.world) s choice l a l' t h.arrow x)).loads x;
    late = λ x. (from (helps_from z (word z r.world) s choice l a l' t h.arrow (helped_by t l'.activity x))).late x;
    drew = λ x. (from (helps_from z (word z r.world) s choice l a l' t h.arrow (helped_by t l'.activity x))).drew x;
    after = λ x. (from (helps_from z (word z r.world) s choice l a l' t h.arrow (helped_by t l'.activity x))).after x;
  }
    where
      -- a seat that helps is not about to wait
      own_not : (j : ℕ) (c : Activity) → l'.activity ≡ c → (IsToWait c → ⊥) → (m : Local) → slice_get r'.world.locals j ≡ Some m → IsToWait m.activity → j ≢ s
      own_not j c is f m g y e = f (subst IsToWait (ap (λ (q : Local). q.activity) (sym (same_Some l' m (sym (knows_next h) ∙ subst (λ b. slice_get r'.world.locals b ≡ Some m) e g))) ∙ is) y)

      looked : (j c : ℕ) → a ≡ Activity.Rebalance (Rebalance.Freeze (Freeze.Scan j)) → scan_of (word z r.world (name.Scan j)) ≡ Some (Waiting c) → l' ≡ record l { rebalance = record l.rebalance { waiting = c }; activity = Activity.Rebalance (Rebalance.Freeze (Freeze.Draw j)) } → Helping z r' j l'.activity l' (r'.seats s)
      looked j c is y k = subst (λ (m : Local). Helping z r' j m.activity m (r'.seats s)) (sym k) (record {
        waits = λ x. inl now;
        least = λ x q w. let e : scan_word (Waiting c) ≡ scan_word (Waiting q) = sym now ∙ w in omega (arith, e);
        loads = λ x m g q.
            let d = own_not j (Activity.Rebalance (Rebalance.Freeze (Freeze.Draw j))) (ap (λ (b : Local). b.activity) k) (λ b. b) m g q in
            absurd (not_waiting z r i j m (sym (knows_other h j d) ∙ g) (to_wait_not m.activity q) c was);
        late = λ x. absurd x;
        drew = λ x. absurd x;
        after = λ x. absurd x;
      })
        where
          was : word z r.world (name.Scan j) ≡ scan_word (Waiting c)
          was = sym (scan_word_of _ (Waiting c) y)

          now : word z r'.world (name.Scan j) ≡ scan_word (Waiting c)
          now = (subst (Happens z r r' s choice l l') is h).changed.loaded refl (name.Scan j) ∙ was

      drew : (j : ℕ) → j < z.seats → a ≡ Activity.Rebalance (Rebalance.Freeze (Freeze.Draw j)) → l' ≡ record l { rebalance = record l.rebalance { drawn = word z r.world name.Clock }; activity = Activity.Rebalance (Rebalance.Freeze (Freeze.Settle j)) } → Helping z r' j l'.activity l' (r'.seats s)
      drew j w is k = subst (λ (m : Local). Helping z r' j m.activity m (r'.seats s)) (sym k) (record {
        waits = λ x. inr (omega (arith, past (n.waits refl), g.changed.same));
        least = λ x q e. n.least refl q (sym same ∙ e);
        loads = λ x m y q.
            let d = own_not j (Activity.Rebalance (Rebalance.Freeze (Freeze.Settle j))) (ap (λ (b : Local). b.activity) k) (λ b. b) m y q in
            n.loads refl m (sym (knows_other h j d) ∙ y) q;
        late = λ x. omega (arith, past (n.waits refl), g.changed.same);
        drew = λ x. subst (λ q. Stands r'.history q kind.HelpDraw (word z r.world name.Clock)) (sym drawn) (new_stands r.history r'.history _ (subst (λ q. Step r.history r'.history (log_entry z r q s choice l)) is st));
        after = λ x e. omega (arith, (i.positions.waiting j l.rebalance.waiting w (sym same ∙ e)).1, drawn, waits_stay z r r' s choice l (Activity.Rebalance (Rebalance.Freeze (Freeze.Draw j))) l' g j (λ q y. cc));
      })
        where
          g : Happens z r r' s choice l l' (Activity.Rebalance (Rebalance.Freeze (Freeze.Draw j)))
          g = subst (Happens z r r' s choice l l') is h

          n : Helping z r j (Activity.Rebalance (Rebalance.Freeze (Freeze.Draw j))) l (r.seats s)
          n = subst (λ b. Helping z r j b l (r.seats s)) g.activity (i.positions.helping s l h.knows j w)

          same : word z r'.world (name.Scan j) ≡ word z r.world (name.Scan j)
          same = unwritten (Activity.Rebalance (Rebalance.Freeze (Freeze.Draw j))) g (name.Scan j) w (λ e. cc)

          drawn : (r'.seats s).drawn ≡ length r.history.log
          drawn = ap (λ (q : SeatLog). q.drawn) g.log

          past : (word z r.world (name.Scan j) ≡ scan_word (Waiting l.rebalance.waiting)) ⊎ (l.rebalance.waiting < word z r.world name.Clock) → l.rebalance.waiting ≤ word z r.world name.Clock
          past (inl e) = (i.positions.waiting j l.rebalance.waiting w e).0
          past (inr c) = omega (arith, c)

      from : HelpsFrom (word z r.world) l a l' t → Helping z r' t l'.activity l' (r'.seats s)
      from (has_looked j c e is y k) = subst (λ q. Helping z r' q l'.activity l' (r'.seats s)) (sym e) (looked j c is y k)
      from (has_drawn j e is k) = subst (λ q. Helping z r' q l'.activity l' (r'.seats s)) (sym e) (drew j (subst (λ q. q < z.seats) e o) is k)

  -- every seat that helps
  pub helping_keeps : (u : ℕ) (k : Local) → slice_get r'.world.locals u ≡ Some k → (t : ℕ) → t < z.seats → Helping z r' t k.activity k (r'.seats u)
  helping_keeps u k g t o = which (cases_eq u s)
    where
      which : (u ≡ s) ⊎ (u ≡ s → ⊥) → Helping z r' t k.activity k (r'.seats u)
      which (inl e) =
          let same : l' ≡ k = same_Some l' k (sym (knows_next h) ∙ subst (λ c. slice_get r'.world.locals c ≡ Some k) e g) in
          subst (λ c. Helping z r' t k.activity k (r'.seats c)) (sym e) (subst (λ (m : Local). Helping z r' t m.activity m (r'.seats s)) same (helping_own t o))
      which (inr d) = helping_other u k d (sym (knows_other h u d) ∙ g) t o
