-- Every attempt of the record is what its events say, over one more event: it was so, or the event
-- adds, announces or stamps it.
use Rattle.std.proofs.Common.{ℕ, ◌≡◌, ◌⊎◌, inl, inr, ◌<◌, true, false, Some, None, List, [], ◌∷◌, ◌++◌, arith, refl, sym, ◌∙◌, ap, subst, length}
use Rattle.std.proofs.lemmas.Option.{same_Some}
use Rattle.kw_words.specs.declared.kind.Kind.TheVariants as kind
use Rattle.kw_words.specs.declared.layout.Name.TheVariants as name
use Rattle.kw_words.specs.declared.pend.Pend.TheVariants as pend
use Rattle.kw_words.specs.Pend.{pend_word}
use Rattle.kw_world.specs.declared.activity.Activity.{Activity}
use Rattle.kw_world.specs.declared.activity.look.Look.TheVariants as Look
use Rattle.kw_world.specs.declared.activity.put.Put.TheVariants as Put
use Rattle.kw_world.specs.declared.local.Local.{Local}
use Rattle.kw_world.specs.declared.event.Event.{Event}
use Rattle.kw_world.specs.declared.opening.Opening.{Opening}
use Rattle.kw_world.specs.Sizes.{Sizes}
use Rattle.kw_world.specs.WalkTransitions.{offered}
use Rattle.kw_world.specs.Step.{word}
use Rattle.kw_core.specs.declared.history.Attempt.{Attempt}
use Rattle.kw_core.specs.declared.history.End.{End}
use Rattle.kw_core.specs.History.{attempt, called}
use Rattle.kw_core.specs.Run.{Run}
use Rattle.kw_core.specs.Stages.{IsBusy, IsPutting, IsStamp, IsHelp}
use Rattle.kw_puts.specs.Puts.{OwnsAttempt}
use Rattle.kw_puts.specs.Positions.{Calling}
use Rattle.kw_reads.specs.Inv.{Inv}
use Rattle.kw_laws.specs.Mirror.{Acts, TakesCell, StampedBy, StampedAt, MirrorsAttempt, NoLoad, announcing, stamping, operation}
use Rattle.kw_core.proofs.Happens.{Happens}
use Rattle.kw_core.proofs.Changes.{made}
use Rattle.kw_core.proofs.RoomBelow.{room_below}
use Rattle.kw_puts.proofs.Owners.{entry_owner, published_puts}
use Rattle.kw_puts.proofs.Rely.{SameAttempt}
use Rattle.kw_reads.proofs.Relying.{goes_on_by}
use Rattle.kw_core.proofs.Steps.{old_call, none_some}
use Rattle.kw_reads.proofs.HistoryKeeps.{history_step}
use Rattle.kw_puts.proofs.NewAttempts.{IsNew, attempt_was}
use Rattle.kw_laws.proofs.Over.{AttemptOver, stays, is_announced, is_stamped, is_helped, attempt_over, CallOver, goes_on, is_ended, call_over, is_lost}
use Rattle.kw_laws.proofs.Occurs.{acts_lasts, takes_lasts, stamped_lasts, no_load_lasts}
use Rattle.kw_laws.proofs.Mirroring.{Kept, acts_here}

module _ (z : Sizes) (o : Opening) (es : List Event) (e : Event) (r r' : Run) (l l' : Local) (a : Activity) (h : Happens z r r' e.seat (offered r.world.rows e.choice) l l' a) (i : Inv z r) (k : Kept z o es r) where
  -- what is said of an attempt that is announced
  abbrev AnnouncedSo : Attempt → Type 0
  AnnouncedSo q = q.is_announced ≡ true → Acts z o (es ++ e ∷ []) q.announced q.seat (Activity.Put Put.Announce) (announcing q.row q.seat q.cell) (pend_word pend.Idle)

  -- and of one that is stamped
  abbrev StampedSo : Attempt → Type 0
  StampedSo q = q.is_stamped ≡ true → StampedAt z o (es ++ e ∷ []) q

  -- the seat's own attempt
  own_here : IsPutting a → OwnsAttempt (word z r.world) r.history e.seat l.activity l (r.seats e.seat)
  own_here p = i.puts.owns e.seat l h.knows (subst IsPutting (sym h.activity) p)

  over : (p : ℕ) → p < length r.history.attempts → AttemptOver (word z r.world) r.history r'.history e.seat l (r.seats e.seat) r.origin a p
  over p w = attempt_over r.history r'.history _ z (word z r.world) e.seat (offered r.world.rows e.choice) l (r.seats e.seat) r.origin a _ (made z (word z r.world) e.seat (offered r.world.rows e.choice) l (r.seats e.seat) r.origin a) h.history p w

  -- An attempt that was there.

  announced_so : (p : ℕ) → p < length r.history.attempts → AttemptOver (word z r.world) r.history r'.history e.seat l (r.seats e.seat) r.origin a p → AnnouncedSo (attempt r'.history p)
  announced_so p w (stays f) = subst AnnouncedSo (sym f) (λ x. acts_lasts z o es e _ _ (Activity.Put Put.Announce) _ _ ((k.mirrors.attempts p w).announced x))
  announced_so p w (is_announced is own idle f) =
      let q = own_here (subst IsPutting (sym is) tt) in
      let row : (attempt r.history p).row ≡ l.row = ap (λ x. (attempt r.history x).row) own ∙ q.row in
      let cell : (attempt r.history p).cell ≡ l.cell = ap (λ x. (attempt r.history x).cell) own ∙ q.cell in
      let seat : (attempt r.history p).seat ≡ e.seat = ap (λ x. (attempt r.history x).seat) own ∙ q.seat in
      subst AnnouncedSo (sym f) (λ x. rw (row, cell, seat) (acts_here z o es e r r' l l' a h k (Activity.Put Put.Announce) (announcing l.row e.seat l.cell) _ is refl idle))
  announced_so p w (is_stamped is own pending f) = subst AnnouncedSo (sym f) (λ x. acts_lasts z o es e _ _ (Activity.Put Put.Announce) _ _ ((k.mirrors.attempts p w).announced x))
  announced_so p w (is_helped is origin pending f) = subst AnnouncedSo (sym f) (λ x. acts_lasts z o es e _ _ (Activity.Put Put.Announce) _ _ ((k.mirrors.attempts p w).announced x))
  announced_so p w (is_lost j c is entry origin pending f) = subst AnnouncedSo (sym f) (λ x. acts_lasts z o es e _ _ (Activity.Put Put.Announce) _ _ ((k.mirrors.attempts p w).announced x))

  -- what a stamp says, of an attempt with the same row, seat, cell and stamp
  restamped : (q p : Attempt) → StampedAt z o (es ++ e ∷ []) q → p.row ≡ q.row → p.seat ≡ q.seat → p.cell ≡ q.cell → p.version ≡ q.version → p.load ≡ q.load → p.at ≡ q.at → StampedAt z o (es ++ e ∷ []) p
  restamped q p (inl t) f g c v n m = inl (rw (f, g, c, v, n, m) (record { stamps = t.stamps; loads = t.loads; last = t.last }))
  restamped q p (inr t) f g c v n m = inr (t.0, record { stamps = rw (f, g, c, v, m) t.1.stamps; loads = rw (v, n) t.1.loads; last = rw (n, m) t.1.last })

  stamped_so : (p : ℕ) → p < length r.history.attempts → AttemptOver (word z r.world) r.history r'.history e.seat l (r.seats e.seat) r.origin a p → StampedSo (attempt r'.history p)
  stamped_so p w (stays f) = subst StampedSo (sym f) (λ x. stamped_lasts z o es e _ ((k.mirrors.attempts p w).stamped x))
  stamped_so p w (is_announced is own idle f) = subst StampedSo (sym f) (λ x. restamped _ _ (stamped_lasts z o es e _ ((k.mirrors.attempts p w).stamped x)) refl refl refl refl refl refl)
  stamped_so p w (is_lost j c is entry origin pending f) = subst StampedSo (sym f) (λ x. restamped _ _ (stamped_lasts z o es e _ ((k.mirrors.attempts p w).stamped x)) refl refl refl refl refl refl)
  stamped_so p w (is_stamped is own pending f) =
      let q = own_here (subst IsPutting (sym is) tt) in
      let row : (attempt r.history p).row ≡ l.row = ap (λ x. (attempt r.history x).row) own ∙ q.row in
      let cell : (attempt r.history p).cell ≡ l.cell = ap (λ x. (attempt r.history x).cell) own ∙ q.cell in
      let seat : (attempt r.history p).seat ≡ e.seat = ap (λ x. (attempt r.history x).seat) own ∙ q.seat in
      subst StampedSo (sym f) (λ x. inl (by_own p row cell seat is pending))
    where
      by_own : (p : ℕ) → (attempt r.history p).row ≡ l.row → (attempt r.history p).cell ≡ l.cell → (attempt r.history p).seat ≡ e.seat → a ≡ Activity.Put Put.Stamp → word z r.world (name.Pend l.row e.seat) ≡ pend_word (pend.Pending l.cell) →
          let p' : Attempt = record (attempt r.history p) { is_stamped = true; version = l.version; load = (r.seats e.seat).loaded; at = length r.history.log } in
          StampedBy z o (es ++ e ∷ []) p' p'.seat (Activity.Put Put.Stamp) (Activity.Put Put.Clock) kind.Stamp
      by_own p row cell seat is pending = record {
        stamps = rw (row, cell, seat) (acts_here z o es e r r' l l' a h k (Activity.Put Put.Stamp) (stamping kind.Stamp l.row e.seat l.cell l.version) _ is refl pending);
        loads = rw seat (acts_lasts z o es e _ _ (Activity.Put Put.Clock) _ _ (k.stamp e.seat l h.knows (subst IsStamp (sym (h.activity ∙ is)) tt)));
        last = rw seat (no_load_lasts z o es e e.seat (r.seats e.seat).loaded (length r.history.log) (omega (arith, k.mirrors.events)) (subst (NoLoad z o es e.seat (r.seats e.seat).loaded) (sym k.mirrors.events) (k.loads e.seat)));
      }
  stamped_so p w (is_helped is origin pending f) =
      let known = i.shape.sane.locals e.seat l h.knows in
      let t = entry_owner i.puts l.row l.looked l.saw known.below.row known.ranges.looked pending in
      let q : OwnsAttempt (word z r.world) r.history l.looked t.local.activity t.local (r.seats l.looked) = i.puts.owns l.looked t.local t.knows (published_puts t.local.activity t.published) in
      let row : (attempt r.history (r.seats l.looked).own).row ≡ l.row = q.row ∙ t.row in
      let same : (r.seats l.looked).own ≡ p = same_Some _ p (sym (i.puts.given (r.seats l.looked).own q.within (i.puts.present l.looked t.local t.knows (published_puts t.local.activity t.published))).origin ∙ ap (λ x. r.origin x (attempt r.history (r.seats l.looked).own).cell) row ∙ ap (r.origin l.row) t.cell ∙ origin) in
      let at = λ (P : ℕ → Type 0) (x : P (r.seats l.looked).own). subst P same x in
      subst StampedSo (sym f) (λ x. inr (e.seat, by_helper p (at (λ y. (attempt r.history y).row ≡ l.row) row) (at (λ y. (attempt r.history y).cell ≡ l.saw) t.cell) (at (λ y. (attempt r.history y).seat ≡ l.looked) q.seat) is pending))
    where
      by_helper : (p : ℕ) → (attempt r.history p).row ≡ l.row → (attempt r.history p).cell ≡ l.saw → (attempt r.history p).seat ≡ l.looked → a ≡ Activity.Look Look.Help → word z r.world (name.Pend l.row l.looked) ≡ pend_word (pend.Pending l.saw) →
          StampedBy z o (es ++ e ∷ []) (record (attempt r.history p) { is_stamped = true; version = l.helping; load = (r.seats e.seat).loaded; at = length r.history.log }) e.seat (Activity.Look Look.Help) (Activity.Look Look.Clock) kind.HelpStamp
      by_helper p row cell seat is pending = record {
        stamps = rw (row, cell, seat) (acts_here z o es e r r' l l' a h k (Activity.Look Look.Help) (stamping kind.HelpStamp l.row l.looked l.saw l.helping) _ is refl pending);
        loads = acts_lasts z o es e _ _ (Activity.Look Look.Clock) _ _ (k.help e.seat l h.knows (subst IsHelp (sym (h.activity ∙ is)) tt));
        last = no_load_lasts z o es e e.seat (r.seats e.seat).loaded (length r.history.log) (omega (arith, k.mirrors.events)) (subst (NoLoad z o es e.seat (r.seats e.seat).loaded) (sym k.mirrors.events) (k.loads e.seat));
      }

  -- it was added before its call ended
  within_so : (p : ℕ) → p < length r.history.attempts → (d : End) → (called r'.history (attempt r.history p).call).end ≡ Some d → (attempt r.history p).add < d.at
  within_so p w d g = which ((old_call r.history r'.history _ (history_step z r r' e.seat (offered r.world.rows e.choice) l a l' h i) (attempt r.history p).call (i.history.laws.attempted p w).call).end d g)
    where
      which : ((called r'.history (attempt r.history p).call).end ≡ (called r.history (attempt r.history p).call).end) × ((called r'.history (attempt r.history p).call).answer ≡ (called r.history (attempt r.history p).call).answer) × ((called r'.history (attempt r.history p).call).draw ≡ (called r.history (attempt r.history p).call).draw) × ((called r'.history (attempt r.history p).call).put ≡ (called r.history (attempt r.history p).call).put)
          ⊎ ((called r.history (attempt r.history p).call).end ≡ None) × (d.at ≡ length r.history.log) × ((called r'.history (attempt r.history p).call).put ≡ (called r.history (attempt r.history p).call).put) → (attempt r.history p).add < d.at
      which (inl t) = (k.mirrors.attempts p w).within d (sym t.0 ∙ g)
      which (inr t) = omega (arith, t.1, i.history.past.add p w)

  old_attempt : (p : ℕ) → p < length r.history.attempts → MirrorsAttempt z o (es ++ e ∷ []) r'.history p
  old_attempt p w =
      let same : SameAttempt r.history r'.history p = (goes_on_by z r r' e.seat (offered r.world.rows e.choice) l a l' h i).attempts p w in
      record {
        takes = rw (same.add, same.seat, same.row, same.cell) (takes_lasts z o es e _ _ _ _ (k.mirrors.attempts p w).takes);
        within = λ d g. omega (arith, same.add, within_so p w d (subst (λ c. (called r'.history c).end ≡ Some d) same.call g));
        announced = announced_so p w (over p w);
        stamped = stamped_so p w (over p w);
      }

  -- An attempt that is added.

  -- its call runs
  runs_here : (b : IsBusy a) → a ≡ Activity.Put Put.Add → (d : End) → (called r'.history (r.seats e.seat).call).end ≡ Some d → ⊥
  runs_here b is d g = which (call_over r.history r'.history _ z (word z r.world) e.seat (offered r.world.rows e.choice) l (r.seats e.seat) r.origin a _ (made z (word z r.world) e.seat (offered r.world.rows e.choice) l (r.seats e.seat) r.origin a) h.history (r.seats e.seat).call call.within)
    where
      call : Calling r.history e.seat l.activity l (r.seats e.seat)
      call = i.positions.calling e.seat l h.knows (subst IsBusy (sym h.activity) b)

      which : CallOver r.history r'.history l (r.seats e.seat) a (r.seats e.seat).call → ⊥
      which (goes_on t) = none_some (called r.history (r.seats e.seat).call).end d call.runs (sym t.end ∙ g)
      which (is_ended answer f c t) = let x : (Activity.Put Put.Add) ≡ (Activity.Leave answer) = sym is ∙ f in cc

  new_attempt : (p : ℕ) → IsNew z r r' e.seat l a p → MirrorsAttempt z o (es ++ e ∷ []) r'.history p
  new_attempt p n = record {
    takes = subst (λ (q : Attempt). TakesCell z o (es ++ e ∷ []) q.add q.seat q.row q.cell) (sym n.is) (record {
      found = word z r.world (name.Count l.row);
      acts = acts_here z o es e r r' l l' a h k (Activity.Put Put.Add) (operation kind.AddCount (name.Count l.row) _) _ n.gives.takes refl refl;
      room = n.gives.room;
      given = refl;
      below = room_below z _ n.gives.room;
    });
    within = λ d g. absurd (runs_here (subst IsBusy (sym n.gives.takes) tt) n.gives.takes d (subst (λ (q : Attempt). (called r'.history q.call).end ≡ Some d) n.is g));
    announced = subst AnnouncedSo (sym n.is) (λ x. let y : false ≡ true = x in absurd (cc));
    stamped = subst StampedSo (sym n.is) (λ x. let y : false ≡ true = x in absurd (cc));
  }

  -- Both.

  pub attempts_keep : (p : ℕ) → p < length r'.history.attempts → MirrorsAttempt z o (es ++ e ∷ []) r'.history p
  attempts_keep p w = which (attempt_was a h p w)
    where
      which : (p < length r.history.attempts) ⊎ IsNew z r r' e.seat l a p → MirrorsAttempt z o (es ++ e ∷ []) r'.history p
      which (inl v) = old_attempt p v
      which (inr n) = new_attempt p n
