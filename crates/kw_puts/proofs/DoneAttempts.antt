-- Every event keeps what holds of the entries, of the attempts that are done, and of the attempt
-- that a reader is to help.
use Rattle.std.proofs.Common.{ℕ, ◌≡◌, ◌≢◌, ◌⊎◌, inl, inr, ◌<◌, Bool, true, false, arith, refl, sym, ◌∙◌, ap, subst, length, slice_get}
use Rattle.std.proofs.lemmas.Bool.{cases_eq}
use Rattle.std.proofs.lemmas.Option.{same_Some}
use Rattle.kw_words.specs.declared.layout.Name.TheVariants as name
use Rattle.kw_words.specs.declared.pend.Pend.TheVariants as pend
use Rattle.kw_words.specs.Count.{count_of}
use Rattle.kw_words.specs.Pend.{pend_word}
use Rattle.kw_world.specs.declared.activity.Activity.{Activity}
use Rattle.kw_world.specs.declared.activity.put.Put.TheVariants as Put
use Rattle.kw_world.specs.declared.local.Local.{Local}
use Rattle.kw_world.specs.declared.event.Choice.{Choice}
use Rattle.kw_world.specs.Sizes.{Sizes}
use Rattle.kw_world.specs.PutTransitions.{has_room}
use Rattle.kw_world.specs.Step.{word}
use Rattle.kw_core.specs.History.{attempt}
use Rattle.kw_core.specs.declared.history.Change.TheVariants.{Nothing, Announces, Stamps}
use Rattle.kw_core.specs.Noted.{noted}
use Rattle.kw_core.specs.Run.{Run}
use Rattle.kw_core.specs.Stages.{IsPutting, IsFresh, IsStamped, IsStored}
use Rattle.kw_core.specs.Words.{Words}
use Rattle.kw_puts.specs.Puts.{IsCurrent, IsOld, IsOver}
use Rattle.kw_puts.specs.Below.{Below}
use Rattle.kw_core.specs.Step.{Step}
use Rattle.kw_core.proofs.Happens.{log_entry}
use Rattle.kw_core.proofs.Happens.{Happens, knows_next, knows_other, not_chosen}
use Rattle.kw_core.proofs.Building.{IsBuilding}
use Rattle.kw_core.proofs.Arrows.{builds, Arrow, takes_full, announces_full, stamps_full, IsNotOwn, tidies}
use Rattle.kw_core.proofs.Arrows.{takes_cell, stores_key, stores_value, announces, loads_clock, stamps, is_stamped, stores_version, reaches_cell, sees_none, key_before, key_same, key_after, version_before, version_after, stores_after, inserts, loses, clears, first_reaches, first_sees_none, inserts_at_first, inserts_behind}
use Rattle.kw_core.proofs.InfantFrames.{version_stays}
use Rattle.kw_puts.proofs.Owners.{true_false}
use Rattle.kw_puts.proofs.Rely.{SameAttempt}
use Rattle.kw_puts.proofs.RelyEntry.{attempt_left}
use Rattle.kw_puts.proofs.RelyProof.{goes_on_by, rely_version}
use Rattle.kw_puts.proofs.NewAttempts.{IsNew, attempt_was, over_stays}
use Rattle.kw_puts.proofs.OwnAttempts.{acting_own, positive, lost_entry, lost_frozen}
use Rattle.kw_puts.proofs.HereStays.{here_was}

-- Attempts that are done.

-- a lost attempt is not stamped
pub lost_unstamped : (z : Sizes) (r : Run) → Below z r → (p : ℕ) → (attempt r.history p).is_lost ≡ true → (attempt r.history p).is_stamped ≡ false
lost_unstamped z r i p x = by (attempt r.history p).is_stamped refl
  where
    by : (b : Bool) → (attempt r.history p).is_stamped ≡ b → (attempt r.history p).is_stamped ≡ false
    by true y = true_false x (i.history.laws.kept p y)
    by false y = y

-- an attempt that was not announced and is not now is over for its seat
refused : (z : Sizes) (r r' : Run) (s : ℕ) (choice : Choice) (l : Local) (l' : Local) → word z r.world (name.Pend l.row s) ≢ pend_word pend.Idle → Happens z r r' s choice l l' (Activity.Put Put.Announce) → Below z r → IsOver r'.history (r.seats s).own
refused z r r' s choice l l' n h i =
    let own = acting_own z r r' s choice l (Activity.Put Put.Announce) l' h i tt in
    let same = attempt_left r.history r'.history _ (r.seats s).own Nothing tt (h.history ∙ ap (λ c. noted r.history (log_entry z r (Activity.Put Put.Announce) s choice l) c) (not_chosen _ _ (Announces (r.seats s).own) Nothing n)) own.within in
    record { unstamped = rw same (own.unstamped (subst IsFresh (sym h.activity) tt)); over = inr (rw same (own.unannounced (subst IsFresh (sym h.activity) tt))) }

-- and so is one that is lost
lost_now : (z : Sizes) (r r' : Run) (s : ℕ) (choice : Choice) (l : Local) (l' : Local) → IsNotOwn l.cell (word z r.world (name.Pend l.row s)) → Happens z r r' s choice l l' (Activity.Put Put.Stamp) → Below z r → IsOver r'.history (r.seats s).own
lost_now z r r' s choice l l' n h i =
    let own = acting_own z r r' s choice l (Activity.Put Put.Stamp) l' h i tt in
    let lost = lost_entry z r s l i own h.knows h.activity n in
    let frozen = lost_frozen z r s l i own h.knows h.activity n in
    let unmet : word z r.world (name.Pend l.row s) ≢ pend_word (pend.Pending l.cell) = λ e. let x : pend_word pend.Frozen ≡ pend_word (pend.Pending l.cell) = sym frozen ∙ e in omega (arith, x) in
    let same = attempt_left r.history r'.history _ (r.seats s).own Nothing tt (h.history ∙ ap (λ c. noted r.history (log_entry z r (Activity.Put Put.Stamp) s choice l) c) (not_chosen _ _ (Stamps (r.seats s).own l.version (r.seats s).loaded) Nothing unmet)) own.within in
    record { unstamped = rw same (lost_unstamped z r i (r.seats s).own lost); over = inl (rw same lost) }

-- a seat that builds new rows does not put
pub building_puts : {A : Type 0} (a : Activity) → IsBuilding a → IsPutting a → A
building_puts (Activity.Put Put.Key) b p = absurd b
building_puts (Activity.Put Put.Value) b p = absurd b
building_puts (Activity.Put Put.Announce) b p = absurd b
building_puts (Activity.Put Put.Clock) b p = absurd b
building_puts (Activity.Put Put.Stamp) b p = absurd b
building_puts (Activity.Put Put.Version) b p = absurd b
building_puts (Activity.Insert _) b p = absurd b
building_puts (Activity.Put Put.Clear) b p = absurd b
building_puts _ b p = absurd p

-- the attempt of a seat that puts stays its own, or the seat has cleared its entry, or it never
-- gets a version
own_goes : (z : Sizes) (r r' : Run) (s : ℕ) (choice : Choice) (l : Local) (a : Activity) (l' : Local) → Arrow z (word z r.world) s choice l a l' → Happens z r r' s choice l l' a → Below z r → IsPutting a →
    IsPutting l'.activity × ((r'.seats s).own ≡ (r.seats s).own) ⊎ (a ≡ Activity.Put Put.Clear) ⊎ IsOver r'.history (r.seats s).own
own_goes z r r' s choice l a l' (builds b next y t) h i p = building_puts b y p
own_goes z r r' s choice l a l' stores_key h i p = inl (tt, ap (λ g. g.own) h.log)
own_goes z r r' s choice l a l' stores_value h i p = inl (tt, ap (λ g. g.own) h.log)
own_goes z r r' s choice l a l' (announces e) h i p = inl (tt, ap (λ g. g.own) h.log)
own_goes z r r' s choice l a l' (announces_full n) h i p = inr (inr (refused z r r' s choice l l' n h i))
own_goes z r r' s choice l a l' loads_clock h i p = inl (tt, ap (λ g. g.own) h.log)
own_goes z r r' s choice l a l' (stamps e) h i p = inl (tt, ap (λ g. g.own) h.log)
own_goes z r r' s choice l a l' (is_stamped version e) h i p = inl (tt, ap (λ g. g.own) h.log)
own_goes z r r' s choice l a l' (stamps_full n) h i p = inr (inr (lost_now z r r' s choice l l' n h i))
own_goes z r r' s choice l a l' stores_version h i p = inl (tt, ap (λ g. g.own) h.log)
own_goes z r r' s choice l a l' (first_reaches c y) h i p = inl (tt, ap (λ g. g.own) h.log)
own_goes z r r' s choice l a l' (reaches_cell c y) h i p = inl (tt, ap (λ g. g.own) h.log)
own_goes z r r' s choice l a l' (first_sees_none y) h i p = inl (tt, ap (λ g. g.own) h.log)
own_goes z r r' s choice l a l' (sees_none y) h i p = inl (tt, ap (λ g. g.own) h.log)
own_goes z r r' s choice l a l' (inserts_behind guess inside y) h i p = inl (tt, ap (λ g. g.own) h.log)
own_goes z r r' s choice l a l' (inserts_at_first guess y) h i p = inl (tt, ap (λ g. g.own) h.log)
own_goes z r r' s choice l a l' (key_before y) h i p = inl (tt, ap (λ g. g.own) h.log)
own_goes z r r' s choice l a l' (key_same y) h i p = inl (tt, ap (λ g. g.own) h.log)
own_goes z r r' s choice l a l' (key_after y) h i p = inl (tt, ap (λ g. g.own) h.log)
own_goes z r r' s choice l a l' (version_before y) h i p = inl (tt, ap (λ g. g.own) h.log)
own_goes z r r' s choice l a l' (version_after y) h i p = inl (tt, ap (λ g. g.own) h.log)
own_goes z r r' s choice l a l' stores_after h i p = inl (tt, ap (λ g. g.own) h.log)
own_goes z r r' s choice l a l' (inserts y) h i p = inl (tt, ap (λ g. g.own) h.log)
own_goes z r r' s choice l a l' (loses y) h i p = inl (tt, ap (λ g. g.own) h.log)
own_goes z r r' s choice l a l' clears h i p = inr (inl refl)
own_goes z r r' s choice l a l' (tidies rows e) h i p = inr (inl refl)
own_goes z r r' s choice l a l' _ h i p = absurd p

-- a seat that is given a cell puts it
takes_puts : (z : Sizes) (v : Words) (s : ℕ) (choice : Choice) (l : Local) (a : Activity) (l' : Local) → Arrow z v s choice l a l' → a ≡ Activity.Put Put.Add → has_room z (count_of (v (name.Count l.row))) ≡ true → IsPutting l'.activity
takes_puts z v s choice l a l' (builds b next y t) e x = absurd (subst IsBuilding e y)
takes_puts z v s choice l a l' (takes_cell m) e x = tt
takes_puts z v s choice l a l' (takes_full m) e x = true_false x m
takes_puts z v s choice l a l' _ e x = absurd (cc)

module _ (z : Sizes) (r r' : Run) (s : ℕ) (choice : Choice) (l : Local) (a : Activity) (l' : Local) (h : Happens z r r' s choice l l' a) (i : Below z r) (st : Step r.history r'.history (log_entry z r a s choice l)) where
  -- a new attempt is current
  pub new_current : (p : ℕ) → IsNew z r r' s l a p → IsCurrent (slice_get r'.world.locals) r'.seats r'.history p
  new_current p n =
      let taking = subst (λ x. Happens z r r' s choice l l' x) n.gives.takes h in
      let seat : (attempt r'.history p).seat ≡ s = ap (λ x. x.seat) n.is in
      record {
        local = l';
        knows = rw seat (knows_next h);
        putting = takes_puts z (word z r.world) s choice l a l' h.arrow n.gives.takes n.gives.room;
        own = rw seat (ap (λ g. g.own) (rw n.gives.room at taking.log) ∙ sym n.place);
      }

  -- an attempt that is done stays done
  old_stays : (p : ℕ) → p < length r.history.attempts → IsOld (word z r.world) r.ledger.rows r.history p → IsOld (word z r'.world) r'.ledger.rows r'.history p
  old_stays p w o =
      let goes = goes_on_by z r r' s choice l a l' h i st in
      let same = goes.attempts p w in
      let g = (goes.grows.old p w).stamped o.stamped in
      record {
        stamped = g.0;
        version = λ y.
            let x = here_was a h i st p w y in
            let n : word z r.world (name.Version (attempt r.history p).row (attempt r.history p).cell) ≢ 0 = λ e. omega (arith, e, o.version x, positive z r i p o.stamped) in
            rw (same.row, same.cell) (rely_version z r r' s choice l a l' h i (attempt r.history p).row (attempt r.history p).cell x.linked (i.puts.placed p w).cell n ∙ o.version x ∙ sym g.1);
      }

  -- the attempt of a seat that clears its entry is done
  clears_old : a ≡ Activity.Put Put.Clear → IsOld (word z r'.world) r'.ledger.rows r'.history (r.seats s).own
  clears_old e =
      let clearing = subst (λ x. Happens z r r' s choice l l' x) e h in
      let own = acting_own z r r' s choice l (Activity.Put Put.Clear) l' clearing i tt in
      let known = i.shape.sane.locals s l h.knows in
      let goes = goes_on_by z r r' s choice l a l' h i st in
      let same = goes.attempts (r.seats s).own own.within in
      let g = (goes.grows.old (r.seats s).own own.within).stamped (own.stamped (subst IsStamped (sym clearing.activity) tt)) in
      let stored = version_stays (Activity.Put Put.Clear) clearing l.row l.cell known.below.row known.ranges.cell (λ x. x) ∙ own.stored (subst IsStored (sym clearing.activity) tt) in
      record { stamped = g.0; version = λ x. rw (same.row, same.cell) (rw (own.row, own.cell) stored ∙ sym g.1) }

  -- the own attempt of a seat that puts stays current, or its seat has cleared its entry, or it
  -- never gets a version: what holds of it then
  own_current : (P : ℕ → Type 0) → (a ≡ Activity.Put Put.Clear → P (r.seats s).own) → (IsOver r'.history (r.seats s).own → P (r.seats s).own) → (p : ℕ) → p < length r.history.attempts → (attempt r.history p).seat ≡ s → p ≡ (r.seats s).own → IsPutting a → IsCurrent (slice_get r'.world.locals) r'.seats r'.history p ⊎ P p
  own_current P cleared over p w e f m = saw (own_goes z r r' s choice l a l' h.arrow h i m)
    where
      same : SameAttempt r.history r'.history p
      same = (goes_on_by z r r' s choice l a l' h i st).attempts p w

      saw : IsPutting l'.activity × ((r'.seats s).own ≡ (r.seats s).own) ⊎ (a ≡ Activity.Put Put.Clear) ⊎ IsOver r'.history (r.seats s).own → IsCurrent (slice_get r'.world.locals) r'.seats r'.history p ⊎ P p
      saw (inl x) = inl (record { local = l'; knows = rw (same.seat, e) (knows_next h); putting = x.0; own = rw (same.seat, e) (x.1 ∙ sym f) })
      saw (inr (inl x)) = inr (subst P (sym f) (cleared x))
      saw (inr (inr x)) = inr (subst P (sym f) (over x))

  -- an attempt that is current stays so, or one of these holds
  pub current_goes : (P : ℕ → Type 0) → (a ≡ Activity.Put Put.Clear → P (r.seats s).own) → (IsOver r'.history (r.seats s).own → P (r.seats s).own) → (p : ℕ) → p < length r.history.attempts → IsCurrent (slice_get r.world.locals) r.seats r.history p → IsCurrent (slice_get r'.world.locals) r'.seats r'.history p ⊎ P p
  current_goes P cleared over p w k = which (cases_eq (attempt r.history p).seat s)
    where
      same : SameAttempt r.history r'.history p
      same = (goes_on_by z r r' s choice l a l' h i st).attempts p w

      which : ((attempt r.history p).seat ≡ s) ⊎ ((attempt r.history p).seat ≡ s → ⊥) → IsCurrent (slice_get r'.world.locals) r'.seats r'.history p ⊎ P p
      which (inl e) =
          let is : k.local ≡ l = same_Some k.local l (sym k.knows ∙ rw e h.knows) in
          own_current P cleared over p w e (sym k.own ∙ ap (λ t. (r.seats t).own) e) (subst IsPutting h.activity (subst (λ (x : Local). IsPutting x.activity) is k.putting))
      which (inr d) = inl (record { local = k.local; knows = rw same.seat (knows_other h (attempt r.history p).seat d ∙ k.knows); putting = k.putting; own = rw same.seat (ap (λ g. g.own) (h.logs (attempt r.history p).seat d) ∙ k.own) })

  -- one that never gets a version stays so, or is announced now, and is current
  pub over_goes : (P : ℕ → Type 0) → (a ≡ Activity.Put Put.Clear → P (r.seats s).own) → ((q : ℕ) → IsOver r'.history q → P q) → (p : ℕ) → p < length r.history.attempts → IsOver r.history p → IsCurrent (slice_get r'.world.locals) r'.seats r'.history p ⊎ P p
  over_goes P cleared over p w o = which (over_stays a h st p w o)
    where
      which : IsOver r'.history p ⊎ (a ≡ Activity.Put Put.Announce) × (p ≡ (r.seats s).own) → IsCurrent (slice_get r'.world.locals) r'.seats r'.history p ⊎ P p
      which (inl x) = inr (over p x)
      which (inr x) =
          let m : IsPutting a = subst IsPutting (sym x.0) tt in
          let own = acting_own z r r' s choice l a l' h i m in
          own_current P cleared (over (r.seats s).own) p w (ap (λ q. (attempt r.history q).seat) x.1 ∙ own.seat) x.1 m

-- an attempt is current, or stamped and stored, or it never gets a version
pub old_keeps : (z : Sizes) (r r' : Run) (s : ℕ) (choice : Choice) (l : Local) (a : Activity) (l' : Local) → Arrow z (word z r.world) s choice l a l' → Happens z r r' s choice l l' a → Below z r → Step r.history r'.history (log_entry z r a s choice l) → (p : ℕ) → p < length r'.history.attempts → IsCurrent (slice_get r'.world.locals) r'.seats r'.history p ⊎ IsOld (word z r'.world) r'.ledger.rows r'.history p ⊎ IsOver r'.history p
old_keeps z r r' s choice l a l' b h i st p o = which (attempt_was a h p o)
  where
    cleared : a ≡ Activity.Put Put.Clear → IsOld (word z r'.world) r'.ledger.rows r'.history (r.seats s).own ⊎ IsOver r'.history (r.seats s).own
    cleared e = inl (clears_old z r r' s choice l a l' h i st e)

    was : p < length r.history.attempts → IsCurrent (slice_get r.world.locals) r.seats r.history p ⊎ IsOld (word z r.world) r.ledger.rows r.history p ⊎ IsOver r.history p → IsCurrent (slice_get r'.world.locals) r'.seats r'.history p ⊎ IsOld (word z r'.world) r'.ledger.rows r'.history p ⊎ IsOver r'.history p
    was w (inl k) = current_goes z r r' s choice l a l' h i st (λ q. IsOld (word z r'.world) r'.ledger.rows r'.history q ⊎ IsOver r'.history q) cleared (λ x. inr x) p w k
    was w (inr (inl k)) = inr (inl (old_stays z r r' s choice l a l' h i st p w k))
    was w (inr (inr k)) = over_goes z r r' s choice l a l' h i st (λ q. IsOld (word z r'.world) r'.ledger.rows r'.history q ⊎ IsOver r'.history q) cleared (λ q x. inr x) p w k

    which : (p < length r.history.attempts) ⊎ IsNew z r r' s l a p → IsCurrent (slice_get r'.world.locals) r'.seats r'.history p ⊎ IsOld (word z r'.world) r'.ledger.rows r'.history p ⊎ IsOver r'.history p
    which (inl w) = was w (i.puts.old p w)
    which (inr n) = inl (new_current z r r' s choice l a l' h i st p n)
