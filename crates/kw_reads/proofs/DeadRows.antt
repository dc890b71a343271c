-- What holds of the puts of dead rows. Each announced attempt of a dead row is lost or was stamped
-- before it went, and so was each put of which it has a cell; it shows for each of its keys what
-- all puts show that were stamped before it went, at each version that is still needed.
use Rattle.std.proofs.Common.{ℕ, ◌≡◌, ◌⊎◌, inl, inr, ◌<◌, Bool, true, false, arith, refl, sym, ◌∙◌, ap, subst, length, slice_get}
use Rattle.std.proofs.lemmas.Bool.{cases_eq}
use Rattle.kw_words.specs.declared.layout.Name.TheVariants as name
use Rattle.kw_words.specs.declared.pend.Pend.TheVariants as pend
use Rattle.kw_words.specs.Pend.{pend_word}
use Rattle.kw_words.specs.declared.state.State.TheVariants as state
use Rattle.kw_words.specs.State.{state_word}
use Rattle.kw_rows.specs.Ledger.{Dead, Fate, Free, Infant, IsDead, Live}
use Rattle.kw_world.specs.declared.activity.Activity.{Activity}
use Rattle.kw_world.specs.declared.activity.rebalance.Rebalance.TheVariants as Rebalance
use Rattle.kw_world.specs.declared.activity.rebalance.replace.Replace.TheVariants as Replace
use Rattle.kw_world.specs.declared.activity.rebalance.seek.Seek.TheVariants as Seek
use Rattle.kw_world.specs.declared.event.Choice.{Choice}
use Rattle.kw_world.specs.declared.local.Local.{Local}
use Rattle.kw_world.specs.SeekTransitions.{infant}
use Rattle.kw_world.specs.Sizes.{Sizes}
use Rattle.kw_world.specs.Step.{word}
use Rattle.kw_core.specs.declared.history.Attempt.{Attempt}
use Rattle.kw_core.specs.History.{attempt}
use Rattle.kw_core.specs.HistoryLaws.{IsPut}
use Rattle.kw_core.specs.Ledger as ledger
use Rattle.kw_core.specs.Run.{Run}
use Rattle.kw_core.specs.Stages.{IsFresh, IsPublished, IsPutting}
use Rattle.kw_core.specs.Step.{Step}
use Rattle.kw_core.proofs.Attempts.{in_range}
use Rattle.kw_core.proofs.Fates.{fate_of_freed, fate_of_given, fate_of_taken, fate_stays, none_freed, none_taken}
use Rattle.kw_core.proofs.Happens.{Happens, log_entry}
use Rattle.kw_core.proofs.Steps.{announced_within}
use Rattle.kw_shape.specs.Shape.{HoldsKey}
use Rattle.kw_kept.specs.Puts.{Put, Shows}
use Rattle.kw_puts.specs.Below.{Below}
use Rattle.kw_puts.specs.Puts.{HasCell, IsCurrent, IsHere, IsOld, IsOver, OwnsAttempt, entry_of}
use Rattle.kw_puts.proofs.Owners.{cell_here, true_false}
use Rattle.kw_puts.proofs.RelyEntry.{fresh_published}
use Rattle.kw_reads.specs.Contents.{Borns, Contents, InRow, IsGone, Needed, WasPut, puts_of}
use Rattle.kw_puts.specs.Puts.{IsCopyAt}
use Rattle.kw_shape.proofs.LinkedRows.{GoesNow, dead_before}
use Rattle.kw_puts.proofs.FrozenRows.{not_pending}
use Rattle.kw_reads.proofs.KeptKeeps.{held_was, same_put, shows_stay}
use Rattle.kw_reads.proofs.RowCells.{in_row_stays, in_row_was, is_put_stays, settled_in_row}
use Rattle.kw_reads.proofs.ScanMoves.{needed_before}
use Rattle.kw_reads.proofs.Stamping.{StampsNow, StampStep, stamps_none, stamps_one, stamp_step}

-- Attempts and cells of dead rows.

-- an entry that is no pending one is that of an attempt that is lost or stamped
entry_over : (p : Attempt) (w : ℕ) → entry_of p ≡ w → ((c : ℕ) → w ≡ pend_word (pend.Pending c) → ⊥) → (p.is_lost ≡ true) ⊎ (p.is_stamped ≡ true)
entry_over p w e n = which p.is_lost refl p.is_stamped refl
  where
    which : (b : Bool) → p.is_lost ≡ b → (c : Bool) → p.is_stamped ≡ c → (p.is_lost ≡ true) ⊎ (p.is_stamped ≡ true)
    which true x c y = inl x
    which false x true y = inr y
    which false x false y = absurd (n p.cell (sym e ∙ rw (x, y) refl))

-- each announced attempt of a dead row that was not used again is lost or stamped
pub over_of : (z : Sizes) (r : Run) → Below z r → (p : ℕ) → (attempt r.history p).is_announced ≡ true → IsHere r.ledger.rows r.history p → IsDead r.ledger.rows (attempt r.history p).row → IsGone r p
over_of z r i p a x d = gone (which (i.puts.old p within))
  where
    within : p < length r.history.attempts
    within = announced_within r.history p a

    current : IsCurrent (slice_get r.world.locals) r.seats r.history p → ((attempt r.history p).is_lost ≡ true) ⊎ IsPut r.history p
    current c = by (fresh_published c.local.activity)
      where
        own : OwnsAttempt (word z r.world) r.history (attempt r.history p).seat c.local.activity c.local (r.seats (attempt r.history p).seat)
        own = i.puts.owns (attempt r.history p).seat c.local c.knows c.putting

        by : IsFresh c.local.activity ⊎ IsPublished c.local.activity ⊎ (IsPutting c.local.activity → ⊥) → ((attempt r.history p).is_lost ≡ true) ⊎ IsPut r.history p
        by (inl x) = true_false a (subst (λ q. (attempt r.history q).is_announced ≡ false) c.own (own.unannounced x))
        by (inr (inr x)) = absurd (x c.putting)
        by (inr (inl x)) = entry_over (attempt r.history p) (word z r.world (name.Pend (attempt r.history p).row (attempt r.history p).seat)) (sym entry) (λ n e. not_pending (word z r.world) (slice_get r.world.locals) (attempt r.history p).row (attempt r.history p).seat n (i.puts.dead (attempt r.history p).row (attempt r.history p).seat d (i.puts.placed p within).seat) e)
          where
            entry : word z r.world (name.Pend (attempt r.history p).row (attempt r.history p).seat) ≡ entry_of (attempt r.history p)
            entry = ap (λ q. word z r.world (name.Pend q (attempt r.history p).seat)) (subst (λ q. (attempt r.history q).row ≡ c.local.row) c.own own.row) ∙ own.entry x ∙ ap (λ q. entry_of (attempt r.history q)) c.own

    which : IsCurrent (slice_get r.world.locals) r.seats r.history p ⊎ IsOld (word z r.world) r.ledger.rows r.history p ⊎ IsOver r.history p → ((attempt r.history p).is_lost ≡ true) ⊎ IsPut r.history p
    which (inl c) = current c
    which (inr (inl x)) = inr x.stamped
    which (inr (inr x)) = over x.over
      where
        over : ((attempt r.history p).is_lost ≡ true) ⊎ ((attempt r.history p).is_announced ≡ false) → ((attempt r.history p).is_lost ≡ true) ⊎ IsPut r.history p
        over (inl y) = inl y
        over (inr y) = true_false a y

    gone : ((attempt r.history p).is_lost ≡ true) ⊎ IsPut r.history p → IsGone r p
    gone (inl y) = inl y
    gone (inr y) = inr (y, i.puts.gone p within x d y)

-- each put of which a dead row has a cell was stamped before the row went
pub inside_of : (z : Sizes) (r : Run) → Below z r → Borns z r → (q p : ℕ) → IsDead r.ledger.rows q → InRow z r q p → (attempt r.history p).at < (r.ledger.rows.fates q).gone
inside_of z r i b q p d x = which (i.puts.places.owner q x.cell p (inr d) x.within x.origin)
  where
    which : HasCell r.ledger.rows r.history q x.cell p ⊎ IsCopyAt (word z r.world) r.ledger.rows r.history q x.cell p → (attempt r.history p).at < (r.ledger.rows.fates q).gone
    which (inl own) = subst (λ y. (attempt r.history p).at < (r.ledger.rows.fates y).gone) own.row (i.puts.gone p own.within (cell_here r.ledger.rows r.history q x.cell p own) (subst (IsDead r.ledger.rows) (sym own.row) d) x.is_put)
    which (inr copy) = omega (arith, copy.before, b.gone q d)

-- A row goes by the event that replaces it.

-- no other event unlinks a row
pub goes_replaces : {z : Sizes} {r r' : Run} {s : ℕ} {choice : Choice} {l l' : Local} (a : Activity) → Happens z r r' s choice l l' a → (q : ℕ) → GoesNow r.ledger.rows r'.ledger.rows s (length r.history.log) q → a ≡ Activity.Rebalance (Rebalance.Replace Replace.Exchange)
goes_replaces {z} {r} {r'} {s} {choice} {l} {l'} (Activity.Rebalance (Rebalance.Seek Seek.Take)) h q y = which (cases_eq (word z r.world (name.State l.rebalance.sought)) (state_word state.Free)) (cases_eq q l.rebalance.sought)
  where
    stays : r'.ledger.rows.fates q ≡ r.ledger.rows.fates q → (Activity.Rebalance (Rebalance.Seek Seek.Take)) ≡ Activity.Rebalance (Rebalance.Replace Replace.Exchange)
    stays e = let x : Live ≡ Dead = sym y.live ∙ ap (λ (f : Fate). f.status) (sym e ∙ y.fate) in absurd (cc)

    which : (word z r.world (name.State l.rebalance.sought) ≡ state_word state.Free) ⊎ (word z r.world (name.State l.rebalance.sought) ≡ state_word state.Free → ⊥) → (q ≡ l.rebalance.sought) ⊎ (q ≡ l.rebalance.sought → ⊥) → (Activity.Rebalance (Rebalance.Seek Seek.Take)) ≡ Activity.Rebalance (Rebalance.Replace Replace.Exchange)
    which (inl e) (inl f) = let x : Infant ≡ Dead = sym (ap (λ (v : Fate). v.status) (fate_of_taken h e)) ∙ ap (λ n. (r'.ledger.rows.fates n).status) (sym f) ∙ ap (λ (v : Fate). v.status) y.fate in absurd (cc)
    which (inl e) (inr d) = stays (fate_stays (Activity.Rebalance (Rebalance.Seek Seek.Take)) h q d)
    which (inr d) f = stays (ap (λ (g : ledger.Ledger). g.rows.fates q) (none_taken h d))
goes_replaces {z} {r} {r'} {s} {choice} {l} {l'} (Activity.Rebalance (Rebalance.Seek Seek.Reclaim)) h q y = which (cases_eq (word z r.world (name.State l.rebalance.sought)) (state_word (state.Retired l.rebalance.number))) (cases_eq q l.rebalance.sought)
  where
    stays : r'.ledger.rows.fates q ≡ r.ledger.rows.fates q → (Activity.Rebalance (Rebalance.Seek Seek.Reclaim)) ≡ Activity.Rebalance (Rebalance.Replace Replace.Exchange)
    stays e = let x : Live ≡ Dead = sym y.live ∙ ap (λ (f : Fate). f.status) (sym e ∙ y.fate) in absurd (cc)

    which : (word z r.world (name.State l.rebalance.sought) ≡ state_word (state.Retired l.rebalance.number)) ⊎ (word z r.world (name.State l.rebalance.sought) ≡ state_word (state.Retired l.rebalance.number) → ⊥) → (q ≡ l.rebalance.sought) ⊎ (q ≡ l.rebalance.sought → ⊥) → (Activity.Rebalance (Rebalance.Seek Seek.Reclaim)) ≡ Activity.Rebalance (Rebalance.Replace Replace.Exchange)
    which (inl e) (inl f) = let x : Free ≡ Dead = sym (ap (λ (v : Fate). v.status) (fate_of_freed h e)) ∙ ap (λ n. (r'.ledger.rows.fates n).status) (sym f) ∙ ap (λ (v : Fate). v.status) y.fate in absurd (cc)
    which (inl e) (inr d) = stays (fate_stays (Activity.Rebalance (Rebalance.Seek Seek.Reclaim)) h q d)
    which (inr d) f = stays (ap (λ (g : ledger.Ledger). g.rows.fates q) (none_freed h d))
goes_replaces {z} {r} {r'} {s} {choice} {l} {l'} (Activity.Rebalance (Rebalance.Seek Seek.GiveBack)) h q y = which (cases_eq q (infant l))
  where
    which : (q ≡ infant l) ⊎ (q ≡ infant l → ⊥) → (Activity.Rebalance (Rebalance.Seek Seek.GiveBack)) ≡ Activity.Rebalance (Rebalance.Replace Replace.Exchange)
    which (inl f) = let x : Free ≡ Dead = sym (ap (λ (v : Fate). v.status) (fate_of_given h)) ∙ ap (λ n. (r'.ledger.rows.fates n).status) (sym f) ∙ ap (λ (v : Fate). v.status) y.fate in absurd (cc)
    which (inr d) = let x : Live ≡ Dead = sym y.live ∙ ap (λ (f : Fate). f.status) (sym (fate_stays (Activity.Rebalance (Rebalance.Seek Seek.GiveBack)) h q d) ∙ y.fate) in absurd (cc)
goes_replaces (Activity.Rebalance (Rebalance.Replace Replace.Exchange)) h q y = refl
goes_replaces a h q y = let x : Live ≡ Dead = sym y.live ∙ ap (λ (f : Fate). f.status) (sym (fate_stays a h q (λ x. x)) ∙ y.fate) in absurd (cc)

-- What dead rows show.

module _ (z : Sizes) (r r' : Run) (s : ℕ) (choice : Choice) (l : Local) (a : Activity) (l' : Local) (h : Happens z r r' s choice l l' a) (i : Below z r) (st : Step r.history r'.history (log_entry z r a s choice l)) (c : Contents z r) where
  -- what was stamped before this position was stamped before the event
  put_was : (p : ℕ) → IsPut r'.history p → (attempt r'.history p).at < length r.history.log → IsPut r.history p
  put_was p x o = which (stamp_step a h i)
    where
      either : (n : ℕ) → StampsNow z r r' a n → (p ≡ n) ⊎ IsPut r.history p → IsPut r.history p
      either n t (inl e) = absurd (omega (arith, o, t.at, ap (λ m. (attempt r'.history m).at) e))
      either n t (inr m) = m

      which : StampStep z r r' a → IsPut r.history p
      which (stamps_none was) = was p x
      which (stamps_one n t) = either n t (t.was p x)

  -- a dead row shows for each of its keys what was stamped before it went
  pub dead_keeps : (q k u : ℕ) → IsDead r'.ledger.rows q → HoldsKey (word z r'.world) r'.ledger.rows q k → Needed z r' u → Shows (puts_of r'.history) (InRow z r' q) (WasPut r' q) k u
  dead_keeps q k u d x m = which (dead_before a h i.shape q d)
    where
      n : Needed z r u
      n = needed_before z r r' s choice l a l' h i u m

      at_same : (p : ℕ) → IsPut r.history p → (attempt r'.history p).at ≡ (attempt r.history p).at
      at_same p y = ap (λ (v : Put). v.at) (same_put z r r' s choice l a l' h i st p y)

      was_dead : r'.ledger.rows.fates q ≡ r.ledger.rows.fates q → IsDead r.ledger.rows q → Shows (puts_of r'.history) (InRow z r' q) (WasPut r' q) k u
      was_dead e f = shows_stay z r r' s choice l a l' h i st (InRow z r q) (InRow z r' q) (WasPut r q) (WasPut r' q) k u (λ p y. y.is_put) (λ p y. y.0)
          (λ p y. settled_in_row a h i q p (inr f) (λ j o. i.puts.dead q j f o) y)
          (λ p y. in_row_stays z r r' s choice l a l' h i st q p (inr f) y)
          (λ p y. let w = put_was p y.0 (omega (arith, y.1, ap (λ (v : Fate). v.gone) e, i.shape.rows.past.gone q f)) in (w, omega (arith, y.1, at_same p w, ap (λ (v : Fate). v.gone) e)))
          (λ p y. (is_put_stays z r r' s choice l a l' h i st p y.0, omega (arith, y.1, at_same p y.0, ap (λ (v : Fate). v.gone) e)))
          (c.dead q k u f (held_was a h i q k (inr f) x) n)

      goes : GoesNow r.ledger.rows r'.ledger.rows s (length r.history.log) q → Shows (puts_of r'.history) (InRow z r' q) (WasPut r' q) k u
      goes y = shows_stay z r r' s choice l a l' h i st (InRow z r q) (InRow z r' q) (IsPut r.history) (WasPut r' q) k u (λ p v. v.is_put) (λ p v. v)
          (λ p v. in_row_was a h i q p (inl y.live) (none (stamp_step a h i) p v.is_put) v)
          (λ p v. in_row_stays z r r' s choice l a l' h i st q p (inl y.live) v)
          (λ p v. none (stamp_step a h i) p v.0)
          (λ p v. (is_put_stays z r r' s choice l a l' h i st p v, omega (arith, at_same p v, i.history.past.at p (in_range r.history p v) v, ap (λ (f : Fate). f.gone) y.fate)))
          (c.kept q k u (record { live = y.live; holds = held_was a h i q k (inl y.live) x }) n)
        where
          none : StampStep z r r' a → (p : ℕ) → IsPut r'.history p → IsPut r.history p
          none (stamps_none was) p v = was p v
          none (stamps_one o t) p v = absurd (t.other (goes_replaces a h q y))

      which : IsDead r.ledger.rows q × (r'.ledger.rows.fates q ≡ r.ledger.rows.fates q) ⊎ GoesNow r.ledger.rows r'.ledger.rows s (length r.history.log) q → Shows (puts_of r'.history) (InRow z r' q) (WasPut r' q) k u
      which (inl e) = was_dead e.1 e.0
      which (inr y) = goes y
