-- Every event keeps what holds of the positions and clocks of rows: a row was linked before it
-- went, its clock was that of its link, and what was stamped of a key that it holds has a cell in
-- it, or was stamped before it was linked.
use Rattle.std.proofs.Common.{ℕ, ◌≡◌, ◌⊎◌, inl, inr, ◌+◌, ◌≤◌, arith, refl, sym, ◌∙◌, ap, subst, length, eq-eqb}
use Rattle.std.proofs.lemmas.Bool.{cases_eq}
use Rattle.kw_words.specs.declared.kind.Kind.{Kind}
use Rattle.kw_words.specs.declared.layout.Name.TheVariants as name
use Rattle.kw_rows.specs.Ledger.{Fate, IsDead}
use Rattle.kw_rows.specs.Rows.{WasLinked}
use Rattle.kw_rows.proofs.Named.{one_row}
use Rattle.kw_world.specs.declared.activity.Activity.{Activity}
use Rattle.kw_world.specs.declared.activity.draw.Draw.TheVariants as Draw
use Rattle.kw_world.specs.declared.event.Choice.{Choice}
use Rattle.kw_world.specs.declared.local.Local.{Local}
use Rattle.kw_world.specs.Sizes.{Sizes}
use Rattle.kw_world.specs.Step.{word}
use Rattle.kw_core.specs.History.{attempt, Stands}
use Rattle.kw_core.specs.HistoryLaws.{IsPut}
use Rattle.kw_core.specs.Ledger.{Ledger}
use Rattle.kw_core.specs.Run.{Run}
use Rattle.kw_core.specs.Step.{Step}
use Rattle.kw_core.proofs.Attempts.{in_range}
use Rattle.kw_core.proofs.FreezeFrame.{clock_never_falls}
use Rattle.kw_core.proofs.Happens.{Happens, log_entry}
use Rattle.kw_core.proofs.Steps.{now_grows, stands_before, stands_was}
use Rattle.kw_shape.specs.RowsIn.{rows_in}
use Rattle.kw_shape.specs.Shape.{HoldsKey}
use Rattle.kw_kept.specs.Puts.{Put}
use Rattle.kw_puts.specs.Below.{Below}
use Rattle.kw_reads.specs.Contents.{Borns, Contents, InRow, IsOlder, IsStanding}
use Rattle.kw_shape.proofs.LinkedRows.{ComesNow, GoesNow, dead_before, linked_before, linked_keeps}
use Rattle.kw_puts.proofs.RelyProof.{waits_stay}
use Rattle.kw_reads.proofs.KeptKeeps.{held_was, live_was, own_holds, same_put}
use Rattle.kw_reads.proofs.NeedsKeep.{version_past}
use Rattle.kw_reads.proofs.RowCells.{in_row_stays, its_row_live, stamped_in_row}
use Rattle.kw_reads.proofs.Stamping.{StampsNow, StampStep, stamps_none, stamps_one, stamp_step}

-- the position from which a scan waits is that of this event, or as it was
wait_now : (z : Sizes) (r r' : Run) (s : ℕ) (choice : Choice) (l : Local) (a : Activity) (l' : Local) → Happens z r r' s choice l l' a → (q : ℕ) → (r'.ledger.waits q ≡ length r.history.log) ⊎ (r'.ledger.waits q ≡ r.ledger.waits q)
wait_now z r r' s choice l (Activity.Draw Draw.Wait) l' h q = which (cases_eq q s)
  where
    which : (q ≡ s) ⊎ (q ≡ s → ⊥) → (r'.ledger.waits q ≡ length r.history.log) ⊎ (r'.ledger.waits q ≡ r.ledger.waits q)
    which (inl e) = inl (ap (λ (g : Ledger). g.waits q) h.ledger ∙ rw (eq-eqb q s e) refl)
    which (inr d) = inr (waits_stay z r r' s choice l (Activity.Draw Draw.Wait) l' h q (λ e. absurd (d e)))
wait_now z r r' s choice l a l' h q = inr (waits_stay z r r' s choice l a l' h q (λ e x. cc))

-- a row that stands for a put was linked
standing_linked : (r : Run) (q p : ℕ) → IsStanding r q p → WasLinked r.ledger.rows q
standing_linked r q p (inl x) = inl x
standing_linked r q p (inr x) = inr x.0

module _ (z : Sizes) (r r' : Run) (s : ℕ) (choice : Choice) (l : Local) (a : Activity) (l' : Local) (h : Happens z r r' s choice l l' a) (i : Below z r) (st : Step r.history r'.history (log_entry z r a s choice l)) where
  -- the event is one more of the log
  now : length r'.history.log ≡ length r.history.log + 1
  now = now_grows r.history r'.history _ st

  -- What no event takes from a row.

  module _ (b : Borns z r) where
    -- a dead row was linked before it went
    borns_gone : (q : ℕ) → IsDead r'.ledger.rows q → (r'.ledger.rows.fates q).born ≤ (r'.ledger.rows.fates q).gone
    borns_gone q d = which (dead_before a h i.shape q d)
      where
        which : IsDead r.ledger.rows q × (r'.ledger.rows.fates q ≡ r.ledger.rows.fates q) ⊎ GoesNow r.ledger.rows r'.ledger.rows s (length r.history.log) q → (r'.ledger.rows.fates q).born ≤ (r'.ledger.rows.fates q).gone
        which (inl x) = omega (arith, ap (λ (f : Fate). f.born) x.1, ap (λ (f : Fate). f.gone) x.1, b.gone q x.0)
        which (inr x) = omega (arith, ap (λ (f : Fate). f.born) x.fate, ap (λ (f : Fate). f.gone) x.fate, i.puts.born q (inl x.live))

    -- the clock of a row is that of its link
    borns_clock : (q : ℕ) → WasLinked r'.ledger.rows q → (r'.ledger.rows.fates q).clock ≤ word z r'.world name.Clock
    borns_clock q k = which (linked_before a h i.shape q k)
      where
        which : WasLinked r.ledger.rows q ⊎ ComesNow (word z r.world) r.ledger.rows r'.ledger.rows s (length r.history.log) l a q → (r'.ledger.rows.fates q).clock ≤ word z r'.world name.Clock
        which (inl w) = omega (arith, (linked_keeps a h i.shape q w).clock, b.clock q w, clock_never_falls a h)
        which (inr y) = omega (arith, ap (λ (f : Fate). f.clock) y.fate, clock_never_falls a h)

    -- what stands in the log since then found no lesser clock
    borns_after : (q x c : ℕ) (k : Kind) → WasLinked r'.ledger.rows q → Stands r'.history x k c → (r'.ledger.rows.fates q).born ≤ x → (r'.ledger.rows.fates q).clock ≤ c
    borns_after q x c k w t o = which (linked_before a h i.shape q w)
      where
        past : WasLinked r.ledger.rows q → Stands r.history x k c ⊎ ((x ≡ length r.history.log) × (k ≡ (log_entry z r a s choice l).kind) × (c ≡ word z r.world name.Clock)) → (r'.ledger.rows.fates q).clock ≤ c
        past m (inl u) = let y = linked_keeps a h i.shape q m in omega (arith, y.clock, y.born, o, b.after q x c k m u (omega (arith, y.born, o)))
        past m (inr u) = omega (arith, (linked_keeps a h i.shape q m).clock, b.clock q m, u.2)

        early : Stands r.history x k c ⊎ ((x ≡ length r.history.log) × (k ≡ (log_entry z r a s choice l).kind) × (c ≡ word z r.world name.Clock)) → x ≤ length r.history.log
        early (inl u) = omega (arith, stands_before r.history x k c u)
        early (inr u) = omega (arith, u.0)

        which : WasLinked r.ledger.rows q ⊎ ComesNow (word z r.world) r.ledger.rows r'.ledger.rows s (length r.history.log) l a q → (r'.ledger.rows.fates q).clock ≤ c
        which (inl m) = past m (stands_was r.history r'.history _ st x k c t)
        which (inr y) = absurd (omega (arith, ap (λ (f : Fate). f.born) y.fate, o, early (stands_was r.history r'.history _ st x k c t)))

    -- no scan waits since later than now
    borns_waits : (q : ℕ) → r'.ledger.waits q ≤ length r'.history.log
    borns_waits q = which (wait_now z r r' s choice l a l' h q)
      where
        which : (r'.ledger.waits q ≡ length r.history.log) ⊎ (r'.ledger.waits q ≡ r.ledger.waits q) → r'.ledger.waits q ≤ length r'.history.log
        which (inl e) = omega (arith, e, now)
        which (inr e) = omega (arith, e, b.waits q, now)

    -- all of it
    pub borns_keep : Borns z r'
    borns_keep = record { gone = borns_gone; clock = borns_clock; after = borns_after; waits = borns_waits }

  -- What was stamped before a row was linked.

  -- a row that stands for a put that was stamped before did so, or is linked now
  standing_was : (q p : ℕ) → IsPut r.history p → IsStanding r' q p → WasLinked r.ledger.rows q → IsStanding r q p
  standing_was q p m (inl x) w = inl (live_was a h i q w x)
  standing_was q p m (inr x) w = which (dead_before a h i.shape q x.0)
    where
      which : IsDead r.ledger.rows q × (r'.ledger.rows.fates q ≡ r.ledger.rows.fates q) ⊎ GoesNow r.ledger.rows r'.ledger.rows s (length r.history.log) q → IsStanding r q p
      which (inl y) = inr (y.0, omega (arith, x.1, ap (λ (f : Fate). f.gone) y.1, ap (λ (v : Put). v.at) (same_put z r r' s choice l a l' h i st p m)))
      which (inr y) = inl y.live

  -- what was stamped of a key that a row holds has a cell in it, or was stamped before the row was
  -- linked
  pub older_keeps : Contents z r → (q p : ℕ) → IsPut r'.history p → IsStanding r' q p → HoldsKey (word z r'.world) r'.ledger.rows q (attempt r'.history p).key → InRow z r' q p ⊎ IsOlder r' q p
  older_keeps c q p m x y = which (stamp_step a h i)
    where
      -- of what was stamped before
      was : IsPut r.history p → WasLinked r.ledger.rows q ⊎ ComesNow (word z r.world) r.ledger.rows r'.ledger.rows s (length r.history.log) l a q → InRow z r' q p ⊎ IsOlder r' q p
      was n (inl w) = again (c.older q p n (standing_was q p n x w) (held_was a h i q (attempt r.history p).key w (subst (HoldsKey (word z r'.world) r'.ledger.rows q) (ap (λ (v : Put). v.key) (same_put z r r' s choice l a l' h i st p n)) y)))
        where
          again : InRow z r q p ⊎ IsOlder r q p → InRow z r' q p ⊎ IsOlder r' q p
          again (inl t) = inl (in_row_stays z r r' s choice l a l' h i st q p w t)
          again (inr t) = inr (record {
            at = omega (arith, t.at, ap (λ (v : Put). v.at) (same_put z r r' s choice l a l' h i st p n), (linked_keeps a h i.shape q w).born);
            version = omega (arith, t.version, ap (λ (v : Put). v.version) (same_put z r r' s choice l a l' h i st p n), (linked_keeps a h i.shape q w).clock);
          })
      was n (inr w) = inr (record {
        at = omega (arith, ap (λ (v : Put). v.at) (same_put z r r' s choice l a l' h i st p n), i.history.past.at p (in_range r.history p n) n, ap (λ (f : Fate). f.born) w.fate);
        version = omega (arith, ap (λ (v : Put). v.version) (same_put z r r' s choice l a l' h i st p n), version_past z r i p n, ap (λ (f : Fate). f.clock) w.fate);
      })

      -- of what is stamped now
      new : (o : ℕ) → StampsNow z r r' a o → p ≡ o → InRow z r' q p ⊎ IsOlder r' q p
      new o t e = subst (λ n. InRow z r' q n ⊎ IsOlder r' q n) (sym e) (here (subst (IsStanding r' q) e x) (subst (λ n. HoldsKey (word z r'.world) r'.ledger.rows q (attempt r'.history n).key) e y))
        where
          before : IsStanding r' q o → WasLinked r.ledger.rows q
          before v = by (linked_before a h i.shape q (standing_linked r' q o v))
            where
              by : WasLinked r.ledger.rows q ⊎ ComesNow (word z r.world) r.ledger.rows r'.ledger.rows s (length r.history.log) l a q → WasLinked r.ledger.rows q
              by (inl w) = w
              by (inr w) = absurd (t.other w.replaces)

          gone : IsDead r.ledger.rows q × (r'.ledger.rows.fates q ≡ r.ledger.rows.fates q) ⊎ GoesNow r.ledger.rows r'.ledger.rows s (length r.history.log) q → (r'.ledger.rows.fates q).gone ≤ length r.history.log
          gone (inl w) = omega (arith, ap (λ (f : Fate). f.gone) w.1, i.shape.rows.past.gone q w.0)
          gone (inr w) = omega (arith, ap (λ (f : Fate). f.gone) w.fate)

          here : IsStanding r' q o → HoldsKey (word z r'.world) r'.ledger.rows q (attempt r'.history o).key → InRow z r' q o ⊎ IsOlder r' q o
          here (inl v) w =
              let k = before (inl v) in
              let same = one_row (rows_in (word z r.world)) r.ledger.rows i.shape.rows.closed q (attempt r.history o).row (attempt r'.history o).key i.shape.rows.chain (live_was a h i q k v) (its_row_live i t) (held_was a h i q (attempt r'.history o).key k w) (own_holds z r r' s choice l a l' h i st o t) in
              inl (subst (λ n. InRow z r' n o) (sym same) (stamped_in_row i t))
          here (inr v) w = absurd (omega (arith, v.1, t.at, gone (dead_before a h i.shape q v.0)))

      now_or_was : (o : ℕ) → StampsNow z r r' a o → (p ≡ o) ⊎ IsPut r.history p → InRow z r' q p ⊎ IsOlder r' q p
      now_or_was o t (inl e) = new o t e
      now_or_was o t (inr n) = was n (linked_before a h i.shape q (standing_linked r' q p x))

      which : StampStep z r r' a → InRow z r' q p ⊎ IsOlder r' q p
      which (stamps_none n) = was (n p m) (linked_before a h i.shape q (standing_linked r' q p x))
      which (stamps_one o t) = now_or_was o t (t.was p m)
