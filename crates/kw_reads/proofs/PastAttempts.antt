-- What has become of the attempts whose row was used again: each that was announced is lost, or was
-- stamped before each visit that is on. For what was stamped of a row that is dead was stamped
-- before the row went, and where the row is freed no visit is on that began before then. An attempt
-- at which a seat is at work, and one that is stamped now, is of a row that was not used again.
use Rattle.std.proofs.Common.{ℕ, ◌≡◌, ◌⊎◌, inl, inr, ◌<◌, ◌≤◌, true, false, Some, None, arith, sym, ◌∙◌, ap, subst, length, slice_get}
use Rattle.std.proofs.lemmas.Bool.{cases_eq, cases_lt}
use Rattle.std.proofs.lemmas.Option.{same_Some}
use Rattle.kw_rows.specs.Ledger.{Dead, Live}
use Rattle.kw_world.specs.declared.activity.Activity.{Activity}
use Rattle.kw_world.specs.declared.activity.enter.Enter.TheVariants as Enter
use Rattle.kw_world.specs.declared.event.Choice.{Choice}
use Rattle.kw_world.specs.declared.local.Local.{Local}
use Rattle.kw_world.specs.Sizes.{Sizes}
use Rattle.kw_world.specs.Step.{word}
use Rattle.kw_core.specs.History.{attempt}
use Rattle.kw_core.specs.HistoryLaws.{IsPut}
use Rattle.kw_core.specs.Run.{Run}
use Rattle.kw_core.specs.Step.{Step}
use Rattle.kw_core.proofs.Attempts.{in_range}
use Rattle.kw_core.proofs.Fates.{others_stay}
use Rattle.kw_core.proofs.Happens.{Happens, log_entry}
use Rattle.kw_core.proofs.Steps.{announced_within}
use Rattle.kw_kept.specs.Puts.{Put}
use Rattle.kw_shape.proofs.LinkedRows.{FreesNow}
use Rattle.kw_shape.proofs.RowsKeep.{others_kept, visit_begins, visit_ends, visit_taken_back}
use Rattle.kw_puts.specs.Below.{Below}
use Rattle.kw_puts.specs.Puts.{IsCurrent, IsHere, IsOld, IsOver}
use Rattle.kw_puts.proofs.HereStays.{here_stays}
use Rattle.kw_puts.proofs.Owners.{is_here, true_false}
use Rattle.kw_reads.specs.Contents.{Contents, IsPast}
use Rattle.kw_reads.proofs.KeptKeeps.{same_put}
use Rattle.kw_reads.proofs.RowCells.{its_row_live}
use Rattle.kw_reads.proofs.Stamping.{StampsNow, StampStep, stamps_none, stamps_one, stamp_step}

-- a visit that is on after an event was so before it, or begins now
visit_was : {z : Sizes} {r r' : Run} {s : ℕ} {choice : Choice} {l l' : Local} (a : Activity) → Happens z r r' s choice l l' a → (t since : ℕ) → r'.ledger.rows.visits t ≡ Some since → (r.ledger.rows.visits t ≡ Some since) ⊎ (since ≡ length r.history.log)
visit_was {z} {r} {r'} {s} {choice} {l} {l'} (Activity.Enter Enter.Announce) h t since e = which (cases_eq t s)
  where
    which : (t ≡ s) ⊎ (t ≡ s → ⊥) → (r.ledger.rows.visits t ≡ Some since) ⊎ (since ≡ length r.history.log)
    which (inl f) = inr (same_Some since (length r.history.log) (sym e ∙ ap r'.ledger.rows.visits f ∙ visit_begins h))
    which (inr d) = inl (sym (others_kept (Activity.Enter Enter.Announce) h t d) ∙ e)
visit_was {z} {r} {r'} {s} {choice} {l} {l'} (Activity.Leave answer) h t since e = which (cases_eq t s)
  where
    which : (t ≡ s) ⊎ (t ≡ s → ⊥) → (r.ledger.rows.visits t ≡ Some since) ⊎ (since ≡ length r.history.log)
    which (inl f) = let x : None ≡ Some since = sym (visit_ends answer h) ∙ sym (ap r'.ledger.rows.visits f) ∙ e in absurd (cc)
    which (inr d) = inl (sym (others_kept (Activity.Leave answer) h t d) ∙ e)
visit_was {z} {r} {r'} {s} {choice} {l} {l'} Activity.Retry h t since e = which (cases_eq t s)
  where
    which : (t ≡ s) ⊎ (t ≡ s → ⊥) → (r.ledger.rows.visits t ≡ Some since) ⊎ (since ≡ length r.history.log)
    which (inl f) = let x : None ≡ Some since = sym (visit_taken_back h) ∙ sym (ap r'.ledger.rows.visits f) ∙ e in absurd (cc)
    which (inr d) = inl (sym (others_kept Activity.Retry h t d) ∙ e)
visit_was a h t since e = inl (sym (others_stay a h t (λ x f. x)) ∙ e)

module _ (z : Sizes) (r r' : Run) (s : ℕ) (choice : Choice) (l : Local) (a : Activity) (l' : Local) (h : Happens z r r' s choice l l' a) (i : Below z r) (st : Step r.history r'.history (log_entry z r a s choice l)) (after : Below z r') (c : Contents z r) where
  -- an attempt whose row was used again is stamped only if it was so before: what is stamped now is
  -- of a row of the list
  put_before : (p : ℕ) → IsPut r'.history p → (IsHere r'.ledger.rows r'.history p → ⊥) → IsPut r.history p
  put_before p m n = which (stamp_step a h i)
    where
      now : (o : ℕ) → StampsNow z r r' a o → p ≡ o → IsHere r'.ledger.rows r'.history o ⊎ FreesNow r.ledger.rows r'.ledger.rows (attempt r.history o).row → ⊥
      now o x e (inl y) = n (subst (IsHere r'.ledger.rows r'.history) (sym e) y)
      now o x e (inr f) = let y : Live ≡ Dead = sym (its_row_live i x) ∙ f.dead in cc

      either : (o : ℕ) → StampsNow z r r' a o → (p ≡ o) ⊎ IsPut r.history p → IsPut r.history p
      either o x (inl e) = absurd (now o x e (here_stays a h i st o x.within x.here))
      either o x (inr y) = y

      which : StampStep z r r' a → IsPut r.history p
      which (stamps_none was) = was p m
      which (stamps_one o x) = either o x (x.was p m)

  -- such a one was stamped before each visit that is on
  before_visits : (p : ℕ) → IsPut r.history p → (IsHere r'.ledger.rows r'.history p → ⊥) → (t since : ℕ) → r'.ledger.rows.visits t ≡ Some since → (attempt r.history p).at < since
  before_visits p m n t since e = which (visit_was a h t since e)
    where
      within : p < length r.history.attempts
      within = in_range r.history p m

      freed : r.ledger.rows.visits t ≡ Some since → IsHere r.ledger.rows r.history p → FreesNow r.ledger.rows r'.ledger.rows (attempt r.history p).row → (since < (r.ledger.rows.fates (attempt r.history p).row).gone) ⊎ ((r.ledger.rows.fates (attempt r.history p).row).gone ≤ since) → (attempt r.history p).at < since
      freed b x f (inl o) = absurd (f.unheld (inr (t, record { since = since; dead = f.dead; visits = b; before = o })))
      freed b x f (inr o) = omega (arith, o, i.puts.gone p within x f.dead m)

      stays : r.ledger.rows.visits t ≡ Some since → IsHere r.ledger.rows r.history p → IsHere r'.ledger.rows r'.history p ⊎ FreesNow r.ledger.rows r'.ledger.rows (attempt r.history p).row → (attempt r.history p).at < since
      stays b x (inl y) = absurd (n y)
      stays b x (inr f) = freed b x f (cases_lt since (r.ledger.rows.fates (attempt r.history p).row).gone)

      past : r.ledger.rows.visits t ≡ Some since → IsPast r p → (attempt r.history p).at < since
      past b (inl x) = true_false x (i.history.laws.kept p m)
      past b (inr x) = x.1 t since b

      was : r.ledger.rows.visits t ≡ Some since → IsHere r.ledger.rows r.history p ⊎ (IsHere r.ledger.rows r.history p → ⊥) → (attempt r.history p).at < since
      was b (inl x) = stays b x (here_stays a h i st p within x)
      was b (inr x) = past b (c.past p ((i.history.laws.attempted p within).is_announced m) x)

      which : (r.ledger.rows.visits t ≡ Some since) ⊎ (since ≡ length r.history.log) → (attempt r.history p).at < since
      which (inl b) = was b (is_here r.ledger.rows r.history p)
      which (inr f) = omega (arith, f, i.history.past.at p within m)

  -- what has become of each that was announced
  pub past_keeps : (p : ℕ) → (attempt r'.history p).is_announced ≡ true → (IsHere r'.ledger.rows r'.history p → ⊥) → IsPast r' p
  past_keeps p x n = which (after.puts.old p (announced_within r'.history p x))
    where
      current : IsCurrent (slice_get r'.world.locals) r'.seats r'.history p → ⊥
      current y = n (subst (IsHere r'.ledger.rows r'.history) y.own (after.puts.present (attempt r'.history p).seat y.local y.knows y.putting))

      stamped : IsPut r'.history p → IsPast r' p
      stamped m =
          let b = put_before p m n in
          let same : (attempt r'.history p).at ≡ (attempt r.history p).at = ap (λ (v : Put). v.at) (same_put z r r' s choice l a l' h i st p b) in
          inr (m, λ t since e. omega (arith, same, before_visits p b n t since e))

      over : ((attempt r'.history p).is_lost ≡ true) ⊎ ((attempt r'.history p).is_announced ≡ false) → IsPast r' p
      over (inl y) = inl y
      over (inr y) = true_false x y

      which : IsCurrent (slice_get r'.world.locals) r'.seats r'.history p ⊎ IsOld (word z r'.world) r'.ledger.rows r'.history p ⊎ IsOver r'.history p → IsPast r' p
      which (inl y) = absurd (current y)
      which (inr (inl y)) = stamped y.stamped
      which (inr (inr y)) = over y.over
