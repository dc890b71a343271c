-- Every event keeps where the attempts stand that never get a version: a seat goes on from one only
-- where it finds its entry frozen, and then the row is.
use Rattle.std.proofs.Common.{ℕ, ◌≡◌, ◌⊎◌, inl, inr, ◌<◌, true, arith, refl, sym, ◌∙◌, ap, length, slice_get, subst}
use Rattle.std.proofs.lemmas.Bool.{cases_eq}
use Rattle.std.proofs.lemmas.Option.{same_Some}
use Rattle.kw_words.specs.declared.layout.Name.TheVariants as name
use Rattle.kw_words.specs.declared.pend.Pend.TheVariants as pend
use Rattle.kw_words.specs.Pend.{pend_word}
use Rattle.kw_world.specs.declared.activity.Activity.{Activity}
use Rattle.kw_world.specs.declared.activity.put.Put.TheVariants as Put
use Rattle.kw_world.specs.declared.event.Choice.{Choice}
use Rattle.kw_world.specs.declared.local.Local.{Local}
use Rattle.kw_world.specs.declared.opening.Opening.{Opening}
use Rattle.kw_world.specs.Sizes.{Sizes}
use Rattle.kw_world.specs.Step.{word}
use Rattle.kw_core.specs.History.{attempt}
use Rattle.kw_core.specs.Run.{Run, start}
use Rattle.kw_core.specs.Stages.{IsPutting, IsStamped}
use Rattle.kw_core.specs.Step.{Step}
use Rattle.kw_core.proofs.Arrows.{Arrow, announces, announces_full, builds, clears, first_reaches, first_sees_none, inserts, inserts_at_first, inserts_behind, is_stamped, key_after, key_before, key_same, loads_clock, loses, reaches_cell, sees_none, stamps, stamps_full, stores_after, stores_key, stores_value, stores_version, tidies, version_after, version_before}
use Rattle.kw_core.proofs.Happens.{Happens, knows_next, knows_other, log_entry}
use Rattle.kw_rows.specs.Rows.{WasLinked}
use Rattle.kw_puts.specs.Below.{Below}
use Rattle.kw_puts.specs.Freezes.{IsFrozen}
use Rattle.kw_puts.specs.Puts.{IsCurrent, IsHere, OwnsAttempt}
use Rattle.kw_puts.proofs.DoneAttempts.{building_puts, new_current}
use Rattle.kw_puts.proofs.HereStays.{here_was}
use Rattle.kw_puts.proofs.NewAttempts.{IsNew, attempt_was, stays_frozen}
use Rattle.kw_puts.proofs.OwnAttempts.{acting_own, lost_frozen, refused_frozen}
use Rattle.kw_puts.proofs.Rely.{GoesOn, SameAttempt}
use Rattle.kw_puts.proofs.RelyProof.{goes_on_by}
use Rattle.kw_full.specs.Frozen.{KeepsFrozen}
use Rattle.kw_full.specs.OverFrozen.{IsOverFrozen, KeepsOver}

-- the attempt of a seat that puts stays its own, or the seat clears its entry, or finds it frozen
own_goes : (z : Sizes) (r r' : Run) (s : ℕ) (choice : Choice) (l : Local) (a : Activity) (l' : Local) → Arrow z (word z r.world) s choice l a l' → Happens z r r' s choice l l' a → Below z r → IsPutting a →
    IsPutting l'.activity × ((r'.seats s).own ≡ (r.seats s).own) ⊎ (a ≡ Activity.Put Put.Clear) ⊎ (word z r.world (name.Pend l.row s) ≡ pend_word pend.Frozen)
own_goes z r r' s choice l a l' (builds b next y t) h i p = building_puts b y p
own_goes z r r' s choice l a l' stores_key h i p = inl (tt, ap (λ g. g.own) h.log)
own_goes z r r' s choice l a l' stores_value h i p = inl (tt, ap (λ g. g.own) h.log)
own_goes z r r' s choice l a l' (announces e) h i p = inl (tt, ap (λ g. g.own) h.log)
own_goes z r r' s choice l a l' (announces_full n) h i p = inr (inr (refused_frozen z r s l i h.seat h.knows h.activity n))
own_goes z r r' s choice l a l' loads_clock h i p = inl (tt, ap (λ g. g.own) h.log)
own_goes z r r' s choice l a l' (stamps e) h i p = inl (tt, ap (λ g. g.own) h.log)
own_goes z r r' s choice l a l' (is_stamped version e) h i p = inl (tt, ap (λ g. g.own) h.log)
own_goes z r r' s choice l a l' (stamps_full n) h i p = inr (inr (lost_frozen z r s l i (acting_own z r r' s choice l a l' h i p) h.knows h.activity n))
own_goes z r r' s choice l a l' stores_version h i p = inl (tt, ap (λ g. g.own) h.log)
own_goes z r r' s choice l a l' (first_reaches c y) h i p = inl (tt, ap (λ g. g.own) h.log)
own_goes z r r' s choice l a l' (reaches_cell c y) h i p = inl (tt, ap (λ g. g.own) h.log)
own_goes z r r' s choice l a l' (first_sees_none y) h i p = inl (tt, ap (λ g. g.own) h.log)
own_goes z r r' s choice l a l' (sees_none y) h i p = inl (tt, ap (λ g. g.own) h.log)
own_goes z r r' s choice l a l' (inserts_behind guess inside y) h i p = inl (tt, ap (λ g. g.own) h.log)
own_goes z r r' s choice l a l' (inserts_at_first guess y) h i p = inl (tt, ap (λ g. g.own) h.log)
own_goes z r r' s choice l a l' (key_before y) h i p = inl (tt, ap (λ g. g.own) h.log)
own_goes z r r' s choice l a l' (key_same y) h i p = inl (tt, ap (λ g. g.own) h.log)
own_goes z r r' s choice l a l' (key_after y) h i p = inl (tt, ap (λ g. g.own) h.log)
own_goes z r r' s choice l a l' (version_before y) h i p = inl (tt, ap (λ g. g.own) h.log)
own_goes z r r' s choice l a l' (version_after y) h i p = inl (tt, ap (λ g. g.own) h.log)
own_goes z r r' s choice l a l' stores_after h i p = inl (tt, ap (λ g. g.own) h.log)
own_goes z r r' s choice l a l' (inserts y) h i p = inl (tt, ap (λ g. g.own) h.log)
own_goes z r r' s choice l a l' (loses y) h i p = inl (tt, ap (λ g. g.own) h.log)
own_goes z r r' s choice l a l' clears h i p = inr (inl refl)
own_goes z r r' s choice l a l' (tidies rows e) h i p = inr (inl refl)
own_goes z r r' s choice l a l' _ h i p = absurd p

-- One event.

module _ (z : Sizes) (r r' : Run) (s : ℕ) (choice : Choice) (l l' : Local) (a : Activity) (h : Happens z r r' s choice l l' a) (i : Below z r) (st : Step r.history r'.history (log_entry z r a s choice l)) (frozen : KeepsFrozen z r) (x : KeepsOver z r) where
  goes : GoesOn r.history r'.history r.origin r'.origin r.ledger.rows
  goes = goes_on_by z r r' s choice l a l' h i st

  -- a stamped attempt stays stamped
  stays_stamped : (p : ℕ) → p < length r.history.attempts → (attempt r.history p).is_stamped ≡ true → (attempt r'.history p).is_stamped ≡ true
  stays_stamped p w e = ((goes.grows.old p w).stamped e).0

  -- a row that is frozen stays so
  still_frozen : (p : ℕ) → p < length r.history.attempts → IsHere r.ledger.rows r.history p → IsFrozen (word z r.world) (attempt r.history p).row → IsFrozen (word z r'.world) (attempt r'.history p).row
  still_frozen p w k f = subst (IsFrozen (word z r'.world)) (sym (goes.attempts p w).row) (stays_frozen a h i.shape (attempt r.history p).row k.linked f)

  -- the attempt of the acting seat
  own_over : (p : ℕ) → p < length r.history.attempts → IsHere r.ledger.rows r.history p → p ≡ (r.seats s).own → IsPutting l.activity → IsOverFrozen z r' p
  own_over p w k e m = which (own_goes z r r' s choice l a l' h.arrow h i (subst IsPutting h.activity m))
    where
      own : OwnsAttempt (word z r.world) r.history s l.activity l (r.seats s)
      own = i.puts.owns s l h.knows m

      same : SameAttempt r.history r'.history p
      same = goes.attempts p w

      seat : (attempt r'.history p).seat ≡ s
      seat = same.seat ∙ ap (λ q. (attempt r.history q).seat) e ∙ own.seat

      row : (attempt r.history p).row ≡ l.row
      row = ap (λ q. (attempt r.history q).row) e ∙ own.row

      which : IsPutting l'.activity × ((r'.seats s).own ≡ (r.seats s).own) ⊎ (a ≡ Activity.Put Put.Clear) ⊎ (word z r.world (name.Pend l.row s) ≡ pend_word pend.Frozen) → IsOverFrozen z r' p
      which (inl y) = inl (record { local = l'; knows = rw seat (knows_next h); putting = y.0; own = rw seat (y.1 ∙ sym e) })
      which (inr (inl y)) = inr (inl (stays_stamped p w (subst (λ q. (attempt r.history q).is_stamped ≡ true) (sym e) (own.stamped (subst IsStamped (sym (h.activity ∙ y)) tt)))))
      which (inr (inr y)) =
          let f : IsFrozen (word z r.world) l.row = frozen.entries l.row s (subst (λ q. WasLinked r.ledger.rows q) row k.linked) h.seat y in
          inr (inr (still_frozen p w k (subst (IsFrozen (word z r.world)) (sym row) f)))

  -- an attempt that a seat is at work on
  current_over : (p : ℕ) → p < length r.history.attempts → IsHere r.ledger.rows r.history p → IsCurrent (slice_get r.world.locals) r.seats r.history p → IsOverFrozen z r' p
  current_over p w k c = which (cases_eq (attempt r.history p).seat s)
    where
      which : ((attempt r.history p).seat ≡ s) ⊎ ((attempt r.history p).seat ≡ s → ⊥) → IsOverFrozen z r' p
      which (inl e) =
          let is : c.local ≡ l = same_Some c.local l (sym c.knows ∙ rw e h.knows) in
          own_over p w k (sym c.own ∙ ap (λ t. (r.seats t).own) e) (subst (λ (y : Local). IsPutting y.activity) is c.putting)
      which (inr d) =
          let same = (goes.attempts p w).seat in
          inl (record { local = c.local; knows = rw same (knows_other h (attempt r.history p).seat d ∙ c.knows); putting = c.putting; own = rw same (ap (λ g. g.own) (h.logs (attempt r.history p).seat d) ∙ c.own) })

  pub over_keeps : KeepsOver z r'
  over_keeps = record { over = λ p w k. which p k (attempt_was a h p w) }
    where
      was : (p : ℕ) → p < length r.history.attempts → IsHere r.ledger.rows r.history p → IsOverFrozen z r p → IsOverFrozen z r' p
      was p w k (inl c) = current_over p w k c
      was p w k (inr (inl e)) = inr (inl (stays_stamped p w e))
      was p w k (inr (inr f)) = inr (inr (still_frozen p w k f))

      which : (p : ℕ) → IsHere r'.ledger.rows r'.history p → (p < length r.history.attempts) ⊎ IsNew z r r' s l a p → IsOverFrozen z r' p
      which p k (inl w) = let here = here_was a h i st p w k in was p w here (x.over p w here)
      which p k (inr n) = inl (new_current z r r' s choice l a l' h i st p n)

-- Where a run begins there is no attempt.
pub over_start : (z : Sizes) (o : Opening) → KeepsOver z (start z o)
over_start z o = record { over = λ p w k. absurd (omega (arith, w)) }
