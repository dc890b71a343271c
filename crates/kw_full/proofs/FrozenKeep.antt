-- Every event keeps that only rows which are frozen have frozen entries, of those that are or were
-- in the list: an entry is frozen by a seat that has frozen the row before, and those of a row that
-- is linked now are idle.
use Rattle.std.proofs.Common.{ℕ, ◌≡◌, ◌≢◌, ◌⊎◌, inl, inr, ◌<◌, ◌≤◌, arith, refl, sym, ◌∙◌, subst, length}
use Rattle.std.proofs.lemmas.Bool.{cases_eq, cases_lt}
use Rattle.kw_words.specs.declared.layout.Name.TheVariants as name
use Rattle.kw_words.specs.declared.pend.Pend.TheVariants.{Frozen, Idle, Pending, Stamped}
use Rattle.kw_words.specs.Pend.{pend_word}
use Rattle.kw_rows.specs.Ledger as fate
use Rattle.kw_rows.specs.Rows.{WasLinked}
use Rattle.kw_world.specs.declared.activity.Activity.{Activity}
use Rattle.kw_world.specs.declared.activity.look.Look.TheVariants as Look
use Rattle.kw_world.specs.declared.activity.put.Put.TheVariants as Put
use Rattle.kw_world.specs.declared.activity.rebalance.Rebalance.TheVariants as Rebalance
use Rattle.kw_world.specs.declared.activity.rebalance.freeze.Freeze.TheVariants as Freeze
use Rattle.kw_world.specs.declared.event.Choice.{Choice}
use Rattle.kw_world.specs.declared.local.Local.{Local}
use Rattle.kw_world.specs.declared.opening.Opening.{Opening}
use Rattle.kw_world.specs.declared.operation.Action.TheVariants.{Exchange}
use Rattle.kw_world.specs.Opening.{IsOpening}
use Rattle.kw_world.specs.Operation.{word_after}
use Rattle.kw_world.specs.Sizes.{Sizes}
use Rattle.kw_world.specs.Step.{word}
use Rattle.kw_core.specs.Run.{Run, start}
use Rattle.kw_core.specs.Words.{Words}
use Rattle.kw_core.proofs.FreezeFrame.{FreezesEntry}
use Rattle.kw_core.proofs.Happens.{Happens, exchanged, not_exchanged}
use Rattle.kw_core.proofs.InfantFrames.{entry_stays}
use Rattle.kw_shape.proofs.InfantsRely.{index_of_row}
use Rattle.kw_shape.proofs.LinkedRows.{ComesNow, infants_at, linked_before, linked_entry, linked_keeps, was_below}
use Rattle.kw_shape.proofs.ShapeOpens.{opens, shape_starts}
use Rattle.kw_puts.specs.Freezes.{HasFrozen, IsFrozen}
use Rattle.kw_reads.specs.Inv.{Inv}
use Rattle.kw_full.specs.Frozen.{KeepsFrozen}

-- Words.

-- an exchange leaves a frozen entry only where it found one, unless it is one that freezes
exchange_finds : (n' n x y : ℕ) → n' ≡ word_after (Exchange x y) n → y ≢ pend_word Frozen → n' ≡ pend_word Frozen → n ≡ pend_word Frozen
exchange_finds n' n x y e d f = which (cases_eq n x)
  where
    which : (n ≡ x) ⊎ (n ≡ x → ⊥) → n ≡ pend_word Frozen
    which (inl u) = absurd (d (sym (exchanged n' n x y e u) ∙ f))
    which (inr u) = sym (not_exchanged n' n x y e u) ∙ f

-- no other entry is a frozen one
idle_not : pend_word Idle ≢ pend_word Frozen
idle_not e = omega (arith, e)

pending_not : (c : ℕ) → pend_word (Pending c) ≢ pend_word Frozen
pending_not c e = omega (arith, e)

stamped_not : (c n : ℕ) → pend_word (Stamped c n) ≢ pend_word Frozen
stamped_not c n e = omega (arith, e)

-- what stands in an entry stood there before, if it did at the one place that an event writes
was_at : (v v' : Words) (row i q t x : ℕ) → (v' (name.Pend row i) ≡ x → v (name.Pend row i) ≡ x) → ((q ≡ row → t ≡ i → ⊥) → v' (name.Pend q t) ≡ v (name.Pend q t)) → v' (name.Pend q t) ≡ x → v (name.Pend q t) ≡ x
was_at v v' row i q t x here there e = which (cases_eq q row) (cases_eq t i)
  where
    which : (q ≡ row) ⊎ (q ≡ row → ⊥) → (t ≡ i) ⊎ (t ≡ i → ⊥) → v (name.Pend q t) ≡ x
    which (inl f) (inl g) = rw (f, g) (here (rw (f, g) at e))
    which (inl f) (inr d) = sym (there (λ u k. d k)) ∙ e
    which (inr d) g = sym (there (λ u k. d u)) ∙ e

-- One event.

module _ {z : Sizes} {r r' : Run} {s : ℕ} {choice : Choice} {l l' : Local} where
  -- an entry that is frozen after it was so before, or the seat has frozen it
  was_frozen : (a : Activity) → Happens z r r' s choice l l' a → Inv z r → (q t : ℕ) → WasLinked r.ledger.rows q → t < z.seats → word z r'.world (name.Pend q t) ≡ pend_word Frozen →
      (word z r.world (name.Pend q t) ≡ pend_word Frozen) ⊎ (FreezesEntry t a × (q ≡ l.rebalance.hand))
  was_frozen (Activity.Put Put.Announce) h v q t k o e = inl (was_at (word z r.world) (word z r'.world) l.row s q t _ (exchange_finds _ _ _ _ h.changed.same (pending_not l.cell)) (λ d. linked_entry (Activity.Put Put.Announce) h v.shape q t k o (λ x u w. d u w) (λ x u w. x) (λ x u. x)) e)
  was_frozen (Activity.Put Put.Stamp) h v q t k o e = inl (was_at (word z r.world) (word z r'.world) l.row s q t _ (exchange_finds _ _ _ _ h.changed.same (stamped_not l.cell l.version)) (λ d. linked_entry (Activity.Put Put.Stamp) h v.shape q t k o (λ x u w. d u w) (λ x u w. x) (λ x u. x)) e)
  was_frozen (Activity.Put Put.Clear) h v q t k o e = inl (was_at (word z r.world) (word z r'.world) l.row s q t _ (λ f. absurd (idle_not (sym h.changed.same ∙ f))) (λ d. linked_entry (Activity.Put Put.Clear) h v.shape q t k o (λ x u w. d u w) (λ x u w. x) (λ x u. x)) e)
  was_frozen (Activity.Look Look.Help) h v q t k o e = inl (was_at (word z r.world) (word z r'.world) l.row l.looked q t _ (exchange_finds _ _ _ _ h.changed.same (stamped_not l.saw l.helping)) (λ d. linked_entry (Activity.Look Look.Help) h v.shape q t k o (λ x u w. x) (λ x u w. d u w) (λ x u. x)) e)
  was_frozen (Activity.Rebalance (Rebalance.Freeze (Freeze.Entry i))) h v q t k o e = which e (cases_eq q l.rebalance.hand) (cases_eq t i)
    where
      stays : (t ≡ i → q ≡ l.rebalance.hand → ⊥) → word z r'.world (name.Pend q t) ≡ word z r.world (name.Pend q t)
      stays d = linked_entry (Activity.Rebalance (Rebalance.Freeze (Freeze.Entry i))) h v.shape q t k o (λ x u w. x) (λ x u w. x) d

      which : word z r'.world (name.Pend q t) ≡ pend_word Frozen → (q ≡ l.rebalance.hand) ⊎ (q ≡ l.rebalance.hand → ⊥) → (t ≡ i) ⊎ (t ≡ i → ⊥) →
          (word z r.world (name.Pend q t) ≡ pend_word Frozen) ⊎ (FreezesEntry t (Activity.Rebalance (Rebalance.Freeze (Freeze.Entry i))) × (q ≡ l.rebalance.hand))
      which e (inl f) (inl g) = inr (g, f)
      which e (inl f) (inr d) = inl (sym (stays (λ x u. d x)) ∙ e)
      which e (inr d) g = inl (sym (stays (λ x u. d u)) ∙ e)
  was_frozen a h v q t k o e = inl (sym (linked_entry a h v.shape q t k o (λ x u w. x) (λ x u w. x) (λ x u. x)) ∙ e)

  -- the row at hand is frozen where an entry of it is
  hand_frozen : (a : Activity) → Happens z r r' s choice l l' a → Inv z r → (t : ℕ) → FreezesEntry t a → IsFrozen (word z r.world) l.rebalance.hand
  hand_frozen (Activity.Rebalance (Rebalance.Freeze (Freeze.Entry i))) h v t x = (v.puts.freezes s l h.knows).count l.rebalance.hand (subst (λ b. HasFrozen b l l.rebalance.hand) (sym h.activity) (inr refl))
  hand_frozen _ h v t x = absurd x

  -- the entries of a row that is linked now are idle
  comes_idle : (a : Activity) → Happens z r r' s choice l l' a → Inv z r → (q t : ℕ) → ComesNow (word z r.world) r.ledger.rows r'.ledger.rows s (length r.history.log) l a q → t < z.seats → word z r'.world (name.Pend q t) ≡ pend_word Frozen → ⊥
  comes_idle a h v q t y o e =
      let g = subst (Happens z r r' s choice l l') y.replaces h in
      let p = index_of_row l.rebalance.taken q y.taken in
      let idle = ((infants_at _ g v.shape).whole p.0 q tt p.1).entries t o tt in
      idle_not (sym idle ∙ sym (entry_stays _ g q t below o (λ x. x)) ∙ e)
    where
      below : q < r.world.rows
      below = which (cases_lt q r.world.rows)
        where
          which : (q < r.world.rows) ⊎ (r.world.rows ≤ q) → q < r.world.rows
          which (inl w) = w
          which (inr w) = let x : fate.Infant ≡ fate.Free = sym y.infant.status ∙ v.shape.beyond q w in absurd (cc)

  pub frozen_keeps : (a : Activity) → Happens z r r' s choice l l' a → Inv z r → KeepsFrozen z r → KeepsFrozen z r'
  frozen_keeps a h v x = record { entries = λ q t k o e. which q t o e (linked_before a h v.shape q k) }
    where
      stays : (q : ℕ) → WasLinked r.ledger.rows q → IsFrozen (word z r.world) q → IsFrozen (word z r'.world) q
      stays q k f = (linked_keeps a h v.shape q k).frozen f

      by : (q t : ℕ) → WasLinked r.ledger.rows q → t < z.seats → (word z r.world (name.Pend q t) ≡ pend_word Frozen) ⊎ (FreezesEntry t a × (q ≡ l.rebalance.hand)) → IsFrozen (word z r'.world) q
      by q t k o (inl f) = stays q k (x.entries q t k o f)
      by q t k o (inr f) = stays q k (subst (IsFrozen (word z r.world)) (sym f.1) (hand_frozen a h v t f.0))

      which : (q t : ℕ) → t < z.seats → word z r'.world (name.Pend q t) ≡ pend_word Frozen → WasLinked r.ledger.rows q ⊎ ComesNow (word z r.world) r.ledger.rows r'.ledger.rows s (length r.history.log) l a q → IsFrozen (word z r'.world) q
      which q t o e (inl k) = by q t k o (was_frozen a h v q t k o e)
      which q t o e (inr y) = absurd (comes_idle a h v q t y o e)

-- Where a run begins no entry is frozen.
pub frozen_start : (z : Sizes) (o : Opening) → IsOpening z o → KeepsFrozen z (start z o)
frozen_start z o opening = record { entries = λ q t k u e. absurd (idle_not (sym (opens z o opening (name.Pend q t) (was_below z (start z o) (shape_starts z o opening) q k, u)) ∙ e)) }
