-- Of which stamped puts a row that is or was linked has cells, over an event: of the same ones as
-- before, and of the one that is stamped now, which is of a row of the list. A row whose entries
-- are all settled gets none.
use Rattle.std.proofs.Common.{ℕ, ◌≡◌, ◌≢◌, ◌⊎◌, inl, inr, ◌<◌, ◌==◌, ◌&&◌, Bool, true, false, if◌then◌else◌, Option, Some, arith, refl, sym, ◌∙◌, ap, subst, length, slice_get}
use Rattle.std.proofs.lemmas.Option.{same_Some}
use Rattle.kw_words.specs.declared.layout.Name.TheVariants as name
use Rattle.kw_words.specs.declared.pend.Pend.TheVariants as pend
use Rattle.kw_words.specs.Count.{count_of}
use Rattle.kw_words.specs.Pend.{pend_word}
use Rattle.kw_rows.specs.Ledger.{IsLive}
use Rattle.kw_rows.specs.Rows.{WasLinked}
use Rattle.kw_world.specs.declared.activity.Activity.{Activity}
use Rattle.kw_world.specs.declared.activity.put.Put.TheVariants as Put
use Rattle.kw_world.specs.declared.activity.rebalance.Rebalance.TheVariants as Rebalance
use Rattle.kw_world.specs.declared.activity.rebalance.write.Write.TheVariants as Write
use Rattle.kw_world.specs.declared.event.Choice.{Choice}
use Rattle.kw_world.specs.declared.local.Local.{Local}
use Rattle.kw_world.specs.PutTransitions.{has_room, given_of}
use Rattle.kw_world.specs.Sizes.{Sizes}
use Rattle.kw_world.specs.Step.{word}
use Rattle.kw_core.specs.History.{attempt}
use Rattle.kw_core.specs.HistoryLaws.{IsPut}
use Rattle.kw_core.specs.Run.{Origins, Run, with_origin}
use Rattle.kw_core.specs.Step.{Step}
use Rattle.kw_core.proofs.Attempts.{in_range}
use Rattle.kw_core.proofs.Copies.{origin_stays}
use Rattle.kw_core.proofs.Happens.{Happens, log_entry}
use Rattle.kw_puts.specs.Below.{Below}
use Rattle.kw_puts.specs.Freezes.{IsSettled}
use Rattle.kw_puts.specs.Puts.{HasCell}
use Rattle.kw_puts.proofs.RelyProof.{goes_on_by}
use Rattle.kw_reads.specs.Contents.{InRow}
use Rattle.kw_puts.specs.Puts.{IsCopyAt}
use Rattle.kw_shape.proofs.LinkedRows.{not_hand}
use Rattle.kw_puts.proofs.FrozenRows.{not_pending}
use Rattle.kw_reads.proofs.Stamping.{StampsNow, StampStep, stamps_none, stamps_one, stamp_step}

-- The row of what is stamped now.

module _ {z : Sizes} {r r' : Run} {a : Activity} {o : ℕ} (i : Below z r) (x : StampsNow z r r' a o) where
  -- it is none whose entries are all settled
  pub not_settled : (q : ℕ) → ((j : ℕ) → j < z.seats → IsSettled (word z r.world) (slice_get r.world.locals) q j) → (attempt r.history o).row ≢ q
  not_settled q f e =
      let g = i.puts.placed o x.within in
      not_pending (word z r.world) (slice_get r.world.locals) q (attempt r.history o).seat x.cell (f (attempt r.history o).seat g.seat) (subst (λ y. word z r.world (name.Pend y (attempt r.history o).seat) ≡ pend_word (pend.Pending x.cell)) e x.entry)

  -- so it is in the list
  pub its_row_live : IsLive r.ledger.rows (attempt r.history o).row
  its_row_live = which x.here.linked
    where
      which : WasLinked r.ledger.rows (attempt r.history o).row → IsLive r.ledger.rows (attempt r.history o).row
      which (inl y) = y
      which (inr d) = absurd (not_settled (attempt r.history o).row (λ j u. i.puts.dead (attempt r.history o).row j d u) refl)

  -- it has a cell there
  pub stamped_in_row : InRow z r' (attempt r.history o).row o
  stamped_in_row = record { cell = (attempt r.history o).cell; within = (i.puts.placed o x.within).cell; origin = x.origin (attempt r.history o).row (attempt r.history o).cell ∙ (i.puts.given o x.within x.here).origin; is_put = x.stamps }

-- Cells over an event.

module _ (z : Sizes) (r r' : Run) (s : ℕ) (choice : Choice) (l : Local) (a : Activity) (l' : Local) (h : Happens z r r' s choice l l' a) (i : Below z r) (st : Step r.history r'.history (log_entry z r a s choice l)) where
  -- a stamped put stays one
  pub is_put_stays : (p : ℕ) → IsPut r.history p → IsPut r'.history p
  is_put_stays p x = (((goes_on_by z r r' s choice l a l' h i st).grows.old p (in_range r.history p x)).stamped x).0

  -- a row has the cells that it had
  pub in_row_stays : (q p : ℕ) → WasLinked r.ledger.rows q → InRow z r q p → InRow z r' q p
  in_row_stays q p k x = record { cell = x.cell; within = x.within; origin = (goes_on_by z r r' s choice l a l' h i st).origin q x.cell p k x.origin; is_put = is_put_stays p x.is_put }

-- a cell that stands for an attempt that was there stood for it before
pub origin_was : {z : Sizes} {r r' : Run} {s : ℕ} {choice : Choice} {l l' : Local} (a : Activity) → Happens z r r' s choice l l' a → Below z r → (q c p : ℕ) → WasLinked r.ledger.rows q → p < length r.history.attempts → r'.origin q c ≡ Some p → r.origin q c ≡ Some p
origin_was {z} {r} {r'} {s} {choice} {l} {l'} (Activity.Put Put.Add) h i q c p k o e = saw (has_room z (count_of (word z r.world (name.Count l.row)))) (sym (ap (λ (x : Origins). x q c) h.origin) ∙ e)
  where
    given : (b : Bool) → (let x : Option ℕ = if b then Some (length r.history.attempts) else r.origin q c in x) ≡ Some p → r.origin q c ≡ Some p
    given true f = let x = same_Some (length r.history.attempts) p f in absurd (omega (arith, x, o))
    given false f = f

    saw : (b : Bool) → (let x : Origins = if b then with_origin r.origin l.row (given_of (count_of (word z r.world (name.Count l.row)))) (length r.history.attempts) else r.origin in x) q c ≡ Some p → r.origin q c ≡ Some p
    saw true f = given ((q == l.row) && (c == given_of (count_of (word z r.world (name.Count l.row))))) f
    saw false f = f
origin_was (Activity.Rebalance (Rebalance.Write (Write.Version j))) h i q c p k o e = sym (origin_stays (Activity.Rebalance (Rebalance.Write (Write.Version j))) h q c (λ x. not_hand (Activity.Rebalance (Rebalance.Write (Write.Version j))) h i.shape tt q k x.0)) ∙ e
origin_was a h i q c p k o e = sym (origin_stays a h q c (λ x. x)) ∙ e

-- a cell of a put that was stamped before was there
pub in_row_was : {z : Sizes} {r r' : Run} {s : ℕ} {choice : Choice} {l l' : Local} (a : Activity) → Happens z r r' s choice l l' a → Below z r → (q p : ℕ) → WasLinked r.ledger.rows q → IsPut r.history p → InRow z r' q p → InRow z r q p
in_row_was {z} {r} {r'} {s} {choice} {l} {l'} a h i q p k m x = record { cell = x.cell; within = x.within; origin = origin_was a h i q x.cell p k (in_range r.history p m) x.origin; is_put = m }

-- a row whose entries are all settled gets no cell of a stamped put
pub settled_in_row : {z : Sizes} {r r' : Run} {s : ℕ} {choice : Choice} {l l' : Local} (a : Activity) → Happens z r r' s choice l l' a → Below z r → (q p : ℕ) → WasLinked r.ledger.rows q → ((j : ℕ) → j < z.seats → IsSettled (word z r.world) (slice_get r.world.locals) q j) → InRow z r' q p → InRow z r q p
settled_in_row {z} {r} {r'} {s} {choice} {l} {l'} a h i q p k f x = which (stamp_step a h i)
  where
    now : (o : ℕ) → StampsNow z r r' a o → (p ≡ o) ⊎ IsPut r.history p → InRow z r q p
    now o y (inr m) = in_row_was a h i q p k m x
    now o y (inl e) = owned (i.puts.places.owner q x.cell o k x.within at)
      where
        at : r.origin q x.cell ≡ Some o
        at = subst (λ n. r.origin q x.cell ≡ Some n) e (sym (y.origin q x.cell) ∙ x.origin)

        owned : HasCell r.ledger.rows r.history q x.cell o ⊎ IsCopyAt (word z r.world) r.ledger.rows r.history q x.cell o → InRow z r q p
        owned (inl own) = absurd (not_settled i y q f own.row)
        owned (inr copy) = in_row_was a h i q p k (subst (IsPut r.history) (sym e) copy.stamped) x

    which : StampStep z r r' a → InRow z r q p
    which (stamps_none was) = in_row_was a h i q p k (was p x.is_put) x
    which (stamps_one o y) = now o y (y.was p x.is_put)
