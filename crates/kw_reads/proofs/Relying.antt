-- What a seat may rely on over an event of another one, and what a reader counts on whoever acts,
-- from the whole invariant before the event.
use Rattle.std.proofs.Common.{ℕ, ◌≡◌, ◌≢◌, ◌⊎◌, inl, inr, ◌<◌, Some, arith, sym, ◌∙◌, length, slice_get}
use Rattle.std.proofs.lemmas.Option.{same_Some}
use Rattle.kw_world.specs.declared.activity.Activity.{Activity}
use Rattle.kw_world.specs.declared.local.Local.{Local}
use Rattle.kw_world.specs.declared.event.Choice.{Choice}
use Rattle.kw_world.specs.Sizes.{Sizes}
use Rattle.kw_world.specs.Step.{word}
use Rattle.kw_core.specs.Run.{Run}
use Rattle.kw_core.proofs.Happens.{Happens}
use Rattle.kw_core.specs.Words.{given_in}
use Rattle.kw_rows.specs.Rows.{WasLinked}
use Rattle.kw_puts.proofs.NewAttempts.{IsGiving, origin_was}
use Rattle.kw_puts.proofs.Rely.{GoesOn, Rely}
use Rattle.kw_puts.proofs.RelyProof as below
use Rattle.kw_reads.specs.Inv.{Inv, lower}
use Rattle.kw_reads.proofs.HistoryKeeps.{history_step}
use Rattle.kw_reads.proofs.Ready.{RecordStays}

-- the record, whoever acts
pub goes_on_by : (z : Sizes) (r r' : Run) (s : ℕ) (choice : Choice) (l : Local) (a : Activity) (l' : Local) → Happens z r r' s choice l l' a → Inv z r → GoesOn r.history r'.history r.origin r'.origin r.ledger.rows
goes_on_by z r r' s choice l a l' h i = below.goes_on_by z r r' s choice l a l' h (lower i) (history_step z r r' s choice l a l' h i)

-- all that another seat may rely on
pub rely : (z : Sizes) (r r' : Run) (s : ℕ) (choice : Choice) (l : Local) (a : Activity) (l' : Local) → Happens z r r' s choice l l' a → Inv z r → (t : ℕ) (k : Local) → t ≢ s → slice_get r.world.locals t ≡ Some k → Rely z r r' t k
rely z r r' s choice l a l' h i t k d g = below.rely z r r' s choice l a l' h (lower i) (history_step z r r' s choice l a l' h i) t k d g

-- a cell of a row that is or was linked stands for an attempt that was there only where it did so
-- before the event
cells_were : (z : Sizes) (r r' : Run) (s : ℕ) (choice : Choice) (l : Local) (a : Activity) (l' : Local) → Happens z r r' s choice l l' a → Inv z r → (q c p : ℕ) → WasLinked r.ledger.rows q → p < length r.history.attempts → r'.origin q c ≡ Some p → r.origin q c ≡ Some p
cells_were z r r' s choice l a l' h i q c p k w e = which (origin_was a h i.shape q c k)
  where
    which : (r'.origin q c ≡ r.origin q c) ⊎ IsGiving z r l a × (q ≡ l.row) × (c ≡ given_in (word z r.world) l.row) × (r'.origin q c ≡ Some (length r.history.attempts)) → r.origin q c ≡ Some p
    which (inl x) = sym x ∙ e
    which (inr x) = absurd (omega (arith, w, same_Some (length r.history.attempts) p (sym x.3 ∙ e)))

-- what a reader counts on
pub record_stays : (z : Sizes) (r r' : Run) (s : ℕ) (choice : Choice) (l : Local) (a : Activity) (l' : Local) → Happens z r r' s choice l l' a → Inv z r → RecordStays r.history r'.history r.origin r'.origin r.ledger.rows
record_stays z r r' s choice l a l' h i =
    let g = goes_on_by z r r' s choice l a l' h i in
    record { grows = g.grows; more_attempts = g.more_attempts; attempts = g.attempts; origin = g.origin; origin_was = cells_were z r r' s choice l a l' h i }
