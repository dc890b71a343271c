-- What an event leaves of the cells of a row that is frozen and whose entries are all settled: each
-- stands for the same attempt, or for none, none of these attempts is stamped any more, and of its
-- list all is left that a walk along it may lean on.
use Rattle.std.proofs.Common.{ℕ, ◌≡◌, ◌⊎◌, inl, inr, ◌<◌, true, false, Option, Some, arith, sym, ◌∙◌, ap, subst, length, slice_get}
use Rattle.kw_words.specs.declared.layout.Name.TheVariants as name
use Rattle.kw_words.specs.declared.pend.Pend.TheVariants as pend
use Rattle.kw_words.specs.Pend.{pend_word}
use Rattle.kw_lists.specs.Rows.{Row}
use Rattle.kw_lists.specs.Changes.{Leaves}
use Rattle.kw_world.specs.declared.activity.Activity.{Activity}
use Rattle.kw_world.specs.declared.local.Local.{Local}
use Rattle.kw_world.specs.declared.event.Choice.{Choice}
use Rattle.kw_world.specs.Sizes.{Sizes}
use Rattle.kw_world.specs.Step.{word}
use Rattle.kw_core.specs.Grows.{Grows}
use Rattle.kw_core.specs.History.{History, attempt}
use Rattle.kw_core.specs.Run.{Origins, Run}
use Rattle.kw_core.specs.Stages.{IsFresh, IsPublished, IsPutting}
use Rattle.kw_core.specs.Step.{Step, AttemptStep, as_it_was, is_added, is_announced, is_lost, is_stamped}
use Rattle.kw_core.specs.Words.{Words}
use Rattle.kw_core.proofs.Happens.{Happens, log_entry}
use Rattle.kw_core.proofs.Steps.{step_grows}
use Rattle.kw_rows.specs.Rows.{WasLinked}
use Rattle.kw_puts.specs.Below.{Below}
use Rattle.kw_puts.specs.Freezes.{IsFrozen, IsSettled, settled_frozen, settled_stamped, settled_idle}
use Rattle.kw_puts.specs.Lists.{list_in}
use Rattle.kw_puts.specs.Puts.{HasCell, IsCopyAt, IsCurrent, IsOld, IsOver, OwnsAttempt}
use Rattle.kw_puts.proofs.Owners.{true_false}
use Rattle.kw_puts.proofs.RelyEntry.{fresh_published}
use Rattle.kw_puts.proofs.OwnAttempts.{entry_pending}
use Rattle.kw_puts.proofs.ListSteps.{leaves, list_step}
use Rattle.kw_puts.proofs.RelyProof.{frozen_same}

-- what is left of a row of n cells, whose number is q
pub record LeavesCells (n : ℕ) (row row' : Row) (h h' : History) (o o' : Origins) (q : ℕ) : Type 0 where
  pub list : Leaves n row row'
  pub grows : Grows h h' (length h.log)
  pub origin : (c : ℕ) → o' q c ≡ o q c
  pub stamped : (c p : ℕ) → c < n → o q c ≡ Some p → (attempt h' p).is_stamped ≡ true → (attempt h p).is_stamped ≡ true

-- an entry that is settled is not pending
pub not_pending : (v : Words) (locals : ℕ → Option Local) (q j c : ℕ) → IsSettled v locals q j → v (name.Pend q j) ≡ pend_word (pend.Pending c) → ⊥
not_pending v locals q j c (settled_frozen x) e = let y : pend_word pend.Frozen ≡ pend_word (pend.Pending c) = sym x ∙ e in omega (arith, y)
not_pending v locals q j c (settled_stamped d n x) e = let y : pend_word (pend.Stamped d n) ≡ pend_word (pend.Pending c) = sym x ∙ e in omega (arith, y)
not_pending v locals q j c (settled_idle x n) e = let y : pend_word pend.Idle ≡ pend_word (pend.Pending c) = sym x ∙ e in omega (arith, y)

-- the entry of an attempt that is announced, and is neither stamped nor lost, is pending
pub announced_pending : (z : Sizes) (r : Run) → Below z r → (p : ℕ) → p < length r.history.attempts → (attempt r.history p).is_announced ≡ true → (attempt r.history p).is_stamped ≡ false → (attempt r.history p).is_lost ≡ false →
    word z r.world (name.Pend (attempt r.history p).row (attempt r.history p).seat) ≡ pend_word (pend.Pending (attempt r.history p).cell)
announced_pending z r i p w a n k = which (i.puts.old p w)
  where
    current : (c : IsCurrent (slice_get r.world.locals) r.seats r.history p) → IsFresh c.local.activity ⊎ IsPublished c.local.activity ⊎ (IsPutting c.local.activity → ⊥) → word z r.world (name.Pend (attempt r.history p).row (attempt r.history p).seat) ≡ pend_word (pend.Pending (attempt r.history p).cell)
    current c b = by b
      where
        own : OwnsAttempt (word z r.world) r.history (attempt r.history p).seat c.local.activity c.local (r.seats (attempt r.history p).seat)
        own = i.puts.owns (attempt r.history p).seat c.local c.knows c.putting

        row : c.local.row ≡ (attempt r.history p).row
        row = sym own.row ∙ ap (λ q. (attempt r.history q).row) c.own

        by : IsFresh c.local.activity ⊎ IsPublished c.local.activity ⊎ (IsPutting c.local.activity → ⊥) → word z r.world (name.Pend (attempt r.history p).row (attempt r.history p).seat) ≡ pend_word (pend.Pending (attempt r.history p).cell)
        by (inl y) = true_false a (sym (ap (λ q. (attempt r.history q).is_announced) c.own) ∙ own.unannounced y)
        by (inr (inl y)) = subst (λ q. word z r.world (name.Pend q (attempt r.history p).seat) ≡ pend_word (pend.Pending (attempt r.history p).cell)) row (own.entry y ∙ rw c.own (entry_pending (attempt r.history p) k n))
        by (inr (inr d)) = absurd (d c.putting)

    over : ((attempt r.history p).is_lost ≡ true) ⊎ ((attempt r.history p).is_announced ≡ false) → word z r.world (name.Pend (attempt r.history p).row (attempt r.history p).seat) ≡ pend_word (pend.Pending (attempt r.history p).cell)
    over (inl y) = true_false y k
    over (inr y) = true_false a y

    which : IsCurrent (slice_get r.world.locals) r.seats r.history p ⊎ IsOld (word z r.world) r.ledger.rows r.history p ⊎ IsOver r.history p → word z r.world (name.Pend (attempt r.history p).row (attempt r.history p).seat) ≡ pend_word (pend.Pending (attempt r.history p).cell)
    which (inl c) = current c (fresh_published c.local.activity)
    which (inr (inl y)) = true_false y.stamped n
    which (inr (inr y)) = over y.over

module _ (z : Sizes) (r r' : Run) (s : ℕ) (choice : Choice) (l : Local) (a : Activity) (l' : Local) (h : Happens z r r' s choice l l' a) (i : Below z r) where
  -- an attempt whose entry is settled is stamped by no event
  pub stamped_was : Step r.history r'.history (log_entry z r a s choice l) → (p : ℕ) → p < length r.history.attempts → IsSettled (word z r.world) (slice_get r.world.locals) (attempt r.history p).row (attempt r.history p).seat →
      (attempt r'.history p).is_stamped ≡ true → (attempt r.history p).is_stamped ≡ true
  stamped_was st p w d x = which (st.attempts p (omega (arith, w, st.more_attempts)))
    where
      which : AttemptStep r.history r'.history p → (attempt r.history p).is_stamped ≡ true
      which (as_it_was v e) = sym (ap (λ q. q.is_stamped) e) ∙ x
      which (is_added b n e c m k u y t) = absurd (omega (arith, w, n))
      which (is_announced v n e) = sym (ap (λ q. q.is_stamped) e) ∙ x
      which (is_lost v n e) = sym (ap (λ q. q.is_stamped) e) ∙ x
      which (is_stamped version load v b n k c u t e put) = absurd (not_pending (word z r.world) (slice_get r.world.locals) (attempt r.history p).row (attempt r.history p).seat (attempt r.history p).cell d (announced_pending z r i p w b n k))

  -- so this is left of such a row
  pub leaves_cells : Step r.history r'.history (log_entry z r a s choice l) → (q : ℕ) → WasLinked r.ledger.rows q → IsFrozen (word z r.world) q → ((j : ℕ) → j < z.seats → IsSettled (word z r.world) (slice_get r.world.locals) q j) →
      LeavesCells z.cells (list_in (word z r.world) r.listed q) (list_in (word z r'.world) r'.listed q) r.history r'.history r.origin r'.origin q
  leaves_cells st q k f d = record {
    list = leaves z.cells _ _ (list_step z r r' s choice l a l' h i q k);
    grows = step_grows r.history r'.history (log_entry z r a s choice l) st;
    origin = λ c. frozen_same z r r' s choice l a l' h i q c k f;
    stamped = λ c p w o x. which p x (i.puts.places.owner q c p k w o);
  }
    where
      which : {c : ℕ} (p : ℕ) → (attempt r'.history p).is_stamped ≡ true → HasCell r.ledger.rows r.history q c p ⊎ IsCopyAt (word z r.world) r.ledger.rows r.history q c p → (attempt r.history p).is_stamped ≡ true
      which p x (inl y) = stamped_was st p y.within (subst (λ m. IsSettled (word z r.world) (slice_get r.world.locals) m (attempt r.history p).seat) (sym y.row) (d (attempt r.history p).seat (i.puts.placed p y.within).seat)) x
      which p x (inr y) = y.stamped
