-- A walk that began in this window names rows of the list alone, by induction over the events.
--
-- As long as a window lasts no row goes from the list. So a seat whose walk began in this window
-- knows of its rows what a seat knows that is in no visit, and may name rows of the list alone; and
-- its walk goes on as every walk does, by the law for any record of visits (`walks_by`).
use Rattle.std.proofs.Common.{ℕ, ◌≡◌, ◌≢◌, ◌⊎◌, inl, inr, ◌+◌, ◌≤◌, None, Some, arith, refl, sym, ◌∙◌, ap, subst, slice_get, length}
use Rattle.std.proofs.lemmas.Bool.{cases_eq}
use Rattle.kw_rows.specs.Ledger.{Ledger, IsFresh, IsLive}
use Rattle.kw_world.specs.declared.activity.Activity.{Activity}
use Rattle.kw_world.specs.declared.activity.put.Put.TheVariants as Put
use Rattle.kw_world.specs.declared.activity.walk.Walk.TheVariants as Walk
use Rattle.kw_world.specs.declared.activity.rebalance.Rebalance.TheVariants as Rebalance
use Rattle.kw_world.specs.declared.activity.rebalance.left.Left.TheVariants as Left
use Rattle.kw_world.specs.declared.activity.rebalance.replace.Replace.TheVariants as Replace
use Rattle.kw_world.specs.declared.event.Choice.{Choice}
use Rattle.kw_world.specs.declared.local.Local.{Local}
use Rattle.kw_world.specs.declared.opening.Opening.{Opening}
use Rattle.kw_world.specs.Opening.{opened}
use Rattle.kw_world.specs.Sizes.{Sizes}
use Rattle.kw_world.specs.Step.{word}
use Rattle.kw_core.specs.Ledger.{ledger_at_first, with_visit}
use Rattle.kw_core.specs.Run.{Run, start}
use Rattle.kw_core.specs.Words.{Words}
use Rattle.kw_core.proofs.Happens.{Happens, each_seat, found_at}
use Rattle.kw_shape.specs.RowsIn.{rows_in}
use Rattle.kw_shape.specs.Shape.{Shape, Walks}
use Rattle.kw_shape.proofs.LinkedRows.{StaysLinked, linked_keeps}
use Rattle.kw_shape.proofs.RelyRows.{RelyRows, walks_stable}
use Rattle.kw_shape.proofs.ShapeOpens.{each_rests}
use Rattle.kw_shape.proofs.Walking.{walks_by}
use Rattle.kw_reads.specs.Contents.{HasCandidate, HasRow}
use Rattle.kw_counts.specs.Counts.{Counts, counts_after, no_counts, walks_after, wins_after}
use Rattle.kw_counts.proofs.BeforeSteps.{IsBeginning}
use Rattle.kw_counts.proofs.LiveRows.{lives_or_wins, unvisited, unvisited_live}
use Rattle.kw_counts.proofs.Updates.{at_left, at_set}

-- What is kept.

-- a seat whose walk began in this window knows of it what one knows that is in no visit
pub record Walked (z : Sizes) (r : Run) (c : Counts) : Type 0 where
  pub begun : (t : ℕ) → c.walks t ≤ c.wins
  pub clean : (t : ℕ) (k : Local) → slice_get r.world.locals t ≡ Some k → c.walks t ≡ c.wins → Walks (word z r.world) (with_visit r.ledger.rows t None) t k.activity k

-- Where walks begin.

-- a seat begins a walk, or does not
pub is_beginning : (a : Activity) → IsBeginning a ⊎ (IsBeginning a → ⊥)
is_beginning (Activity.Walk Walk.Start) = inl tt
is_beginning (Activity.Walk Walk.First) = inl tt
is_beginning (Activity.Rebalance (Rebalance.Left Left.Start)) = inl tt
is_beginning (Activity.Rebalance (Rebalance.Replace Replace.Start)) = inl tt
is_beginning (Activity.Rebalance (Rebalance.Replace Replace.First)) = inl tt
is_beginning _ = inr (λ x. x)

-- where it does, it names no row yet
names_none : (v : Words) (g g' : Ledger) (t : ℕ) (a : Activity) (l : Local) → IsBeginning a → Walks v g t a l → Walks v g' t a l
names_none v g g' t (Activity.Walk Walk.Start) l x w = record { on = tt; lower = λ u. absurd u; built = λ u. absurd u; at = λ u. absurd u; begins = w.begins; wants = λ u. absurd u }
names_none v g g' t (Activity.Walk Walk.First) l x w = record { on = tt; lower = λ u. absurd u; built = λ u. absurd u; at = λ u. absurd u; begins = w.begins; wants = λ u. absurd u }
names_none v g g' t (Activity.Rebalance (Rebalance.Left Left.Start)) l x w = record { on = tt; lower = λ u. absurd u; built = λ u. absurd u; at = λ u. absurd u; begins = w.begins; wants = λ u. absurd u }
names_none v g g' t (Activity.Rebalance (Rebalance.Replace Replace.Start)) l x w = record { on = tt; lower = λ u. absurd u; built = λ u. absurd u; at = λ u. absurd u; begins = w.begins; wants = λ u. absurd u }
names_none v g g' t (Activity.Rebalance (Rebalance.Replace Replace.First)) l x w = record { on = tt; lower = λ u. absurd u; built = λ u. absurd u; at = λ u. absurd u; begins = w.begins; wants = λ u. absurd u }
names_none v g g' t _ l x w = absurd x

-- a seat that begins none is on the walk that it was on, and so is each that does not act
pub walks_left : (a : Activity) (s wins : ℕ) (f : ℕ → ℕ) (t : ℕ) → (IsBeginning a → ⊥) → walks_after a s wins f t ≡ f t
walks_left (Activity.Walk Walk.Start) s wins f t n = absurd (n tt)
walks_left (Activity.Walk Walk.First) s wins f t n = absurd (n tt)
walks_left (Activity.Rebalance (Rebalance.Left Left.Start)) s wins f t n = absurd (n tt)
walks_left (Activity.Rebalance (Rebalance.Replace Replace.Start)) s wins f t n = absurd (n tt)
walks_left (Activity.Rebalance (Rebalance.Replace Replace.First)) s wins f t n = absurd (n tt)
walks_left _ s wins f t n = refl

pub walks_other : (a : Activity) (s wins : ℕ) (f : ℕ → ℕ) (t : ℕ) → t ≢ s → walks_after a s wins f t ≡ f t
walks_other (Activity.Walk Walk.Start) s wins f t d = at_left f s wins t d
walks_other (Activity.Walk Walk.First) s wins f t d = at_left f s wins t d
walks_other (Activity.Rebalance (Rebalance.Left Left.Start)) s wins f t d = at_left f s wins t d
walks_other (Activity.Rebalance (Rebalance.Replace Replace.Start)) s wins f t d = at_left f s wins t d
walks_other (Activity.Rebalance (Rebalance.Replace Replace.First)) s wins f t d = at_left f s wins t d
walks_other _ s wins f t d = refl

-- and one that begins a walk does so in this window
pub walks_now : (a : Activity) (s wins : ℕ) (f : ℕ → ℕ) → IsBeginning a → walks_after a s wins f s ≡ wins
walks_now (Activity.Walk Walk.Start) s wins f x = at_set f s wins s refl
walks_now (Activity.Walk Walk.First) s wins f x = at_set f s wins s refl
walks_now (Activity.Rebalance (Rebalance.Left Left.Start)) s wins f x = at_set f s wins s refl
walks_now (Activity.Rebalance (Rebalance.Replace Replace.Start)) s wins f x = at_set f s wins s refl
walks_now (Activity.Rebalance (Rebalance.Replace Replace.First)) s wins f x = at_set f s wins s refl
walks_now _ s wins f x = absurd x

pub walks_most : (a : Activity) (s wins : ℕ) (f : ℕ → ℕ) → ((t : ℕ) → f t ≤ wins) → (t : ℕ) → walks_after a s wins f t ≤ wins
walks_most a s wins f most t = which (cases_eq t s) (is_beginning a)
  where
    which : (t ≡ s) ⊎ (t ≡ s → ⊥) → IsBeginning a ⊎ (IsBeginning a → ⊥) → walks_after a s wins f t ≤ wins
    which (inr d) b = omega (arith, walks_other a s wins f t d, most t)
    which (inl e) (inl x) = omega (arith, ap (walks_after a s wins f) e, walks_now a s wins f x)
    which (inl e) (inr n) = omega (arith, walks_left a s wins f t n, most t)

-- One event.

module _ (z : Sizes) (r r' : Run) (s : ℕ) (choice : Choice) (l l' : Local) (a : Activity) (h : Happens z r r' s choice l l' a) (i : Shape z r) (c : Counts) (x : Walked z r c) where
  -- in a window that lasts a seat that is in no visit knows of its walk what it knew
  stays_clean : ((q : ℕ) → IsLive r.ledger.rows q → IsLive r'.ledger.rows q) → (t : ℕ) (k : Local) → Walks (word z r.world) (with_visit r.ledger.rows t None) t k.activity k → Walks (word z r'.world) (with_visit r'.ledger.rows t None) t k.activity k
  stays_clean on t k w = walks_stable (word z r.world) (word z r'.world) (with_visit r.ledger.rows t None) (with_visit r'.ledger.rows t None) t rely k.activity k w
    where
      stays : (q : ℕ) → IsFresh (with_visit r.ledger.rows t None) t q → StaysLinked (word z r.world) (word z r'.world) r.ledger.rows r'.ledger.rows q
      stays q f = linked_keeps a h i q (inl (unvisited_live r.ledger.rows t q f))

      rely : RelyRows (word z r.world) (word z r'.world) (with_visit r.ledger.rows t None) (with_visit r'.ledger.rows t None) t
      rely = record {
        fresh = λ q f. inl (on q (unvisited_live r.ledger.rows t q f));
        taken = λ q f. (stays q f).taken;
        born = λ q f. (stays q f).born;
        upper = λ q f. (stays q f).upper;
        least = λ q f. (stays q f).least;
        built = λ q f. (stays q f).built;
      }

  -- the acting seat, by its arrow
  own_clean : walks_after a s c.wins c.walks s ≡ c.wins → Walks (word z r.world) (with_visit r.ledger.rows s None) s l'.activity l'
  own_clean e = walks_by z (word z r.world) (with_visit r.ledger.rows s None) s choice l a l' h.arrow (unvisited (rows_in (word z r.world)) r.ledger.rows (length r.history.log) s i.rows) (which (is_beginning a))
    where
      which : IsBeginning a ⊎ (IsBeginning a → ⊥) → Walks (word z r.world) (with_visit r.ledger.rows s None) s a l
      which (inl b) = names_none (word z r.world) r.ledger.rows (with_visit r.ledger.rows s None) s a l b (subst (λ y. Walks (word z r.world) r.ledger.rows s y l) h.activity (i.walks s l h.knows))
      which (inr n) = subst (λ y. Walks (word z r.world) (with_visit r.ledger.rows s None) s y l) h.activity (x.clean s l h.knows (sym (walks_left a s c.wins c.walks s n) ∙ e))

  clean_keeps : (t : ℕ) (k : Local) → slice_get r'.world.locals t ≡ Some k → walks_after a s c.wins c.walks t ≡ wins_after a l (found_at z (word z r.world) a s choice l) c.wins → Walks (word z r'.world) (with_visit r'.ledger.rows t None) t k.activity k
  clean_keeps = each_seat h (λ t k. walks_after a s c.wins c.walks t ≡ wins_after a l (found_at z (word z r.world) a s choice l) c.wins → Walks (word z r'.world) (with_visit r'.ledger.rows t None) t k.activity k) own others
    where
      -- a walk does not begin in the window that the event begins
      not_next : {A : Type 0} (t : ℕ) → wins_after a l (found_at z (word z r.world) a s choice l) c.wins ≡ c.wins + 1 → walks_after a s c.wins c.walks t ≡ wins_after a l (found_at z (word z r.world) a s choice l) c.wins → A
      not_next t w e = absurd (omega (arith, w, e, walks_most a s c.wins c.walks x.begun t))

      own : walks_after a s c.wins c.walks s ≡ wins_after a l (found_at z (word z r.world) a s choice l) c.wins → Walks (word z r'.world) (with_visit r'.ledger.rows s None) s l'.activity l'
      own e = which (lives_or_wins a h i c.wins)
        where
          which : ((a ≡ Activity.Rebalance (Rebalance.Replace Replace.Exchange)) × (wins_after a l (found_at z (word z r.world) a s choice l) c.wins ≡ c.wins + 1)) ⊎ ((wins_after a l (found_at z (word z r.world) a s choice l) c.wins ≡ c.wins) × ((q : ℕ) → IsLive r.ledger.rows q → IsLive r'.ledger.rows q)) → Walks (word z r'.world) (with_visit r'.ledger.rows s None) s l'.activity l'
          which (inl w) = not_next s w.1 e
          which (inr w) = stays_clean w.1 s l' (own_clean (e ∙ w.0))

      others : (t : ℕ) (k : Local) → t ≢ s → slice_get r.world.locals t ≡ Some k → walks_after a s c.wins c.walks t ≡ wins_after a l (found_at z (word z r.world) a s choice l) c.wins → Walks (word z r'.world) (with_visit r'.ledger.rows t None) t k.activity k
      others t k d g e = which (lives_or_wins a h i c.wins)
        where
          which : ((a ≡ Activity.Rebalance (Rebalance.Replace Replace.Exchange)) × (wins_after a l (found_at z (word z r.world) a s choice l) c.wins ≡ c.wins + 1)) ⊎ ((wins_after a l (found_at z (word z r.world) a s choice l) c.wins ≡ c.wins) × ((q : ℕ) → IsLive r.ledger.rows q → IsLive r'.ledger.rows q)) → Walks (word z r'.world) (with_visit r'.ledger.rows t None) t k.activity k
          which (inl w) = not_next t w.1 e
          which (inr w) = stays_clean w.1 t k (x.clean t k g (sym (walks_other a s c.wins c.walks t d) ∙ e ∙ w.0))

  begun_keeps : (t : ℕ) → walks_after a s c.wins c.walks t ≤ wins_after a l (found_at z (word z r.world) a s choice l) c.wins
  begun_keeps t = which (lives_or_wins a h i c.wins)
    where
      which : ((a ≡ Activity.Rebalance (Rebalance.Replace Replace.Exchange)) × (wins_after a l (found_at z (word z r.world) a s choice l) c.wins ≡ c.wins + 1)) ⊎ ((wins_after a l (found_at z (word z r.world) a s choice l) c.wins ≡ c.wins) × ((q : ℕ) → IsLive r.ledger.rows q → IsLive r'.ledger.rows q)) → walks_after a s c.wins c.walks t ≤ wins_after a l (found_at z (word z r.world) a s choice l) c.wins
      which (inl w) = omega (arith, w.1, walks_most a s c.wins c.walks x.begun t)
      which (inr w) = omega (arith, w.0, walks_most a s c.wins c.walks x.begun t)

  pub walked_keeps : Walked z r' (counts_after a s l (found_at z (word z r.world) a s choice l) r.ledger.rows c)
  walked_keeps = record { begun = begun_keeps; clean = clean_keeps }

-- Where a run begins no seat is on a walk.
pub walked_start : (z : Sizes) (o : Opening) → Walked z (start z o) no_counts
walked_start z o = record {
  begun = λ t. omega arith;
  clean = each_rests z o (λ t k. 0 ≡ 0 → Walks (word z (opened z o)) (with_visit (ledger_at_first o).rows t None) t k.activity k) (λ t e. record { on = tt; lower = λ u. absurd u; built = λ u. absurd u; at = λ u. absurd u; begins = λ u. absurd u; wants = λ u. absurd u });
}

-- What is named.

-- the row at which the walk is, or has ended
pub row_named : (v : Words) (g : Ledger) (t : ℕ) (a : Activity) (l : Local) → Walks v g t a l → HasRow a → IsFresh g t l.row
row_named v g t (Activity.Walk Walk.GuessedLeast) l w x = w.on
row_named v g t (Activity.Walk Walk.Next) l w x = w.on.0
row_named v g t (Activity.Walk Walk.NextLeast) l w x = w.on.0
row_named v g t (Activity.Put Put.Count) l w x = (w.at x).fresh
row_named v g t _ l w x = (w.at x).fresh

-- the one that it has reached
pub candidate_named : (v : Words) (g : Ledger) (t : ℕ) (a : Activity) (l : Local) → Walks v g t a l → HasCandidate a → IsFresh g t l.candidate
candidate_named v g t (Activity.Walk Walk.NextLeast) l w x = w.on.2
candidate_named v g t _ l w x = absurd x
