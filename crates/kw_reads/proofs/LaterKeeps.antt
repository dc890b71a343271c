-- Every event leaves the rows that a walk names such that they were not gone when its call drew, or
-- began.
--
-- A row that nobody may name is freed in the end, and then it is neither in the list nor dead. So
-- this is said of rows that are linked after the event, or were: as are those that a seat names
-- then.
use Rattle.std.proofs.Common.{ℕ, ◌≡◌, ◌≢◌, inl, inr, ◌<◌, Some, arith, sym, ◌∙◌, ap, subst, length, slice_get}
use Rattle.kw_world.specs.declared.activity.Activity.{Activity}
use Rattle.kw_world.specs.declared.activity.walk.Walk.TheVariants as Walk
use Rattle.kw_world.specs.declared.event.Choice.{Choice}
use Rattle.kw_world.specs.declared.local.Local.{Local}
use Rattle.kw_world.specs.Sizes.{Sizes}
use Rattle.kw_world.specs.Step.{word}
use Rattle.kw_core.specs.Run.{Run}
use Rattle.kw_core.specs.Stages.{IsAtRow}
use Rattle.kw_core.specs.Words.{Words}
use Rattle.kw_core.proofs.Happens.{Happens, each_seat, knows_next, knows_other}
use Rattle.kw_rows.specs.Ledger.{Fate, Ledger}
use Rattle.kw_rows.specs.Rows.{WasLinked}
use Rattle.kw_shape.specs.Shape.{Walks}
use Rattle.kw_shape.proofs.NextCalls.{arrow_call}
use Rattle.kw_puts.specs.Below.{Below}
use Rattle.kw_reads.specs.Contents.{Contents, HasCandidate, HasRow, IsLater, IsSince, floor_of}
use Rattle.kw_reads.specs.Inv.{Inv}
use Rattle.kw_reads.proofs.Floors.{IsOnWay, floor_before, floor_other, floor_own, row_from}
use Rattle.kw_shape.proofs.LinkedRows.{BecomesNow, fresh_linked, linked_fate, linked_not_free}
use Rattle.kw_reads.proofs.Later.{at_row_has, candidate_has, later_by}
use Rattle.kw_reads.proofs.Relying.{rely}

-- it is enough to say so of a seat that has a row
pub later_if : (z : Sizes) (r : Run) (d : ℕ) (a : Activity) (l : Local) → (HasRow a → IsLater r.ledger.rows d a l) → IsLater r.ledger.rows d a l
later_if z r d a l f = record { row = λ x. (f x).row x; saw = λ x. (f (candidate_has a x)).saw x; next = λ x n e. (f (at_row_has a x)).next x n e }

-- a seat that has a row is on its way
row_way : (a : Activity) → HasRow a → IsOnWay a
row_way (Activity.Walk Walk.Start) x = tt
row_way (Activity.Walk Walk.First) x = tt
row_way _ x = x

-- the rows that a walk names are linked, or were
pub record AreLinked (g : Ledger) (a : Activity) (l : Local) : Type 0 where
  pub row : HasRow a → WasLinked g l.row
  pub saw : HasCandidate a → WasLinked g l.candidate
  pub next : IsAtRow a → (n : ℕ) → l.next ≡ Some n → WasLinked g n

-- they are, since the seat may name them
pub named_linked : (v : Words) (g : Ledger) (t : ℕ) (a : Activity) (l : Local) → Walks v g t a l → AreLinked g a l
named_linked v g t a l w = record { row = row a w; saw = saw a w; next = λ x n e. fresh_linked g t n ((w.at x).next n e).fresh }
  where
    row : (b : Activity) → Walks v g t b l → HasRow b → WasLinked g l.row
    row (Activity.Walk Walk.GuessedLeast) k x = fresh_linked g t l.row k.on
    row (Activity.Walk Walk.Next) k x = fresh_linked g t l.row k.on.0
    row (Activity.Walk Walk.NextLeast) k x = fresh_linked g t l.row k.on.0
    row _ k x = fresh_linked g t l.row (k.at x).fresh

    saw : (b : Activity) → Walks v g t b l → HasCandidate b → WasLinked g l.candidate
    saw (Activity.Walk Walk.NextLeast) k x = fresh_linked g t l.candidate k.on.2
    saw _ k x = absurd x

module _ {z : Sizes} {r r' : Run} {s : ℕ} {choice : Choice} {l l' : Local} where
  -- a row that was not gone before this position goes later, if the position has been
  pub since_lasts : (a : Activity) → Happens z r r' s choice l l' a → Inv z r → (d q : ℕ) → d < length r.history.log → WasLinked r'.ledger.rows q → IsSince r.ledger.rows d q → IsSince r'.ledger.rows d q
  since_lasts a h i d q o k w = which w (linked_fate a h i.shape q (linked w))
    where
      linked : IsSince r.ledger.rows d q → WasLinked r.ledger.rows q
      linked (inl x) = inl x
      linked (inr x) = inr x.0

      which : IsSince r.ledger.rows d q → BecomesNow r.ledger.rows r'.ledger.rows s (length r.history.log) q → IsSince r'.ledger.rows d q
      which (inl x) (inl e) = inl (ap (λ (f : Fate). f.status) e ∙ x)
      which (inr x) (inl e) = inr (ap (λ (f : Fate). f.status) e ∙ x.0, omega (arith, x.1, ap (λ (f : Fate). f.gone) e))
      which x (inr (inl g)) = inr (ap (λ (f : Fate). f.status) g.fate, omega (arith, o, ap (λ (f : Fate). f.gone) g.fate))
      which x (inr (inr n)) = linked_not_free r'.ledger.rows q k (ap (λ (f : Fate). f.status) n.fate)

  -- so do the rows that a seat names
  pub later_lasts : (a : Activity) → Happens z r r' s choice l l' a → Inv z r → (d : ℕ) (b : Activity) (k : Local) → d < length r.history.log → AreLinked r'.ledger.rows b k → IsLater r.ledger.rows d b k → IsLater r'.ledger.rows d b k
  later_lasts a h i d b k o y w = record { row = λ x. since_lasts a h i d k.row o (y.row x) (w.row x); saw = λ x. since_lasts a h i d k.candidate o (y.saw x) (w.saw x); next = λ x n e. since_lasts a h i d n o (y.next x n e) (w.next x n e) }

module _ (z : Sizes) (r r' : Run) (s : ℕ) (choice : Choice) (l : Local) (a : Activity) (l' : Local) (h : Happens z r r' s choice l l' a) (i : Inv z r) (after : Below z r') (c : Contents z r) where
  -- the acting seat
  later_own : IsLater r'.ledger.rows (floor_of r' s l') l'.activity l'
  later_own = later_if z r' _ l'.activity l' own
    where
      own : HasRow l'.activity → IsLater r'.ledger.rows (floor_of r' s l') l'.activity l'
      own x =
          let w = row_from z (word z r.world) s choice l a l' h.arrow x in
          let e = floor_own z r r' s choice l a l' h i w.1 w.2 l' (arrow_call z (word z r.world) s choice l a l' h.arrow w.1).0 in
          let before : IsLater r.ledger.rows (floor_of r s l) a l = subst (λ b. IsLater r.ledger.rows (floor_of r s l) b l) h.activity (c.later s l h.knows) in
          let walks : Walks (word z r.world) r.ledger.rows s a l = subst (λ b. Walks (word z r.world) r.ledger.rows s b l) h.activity (i.shape.walks s l h.knows) in
          subst (λ d. IsLater r'.ledger.rows d l'.activity l') (sym e)
          (later_lasts a h i (floor_of r s l) l'.activity l' (floor_before z r i s l h.knows (subst IsOnWay (sym h.activity) w.0)) (named_linked (word z r'.world) r'.ledger.rows s l'.activity l' (after.shape.walks s l' (knows_next h)))
          (later_by z (word z r.world) r.ledger.rows s choice l a l' (floor_of r s l) h.arrow i.shape.rows walks before))

  -- any seat
  pub later_keeps : (t : ℕ) (k : Local) → slice_get r'.world.locals t ≡ Some k → IsLater r'.ledger.rows (floor_of r' t k) k.activity k
  later_keeps = each_seat h (λ t k. IsLater r'.ledger.rows (floor_of r' t k) k.activity k) later_own (λ t k d g. later_if z r' _ k.activity k (other t k d g))
    where
      other : (t : ℕ) (k : Local) → t ≢ s → slice_get r.world.locals t ≡ Some k → HasRow k.activity → IsLater r'.ledger.rows (floor_of r' t k) k.activity k
      other t k d g x =
          let w = row_way k.activity x in
          subst (λ n. IsLater r'.ledger.rows n k.activity k) (sym (floor_other z r i t k g w r' (rely z r r' s choice l a l' h i t k d g)))
          (later_lasts a h i (floor_of r t k) k.activity k (floor_before z r i t k g w) (named_linked (word z r'.world) r'.ledger.rows t k.activity k (after.shape.walks t k (knows_other h t d ∙ g))) (c.later t k g))
