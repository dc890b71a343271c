-- Every event keeps what each reader knows of the puts that were stamped before it looked at its
-- row.
use Rattle.std.proofs.Common.{ℕ, zero, suc, ◌≡◌, ◌≢◌, ◌⊎◌, inl, inr, ◌≤◌, Some, arith, refl, sym, ◌∙◌, ap, subst, length, slice_get}
use Rattle.kw_world.specs.declared.activity.Activity.{Activity}
use Rattle.kw_world.specs.declared.activity.look.Look.TheVariants as Look
use Rattle.kw_world.specs.declared.activity.read.Read.TheVariants as Read
use Rattle.kw_world.specs.declared.event.Choice.{Choice}
use Rattle.kw_world.specs.declared.local.Local.{Local}
use Rattle.kw_world.specs.Sizes.{Sizes}
use Rattle.kw_world.specs.Step.{word}
use Rattle.kw_core.specs.History.{History}
use Rattle.kw_core.specs.Run.{Origins, Run, seat_after}
use Rattle.kw_core.specs.Stages.{IsAtRow, IsReading, IsUnderway}
use Rattle.kw_core.specs.Words.{Words}
use Rattle.kw_core.specs.declared.seat_log.SeatLog.{SeatLog}
use Rattle.kw_core.proofs.Arrows.{Arrow, NextLeftOver, goes_to_left_over, answers, ends_scan, scans_on, builds, reads_last, reads_before, list_ends, key_above, left_over_gone_by, gathers_left_over, first_ends, asks_of_pin}
use Rattle.kw_core.proofs.Happens.{Happens, each_seat}
use Rattle.kw_core.proofs.SeatLogs.{IsNoDraw}
use Rattle.kw_shape.proofs.LinkedRows.{fresh_linked}
use Rattle.kw_puts.proofs.OwnScans.{looked_kept}
use Rattle.kw_reads.specs.Contents.{Contents, HasRow, IsFronted, floor_of, version_of}
use Rattle.kw_reads.specs.Inv.{Inv, lower}
use Rattle.kw_reads.proofs.Floors.{IsOnWay, floor_before, floor_other, floor_own, row_from}
use Rattle.kw_reads.proofs.Fronts.{first_look, fronted_lasts}
use Rattle.kw_reads.proofs.HistoryKeeps.{history_step}
use Rattle.kw_reads.proofs.Later.{after_rebalance}
use Rattle.kw_reads.proofs.BuiltReads.{rebalance_next}
use Rattle.kw_reads.proofs.Relying.{rely}
use Rattle.kw_puts.proofs.BuiltStages.{of_pin_is}

-- a reader is at its row
pub reading_row : (a : Activity) → IsReading a → HasRow a × IsAtRow a × IsOnWay a
reading_row (Activity.Look Look.Key) x = (tt, tt, tt)
reading_row (Activity.Look _) x = (tt, tt, tt)
reading_row (Activity.Read _) x = (tt, tt, tt)
reading_row _ x = absurd x

-- and its event neither begins nor ends a call, nor draws
reading_way : (a : Activity) → IsReading a → IsUnderway a × IsNoDraw a
reading_way (Activity.Look Look.Key) x = (tt, tt)
reading_way (Activity.Look _) x = (tt, tt)
reading_way (Activity.Read _) x = (tt, tt)
reading_way _ x = absurd x

-- a seat that reads has looked at its first entry now, or read before, and is at the row at which
-- it was
record FromReading (l : Local) (a : Activity) (k : Local) : Type 0 where
  at : (a ≡ Activity.Look (Look.Entry 0)) ⊎ IsReading a
  row : k.row ≡ l.row
  call : k.call ≡ l.call
  version : k.version ≡ l.version

-- a look is the first, or a later one
look_at : (j : ℕ) → ((Activity.Look (Look.Entry j)) ≡ Activity.Look (Look.Entry 0)) ⊎ (1 ≤ j)
look_at zero = inl refl
look_at (suc j) = inr (omega arith)

-- a reader that goes on to a remembered cell
left_over_from : (l m k : Local) (a : Activity) → IsReading a → m.row ≡ l.row → m.call ≡ l.call → m.version ≡ l.version → NextLeftOver m k → IsReading k.activity → FromReading l a k
left_over_from l m k a x row call version (goes_to_left_over n e) y = record { at = inr x; row = row; call = call; version = version }
left_over_from l m k a x row call version (answers e f) y = absurd y
left_over_from l m k a x row call version (ends_scan e f n) y = absurd y
left_over_from l m k a x row call version (scans_on q e f n o) y = absurd y

reading_from : (z : Sizes) (v : Words) (s : ℕ) (choice : Choice) (l : Local) (a : Activity) (k : Local) → Arrow z v s choice l a k → IsReading k.activity → FromReading l a k
reading_from z v s choice l (Activity.Rebalance b) k u x = after_rebalance k.activity (rebalance_next z v s choice l b k u) (reading_row k.activity x).0
reading_from z v s choice l a k (builds b next y t) x = absurd y
reading_from z v s choice l a k (asks_of_pin next o n) x = absurd (of_pin_is (λ b. IsReading b → ⊥) (λ y. y) (λ y. y) (λ y. y) (λ y. y) (λ y. y) (λ y. y) n x)
reading_from z v s choice l a k (reads_last f n) x = absurd (omega (arith, x))
reading_from z v s choice l a k (reads_before f w) x = absurd (omega (arith, x))
reading_from z v s choice l a k (first_ends next e n) x = left_over_from l _ next (Activity.Read Read.Start) tt refl refl refl n x
reading_from z v s choice l a k (list_ends next e n) x = left_over_from l _ next (Activity.Read Read.Link) tt refl refl refl n x
reading_from z v s choice l a k (key_above next e n) x = left_over_from l _ next (Activity.Read Read.Key) tt refl refl refl n x
reading_from z v s choice l a k (left_over_gone_by next e n) x = left_over_from l _ next (Activity.Read Read.LeftOverKey) tt refl refl refl n x
reading_from z v s choice l a k (gathers_left_over next n) x = left_over_from l _ next (Activity.Read Read.LeftOverValue) tt refl refl refl n x
reading_from z v s choice l (Activity.Look (Look.Entry j)) k b x = record { at = look_at j; row = refl; call = refl; version = refl }
reading_from z v s choice l (Activity.Look _) k b x = record { at = inr tt; row = refl; call = refl; version = refl }
reading_from z v s choice l (Activity.Read Read.Start) k b x = record { at = inr tt; row = refl; call = refl; version = refl }
reading_from z v s choice l (Activity.Read Read.Link) k b x = record { at = inr tt; row = refl; call = refl; version = refl }
reading_from z v s choice l (Activity.Read Read.Key) k b x = record { at = inr tt; row = refl; call = refl; version = refl }
reading_from z v s choice l (Activity.Read Read.Version) k b x = record { at = inr tt; row = refl; call = refl; version = refl }
reading_from z v s choice l (Activity.Read Read.Value) k b x = record { at = inr tt; row = refl; call = refl; version = refl }
reading_from z v s choice l (Activity.Read Read.LeftOverKey) k b x = record { at = inr tt; row = refl; call = refl; version = refl }
reading_from z v s choice l a k b x = absurd x

-- the first look is now
look_now : (z : Sizes) (choice : Choice) (l : Local) (found : ℕ) (next : Activity) (g : SeatLog) (o : Origins) (h : History) (settled : ℕ) (a : Activity) → a ≡ Activity.Look (Look.Entry 0) → (seat_after z a choice l found next g o h settled).looked ≡ length h.log
look_now z choice l found next g o h settled a e = subst (λ b. (seat_after z b choice l found next g o h settled).looked ≡ length h.log) (sym e) refl

-- a call reads at the version at which it read
pub version_same : (l m : Local) → m.call ≡ l.call → m.version ≡ l.version → version_of m ≡ version_of l
version_same l m c v = rw (c, v) refl

-- the same of a row of other names
pub fronted_as : (z : Sizes) (r : Run) (row row' version version' floor floor' looked looked' : ℕ) → row' ≡ row → version' ≡ version → floor' ≡ floor → looked' ≡ looked → IsFronted z r row version floor looked → IsFronted z r row' version' floor' looked'
fronted_as z r row row' version version' floor floor' looked looked' a b c d x = rw (a, b, c, d) x

module _ (z : Sizes) (r r' : Run) (s : ℕ) (choice : Choice) (l : Local) (a : Activity) (l' : Local) (h : Happens z r r' s choice l l' a) (i : Inv z r) (c : Contents z r) where
  -- what a seat knows of a row at which it is
  lasts : (t : ℕ) (k : Local) → slice_get r.world.locals t ≡ Some k → IsAtRow k.activity → IsOnWay k.activity → (looked : ℕ) → looked ≤ length r.history.log → IsFronted z r k.row (version_of k) (floor_of r t k) looked → IsFronted z r' k.row (version_of k) (floor_of r t k) looked
  lasts t k g x w looked o f = fronted_lasts a h i k.row (version_of k) (floor_of r t k) looked (fresh_linked r.ledger.rows t k.row ((i.shape.walks t k g).at x).fresh) (omega (arith, floor_before z r i t k g w)) o f

  -- what the acting reader knew of its row, whatever it is at now
  pub front_after : IsReading a → (m : Local) → m.row ≡ l.row → m.call ≡ l.call → m.version ≡ l.version → IsFronted z r' m.row (version_of m) (floor_of r' s m) (r'.seats s).looked
  front_after x m row call version =
      let y = subst IsReading (sym h.activity) x in
      let w = reading_row l.activity y in
      let u = reading_way a x in
      fronted_as z r' l.row m.row _ _ _ _ _ _ row (version_same l m call version) (floor_own z r r' s choice l a l' h i u.0 u.1 m call) (looked_kept z r r' s choice l a l' h.arrow h (lower i) (history_step z r r' s choice l a l' h i) x)
      (lasts s l h.knows w.1 w.2 (r.seats s).looked (i.positions.looks s) (c.front s l h.knows y))

  -- the acting seat
  front_own : IsReading l'.activity → IsFronted z r' l'.row (version_of l') (floor_of r' s l') (r'.seats s).looked
  front_own x = which y.at
    where
      y : FromReading l a l'
      y = reading_from z (word z r.world) s choice l a l' h.arrow x

      first : a ≡ Activity.Look (Look.Entry 0) → IsFronted z r' l'.row (version_of l') (floor_of r' s l') (r'.seats s).looked
      first e =
          let u = row_from z (word z r.world) s choice l a l' h.arrow (reading_row l'.activity x).0 in
          fronted_as z r' l.row l'.row _ _ _ _ _ _ y.row (version_same l l' y.call y.version) (floor_own z r r' s choice l a l' h i u.1 u.2 l' y.call) (ap (λ (g : SeatLog). g.looked) h.log ∙ look_now z choice l _ l'.activity (r.seats s) r.origin r.history (r.settled s) a e)
          (lasts s l h.knows (subst IsAtRow (sym (h.activity ∙ e)) tt) (subst IsOnWay (sym (h.activity ∙ e)) tt) (length r.history.log) (omega arith) (first_look z r i c s l h.knows (h.activity ∙ e)))

      which : (a ≡ Activity.Look (Look.Entry 0)) ⊎ IsReading a → IsFronted z r' l'.row (version_of l') (floor_of r' s l') (r'.seats s).looked
      which (inl e) = first e
      which (inr u) = front_after u l' y.row y.call y.version

  -- any seat
  pub front_keeps : (t : ℕ) (k : Local) → slice_get r'.world.locals t ≡ Some k → IsReading k.activity → IsFronted z r' k.row (version_of k) (floor_of r' t k) (r'.seats t).looked
  front_keeps = each_seat h (λ t k. IsReading k.activity → IsFronted z r' k.row (version_of k) (floor_of r' t k) (r'.seats t).looked) front_own other
    where
      other : (t : ℕ) (k : Local) → t ≢ s → slice_get r.world.locals t ≡ Some k → IsReading k.activity → IsFronted z r' k.row (version_of k) (floor_of r' t k) (r'.seats t).looked
      other t k d g x =
          let w = reading_row k.activity x in
          let y = rely z r r' s choice l a l' h i t k d g in
          fronted_as z r' k.row k.row _ _ _ _ _ _ refl refl (floor_other z r i t k g w.2 r' y) (ap (λ (q : SeatLog). q.looked) y.log)
          (lasts t k g w.1 w.2 (r.seats t).looked (i.positions.looks t) (c.front t k g x))
