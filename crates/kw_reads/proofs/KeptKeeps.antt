-- Every event keeps that rows have kept what is needed of the stamped puts: a stamp, since what was
-- stamped of its key elsewhere stands before it; the replacing of the rows of a group, since the
-- new rows were built of them; and any other event, since no row has gained a key, nor lost a cell.
use Rattle.std.proofs.Common.{ℕ, ◌≡◌, ◌⊎◌, inl, inr, ◌<◌, ◌≤◌, Contains, Some, arith, sym, ◌∙◌, ap, subst, length, slice_get}
use Rattle.std.proofs.lemmas.Bool.{cases_lt}
use Rattle.kw_words.specs.declared.layout.Name.TheVariants as name
use Rattle.kw_rows.specs.Ledger.{Dead, Fate, Free, IsLive, Live}
use Rattle.kw_rows.specs.Rows.{WasLinked}
use Rattle.kw_rows.proofs.Named.{one_row}
use Rattle.kw_world.specs.declared.activity.Activity.{Activity}
use Rattle.kw_world.specs.declared.activity.rebalance.Rebalance.TheVariants as Rebalance
use Rattle.kw_world.specs.declared.activity.rebalance.replace.Replace.TheVariants as Replace
use Rattle.kw_world.specs.declared.event.Choice.{Choice}
use Rattle.kw_world.specs.declared.local.Local.{Local}
use Rattle.kw_world.specs.Sizes.{Sizes}
use Rattle.kw_world.specs.Step.{word}
use Rattle.kw_core.specs.History.{LoadClock, attempt}
use Rattle.kw_core.specs.HistoryLaws.{IsPut}
use Rattle.kw_core.specs.Run.{Run}
use Rattle.kw_core.specs.Step.{Step}
use Rattle.kw_core.proofs.Attempts.{in_range}
use Rattle.kw_core.proofs.Happens.{Happens, log_entry}
use Rattle.kw_shape.proofs.InfantsRely.{index_of_row}
use Rattle.kw_shape.specs.Hands.{IsAllFrozen, IsOfGroup}
use Rattle.kw_shape.specs.RowsIn.{rows_in}
use Rattle.kw_shape.specs.Shape.{HoldsKey}
use Rattle.kw_kept.specs.Kept.{Kept, Stamps}
use Rattle.kw_kept.specs.Puts.{Put, Shows, StandsBefore}
use Rattle.kw_kept.proofs.FrontStays.{shows_of_same}
use Rattle.kw_kept.proofs.NeededLists.{all_covered}
use Rattle.kw_kept.proofs.RebuildKept.{rebuild_shown}
use Rattle.kw_kept.proofs.Shown.{shows_still}
use Rattle.kw_kept.proofs.StampKept.{stamp_kept}
use Rattle.kw_puts.specs.Below.{Below}
use Rattle.kw_puts.proofs.Rely.{SameAttempt}
use Rattle.kw_puts.proofs.RelyProof.{goes_on_by}
use Rattle.kw_reads.specs.Contents.{Contents, InRow, IsHolding, IsOlder, Needed, Needs, Through, has_drawn, is_held, is_helped, ThroughPin, puts_of, rows_of}
use Rattle.kw_shape.proofs.LinkedRows.{ComesNow, FreesNow, GoesNow, linked_before, linked_fate, linked_keeps, rows_live}
use Rattle.kw_reads.proofs.NewRows.{held_by_group}
use Rattle.kw_reads.proofs.Rebuilt.{is_rebuilt}
use Rattle.kw_reads.proofs.RowCells.{in_row_stays, in_row_was, is_put_stays, its_row_live, stamped_in_row}
use Rattle.kw_reads.proofs.ScanMoves.{needed_before}
use Rattle.kw_reads.proofs.Stamping.{StampsNow, StampStep, put_stays, stamps_none, stamps_one, stamp_step}

-- Rows that were in the list.

module _ {z : Sizes} {r r' : Run} {s : ℕ} {choice : Choice} {l l' : Local} (a : Activity) (h : Happens z r r' s choice l l' a) (i : Below z r) where
  -- a key that a row holds that was linked before, it held
  pub held_was : (q k : ℕ) → WasLinked r.ledger.rows q → HoldsKey (word z r'.world) r'.ledger.rows q k → HoldsKey (word z r.world) r.ledger.rows q k
  held_was q k w x = let y = linked_keeps a h i.shape q w in record { from = omega (arith, x.from, y.least); below = λ u e. x.below u (y.upper ∙ e) }

  -- and the other way round
  pub held_stays : (q k : ℕ) → WasLinked r.ledger.rows q → HoldsKey (word z r.world) r.ledger.rows q k → HoldsKey (word z r'.world) r'.ledger.rows q k
  held_stays q k w x = let y = linked_keeps a h i.shape q w in record { from = omega (arith, x.from, y.least); below = λ u e. x.below u (sym y.upper ∙ e) }

  -- a row that is in the list, and was linked before, was in the list
  pub live_was : (q : ℕ) → WasLinked r.ledger.rows q → IsLive r'.ledger.rows q → IsLive r.ledger.rows q
  live_was q w x = which (linked_fate a h i.shape q w)
    where
      which : (r'.ledger.rows.fates q ≡ r.ledger.rows.fates q) ⊎ GoesNow r.ledger.rows r'.ledger.rows s (length r.history.log) q ⊎ FreesNow r.ledger.rows r'.ledger.rows q → IsLive r.ledger.rows q
      which (inl e) = sym (ap (λ (f : Fate). f.status) e) ∙ x
      which (inr (inl y)) = let t : Live ≡ Dead = sym x ∙ ap (λ (f : Fate). f.status) y.fate in absurd (cc)
      which (inr (inr y)) = let t : Live ≡ Free = sym x ∙ ap (λ (f : Fate). f.status) y.fate in absurd (cc)

  -- a row of the list that holds a key did so, or is linked now
  holding_was : (q k : ℕ) → IsHolding z r' q k → IsHolding z r q k ⊎ ComesNow (word z r.world) r.ledger.rows r'.ledger.rows s (length r.history.log) l a q
  holding_was q k x = which (linked_before a h i.shape q (inl x.live))
    where
      which : WasLinked r.ledger.rows q ⊎ ComesNow (word z r.world) r.ledger.rows r'.ledger.rows s (length r.history.log) l a q → IsHolding z r q k ⊎ ComesNow (word z r.world) r.ledger.rows r'.ledger.rows s (length r.history.log) l a q
      which (inl w) = inl (record { live = live_was q w x.live; holds = held_was q k w x.holds })
      which (inr y) = inr y

-- A row that is linked now.

-- what is needed is listed, or at least all versions of the group
need_covered : (z : Sizes) (r : Run) (l : Local) (n : Needs z r (Activity.Rebalance (Rebalance.Replace Replace.Exchange)) l) (u : ℕ) → Needed z r u → Contains l.rebalance.needed u ⊎ (n.most ≤ u)
need_covered z r l n u m = all_covered (word z r.world name.Clock) (Through z r) (ThroughPin z r) (λ j. j < z.seats) (λ j. (j < z.seats) × (j < z.seats)) (Contains l.rebalance.needed) n.most u n.reached within (λ j v t. (t.0, t.0)) n.covered n.pinned m
  where
    within : (j v : ℕ) → Through z r j v → j < z.seats
    within j v (has_drawn o w) = o
    within j v (is_held k o g e f w) = o
    within j v (is_helped t k o g e f w) = o

-- so the row shows what all stamped puts show
rebuilt_shows : (z : Sizes) (r r' : Run) (s : ℕ) (choice : Choice) (l l' : Local) → (h : Happens z r r' s choice l l' (Activity.Rebalance (Rebalance.Replace Replace.Exchange))) → Below z r → Step r.history r'.history (log_entry z r (Activity.Rebalance (Rebalance.Replace Replace.Exchange)) s choice l) → Contents z r → (q k u : ℕ) →
    ComesNow (word z r.world) r.ledger.rows r'.ledger.rows s (length r.history.log) l (Activity.Rebalance (Rebalance.Replace Replace.Exchange)) q → HoldsKey (word z r'.world) r'.ledger.rows q k → Needed z r u → Shows (puts_of r.history) (InRow z r' q) (IsPut r.history) k u
rebuilt_shows z r r' s choice l l' h i st c q k u y x m =
    rebuild_shown (puts_of r.history) (InRow z r old.0) (InRow z r' q) (IsPut r.history) (Contains l.rebalance.needed) k u needs.most needs.most (is_rebuilt h i st q y k x old.0 old.1 old.2 needs) (omega arith) (need_covered z r l needs u m)
    (c.kept old.0 k u (record { live = rows_live h i.shape y.won old.0 old.1; holds = old.2 }) m)
  where
    place : (n : ℕ) × (slice_get l.rebalance.taken n ≡ Some q)
    place = index_of_row l.rebalance.taken q y.taken

    old : (g : ℕ) × IsOfGroup l g × HoldsKey (word z r.world) r.ledger.rows g k
    old = held_by_group h i.shape place.0 q place.1 k y.fate x

    needs : Needs z r (Activity.Rebalance (Rebalance.Replace Replace.Exchange)) l
    needs = subst (λ b. Needs z r b l) h.activity (c.needs s l h.knows (subst IsAllFrozen (sym h.activity) tt))

-- Over an event.

module _ (z : Sizes) (r r' : Run) (s : ℕ) (choice : Choice) (l : Local) (a : Activity) (l' : Local) (h : Happens z r r' s choice l l' a) (i : Below z r) (st : Step r.history r'.history (log_entry z r a s choice l)) where
  -- a stamped put is what it was
  pub same_put : (p : ℕ) → IsPut r.history p → puts_of r'.history p ≡ puts_of r.history p
  same_put = put_stays r.history r'.history r.origin r'.origin r.ledger.rows (goes_on_by z r r' s choice l a l' h i st)

  -- sets of the same stamped puts show the same
  pub shows_stay : (P P' Q Q' : ℕ → Type 0) (k u : ℕ) → ((p : ℕ) → P p → IsPut r.history p) → ((p : ℕ) → Q p → IsPut r.history p) → ((p : ℕ) → P' p → P p) → ((p : ℕ) → P p → P' p) → ((p : ℕ) → Q' p → Q p) → ((p : ℕ) → Q p → Q' p) →
      Shows (puts_of r.history) P Q k u → Shows (puts_of r'.history) P' Q' k u
  shows_stay P P' Q Q' k u f g x y v w m = shows_of_same (puts_of r'.history) P P' Q Q' k u x y v w (shows_still (puts_of r.history) (puts_of r'.history) (IsPut r.history) same_put P Q k u f g m)

  -- the row of what is stamped now holds its key
  pub own_holds : (o : ℕ) → StampsNow z r r' a o → HoldsKey (word z r.world) r.ledger.rows (attempt r.history o).row (attempt r'.history o).key
  own_holds o x = subst (HoldsKey (word z r.world) r.ledger.rows (attempt r.history o).row) (sym ((goes_on_by z r r' s choice l a l' h i st).attempts o x.within).key) (i.puts.given o x.within x.here).holds

  module _ (c : Contents z r) where
    -- A stamp.

    -- what was stamped of the key of the one that is stamped now has a cell in its row, or stands
    -- before it
    stands_before : (o p : ℕ) → StampsNow z r r' a o → IsPut r.history p → (attempt r'.history p).key ≡ (attempt r'.history o).key → InRow z r (attempt r.history o).row p ⊎ StandsBefore (puts_of r'.history) p o
    stands_before o p x m e = which (c.older (attempt r.history o).row p m (inl live) holds)
      where
        live : IsLive r.ledger.rows (attempt r.history o).row
        live = its_row_live i x

        was : SameAttempt r.history r'.history o
        was = (goes_on_by z r r' s choice l a l' h i st).attempts o x.within

        same : (attempt r'.history p).version ≡ (attempt r.history p).version
        same = ap (λ (y : Put). y.version) (same_put p m)

        holds : HoldsKey (word z r.world) r.ledger.rows (attempt r.history o).row (attempt r.history p).key
        holds = subst (HoldsKey (word z r.world) r.ledger.rows (attempt r.history o).row) (sym was.key ∙ sym e ∙ ap (λ (y : Put). y.key) (same_put p m)) (i.puts.given o x.within x.here).holds

        older : IsOlder r (attempt r.history o).row p → StandsBefore (puts_of r'.history) p o
        older y = by_version (cases_lt (attempt r'.history p).version (attempt r'.history o).version)
          where
            least : (r.ledger.rows.fates (attempt r.history o).row).clock ≤ (attempt r'.history o).version
            least = c.borns.after (attempt r.history o).row x.load (attempt r'.history o).version LoadClock (inl live) x.loaded (omega (arith, x.here.born, x.after))

            added : (attempt r'.history p).add < (attempt r'.history o).add
            added =
                let t = i.history.laws.attempted p (in_range r.history p m) in
                omega (arith, ap (λ (b : Put). b.add) (same_put p m), t.announced (t.is_announced m), t.load m, t.at m, y.at, x.here.born, was.add)

            by_version : ((attempt r'.history p).version < (attempt r'.history o).version) ⊎ ((attempt r'.history o).version ≤ (attempt r'.history p).version) → StandsBefore (puts_of r'.history) p o
            by_version (inl w) = inl w
            by_version (inr w) = inr (omega (arith, w, same, y.version, least), added)

        which : InRow z r (attempt r.history o).row p ⊎ IsOlder r (attempt r.history o).row p → InRow z r (attempt r.history o).row p ⊎ StandsBefore (puts_of r'.history) p o
        which (inl y) = inl y
        which (inr y) = inr (older y)

    -- so it is a stamp as the law has it
    is_stamp : (o : ℕ) → StampsNow z r r' a o → Stamps (puts_of r.history) (puts_of r'.history) (rows_of z r) (rows_of z r') (attempt r.history o).row o
    is_stamp o x = record {
      unchanged = same_put;
      of_row = λ q p m. m.is_put;
      row_new = stamped_in_row i x;
      row_old = λ q p m. record { cell = m.cell; within = m.within; origin = x.origin q m.cell ∙ m.origin; is_put = is_put_stays z r r' s choice l a l' h i st p m.is_put };
      row_was = λ q p m. row_was q p m (x.was p m.is_put);
      new = x.stamps;
      old = is_put_stays z r r' s choice l a l' h i st;
      was = x.was;
      elsewhere = λ p m e. stands_before o p x m e;
      held = held;
      alone = λ q m. let t = held q (attempt r'.history o).key m in one_row (rows_in (word z r.world)) r.ledger.rows i.shape.rows.closed q (attempt r.history o).row (attempt r'.history o).key i.shape.rows.chain t.live (its_row_live i x) t.holds (own_holds o x);
    }
      where
        row_was : (q p : ℕ) → InRow z r' q p → (p ≡ o) ⊎ IsPut r.history p → (p ≡ o) ⊎ InRow z r q p
        row_was q p m (inl e) = inl e
        row_was q p m (inr n) = inr (record { cell = m.cell; within = m.within; origin = sym (x.origin q m.cell) ∙ m.origin; is_put = n })

        held : (q k : ℕ) → IsHolding z r' q k → IsHolding z r q k
        held q k m = which (holding_was a h i q k m)
          where
            which : IsHolding z r q k ⊎ ComesNow (word z r.world) r.ledger.rows r'.ledger.rows s (length r.history.log) l a q → IsHolding z r q k
            which (inl y) = y
            which (inr y) = absurd (x.other y.replaces)

    -- A row that is linked now.

    -- a row that is linked now shows what it must
    new_kept : a ≡ Activity.Rebalance (Rebalance.Replace Replace.Exchange) → (q k u : ℕ) → ComesNow (word z r.world) r.ledger.rows r'.ledger.rows s (length r.history.log) l a q → HoldsKey (word z r'.world) r'.ledger.rows q k → Needed z r u → Shows (puts_of r.history) (InRow z r' q) (IsPut r.history) k u
    new_kept e q k u y x m = rebuilt_shows z r r' s choice l l' (subst (λ b. Happens z r r' s choice l l' b) e h) i (subst (λ b. Step r.history r'.history (log_entry z r b s choice l)) e st) c q k u (subst (λ b. ComesNow (word z r.world) r.ledger.rows r'.ledger.rows s (length r.history.log) l b q) e y) x m

    -- All events.

    -- each row shows for each of its keys, at each version that is needed, what all stamped puts
    -- show
    pub kept_keeps : Kept (puts_of r'.history) (rows_of z r') (Needed z r')
    kept_keeps q k u x m = which (stamp_step a h i)
      where
        n : Needed z r u
        n = needed_before z r r' s choice l a l' h i u m

        stays : ((p : ℕ) → IsPut r'.history p → IsPut r.history p) → IsHolding z r q k ⊎ ComesNow (word z r.world) r.ledger.rows r'.ledger.rows s (length r.history.log) l a q → Shows (puts_of r'.history) (InRow z r' q) (IsPut r'.history) k u
        stays was (inl y) = shows_stay (InRow z r q) (InRow z r' q) (IsPut r.history) (IsPut r'.history) k u (λ p v. v.is_put) (λ p v. v) (λ p v. in_row_was a h i q p (inl y.live) (was p v.is_put) v) (λ p v. in_row_stays z r r' s choice l a l' h i st q p (inl y.live) v) was (is_put_stays z r r' s choice l a l' h i st)
            (c.kept q k u y n)
        stays was (inr y) = shows_stay (InRow z r' q) (InRow z r' q) (IsPut r.history) (IsPut r'.history) k u (λ p v. was p v.is_put) (λ p v. v) (λ p v. v) (λ p v. v) was (is_put_stays z r r' s choice l a l' h i st)
            (new_kept y.replaces q k u y x.holds n)

        which : StampStep z r r' a → Shows (puts_of r'.history) (InRow z r' q) (IsPut r'.history) k u
        which (stamps_none was) = stays was (holding_was a h i q k x)
        which (stamps_one o y) = stamp_kept (puts_of r.history) (puts_of r'.history) (rows_of z r) (rows_of z r') (attempt r.history o).row o (is_stamp o y) (Needed z r) c.kept q k u x n
