-- The rows as their words show them: what stands in the cells of a row is what was put by the
-- stamped puts for which the cells stand, and the rows that are reached from Head, with their
-- ranges, are the live ones.
use Rattle.std.proofs.Common.{ℕ, ◌≡◌, ◌≢◌, ◌⊎◌, inl, inr, ◌<◌, ◌≤◌, Bool, true, false, Option, Some, None, arith, refl, sym, ◌∙◌, ap, subst, slice_get}
use Rattle.std.proofs.lemmas.Bool.{cases_eq, cases_lt}
use Rattle.std.proofs.lemmas.Option.{same_Some}
use Rattle.kw_words.specs.declared.layout.Name.TheVariants as name
use Rattle.kw_words.specs.declared.pend.Pend.TheVariants as pend
use Rattle.kw_words.specs.Pend.{pend_of, pend_word}
use Rattle.kw_words.proofs.PendWords.{pend_of-Idle, pend_of-Frozen, pend_of-Pending, pend_of-Stamped}
use Rattle.kw_world.specs.Sizes.{Sizes}
use Rattle.kw_world.specs.Step.{word}
use Rattle.kw_core.specs.History.{attempt}
use Rattle.kw_core.specs.HistoryLaws.{IsPut}
use Rattle.kw_core.specs.Run.{Run}
use Rattle.kw_core.specs.Stages.{IsFresh, IsPublished, IsPutting}
use Rattle.kw_core.specs.Words.{given_in, least_in, next_in}
use Rattle.kw_rows.specs.Ledger.{Dead, Free, IsLive, Live, Status}
use Rattle.kw_rows.specs.Rows.{WasLinked, bound}
use Rattle.kw_shape.specs.RowsIn.{rows_in}
use Rattle.kw_shape.proofs.LinkedRows.{reached_live}
use Rattle.kw_kept.specs.Kept.{Kept}
use Rattle.kw_kept.proofs.GreatestPut.{greatest_of_same}
use Rattle.kw_puts.specs.Puts.{HasCell, IsCopyAt, IsCurrent, IsOld, IsOver, IsPublishedAt, OwnsAttempt, entry_of, key_in, value_in}
use Rattle.kw_puts.proofs.CellsOf.{cell_key, cell_value, cell_version, cell_within}
use Rattle.kw_puts.proofs.OwnAttempts.{below_end, entry_lost, entry_pending, entry_stamped, positive}
use Rattle.kw_puts.proofs.Owners.{cell_here, own_origin, published_puts, true_false}
use Rattle.kw_puts.proofs.RelyEntry.{fresh_published}
use Rattle.kw_reads.specs.Contents.{InRow, IsHolding, Needed, puts_of}
use Rattle.kw_reads.specs.Inv.{Inv, lower}
use Rattle.kw_laws.specs.Cells.{HasVersion, IsOfPut, IsRowOf, IsShown, IsShownIn, is_stamped, is_stored, shown_rows}

-- the cell and the version of a stamped entry
same_stamp : (c d m n : ℕ) → Some (pend.Stamped c m) ≡ Some (pend.Stamped d n) → (c ≡ d) × (m ≡ n)
same_stamp c d m n e = (cc, cc)

module _ (z : Sizes) (r : Run) (i : Inv z r) where
  -- Cells that stand for puts.

  module _ (q c p : ℕ) (linked : WasLinked r.ledger.rows q) (w : c < z.cells) (o : r.origin q c ≡ Some p) where
    owner : HasCell r.ledger.rows r.history q c p ⊎ IsCopyAt (word z r.world) r.ledger.rows r.history q c p
    owner = i.puts.places.owner q c p linked w o

    -- such a cell was given
    given : c < given_in (word z r.world) q
    given = which (cases_lt c (given_in (word z r.world) q))
      where
        which : (c < given_in (word z r.world) q) ⊎ (given_in (word z r.world) q ≤ c) → c < given_in (word z r.world) q
        which (inl x) = x
        which (inr x) = let y : None ≡ Some p = sym (i.puts.places.nobody q c linked w x) ∙ o in absurd (cc)

    -- a put whose seat is still at work on it has its version in the entry, until it is stored
    in_entry : IsPut r.history p → HasCell r.ledger.rows r.history q c p → word z r.world (name.Version q c) ≡ 0 → HasVersion z (word z r.world) q c (attempt r.history p).version
    in_entry s x none = which (i.puts.old p x.within)
      where
        kept : (attempt r.history p).is_lost ≡ false
        kept = i.history.laws.kept p s

        current : (b : IsCurrent (slice_get r.world.locals) r.seats r.history p) → IsFresh b.local.activity ⊎ IsPublished b.local.activity ⊎ (IsPutting b.local.activity → ⊥) → HasVersion z (word z r.world) q c (attempt r.history p).version
        current b t = by t
          where
            own : OwnsAttempt (word z r.world) r.history (attempt r.history p).seat b.local.activity b.local (r.seats (attempt r.history p).seat)
            own = i.puts.owns (attempt r.history p).seat b.local b.knows b.putting

            row : b.local.row ≡ q
            row = sym own.row ∙ ap (λ y. (attempt r.history y).row) b.own ∙ x.row

            by : IsFresh b.local.activity ⊎ IsPublished b.local.activity ⊎ (IsPutting b.local.activity → ⊥) → HasVersion z (word z r.world) q c (attempt r.history p).version
            by (inl y) = true_false s (sym (ap (λ y. (attempt r.history y).is_stamped) b.own) ∙ own.unstamped y)
            by (inr (inl y)) =
                let entry : word z r.world (name.Pend q (attempt r.history p).seat) ≡ pend_word (pend.Stamped (attempt r.history p).cell (attempt r.history p).version) = subst (λ y. word z r.world (name.Pend y (attempt r.history p).seat) ≡ pend_word (pend.Stamped (attempt r.history p).cell (attempt r.history p).version)) row (own.entry y ∙ rw b.own (entry_stamped (attempt r.history p) kept s)) in
                let cell = (i.puts.placed p x.within).cell in
                let read : pend_of (word z r.world (name.Pend q (attempt r.history p).seat)) ≡ Some (pend.Stamped (attempt r.history p).cell (attempt r.history p).version) = ap pend_of entry ∙ pend_of-Stamped (attempt r.history p).cell (attempt r.history p).version (omega (arith, cell, i.shape.sane.sized.few_cells)) (positive z r (lower i) p s) (below_end z r (lower i) p s) in
                is_stamped (attempt r.history p).seat (i.puts.placed p x.within).seat none (subst (λ y. pend_of (word z r.world (name.Pend q (attempt r.history p).seat)) ≡ Some (pend.Stamped y (attempt r.history p).version)) x.cell read)
            by (inr (inr d)) = absurd (d b.putting)

        which : IsCurrent (slice_get r.world.locals) r.seats r.history p ⊎ IsOld (word z r.world) r.ledger.rows r.history p ⊎ IsOver r.history p → HasVersion z (word z r.world) q c (attempt r.history p).version
        which (inl b) = current b (fresh_published b.local.activity)
        which (inr (inl b)) =
            let y : word z r.world (name.Version q c) ≡ (attempt r.history p).version = rw (x.row, x.cell) at (b.version (cell_here r.ledger.rows r.history q c p x)) in
            absurd (omega (arith, y, none, positive z r (lower i) p s))
        which (inr (inr b)) = true_false s b.unstamped

    -- the version of a stamped put is that of its cell
    has_version : IsPut r.history p → HasVersion z (word z r.world) q c (attempt r.history p).version
    has_version s = which owner (cases_eq (word z r.world (name.Version q c)) 0)
      where
        which : HasCell r.ledger.rows r.history q c p ⊎ IsCopyAt (word z r.world) r.ledger.rows r.history q c p → (word z r.world (name.Version q c) ≡ 0) ⊎ (word z r.world (name.Version q c) ≡ 0 → ⊥) → HasVersion z (word z r.world) q c (attempt r.history p).version
        which x (inr n) = is_stored n (cell_version i.puts q c p owner n).1
        which (inl x) (inl e) = in_entry s x e
        which (inr x) (inl e) = absurd (omega (arith, e, x.version, positive z r (lower i) p s))

    announced : IsPut r.history p → (attempt r.history p).is_announced ≡ true
    announced s = (i.history.laws.attempted p (cell_within i.puts q c p owner)).is_announced s

    -- what was put stands in the cell
    key_is : IsPut r.history p → key_in (word z r.world) q c ≡ (attempt r.history p).key
    key_is s = cell_key i.puts q c p owner (announced s)

    value_is : IsPut r.history p → value_in (word z r.world) q c ≡ (attempt r.history p).value
    value_is s = cell_value i.puts q c p owner (announced s)

  -- a cell that stands for a stamped put shows what was put
  pub shown : (q p : ℕ) → WasLinked r.ledger.rows q → InRow z r q p → IsShownIn z r q p
  shown q p linked x = record {
    cell = x.cell;
    origin = x.origin;
    is_put = x.is_put;
    shown = record {
      within = x.within;
      given = given q x.cell p linked x.within x.origin;
      key = key_is q x.cell p linked x.within x.origin x.is_put;
      version = has_version q x.cell p linked x.within x.origin x.is_put;
      value = value_is q x.cell p linked x.within x.origin x.is_put;
    };
  }

  -- Cells that show something.

  -- a row that is or was linked is one of the table
  in_table : (q : ℕ) → WasLinked r.ledger.rows q → q < r.world.rows
  in_table q linked = which (cases_lt q r.world.rows) linked
    where
      free : (x : Status) → (r.ledger.rows.fates q).status ≡ Free → (r.ledger.rows.fates q).status ≡ x → Free ≡ x
      free x e f = sym e ∙ f

      which : (q < r.world.rows) ⊎ (r.world.rows ≤ q) → WasLinked r.ledger.rows q → q < r.world.rows
      which (inl w) k = w
      which (inr w) (inl k) = let y : Free ≡ Live = free Live (i.shape.beyond q w) k in absurd (cc)
      which (inr w) (inr k) = let y : Free ≡ Dead = free Dead (i.shape.beyond q w) k in absurd (cc)

  -- the entry that is stamped for a cell is that of a seat which has put it
  module _ (q c u j : ℕ) (linked : WasLinked r.ledger.rows q) (few : j < z.seats) (read : pend_of (word z r.world (name.Pend q j)) ≡ Some (pend.Stamped c u)) where
    -- the attempt that is stamped so
    record IsStampedFor (p : ℕ) : Type 0 where
      origin : r.origin q c ≡ Some p
      is_put : IsPut r.history p
      version : (attempt r.history p).version ≡ u

    by_owner : IsPublishedAt (slice_get r.world.locals) q j → (p : ℕ) × IsStampedFor p
    by_owner x = ((r.seats j).own, which (attempt r.history (r.seats j).own).is_lost refl (attempt r.history (r.seats j).own).is_stamped refl)
      where
        puts : IsPutting x.local.activity
        puts = published_puts x.local.activity x.published

        own : OwnsAttempt (word z r.world) r.history j x.local.activity x.local (r.seats j)
        own = i.puts.owns j x.local x.knows puts

        entry : word z r.world (name.Pend q j) ≡ entry_of (attempt r.history (r.seats j).own)
        entry = subst (λ y. word z r.world (name.Pend y j) ≡ entry_of (attempt r.history (r.seats j).own)) x.row (own.entry x.published)

        cell : (attempt r.history (r.seats j).own).cell < z.cells
        cell = (i.puts.placed (r.seats j).own own.within).cell

        which : (b : Bool) → (attempt r.history (r.seats j).own).is_lost ≡ b → (d : Bool) → (attempt r.history (r.seats j).own).is_stamped ≡ d → IsStampedFor (r.seats j).own
        which true e d f = let y : Some pend.Frozen ≡ Some (pend.Stamped c u) = sym (ap pend_of (entry ∙ entry_lost (attempt r.history (r.seats j).own) e) ∙ pend_of-Frozen) ∙ read in absurd (cc)
        which false e false f =
            let y : Some (pend.Pending (attempt r.history (r.seats j).own).cell) ≡ Some (pend.Stamped c u) = sym (ap pend_of (entry ∙ entry_pending (attempt r.history (r.seats j).own) e f) ∙ pend_of-Pending (attempt r.history (r.seats j).own).cell (omega (arith, cell, i.shape.sane.sized.few_cells))) ∙ read in
            absurd (cc)
        which false e true f =
            let y = same_stamp (attempt r.history (r.seats j).own).cell c (attempt r.history (r.seats j).own).version u (sym (ap pend_of (entry ∙ entry_stamped (attempt r.history (r.seats j).own) e f) ∙ pend_of-Stamped (attempt r.history (r.seats j).own).cell (attempt r.history (r.seats j).own).version (omega (arith, cell, i.shape.sane.sized.few_cells)) (positive z r (lower i) (r.seats j).own f) (below_end z r (lower i) (r.seats j).own f)) ∙ read) in
            record {
              origin = rw (x.row, sym own.cell ∙ y.0) at (own_origin i.puts j x.local x.knows puts);
              is_put = f;
              version = y.1;
            }

    stamped_for : (p : ℕ) × IsStampedFor p
    stamped_for = which (i.puts.entry q j (in_table q linked) few)
      where
        which : (word z r.world (name.Pend q j) ≡ pend_word pend.Idle) ⊎ (word z r.world (name.Pend q j) ≡ pend_word pend.Frozen) ⊎ IsPublishedAt (slice_get r.world.locals) q j → (p : ℕ) × IsStampedFor p
        which (inl e) = let y : Some pend.Idle ≡ Some (pend.Stamped c u) = sym (ap pend_of e ∙ pend_of-Idle) ∙ read in absurd (cc)
        which (inr (inl e)) = let y : Some pend.Frozen ≡ Some (pend.Stamped c u) = sym (ap pend_of e ∙ pend_of-Frozen) ∙ read in absurd (cc)
        which (inr (inr x)) = by_owner x

  -- each cell that shows something stands for a stamped put, and shows what was put
  pub of_puts : (q c key version : ℕ) (value : Option ℕ) → WasLinked r.ledger.rows q → IsShown z (word z r.world) q c key version value → IsOfPut r q c key version value
  of_puts q c key version value linked s = which s.version
    where
      of_put : (p : ℕ) → r.origin q c ≡ Some p → IsPut r.history p → (attempt r.history p).version ≡ version → IsOfPut r q c key version value
      of_put p o f e = record {
        put = p;
        origin = o;
        is_put = f;
        key = sym (key_is q c p linked s.within o f) ∙ s.key;
        version = e;
        value = sym (value_is q c p linked s.within o f) ∙ s.value;
      }

      stored : (x : Option ℕ) → r.origin q c ≡ x → word z r.world (name.Version q c) ≢ 0 → word z r.world (name.Version q c) ≡ version → IsOfPut r q c key version value
      stored None o n e = absurd (n (i.puts.places.unstored q c linked s.within o))
      stored (Some p) o n e = let y = cell_version i.puts q c p (owner q c p linked s.within o) n in of_put p o y.0 (sym y.1 ∙ e)

      which : HasVersion z (word z r.world) q c version → IsOfPut r q c key version value
      which (is_stored n e) = stored (r.origin q c) refl n e
      which (is_stamped j w none e) = let y = stamped_for q c version j linked w e in of_put y.0 y.1.origin y.1.is_put y.1.version

  -- What rows show.

  -- a row that is reached is live, and the keys of its range are those that it holds
  is_holding : (q k : ℕ) → IsRowOf (word z r.world) q k → IsHolding z r q k
  is_holding q k x = record { live = live; holds = record { from = x.from; below = λ u e. which u (next_in (word z r.world) q) refl (sym (i.shape.rows.closed.upper q (inl live)) ∙ e) } }
    where
      live : IsLive r.ledger.rows q
      live = reached_live (word z r.world) r.ledger.rows i.shape.rows.chain q x.saw

      which : (u : ℕ) (n : Option ℕ) → next_in (word z r.world) q ≡ n → bound (rows_in (word z r.world)) (next_in (word z r.world) q) ≡ Some u → k < u
      which u None f e = let y : None ≡ Some u = ap (bound (rows_in (word z r.world))) (sym f) ∙ e in absurd (cc)
      which u (Some n) f e = let y : Some (least_in (word z r.world) n) ≡ Some u = ap (bound (rows_in (word z r.world))) (sym f) ∙ e in subst (λ v. k < v) (same_Some (least_in (word z r.world) n) u y) (x.below n f)

  -- what the words of a row show is what its cells stand for
  pub kept_shown : Kept (puts_of r.history) (shown_rows z r) (Needed z r)
  kept_shown q k u x n b t g h =
      let y = is_holding q k x in
      i.contents.kept q k u y n b t
      (greatest_of_same (puts_of r.history) (IsShownIn z r q) (InRow z r q) k u u b (λ p e m l. (record { cell = m.cell; within = m.shown.within; origin = m.origin; is_put = m.is_put }, l)) (λ p e m l. (shown q p (inl y.live) m, l)) g)
      h
