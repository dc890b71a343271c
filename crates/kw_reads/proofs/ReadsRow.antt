-- A reader that has read its row to the end, as the law of what rows keep has it: what it has
-- gathered, what the row has and what was stamped before it looked.
use Rattle.std.proofs.Common.{ℕ, zero, suc, ◌≡◌, ◌⊎◌, inl, inr, ◌<◌, ◌≤◌, ◌==◌, Bool, true, false, Option, Some, None, List, [], ◌∷◌, arith, refl, sym, ◌∙◌, ap, subst, length, get_or, if◌then◌else◌}
use Rattle.std.specs.Prelude.{Contains}
use Rattle.std.specs.List.{AllZip}
use Rattle.std.proofs.lemmas.Bool.{cases_eq, cases_lt}
use Rattle.std.proofs.lemmas.Option.{same_Some}
use Rattle.kw_cells.specs.declared.cell.Cell as kw_cell
use Rattle.kw_cells.specs.Cells.{best_of, shown_at}
use Rattle.kw_world.specs.declared.local.Local.{Local}
use Rattle.kw_world.specs.Calls.{is_in_range}
use Rattle.kw_world.specs.Sizes.{Sizes}
use Rattle.kw_world.specs.Step.{word}
use Rattle.kw_core.specs.History.{LoadClock, attempt}
use Rattle.kw_core.specs.HistoryLaws.{IsGapOf, HasVersionUpTo, IsPut}
use Rattle.kw_core.specs.HistoryLaws as laws
use Rattle.kw_core.specs.Run.{Run, best_id, id_at, id_of}
use Rattle.kw_core.specs.declared.seat_log.SeatLog.{SeatLog}
use Rattle.kw_core.proofs.Attempts.{in_range}
use Rattle.kw_core.proofs.Steps.{announced_within}
use Rattle.kw_kept.specs.Puts.{AreApart, StandsBefore, StandsUpTo}
use Rattle.kw_kept.specs.Readers.{Before, Knows, Reads, Sets}
use Rattle.kw_kept.proofs.GreatestFound.{greatest_found}
use Rattle.kw_kept.proofs.GreatestPut.{greatest_of_same}
use Rattle.kw_kept.proofs.ReaderKnows.{reader_knows}
use Rattle.kw_rows.specs.Rows.{WasLinked}
use Rattle.kw_shape.specs.Shape.{HoldsKey, IsAtItsRow}
use Rattle.kw_shape.proofs.LinkedRows.{fresh_linked}
use Rattle.kw_puts.specs.Below.{Below}
use Rattle.kw_puts.specs.Here.{IsMadeIn}
use Rattle.kw_puts.specs.Puts.{HasCell, IsCopyAt}
use Rattle.kw_puts.proofs.Owners.{made_here}
use Rattle.kw_reads.specs.Contents.{Contents, InRow, IsFronted, IsOlder, IsStanding, puts_of}
use Rattle.kw_reads.specs.Readers.{AreCopies, IsCopyOf, IsDue}
use Rattle.kw_reads.proofs.BestIds.{Gives, best_gives, copies_within}

-- a reader, at its row, has gathered each attempt that was due there; and it knows what the row has
-- kept of what was stamped before
pub record HasReadRow (z : Sizes) (r : Run) (t : ℕ) (m : Local) (g : SeatLog) (version floor : ℕ) : Type 0 where
  pub at : IsAtItsRow (word z r.world) r.ledger.rows t m
  pub copies : AreCopies r.history r.origin m.row m.call m.gathered g.ids
  pub within : (q c p : ℕ) → r.origin q c ≡ Some p → c < z.cells
  pub taken : (c p : ℕ) → IsDue r.history r.origin m.row m.call g.looked c p → Contains g.ids p
  pub front : IsFronted z r m.row version floor g.looked

-- an attempt is lost, or what holds of each that is not holds of it
pub lost_or : {A : Type 0} (lost : Bool) → (lost ≡ false → A) → (lost ≡ true) ⊎ A
lost_or true f = inl refl
lost_or false f = inr (f refl)

-- a test is true, or it is not
holds_or_not : (b : Bool) → (b ≡ true) ⊎ (b ≡ true → ⊥)
holds_or_not true = inl refl
holds_or_not false = inr (λ e. let x : false ≡ true = e in cc)

-- What stands beside a gathered cell.

-- the cell beside an attempt
beside : (R : kw_cell.Cell → ℕ → Type 0) (cells : List kw_cell.Cell) (ids : List ℕ) → AllZip R cells ids → (n p : ℕ) → n < length ids → get_or ids n p ≡ p → (c : kw_cell.Cell) × Contains cells c × R c p
beside R [] [] x n p w e = absurd (omega arith)
beside R [] (q ∷ ids) x n p w e = absurd x
beside R (c ∷ cells) [] x n p w e = absurd x
beside R (c ∷ cells) (q ∷ ids) x zero p w e = (c, (0, omega arith, refl), subst (R c) e x.0)
beside R (c ∷ cells) (q ∷ ids) x (suc n) p w e = let t = beside R cells ids x.1 n p (omega arith) e in (t.0, (suc t.1.0, omega (arith, t.1.1), t.1.2), t.2)

-- the attempt that is found beside a cell is among those of the list
id_among : (place : ℕ) (cells : List kw_cell.Cell) (ids : List ℕ) (p : ℕ) → id_at place cells ids ≡ Some p → Contains ids p
id_among place [] ids p e = let x : None ≡ Some p = e in absurd (cc)
id_among place (c ∷ cells) [] p e = let x : None ≡ Some p = e in absurd (cc)
id_among place (c ∷ cells) (q ∷ ids) p e = saw (id_among place cells ids p) (c.place == place) e
  where
    saw : (id_at place cells ids ≡ Some p → Contains ids p) → (b : Bool) → (if b then Some q else id_at place cells ids) ≡ Some p → Contains (q ∷ ids) p
    saw g true f = (0, omega arith, same_Some q p f)
    saw g false f = let t = g f in (suc t.0, omega (arith, t.1), t.2)

-- so is the one beside the best
best_among : (cells : List kw_cell.Cell) (ids : List ℕ) (key version p : ℕ) → best_id cells ids key version ≡ Some p → Contains ids p
best_among cells ids key version p e = saw (best_of cells key version) e
  where
    saw : (o : Option kw_cell.Cell) → id_of o cells ids ≡ Some p → Contains ids p
    saw (Some c) f = id_among c.place cells ids p f
    saw None f = let x : None ≡ Some p = f in absurd (cc)

-- The puts of a record.

module _ (z : Sizes) (r : Run) (b : Below z r) where
  -- no two of them were given their cells at one event
  apart : (P : ℕ → Type 0) → ((p : ℕ) → P p → IsPut r.history p) → AreApart (puts_of r.history) P
  apart P f p q x y e = which (cases_lt p q) (cases_lt q p)
    where
      which : (p < q) ⊎ (q ≤ p) → (q < p) ⊎ (p ≤ q) → p ≡ q
      which (inl w) o = absurd (omega (arith, b.history.laws.adds p q w (in_range r.history q (f q y)), e))
      which (inr w) (inl o) = absurd (omega (arith, b.history.laws.adds q p o (in_range r.history p (f p x)), e))
      which (inr w) (inr o) = omega (arith, w, o)

  -- it is known whether one was stamped before a position
  before_known : (since p : ℕ) → Before (puts_of r.history) (IsPut r.history) since p ⊎ (Before (puts_of r.history) (IsPut r.history) since p → ⊥)
  before_known since p = which (holds_or_not (attempt r.history p).is_stamped) (cases_lt (attempt r.history p).at since)
    where
      which : IsPut r.history p ⊎ (IsPut r.history p → ⊥) → ((attempt r.history p).at < since) ⊎ (since ≤ (attempt r.history p).at) → Before (puts_of r.history) (IsPut r.history) since p ⊎ (Before (puts_of r.history) (IsPut r.history) since p → ⊥)
      which (inl x) (inl w) = inl (x, w)
      which (inl x) (inr w) = inr (λ y. omega (arith, y.1, w))
      which (inr d) w = inr (λ y. d y.0)

  -- a cell stands for an attempt, or does not
  is_of : (o : Option ℕ) (p : ℕ) → (o ≡ Some p) ⊎ (o ≡ Some p → ⊥)
  is_of None p = inr (λ e. let x : None ≡ Some p = e in cc)
  is_of (Some q) p = which (cases_eq q p)
    where
      which : (q ≡ p) ⊎ (q ≡ p → ⊥) → (Some q ≡ Some p) ⊎ (Some q ≡ Some p → ⊥)
      which (inl e) = inl (ap Some e)
      which (inr d) = inr (λ e. d (same_Some q p e))

  -- of the cells below n, one does, or none
  below_known : (q p n : ℕ) → ((c : ℕ) × (c < n) × (r.origin q c ≡ Some p)) ⊎ ((c : ℕ) → c < n → r.origin q c ≡ Some p → ⊥)
  below_known q p zero = inr (λ c w e. omega (arith, w))
  below_known q p (suc n) = which (is_of (r.origin q n) p) (below_known q p n)
    where
      which : (r.origin q n ≡ Some p) ⊎ (r.origin q n ≡ Some p → ⊥) → ((c : ℕ) × (c < n) × (r.origin q c ≡ Some p)) ⊎ ((c : ℕ) → c < n → r.origin q c ≡ Some p → ⊥) →
          ((c : ℕ) × (c < suc n) × (r.origin q c ≡ Some p)) ⊎ ((c : ℕ) → c < suc n → r.origin q c ≡ Some p → ⊥)
      which (inl e) y = inl (n, omega arith, e)
      which (inr d) (inl y) = inl (y.0, omega (arith, y.1), y.2)
      which (inr d) (inr y) = inr (λ c w e. other c w e (cases_eq c n))
        where
          other : (c : ℕ) → c < suc n → r.origin q c ≡ Some p → (c ≡ n) ⊎ (c ≡ n → ⊥) → ⊥
          other c w e (inl f) = d (subst (λ x. r.origin q x ≡ Some p) f e)
          other c w e (inr f) = y c (omega (arith, w, f)) e

  -- a row has a put, or does not
  pub row_known : (q p : ℕ) → InRow z r q p ⊎ (InRow z r q p → ⊥)
  row_known q p = which (holds_or_not (attempt r.history p).is_stamped) (below_known q p z.cells)
    where
      which : IsPut r.history p ⊎ (IsPut r.history p → ⊥) → ((c : ℕ) × (c < z.cells) × (r.origin q c ≡ Some p)) ⊎ ((c : ℕ) → c < z.cells → r.origin q c ≡ Some p → ⊥) → InRow z r q p ⊎ (InRow z r q p → ⊥)
      which (inl x) (inl y) = inl (record { cell = y.0; within = y.1; origin = y.2; is_put = x })
      which (inl x) (inr d) = inr (λ y. d y.cell y.within y.origin)
      which (inr d) y = inr (λ x. d x.is_put)

  -- the times of a stamped attempt
  times : (p : ℕ) → IsPut r.history p → ((attempt r.history p).add < (attempt r.history p).announced) × ((attempt r.history p).announced < (attempt r.history p).load) × ((attempt r.history p).load < (attempt r.history p).at)
  times p x = let y = b.history.laws.attempted p (in_range r.history p x) in (y.announced (y.is_announced x), y.load x, y.at x)

module _ (z : Sizes) (r : Run) (b : Below z r) (c : Contents z r) (t : ℕ) (m : Local) (g : SeatLog) (version floor : ℕ) (read : HasReadRow z r t m g version floor) (key : ℕ) (holds : HoldsKey (word z r.world) r.ledger.rows m.row key) (range : is_in_range m.call key ≡ true) (early : floor ≤ g.looked) where
  -- the sets of which it knows, for the key
  abbrev pub sets : Sets
  sets = record {
    in_row = λ p. InRow z r m.row p × ((attempt r.history p).key ≡ key);
    gathered = λ p. Contains g.ids p × ((attempt r.history p).key ≡ key);
    stamped = IsPut r.history;
    before = Before (puts_of r.history) (IsPut r.history) read.front.since;
    here = λ p. IsMadeIn r.ledger.rows r.history m.row p;
    early = λ p. ((attempt r.history p).is_announced ≡ true) × ((attempt r.history p).announced < floor);
    lost = λ p. (attempt r.history p).is_lost ≡ true;
  }

  -- the attempt beside its best cell
  abbrev pub best : Option ℕ
  best = best_id m.gathered g.ids key version

  -- its row is linked, or was so
  linked : WasLinked r.ledger.rows m.row
  linked = fresh_linked r.ledger.rows t m.row read.at.fresh

  pub gives : Gives r.history key version best (shown_at m.gathered version key) g.ids
  gives = best_gives z r b m.row m.call linked m.gathered g.ids key version (copies_within z.cells r.history r.origin read.within m.row m.call m.gathered g.ids read.copies) read.copies

  -- the cell of a gathered attempt
  gathered_cell : (p : ℕ) → Contains g.ids p → (d : kw_cell.Cell) × (d.place < z.cells) × IsCopyOf r.history r.origin m.row m.call d p
  gathered_cell p x = let y = beside (IsCopyOf r.history r.origin m.row m.call) m.gathered g.ids read.copies x.0 p x.1 x.2 in (y.0, read.within m.row y.0.place p y.2.origin, y.2)

  -- what is gathered is of the row
  of_row : (p : ℕ) → sets.gathered p → sets.in_row p × IsPut r.history p
  of_row p x = let y = gathered_cell p x.0 in ((record { cell = y.0.place; within = y.1; origin = y.2.origin; is_put = y.2.stamped }, x.1), y.2.stamped)

  -- and all of the row that was stamped before is gathered
  all : (p : ℕ) → sets.in_row p → sets.before p → sets.gathered p
  all p x y =
      let w = in_range r.history p y.0 in
      let u = times z r b p y.0 in (
        read.taken x.0.cell p (record {
          origin = x.0.origin;
          announced = (b.history.laws.attempted p w).is_announced y.0;
          before = omega (arith, u.1, u.2, y.1, read.front.upto);
          kept = b.history.laws.kept p y.0;
          key = subst (λ k. is_in_range m.call k ≡ true) (sym x.1) range;
        }),
        x.1,
      )

  -- what was stamped before elsewhere stands before what is stamped later
  later : (p q : ℕ) → sets.gathered p → (sets.before p → ⊥) → sets.before q → (attempt r.history q).key ≡ (attempt r.history p).key → sets.in_row q ⊎ StandsBefore (puts_of r.history) q p
  later p q x d y e = which (c.older m.row q y.0 (standing linked) (subst (HoldsKey (word z r.world) r.ledger.rows m.row) (sym same) holds))
    where
      same : (attempt r.history q).key ≡ key
      same = e ∙ x.1

      cell : (d : kw_cell.Cell) × (d.place < z.cells) × IsCopyOf r.history r.origin m.row m.call d p
      cell = gathered_cell p x.0

      standing : WasLinked r.ledger.rows m.row → IsStanding r m.row q
      standing (inl a) = inl a
      standing (inr a) = inr (a, omega (arith, y.1, read.front.stands a))

      late : read.front.since ≤ (attempt r.history p).at
      late = saw (cases_lt (attempt r.history p).at read.front.since)
        where
          saw : ((attempt r.history p).at < read.front.since) ⊎ (read.front.since ≤ (attempt r.history p).at) → read.front.since ≤ (attempt r.history p).at
          saw (inl w) = absurd (d (cell.2.stamped, w))
          saw (inr w) = w

      born : (r.ledger.rows.fates m.row).born ≤ (attempt r.history p).add
      born = saw (b.puts.places.owner m.row cell.0.place p linked cell.1 cell.2.origin)
        where
          saw : HasCell r.ledger.rows r.history m.row cell.0.place p ⊎ IsCopyAt (word z r.world) r.ledger.rows r.history m.row cell.0.place p → (r.ledger.rows.fates m.row).born ≤ (attempt r.history p).add
          saw (inl a) = a.born
          saw (inr a) = absurd (omega (arith, a.before, read.front.born, late))

      above : IsOlder r m.row q → (attempt r.history q).version ≤ (attempt r.history p).version
      above o =
          let u = times z r b p cell.2.stamped in
          omega (arith, o.version, c.borns.after m.row (attempt r.history p).load (attempt r.history p).version LoadClock linked (b.history.laws.loaded p cell.2.stamped) (omega (arith, born, u.0, u.1)))

      added : IsOlder r m.row q → (attempt r.history q).add < (attempt r.history p).add
      added o = let u = times z r b q y.0 in omega (arith, u.0, u.1, u.2, o.at, born)

      stands : IsOlder r m.row q → ((attempt r.history q).version < (attempt r.history p).version) ⊎ ((attempt r.history p).version ≤ (attempt r.history q).version) → StandsBefore (puts_of r.history) q p
      stands o (inl w) = inl w
      stands o (inr w) = inr (omega (arith, w, above o), added o)

      which : InRow z r m.row q ⊎ IsOlder r m.row q → sets.in_row q ⊎ StandsBefore (puts_of r.history) q p
      which (inl a) = inl (a, same)
      which (inr o) = inr (stands o (cases_lt (attempt r.history q).version (attempt r.history p).version))

  -- an early attempt that was made here is lost, or gathered
  own : (q : ℕ) → sets.early q → (attempt r.history q).key ≡ key → sets.here q → sets.lost q ⊎ sets.gathered q
  own q x e f = lost_or (attempt r.history q).is_lost (λ k. (
    read.taken (attempt r.history q).cell q (record {
      origin = subst (λ w. r.origin w (attempt r.history q).cell ≡ Some q) f.row (b.puts.given q (announced_within r.history q x.0) (made_here r.ledger.rows r.history m.row q linked f)).origin;
      announced = x.0;
      before = omega (arith, x.1, early);
      kept = k;
      key = subst (λ w. is_in_range m.call w ≡ true) (sym e) range;
    }),
    e,
  ))

  -- an attempt was made here since the row was linked, or not
  made_known : (q : ℕ) → IsMadeIn r.ledger.rows r.history m.row q ⊎ (IsMadeIn r.ledger.rows r.history m.row q → ⊥)
  made_known q = which (cases_eq (attempt r.history q).row m.row) (cases_lt (attempt r.history q).add (r.ledger.rows.fates m.row).born)
    where
      which : ((attempt r.history q).row ≡ m.row) ⊎ ((attempt r.history q).row ≡ m.row → ⊥) → ((attempt r.history q).add < (r.ledger.rows.fates m.row).born) ⊎ ((r.ledger.rows.fates m.row).born ≤ (attempt r.history q).add) → IsMadeIn r.ledger.rows r.history m.row q ⊎ (IsMadeIn r.ledger.rows r.history m.row q → ⊥)
      which (inl e) (inr o) = inl (record { row = e; born = o })
      which (inl e) (inl o) = inr (λ x. omega (arith, o, x.born))
      which (inr d) o = inr (λ x. d x.row)

  -- what the law of readers asks
  reads : Reads (puts_of r.history) sets key version best
  reads = record {
    best_is = record { among = λ p e. let x = parts best gives.gap gives.bound p e in ((best_among m.gathered g.ids key version p e, x.0), x.0, x.1); greatest = λ q x e l. upto best gives.upto q x.0 e l };
    front = greatest_found (puts_of r.history) (λ p. sets.in_row p × sets.before p) key version both_known (apart z r b (λ p. sets.in_row p × sets.before p) (λ p x. x.1.0)) (length r.history.attempts) (λ p x. in_range r.history p x.1.0);
    top = greatest_found (puts_of r.history) sets.before key version (before_known z r b read.front.since) (apart z r b sets.before (λ p x. x.0)) (length r.history.attempts) (λ p x. in_range r.history p x.0);
    shows = λ o u x y. read.front.shows key holds o u (greatest_of_same (puts_of r.history) (λ p. sets.in_row p × sets.before p) (λ p. InRow z r m.row p × sets.before p) key version version o (λ p e i l. ((i.0.0, i.1), l)) (λ p e i l. (((i.0, e), i.1), l)) x) y;
    of_row = of_row;
    all = all;
    stamps = λ p x. x.0;
    known = before_known z r b read.front.since;
    later = later;
    where_made = made_known;
    own = own;
    other = λ q x e d. read.front.other q x.0 x.1 (subst (HoldsKey (word z r.world) r.ledger.rows m.row) (sym e) holds) d;
  }
    where
      both_known : (p : ℕ) → sets.in_row p × sets.before p ⊎ (sets.in_row p × sets.before p → ⊥)
      both_known p = which (row_known z r b m.row p) (cases_eq (attempt r.history p).key key) (before_known z r b read.front.since p)
        where
          which : InRow z r m.row p ⊎ (InRow z r m.row p → ⊥) → ((attempt r.history p).key ≡ key) ⊎ ((attempt r.history p).key ≡ key → ⊥) → sets.before p ⊎ (sets.before p → ⊥) → sets.in_row p × sets.before p ⊎ (sets.in_row p × sets.before p → ⊥)
          which (inl x) (inl e) (inl y) = inl ((x, e), y)
          which (inr d) e y = inr (λ x. d x.0.0)
          which (inl x) (inr d) y = inr (λ u. d u.0.1)
          which (inl x) (inl e) (inr d) = inr (λ u. d u.1)

      parts : (o : Option ℕ) → IsGapOf r.history key o → HasVersionUpTo r.history o version → (p : ℕ) → o ≡ Some p → ((attempt r.history p).key ≡ key) × ((attempt r.history p).version ≤ version)
      parts None x y p e = let u : None ≡ Some p = e in absurd (cc)
      parts (Some q) x y p e = let f = same_Some q p e in (subst (λ k. (attempt r.history k).key ≡ key) f x.key, subst (λ k. (attempt r.history k).version ≤ version) f y)

      upto : (o : Option ℕ) → ((p : ℕ) → Contains g.ids p → (attempt r.history p).key ≡ key → (attempt r.history p).version ≤ version → laws.StandsUpTo r.history o p) → (q : ℕ) → Contains g.ids q → (attempt r.history q).key ≡ key → (attempt r.history q).version ≤ version → StandsUpTo (puts_of r.history) o q
      upto None f q x e l = f q x e l
      upto (Some p) f q x e l = f q x e l

  -- so it knows what it has to
  pub row_known_at_end : Knows (puts_of r.history) sets key version best
  row_known_at_end = reader_knows (puts_of r.history) sets key version best reads
