-- A new row was built of the rows of the group as the laws of what rows keep want it: its cells of
-- a key are the kept ones, which show what the gathered cells show at each listed version and at
-- one that none is above, and all cells of the row of the group that held the key were gathered.
use Rattle.std.proofs.Common.{ℕ, zero, suc, ◌≡◌, ◌≢◌, ◌⊎◌, inl, inr, ◌+◌, ◌-◌, ◌<◌, ◌≤◌, All, Contains, Bool, true, false, List, [], ◌∷◌, Option, Some, None, arith, refl, sym, ◌∙◌, ap, subst, drop, get_or, length, slice_get, take}
use Rattle.std.proofs.lemmas.Bool.{cases_eq, cases_order}
use Rattle.std.proofs.lemmas.List.{get_or-drop, get_or-take, length-drop, length-take}
use Rattle.std.proofs.lemmas.List.Elements.{All-contains, Contains-get_or}
use Rattle.std.proofs.lemmas.Option.{get_or_from_slice_get, same_Some, slice_get-get_or, slice_get_within}
use Rattle.kw_cells.specs.declared.cell.Cell.{Cell}
use Rattle.kw_cells.specs.Cells.{AreApart}
use Rattle.kw_cells.specs.Kept.{IsKeptList, kept_of}
use Rattle.kw_cells.proofs.KeptOf.{kept_of-all, kept_of-given, kept_of-list}
use Rattle.kw_cells.proofs.Shown.{shows_the_same}
use Rattle.kw_world.specs.declared.activity.Activity.TheVariants as Activity
use Rattle.kw_world.specs.declared.activity.rebalance.Rebalance.TheVariants as Rebalance
use Rattle.kw_world.specs.declared.activity.rebalance.replace.Replace.TheVariants as Replace
use Rattle.kw_world.specs.declared.event.Choice.{Choice}
use Rattle.kw_world.specs.declared.local.Local.{Local}
use Rattle.kw_world.specs.GroupPlaces.{cell_at, row_at, source}
use Rattle.kw_world.specs.SeekTransitions.{at_infant}
use Rattle.kw_world.specs.Sizes.{Sizes}
use Rattle.kw_world.specs.Step.{word}
use Rattle.kw_world.specs.WriteTransitions.{infant_cells}
use Rattle.kw_core.specs.History.{attempt}
use Rattle.kw_core.specs.Run.{Run}
use Rattle.kw_core.specs.Step.{Step}
use Rattle.kw_core.proofs.Attempts.{in_range}
use Rattle.kw_core.proofs.Copies.{origin_stays}
use Rattle.kw_core.proofs.Happens.{Happens, chosen, log_entry, not_chosen}
use Rattle.kw_shape.proofs.InfantsRely.{index_of_row}
use Rattle.kw_shape.specs.Hands.{IsOfGroup}
use Rattle.kw_shape.specs.Infants.{IsWhole, nursing_of}
use Rattle.kw_shape.specs.Keyed.{HasGathered, HoldsGathered}
use Rattle.kw_shape.specs.Plans.{Plans}
use Rattle.kw_shape.specs.RowsIn.{rows_in}
use Rattle.kw_shape.specs.Shape.{HoldsKey}
use Rattle.kw_kept.specs.Kept.{Rebuilds}
use Rattle.kw_kept.specs.Puts.{HasGreatest, Shows}
use Rattle.kw_kept.proofs.GreatestFound.{greatest_found}
use Rattle.kw_kept.proofs.GreatestPut.{greatest_of_same}
use Rattle.kw_puts.specs.Below.{Below}
use Rattle.kw_reads.specs.Contents.{InRow, Needs, puts_of}
use Rattle.kw_puts.proofs.CellsOf.{place_order}
use Rattle.kw_puts.specs.Builds.{Copied, HasPlanned, IsCellOf, IsGathered, has_place}
use Rattle.kw_shape.proofs.Hands.{HasGroup, row_of_group}
use Rattle.kw_shape.proofs.LinkedRows.{ComesNow, balance_at}
use Rattle.kw_shape.proofs.MayReplace.{has_start, held_row, may_replace}
use Rattle.kw_puts.proofs.GroupCells.{cell_below}
use Rattle.kw_puts.proofs.GroupRows.{second_apart}
use Rattle.kw_puts.proofs.GroupKeys.{cells_rise, place_of_cell, same_row}
use Rattle.kw_reads.proofs.NewRows.{cell_in_new}
use Rattle.kw_reads.proofs.RowCells.{is_put_stays}
use Rattle.kw_reads.proofs.ShownCells.{AreInOrder, IsPutIn, cell_of, gathered_apart, shown_cells}

-- Lists of cells.

-- a cell is the first of some, or one behind it
first_or_behind : (d : Cell) (cells : List Cell) (c : Cell) → Contains (d ∷ cells) c → (d ≡ c) ⊎ Contains cells c
first_or_behind d cells c (zero, o, e) = inl e
first_or_behind d cells c (suc k, o, e) = inr (k, omega (arith, o), e)

-- a cell has its place among those of the cells, and such a place is that of a cell
has_its_place : (cells : List Cell) (c : Cell) → Contains cells c → has_place c.place cells ≡ true
has_its_place [] c (k, o, e) = absurd (omega (arith, o))
has_its_place (d ∷ cells) c x = which (first_or_behind d cells c x) (cases_eq d.place c.place) (has_its_place cells c)
  where
    which : (d ≡ c) ⊎ Contains cells c → (d.place ≡ c.place) ⊎ (d.place ≡ c.place → ⊥) → (Contains cells c → has_place c.place cells ≡ true) → has_place c.place (d ∷ cells) ≡ true
    which m (inl e) f = chosen d.place c.place true (has_place c.place cells) e
    which (inl m) (inr n) f = absurd (n (ap (λ (b : Cell). b.place) m))
    which (inr m) (inr n) f = not_chosen d.place c.place true (has_place c.place cells) n ∙ f m

-- a place at which a cell was gathered is that of one of the cells
place_has : (cells : List Cell) (n : ℕ) → has_place n cells ≡ true → (c : Cell) × Contains cells c × (c.place ≡ n)
place_has [] n e = let x : false ≡ true = e in absurd (cc)
place_has (d ∷ cells) n e = which (cases_eq d.place n) (place_has cells n)
  where
    which : (d.place ≡ n) ⊎ (d.place ≡ n → ⊥) → (has_place n cells ≡ true → (c : Cell) × Contains cells c × (c.place ≡ n)) → (c : Cell) × Contains (d ∷ cells) c × (c.place ≡ n)
    which (inl f) g = (d, (0, omega arith, refl), f)
    which (inr f) g = let x = g (sym (not_chosen d.place n true (has_place n cells) f) ∙ e) in (x.0, (suc x.1.0, omega (arith, x.1.1), x.1.2), x.2)

-- each cell of a part is one of all
part_contains : (a b : ℕ) (cells : List Cell) (c : Cell) → Contains (take a (drop b cells)) c → Contains cells c
part_contains a b cells c (k, o, e) = (b + k, omega (arith, o, length-take a (drop b cells), length-drop b cells), sym (get_or-take a (drop b cells) k c (omega (arith, o, length-take a (drop b cells))) ∙ get_or-drop b cells k c) ∙ e)

-- A row has a cell of a put or has none.

-- a cell below a number stands for the put, or none does
origin_or_not : (o : ℕ → Option ℕ) (p n : ℕ) → ((c : ℕ) × (c < n) × (o c ≡ Some p)) ⊎ ((c : ℕ) → c < n → o c ≢ Some p)
origin_or_not o p zero = inr (λ c w e. omega (arith, w))
origin_or_not o p (suc n) = which (o n) refl (origin_or_not o p n)
  where
    wider : ((c : ℕ) × (c < n) × (o c ≡ Some p)) → (c : ℕ) × (c < suc n) × (o c ≡ Some p)
    wider x = (x.0, omega (arith, x.1), x.2)

    none : o n ≢ Some p → ((c : ℕ) → c < n → o c ≢ Some p) → (c : ℕ) → c < suc n → o c ≢ Some p
    none d f c w e = at (cases_eq c n)
      where
        at : (c ≡ n) ⊎ (c ≡ n → ⊥) → ⊥
        at (inl m) = d (subst (λ k. o k ≡ Some p) m e)
        at (inr m) = f c (omega (arith, w, m)) e

    here : (x : ℕ) → o n ≡ Some x → (x ≡ p) ⊎ (x ≡ p → ⊥) → ((c : ℕ) → c < n → o c ≢ Some p) → ((c : ℕ) × (c < suc n) × (o c ≡ Some p)) ⊎ ((c : ℕ) → c < suc n → o c ≢ Some p)
    here x e (inl m) f = inl (n, omega arith, e ∙ ap Some m)
    here x e (inr m) f = inr (none (λ y. m (same_Some x p (sym e ∙ y))) f)

    which : (x : Option ℕ) → o n ≡ x → ((c : ℕ) × (c < n) × (o c ≡ Some p)) ⊎ ((c : ℕ) → c < n → o c ≢ Some p) → ((c : ℕ) × (c < suc n) × (o c ≡ Some p)) ⊎ ((c : ℕ) → c < suc n → o c ≢ Some p)
    which x e (inl y) = inl (wider y)
    which None e (inr f) = inr (none (λ y. let z : None ≡ Some p = sym e ∙ y in cc) f)
    which (Some x) e (inr f) = here x e (cases_eq x p) f

-- the row has a cell of the put, or it has none
in_row_or_not : (z : Sizes) (r : Run) (q p : ℕ) → InRow z r q p ⊎ (InRow z r q p → ⊥)
in_row_or_not z r q p = which (origin_or_not (r.origin q) p z.cells) (attempt r.history p).is_stamped refl
  where
    which : ((c : ℕ) × (c < z.cells) × (r.origin q c ≡ Some p)) ⊎ ((c : ℕ) → c < z.cells → r.origin q c ≢ Some p) → (b : Bool) → (attempt r.history p).is_stamped ≡ b → InRow z r q p ⊎ (InRow z r q p → ⊥)
    which (inl x) true e = inl (record { cell = x.0; within = x.1; origin = x.2; is_put = e })
    which (inl x) false e = inr (λ y. let t : true ≡ false = sym y.is_put ∙ e in cc)
    which (inr f) b e = inr (λ y. f y.cell y.within y.origin)

-- no two attempts were given their cells at one event
adds_apart : {z : Sizes} {r : Run} → Below z r → (p q : ℕ) → p < length r.history.attempts → q < length r.history.attempts → (attempt r.history p).add ≡ (attempt r.history q).add → p ≡ q
adds_apart {z} {r} i p q o w e = which (cases_order p q)
  where
    which : (p ≡ q) ⊎ ((p < q) ⊎ (q < p)) → p ≡ q
    which (inl f) = f
    which (inr (inl f)) = absurd (omega (arith, i.history.laws.adds p q f w, e))
    which (inr (inr f)) = absurd (omega (arith, i.history.laws.adds q p f o, e))

-- what a row has has a greatest
pub row_greatest : (z : Sizes) (r : Run) → Below z r → (q k u : ℕ) → HasGreatest (puts_of r.history) (InRow z r q) k u
row_greatest z r i q k u = greatest_found (puts_of r.history) (InRow z r q) k u (in_row_or_not z r q) (λ p e x w. adds_apart i p e (in_range r.history p x.is_put) (in_range r.history e w.is_put)) (length r.history.attempts) (λ p x. in_range r.history p x.is_put)

module _ {z : Sizes} {r r' : Run} {s : ℕ} {choice : Choice} {l l' : Local} (h : Happens z r r' s choice l l' (Activity.Rebalance (Rebalance.Replace Replace.Exchange))) (i : Below z r) (st : Step r.history r'.history (log_entry z r (Activity.Rebalance (Rebalance.Replace Replace.Exchange)) s choice l)) (q : ℕ) (y : ComesNow (word z r.world) r.ledger.rows r'.ledger.rows s (length r.history.log) l (Activity.Rebalance (Rebalance.Replace Replace.Exchange)) q) where
  -- its place among the new rows
  place : (n : ℕ) × (slice_get l.rebalance.taken n ≡ Some q)
  place = index_of_row l.rebalance.taken q y.taken

  -- the seat has its plan
  planned : HasPlanned (nursing_of l.activity)
  planned = subst (λ a. HasPlanned (nursing_of a)) (sym h.activity) tt

  -- the row is written whole
  whole : IsWhole (nursing_of l.activity) l place.0
  whole = subst (λ a. IsWhole (nursing_of a) l place.0) (sym h.activity) tt

  -- each key is of one row of its group
  one_row : (x w k : ℕ) → IsOfGroup l x → IsOfGroup l w → HoldsKey (word z r.world) r.ledger.rows x k → HoldsKey (word z r.world) r.ledger.rows w k → x ≡ w
  one_row = same_row (rows_in (word z r.world)) r.ledger.rows i.shape.rows.closed l (held_row h i.shape l.row (inl refl)) (balance_at (Activity.Rebalance (Rebalance.Replace Replace.Exchange)) h i.shape).group

  -- What is gathered, and what is kept of it.

  -- the kept cells are those of the plan
  kept_is : l.rebalance.kept ≡ kept_of l.rebalance.gathered l.rebalance.needed
  kept_is = (subst (λ b. Plans z b l) h.activity (i.shape.plans s l h.knows)).kept tt

  -- the gathered cells are of the group
  gathered : All (IsGathered r.history (source z r.origin l)) l.rebalance.gathered
  gathered = (i.puts.builds s l h.knows).collected planned

  -- the rows there may hold their keys
  held : All (HoldsGathered z (word z r.world) r.ledger.rows l) l.rebalance.gathered
  held = (i.shape.keys s l h.knows).gathered (subst HasGathered (sym h.activity) tt)

  -- each kept cell was gathered
  kept_given : (c : Cell) → Contains l.rebalance.kept c → Contains l.rebalance.gathered c
  kept_given c x = All-contains (Contains l.rebalance.gathered) l.rebalance.kept c (subst (All (Contains l.rebalance.gathered)) (sym kept_is) (kept_of-given l.rebalance.gathered l.rebalance.needed)) x

  -- so the kept cells are of the group
  kept : All (IsGathered r.history (source z r.origin l)) l.rebalance.kept
  kept = subst (All (IsGathered r.history (source z r.origin l))) (sym kept_is) (kept_of-all (IsGathered r.history (source z r.origin l)) l.rebalance.gathered l.rebalance.needed gathered)

  -- a gathered cell is of the put at its place
  is_cell : (c : Cell) (p : ℕ) → Contains l.rebalance.gathered c → source z r.origin l c.place ≡ Some p → IsCellOf r.history c p
  is_cell c p x e = cell_of r.history (source z r.origin l) c p (All-contains (IsGathered r.history (source z r.origin l)) l.rebalance.gathered c gathered x) e

  -- its place is one of the group, and the row there holds the key
  is_held : (c : Cell) → Contains l.rebalance.gathered c → HoldsGathered z (word z r.world) r.ledger.rows l c
  is_held c x = All-contains (HoldsGathered z (word z r.world) r.ledger.rows l) l.rebalance.gathered c held x

  is_place : (c : Cell) → Contains l.rebalance.gathered c → IsOfGroup l (row_at z l c.place)
  is_place c x = row_of_group z l c.place (is_held c x).0

  -- so cells of one key are of one row
  cells_together : (c d : Cell) → Contains l.rebalance.gathered c → Contains l.rebalance.gathered d → c.key ≡ d.key → row_at z l c.place ≡ row_at z l d.place
  cells_together c d x w e = one_row (row_at z l c.place) (row_at z l d.place) d.key (is_place c x) (is_place d w) (subst (HoldsKey (word z r.world) r.ledger.rows (row_at z l c.place)) e (is_held c x).1) (is_held d w).1

  -- gathered cells of one key and version stand in the order of their puts
  in_order : AreInOrder r.history (source z r.origin l) l.rebalance.gathered
  in_order c d p e a b o x w k v =
      let row = cells_together c d a b (sym (is_cell c p a x).key ∙ k ∙ (is_cell d e b w).key) in
      place_order i.puts i.history (row_at z l c.place) (cell_at z c.place) (cell_at z d.place) p e ((may_replace h i.shape).linked (row_at z l c.place) (is_place c a)) (cells_rise z l apart c.place d.place o (is_held d b).0 row) (cell_below z l d.place (is_held d b).0) x (ap (λ g. r.origin g (cell_at z d.place)) row ∙ w) k v
    where
      apart : l.rebalance.second ≢ Some l.row
      apart = second_apart z r i.shape s l h.knows (subst HasGroup (sym h.activity) tt)

  -- at a listed version, and at one that no gathered cell is above, the kept cells show what the
  -- gathered ones do
  kept_shows : (k u : ℕ) → Contains l.rebalance.needed u ⊎ All (λ c. c.version ≤ u) l.rebalance.gathered → Shows (puts_of r.history) (IsPutIn (source z r.origin l) l.rebalance.kept) (IsPutIn (source z r.origin l) l.rebalance.gathered) k u
  kept_shows k u at = shown_cells r.history (source z r.origin l) l.rebalance.gathered l.rebalance.kept gathered in_order kept (λ c d p e a b. in_order c d p e (kept_given c a) (kept_given d b)) k u
      (shows_the_same l.rebalance.gathered l.rebalance.needed l.rebalance.kept apart list k u at)
    where
      apart : AreApart l.rebalance.gathered
      apart = gathered_apart r.history (source z r.origin l) l.rebalance.gathered gathered

      list : IsKeptList l.rebalance.gathered l.rebalance.needed l.rebalance.kept
      list = subst (IsKeptList l.rebalance.gathered l.rebalance.needed) (sym kept_is) (kept_of-list l.rebalance.gathered l.rebalance.needed apart)

  -- The rows of the group.

  -- each put of which such a row has a cell has a gathered one
  row_is : (g p : ℕ) → IsOfGroup l g → InRow z r g p → IsPutIn (source z r.origin l) l.rebalance.gathered p
  row_is g p o x =
      let c = place_of_cell z l g x.cell o x.within in
      let e : source z r.origin l c.0 ≡ Some p = ap (λ b. r.origin b (cell_at z c.0)) c.2 ∙ ap (r.origin g) c.3 ∙ x.origin in
      let m = place_has l.rebalance.gathered c.0 ((i.puts.builds s l h.knows).holds planned c.0 p c.1 e x.is_put) in
      record { cell = m.0; among = m.1; origin = subst (λ n. source z r.origin l n ≡ Some p) (sym m.2) e }

  -- each gathered cell is one of the row at its place
  cell_in : (c : Cell) (p : ℕ) → Contains l.rebalance.gathered c → source z r.origin l c.place ≡ Some p → InRow z r (row_at z l c.place) p
  cell_in c p x e = record { cell = cell_at z c.place; within = cell_below z l c.place (is_held c x).0; origin = e; is_put = (is_cell c p x e).stamped }

  -- so those of a key that a row holds are of that row
  row_has : (g k p : ℕ) → IsOfGroup l g → HoldsKey (word z r.world) r.ledger.rows g k → (attempt r.history p).key ≡ k → IsPutIn (source z r.origin l) l.rebalance.gathered p → InRow z r g p
  row_has g k p o x e m =
      let key : m.cell.key ≡ k = sym (is_cell m.cell p m.among m.origin).key ∙ e in
      subst (λ b. InRow z r b p) (one_row (row_at z l m.cell.place) g k (is_place m.cell m.among) o (subst (HoldsKey (word z r.world) r.ledger.rows (row_at z l m.cell.place)) key (is_held m.cell m.among).1) x) (cell_in m.cell p m.among m.origin)

  -- The new row.

  -- its cells stand for what the kept ones do
  copied : Copied z r.history r.origin r.listed (Activity.Rebalance (Rebalance.Replace Replace.Start)) (at_infant place.0 l) q
  copied = (i.puts.builds s l h.knows).whole place.0 q whole place.1

  -- and still do after the event
  stays : (c : ℕ) → r'.origin q c ≡ r.origin q c
  stays c = origin_stays (Activity.Rebalance (Rebalance.Replace Replace.Exchange)) h q c (λ x. x)

  -- each put of which it has a cell has a kept one
  new_is : (p : ℕ) → InRow z r' q p → IsPutIn (source z r.origin l) l.rebalance.kept p
  new_is p x = which (slice_get (infant_cells (at_infant place.0 l)) x.cell) refl
    where
      which : (o : Option Cell) → slice_get (infant_cells (at_infant place.0 l)) x.cell ≡ o → IsPutIn (source z r.origin l) l.rebalance.kept p
      which None e = let w : Some p ≡ None = sym x.origin ∙ stays x.cell ∙ copied.rest x.cell x.within tt e in absurd (cc)
      which (Some c) e = record {
        cell = c;
        among = part_contains _ _ l.rebalance.kept c (x.cell, slice_get_within (infant_cells (at_infant place.0 l)) x.cell c e, get_or_from_slice_get (infant_cells (at_infant place.0 l)) x.cell c c e);
        origin = sym (copied.gathered x.cell c x.within tt e) ∙ sym (stays x.cell) ∙ x.origin;
      }

  -- and of each kept cell of a key that it holds it has one
  new_has : (k p : ℕ) → HoldsKey (word z r'.world) r'.ledger.rows q k → (attempt r.history p).key ≡ k → IsPutIn (source z r.origin l) l.rebalance.kept p → InRow z r' q p
  new_has k p x e m = record {
    cell = j.0;
    within = few;
    origin = stays j.0 ∙ copied.gathered j.0 m.cell few tt at ∙ m.origin;
    is_put = is_put_stays z r r' s choice l (Activity.Rebalance (Rebalance.Replace Replace.Exchange)) l' h i st p is.stamped;
  }
    where
      is : IsCellOf r.history m.cell p
      is = cell_of r.history (source z r.origin l) m.cell p (All-contains (IsGathered r.history (source z r.origin l)) l.rebalance.kept m.cell kept m.among) m.origin

      j : Contains (infant_cells (at_infant place.0 l)) m.cell
      j = cell_in_new h i.shape place.0 q place.1 k y.fate x m.cell m.among (sym is.key ∙ e)

      few : j.0 < z.cells
      few = omega (arith, j.1, (i.shape.sane.locals s l h.knows).ranges.rebalance.fits place.0 (omega (arith, has_start h i.shape place.0 q place.1)))

      at : slice_get (infant_cells (at_infant place.0 l)) j.0 ≡ Some m.cell
      at = slice_get-get_or (infant_cells (at_infant place.0 l)) j.0 m.cell j.1 ∙ ap Some j.2

  -- Together.

  -- a row of the group that held a key of the new one
  module _ (k : ℕ) (x : HoldsKey (word z r'.world) r'.ledger.rows q k) (g : ℕ) (o : IsOfGroup l g) (f : HoldsKey (word z r.world) r.ledger.rows g k) where
    -- the new row shows what that one did
    new_shows : (u : ℕ) → Contains l.rebalance.needed u ⊎ All (λ c. c.version ≤ u) l.rebalance.gathered → Shows (puts_of r.history) (InRow z r' q) (InRow z r g) k u
    new_shows u at b t v w = kept_shows k u at b t
        (greatest_of_same (puts_of r.history) (InRow z r' q) (IsPutIn (source z r.origin l) l.rebalance.kept) k u u b (λ p e m n. (new_is p m, n)) (λ p e m n. (new_has k p x e m, n)) v)
        (greatest_of_same (puts_of r.history) (InRow z r g) (IsPutIn (source z r.origin l) l.rebalance.gathered) k u u t (λ p e m n. (row_is g p o m, n)) (λ p e m n. (row_has g k p o f e m, n)) w)

    -- so it was built of it
    pub is_rebuilt : (n : Needs z r (Activity.Rebalance (Rebalance.Replace Replace.Exchange)) l) → Rebuilds (puts_of r.history) (InRow z r g) (InRow z r' q) (Contains l.rebalance.needed) k n.most n.most
    is_rebuilt n = record {
      of_old = λ p m e. let w = new_is p m in row_has g k p o f e (record { cell = w.cell; among = kept_given w.cell w.among; origin = w.origin });
      bound = λ p m e. n.bound g p o m;
      found = λ u. row_greatest z r i g k u;
      at_listed = λ u m. new_shows u (inl m);
      at_newest = new_shows n.most (inr below);
    }
      where
        below : All (λ c. c.version ≤ n.most) l.rebalance.gathered
        below j d u =
            let w = gathered j d u in
            let among : Contains l.rebalance.gathered (get_or l.rebalance.gathered j d) = Contains-get_or l.rebalance.gathered j d u in
            omega (arith, w.is.version, n.bound _ w.put (is_place (get_or l.rebalance.gathered j d) among) (cell_in (get_or l.rebalance.gathered j d) w.put among w.origin))
