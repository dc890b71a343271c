-- The cells of a row that an entry names, and those that are reached by links, have keys that the
-- row may hold: so it stays at every event, and so it is of the rows that are linked now.
--
-- A key is stored once, by a put whose key the row may hold. An entry that comes to name a cell,
-- and a link that comes to lead to one, do so by a seat that knows this of the cell and, where a
-- link does, of all that is reached from it. So what is reached by the new link is so, wherever one
-- came from.
use Rattle.std.proofs.Common.{ℕ, ◌≡◌, ◌≢◌, ◌⊎◌, inl, inr, ◌<◌, ◌≤◌, Option, Some, None, arith, refl, sym, ◌∙◌, ap, subst, length}
use Rattle.std.proofs.lemmas.Bool.{cases_eq}
use Rattle.std.proofs.lemmas.Option.{same_Some}
use Rattle.kw_words.specs.declared.layout.Name.TheVariants as name
use Rattle.kw_words.specs.declared.pend.Pend.{Pend}
use Rattle.kw_words.specs.declared.pend.Pend.TheVariants as pend
use Rattle.kw_words.specs.declared.sizes.TheConstants.{MOST_CELLS}
use Rattle.kw_words.specs.Pend.{IsPend, pend_of, pend_word}
use Rattle.kw_words.specs.Plain.{IsCell, cell_link_word, cell_of_link_word, key_of_word}
use Rattle.kw_words.proofs.PendWords.{pend_of-pend_word}
use Rattle.kw_words.proofs.PlainWords.{cell_of_link_word-cell_link_word, key_of_word-key_word}
use Rattle.kw_rows.specs.Ledger.{Ledger}
use Rattle.kw_rows.specs.Rows as rows
use Rattle.kw_rows.specs.Rows.{WasLinked}
use Rattle.kw_world.specs.declared.activity.Activity.{Activity}
use Rattle.kw_world.specs.declared.activity.rebalance.freeze.Freeze.TheVariants as Freeze
use Rattle.kw_world.specs.declared.activity.insert.Insert.TheVariants as Insert
use Rattle.kw_world.specs.declared.activity.look.Look.TheVariants as Look
use Rattle.kw_world.specs.declared.activity.put.Put.TheVariants as Put
use Rattle.kw_world.specs.declared.activity.rebalance.Rebalance.TheVariants as Rebalance
use Rattle.kw_world.specs.declared.event.Choice.{Choice}
use Rattle.kw_world.specs.declared.local.Local.{Local}
use Rattle.kw_world.specs.Calls.{first_key}
use Rattle.kw_world.specs.ListTransitions.{link_name}
use Rattle.kw_world.specs.Sane.{IsActivity, IsCellBelow, IsEntry, IsKnown, IsSane}
use Rattle.kw_world.specs.Sizes.{Sizes}
use Rattle.kw_world.specs.Step.{word}
use Rattle.kw_core.specs.Run.{Run}
use Rattle.kw_core.specs.Words.{Words, built_in}
use Rattle.kw_core.proofs.Happens.{Happens, exchanged, not_exchanged}
use Rattle.kw_core.proofs.InRange.{first_in_range}
use Rattle.kw_shape.proofs.Known.{AreSane, link_below, linked_below}
use Rattle.kw_shape.proofs.LinkedRows.{ComesNow, holds_put, holds_stays, linked_before, linked_entry, linked_keeps, linked_key, linked_link, was_below}
use Rattle.kw_shape.proofs.NewRowsKeyed.{new_rows_keyed}
use Rattle.kw_shape.specs.Keyed.{HoldsCell, HoldsFrom, IsOfCell, Keyed, Keys, Reaches, is_there, leads_on}
use Rattle.kw_shape.specs.RowsIn.{rows_in}
use Rattle.kw_shape.specs.Shape.{Shape}

-- an entry of a cell is one of a cell that the row has
pub cell_of_entry : (z : Sizes) (c : ℕ) (x : Option Pend) → IsEntry z x → IsOfCell c x → c < z.cells
cell_of_entry z c (Some pend.Idle) e o = absurd o
cell_of_entry z c (Some (pend.Pending cell)) e o = subst (λ (d : ℕ). d < z.cells) o e
cell_of_entry z c (Some (pend.Stamped cell version)) e o = subst (λ (d : ℕ). d < z.cells) o e.0
cell_of_entry z c (Some pend.Frozen) e o = absurd o
cell_of_entry z c None e o = absurd o

-- a link that is stored leads where it should
pub stored_leads : (z : Sizes) (held : Option ℕ) (c : ℕ) → IsCell held → cell_of_link_word (cell_link_word held) ≡ Some c → held ≡ Some c
stored_leads z held c i e = sym (cell_of_link_word-cell_link_word held i) ∙ e

-- a link to a cell of the row, and to none, fits its word
pub cell_fits : {n : ℕ} (held : Option ℕ) → IsCellBelow n held → n ≤ MOST_CELLS → IsCell held
cell_fits (Some c) o m = omega (arith, o, m)
cell_fits None o m = tt

-- two links between cells are one, or not
same_link : (x y : Option ℕ) → (x ≡ y) ⊎ (x ≡ y → ⊥)
same_link (Some c) (Some d) = which (cases_eq c d)
  where
    which : (c ≡ d) ⊎ (c ≡ d → ⊥) → (Some c ≡ Some d) ⊎ (Some c ≡ Some d → ⊥)
    which (inl e) = inl (ap Some e)
    which (inr n) = inr (λ e. n (same_Some c d e))
same_link (Some c) None = inr (λ e. let x : Some c ≡ None = e in cc)
same_link None (Some d) = inr (λ e. let x : None ≡ Some d = e in cc)
same_link None None = inl refl

-- an entry after an exchange that names a cell: it was there, or is the new one
entry_exchanged : (P : Option Pend → Type 0) (found after : ℕ) (x y : Pend) → IsPend y → (found ≡ pend_word x → after ≡ pend_word y) → (found ≢ pend_word x → after ≡ found) → P (pend_of after) → P (pend_of found) ⊎ (found ≡ pend_word x) × P (Some y)
entry_exchanged P found after x y i won lost p = which (cases_eq found (pend_word x))
  where
    which : (found ≡ pend_word x) ⊎ (found ≡ pend_word x → ⊥) → P (pend_of found) ⊎ (found ≡ pend_word x) × P (Some y)
    which (inl e) = inr (e, subst P (pend_of-pend_word y i) (subst (λ w. P (pend_of w)) (won e) p))
    which (inr d) = inl (subst (λ w. P (pend_of w)) (lost d) p)

-- a pending entry names its cell
was_pending : (c found cell : ℕ) → found ≡ pend_word (pend.Pending cell) → IsPend (pend.Pending cell) → cell ≡ c → IsOfCell c (pend_of found)
was_pending c found cell e i f = subst (IsOfCell c) (sym (ap pend_of e ∙ pend_of-pend_word (pend.Pending cell) i)) f

-- a link that leads to a cell after an event did so before it, or comes to lead to one from which
-- on the row might hold all keys before it
abbrev LedBefore : Words → Ledger → ℕ → Option ℕ → ℕ → Type 0
LedBefore v g q at c = (cell_of_link_word (v (link_name q at)) ≡ Some c) ⊎ HoldsFrom v g q c

module _ {z : Sizes} {r r' : Run} {s : ℕ} {choice : Choice} {l l' : Local} where
  -- what the acting seat knows of keys, at its activity
  pub keys_at : (a : Activity) → Happens z r r' s choice l l' a → Shape z r → Keys z (word z r.world) r.ledger.rows a l
  keys_at a h i = subst (λ b. Keys z (word z r.world) r.ledger.rows b l) h.activity (i.keys s l h.knows)

  known_at : (a : Activity) → Happens z r r' s choice l l' a → Shape z r → IsKnown z r.world.rows l
  known_at a h i = i.sane.locals s l h.knows

  -- a row that was linked may hold the keys that it might
  pub key_keeps : (a : Activity) → Happens z r r' s choice l l' a → Shape z r → (q key : ℕ) → WasLinked r.ledger.rows q → rows.HoldsKey (rows_in (word z r.world)) r.ledger.rows q key → rows.HoldsKey (rows_in (word z r'.world)) r'.ledger.rows q key
  key_keeps a h i q key k x = let y = linked_keeps a h i q k in holds_stays (word z r.world) (word z r'.world) r.ledger.rows r'.ledger.rows q key y.upper y.least x

  -- and those of its cells whose words are as they were
  same_cell : (a : Activity) → Happens z r r' s choice l l' a → Shape z r → (q c : ℕ) → WasLinked r.ledger.rows q → word z r'.world (name.Key q c) ≡ word z r.world (name.Key q c) → HoldsCell (word z r.world) r.ledger.rows q c → HoldsCell (word z r'.world) r'.ledger.rows q c
  same_cell a h i q c k e x = subst (rows.HoldsKey (rows_in (word z r'.world)) r'.ledger.rows q) (sym (ap key_of_word e)) (key_keeps a h i q _ k x)

  -- the key that a put stores is one that its row may hold
  pub put_key_holds : Happens z r r' s choice l l' (Activity.Put Put.Key) → Shape z r → WasLinked r.ledger.rows l.row → HoldsCell (word z r'.world) r'.ledger.rows l.row l.cell
  put_key_holds h i k =
      let e : key_of_word (word z r'.world (name.Key l.row l.cell)) ≡ first_key l.call = ap key_of_word h.changed.same ∙ key_of_word-key_word (first_key l.call) (first_in_range l.call (known_at (Activity.Put Put.Key) h i).ranges.call) in
      subst (rows.HoldsKey (rows_in (word z r'.world)) r'.ledger.rows l.row) (sym e) (key_keeps (Activity.Put Put.Key) h i l.row (first_key l.call) k (holds_put z r s l (Activity.Put Put.Key) i h.knows h.activity tt tt (λ x. x)))

  -- so each cell of a row that was linked has a key that the row may hold, where it had one
  pub cell_keeps : (a : Activity) → Happens z r r' s choice l l' a → Shape z r → (q c : ℕ) → WasLinked r.ledger.rows q → c < z.cells → HoldsCell (word z r.world) r.ledger.rows q c → HoldsCell (word z r'.world) r'.ledger.rows q c
  cell_keeps (Activity.Put Put.Key) h i q c k o x = which (cases_eq q l.row) (cases_eq c l.cell)
    where
      which : (q ≡ l.row) ⊎ (q ≡ l.row → ⊥) → (c ≡ l.cell) ⊎ (c ≡ l.cell → ⊥) → HoldsCell (word z r'.world) r'.ledger.rows q c
      which (inl e) (inl f) = subst (λ y. HoldsCell (word z r'.world) r'.ledger.rows y c) (sym e) (subst (HoldsCell (word z r'.world) r'.ledger.rows l.row) (sym f) (put_key_holds h i (subst (WasLinked r.ledger.rows) e k)))
      which (inl e) (inr d) = same_cell (Activity.Put Put.Key) h i q c k (linked_key (Activity.Put Put.Key) h i q c k o (λ w f g. d g)) x
      which (inr d) f = same_cell (Activity.Put Put.Key) h i q c k (linked_key (Activity.Put Put.Key) h i q c k o (λ w f g. d f)) x
  cell_keeps a h i q c k o x = same_cell a h i q c k (linked_key a h i q c k o (λ w f g. w)) x

  -- Entries.

  -- an entry of the row on which the seat acts, and every other one
  at_entry : (a : Activity) → Happens z r r' s choice l l' a → Shape z r → (q j c y m : ℕ) → WasLinked r.ledger.rows q → j < z.seats → IsOfCell c (pend_of (word z r'.world (name.Pend q j))) → (WasLinked r.ledger.rows y → IsOfCell c (pend_of (word z r'.world (name.Pend y m))) → HoldsCell (word z r.world) r.ledger.rows y c) →
      ((q ≡ y → j ≡ m → ⊥) → word z r'.world (name.Pend q j) ≡ word z r.world (name.Pend q j)) → HoldsCell (word z r.world) r.ledger.rows q c
  at_entry a h i q j c y m k o x there other = which (cases_eq q y) (cases_eq j m)
    where
      same : (q ≡ y → j ≡ m → ⊥) → HoldsCell (word z r.world) r.ledger.rows q c
      same d = (i.keyed q k).named j c o (subst (λ w. IsOfCell c (pend_of w)) (other d) x)

      which : (q ≡ y) ⊎ (q ≡ y → ⊥) → (j ≡ m) ⊎ (j ≡ m → ⊥) → HoldsCell (word z r.world) r.ledger.rows q c
      which (inl e) (inl f) =
          let p : IsOfCell c (pend_of (word z r'.world (name.Pend y m))) = subst (λ n. IsOfCell c (pend_of (word z r'.world (name.Pend y n)))) f (subst (λ n. IsOfCell c (pend_of (word z r'.world (name.Pend n j)))) e x) in
          subst (λ n. HoldsCell (word z r.world) r.ledger.rows n c) (sym e) (there (subst (WasLinked r.ledger.rows) e k) p)
      which (inl e) (inr d) = same (λ f g. d g)
      which (inr d) f = same (λ e g. d e)

  -- one that names a cell after the event names one whose key the row might hold before it
  named_before : (a : Activity) → Happens z r r' s choice l l' a → Shape z r → (q j c : ℕ) → WasLinked r.ledger.rows q → j < z.seats → IsOfCell c (pend_of (word z r'.world (name.Pend q j))) → HoldsCell (word z r.world) r.ledger.rows q c
  named_before (Activity.Look Look.Help) h i q j c k o x = at_entry (Activity.Look Look.Help) h i q j c l.row l.looked k o x there (λ d. linked_entry (Activity.Look Look.Help) h i q j k o (λ w e f. w) (λ w e f. d e f) (λ w e. w))
    where
      known : IsKnown z r.world.rows l
      known = known_at (Activity.Look Look.Help) h i

      there : WasLinked r.ledger.rows l.row → IsOfCell c (pend_of (word z r'.world (name.Pend l.row l.looked))) → HoldsCell (word z r.world) r.ledger.rows l.row c
      there y p = which (entry_exchanged (IsOfCell c) (word z r.world (name.Pend l.row l.looked)) (word z r'.world (name.Pend l.row l.looked)) (pend.Pending l.saw) (pend.Stamped l.saw l.helping) (omega (arith, known.ranges.saw, i.sane.sized.few_cells), known.ranges.helping.0, known.ranges.helping.1) (exchanged _ _ _ _ h.changed.same) (not_exchanged _ _ _ _ h.changed.same) p)
        where
          which : IsOfCell c (pend_of (word z r.world (name.Pend l.row l.looked))) ⊎ (word z r.world (name.Pend l.row l.looked) ≡ pend_word (pend.Pending l.saw)) × (l.saw ≡ c) → HoldsCell (word z r.world) r.ledger.rows l.row c
          which (inl m) = (i.keyed l.row y).named l.looked c known.ranges.looked m
          which (inr m) = (i.keyed l.row y).named l.looked c known.ranges.looked (was_pending c _ l.saw m.0 (omega (arith, known.ranges.saw, i.sane.sized.few_cells)) m.1)
  named_before (Activity.Put Put.Announce) h i q j c k o x = at_entry (Activity.Put Put.Announce) h i q j c l.row s k o x there (λ d. linked_entry (Activity.Put Put.Announce) h i q j k o (λ w e f. d e f) (λ w e f. w) (λ w e. w))
    where
      there : WasLinked r.ledger.rows l.row → IsOfCell c (pend_of (word z r'.world (name.Pend l.row s))) → HoldsCell (word z r.world) r.ledger.rows l.row c
      there y p = which (entry_exchanged (IsOfCell c) (word z r.world (name.Pend l.row s)) (word z r'.world (name.Pend l.row s)) pend.Idle (pend.Pending l.cell) (omega (arith, (known_at (Activity.Put Put.Announce) h i).ranges.cell, i.sane.sized.few_cells)) (exchanged _ _ _ _ h.changed.same) (not_exchanged _ _ _ _ h.changed.same) p)
        where
          which : IsOfCell c (pend_of (word z r.world (name.Pend l.row s))) ⊎ (word z r.world (name.Pend l.row s) ≡ pend_word pend.Idle) × (l.cell ≡ c) → HoldsCell (word z r.world) r.ledger.rows l.row c
          which (inl m) = (i.keyed l.row y).named s c h.seat m
          which (inr m) = subst (HoldsCell (word z r.world) r.ledger.rows l.row) m.1 ((keys_at (Activity.Put Put.Announce) h i).own tt)
  named_before (Activity.Put Put.Stamp) h i q j c k o x = at_entry (Activity.Put Put.Stamp) h i q j c l.row s k o x there (λ d. linked_entry (Activity.Put Put.Stamp) h i q j k o (λ w e f. d e f) (λ w e f. w) (λ w e. w))
    where
      known : IsKnown z r.world.rows l
      known = known_at (Activity.Put Put.Stamp) h i

      there : WasLinked r.ledger.rows l.row → IsOfCell c (pend_of (word z r'.world (name.Pend l.row s))) → HoldsCell (word z r.world) r.ledger.rows l.row c
      there y p = which (entry_exchanged (IsOfCell c) (word z r.world (name.Pend l.row s)) (word z r'.world (name.Pend l.row s)) (pend.Pending l.cell) (pend.Stamped l.cell l.version) (omega (arith, known.ranges.cell, i.sane.sized.few_cells), known.ranges.version.0, known.ranges.version.1) (exchanged _ _ _ _ h.changed.same) (not_exchanged _ _ _ _ h.changed.same) p)
        where
          which : IsOfCell c (pend_of (word z r.world (name.Pend l.row s))) ⊎ (word z r.world (name.Pend l.row s) ≡ pend_word (pend.Pending l.cell)) × (l.cell ≡ c) → HoldsCell (word z r.world) r.ledger.rows l.row c
          which (inl m) = (i.keyed l.row y).named s c h.seat m
          which (inr m) = subst (HoldsCell (word z r.world) r.ledger.rows l.row) m.1 ((keys_at (Activity.Put Put.Stamp) h i).own tt)
  named_before (Activity.Put Put.Clear) h i q j c k o x = at_entry (Activity.Put Put.Clear) h i q j c l.row s k o x (λ y p. absurd (subst (IsOfCell c) (ap pend_of h.changed.same ∙ pend_of-pend_word pend.Idle tt) p)) (λ d. linked_entry (Activity.Put Put.Clear) h i q j k o (λ w e f. d e f) (λ w e f. w) (λ w e. w))
  named_before (Activity.Rebalance (Rebalance.Freeze (Freeze.Entry n))) h i q j c k o x = at_entry (Activity.Rebalance (Rebalance.Freeze (Freeze.Entry n))) h i q j c l.rebalance.hand n k o x there (λ d. linked_entry (Activity.Rebalance (Rebalance.Freeze (Freeze.Entry n))) h i q j k o (λ w e f. w) (λ w e f. w) (λ f e. d e f))
    where
      inside : n < z.seats
      inside = subst (IsActivity z) h.activity (known_at (Activity.Rebalance (Rebalance.Freeze (Freeze.Entry n))) h i).ranges.activity

      there : WasLinked r.ledger.rows l.rebalance.hand → IsOfCell c (pend_of (word z r'.world (name.Pend l.rebalance.hand n))) → HoldsCell (word z r.world) r.ledger.rows l.rebalance.hand c
      there y p = which (entry_exchanged (IsOfCell c) (word z r.world (name.Pend l.rebalance.hand n)) (word z r'.world (name.Pend l.rebalance.hand n)) l.rebalance.entry pend.Frozen tt (exchanged _ _ _ _ h.changed.same) (not_exchanged _ _ _ _ h.changed.same) p)
        where
          which : IsOfCell c (pend_of (word z r.world (name.Pend l.rebalance.hand n))) ⊎ (word z r.world (name.Pend l.rebalance.hand n) ≡ pend_word l.rebalance.entry) × ⊥ → HoldsCell (word z r.world) r.ledger.rows l.rebalance.hand c
          which (inl m) = (i.keyed l.rebalance.hand y).named n c inside m
          which (inr m) = absurd m.1
  named_before a h i q j c k o x = (i.keyed q k).named j c o (subst (λ w. IsOfCell c (pend_of w)) (linked_entry a h i q j k o (λ w e f. w) (λ w e f. w) (λ w e. w)) x)

  -- Links.

  -- a link of the acting seat's row, and every other one
  at_link : (a : Activity) → Happens z r r' s choice l l' a → (q : ℕ) (at m : Option ℕ) (c : ℕ) → cell_of_link_word (word z r'.world (link_name q at)) ≡ Some c → (cell_of_link_word (word z r'.world (link_name l.row m)) ≡ Some c → LedBefore (word z r.world) r.ledger.rows l.row m c) →
      ((q ≡ l.row → at ≡ m → ⊥) → word z r'.world (link_name q at) ≡ word z r.world (link_name q at)) → LedBefore (word z r.world) r.ledger.rows q at c
  at_link a h q at m c x there other = which (cases_eq q l.row) (same_link at m)
    where
      same : (q ≡ l.row → at ≡ m → ⊥) → LedBefore (word z r.world) r.ledger.rows q at c
      same d = inl (ap cell_of_link_word (sym (other d)) ∙ x)

      which : (q ≡ l.row) ⊎ (q ≡ l.row → ⊥) → (at ≡ m) ⊎ (at ≡ m → ⊥) → LedBefore (word z r.world) r.ledger.rows q at c
      which (inl e) (inl f) =
          let y : cell_of_link_word (word z r'.world (link_name l.row m)) ≡ Some c = subst (λ n. cell_of_link_word (word z r'.world (link_name l.row n)) ≡ Some c) f (subst (λ n. cell_of_link_word (word z r'.world (link_name n at)) ≡ Some c) e x) in
          subst (λ n. LedBefore (word z r.world) r.ledger.rows n at c) (sym e) (subst (λ n. LedBefore (word z r.world) r.ledger.rows l.row n c) (sym f) (there y))
      which (inl e) (inr d) = same (λ f g. d g)
      which (inr d) f = same (λ e g. d e)

  led_before : (a : Activity) → Happens z r r' s choice l l' a → Shape z r → (q : ℕ) (at : Option ℕ) (c : ℕ) → WasLinked r.ledger.rows q → IsCellBelow z.cells at → cell_of_link_word (word z r'.world (link_name q at)) ≡ Some c → LedBefore (word z r.world) r.ledger.rows q at c
  led_before (Activity.Insert Insert.Set) h i q at c k o x =
      at_link (Activity.Insert Insert.Set) h q at (Some l.cell) c x (λ p. inr ((keys_at (Activity.Insert Insert.Set) h i).list c (stored_leads z l.held c (cell_fits l.held (known_at (Activity.Insert Insert.Set) h i).ranges.held i.sane.sized.few_cells) (sym (ap cell_of_link_word h.changed.same) ∙ p)))) (λ d. linked_link (Activity.Insert Insert.Set) h i q at k o (λ w e f. d e f) (λ w e f. w))
  led_before (Activity.Insert Insert.Exchange) h i q at c k o x = at_link (Activity.Insert Insert.Exchange) h q at l.link c x there (λ d. linked_link (Activity.Insert Insert.Exchange) h i q at k o (λ w e f. w) (λ w e f. d e f))
    where
      known : IsKnown z r.world.rows l
      known = known_at (Activity.Insert Insert.Exchange) h i

      there : cell_of_link_word (word z r'.world (link_name l.row l.link)) ≡ Some c → LedBefore (word z r.world) r.ledger.rows l.row l.link c
      there p = which (cases_eq (word z r.world (link_name l.row l.link)) (cell_link_word l.held))
        where
          which : (word z r.world (link_name l.row l.link) ≡ cell_link_word l.held) ⊎ (word z r.world (link_name l.row l.link) ≡ cell_link_word l.held → ⊥) → LedBefore (word z r.world) r.ledger.rows l.row l.link c
          which (inl e) =
              let f : Some l.cell ≡ Some c = stored_leads z (Some l.cell) c (omega (arith, known.ranges.cell, i.sane.sized.few_cells)) (sym (ap cell_of_link_word (exchanged _ _ _ _ h.changed.same e)) ∙ p) in
              inr ((keys_at (Activity.Insert Insert.Exchange) h i).list c (same_Some l.cell c f))
          which (inr d) = inl (sym (ap cell_of_link_word (not_exchanged _ _ _ _ h.changed.same d)) ∙ p)
  led_before a h i q at c k o x = inl (ap cell_of_link_word (sym (linked_link a h i q at k o (λ w e f. w) (λ w e f. w))) ∙ x)

  -- a link of a row that was linked leads to a cell that the row has
  led_within : (a : Activity) → Happens z r r' s choice l l' a → Shape z r → IsSane z r'.world → (q : ℕ) (at : Option ℕ) (c : ℕ) → WasLinked r.ledger.rows q → IsCellBelow z.cells at → cell_of_link_word (word z r'.world (link_name q at)) ≡ Some c → c < z.cells
  led_within a h i sane q at c k o x = linked_below (word z r'.world (link_name q at)) c z.cells x (link_below z r'.world.rows (word z r'.world) words q at o below)
    where
      below : q < r'.world.rows
      below = omega (arith, was_below z r i q k, h.rows)

      words : AreSane z r'.world.rows (word z r'.world)
      words = record { sized = sane.sized; each = sane.each; led = sane.led }

  -- so from each cell from which on the row might hold all keys it may hold them still
  pub from_keeps : (a : Activity) → Happens z r r' s choice l l' a → Shape z r → IsSane z r'.world → (q c d : ℕ) → WasLinked r.ledger.rows q → c < z.cells → HoldsFrom (word z r.world) r.ledger.rows q c → Reaches (word z r'.world) q c d → HoldsCell (word z r'.world) r'.ledger.rows q d
  from_keeps a h i sane q _ _ k o x (is_there c) = cell_keeps a h i q c k o (x c (is_there c))
  from_keeps a h i sane q _ _ k o x (leads_on c d e f m) = from_keeps a h i sane q d e k (led_within a h i sane q (Some c) d k o f) (which (led_before a h i q (Some c) d k o f)) m
    where
      which : LedBefore (word z r.world) r.ledger.rows q (Some c) d → HoldsFrom (word z r.world) r.ledger.rows q d
      which (inl y) = λ b n. x b (leads_on c d b y n)
      which (inr y) = y

  -- so a row that was linked has keys that it may hold
  pub keyed_stays : (a : Activity) → Happens z r r' s choice l l' a → Shape z r → IsSane z r'.world → (q : ℕ) → WasLinked r.ledger.rows q → Keyed z (word z r'.world) r'.ledger.rows q
  keyed_stays a h i sane q k = record {
    named = λ j c o x. cell_keeps a h i q c k (cell_of_entry z c _ (sane.each (name.Pend q j) (below, o)) x) (named_before a h i q j c k o x);
    first = λ c x d. from_keeps a h i sane q c d k (led_within a h i sane q None c k tt x) (at_first c (led_before a h i q None c k tt x));
    built = λ c x d. from_keeps a h i sane q c d k (omega (arith, x, few)) ((i.keyed q k).built c (omega (arith, x, same)));
  }
    where
      below : q < r'.world.rows
      below = omega (arith, was_below z r i q k, h.rows)

      -- it was built with as many cells, and has room for them
      same : built_in (word z r'.world) q ≡ built_in (word z r.world) q
      same = (linked_keeps a h i q k).built

      few : built_in (word z r'.world) q ≤ z.cells
      few = sane.each (name.Least q) below

      at_first : (c : ℕ) → LedBefore (word z r.world) r.ledger.rows q None c → HoldsFrom (word z r.world) r.ledger.rows q c
      at_first c (inl y) = (i.keyed q k).first c y
      at_first c (inr y) = y

  -- and so has each row that is linked now
  pub keyed_keeps : (a : Activity) → Happens z r r' s choice l l' a → Shape z r → IsSane z r'.world → (q : ℕ) → WasLinked r'.ledger.rows q → Keyed z (word z r'.world) r'.ledger.rows q
  keyed_keeps a h i sane q k = which (linked_before a h i q k)
    where
      which : WasLinked r.ledger.rows q ⊎ ComesNow (word z r.world) r.ledger.rows r'.ledger.rows s (length r.history.log) l a q → Keyed z (word z r'.world) r'.ledger.rows q
      which (inl x) = keyed_stays a h i sane q x
      which (inr x) = new_rows_keyed (subst (Happens z r r' s choice l l') x.replaces h) i x.won q x.taken
