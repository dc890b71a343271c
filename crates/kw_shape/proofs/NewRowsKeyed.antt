-- The cells of a new row have keys that the row may hold: so it is as it is linked.
--
-- A new row has no entry that names a cell, and its links lead from cells that were written to
-- such.
use Rattle.std.proofs.Common.{ℕ, ◌≡◌, ◌+◌, ◌-◌, ◌<◌, ◌≤◌, ◌&&◌, All, Bool, true, false, List, Option, Some, None, nat_lt, nat_le, arith, refl, sym, ◌∙◌, ap, subst, count_by, get_or, if◌then◌else◌, length, slice_get}
use Rattle.std.proofs.lemmas.List.Sums.{count_by-le-length}
use Rattle.std.proofs.lemmas.Option.{same_Some, slice_get-get_or, slice_get_within}
use Rattle.kw_words.specs.declared.layout.Name.TheVariants as name
use Rattle.kw_words.specs.declared.pend.Pend.TheVariants as pend
use Rattle.kw_words.specs.declared.sizes.TheConstants.{KEY_END, MOST_CELLS}
use Rattle.kw_words.specs.Link.{link_word}
use Rattle.kw_words.specs.Pend.{pend_of}
use Rattle.kw_words.specs.Plain.{IsCell, built_of_word, cell_link_word, cell_of_link_word, key_of_word, key_word}
use Rattle.kw_words.proofs.PendWords.{pend_of-pend_word}
use Rattle.kw_words.proofs.PlainWords.{built_of_word-least_word, cell_of_link_word-cell_link_word, key_of_word-key_word}
use Rattle.kw_cells.specs.declared.cell.Cell.{Cell}
use Rattle.kw_cells.proofs.Rising.{any_cell}
use Rattle.kw_rows.specs.Events.{IsIn}
use Rattle.kw_rows.specs.Ledger.{Fate, Ledger}
use Rattle.kw_rows.specs.Rows as rows
use Rattle.kw_world.specs.declared.activity.Activity.TheVariants as Activity
use Rattle.kw_world.specs.declared.activity.rebalance.Rebalance.TheVariants as Rebalance
use Rattle.kw_world.specs.declared.activity.rebalance.replace.Replace.TheVariants as Replace
use Rattle.kw_world.specs.declared.event.Choice.{Choice}
use Rattle.kw_world.specs.declared.local.Local.{Local}
use Rattle.kw_world.specs.ReplaceTransitions.{replaced_link}
use Rattle.kw_world.specs.SeekTransitions.{at_infant}
use Rattle.kw_world.specs.Sizes.{Sizes}
use Rattle.kw_world.specs.Step.{word}
use Rattle.kw_world.specs.Transition.{row_linked}
use Rattle.kw_world.specs.WriteTransitions.{first_listed, has_key, infant_cells, infant_least, key_in, last_with, listed_after, listed_behind, row_or, unmarked_link}
use Rattle.kw_core.specs.Ledger.{fate_live, least_of}
use Rattle.kw_core.specs.Run.{Run}
use Rattle.kw_core.specs.Words.{Words, built_in, least_in, next_in}
use Rattle.kw_core.proofs.Fates.{fate_of_new}
use Rattle.kw_core.proofs.Happens.{Happens}
use Rattle.kw_core.proofs.InfantFrames.{row_stays}
use Rattle.kw_shape.specs.Infants.{Written}
use Rattle.kw_shape.specs.Keyed.{HoldsCell, IsOfCell, Keyed, Reaches, is_there, leads_on}
use Rattle.kw_shape.specs.RowsIn.{rows_in}
use Rattle.kw_shape.specs.Shape.{Shape}
use Rattle.kw_shape.proofs.Hands.{of_group}
use Rattle.kw_shape.proofs.InfantsStay.{infant_links, taken_below, written_stays}
use Rattle.kw_shape.proofs.InfantsRely.{linked_not_infant, index_of_row}
use Rattle.kw_shape.proofs.LinkedRows.{fresh_linked, infants_at, search_at}
use Rattle.kw_shape.proofs.MayReplace.{has_start, is_plan, kept_below, kept_from, least_fits, least_of_new, may_replace}
use Rattle.kw_shape.proofs.Planned.{cells_below, cells_from, cells_have}
use Rattle.kw_shape.proofs.ReplaceEvent.{whole_next}

-- The links of a new row lead to its cells.

-- the last cell of a key is one of the cells
last_below : (cells : List Cell) (n c : ℕ) → last_with cells (slice_get cells n) ≡ Some c → c < length cells
last_below cells n c e = go (slice_get cells n) refl e
  where
    go : (o : Option Cell) → slice_get cells n ≡ o → last_with cells o ≡ Some c → c < length cells
    go None f k = let x : None ≡ Some c = k in absurd (cc)
    go (Some d) f k =
        let x : count_by (λ (y : Cell). nat_le y.key d.key) cells - 1 ≡ c = same_Some (count_by (λ (y : Cell). nat_le y.key d.key) cells - 1) c k in
        omega (arith, x, count_by-le-length (λ (y : Cell). nat_le y.key d.key) cells, slice_get_within cells n d f)

-- so is the one behind a cell
listed_below : (cells : List Cell) (j c : ℕ) → listed_after cells j ≡ Some c → c < length cells
listed_below cells j c e = go (slice_get cells j) refl e
  where
    go : (o : Option Cell) → slice_get cells j ≡ o → listed_behind cells j o ≡ Some c → c < length cells
    go None f k = let x : None ≡ Some c = k in absurd (cc)
    go (Some d) f k = by (nat_lt 0 j && has_key d.key (slice_get cells (j - 1))) k
      where
        by : (b : Bool) → (let x : Option ℕ = if b then Some (j - 1) else last_with cells (slice_get cells (count_by (λ (y : Cell). nat_le y.key d.key) cells)) in x) ≡ Some c → c < length cells
        by true m = omega (arith, same_Some (j - 1) c m, slice_get_within cells j d f)
        by false m = last_below cells (count_by (λ (y : Cell). nat_le y.key d.key) cells) c m

-- and a link to a cell of a row fits its word
link_fits : (o : Option ℕ) (n : ℕ) → ((c : ℕ) → o ≡ Some c → c < n) → n ≤ MOST_CELLS → IsCell o
link_fits (Some c) n f m = omega (arith, f c refl, m)
link_fits None n f m = tt

module _ (z : Sizes) (v : Words) (g : Ledger) (k : Local) (q : ℕ) (w : Written z v (Activity.Rebalance (Rebalance.Replace Replace.Start)) k q) (fits : All (λ c. c.key < KEY_END) (infant_cells k)) (few : length (infant_cells k) ≤ z.cells) (most : z.cells ≤ MOST_CELLS) (least : infant_least k < KEY_END) (held : All (λ c. rows.HoldsKey (rows_in v) g q c.key) (infant_cells k)) where
  -- each cell that was written has its key
  holds_cell : (c : ℕ) → c < length (infant_cells k) → HoldsCell v g q c
  holds_cell c o = subst (rows.HoldsKey (rows_in v) g q) (sym key) (held c any_cell o)
    where
      key : key_of_word (v (name.Key q c)) ≡ (get_or (infant_cells k) c any_cell).key
      key = ap key_of_word (w.keys c (omega (arith, o, few)) o tt ∙ ap (λ x. key_word (key_in x)) (slice_get-get_or (infant_cells k) c any_cell o)) ∙ key_of_word-key_word (get_or (infant_cells k) c any_cell).key (fits c any_cell o)

  -- a link is read back
  leads_back : (o : Option ℕ) (x c : ℕ) → x ≡ cell_link_word o → ((d : ℕ) → o ≡ Some d → d < length (infant_cells k)) → cell_of_link_word x ≡ Some c → c < length (infant_cells k)
  leads_back o x c e f m = f c (sym (ap cell_of_link_word e ∙ cell_of_link_word-cell_link_word o (link_fits o (length (infant_cells k)) f (omega (arith, few, most)))) ∙ m)

  -- and from one of its cells only such are reached
  holds_from : (c d : ℕ) → c < length (infant_cells k) → Reaches v q c d → HoldsCell v g q d
  holds_from _ _ o (is_there c) = holds_cell c o
  holds_from _ _ o (leads_on c d e f m) = holds_from d e (leads_back (listed_after (infant_cells k) c) (v (name.After q c)) d (w.afters c (omega (arith, o, few)) o tt) (λ b n. listed_below (infant_cells k) c b n) f) m

  -- so a row that is written whole has keys that it may hold, where its cells have
  pub new_row_keyed : Keyed z v g q
  new_row_keyed = record {
    named = λ i c o x. absurd (subst (IsOfCell c) (ap pend_of (w.entries i o tt) ∙ pend_of-pend_word pend.Idle tt) x);
    first = λ c e d. holds_from c d (leads_back (first_listed (infant_cells k)) (v (name.First q)) c (w.first tt) (λ b f. last_below (infant_cells k) 0 b f) e);
    built = λ c o d. holds_from c d (omega (arith, o, count));
  }
    where
      count : built_in v q ≡ length (infant_cells k)
      count = ap built_of_word (w.least tt) ∙ built_of_word-least_word (infant_least k) (length (infant_cells k)) least

module _ {z : Sizes} {r r' : Run} {s : ℕ} {choice : Choice} {l l' : Local} (h : Happens z r r' s choice l l' (Activity.Rebalance (Rebalance.Replace Replace.Exchange))) (i : Shape z r) where
  -- the range of a new row ends above its keys
  cells_end : (k q u : ℕ) → slice_get l.rebalance.taken k ≡ Some q → least_of (word z r.world) (next_in (word z r.world) q) ≡ Some u → All (λ c. c.key < u) (infant_cells (at_infant k l))
  cells_end k q u e f = by (slice_get l.rebalance.taken (k + 1)) refl (sym (ap (least_of (word z r.world)) (ap row_linked (whole_next z (word z r.world) (at_infant k l) q (infant_links z r.world s l i.sane h.knows k) ((infants_at (Activity.Rebalance (Rebalance.Replace Replace.Exchange)) h i).whole k q tt e)))) ∙ f)
    where
      last : (b : Option ℕ) → l.rebalance.after ≡ b → least_of (word z r.world) b ≡ Some u → All (λ c. c.key < u) (infant_cells (at_infant k l))
      last None m x = let y : None ≡ Some u = x in absurd (cc)
      last (Some b) m x = subst (λ y. All (λ c. c.key < y) (infant_cells (at_infant k l))) (same_Some (least_in (word z r.world) b) u x) (cells_have z.built l (is_plan h i) (λ c. c.key < least_in (word z r.world) b) (kept_below h i b m) k)

      by : (o : Option ℕ) → slice_get l.rebalance.taken (k + 1) ≡ o → least_of (word z r.world) (row_or o l.rebalance.after) ≡ Some u → All (λ c. c.key < u) (infant_cells (at_infant k l))
      by None m x = last l.rebalance.after refl x
      by (Some p) m x = subst (λ y. All (λ c. c.key < y) (infant_cells (at_infant k l))) (sym (least_of_new h i (k + 1) p m) ∙ same_Some (least_in (word z r.world) p) u x) (cells_below z.built l (is_plan h i) k (has_start h i (k + 1) p m))

  -- where the seat finds the unmarked link to its full row, the new rows may hold their keys from
  -- then on
  pub new_rows_keyed : word z r.world (replaced_link l.rebalance.before) ≡ link_word (unmarked_link (Some l.row)) → (q : ℕ) → IsIn l.rebalance.taken q → Keyed z (word z r'.world) r'.ledger.rows q
  new_rows_keyed won q m = new_row_keyed z (word z r'.world) r'.ledger.rows (at_infant k l) q written fits few i.sane.sized.few_cells (least_fits h i k q e) held
    where
      k : ℕ
      k = (index_of_row l.rebalance.taken q m).0

      e : slice_get l.rebalance.taken k ≡ Some q
      e = (index_of_row l.rebalance.taken q m).1

      below : q < r.world.rows
      below = taken_below z r.world s l i.sane h.knows k q e

      apart : l.rebalance.before ≡ Some q → ⊥
      apart b = linked_not_infant r.ledger.rows s q (fresh_linked r.ledger.rows s q ((search_at (Activity.Rebalance (Rebalance.Replace Replace.Exchange)) h i).fresh q tt b)) ((infants_at (Activity.Rebalance (Rebalance.Replace Replace.Exchange)) h i).owned k q tt e)

      written : Written z (word z r'.world) (Activity.Rebalance (Rebalance.Replace Replace.Start)) (at_infant k l) q
      written = written_stays z r.world.rows (word z r.world) (word z r'.world) (Activity.Rebalance (Rebalance.Replace Replace.Start)) (at_infant k l) q below (λ n f b w. row_stays (Activity.Rebalance (Rebalance.Replace Replace.Exchange)) h n q f w apart) ((infants_at (Activity.Rebalance (Rebalance.Replace Replace.Exchange)) h i).whole k q tt e)

      fits : All (λ c. c.key < KEY_END) (infant_cells (at_infant k l))
      fits = cells_have z.built l (is_plan h i) (λ c. c.key < KEY_END) (λ j d o. ((i.sane.locals s l h.knows).ranges.rebalance.kept j d o).0) k

      few : length (infant_cells (at_infant k l)) ≤ z.cells
      few = (i.sane.locals s l h.knows).ranges.rebalance.fits k (omega (arith, has_start h i k q e))

      least : least_in (word z r'.world) q ≡ least_in (word z r.world) q
      least = ap key_of_word (row_stays (Activity.Rebalance (Rebalance.Replace Replace.Exchange)) h (name.Least q) q refl below apart)

      fate : r'.ledger.rows.fates q ≡ fate_live (word z r.world) (length r.history.log) q (r.ledger.rows.fates q)
      fate = fate_of_new h won q m (λ c. linked_not_infant r.ledger.rows s q ((may_replace h i).linked q (of_group l q c)) ((infants_at (Activity.Rebalance (Rebalance.Replace Replace.Exchange)) h i).owned k q tt e))

      held : All (λ c. rows.HoldsKey (rows_in (word z r'.world)) r'.ledger.rows q c.key) (infant_cells (at_infant k l))
      held j d o = record {
        from = omega (arith, least, least_of_new h i k q e, cells_from z.built l (is_plan h i) (kept_from h i) k (has_start h i k q e) j d o);
        below = λ u f. cells_end k q u e (sym (ap (λ (x : Fate). x.upper) fate) ∙ f) j d o;
      }
