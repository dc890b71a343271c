-- A row whose links were written from rising cells is a list of them all; and so is a new row of
-- which every word is written.
use Rattle.std.proofs.Common.{ℕ, zero, suc, Bool, true, false, ◌≡◌, ◌<◌, ◌≤◌, ◌+◌, ◌-◌, ◌⊎◌, ◌&&◌, eqb, ltb, leb, count_by, if◌then◌else◌, List, Option, Some, None, refl, sym, ap, subst, ◌∙◌, arith, length, drop, take, slice_get, get_or, inl, inr}
use Rattle.std.specs.Prelude.{All}
use Rattle.std.proofs.lemmas.List.{get_or-drop, get_or-take, length-drop, length-take}
use Rattle.std.proofs.lemmas.List.Elements.{All-drop, All-take}
use Rattle.std.proofs.lemmas.List.Sums.{count_by-le-length}
use Rattle.std.proofs.lemmas.Option.{slice_get-get_or, slice_get_past, slice_get_within}
use Rattle.std.proofs.lemmas.Bool.{cases_lt}
use Rattle.std.proofs.lemmas.Bool.Decides.{nat_tests}
use Rattle.kw_words.specs.declared.sizes.TheConstants.{MOST_CELLS}
use Rattle.kw_words.specs.Plain.{IsCell, cell_of_link_word, key_of_word, version_word}
use Rattle.kw_words.proofs.PlainWords.{cell_of_link_word-cell_link_word, key_of_word-key_word}
use Rattle.kw_cells.specs.Kept.{is_below, AreRising}
use Rattle.kw_cells.specs.declared.cell.Cell.{Cell}
use Rattle.kw_cells.proofs.CutAt.{IsCut, passing, cut_is}
use Rattle.kw_cells.proofs.Rising.{any_cell, keys_rise}
use Rattle.kw_lists.specs.Built.{IsFirstFrom, LeadsFrom, IsBuilt}
use Rattle.kw_lists.specs.Rows.{IsSound, Row}
use Rattle.kw_lists.specs.Words.{row_in}
use Rattle.kw_lists.proofs.Building.{built_list}
use Rattle.kw_world.specs.declared.activity.Activity.TheVariants as Activity
use Rattle.kw_world.specs.declared.activity.rebalance.Rebalance.TheVariants as Rebalance
use Rattle.kw_world.specs.declared.activity.rebalance.replace.Replace.TheVariants as Replace
use Rattle.kw_world.specs.declared.local.Local.{Local}
use Rattle.kw_world.specs.Sane.{IsCopy}
use Rattle.kw_world.specs.Sizes.{Sizes}
use Rattle.kw_world.specs.WriteTransitions.{first_listed, has_key, infant_cells, key_in, last_of_key, last_with, listed_after, listed_behind, version_in}
use Rattle.kw_core.specs.Words.{Words}
use Rattle.kw_shape.specs.Infants.{Written}

-- of two cells that rise the second one has the greater key, or the greater version
pub below_rises : (c d : Cell) → is_below c d ≡ true → (c.key < d.key) ⊎ (c.key ≡ d.key) × (c.version < d.version)
below_rises c d b = which (cases_lt c.key d.key)
  where
    which : (c.key < d.key) ⊎ (d.key ≤ c.key) → (c.key < d.key) ⊎ (c.key ≡ d.key) × (c.version < d.version)
    which (inl h) = inl h
    which (inr h) = inr (grind (arith, nat_tests), grind (arith, nat_tests))

-- the row has these cells, all listed, and its links were written from them
pub record IsWrittenFrom (cells : List Cell) (r : Row) : Type 0 where
  pub keys : (j : ℕ) → j < length cells → r.key j ≡ (get_or cells j any_cell).key
  pub versions : (j : ℕ) → j < length cells → r.version j ≡ (get_or cells j any_cell).version
  pub first : r.link None ≡ first_listed cells
  pub after : (j : ℕ) → j < length cells → r.link (Some j) ≡ listed_after cells j
  pub listed : (j : ℕ) → j < length cells → r.listed j ≡ true
  pub below : (j : ℕ) → r.listed j ≡ true → j < length cells

module _ (cells : List Cell) (rising : AreRising cells) (r : Row) (w : IsWrittenFrom cells r) where
  abbrev key_at : ℕ → ℕ
  key_at j = (get_or cells j any_cell).key

  -- the cells with a key that is not above this one are those in front of a place
  cut : (key : ℕ) → IsCut (λ k. leb k key) cells (passing (λ k. leb k key) cells)
  cut key = cut_is (λ k. leb k key) (λ a b l e. grind (arith, nat_tests)) cells rising

  at_most : (key k : ℕ) → k < passing (λ k. leb k key) cells → key_at k ≤ key
  at_most key k g = let b = (cut key).before k any_cell g in grind (arith, nat_tests)

  above : (key k : ℕ) → passing (λ k. leb k key) cells ≤ k → k < length cells → key < key_at k
  above key k g l = let b = (cut key).from_it k any_cell g l in grind (arith, nat_tests)

  -- the last place of the key of a cell, where that key is the least from a number on
  last_is : (low i : ℕ) → i < length cells → low ≤ key_at i → ((j : ℕ) → j < length cells → low ≤ key_at j → key_at i ≤ key_at j) → IsFirstFrom (length cells) r low (last_of_key cells (key_at i))
  last_is low i l from least = record {
    below = within;
    from = rw (w.keys last within) (omega (arith, same));
    top = λ j g h. (let a = above (key_at i) j (omega (arith, here)) h in rw (w.keys last within, w.keys j h) (omega (arith, same)));
    least = λ j h m. (let q : low ≤ key_at j = subst (λ (x : ℕ). low ≤ x) (w.keys j h) m in let b = least j h q in rw (w.keys last within, w.keys j h) (omega (arith, same)));
  }
    where
      last : ℕ
      last = last_of_key cells (key_at i)

      -- the cell itself is in front of the cut
      here : i < passing (λ k. leb k (key_at i)) cells
      here = go (cases_lt i (passing (λ k. leb k (key_at i)) cells))
        where
          go : ((i < passing (λ k. leb k (key_at i)) cells) ⊎ (passing (λ k. leb k (key_at i)) cells ≤ i)) → i < passing (λ k. leb k (key_at i)) cells
          go (inl h) = h
          go (inr h) = absurd (let a = above (key_at i) i h l in omega arith)

      within : last < length cells
      within = let c = (cut (key_at i)).within in let h = here in omega arith

      same : key_at last ≡ key_at i
      same =
          let h = here in
          let a = at_most (key_at i) last (omega arith) in
          let b = keys_rise cells rising i last any_cell (omega arith) within in
          omega arith

  -- where the row has a cell with a key from this number on, the first of them is led to
  leads : (low i : ℕ) → ((j : ℕ) → j < i → key_at j < low) → ((j : ℕ) → i ≤ j → j < length cells → low ≤ key_at j) → LeadsFrom (length cells) r low (last_with cells (slice_get cells i))
  leads low i lesser greater = go (cases_lt i (length cells))
    where
      go : ((i < length cells) ⊎ (length cells ≤ i)) → LeadsFrom (length cells) r low (last_with cells (slice_get cells i))
      go (inl l) = rw (slice_get-get_or cells i any_cell l) (last_is low i l (greater i (omega arith) l) least)
        where
          least : (j : ℕ) → j < length cells → low ≤ key_at j → key_at i ≤ key_at j
          least j h m = at (cases_lt j i)
            where
              at : ((j < i) ⊎ (i ≤ j)) → key_at i ≤ key_at j
              at (inl g) = absurd (let a = lesser j g in omega arith)
              at (inr g) = keys_rise cells rising i j any_cell g h
      go (inr l) = rw (slice_get_past cells i l) (λ j h. rw (w.keys j h) (lesser j (omega arith)))

  -- the first link leads to the last place of the least key
  first_leads : LeadsFrom (length cells) r 0 (r.link None)
  first_leads = rw w.first (leads 0 0 (λ j g. absurd (omega arith)) (λ j g l. omega arith))

  -- a cell before which its key stands leads there
  older_leads : (b : ℕ) → suc b < length cells → r.key b ≡ r.key (suc b) → r.link (Some (suc b)) ≡ Some b
  older_leads b l e = w.after (suc b) l ∙ rw (slice_get-get_or cells (suc b) any_cell l) (test (eqb-here))
    where
      same : key_at b ≡ key_at (suc b)
      same = sym (w.keys b (omega arith)) ∙ e ∙ w.keys (suc b) l

      eqb-here : has_key (key_at (suc b)) (slice_get cells (suc b - 1)) ≡ true
      eqb-here = let m : suc b - 1 ≡ b = omega arith in rw (m, slice_get-get_or cells b any_cell (omega arith)) (grind (arith, nat_tests, same))

      test : has_key (key_at (suc b)) (slice_get cells (suc b - 1)) ≡ true → listed_behind cells (suc b) (Some (get_or cells (suc b) any_cell)) ≡ Some b
      test h = let n : ltb 0 (suc b) ≡ true = grind (arith, nat_tests) in let m : suc b - 1 ≡ b = omega arith in rw (n, h, m) refl

  -- and any other to the last place of the next key
  oldest_leads : (c : ℕ) → c < length cells → ((b : ℕ) → c ≡ suc b → r.key b < r.key c) → LeadsFrom (length cells) r (r.key c + 1) (r.link (Some c))
  oldest_leads c l other = rw (w.after c l, w.keys c l, slice_get-get_or cells c any_cell l, unlike) (leads (key_at c + 1) (passing (λ k. leb k (key_at c)) cells) (λ j g. (let a = at_most (key_at c) j g in omega arith)) (λ j g h. (let a = above (key_at c) j g h in omega arith)))
    where
      -- the cell before it is of another key
      unlike : (ltb 0 c && has_key (key_at c) (slice_get cells (c - 1))) ≡ false
      unlike = go c refl
        where
          go : (x : ℕ) → c ≡ x → (ltb 0 x && has_key (key_at c) (slice_get cells (x - 1))) ≡ false
          go zero e = refl
          go (suc b) e =
              let m : suc b - 1 ≡ b = omega arith in
              let h : b < length cells = omega arith in
              let o : r.key b < r.key c = other b e in
              let f : r.key b ≡ key_at b = w.keys b h in
              let g : r.key c ≡ key_at c = w.keys c l in
              let n : ltb 0 (suc b) ≡ true = grind (arith, nat_tests) in
              let d : eqb (key_at b) (key_at c) ≡ false = grind (arith, nat_tests) in
              rw (n, m, slice_get-get_or cells b any_cell h, d) refl

  -- so the row is one that was built from the cells
  pub built_of : IsBuilt (length cells) r
  built_of = record { listed = w.listed; below = w.below; rises = rises; first = first_leads; older = older_leads; oldest = oldest_leads }
    where
      rises : (i j : ℕ) → i < j → j < length cells → (r.key i < r.key j) ⊎ (r.key i ≡ r.key j) × (r.version i < r.version j)
      rises i j g l = rw (w.keys i (omega arith), w.keys j l, w.versions i (omega arith), w.versions j l) (below_rises (get_or cells i any_cell) (get_or cells j any_cell) (rising i j any_cell g l))

-- The cells of a new row.

-- a part of rising cells rises
pub rising_part : (n m : ℕ) (cells : List Cell) → AreRising cells → AreRising (take n (drop m cells))
rising_part n m cells rising i j d g l =
    let a = length-take n (drop m cells) in
    let b = length-drop m cells in
    let o : j < n = omega (arith, a, l) in
    let below : is_below (get_or cells (m + i) d) (get_or cells (m + j) d) ≡ true = rising (m + i) (m + j) d (omega arith) (omega (arith, a, b, l)) in
    rw (get_or-take n (drop m cells) i d (omega arith), get_or-take n (drop m cells) j d o, get_or-drop m cells i d, get_or-drop m cells j d) below

-- and has what all have
pub all_part : (P : Cell → Type 0) (n m : ℕ) (cells : List Cell) → All P cells → All P (take n (drop m cells))
all_part P n m cells a = All-take P n (drop m cells) (All-drop P m cells a)

-- the last place of the key of a cell is one of the cells
last_fits : (cells : List Cell) (i most : ℕ) (o : Option Cell) → slice_get cells i ≡ o → length cells ≤ most → most ≤ MOST_CELLS → IsCell (last_with cells o)
last_fits cells i most (Some c) e short few = let w = slice_get_within cells i c e in let b = count_by-le-length (λ x. leb x.key c.key) cells in omega (arith, w, b, short, few)
last_fits cells i most None e short few = tt

-- so what a link behind a cell leads to is one
behind_fits : (cells : List Cell) (j most : ℕ) (o : Option Cell) → slice_get cells j ≡ o → length cells ≤ most → most ≤ MOST_CELLS → IsCell (listed_behind cells j o)
behind_fits cells j most (Some c) e short few = which (ltb 0 j && has_key c.key (slice_get cells (j - 1)))
  where
    which : (b : Bool) → IsCell (if b then Some (j - 1) else last_with cells (slice_get cells (count_by (λ d. leb d.key c.key) cells)))
    which true = let w = slice_get_within cells j c e in omega (arith, w, short, few)
    which false = last_fits cells (count_by (λ d. leb d.key c.key) cells) most _ refl short few
behind_fits cells j most None e short few = tt

-- The words of a new row.

module _ (z : Sizes) (v : Words) (k : Local) (q : ℕ) (w : Written z v (Activity.Rebalance (Rebalance.Replace Replace.Start)) k q) (few : z.cells ≤ MOST_CELLS) (short : length (infant_cells k) ≤ z.cells) (sound : All IsCopy (infant_cells k)) where
  cell_at : ℕ → Cell
  cell_at j = get_or (infant_cells k) j any_cell

  here : (j : ℕ) → j < length (infant_cells k) → slice_get (infant_cells k) j ≡ Some (cell_at j)
  unfolding cell_at
  here j o = slice_get-get_or (infant_cells k) j any_cell o

  -- its cells are those from which it was written, where they are the listed ones
  pub written_from : (f : ℕ → Bool) → ((j : ℕ) → j < length (infant_cells k) → f j ≡ true) → ((j : ℕ) → f j ≡ true → j < length (infant_cells k)) → IsWrittenFrom (infant_cells k) (row_in v q f)
  unfolding cell_at
  written_from f listed below = record {
    keys = λ j o. ap key_of_word (w.keys j (omega (arith, o, short)) o tt) ∙ ap (λ x. key_of_word (key_in x)) (here j o) ∙ key_of_word-key_word (cell_at j).key (sound j any_cell o).0;
    versions = λ j o. w.versions j (omega (arith, o, short)) tt ∙ ap (λ x. version_word (version_in x)) (here j o);
    first = ap cell_of_link_word (w.first tt) ∙ cell_of_link_word-cell_link_word (first_listed (infant_cells k)) (last_fits (infant_cells k) 0 z.cells _ refl short few);
    after = λ j o. ap cell_of_link_word (w.afters j (omega (arith, o, short)) o tt) ∙ cell_of_link_word-cell_link_word (listed_after (infant_cells k) j) (behind_fits (infant_cells k) j z.cells _ refl short few);
    listed = listed;
    below = below;
  }

  -- so the row is a list of them all
  pub written_sound : (f : ℕ → Bool) → AreRising (infant_cells k) → ((j : ℕ) → j < length (infant_cells k) → f j ≡ true) → ((j : ℕ) → f j ≡ true → j < length (infant_cells k)) → IsSound z.cells (row_in v q f)
  written_sound f rising listed below = record {
    list = built_list (length (infant_cells k)) (row_in v q f) (built_of (infant_cells k) rising (row_in v q f) (written_from f listed below));
    below = λ c x. omega (arith, below c x, short);
  }
