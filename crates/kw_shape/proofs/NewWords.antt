-- What a seat writes of a new row is in range: its cells are kept ones, which are in range, and no
-- more than a row has; and the rows that it links are those of the table.
use Rattle.std.proofs.Common.{ℕ, ◌≡◌, ◌⊎◌, inl, inr, ◌+◌, ◌-◌, ◌<◌, ◌≤◌, All, Bool, true, false, nat_le, nat_lt, ◌==◌, ◌&&◌, if◌then◌else◌, List, [], ◌∷◌, Option, Some, None, arith, refl, sym, subst, count_by, drop, length, slice_get, slice_index}
use Rattle.std.proofs.lemmas.Bool.{cases_lt}
use Rattle.std.proofs.lemmas.List.{get_or_past}
use Rattle.std.proofs.lemmas.List.Elements.{All-drop, All-get_or, All-head, All-take}
use Rattle.std.proofs.lemmas.List.Sums.{count_by-le-length}
use Rattle.std.proofs.lemmas.Option.{get_or_from_slice_get, slice_get_within}
use Rattle.kw_words.specs.declared.sizes.TheConstants.{KEY_END, VERSION_END}
use Rattle.kw_words.specs.Count.{count_of, count_word}
use Rattle.kw_words.specs.Layout.{IsSized}
use Rattle.kw_words.specs.Link.{link_of, link_word}
use Rattle.kw_words.specs.Plain.{IsValue, built_of_word, cell_link_word, key_word, least_word, value_word, version_word}
use Rattle.kw_words.proofs.PlainWords.{built_of_word-least_word}
use Rattle.kw_words.proofs.CountWords.{count_of-count_word}
use Rattle.kw_words.proofs.LinkWords.{link_of-link_word}
use Rattle.kw_cells.specs.Cells.{value_in}
use Rattle.kw_cells.specs.Cuts.{end_of}
use Rattle.kw_cells.specs.declared.cell.Cell.{Cell}
use Rattle.kw_world.specs.declared.local.Local.{Local}
use Rattle.kw_world.specs.ReplaceTransitions.{first_infant}
use Rattle.kw_world.specs.Sane.{IsCopy, IsGiven, IsHead, IsKnownWord, IsLinkBelow, IsLocal, IsLocalBelow, IsRowBelow, IsValueWord}
use Rattle.kw_world.specs.Sizes.{Sizes}
use Rattle.kw_world.specs.WriteTransitions.{first_cell_key, first_listed, has_key, infant_cells, infant_count, infant_least, infant_link, key_in, last_of_key, last_with, listed_after, listed_behind, row_or, unmarked_link, version_in}
use Rattle.kw_shape.proofs.InfantsStay.{part_length, row_below, row_fits}

-- A cell of some in range.

-- the cell at a place
cell_at : (cells : List Cell) (j : ℕ) (c : Cell) → All IsCopy cells → slice_get cells j ≡ Some c → IsCopy c
cell_at cells j c all e = subst IsCopy (get_or_from_slice_get cells j c c e) (All-get_or IsCopy cells j c (slice_get_within cells j c e) all)

-- its key, its value and its version, and what stands for them where there is none
key_fits : (x : Option Cell) → ((c : Cell) → x ≡ Some c → IsCopy c) → key_in x < KEY_END
key_fits (Some c) f = (f c refl).0
key_fits None f = omega arith

value_fits : (x : Option Cell) → ((c : Cell) → x ≡ Some c → IsCopy c) → IsValueWord (value_word (value_in x))
value_fits (Some c) f = which c.value (f c refl).2
  where
    which : (value : Option ℕ) → IsValue value → IsValueWord (value_word value)
    which (Some n) o = inr (omega arith, omega (arith, o))
    which None o = inl refl
value_fits None f = inl refl

version_fits : (x : Option Cell) → ((c : Cell) → x ≡ Some c → IsCopy c) → version_word (version_in x) < VERSION_END
version_fits (Some c) f = (f c refl).1.1
version_fits None f = omega arith

-- the key of the first one
first_fits : (cells : List Cell) → All IsCopy cells → first_cell_key cells < KEY_END
first_fits [] all = omega arith
first_fits (c ∷ cells) all = (All-head IsCopy c cells all).0

-- A link between new cells leads to one of the row.

last_fits : (most : ℕ) (cells : List Cell) (key : ℕ) → 1 ≤ most → length cells ≤ most → last_of_key cells key < most
last_fits most cells key o few = omega (arith, count_by-le-length (λ c. nat_le c.key key) cells, few, o)

with_fits : (most : ℕ) (cells : List Cell) (x : Option Cell) → 1 ≤ most → length cells ≤ most → cell_link_word (last_with cells x) ≤ most
with_fits most cells (Some c) o few = omega (arith, last_fits most cells c.key o few)
with_fits most cells None o few = omega arith

behind_fits : (most : ℕ) (cells : List Cell) (j : ℕ) (x : Option Cell) → 1 ≤ most → length cells ≤ most → j < most → cell_link_word (listed_behind cells j x) ≤ most
behind_fits most cells j (Some c) o few i = which (nat_lt 0 j && has_key c.key (slice_get cells (j - 1)))
  where
    which : (b : Bool) → cell_link_word (let y : Option ℕ = if b then Some (j - 1) else last_with cells (slice_get cells (count_by (λ d. nat_le d.key c.key) cells)) in y) ≤ most
    which true = omega (arith, i, o)
    which false = with_fits most cells _ o few
behind_fits most cells j None o few i = omega arith

-- What a seat knows of its new rows.

module _ (z : Sizes) (rows : ℕ) (l : Local) (sized : IsSized z.seats z.cells rows) (k : IsLocal z l) (b : IsLocalBelow rows l) where
  -- the cells of the row at hand
  pub cells_known : All IsCopy (infant_cells l)
  cells_known =
      let start = slice_index l.rebalance.starts l.rebalance.at in
      All-take IsCopy (end_of l.rebalance.kept l.rebalance.starts l.rebalance.at - start) (drop start l.rebalance.kept) (All-drop IsCopy start l.rebalance.kept k.rebalance.kept)

  pub cells_few : length (infant_cells l) ≤ z.cells
  cells_few = omega (arith, part_length (end_of l.rebalance.kept l.rebalance.starts l.rebalance.at - slice_index l.rebalance.starts l.rebalance.at) (slice_index l.rebalance.starts l.rebalance.at) l.rebalance.kept, k.rebalance.few)

  -- its words
  pub count_known : IsGiven (count_of (count_word (infant_count l)))
  count_known = subst IsGiven (sym (count_of-count_word (infant_count l) (omega (arith, cells_few, sized.few_cells)))) (omega (arith, cells_few, sized.few_cells))

  least_below : infant_least l < KEY_END
  least_below = which (l.rebalance.at == 0)
    where
      which : (c : Bool) → (if c then l.lower else first_cell_key (infant_cells l)) < KEY_END
      which true = k.lower
      which false = first_fits (infant_cells l) cells_known

  pub least_known : built_of_word (least_word (infant_least l) (length (infant_cells l))) ≤ z.cells
  least_known = omega (arith, built_of_word-least_word (infant_least l) (length (infant_cells l)) least_below, cells_few)

  pub first_known : cell_link_word (first_listed (infant_cells l)) ≤ z.cells
  first_known = with_fits z.cells (infant_cells l) _ sized.some_cells cells_few

  pub key_known : (j : ℕ) → key_word (key_in (slice_get (infant_cells l) j)) < KEY_END
  key_known j = key_fits _ (λ c e. cell_at (infant_cells l) j c cells_known e)

  pub value_known : (j : ℕ) → IsValueWord (value_word (value_in (slice_get (infant_cells l) j)))
  value_known j = value_fits _ (λ c e. cell_at (infant_cells l) j c cells_known e)

  pub version_known : (j : ℕ) → version_word (version_in (slice_get (infant_cells l) j)) < VERSION_END
  version_known j = version_fits _ (λ c e. cell_at (infant_cells l) j c cells_known e)

  pub after_known : (j : ℕ) → j < z.cells → cell_link_word (listed_after (infant_cells l) j) ≤ z.cells
  after_known j o = behind_fits z.cells (infant_cells l) j _ sized.some_cells cells_few o

  -- a link to a row of the table, and to none
  link_known : (o : Option ℕ) → IsRowBelow rows o → IsKnownWord (link_of (link_word (unmarked_link o))) × IsLinkBelow rows (link_of (link_word (unmarked_link o)))
  link_known o x =
      let e = link_of-link_word (unmarked_link o) (row_fits rows None o (λ q f. let g : None ≡ Some q = f in absurd (cc)) x sized.few_rows) in
      (subst IsKnownWord (sym e) tt, subst (IsLinkBelow rows) (sym e) x)

  pub next_known : IsKnownWord (link_of (link_word (infant_link l))) × IsLinkBelow rows (link_of (link_word (infant_link l)))
  next_known = link_known _ (which (slice_get l.rebalance.taken (l.rebalance.at + 1)) (λ q e. row_below rows l.rebalance.taken b.rebalance.taken (l.rebalance.at + 1) q e))
    where
      which : (o : Option ℕ) → ((q : ℕ) → o ≡ Some q → q < rows) → IsRowBelow rows (row_or o l.rebalance.after)
      which (Some q) f = f q refl
      which None f = b.rebalance.after

  -- the first of the new rows
  first_below : first_infant l < rows
  first_below = which (cases_lt 0 (length l.rebalance.taken))
    where
      which : (0 < length l.rebalance.taken) ⊎ (length l.rebalance.taken ≤ 0) → first_infant l < rows
      which (inl o) = All-get_or (λ r. r < rows) l.rebalance.taken 0 0 o b.rebalance.taken
      which (inr o) = subst (λ x. x < rows) (sym (get_or_past l.rebalance.taken 0 0 o)) (omega (arith, sized.some_rows))

  pub head_known : IsHead rows (link_of (link_word (unmarked_link (Some (first_infant l)))))
  head_known = subst (IsHead rows) (sym (link_of-link_word (unmarked_link (Some (first_infant l))) (omega (arith, first_below, sized.few_rows)))) ((first_infant l, refl, first_below), refl)

  pub row_known : IsKnownWord (link_of (link_word (unmarked_link (Some (first_infant l))))) × IsLinkBelow rows (link_of (link_word (unmarked_link (Some (first_infant l)))))
  row_known = link_known (Some (first_infant l)) first_below
