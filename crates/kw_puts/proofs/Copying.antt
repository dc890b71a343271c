-- What the cells of new rows stand for, and which of them are listed, after each event of the seat
-- that writes them, and after those of others.
--
-- A row at hand has no listed cell when its count is written. A copy stands for the attempt of the
-- cell at which it was gathered from the event on that writes its version, and it is listed by the
-- one that writes the link behind it. So of a row that is written whole all is known, until it is
-- linked or given back.
use Rattle.std.proofs.Common.{ℕ, ◌≡◌, ◌≢◌, ◌⊎◌, inl, inr, ◌+◌, ◌<◌, ◌≤◌, true, false, List, Option, Some, None, arith, refl, sym, ◌∙◌, ap, subst, length, slice_get}
use Rattle.std.specs.Prelude.{All}
use Rattle.std.proofs.lemmas.Bool.{cases_eq, cases_lt}
use Rattle.std.proofs.lemmas.List.Elements.{All-get_or}
use Rattle.std.proofs.lemmas.Option.{get_or_from_slice_get, same_Some, slice_get_within}
use Rattle.kw_cells.specs.declared.cell.Cell.{Cell}
use Rattle.kw_lists.specs.Words.{row_in}
use Rattle.kw_rows.specs.Ledger.{Ledger}
use Rattle.kw_rows.specs.Rows.{WasLinked}
use Rattle.kw_world.specs.declared.activity.Activity.{Activity}
use Rattle.kw_world.specs.declared.activity.rebalance.engage.Engage.TheVariants as Engage
use Rattle.kw_world.specs.declared.activity.insert.Insert.TheVariants as Insert
use Rattle.kw_world.specs.declared.activity.put.Put.TheVariants as Put
use Rattle.kw_world.specs.declared.activity.rebalance.Rebalance.TheVariants as Rebalance
use Rattle.kw_world.specs.declared.activity.rebalance.replace.Replace.TheVariants as Replace
use Rattle.kw_world.specs.declared.activity.rebalance.seek.Seek.TheVariants as Seek
use Rattle.kw_world.specs.declared.activity.rebalance.write.Write.TheVariants as Write
use Rattle.kw_world.specs.declared.event.Choice.{Choice}
use Rattle.kw_world.specs.declared.local.Local.{Local}
use Rattle.kw_world.specs.declared.rebalance.Afterwards.{Afterwards}
use Rattle.kw_world.specs.GroupPlaces.{cell_at, places, row_at, source}
use Rattle.kw_world.specs.Sane.{IsSane}
use Rattle.kw_world.specs.SeekTransitions.{at_infant, infant}
use Rattle.kw_world.specs.Sizes.{Sizes}
use Rattle.kw_world.specs.Step.{word}
use Rattle.kw_world.specs.WorldView.{WorldView}
use Rattle.kw_world.specs.WriteTransitions.{infant_cells}
use Rattle.kw_core.specs.declared.history.Logged.{Logged}
use Rattle.kw_core.specs.History.{History}
use Rattle.kw_core.specs.Listed.{Listed}
use Rattle.kw_core.specs.Run.{Origins, Run, copied}
use Rattle.kw_core.specs.Stages.{IsAtRow}
use Rattle.kw_core.specs.Step.{Step}
use Rattle.kw_core.specs.Words.{Words}
use Rattle.kw_core.proofs.Attempts.{in_range}
use Rattle.kw_core.proofs.Arrows.{builds, Arrow, NextLook, looks, lists, NextLeftOver, goes_to_left_over, answers, ends_scan, scans_on, sees_stamped, sees_neither, is_gone_by, helps, finds_stamped, finds_other, list_ends, key_above, left_over_gone_by, gathers_left_over, first_ends, remembers_last, sees_frozen_last, freezes_last, takes_no_more, keeps_no_more, decides, marks_led, asks_of_pin, looks_at_pin}
use Rattle.kw_core.proofs.Building.{Building, first_is_free, first_is_taken, sought_is_free, sought_is_taken, first_is_retired, sought_is_retired, pass_is_old, pass_is_young, frees_row, takes_row, loses_row, gives_one_back, gives_last_back, writes_link, begins_before, guesses_before, guess_before_fails, before_serves, before_is_above, takes_head_before, leads_to_full, leads_on_marked, leads_to_other, leads_nowhere, walks_before, walks_past, replaces_row, is_marked_before, is_replaced, makes_normal, makes_last_normal, draws_number, retires_ahead, retires_row, retires_and_leaves}
use Rattle.kw_core.proofs.Building as built
use Rattle.kw_core.proofs.Copies.{ChangesListed, ChangesOrigin, copy_listed, listed_stays, none_listed_yet, origin_copied, origin_stays, rest_unlisted}
use Rattle.kw_core.proofs.Grouping.{goes_alone, claims_row, NextCounted, NextFrozen, freezes_ahead, froze_all, NextGathered, gathers_ahead, gathered_all}
use Rattle.kw_core.proofs.Happens.{Happens, each_seat, log_entry}
use Rattle.kw_core.proofs.NextBuilt.{GivenBack, is_refused_rows, moves_left, tries_again, NextBack, gives_back, has_none, NextBefore, is_behind, is_first, NextSeek, asks, has_asked, NextPass, has_looked, looks_on, NextTaken, has_enough, wants_more, NextNewCell, empties, fills, has_cells, NextNewEntry, has_entries, writes_idle, NextNewRow, has_written, writes_row, was_done, was_served}
use Rattle.kw_core.proofs.Steps.{old_stays}
use Rattle.kw_shape.specs.Infants.{HasCount, HasVersion, HasAfter, HasAtHand, Infants, IsInfantOf, IsNursed, IsWhole, IsWriting, Links, Nursing, Writes, nursing_of}
use Rattle.kw_shape.specs.Shape.{Shape}
use Rattle.kw_shape.proofs.InfantsRely.{linked_not_infant}
use Rattle.kw_shape.proofs.InfantsStay.{infant_at, whole_nursed, writing_hand, writing_nursed}
use Rattle.kw_shape.proofs.LinkedRows.{fresh_linked, hand_infant, infants_at}
use Rattle.kw_puts.specs.Below.{Below}
use Rattle.kw_puts.specs.Builds.{Builds, Copied, HasPlanned, IsCellOf, IsGathered}
use Rattle.kw_puts.proofs.BuiltLists.{all_part}
use Rattle.kw_puts.proofs.Gathering.{AreOfGroup, kept_of_group, planned_frozen, rows_linked, source_same}
use Rattle.kw_puts.proofs.GroupCells.{row_of_group, source_like}
use Rattle.kw_puts.proofs.BuiltStages.{of_pin_is, pin_look_is}
use Rattle.kw_core.proofs.Pinning.{NextOfPin, NextPinLook}

-- a cell is that of its attempt for ever
pub cell_lasts : (h h' : History) (e : Logged) → Step h h' e → (c : Cell) (p : ℕ) → IsCellOf h c p → IsCellOf h' c p
cell_lasts h h' e st c p x =
    let y = (old_stays h h' e st p (in_range h p x.stamped)).grows in
    let s = y.stamped x.stamped in
    record { stamped = s.0; key = y.key ∙ x.key; version = s.1 ∙ x.version; value = y.value ∙ x.value }

-- a cell of some has what all have
cell_has : (P : Cell → Type 0) (cells : List Cell) (j : ℕ) (c : Cell) → slice_get cells j ≡ Some c → All P cells → P c
cell_has P cells j c g a = subst P (get_or_from_slice_get cells j c c g) (All-get_or P cells j c (slice_get_within cells j c g) a)

-- the cells at which the new row's cells were gathered stand for the same attempts
abbrev pub SameSource : Sizes → Origins → Origins → Local → Type 0
SameSource z o o' l = (j : ℕ) (c : Cell) → slice_get (infant_cells l) j ≡ Some c → source z o' l c.place ≡ source z o l c.place

-- no cell of the new rows was gathered in the one at hand
abbrev pub AreApart : Sizes → Local → Type 0
AreApart z l = (i j : ℕ) (c : Cell) → slice_get (infant_cells (at_infant i l)) j ≡ Some c → row_at z l c.place ≡ infant l → ⊥

-- Of one row.

-- what is known of a row stays where its cells and those of the full row stand for the same
-- attempts, the same ones are listed, and no more is said of it
pub copied_goes : (z : Sizes) (h h' : History) (e : Logged) (o o' : Origins) (f f' : Listed) (a b : Activity) (l k : Local) (q : ℕ) → Step h h' e → infant_cells k ≡ infant_cells l → k.row ≡ l.row → k.rebalance.second ≡ l.rebalance.second →
    ((j : ℕ) → j < z.cells → HasVersion b j → HasVersion a j) → ((j : ℕ) → j < length (infant_cells l) → HasAfter b j → HasAfter a j) → (HasCount b → HasCount a × ((j : ℕ) → HasAfter a j → HasAfter b j)) →
    ((j : ℕ) → o' q j ≡ o q j) → SameSource z o o' l → ((j : ℕ) → f' q j ≡ f q j) → Copied z h o f a l q → Copied z h' o' f' b k q
copied_goes z h h' e o o' f f' a b l k q st same row second version after count origins full listed x = record {
  origin = λ j c u m g. let y = x.origin j c u (version j u m) (subst (λ (xs : List Cell). slice_get xs j ≡ Some c) same g) in (y.0, origins j ∙ y.1, cell_lasts h h' e st c y.0 y.2);
  gathered = λ j c u m g. let y : slice_get (infant_cells l) j ≡ Some c = subst (λ (xs : List Cell). slice_get xs j ≡ Some c) same g in origins j ∙ x.gathered j c u (version j u m) y ∙ sym (full j c y) ∙ sym (source_like z o' k l row second c.place);
  rest = λ j u m g. origins j ∙ x.rest j u (version j u m) (subst (λ (xs : List Cell). slice_get xs j ≡ None) same g);
  listed = λ j u m. let w : j < length (infant_cells l) = subst (λ (xs : List Cell). j < length xs) same u in listed j ∙ x.listed j w (after j w m);
  unlisted = λ n j m. let y = x.unlisted (count n).0 j (sym (listed j) ∙ m) in (subst (λ (xs : List Cell). j < length xs) (sym same) y.0, (count n).1 j y.1);
}

-- the same with no event, of the same activity or of another one
pub copied_like : (z : Sizes) (h : History) (o : Origins) (f : Listed) (a b : Activity) (l k : Local) (q : ℕ) → infant_cells k ≡ infant_cells l → k.row ≡ l.row → k.rebalance.second ≡ l.rebalance.second →
    ((j : ℕ) → j < z.cells → HasVersion b j → HasVersion a j) → ((j : ℕ) → j < length (infant_cells l) → HasAfter b j → HasAfter a j) → (HasCount b → HasCount a × ((j : ℕ) → HasAfter a j → HasAfter b j)) →
    Copied z h o f a l q → Copied z h o f b k q
copied_like z h o f a b l k q same row second version after count x = record {
  origin = λ j c u m g. x.origin j c u (version j u m) (subst (λ (xs : List Cell). slice_get xs j ≡ Some c) same g);
  gathered = λ j c u m g. x.gathered j c u (version j u m) (subst (λ (xs : List Cell). slice_get xs j ≡ Some c) same g) ∙ sym (source_like z o k l row second c.place);
  rest = λ j u m g. x.rest j u (version j u m) (subst (λ (xs : List Cell). slice_get xs j ≡ None) same g);
  listed = λ j u m. let w : j < length (infant_cells l) = subst (λ (xs : List Cell). j < length xs) same u in x.listed j w (after j w m);
  unlisted = λ n j m. let y = x.unlisted (count n).0 j m in (subst (λ (xs : List Cell). j < length xs) (sym same) y.0, (count n).1 j y.1);
}

-- nothing is known of a row before its first word is written
pub copied_none : (z : Sizes) (h : History) (o : Origins) (f : Listed) (k : Local) (q : ℕ) → Copied z h o f (Activity.Rebalance (Rebalance.Write Write.Count)) k q
copied_none z h o f k q = record { origin = λ j c u m g. absurd m; gathered = λ j c u m g. absurd m; rest = λ j u m g. absurd m; listed = λ j u m. absurd m; unlisted = λ n j m. absurd n }

-- all entries are written, and no cell
copied_entries : (z : Sizes) (h : History) (o : Origins) (f : Listed) (l : Local) (q i : ℕ) → Copied z h o f (Activity.Rebalance (Rebalance.Write (Write.Entry i))) l q → Copied z h o f (Activity.Rebalance (Rebalance.Write (Write.Key 0))) l q
copied_entries z h o f l q i x = copied_like z h o f (Activity.Rebalance (Rebalance.Write (Write.Entry i))) (Activity.Rebalance (Rebalance.Write (Write.Key 0))) l l q refl refl refl (λ j u m. absurd (omega (arith, m))) (λ j u m. absurd (omega (arith, m))) (λ n. (tt, λ j m. absurd m)) x

-- a place beyond the row's cells
copied_beyond : (z : Sizes) (h : History) (o : Origins) (f : Listed) (l : Local) (q i : ℕ) → Copied z h o f (Activity.Rebalance (Rebalance.Write (Write.Key i))) l q → Copied z h o f (Activity.Rebalance (Rebalance.Write (Write.Version i))) l q
copied_beyond z h o f l q i x = copied_like z h o f (Activity.Rebalance (Rebalance.Write (Write.Key i))) (Activity.Rebalance (Rebalance.Write (Write.Version i))) l l q refl refl refl (λ j u m. m) (λ j u m. m) (λ n. (tt, λ j m. m)) x

-- nor is one listed there
copied_no_cell : (z : Sizes) (h : History) (o : Origins) (f : Listed) (l : Local) (q i : ℕ) → length (infant_cells l) ≤ i → Copied z h o f (Activity.Rebalance (Rebalance.Write (Write.After i))) l q → Copied z h o f (Activity.Rebalance (Rebalance.Write (Write.Key (i + 1)))) l q
copied_no_cell z h o f l q i past x = copied_like z h o f (Activity.Rebalance (Rebalance.Write (Write.After i))) (Activity.Rebalance (Rebalance.Write (Write.Key (i + 1)))) l l q refl refl refl (λ j u m. omega (arith, m)) (λ j u m. omega (arith, u, past)) (λ n. (tt, λ j m. omega (arith, m))) x

-- all cells are written
copied_whole : (z : Sizes) (h : History) (o : Origins) (f : Listed) (l k : Local) (q i : ℕ) → infant_cells k ≡ infant_cells l → k.row ≡ l.row → k.rebalance.second ≡ l.rebalance.second → z.cells ≤ i → length (infant_cells l) ≤ z.cells → Copied z h o f (Activity.Rebalance (Rebalance.Write (Write.Key i))) l q → Copied z h o f (Activity.Rebalance (Rebalance.Replace Replace.Start)) k q
copied_whole z h o f l k q i same row second done short x = copied_like z h o f (Activity.Rebalance (Rebalance.Write (Write.Key i))) (Activity.Rebalance (Rebalance.Replace Replace.Start)) l k q same row second (λ j u m. omega (arith, u, done)) (λ j u m. omega (arith, u, done, short)) (λ n. (tt, λ j m. tt)) x

-- Of the row at hand, over the events that write its count, a version, and a link behind a cell.

module _ {z : Sizes} {r r' : Run} {s : ℕ} {choice : Choice} {l l' : Local} {e : Logged} (st : Step r.history r'.history e) where
  -- none of its cells is listed
  pub copies_count : Happens z r r' s choice l l' (Activity.Rebalance (Rebalance.Write Write.Count)) → Copied z r'.history r'.origin r'.listed (Activity.Rebalance (Rebalance.Write Write.Least)) l (infant l)
  copies_count h = record {
    origin = λ j c u m g. absurd m;
    gathered = λ j c u m g. absurd m;
    rest = λ j u m g. absurd m;
    listed = λ j u m. absurd m;
    unlisted = λ n j m. let x : true ≡ false = sym m ∙ none_listed_yet h j in absurd (cc);
  }

  -- one more copy stands for the attempt of the cell at which it was gathered, or the place for
  -- none
  pub copies_version : (i : ℕ) → Happens z r r' s choice l l' (Activity.Rebalance (Rebalance.Write (Write.Version i))) → AreApart z l → All (IsGathered r.history (source z r.origin l)) (infant_cells l) → Copied z r.history r.origin r.listed (Activity.Rebalance (Rebalance.Write (Write.Version i))) l (infant l) → Copied z r'.history r'.origin r'.listed (Activity.Rebalance (Rebalance.Write (Write.After i))) l (infant l)
  copies_version i h apart gathered x = record {
    origin = λ j c u m g. which j c u m g (cases_eq j i);
    gathered = λ j c u m g. of_cell j c u m g (cases_eq j i);
    rest = λ j u m g. none j u m g (cases_eq j i);
    listed = λ j u m. same j ∙ x.listed j u m;
    unlisted = λ n j m. x.unlisted tt j (sym (same j) ∙ m);
  }
    where
      same : (j : ℕ) → r'.listed (infant l) j ≡ r.listed (infant l) j
      same j = listed_stays (Activity.Rebalance (Rebalance.Write (Write.Version i))) h (infant l) j (λ c. c)

      other : (j : ℕ) → (j ≡ i → ⊥) → r'.origin (infant l) j ≡ r.origin (infant l) j
      other j d = origin_stays (Activity.Rebalance (Rebalance.Write (Write.Version i))) h (infant l) j (λ c. d c.1)

      now : (j : ℕ) (o : Option Cell) → j ≡ i → slice_get (infant_cells l) j ≡ o → r'.origin (infant l) j ≡ copied z r.origin l o
      now j o d g = ap (r'.origin (infant l)) d ∙ origin_copied i h ∙ ap (λ (y : ℕ). copied z r.origin l (slice_get (infant_cells l) y)) (sym d) ∙ ap (copied z r.origin l) g

      which : (j : ℕ) (c : Cell) → j < z.cells → j ≤ i → slice_get (infant_cells l) j ≡ Some c → (j ≡ i) ⊎ (j ≡ i → ⊥) → (p : ℕ) × (r'.origin (infant l) j ≡ Some p) × IsCellOf r'.history c p
      which j c u m g (inl d) =
          let y = cell_has (IsGathered r.history (source z r.origin l)) (infant_cells l) j c g gathered in
          (y.put, now j (Some c) d g ∙ y.origin, cell_lasts r.history r'.history e st c y.put y.is)
      which j c u m g (inr d) = let y = x.origin j c u (omega (arith, m, d)) g in (y.0, other j d ∙ y.1, cell_lasts r.history r'.history e st c y.0 y.2)

      full : (j : ℕ) (c : Cell) → slice_get (infant_cells l) j ≡ Some c → source z r'.origin l c.place ≡ source z r.origin l c.place
      full j c g = origin_stays (Activity.Rebalance (Rebalance.Write (Write.Version i))) h (row_at z l c.place) (cell_at z c.place) (λ m. apart l.rebalance.at j c g m.0)

      of_cell : (j : ℕ) (c : Cell) → j < z.cells → j ≤ i → slice_get (infant_cells l) j ≡ Some c → (j ≡ i) ⊎ (j ≡ i → ⊥) → r'.origin (infant l) j ≡ source z r'.origin l c.place
      of_cell j c u m g (inl d) = now j (Some c) d g ∙ sym (full j c g)
      of_cell j c u m g (inr d) = other j d ∙ x.gathered j c u (omega (arith, m, d)) g ∙ sym (full j c g)

      none : (j : ℕ) → j < z.cells → j ≤ i → slice_get (infant_cells l) j ≡ None → (j ≡ i) ⊎ (j ≡ i → ⊥) → r'.origin (infant l) j ≡ None
      none j u m g (inl d) = now j None d g
      none j u m g (inr d) = other j d ∙ x.rest j u (omega (arith, m, d)) g

  -- one more copy is listed, where the row has a cell for the place
  pub copies_link : (i : ℕ) → Happens z r r' s choice l l' (Activity.Rebalance (Rebalance.Write (Write.After i))) → Copied z r.history r.origin r.listed (Activity.Rebalance (Rebalance.Write (Write.After i))) l (infant l) → Copied z r'.history r'.origin r'.listed (Activity.Rebalance (Rebalance.Write (Write.Key (i + 1)))) l (infant l)
  copies_link i h x = record {
    origin = λ j c u m g. let y = x.origin j c u (omega (arith, m)) g in (y.0, origin_stays (Activity.Rebalance (Rebalance.Write (Write.After i))) h (infant l) j (λ c. c) ∙ y.1, cell_lasts r.history r'.history e st c y.0 y.2);
    gathered = λ j c u m g. origin_stays (Activity.Rebalance (Rebalance.Write (Write.After i))) h (infant l) j (λ c. c) ∙ x.gathered j c u (omega (arith, m)) g ∙ sym (origin_stays (Activity.Rebalance (Rebalance.Write (Write.After i))) h (row_at z l c.place) (cell_at z c.place) (λ c. c));
    rest = λ j u m g. origin_stays (Activity.Rebalance (Rebalance.Write (Write.After i))) h (infant l) j (λ c. c) ∙ x.rest j u (omega (arith, m)) g;
    listed = λ j u m. which j u m (cases_eq j i);
    unlisted = λ n j m. back j m (cases_eq j i) (cases_lt i (length (infant_cells l)));
  }
    where
      other : (j : ℕ) → (j ≡ i → ⊥) → r'.listed (infant l) j ≡ r.listed (infant l) j
      other j d = listed_stays (Activity.Rebalance (Rebalance.Write (Write.After i))) h (infant l) j (λ c. d c.1)

      which : (j : ℕ) → j < length (infant_cells l) → j < i + 1 → (j ≡ i) ⊎ (j ≡ i → ⊥) → r'.listed (infant l) j ≡ true
      which j u m (inl d) = ap (r'.listed (infant l)) d ∙ copy_listed i h (omega (arith, u, d))
      which j u m (inr d) = other j d ∙ x.listed j u (omega (arith, m, d))

      was : (j : ℕ) → r.listed (infant l) j ≡ true → (j < length (infant_cells l)) × (j < i + 1)
      was j m = let y = x.unlisted tt j m in (y.0, omega (arith, y.1))

      back : (j : ℕ) → r'.listed (infant l) j ≡ true → (j ≡ i) ⊎ (j ≡ i → ⊥) → (i < length (infant_cells l)) ⊎ (length (infant_cells l) ≤ i) → (j < length (infant_cells l)) × (j < i + 1)
      back j m (inr d) o = was j (sym (other j d) ∙ m)
      back j m (inl d) (inl o) = (omega (arith, d, o), omega (arith, d))
      back j m (inl d) (inr o) = was j (sym (ap (λ (y : Listed). y (infant l) j) (rest_unlisted i h o)) ∙ m)

-- All rows that a seat took.

-- what the cells stand for of those that are written whole, and of the one at hand: two parts of
-- what a seat that rebalances knows
pub record Copying (z : Sizes) (h : History) (o : Origins) (f : Listed) (a : Activity) (l : Local) : Type 0 where
  pub whole : (i q : ℕ) → IsWhole (nursing_of a) l i → slice_get l.rebalance.taken i ≡ Some q → Copied z h o f (Activity.Rebalance (Rebalance.Replace Replace.Start)) (at_infant i l) q
  pub words : IsWriting (nursing_of a) → Copied z h o f a l (infant l)

-- of a seat that writes rows: of those before the one at hand, and so much of that one
record Copies (z : Sizes) (h : History) (o : Origins) (f : Listed) (l : Local) (b : Activity) : Type 0 where
  whole : (i q : ℕ) → i < l.rebalance.at → slice_get l.rebalance.taken i ≡ Some q → Copied z h o f (Activity.Rebalance (Rebalance.Replace Replace.Start)) (at_infant i l) q
  words : Copied z h o f b l (infant l)

-- it is what such a seat knows
copies_of : (z : Sizes) (h : History) (o : Origins) (f : Listed) (a : Activity) (l : Local) → nursing_of a ≡ Writes → Copying z h o f a l → Copies z h o f l a
copies_of z h o f a l e x = record { whole = λ i q u g. x.whole i q (subst (λ n. IsWhole n l i) (sym e) u) g; words = x.words (subst IsWriting (sym e) tt) }

module _ (z : Sizes) (h : History) (o : Origins) (f : Listed) where
  -- where none of its rows is whole, and none at hand
  pub copies_nowhere : (b : Activity) (k : Local) → ((i : ℕ) → IsWhole (nursing_of b) k i → ⊥) → (IsWriting (nursing_of b) → ⊥) → Copying z h o f b k
  copies_nowhere b k m n = record { whole = λ i q w g. absurd (m i w); words = λ w. absurd (n w) }

  -- a row is written
  copies_at : (b : Activity) (l : Local) → nursing_of b ≡ Writes → Copies z h o f l b → Copying z h o f b (record l { activity = b })
  copies_at b l e x = record {
    whole = λ i q u g. copied_like z h o f (Activity.Rebalance (Rebalance.Replace Replace.Start)) (Activity.Rebalance (Rebalance.Replace Replace.Start)) (at_infant i l) (at_infant i (record l { activity = b })) q refl refl refl (λ j n m. m) (λ j n m. m) (λ n. (tt, λ j m. m)) (x.whole i q (subst (λ n. IsWhole n (record l { activity = b }) i) e u) g);
    words = λ n. copied_like z h o f b b l (record l { activity = b }) (infant l) refl refl refl (λ j n m. m) (λ j n m. m) (λ n. (n, λ j m. m)) x.words;
  }

  -- all are
  copies_linking : (b : Activity) (l k : Local) → nursing_of b ≡ Links → k.rebalance.taken ≡ l.rebalance.taken → k.row ≡ l.row → k.rebalance.second ≡ l.rebalance.second → ((i : ℕ) → infant_cells (at_infant i k) ≡ infant_cells (at_infant i l)) →
      ((i q : ℕ) → slice_get l.rebalance.taken i ≡ Some q → Copied z h o f (Activity.Rebalance (Rebalance.Replace Replace.Start)) (at_infant i l) q) → Copying z h o f b k
  copies_linking b l k e t row second same x = record {
    whole = λ i q u g. copied_like z h o f (Activity.Rebalance (Rebalance.Replace Replace.Start)) (Activity.Rebalance (Rebalance.Replace Replace.Start)) (at_infant i l) (at_infant i k) q (same i) row second (λ j n m. m) (λ j n m. m) (λ n. (tt, λ j m. m)) (x i q (subst (λ (xs : List ℕ). slice_get xs i ≡ Some q) t g));
    words = λ n. absurd (subst IsWriting e n);
  }

  -- What follows where a part has no event of its own.

  copies_given : (c : Afterwards) (k next : Local) → GivenBack k c next → Copying z h o f next.activity next
  copies_given c k next (tries_again nd) = copies_nowhere Activity.Retry _ (λ i w. w) (λ w. w)
  copies_given c k next (was_done dn) = copies_nowhere (Activity.Leave _) _ (λ i w. w) (λ w. w)
  copies_given c k next (is_refused_rows nd) = copies_nowhere (Activity.Leave _) _ (λ i w. w) (λ w. w)
  copies_given c k next (was_served dn) = copies_nowhere (Activity.Leave _) _ (λ i w. w) (λ w. w)
  copies_given c k next moves_left = copies_nowhere (Activity.Rebalance (Rebalance.Engage Engage.Clock)) _ (λ i w. w) (λ w. w)

  copies_back : (c : Afterwards) (k next : Local) → NextBack c k next → Copying z h o f next.activity next
  copies_back c k next (gives_back u) = copies_nowhere (Activity.Rebalance (Rebalance.Seek Seek.GiveBack)) _ (λ i w. w) (λ w. w)
  copies_back c k next (has_none m u y) = copies_given c k next y

  copies_seek : (rows : ℕ) (k next : Local) → NextSeek rows k next → Copying z h o f next.activity next
  copies_seek rows k next (asks u) = copies_nowhere (Activity.Rebalance (Rebalance.Seek Seek.Next)) _ (λ i w. w) (λ w. w)
  copies_seek rows k next (has_asked m u y) = copies_back _ k next y

  copies_pass : (i : ℕ) (k next : Local) → NextPass z i k next → Copying z h o f next.activity next
  copies_pass i k next (looks_on u) = copies_nowhere (Activity.Rebalance (Rebalance.Seek (Seek.Pass i))) _ (λ i w. w) (λ w. w)
  copies_pass i k next (has_looked u) = copies_nowhere (Activity.Rebalance (Rebalance.Seek Seek.Reclaim)) _ (λ i w. w) (λ w. w)

  copies_taken : (rows : ℕ) (k next : Local) → NextTaken rows k next → Copying z h o f next.activity next
  copies_taken rows k next (wants_more m u y) = copies_seek rows k next y
  copies_taken rows k next (has_enough u) = record { whole = λ i q w g. absurd (omega (arith, w)); words = λ w. copied_none z h o f _ _ }

  module _ (l : Local) (short : (i : ℕ) → i < length l.rebalance.taken → length (infant_cells (at_infant i l)) ≤ z.cells) (n : ℕ) (done : z.cells ≤ n) (x : Copies z h o f l (Activity.Rebalance (Rebalance.Write (Write.Key n)))) where
    -- a row up to the one at hand, which is whole now
    copies_up_to : (i q : ℕ) → i ≤ l.rebalance.at → slice_get l.rebalance.taken i ≡ Some q → l.rebalance.at < length l.rebalance.taken → Copied z h o f (Activity.Rebalance (Rebalance.Replace Replace.Start)) (at_infant i l) q
    copies_up_to i q u g hand = which (cases_eq i l.rebalance.at)
      where
        which : (i ≡ l.rebalance.at) ⊎ (i ≡ l.rebalance.at → ⊥) → Copied z h o f (Activity.Rebalance (Rebalance.Replace Replace.Start)) (at_infant i l) q
        which (inl e) =
            let same : infant l ≡ q = same_Some (infant l) q (sym (infant_at l hand) ∙ ap (slice_get l.rebalance.taken) (sym e) ∙ g) in
            let cells : infant_cells (at_infant i l) ≡ infant_cells l = ap (λ (y : ℕ). infant_cells (at_infant y l)) e in
            subst (Copied z h o f (Activity.Rebalance (Rebalance.Replace Replace.Start)) (at_infant i l)) same (copied_whole z h o f l (at_infant i l) (infant l) n cells refl refl done (short l.rebalance.at hand) x.words)
        which (inr d) = x.whole i q (omega (arith, u, d)) g

    -- the next row is at hand, or all are written
    copies_row : (next : Local) → l.rebalance.at < length l.rebalance.taken → NextNewRow l next → Copying z h o f next.activity next
    copies_row next hand (writes_row u) = record {
      whole = λ i q w g. copied_like z h o f (Activity.Rebalance (Rebalance.Replace Replace.Start)) (Activity.Rebalance (Rebalance.Replace Replace.Start)) (at_infant i l) _ q refl refl refl (λ j n m. m) (λ j n m. m) (λ n. (tt, λ j m. m)) (copies_up_to i q (omega (arith, w)) g hand);
      words = λ w. copied_none z h o f _ _;
    }
    copies_row next hand (has_written u) = copies_linking (Activity.Rebalance (Rebalance.Replace Replace.Start)) l _ refl refl refl refl (λ i. refl) (λ i q g. copies_up_to i q (omega (arith, slice_get_within l.rebalance.taken i q g, u)) g hand)

  module _ (l : Local) (short : (i : ℕ) → i < length l.rebalance.taken → length (infant_cells (at_infant i l)) ≤ z.cells) (hand : l.rebalance.at < length l.rebalance.taken) where
    -- the next cell is, or all are
    copies_cell : (n : ℕ) (next : Local) → NextNewCell z n l next → Copies z h o f l (Activity.Rebalance (Rebalance.Write (Write.Key n))) → Copying z h o f next.activity next
    copies_cell n next (fills u w) x = copies_at (Activity.Rebalance (Rebalance.Write (Write.Key n))) l refl x
    copies_cell n next (empties u w) x = copies_at (Activity.Rebalance (Rebalance.Write (Write.Version n))) l refl (record { whole = x.whole; words = copied_beyond z h o f l (infant l) n x.words })
    copies_cell n next (has_cells m u y) x = copies_row l short n u x m hand y

    -- the next entry is, or all are
    copies_entry : (n : ℕ) (next : Local) → NextNewEntry z n l next → Copies z h o f l (Activity.Rebalance (Rebalance.Write (Write.Entry n))) → Copying z h o f next.activity next
    copies_entry n next (writes_idle u) x = copies_at (Activity.Rebalance (Rebalance.Write (Write.Entry n))) l refl x
    copies_entry n next (has_entries m u y) x = copies_cell 0 m y (record { whole = x.whole; words = copied_entries z h o f l (infant l) n x.words })

module _ {z : Sizes} {r r' : Run} {s : ℕ} {choice : Choice} {l k : Local} {e : Logged} (st : Step r.history r'.history e) where
  -- an event that writes a word of the row at hand, and changes no copy and no listed cell of
  -- another one
  copies_on : (a b : Activity) → Happens z r r' s choice l k a → nursing_of a ≡ Writes → ((q c : ℕ) → (q ≡ infant l → ⊥) → ChangesOrigin a l q c → ⊥) → ((q c : ℕ) → (q ≡ infant l → ⊥) → ChangesListed a l q c → ⊥) →
      Infants z (word z r.world) r.ledger.rows s a l → AreApart z l → Copying z r.history r.origin r.listed a l → (Copied z r.history r.origin r.listed a l (infant l) → Copied z r'.history r'.origin r'.listed b l (infant l)) → Copies z r'.history r'.origin r'.listed l b
  copies_on a b h w origins listed n row x f =
      let y = copies_of z r.history r.origin r.listed a l w x in
      record {
        whole = λ i q u g.
            let apart : q ≡ infant l → ⊥ = λ c. (let m : i ≡ l.rebalance.at = n.apart i l.rebalance.at q (nursed i) (nursed l.rebalance.at) g (infant_at l hand ∙ ap Some (sym c)) in omega (arith, u, m)) in
            copied_goes z r.history r'.history e r.origin r'.origin r.listed r'.listed (Activity.Rebalance (Rebalance.Replace Replace.Start)) (Activity.Rebalance (Rebalance.Replace Replace.Start)) (at_infant i l) (at_infant i l) q st refl refl refl (λ j t m. m) (λ j t m. m) (λ t. (tt, λ j m. m))
            (λ j. origin_stays a h q j (origins q j apart))
            (λ j c g. origin_stays a h (row_at z l c.place) (cell_at z c.place) (origins (row_at z l c.place) (cell_at z c.place) (row i j c g)))
            (λ j. listed_stays a h q j (listed q j apart))
            (y.whole i q u g);
        words = f y.words;
      }
    where
      nursed : (i : ℕ) → IsNursed (nursing_of a) l i
      nursed i = subst (λ m. IsNursed m l i) (sym w) tt

      hand : l.rebalance.at < length l.rebalance.taken
      hand = n.hand (subst HasAtHand (sym w) tt)

  -- one that changes none at all, of the row at hand either
  copies_stay : (a b : Activity) → Happens z r r' s choice l k a → ((q c : ℕ) → ChangesOrigin a l q c → ⊥) → ((q c : ℕ) → ChangesListed a l q c → ⊥) →
      ((j : ℕ) → j < z.cells → HasVersion b j → HasVersion a j) → ((j : ℕ) → j < length (infant_cells l) → HasAfter b j → HasAfter a j) → (HasCount b → HasCount a × ((j : ℕ) → HasAfter a j → HasAfter b j)) →
      Copied z r.history r.origin r.listed a l (infant l) → Copied z r'.history r'.origin r'.listed b l (infant l)
  copies_stay a b h origins listed version after count x = copied_goes z r.history r'.history e r.origin r'.origin r.listed r'.listed a b l l (infant l) st refl refl refl version after count (λ j. origin_stays a h (infant l) j (origins (infant l) j)) (λ j c g. origin_stays a h (row_at z l c.place) (cell_at z c.place) (origins (row_at z l c.place) (cell_at z c.place))) (λ j. listed_stays a h (infant l) j (listed (infant l) j)) x

  -- one of a seat that has written all, and goes on to link them
  copies_link_on : (a b : Activity) (m : Local) → Happens z r r' s choice l k a → nursing_of a ≡ Links → nursing_of b ≡ Links → ((q c : ℕ) → ChangesOrigin a l q c → ⊥) → ((q c : ℕ) → ChangesListed a l q c → ⊥) →
      m.rebalance.taken ≡ l.rebalance.taken → m.row ≡ l.row → m.rebalance.second ≡ l.rebalance.second → ((i : ℕ) → infant_cells (at_infant i m) ≡ infant_cells (at_infant i l)) → Copying z r.history r.origin r.listed a l → Copying z r'.history r'.origin r'.listed b m
  copies_link_on a b m h w u origins listed t row second same x = copies_linking z r'.history r'.origin r'.listed b l m u t row second same
      (λ i q g. copied_goes z r.history r'.history e r.origin r'.origin r.listed r'.listed (Activity.Rebalance (Rebalance.Replace Replace.Start)) (Activity.Rebalance (Rebalance.Replace Replace.Start)) (at_infant i l) (at_infant i l) q st refl refl refl (λ j t m. m) (λ j t m. m) (λ t. (tt, λ j m. m))
      (λ j. origin_stays a h q j (origins q j))
      (λ j c g. origin_stays a h (row_at z l c.place) (cell_at z c.place) (origins (row_at z l c.place) (cell_at z c.place)))
      (λ j. listed_stays a h q j (listed q j))
      (x.whole i q (subst (λ n. IsWhole n l i) (sym w) tt) g))

  -- where the search for the row before begins
  copies_before : (a : Activity) → Happens z r r' s choice l k a → nursing_of a ≡ Links → ((q c : ℕ) → ChangesOrigin a l q c → ⊥) → ((q c : ℕ) → ChangesListed a l q c → ⊥) → (q : ℕ) (next : Local) → NextBefore q l next → Copying z r.history r.origin r.listed a l → Copying z r'.history r'.origin r'.listed next.activity next
  copies_before a h w origins listed q next (is_first c) x = copies_link_on a (Activity.Rebalance (Rebalance.Replace Replace.Exchange)) _ h w refl origins listed refl refl refl (λ i. refl) x
  copies_before a h w origins listed q next (is_behind c) x = copies_link_on a (Activity.Rebalance (Rebalance.Replace Replace.Next)) _ h w refl origins listed refl refl refl (λ i. refl) x

-- Each event of the seat that writes rows.

module _ {z : Sizes} {r r' : Run} {s : ℕ} {choice : Choice} {l : Local} {e : Logged} (st : Step r.history r'.history e) (short : (i : ℕ) → i < length l.rebalance.taken → length (infant_cells (at_infant i l)) ≤ z.cells) where
  -- it keeps what the seat knows of the rows, from what is gathered of the cells that it kept
  pub copies_own : (a : Activity) (k : Local) → Building z (word z r.world) choice l a k → Happens z r r' s choice l k a → Infants z (word z r.world) r.ledger.rows s a l → (HasPlanned (nursing_of a) → All (IsGathered r.history (source z r.origin l)) l.rebalance.kept) →
      (IsWriting (nursing_of a) → AreApart z l) → Copying z r.history r.origin r.listed a l → Copying z r'.history r'.origin r'.listed k.activity k
  copies_own a k (first_is_free q c y) h n p w x = copies_nowhere z r'.history r'.origin r'.listed (Activity.Rebalance (Rebalance.Seek Seek.Take)) _ (λ i w. w) (λ w. w)
  copies_own a k (first_is_taken q rows next c m y) h n p w x = copies_seek z r'.history r'.origin r'.listed rows _ next y
  copies_own a k (sought_is_free y) h n p w x = copies_nowhere z r'.history r'.origin r'.listed (Activity.Rebalance (Rebalance.Seek Seek.Take)) _ (λ i w. w) (λ w. w)
  copies_own a k (sought_is_taken rows next m y) h n p w x = copies_seek z r'.history r'.origin r'.listed rows _ next y
  copies_own a k (first_is_retired q m c y) h n p w x = copies_nowhere z r'.history r'.origin r'.listed (Activity.Rebalance (Rebalance.Seek (Seek.Pass 0))) _ (λ i w. w) (λ w. w)
  copies_own a k (sought_is_retired m y) h n p w x = copies_nowhere z r'.history r'.origin r'.listed (Activity.Rebalance (Rebalance.Seek (Seek.Pass 0))) _ (λ i w. w) (λ w. w)
  copies_own a k (pass_is_old i epoch rows next m o y) h n p w x = copies_seek z r'.history r'.origin r'.listed rows _ next y
  copies_own a k (pass_is_young i next m y) h n p w x = copies_pass z r'.history r'.origin r'.listed (i + 1) _ next y
  copies_own a k frees_row h n p w x = copies_nowhere z r'.history r'.origin r'.listed (Activity.Rebalance (Rebalance.Seek Seek.Take)) _ (λ i w. w) (λ w. w)
  copies_own a k (takes_row rows next c y) h n p w x = copies_taken z r'.history r'.origin r'.listed rows _ next y
  copies_own a k (loses_row rows next d y) h n p w x = copies_seek z r'.history r'.origin r'.listed rows _ next y
  copies_own a k (gives_one_back o) h n p w x = copies_nowhere z r'.history r'.origin r'.listed (Activity.Rebalance (Rebalance.Seek Seek.GiveBack)) _ (λ i w. w) (λ w. w)
  copies_own a k (gives_last_back next o y) h n p w x = copies_given z r'.history r'.origin r'.listed l.rebalance.afterwards l next y
  copies_own a k built.writes_count h n p w x = copies_at z r'.history r'.origin r'.listed (Activity.Rebalance (Rebalance.Write Write.Least)) l refl (copies_on st (Activity.Rebalance (Rebalance.Write Write.Count)) (Activity.Rebalance (Rebalance.Write Write.Least)) h refl (λ q c d m. m) (λ q c d m. d m) n (w tt) x (λ m. copies_count st h))
  copies_own a k built.writes_least h n p w x = copies_at z r'.history r'.origin r'.listed (Activity.Rebalance (Rebalance.Write Write.Next)) l refl (copies_on st (Activity.Rebalance (Rebalance.Write Write.Least)) (Activity.Rebalance (Rebalance.Write Write.Next)) h refl (λ q c d m. m) (λ q c d m. m) n (w tt) x (copies_stay st (Activity.Rebalance (Rebalance.Write Write.Least)) (Activity.Rebalance (Rebalance.Write Write.Next)) h (λ q c m. m) (λ q c m. m) (λ j t m. m) (λ j t m. m) (λ t. (tt, λ j m. m))))
  copies_own a k writes_link h n p w x = copies_at z r'.history r'.origin r'.listed (Activity.Rebalance (Rebalance.Write Write.First)) l refl (copies_on st (Activity.Rebalance (Rebalance.Write Write.Next)) (Activity.Rebalance (Rebalance.Write Write.First)) h refl (λ q c d m. m) (λ q c d m. m) n (w tt) x (copies_stay st (Activity.Rebalance (Rebalance.Write Write.Next)) (Activity.Rebalance (Rebalance.Write Write.First)) h (λ q c m. m) (λ q c m. m) (λ j t m. m) (λ j t m. m) (λ t. (tt, λ j m. m))))
  copies_own a k (built.writes_first next y) h n p w x = copies_entry z r'.history r'.origin r'.listed l short (n.hand tt) 0 next y (copies_on st (Activity.Rebalance (Rebalance.Write Write.First)) (Activity.Rebalance (Rebalance.Write (Write.Entry 0))) h refl (λ q c d m. m) (λ q c d m. m) n (w tt) x (copies_stay st (Activity.Rebalance (Rebalance.Write Write.First)) (Activity.Rebalance (Rebalance.Write (Write.Entry 0))) h (λ q c m. m) (λ q c m. m) (λ j t m. m) (λ j t m. m) (λ t. (tt, λ j m. m))))
  copies_own a k (built.writes_entry i next y) h n p w x = copies_entry z r'.history r'.origin r'.listed l short (n.hand tt) (i + 1) next y (copies_on st (Activity.Rebalance (Rebalance.Write (Write.Entry i))) (Activity.Rebalance (Rebalance.Write (Write.Entry (i + 1)))) h refl (λ q c d m. m) (λ q c d m. m) n (w tt) x (copies_stay st (Activity.Rebalance (Rebalance.Write (Write.Entry i))) (Activity.Rebalance (Rebalance.Write (Write.Entry (i + 1)))) h (λ q c m. m) (λ q c m. m) (λ j t m. m) (λ j t m. m) (λ t. (tt, λ j m. m))))
  copies_own a k (built.writes_key i) h n p w x = copies_at z r'.history r'.origin r'.listed (Activity.Rebalance (Rebalance.Write (Write.Value i))) l refl (copies_on st (Activity.Rebalance (Rebalance.Write (Write.Key i))) (Activity.Rebalance (Rebalance.Write (Write.Value i))) h refl (λ q c d m. m) (λ q c d m. m) n (w tt) x (copies_stay st (Activity.Rebalance (Rebalance.Write (Write.Key i))) (Activity.Rebalance (Rebalance.Write (Write.Value i))) h (λ q c m. m) (λ q c m. m) (λ j t m. m) (λ j t m. m) (λ t. (tt, λ j m. m))))
  copies_own a k (built.writes_value i) h n p w x = copies_at z r'.history r'.origin r'.listed (Activity.Rebalance (Rebalance.Write (Write.Version i))) l refl (copies_on st (Activity.Rebalance (Rebalance.Write (Write.Value i))) (Activity.Rebalance (Rebalance.Write (Write.Version i))) h refl (λ q c d m. m) (λ q c d m. m) n (w tt) x (copies_stay st (Activity.Rebalance (Rebalance.Write (Write.Value i))) (Activity.Rebalance (Rebalance.Write (Write.Version i))) h (λ q c m. m) (λ q c m. m) (λ j t m. m) (λ j t m. m) (λ t. (tt, λ j m. m))))
  copies_own a k (built.writes_version i u) h n p w x = copies_at z r'.history r'.origin r'.listed (Activity.Rebalance (Rebalance.Write (Write.After i))) l refl (copies_on st (Activity.Rebalance (Rebalance.Write (Write.Version i))) (Activity.Rebalance (Rebalance.Write (Write.After i))) h refl (λ q c d m. d m.0) (λ q c d m. m) n (w tt) x (copies_version st i h (w tt) (all_part (IsGathered r.history (source z r.origin l)) _ _ l.rebalance.kept (p tt))))
  copies_own a k (built.writes_no_cell i next u y) h n p w x = copies_cell z r'.history r'.origin r'.listed l short (n.hand tt) (i + 1) next y (copies_on st (Activity.Rebalance (Rebalance.Write (Write.Version i))) (Activity.Rebalance (Rebalance.Write (Write.Key (i + 1)))) h refl (λ q c d m. d m.0) (λ q c d m. m) n (w tt) x (λ m. copied_no_cell z r'.history r'.origin r'.listed l (infant l) i u (copies_version st i h (w tt) (all_part (IsGathered r.history (source z r.origin l)) _ _ l.rebalance.kept (p tt)) m)))
  copies_own a k (built.writes_after i next y) h n p w x = copies_cell z r'.history r'.origin r'.listed l short (n.hand tt) (i + 1) next y (copies_on st (Activity.Rebalance (Rebalance.Write (Write.After i))) (Activity.Rebalance (Rebalance.Write (Write.Key (i + 1)))) h refl (λ q c d m. m) (λ q c d m. d m.0) n (w tt) x (copies_link st i h))
  copies_own a k (begins_before next y) h n p w x = copies_before st (Activity.Rebalance (Rebalance.Replace Replace.Start)) h refl (λ q c m. m) (λ q c m. m) _ next y x
  copies_own a k (guesses_before q c y) h n p w x = copies_link_on st (Activity.Rebalance (Rebalance.Replace Replace.Start)) (Activity.Rebalance (Rebalance.Replace Replace.GuessedLeast)) _ h refl refl (λ q c m. m) (λ q c m. m) refl refl refl (λ i. refl) x
  copies_own a k guess_before_fails h n p w x = copies_link_on st (Activity.Rebalance (Rebalance.Replace Replace.Start)) (Activity.Rebalance (Rebalance.Replace Replace.First)) _ h refl refl (λ q c m. m) (λ q c m. m) refl refl refl (λ i. refl) x
  copies_own a k (before_serves o) h n p w x = copies_link_on st (Activity.Rebalance (Rebalance.Replace Replace.GuessedLeast)) (Activity.Rebalance (Rebalance.Replace Replace.Next)) _ h refl refl (λ q c m. m) (λ q c m. m) refl refl refl (λ i. refl) x
  copies_own a k (before_is_above o) h n p w x = copies_link_on st (Activity.Rebalance (Rebalance.Replace Replace.GuessedLeast)) (Activity.Rebalance (Rebalance.Replace Replace.First)) _ h refl refl (λ q c m. m) (λ q c m. m) refl refl refl (λ i. refl) x
  copies_own a k (takes_head_before next y) h n p w x = copies_before st (Activity.Rebalance (Rebalance.Replace Replace.First)) h refl (λ q c m. m) (λ q c m. m) _ next y x
  copies_own a k (leads_to_full y) h n p w x = copies_link_on st (Activity.Rebalance (Rebalance.Replace Replace.Next)) (Activity.Rebalance (Rebalance.Replace Replace.Exchange)) _ h refl refl (λ q c m. m) (λ q c m. m) refl refl refl (λ i. refl) x
  copies_own a k (leads_on_marked next c y) h n p w x = copies_back z r'.history r'.origin r'.listed _ l next y
  copies_own a k (leads_to_other q y d) h n p w x = copies_link_on st (Activity.Rebalance (Rebalance.Replace Replace.Next)) (Activity.Rebalance (Rebalance.Replace Replace.NextLeast)) _ h refl refl (λ q c m. m) (λ q c m. m) refl refl refl (λ i. refl) x
  copies_own a k (leads_nowhere next c y) h n p w x = copies_back z r'.history r'.origin r'.listed _ l next y
  copies_own a k (walks_before o) h n p w x = copies_link_on st (Activity.Rebalance (Rebalance.Replace Replace.NextLeast)) (Activity.Rebalance (Rebalance.Replace Replace.Next)) _ h refl refl (λ q c m. m) (λ q c m. m) refl refl refl (λ i. refl) x
  copies_own a k (walks_past next o y) h n p w x = copies_back z r'.history r'.origin r'.listed _ l next y
  copies_own a k (replaces_row y) h n p w x = copies_nowhere z r'.history r'.origin r'.listed (Activity.Rebalance (Rebalance.Replace Replace.Normalise)) _ (λ i w. w) (λ w. w)
  copies_own a k (is_marked_before next c y) h n p w x = copies_back z r'.history r'.origin r'.listed _ l next y
  copies_own a k (is_replaced next d y) h n p w x = copies_back z r'.history r'.origin r'.listed _ l next y
  copies_own a k (makes_normal o) h n p w x = copies_nowhere z r'.history r'.origin r'.listed (Activity.Rebalance (Rebalance.Replace Replace.Normalise)) _ (λ i w. w) (λ w. w)
  copies_own a k (makes_last_normal o) h n p w x = copies_nowhere z r'.history r'.origin r'.listed (Activity.Rebalance (Rebalance.Replace Replace.Number)) _ (λ i w. w) (λ w. w)
  copies_own a k draws_number h n p w x = copies_nowhere z r'.history r'.origin r'.listed (Activity.Rebalance (Rebalance.Replace Replace.Retire)) _ (λ i w. w) (λ w. w)
  copies_own a k (retires_ahead q o) h n p w x = copies_nowhere z r'.history r'.origin r'.listed (Activity.Rebalance (Rebalance.Replace Replace.Number)) _ (λ i w. w) (λ w. w)
  copies_own a k (retires_row o nd) h n p w x = copies_nowhere z r'.history r'.origin r'.listed Activity.Retry _ (λ i w. w) (λ w. w)
  copies_own a k (retires_and_leaves o dn) h n p w x = copies_nowhere z r'.history r'.origin r'.listed (Activity.Leave _) _ (λ i w. w) (λ w. w)

-- Events of another seat.

module _ {z : Sizes} {r r' : Run} {s : ℕ} {choice : Choice} {l l' : Local} where
  -- a row that another seat took is none that was linked, and none at hand
  others_apart : (a : Activity) → Happens z r r' s choice l l' a → Shape z r → (t : ℕ) → t ≢ s → (q : ℕ) → IsInfantOf r.ledger.rows t q → HasAtHand (nursing_of a) → q ≡ infant l → ⊥
  others_apart a h i t d q x w m = d (sym x.owner ∙ (subst (IsInfantOf r.ledger.rows s) (sym m) (hand_infant a h i w)).owner)

  -- nor is it the row where a put or a reader is
  linked_apart : (a : Activity) → Happens z r r' s choice l l' a → Shape z r → (t q : ℕ) → IsInfantOf r.ledger.rows t q → IsAtRow a → q ≡ l.row → ⊥
  linked_apart a h i t q x w m = linked_not_infant r.ledger.rows t q (subst (WasLinked r.ledger.rows) (sym m) (fresh_linked r.ledger.rows s l.row ((i.walks s l h.knows).at (subst IsAtRow (sym h.activity) w)).fresh)) x

  -- its cells stand for the same attempts
  origin_untouched : (a : Activity) → Happens z r r' s choice l l' a → Shape z r → (t : ℕ) → t ≢ s → (q c : ℕ) → IsInfantOf r.ledger.rows t q → r'.origin q c ≡ r.origin q c
  origin_untouched (Activity.Put Put.Add) h i t d q c x = origin_stays (Activity.Put Put.Add) h q c (λ m. linked_apart (Activity.Put Put.Add) h i t q x tt m)
  origin_untouched (Activity.Rebalance (Rebalance.Write (Write.Version j))) h i t d q c x = origin_stays (Activity.Rebalance (Rebalance.Write (Write.Version j))) h q c (λ m. others_apart (Activity.Rebalance (Rebalance.Write (Write.Version j))) h i t d q x tt m.0)
  origin_untouched a h i t d q c x = origin_stays a h q c (λ m. m)

  -- and the same of them are listed
  listed_untouched : (a : Activity) → Happens z r r' s choice l l' a → Shape z r → (t : ℕ) → t ≢ s → (q c : ℕ) → IsInfantOf r.ledger.rows t q → r'.listed q c ≡ r.listed q c
  listed_untouched (Activity.Insert Insert.Exchange) h i t d q c x = listed_stays (Activity.Insert Insert.Exchange) h q c (λ m. linked_apart (Activity.Insert Insert.Exchange) h i t q x tt m.0)
  listed_untouched (Activity.Rebalance (Rebalance.Write Write.Count)) h i t d q c x = listed_stays (Activity.Rebalance (Rebalance.Write Write.Count)) h q c (λ m. others_apart (Activity.Rebalance (Rebalance.Write Write.Count)) h i t d q x tt m)
  listed_untouched (Activity.Rebalance (Rebalance.Write (Write.After j))) h i t d q c x = listed_stays (Activity.Rebalance (Rebalance.Write (Write.After j))) h q c (λ m. others_apart (Activity.Rebalance (Rebalance.Write (Write.After j))) h i t d q x tt m.0)
  listed_untouched a h i t d q c x = listed_stays a h q c (λ m. m)

  -- nobody else touches the copies and the list of a row that a seat took
  pub infants_untouched : (a : Activity) → Happens z r r' s choice l l' a → Shape z r → (t : ℕ) → t ≢ s → (q c : ℕ) → IsInfantOf r.ledger.rows t q → (r'.origin q c ≡ r.origin q c) × (r'.listed q c ≡ r.listed q c)
  infants_untouched a h i t d q c x = (origin_untouched a h i t d q c x, listed_untouched a h i t d q c x)

-- a seat of whose rows one is written whole, or at hand, has its plan
whole_planned : (n : Nursing) (l : Local) (i : ℕ) → IsWhole n l i → HasPlanned n
whole_planned Writes l i w = tt
whole_planned Links l i w = tt
whole_planned _ l i w = absurd w

writing_planned : (n : Nursing) → IsWriting n → HasPlanned n
writing_planned Writes w = tt
writing_planned _ w = absurd w

-- so what a seat knows of the rows that it took survives every event of another seat
pub copies_stable : (z : Sizes) (h h' : History) (e : Logged) (o o' : Origins) (f f' : Listed) (g : Ledger) (t : ℕ) (a : Activity) (k : Local) → Step h h' e → ((q c : ℕ) → IsInfantOf g t q → (o' q c ≡ o q c) × (f' q c ≡ f q c)) →
    ((i q : ℕ) → IsNursed (nursing_of a) k i → slice_get k.rebalance.taken i ≡ Some q → IsInfantOf g t q) → (HasAtHand (nursing_of a) → k.rebalance.at < length k.rebalance.taken) → (HasPlanned (nursing_of a) → (i : ℕ) → SameSource z o o' (at_infant i k)) → Copying z h o f a k → Copying z h' o' f' a k
copies_stable z h h' e o o' f f' g t a k st same owned hand full x = record {
  whole = λ i q w y. let own = owned i q (whole_nursed (nursing_of a) k i w) y in copied_goes z h h' e o o' f f' (Activity.Rebalance (Rebalance.Replace Replace.Start)) (Activity.Rebalance (Rebalance.Replace Replace.Start)) (at_infant i k) (at_infant i k) q st refl refl refl (λ j n m. m) (λ j n m. m) (λ n. (tt, λ j m. m)) (λ j. (same q j own).0) (full (whole_planned (nursing_of a) k i w) i) (λ j. (same q j own).1) (x.whole i q w y);
  words = λ w.
      let own = owned k.rebalance.at (infant k) (writing_nursed (nursing_of a) k k.rebalance.at w) (infant_at k (hand (writing_hand (nursing_of a) w))) in
      copied_goes z h h' e o o' f f' a a k k (infant k) st refl refl refl (λ j n m. m) (λ j n m. m) (λ n. (n, λ j m. m)) (λ j. (same (infant k) j own).0) (full (writing_planned (nursing_of a) w) k.rebalance.at) (λ j. (same (infant k) j own).1) (x.words w);
}

-- In a run.

-- a row that a seat took gets no more cells than a row has
pub cells_short : (z : Sizes) (w : WorldView) (s : ℕ) (l : Local) → IsSane z w → slice_get w.locals s ≡ Some l → (i : ℕ) → i < length l.rebalance.taken → length (infant_cells (at_infant i l)) ≤ z.cells
cells_short z w s l sane knows i o = let b = (sane.locals s l knows).ranges.rebalance in b.fits i (omega (arith, o, b.taken))

-- its cells are of the group, where those that are kept are
cell_of_group : (z : Sizes) (l : Local) → AreOfGroup z l l.rebalance.kept → (i j : ℕ) (c : Cell) → slice_get (infant_cells (at_infant i l)) j ≡ Some c → c.place < places z l.rebalance.second
cell_of_group z l a i j c g = cell_has (λ c. c.place < places z l.rebalance.second) (infant_cells (at_infant i l)) j c g (all_part (λ c. c.place < places z l.rebalance.second) _ _ l.rebalance.kept a)

module _ {z : Sizes} {r r' : Run} {s : ℕ} {choice : Choice} {l l' : Local} {e : Logged} (i : Below z r) (st : Step r.history r'.history e) where
  -- what a seat knows of the cells, at its activity
  pub builds_at : (a : Activity) → Happens z r r' s choice l l' a → Builds z (row_in (word z r.world) l.rebalance.hand (r.listed l.rebalance.hand)) r.history r.origin r.listed a l
  builds_at a h = subst (λ b. Builds z (row_in (word z r.world) l.rebalance.hand (r.listed l.rebalance.hand)) r.history r.origin r.listed b l) h.activity (i.puts.builds s l h.knows)

  -- no row of its group is one that it writes
  rows_apart : (a : Activity) → Happens z r r' s choice l l' a → IsWriting (nursing_of a) → AreApart z l
  rows_apart a h w j n c g e =
      let p : HasPlanned (nursing_of l.activity) = subst (λ b. HasPlanned (nursing_of b)) (sym h.activity) (writing_planned (nursing_of a) w) in
      let of = row_of_group z l c.place (cell_of_group z l (kept_of_group z r i s l h.knows p) j n c g) in
      linked_not_infant r.ledger.rows s (infant l) (subst (WasLinked r.ledger.rows) e (rows_linked z r i s l h.knows (planned_frozen l.activity p) (row_at z l c.place) of)) (hand_infant a h i.shape (writing_hand (nursing_of a) w))

  -- after an event of its own that takes, writes or links rows
  pub copying_own : (a : Activity) → Building z (word z r.world) choice l a l' → Happens z r r' s choice l l' a → Copying z r'.history r'.origin r'.listed l'.activity l'
  copying_own a y h = let b = builds_at a h in copies_own st (cells_short z r.world s l i.shape.sane h.knows) a l' y h (infants_at a h i.shape) b.kept (rows_apart a h) (record { whole = b.whole; words = b.words })

  -- and after one of another seat
  pub copying_other : (a : Activity) → Happens z r r' s choice l l' a → (t : ℕ) (k : Local) → t ≢ s → slice_get r.world.locals t ≡ Some k → Copying z r'.history r'.origin r'.listed k.activity k
  copying_other a h t k d g =
      let b = i.puts.builds t k g in
      let n = i.shape.infants t k g in
      copies_stable z r.history r'.history e r.origin r'.origin r.listed r'.listed r.ledger.rows t k.activity k st (λ q c x. infants_untouched a h i.shape t d q c x) n.owned n.hand
      (λ x j m c y. source_same z r r' s choice l a l' h i t k g (planned_frozen k.activity x) c.place (cell_of_group z k (kept_of_group z r i t k g x) j m c y))
      (record { whole = b.whole; words = b.words })

-- What a look, or a cell, leads to writes no row.

copies_look : (z : Sizes) (h : History) (o : Origins) (f : Listed) (j : ℕ) (a : Activity) (k : Local) → NextLook z j a → Copying z h o f a k
copies_look z h o f j a k (looks u) = copies_nowhere z h o f _ k (λ i w. w) (λ w. w)
copies_look z h o f j a k (lists u) = copies_nowhere z h o f _ k (λ i w. w) (λ w. w)

copies_left_over : (z : Sizes) (h : History) (o : Origins) (f : Listed) (l n : Local) → NextLeftOver l n → Copying z h o f n.activity n
copies_left_over z h o f l n (goes_to_left_over m u) = copies_nowhere z h o f _ _ (λ i w. w) (λ w. w)
copies_left_over z h o f l n (answers u c) = copies_nowhere z h o f _ _ (λ i w. w) (λ w. w)
copies_left_over z h o f l n (ends_scan u c d) = copies_nowhere z h o f _ _ (λ i w. w) (λ w. w)
copies_left_over z h o f l n (scans_on q u c d m) = copies_nowhere z h o f _ _ (λ i w. w) (λ w. w)

-- nor does what follows where a row of the group is frozen, or gathered
copies_frozen : (z : Sizes) (h : History) (o : Origins) (f : Listed) (l n : Local) → NextFrozen l n → Copying z h o f n.activity n
copies_frozen z h o f l n (freezes_ahead q e) = copies_nowhere z h o f _ _ (λ i w. w) (λ w. w)
copies_frozen z h o f l n (froze_all e) = copies_nowhere z h o f _ _ (λ i w. w) (λ w. w)

copies_counted : (z : Sizes) (h : History) (o : Origins) (f : Listed) (count : ℕ) (l n : Local) → NextCounted count l n → Copying z h o f n.activity n
copies_counted z h o f count l n (claims_row q two e) = copies_nowhere z h o f _ _ (λ i w. w) (λ w. w)
copies_counted z h o f count l n (goes_alone d) = copies_nowhere z h o f _ _ (λ i w. w) (λ w. w)

copies_gathered : (z : Sizes) (h : History) (o : Origins) (f : Listed) (l n : Local) → NextGathered z l n → Copying z h o f n.activity n
copies_gathered z h o f l n (gathers_ahead q e) = copies_nowhere z h o f _ _ (λ i w. w) (λ w. w)
copies_gathered z h o f l n (gathered_all e) = copies_nowhere z h o f _ _ (λ i w. w) (λ w. w)

-- nor does the question of a call of a pin, or a look at a pin
copies_of_pin : (z : Sizes) (h : History) (o : Origins) (f : Listed) (l n : Local) → NextOfPin l n → Copying z h o f n.activity n
copies_of_pin z h o f l n x = of_pin_is (λ b. Copying z h o f b n) (copies_nowhere z h o f _ _ (λ i w. w) (λ w. w)) (copies_nowhere z h o f _ _ (λ i w. w) (λ w. w)) (copies_nowhere z h o f _ _ (λ i w. w) (λ w. w)) (copies_nowhere z h o f _ _ (λ i w. w) (λ w. w)) (copies_nowhere z h o f _ _ (λ i w. w) (λ w. w)) (copies_nowhere z h o f _ _ (λ i w. w) (λ w. w)) x

copies_pin_look : (z : Sizes) (h : History) (o : Origins) (f : Listed) (m w : ℕ) (l n : Local) → NextPinLook z m w l n → Copying z h o f n.activity n
copies_pin_look z h o f m w l n x = pin_look_is (λ b. Copying z h o f b n) (λ j. copies_nowhere z h o f _ _ (λ i w. w) (λ w. w)) (copies_nowhere z h o f _ _ (λ i w. w) (λ w. w)) x

-- nor does any other event that neither takes nor writes nor links rows
copies_by : (z : Sizes) (v : Words) (s : ℕ) (choice : Choice) (l : Local) (a : Activity) (l' : Local) (h : History) (o : Origins) (f : Listed) → Arrow z v s choice l a l' → (Building z v choice l a l' → Copying z h o f l'.activity l') → Copying z h o f l'.activity l'
copies_by z v s choice l a l' h o f (builds b next y t) built = built t
copies_by z v s choice l a l' h o f (asks_of_pin next p n) built = copies_of_pin z h o f _ next n
copies_by z v s choice l a l' h o f (looks_at_pin j next n) built = copies_pin_look z h o f _ _ _ next n
copies_by z v s choice l a l' h o f (sees_stamped j c version next e n) built = copies_look z h o f _ next _ n
copies_by z v s choice l a l' h o f (sees_neither j next e n) built = copies_look z h o f _ next _ n
copies_by z v s choice l a l' h o f (is_gone_by next e n) built = copies_look z h o f _ next _ n
copies_by z v s choice l a l' h o f (helps next e n) built = copies_look z h o f _ next _ n
copies_by z v s choice l a l' h o f (finds_stamped c version next e n) built = copies_look z h o f _ next _ n
copies_by z v s choice l a l' h o f (finds_other next e n) built = copies_look z h o f _ next _ n
copies_by z v s choice l a l' h o f (first_ends next e n) built = copies_left_over z h o f _ next n
copies_by z v s choice l a l' h o f (list_ends next e n) built = copies_left_over z h o f _ next n
copies_by z v s choice l a l' h o f (key_above next e n) built = copies_left_over z h o f _ next n
copies_by z v s choice l a l' h o f (left_over_gone_by next e n) built = copies_left_over z h o f _ next n
copies_by z v s choice l a l' h o f (gathers_left_over next n) built = copies_left_over z h o f _ next n
copies_by z v s choice l a l' h o f (remembers_last j c version next e u n) built = copies_frozen z h o f _ next n
copies_by z v s choice l a l' h o f (sees_frozen_last j next e u n) built = copies_frozen z h o f _ next n
copies_by z v s choice l a l' h o f (freezes_last j next e u n) built = copies_frozen z h o f _ next n
copies_by z v s choice l a l' h o f (takes_no_more next e m n) built = copies_gathered z h o f _ next n
copies_by z v s choice l a l' h o f (keeps_no_more next m n) built = copies_gathered z h o f _ next n
copies_by z v s choice l a l' h o f (marks_led count next d n) built = copies_counted z h o f _ _ next n
copies_by z v s choice l a l' h o f (decides count m next e n) built = copies_counted z h o f _ _ next n
copies_by z v s choice l a l' h o f _ built = copies_nowhere z h o f _ _ (λ i w. w) (λ w. w)

-- So every event keeps it, for each seat.

module _ (z : Sizes) (r r' : Run) (s : ℕ) (choice : Choice) (l : Local) (a : Activity) (l' : Local) (h : Happens z r r' s choice l l' a) (i : Below z r) (st : Step r.history r'.history (log_entry z r a s choice l)) where
  -- of the rows that are whole, and of the one at hand
  copying_keeps : (t : ℕ) (k : Local) → slice_get r'.world.locals t ≡ Some k → Copying z r'.history r'.origin r'.listed k.activity k
  copying_keeps = each_seat h (λ t k. Copying z r'.history r'.origin r'.listed k.activity k)
      (copies_by z (word z r.world) s choice l a l' r'.history r'.origin r'.listed h.arrow (λ y. copying_own i st a y h))
      (λ t k d g. copying_other i st a h t k d g)

  -- what the cells stand for of each row that is written whole
  pub whole_keeps : (t : ℕ) (k : Local) → slice_get r'.world.locals t ≡ Some k → (j q : ℕ) → IsWhole (nursing_of k.activity) k j → slice_get k.rebalance.taken j ≡ Some q → Copied z r'.history r'.origin r'.listed (Activity.Rebalance (Rebalance.Replace Replace.Start)) (at_infant j k) q
  whole_keeps t k g = (copying_keeps t k g).whole

  -- and those of the row that is being written
  pub words_keep : (t : ℕ) (k : Local) → slice_get r'.world.locals t ≡ Some k → IsWriting (nursing_of k.activity) → Copied z r'.history r'.origin r'.listed k.activity k (infant k)
  words_keep t k g = (copying_keeps t k g).words
