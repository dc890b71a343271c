-- The turns of the loops that count the rows, and that list where they start.
use Rattle.std.proofs.Common.{ℕ, zero, suc, ◌≡◌, ◌<◌, ◌≤◌, ◌+◌, ◌-◌, List, [], ◌∷◌, ◌++◌, refl, sym, ap, ◌∙◌, arith, length, drop, inl, inr, ◌⊎◌}
use Rattle.std.proofs.lemmas.List.{length_push, length-append, append_assoc, append-nil}
use Rattle.std.proofs.lemmas.Bool.{cases_lt}
use Rattle.kw_cells.specs.Kept.{AreRising}
use Rattle.kw_cells.specs.Cuts.{key_at, starts_from, starts_at}
use Rattle.kw_cells.specs.declared.cell.Cell.{Cell}
use Rattle.kw_cells.proofs.Made.{next_of, starts_step, starts_stop}
use Rattle.kw_cells.proofs.Places.{index_within}

-- so many rows are counted, the last of which starts here
pub record AreCounted (limit : ℕ) (kept : List Cell) (rows start : ℕ) : Type 0 where
  pub within : start ≤ length kept
  pub some : 1 ≤ rows
  pub few : rows ≤ length kept + 1
  pub counted : length (starts_at limit kept) + 1 ≡ rows + length (starts_from (length kept + 2 - rows) limit kept start)

-- these starts are listed, the last of which is here
pub record AreListed (limit : ℕ) (kept : List Cell) (starts : List ℕ) (start : ℕ) : Type 0 where
  pub within : start ≤ length kept
  pub some : 1 ≤ length starts
  pub few : length starts ≤ length kept + 1
  pub listed : starts_at limit kept ≡ starts ++ drop 1 (starts_from (length kept + 2 - length starts) limit kept start)

module _ (limit : ℕ) (kept : List Cell) (rising : AreRising kept) where
  -- what is left where the last row takes all cells, or no more rows may be
  one_left : (rows start : ℕ) → rows ≤ length kept + 1 → (length kept < rows) ⊎ (length kept ≤ start + limit) → starts_from (length kept + 2 - rows) limit kept start ≡ start ∷ []
  one_left rows start few (inl h) = let e : length kept + 2 - rows ≡ suc zero = omega arith in go e (cases_lt (start + limit) (length kept))
    where
      go : length kept + 2 - rows ≡ suc zero → ((start + limit < length kept) ⊎ (length kept ≤ start + limit)) → starts_from (length kept + 2 - rows) limit kept start ≡ start ∷ []
      go e (inl w) = ap (λ n. starts_from n limit kept start) e ∙ starts_step limit kept rising zero start w
      go e (inr w) = ap (λ n. starts_from n limit kept start) e ∙ starts_stop limit kept rising zero start w
  one_left rows start few (inr h) = let e : length kept + 2 - rows ≡ suc (length kept + 1 - rows) = omega arith in ap (λ n. starts_from n limit kept start) e ∙ starts_stop limit kept rising (length kept + 1 - rows) start h

  -- what is left where one row more follows
  more_left : (rows start : ℕ) → rows ≤ length kept → start + limit < length kept → starts_from (length kept + 2 - rows) limit kept start ≡ start ∷ starts_from (length kept + 2 - (rows + 1)) limit kept (next_of limit kept rising start)
  more_left rows start few w =
      let e : length kept + 2 - rows ≡ suc (length kept + 2 - (rows + 1)) = omega arith in
      ap (λ n. starts_from n limit kept start) e ∙ starts_step limit kept rising (length kept + 2 - (rows + 1)) start w

  -- the first row starts at 0
  pub counted_first : AreCounted limit kept 1 0
  unfolding starts_at
  counted_first = record { within = omega arith; some = omega arith; few = omega arith; counted = is }
    where
      is : length (starts_at limit kept) + 1 ≡ 1 + length (starts_from (length kept + 2 - 1) limit kept 0)
      is = let e : length kept + 2 - 1 ≡ length kept + 1 = omega arith in let m : length (starts_from (length kept + 2 - 1) limit kept 0) ≡ length (starts_from (length kept + 1) limit kept 0) = ap (λ n. length (starts_from n limit kept 0)) e in omega arith

  -- one row more is counted
  pub counted_more : (rows start next : ℕ) → AreCounted limit kept rows start → rows ≤ length kept → start + limit < length kept → next ≡ next_of limit kept rising start → AreCounted limit kept (rows + 1) next
  counted_more rows start next so few w e = record {
    within = (let p = index_within kept rising (key_at kept (start + limit)) in omega (arith, p, e));
    some = omega arith;
    few = omega arith;
    counted = (
        let c = so.counted in
        let m : length (starts_from (length kept + 2 - rows) limit kept start) ≡ 1 + length (starts_from (length kept + 2 - (rows + 1)) limit kept next) = ap (λ (x : List ℕ). length x) (more_left rows start few w) ∙ (rw e (omega arith)) in
        omega arith);
  }

  -- where the last row takes all cells that are left, all are counted
  counted_all : (rows start : ℕ) → AreCounted limit kept rows start → length kept ≤ start + limit → rows ≡ length (starts_at limit kept)
  counted_all rows start so end =
      let c = so.counted in
      let m : length (starts_from (length kept + 2 - rows) limit kept start) ≡ 1 = ap (λ (x : List ℕ). length x) (one_left rows start so.few (inr end)) in
      omega arith

  -- and where it does not, there are more
  counted_over : (rows start : ℕ) → AreCounted limit kept rows start → rows ≤ length kept → start + limit < length kept → rows < length (starts_at limit kept)
  counted_over rows start so few w =
      let c = so.counted in
      let m : length (starts_from (length kept + 2 - rows) limit kept start) ≡ suc (length (starts_from (length kept + 2 - (rows + 1)) limit kept (next_of limit kept rising start))) = ap (λ (x : List ℕ). length x) (more_left rows start few w) in
      let e : length kept + 2 - (rows + 1) ≡ suc (length kept - rows) = omega arith in
      let f : length (starts_from (length kept + 2 - (rows + 1)) limit kept (next_of limit kept rising start)) ≡ length (starts_from (suc (length kept - rows)) limit kept (next_of limit kept rising start)) = ap (λ n. length (starts_from n limit kept (next_of limit kept rising start))) e in
      let some : 0 < length (starts_from (suc (length kept - rows)) limit kept (next_of limit kept rising start)) = omega arith in
      omega arith

  -- so all cells fit into so many rows exactly where they fit into those that were counted
  pub counted_fit : (rows counted start : ℕ) → AreCounted limit kept counted start → counted ≤ rows → (0 < length kept → rows ≤ length kept) → (counted < rows → start + limit < length kept → ⊥) → (length kept ≤ start + limit → length (starts_at limit kept) ≤ rows) × (length (starts_at limit kept) ≤ rows → length kept ≤ start + limit)
  counted_fit rows counted start so upto no_more ended = (λ l. (let e = counted_all counted start so l in omega arith), λ m. go m (cases_lt (start + limit) (length kept)) (cases_lt counted rows))
    where
      go : length (starts_at limit kept) ≤ rows → ((start + limit < length kept) ⊎ (length kept ≤ start + limit)) → ((counted < rows) ⊎ (rows ≤ counted)) → length kept ≤ start + limit
      go m (inr h) b = h
      go m (inl h) (inl b) = absurd (ended b h)
      go m (inl h) (inr b) = absurd (let n = no_more (omega arith) in let o = counted_over counted start so (omega arith) h in omega arith)

  -- the first start is listed
  pub listed_first : AreListed limit kept (0 ∷ []) 0
  unfolding starts_at
  listed_first = record { within = omega arith; some = omega arith; few = omega arith; listed = is }
    where
      first : (n : ℕ) → starts_from (suc n) limit kept 0 ≡ 0 ∷ drop 1 (starts_from (suc n) limit kept 0)
      first n = refl

      is : starts_at limit kept ≡ 0 ∷ [] ++ drop 1 (starts_from (length kept + 2 - 1) limit kept 0)
      is =
          let e : length kept + 1 ≡ suc (length kept) = omega arith in
          let f : length kept + 2 - 1 ≡ suc (length kept) = omega arith in
          ap (λ n. starts_from n limit kept 0) e ∙ first (length kept) ∙ ap (λ n. 0 ∷ drop 1 (starts_from n limit kept 0)) (sym f)

  -- one start more is listed
  pub listed_more : (starts : List ℕ) (start next : ℕ) → AreListed limit kept starts start → length starts ≤ length kept → start + limit < length kept → next ≡ next_of limit kept rising start → AreListed limit kept (starts ++ next ∷ []) next
  listed_more starts start next so few w e = record {
    within = (let p = index_within kept rising (key_at kept (start + limit)) in omega (arith, p, e));
    some = omega (arith, length_push starts next);
    few = omega (arith, length_push starts next);
    listed = so.listed ∙ (ap (λ (x : List ℕ). starts ++ drop 1 x) (more_left (length starts) start few w) ∙ rest);
  }
    where
      first : (n : ℕ) → starts_from (suc n) limit kept next ≡ next ∷ drop 1 (starts_from (suc n) limit kept next)
      first n = refl

      rest : starts ++ starts_from (length kept + 2 - (length starts + 1)) limit kept (next_of limit kept rising start) ≡ starts ++ next ∷ [] ++ drop 1 (starts_from (length kept + 2 - length (starts ++ next ∷ [])) limit kept next)
      rest =
          let f : length kept + 2 - (length starts + 1) ≡ suc (length kept - length starts) = omega arith in
          let g : length kept + 2 - length (starts ++ next ∷ []) ≡ suc (length kept - length starts) = omega (arith, length_push starts next) in
          rw (f, g, sym e) (ap (λ (x : List ℕ). starts ++ x) (first (length kept - length starts)) ∙ sym (append_assoc starts (next ∷ []) _))

  -- there is room for one start more
  pub listed_room : (most : ℕ) (starts : List ℕ) (start : ℕ) → AreListed limit kept starts start → length starts ≤ length kept → start + limit < length kept → length (starts_at limit kept) ≤ most → length starts < most
  listed_room most starts start so few w room =
      let m : drop 1 (starts_from (length kept + 2 - length starts) limit kept start) ≡ starts_from (length kept + 2 - (length starts + 1)) limit kept (next_of limit kept rising start) = ap (drop 1) (more_left (length starts) start few w) in
      let f : length kept + 2 - (length starts + 1) ≡ suc (length kept - length starts) = omega arith in
      let some : 0 < length (starts_from (suc (length kept - length starts)) limit kept (next_of limit kept rising start)) = omega arith in
      let n : length (starts_at limit kept) ≡ length starts + length (starts_from (suc (length kept - length starts)) limit kept (next_of limit kept rising start)) = ap (λ (x : List ℕ). length x) so.listed ∙ (length-append starts _ ∙ (ap (λ (x : List ℕ). length starts + length x) m ∙ ap (λ n. length starts + length (starts_from n limit kept (next_of limit kept rising start))) f)) in
      omega arith

  -- where no row follows, all are listed
  pub listed_all : (starts : List ℕ) (start : ℕ) → AreListed limit kept starts start → (length kept < length starts) ⊎ (length kept ≤ start + limit) → starts ≡ starts_at limit kept
  listed_all starts start so end = sym (so.listed ∙ (ap (λ (x : List ℕ). starts ++ drop 1 x) (one_left (length starts) start so.few end) ∙ append-nil starts))
