-- Where rows start, as a function: what it gives are starts as they should be, where no key has
-- more cells than a row may have.
use Rattle.std.proofs.Common.{ℕ, zero, suc, ◌≡◌, ◌<◌, ◌≤◌, ◌+◌, ◌-◌, List, [], ◌∷◌, refl, sym, ap, subst, ◌∙◌, arith, length, get_or, inl, inr, ◌⊎◌}
use Rattle.std.proofs.lemmas.List.{get_or_default}
use Rattle.std.proofs.lemmas.Option.{slice_get-get_or, slice_get_past}
use Rattle.std.proofs.lemmas.Bool.{cases_lt}
use Rattle.kw_cells.specs.Kept.{AreRising, HasFew}
use Rattle.kw_cells.specs.Cuts.{IsNextStart, AreStarts, index_of_key, key_at, starts_from, starts_at}
use Rattle.kw_cells.specs.declared.cell.Cell.{Cell}
use Rattle.kw_cells.proofs.Rising.{any_cell, keys_rise, few_apart}
use Rattle.kw_cells.proofs.Places.{lesser, not_lesser, index_within, index_below}

-- these are starts from one that starts here on
record AreStartsFrom (limit : ℕ) (kept : List Cell) (start : ℕ) (starts : List ℕ) : Type 0 where
  some : 0 < length starts
  first : get_or starts 0 0 ≡ start
  next : (i : ℕ) → i + 1 < length starts → IsNextStart limit kept (get_or starts i 0) (get_or starts (i + 1) 0)
  last : length kept ≤ get_or starts (length starts - 1) 0 + limit

-- the last row takes all cells that are left
last_one : (limit : ℕ) (kept : List Cell) (start : ℕ) → length kept ≤ start + limit → AreStartsFrom limit kept start (start ∷ [])
last_one limit kept start l = record { some = omega arith; first = refl; next = λ i g. absurd (omega arith); last = l }

-- one start before them
one_before : (limit : ℕ) (kept : List Cell) (start next : ℕ) (starts : List ℕ) → IsNextStart limit kept start next → AreStartsFrom limit kept next starts → AreStartsFrom limit kept start (start ∷ starts)
one_before limit kept start next starts n are = record { some = omega arith; first = refl; next = on; last = ends starts are.some are.last }
  where
    on : (i : ℕ) → i + 1 < length (start ∷ starts) → IsNextStart limit kept (get_or (start ∷ starts) i 0) (get_or (start ∷ starts) (i + 1) 0)
    on zero l = rw are.first n
    on (suc i) l =
        let e : get_or (start ∷ starts) (suc i) 0 ≡ get_or starts i 0 = refl in
        let n : suc i + 1 ≡ suc (i + 1) = omega arith in
        let f : get_or (start ∷ starts) (suc i + 1) 0 ≡ get_or starts (i + 1) 0 = ap (λ (q : ℕ). get_or (start ∷ starts) q 0) n in
        rw (e, f) (are.next i (omega arith))

    ends : (rows : List ℕ) → 0 < length rows → length kept ≤ get_or rows (length rows - 1) 0 + limit → length kept ≤ get_or (start ∷ rows) (length (start ∷ rows) - 1) 0 + limit
    ends [] some e = absurd (omega arith)
    ends (q ∷ rows) some e =
        let m : length (start ∷ q ∷ rows) - 1 ≡ suc (length (q ∷ rows) - 1) = omega arith in
        let f : get_or (start ∷ q ∷ rows) (length (start ∷ q ∷ rows) - 1) 0 ≡ get_or (q ∷ rows) (length (q ∷ rows) - 1) 0 = ap (λ (x : ℕ). get_or (start ∷ q ∷ rows) x 0) m in
        rw f e

module _ (limit : ℕ) (kept : List Cell) (rising : AreRising kept) where
  -- where the row starts that follows one from here on
  abbrev pub next_of : ℕ → ℕ
  next_of start = index_of_key kept (key_at kept (start + limit))

  -- the function by one row
  pub starts_step : (n start : ℕ) → start + limit < length kept → starts_from (suc n) limit kept start ≡ start ∷ starts_from n limit kept (next_of start)
  starts_step n start w = rw (slice_get-get_or kept (start + limit) any_cell w) refl

  -- the last row takes all cells that are left
  pub starts_stop : (n start : ℕ) → length kept ≤ start + limit → starts_from (suc n) limit kept start ≡ start ∷ []
  starts_stop n start w = rw (slice_get_past kept (start + limit) w) refl

  -- a place further on is where the next row starts
  next_starts : (start : ℕ) → start + limit < length kept → start < next_of start → IsNextStart limit kept start (next_of start)
  next_starts start within later = record { later = later; fits = fits; first = first; within = within; full = full }
    where
      fits : next_of start ≤ start + limit
      fits = index_below kept rising (start + limit) within

      full : (d : Cell) → (get_or kept (start + limit) d).key ≡ (get_or kept (next_of start) d).key
      full d =
          let e : (get_or kept (start + limit) any_cell).key ≡ (get_or kept (start + limit) d).key = ap (λ (c : Cell). c.key) (get_or_default kept (start + limit) any_cell d within) in
          let a = not_lesser kept rising (key_at kept (start + limit)) (next_of start) d (omega arith) (omega (arith, fits)) in
          let b = keys_rise kept rising (next_of start) (start + limit) d fits within in
          omega arith

      first : (k : ℕ) (d : Cell) → k < next_of start → (get_or kept k d).key < (get_or kept (next_of start) d).key
      first k d g = let f = fits in let b = lesser kept rising (key_at kept (start + limit)) k d g in let a = not_lesser kept rising (key_at kept (start + limit)) (next_of start) d (omega arith) (omega arith) in omega arith

  -- a row that starts here ends nowhere: its first key has too many cells for it
  pub record IsStuck (start : ℕ) : Type 0 where
    pub within : start + limit < length kept
    pub back : next_of start ≡ start

  -- there the function goes on as long as it may
  stuck_rows : (n start : ℕ) → IsStuck start → length (starts_from n limit kept start) ≡ n
  stuck_rows zero start s = refl
  stuck_rows (suc n) start s =
      let h = stuck_rows n start s in
      let e : length (starts_from n limit kept (next_of start)) ≡ length (starts_from n limit kept start) = ap (λ (q : ℕ). length (starts_from n limit kept q)) s.back in
      ap (λ (rows : List ℕ). length rows) (starts_step n start s.within) ∙ omega arith

  -- a row that does not end is stuck where its last key begins
  gets_stuck : (start : ℕ) → start + limit < length kept → next_of start ≤ start → IsStuck (next_of start)
  gets_stuck start w back = record { within = omega arith; back = ap (index_of_key kept) same }
    where
      same : key_at kept (next_of start + limit) ≡ key_at kept (start + limit)
      same =
          let a = not_lesser kept rising (key_at kept (start + limit)) (next_of start) any_cell (omega arith) (omega arith) in
          let b = keys_rise kept rising (next_of start) (next_of start + limit) any_cell (omega arith) (omega arith) in
          let c = keys_rise kept rising (next_of start + limit) (start + limit) any_cell (omega arith) w in
          omega arith

  -- no row is stuck where no key has too many cells
  never_stuck : HasFew limit kept → (start : ℕ) → IsStuck start → ⊥
  never_stuck few start s =
      let w = s.within in
      let a = not_lesser kept rising (key_at kept (start + limit)) start any_cell (let b = s.back in omega arith) (omega arith) in
      let b = keys_rise kept rising start (start + limit) any_cell (omega arith) w in
      few_apart kept rising limit few start any_cell w (omega arith)

  -- starts as they should be, or as many as there may be since a row is stuck
  abbrev Goes : ℕ → ℕ → List ℕ → Type 0
  Goes n start rows = AreStartsFrom limit kept start rows ⊎ ((p : ℕ) × IsStuck p × (n ≤ length rows))

  -- the function gives such ones
  starts_go : (n start : ℕ) → start ≤ length kept → length kept < n + start → Goes n start (starts_from n limit kept start)
  starts_go zero start l enough = absurd (omega arith)
  starts_go (suc n) start l enough = go (cases_lt (start + limit) (length kept)) (starts_go n)
    where
      go : ((start + limit < length kept) ⊎ (length kept ≤ start + limit)) → ((next : ℕ) → next ≤ length kept → length kept < n + next → Goes n next (starts_from n limit kept next)) → Goes (suc n) start (starts_from (suc n) limit kept start)
      go (inl h) rest = subst (Goes (suc n) start) (sym (starts_step n start h)) (at (cases_lt start (next_of start)))
        where
          at : ((start < next_of start) ⊎ (next_of start ≤ start)) → Goes (suc n) start (start ∷ starts_from n limit kept (next_of start))
          at (inl g) = on (rest (next_of start) (index_within kept rising (key_at kept (start + limit))) (omega arith))
            where
              on : Goes n (next_of start) (starts_from n limit kept (next_of start)) → Goes (suc n) start (start ∷ starts_from n limit kept (next_of start))
              on (inl r) = inl (one_before limit kept start (next_of start) (starts_from n limit kept (next_of start)) (next_starts start h g) r)
              on (inr (p, s, m)) = inr (p, s, omega (arith, m))
          at (inr g) = let s = gets_stuck start h g in let m = stuck_rows n (next_of start) s in inr (next_of start, s, omega (arith, m))
      go (inr h) rest = subst (Goes (suc n) start) (sym (starts_stop n start h)) (inl (last_one limit kept start h))

  -- so are all, where no row is stuck that leaves as many starts
  pub starts_here : ((p : ℕ) → IsStuck p → length kept + 1 ≤ length (starts_at limit kept) → ⊥) → AreStarts limit kept (starts_at limit kept)
  unfolding starts_at
  starts_here not_stuck = go (starts_go (length kept + 1) 0 (omega arith) (omega arith))
    where
      go : Goes (length kept + 1) 0 (starts_from (length kept + 1) limit kept 0) → AreStarts limit kept (starts_from (length kept + 1) limit kept 0)
      go (inl a) = record { some = a.some; first = a.first; next = a.next; last = a.last }
      go (inr (p, s, m)) = absurd (not_stuck p s m)

  -- where it gives no more starts than there are cells, they are as they should be
  pub starts_at-are : (0 < length kept → length (starts_at limit kept) ≤ length kept) → AreStarts limit kept (starts_at limit kept)
  starts_at-are few = starts_here (λ p s m. let w = s.within in let f = few (omega arith) in omega arith)

  -- and so where no key has more cells than a row may have
  pub starts_at-few : HasFew limit kept → AreStarts limit kept (starts_at limit kept)
  starts_at-few few = starts_here (λ p s m. never_stuck few p s)
