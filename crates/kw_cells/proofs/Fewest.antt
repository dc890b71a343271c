-- No cut has fewer rows than the one whose rows are filled before the next one starts.
use Rattle.std.proofs.Common.{ℕ, zero, suc, ◌≡◌, ◌<◌, ◌≤◌, ◌+◌, ◌-◌, List, ◌∷◌, sym, ap, subst, arith, length, get_or, inl, inr, ◌⊎◌}
use Rattle.std.proofs.lemmas.List.{get_or_default, get_or_past}
use Rattle.std.proofs.lemmas.Bool.{cases_lt}
use Rattle.kw_cells.specs.Kept.{AreRising}
use Rattle.kw_cells.specs.Cuts.{AreCuts, end_of, starts_from, starts_at}
use Rattle.kw_cells.specs.declared.cell.Cell.{Cell}
use Rattle.kw_cells.proofs.Rising.{any_cell}
use Rattle.kw_cells.proofs.Places.{index_beyond}
use Rattle.kw_cells.proofs.Made.{next_of, starts_step, starts_stop}

module _ (limit : ℕ) (kept : List Cell) (rising : AreRising kept) (others : List ℕ) (cut : AreCuts limit kept others) where
  -- where a row of the cut ends that another one follows
  ends_before : (i : ℕ) → i + 1 < length others → end_of kept others i ≡ get_or others (i + 1) 0
  ends_before i l = get_or_default others (i + 1) (length kept) 0 l

  -- where the last one ends
  ends_last : (i : ℕ) → length others ≤ i + 1 → end_of kept others i ≡ length kept
  ends_last i l = get_or_past others (i + 1) (length kept) l

  -- one that starts within reach of a row from here on starts no later than the next that is filled
  catches_up : (j start : ℕ) → j + 1 < length others → get_or others (j + 1) 0 ≤ start + limit → start + limit < length kept → get_or others (j + 1) 0 ≤ next_of limit kept rising start
  catches_up j start l near w = index_beyond kept rising (start + limit) (get_or others (j + 1) 0) near w (λ k g. cut.between (j + 1) k (get_or others (j + 1) 0) any_cell l g (omega arith) (cut.within j l))

  -- from a start on that is not before one of the cut no more rows are filled than the cut has
  -- there
  fills_few : (k n i start : ℕ) → i + k ≡ length others → i < length others → get_or others i 0 ≤ start → length (starts_from n limit kept start) ≤ k
  fills_few zero n i start e l g = absurd (omega arith)
  fills_few (suc k) zero i start e l g = omega arith
  fills_few (suc k) (suc n) i start e l g = go (fills_few k n) (cases_lt (start + limit) (length kept))
    where
      go : ((j next : ℕ) → j + k ≡ length others → j < length others → get_or others j 0 ≤ next → length (starts_from n limit kept next) ≤ k) → ((start + limit < length kept) ⊎ (length kept ≤ start + limit)) → length (starts_from (suc n) limit kept start) ≤ suc k
      go rest (inl w) = subst (λ (rows : List ℕ). length rows ≤ suc k) (sym (starts_step limit kept rising n start w)) (at (cases_lt (i + 1) (length others)))
        where
          at : ((i + 1 < length others) ⊎ (length others ≤ i + 1)) → length (start ∷ starts_from n limit kept (next_of limit kept rising start)) ≤ suc k
          at (inl h) =
              let m = cut.most i l in
              let b = ends_before i h in
              let c = catches_up i start h (omega arith) w in
              let r = rest (i + 1) (next_of limit kept rising start) (omega arith) h c in
              omega arith
          at (inr h) = absurd (let m = cut.most i l in let b = ends_last i h in omega arith)
      go rest (inr w) = subst (λ (rows : List ℕ). length rows ≤ suc k) (sym (starts_stop limit kept rising n start w)) (omega arith)

  -- so there are no more rows
  pub no_fewer : length (starts_at limit kept) ≤ length others
  unfolding starts_at
  no_fewer = let f = cut.first in fills_few (length others) (length kept + 1) 0 0 (omega arith) cut.some (omega arith)

  -- where two neighbours of the cut would fit into one row
  module _ (i : ℕ) (more : i + 1 < length others) (together : end_of kept others (i + 1) ≤ get_or others i 0 + limit) where
    -- one row less is filled from a start on that is not before one up to them
    fills_fewer : (k n j start : ℕ) → j + k ≡ i → get_or others j 0 ≤ start → length (starts_from n limit kept start) + 1 + j ≤ length others
    fills_fewer k zero j start e g = omega arith
    fills_fewer k (suc n) j start e g = go (λ m. fills_fewer m n) (cases_lt (start + limit) (length kept))
      where
        go : ((m p next : ℕ) → p + m ≡ i → get_or others p 0 ≤ next → length (starts_from n limit kept next) + 1 + p ≤ length others) → ((start + limit < length kept) ⊎ (length kept ≤ start + limit)) → length (starts_from (suc n) limit kept start) + 1 + j ≤ length others
        go rest (inl w) = subst (λ (rows : List ℕ). length rows + 1 + j ≤ length others) (sym (starts_step limit kept rising n start w)) (at k e)
          where
            at : (k : ℕ) → j + k ≡ i → length (start ∷ starts_from n limit kept (next_of limit kept rising start)) + 1 + j ≤ length others
            at zero e = on (cases_lt (i + 2) (length others))
              where
                here : j ≡ i
                here = omega arith

                same : get_or others j 0 ≡ get_or others i 0
                same = ap (λ (q : ℕ). get_or others q 0) here

                on : ((i + 2 < length others) ⊎ (length others ≤ i + 2)) → length (start ∷ starts_from n limit kept (next_of limit kept rising start)) + 1 + j ≤ length others
                on (inl h) =
                    let b = ends_before (i + 1) (omega arith) in
                    let s = same in
                    let c = catches_up (i + 1) start (omega arith) (omega arith) w in
                    let r = fills_few (length others - (i + 2)) n (i + 1 + 1) (next_of limit kept rising start) (omega arith) (omega arith) c in
                    omega arith
                on (inr h) = absurd (let b = ends_last (i + 1) (omega arith) in let s = same in omega arith)
            at (suc k) e =
                let m = cut.most j (omega arith) in
                let b = ends_before j (omega arith) in
                let c = catches_up j start (omega arith) (omega arith) w in
                let r = rest k (j + 1) (next_of limit kept rising start) (omega arith) c in
                omega arith
        go rest (inr w) = subst (λ (rows : List ℕ). length rows + 1 + j ≤ length others) (sym (starts_stop limit kept rising n start w)) (omega arith)

    -- so there are fewer rows than the cut has
    pub fewer : length (starts_at limit kept) + 1 ≤ length others
    unfolding starts_at
    fewer = let f = cut.first in let r = fills_fewer i (length kept + 1) 0 0 (omega arith) (omega arith) in omega arith
