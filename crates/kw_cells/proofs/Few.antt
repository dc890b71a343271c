-- No more cells of one key are kept than one for each needed version, and one more.
use Rattle.std.proofs.Common.{ℕ, zero, suc, true, false, All, ◌≡◌, ◌<◌, ◌≤◌, ◌+◌, cond, ltb, List, [], ◌∷◌, sym, ◌∙◌, arith, Any, Contains, length, get_or, inl, inr, ◌⊎◌}
use Rattle.std.proofs.lemmas.List.{get_or_default}
use Rattle.std.proofs.lemmas.List.Elements.{Contains-get_or, All-contains}
use Rattle.std.proofs.lemmas.Bool.{cases_lt}
use Rattle.std.proofs.lemmas.Bool.Decides.{nat_tests}
use Rattle.kw_cells.specs.Cells.{is_later, IsBest}
use Rattle.kw_cells.specs.Kept.{is_below, IsNewest, IsChosen, IsKept, IsKeptList, AreRising, HasFew, kept_of}
use Rattle.kw_cells.specs.declared.cell.Cell.{Cell}
use Rattle.kw_cells.proofs.KeptOf.{kept_of-sound, kept_of-rising}
use Rattle.kw_cells.proofs.Rising.{keys_rise, AreFew, few_of_each}

-- how many of the versions are below this one
count_below : ℕ → List ℕ → ℕ
count_below v [] = 0
count_below v (u ∷ us) = cond (ltb u v) 1 0 + count_below v us

-- no more of the versions than there are
at_most : (v : ℕ) (us : List ℕ) → count_below v us ≤ length us
unfolding count_below
at_most v [] = omega arith
at_most v (u ∷ us) = let h = at_most v us in grind (arith, nat_tests)

-- below a greater version there are no fewer
grows : (v w : ℕ) (us : List ℕ) → v ≤ w → count_below v us ≤ count_below w us
unfolding count_below
grows v w [] l = omega arith
grows v w (u ∷ us) l = let h = grows v w us l in grind (arith, nat_tests)

-- where a version lies between, there is one more
one_more : (v w : ℕ) (us : List ℕ) (k : ℕ) → k < length us → v ≤ get_or us k 0 → get_or us k 0 < w → count_below v us + 1 ≤ count_below w us
unfolding count_below
one_more v w [] k l lo hi = absurd (omega arith)
one_more v w (u ∷ us) zero l lo hi = let h = grows v w us (omega arith) in grind (arith, nat_tests)
one_more v w (u ∷ us) (suc k) l lo hi = let h = one_more v w us k (omega arith) lo hi in grind (arith, nat_tests)

-- between two kept cells of one key lies a needed version
pub between : (cells : List Cell) (needed : List ℕ) (c d : Cell) → IsChosen cells needed c → Contains cells d → d.key ≡ c.key → c.version < d.version → (k : ℕ) × (k < length needed) × (c.version ≤ get_or needed k 0) × (get_or needed k 0 < d.version)
between cells needed c d (among, which) h same l = go which
  where
    go : IsNewest cells c ⊎ Any (λ u. IsBest cells c.key u c) needed → (k : ℕ) × (k < length needed) × (c.version ≤ get_or needed k 0) × (get_or needed k 0 < d.version)
    go (inl n) = absurd (let g : is_later d c ≡ false = All-contains (λ (x : Cell). x.key ≡ c.key → is_later x c ≡ false) cells d n h same in grind (arith, nat_tests))
    go (inr (m, u, lm, e, i)) =
        let at : get_or needed m 0 ≡ u = get_or_default needed m 0 u lm ∙ e in
        let b = i.in_bound in
        (m, lm, omega arith, above (cases_lt u d.version) at)
      where
        above : ((u < d.version) ⊎ (d.version ≤ u)) → get_or needed m 0 ≡ u → get_or needed m 0 < d.version
        above (inl a) at = omega arith
        above (inr a) at = absurd (let g : is_later d c ≡ false = All-contains (λ (x : Cell). x.key ≡ c.key → x.version ≤ u → is_later x c ≡ false) cells d i.greatest h same a in grind (arith, nat_tests))

-- Rising cells that are all to be kept.
module _ (cells : List Cell) (needed : List ℕ) (kept : List Cell) (rising : AreRising kept) (kept_at : All (IsKept cells needed) kept) where
  -- from one cell of a key to the next a needed version is passed
  step : (k : ℕ) (d : Cell) → k + 1 < length kept → (get_or kept k d).key ≡ (get_or kept (k + 1) d).key → count_below (get_or kept k d).version needed + 1 ≤ count_below (get_or kept (k + 1) d).version needed
  step k d l same =
      let r : is_below (get_or kept k d) (get_or kept (k + 1) d) ≡ true = rising k (k + 1) d (omega arith) l in
      let v : (get_or kept k d).version < (get_or kept (k + 1) d).version = grind (arith, nat_tests) in
      let a = kept_at k d (omega arith) in
      let b = kept_at (k + 1) d l in
      let w = between cells needed (get_or kept k d) (get_or kept (k + 1) d) a.0 b.0.0 (sym same) v in
      one_more (get_or kept k d).version (get_or kept (k + 1) d).version needed w.0 w.1 w.2 w.3

  -- so many are passed from a cell of a key to one that stands so many places behind it
  many : (i j : ℕ) (d : Cell) → i + j < length kept → (get_or kept i d).key ≡ (get_or kept (i + j) d).key → j ≤ count_below (get_or kept (i + j) d).version needed
  many i zero d l same = omega arith
  many i (suc j) d l same =
      let e : i + suc j ≡ i + j + 1 = omega arith in
      let n : i + j + 1 < length kept = omega arith in
      let s : (get_or kept i d).key ≡ (get_or kept (i + j + 1) d).key = rw e at same in
      let a = keys_rise kept rising i (i + j) d (omega arith) (omega arith) in
      let b = keys_rise kept rising (i + j) (i + j + 1) d (omega arith) n in
      let here : (get_or kept i d).key ≡ (get_or kept (i + j) d).key = omega arith in
      let next : (get_or kept (i + j) d).key ≡ (get_or kept (i + j + 1) d).key = omega arith in
      let h = many i j d (omega arith) here in
      let t = step (i + j) d n next in
      rw e (omega arith)

  -- so cells of one key do not stand as many places apart
  few_apart : AreFew (length needed + 1) kept
  few_apart i d l same = absurd (let m = many i (length needed + 1) d l same in let a = at_most (get_or kept (i + (length needed + 1)) d).version needed in omega arith)

  -- and no key has more
  pub few_of_each_key : HasFew (length needed + 1) kept
  few_of_each_key = few_of_each kept rising (length needed + 1) few_apart

-- so no key of the kept list has more
pub has_few : (cells : List Cell) (needed : List ℕ) (kept : List Cell) → IsKeptList cells needed kept → HasFew (length needed + 1) kept
has_few cells needed kept list = few_of_each_key cells needed kept list.rising (λ k d l. (list.exactly (get_or kept k d)).0 (Contains-get_or kept k d l))

-- and so it is of the cells that the function keeps
pub few_of_kept : (cells : List Cell) (needed : List ℕ) → HasFew (length needed + 1) (kept_of cells needed)
few_of_kept cells needed = few_of_each_key cells needed (kept_of cells needed) (kept_of-rising cells needed) (kept_of-sound cells needed)

-- no more than a greater number
pub few_within : (a b : ℕ) (kept : List Cell) → a ≤ b → HasFew a kept → HasFew b kept
few_within a b kept l few key = let h = few key in omega arith
