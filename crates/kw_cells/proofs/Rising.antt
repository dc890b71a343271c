-- Cells that rise by key and version: their keys rise by place, and how many there are of a key.
use Rattle.std.proofs.Common.{ℕ, zero, suc, Bool, true, false, ◌≡◌, ◌<◌, ◌≤◌, ◌+◌, ◌-◌, eqb, None, List, refl, ap, subst, arith, length, get_or, take, inl, inr, ◌⊎◌}
use Rattle.std.specs.List.{count_by}
use Rattle.std.proofs.lemmas.List.{take_all, get_or_default}
use Rattle.std.proofs.lemmas.List.Sums.{count_by_more_yes, count_by_more_no}
use Rattle.std.proofs.lemmas.Bool.{cases_lt}
use Rattle.std.proofs.lemmas.Bool.Decides.{nat_tests}
use Rattle.kw_cells.specs.Kept.{AreRising, HasFew}
use Rattle.kw_cells.specs.declared.cell.Cell.{Cell}

-- a cell, where a read of a list wants one
abbrev pub any_cell : Cell
any_cell = record { key = 0; place = 0; version = 0; value = None }

-- the keys rise
pub keys_rise : (kept : List Cell) → AreRising kept → (i j : ℕ) (d : Cell) → i ≤ j → j < length kept → (get_or kept i d).key ≤ (get_or kept j d).key
keys_rise kept rising i j d g l = go (cases_lt i j)
  where
    go : ((i < j) ⊎ (j ≤ i)) → (get_or kept i d).key ≤ (get_or kept j d).key
    go (inl h) = let r = rising i j d h l in grind (arith, nat_tests)
    go (inr h) = let e : i ≡ j = omega arith in let f : (get_or kept i d).key ≡ (get_or kept j d).key = ap (λ (q : ℕ). (get_or kept q d).key) e in omega arith

-- no two cells so many places apart have one key
abbrev pub AreFew : ℕ → List Cell → Type 0
AreFew most kept = (i : ℕ) (d : Cell) → i + most < length kept → (get_or kept i d).key ≡ (get_or kept (i + most) d).key → ⊥

-- how many of the first n cells have this key
abbrev pub count_of : ℕ → ℕ → List Cell → ℕ
count_of key n kept = count_by (λ c. eqb c.key key) (take n kept)

-- the first n cells: those of lower keys stand before a place, and of the key are no more than
-- behind it, nor than `most`
record HasBlock (kept : List Cell) (most key n from : ℕ) : Type 0 where
  pub within : from ≤ n
  pub below : (k : ℕ) (d : Cell) → k < from → (get_or kept k d).key < key
  pub above : (k : ℕ) (d : Cell) → from ≤ k → k < n → key ≤ (get_or kept k d).key
  pub counted : count_of key n kept ≤ n - from
  pub bounded : count_of key n kept ≤ most

module _ (kept : List Cell) (rising : AreRising kept) where
  -- the cells of a key stand beside each other
  between : (i k j : ℕ) (d : Cell) → i ≤ k → k ≤ j → j < length kept → (get_or kept i d).key ≡ (get_or kept j d).key → (get_or kept k d).key ≡ (get_or kept j d).key
  between i k j d p q l same =
      let a = keys_rise kept rising i k d p (omega arith) in
      let b = keys_rise kept rising k j d q l in
      omega arith

  -- cells of one key from a place on are so many
  run_of : (i j n : ℕ) (d : Cell) → i + n < length kept → (get_or kept i d).key ≡ (get_or kept (i + n) d).key → j ≤ suc n → j ≤ count_of (get_or kept (i + n) d).key (i + j) kept
  run_of i zero n d l same g = omega arith
  run_of i (suc j) n d l same g =
      let at = between i (i + j) (i + n) d (omega arith) (omega arith) l same in
      let yes : eqb (get_or kept (i + j) d).key (get_or kept (i + n) d).key ≡ true = grind (arith, nat_tests) in
      let more = count_by_more_yes (λ c. eqb c.key (get_or kept (i + n) d).key) kept (i + j) d (omega arith) yes in
      let h = run_of i j n d l same (omega arith) in
      let e : i + suc j ≡ i + j + 1 = omega arith in
      rw (e, more) (omega arith)

  -- more cells are no fewer of a key
  count_grows : (key n m : ℕ) (d : Cell) → n + m ≤ length kept → count_of key n kept ≤ count_of key (n + m) kept
  count_grows key n zero d l = let e : n + zero ≡ n = omega arith in rw e (omega arith)
  count_grows key n (suc m) d l = go (count_grows key n m d (omega arith)) (eqb (get_or kept (n + m) d).key key) refl
    where
      next : n + suc m ≡ n + m + 1
      next = omega arith

      go : count_of key n kept ≤ count_of key (n + m) kept → (b : Bool) → eqb (get_or kept (n + m) d).key key ≡ b → count_of key n kept ≤ count_of key (n + suc m) kept
      go h true e = rw (next, count_by_more_yes (λ c. eqb c.key key) kept (n + m) d (omega arith) e) (omega arith)
      go h false e = rw (next, count_by_more_no (λ c. eqb c.key key) kept (n + m) d (omega arith) e) h

  -- where no key has more than so many cells, no two so many places apart have one key
  pub few_apart : (most : ℕ) → HasFew most kept → AreFew most kept
  few_apart most few i d l same =
      let a = run_of i (suc most) most d l same (omega arith) in
      let e : i + suc most + (length kept - (i + suc most)) ≡ length kept = omega arith in
      let b : count_of (get_or kept (i + most) d).key (i + suc most) kept ≤ count_of (get_or kept (i + most) d).key (length kept) kept = subst (λ (q : ℕ). count_of (get_or kept (i + most) d).key (i + suc most) kept ≤ count_of (get_or kept (i + most) d).key q kept) e (count_grows (get_or kept (i + most) d).key (i + suc most) (length kept - (i + suc most)) d (omega arith)) in
      let c : count_of (get_or kept (i + most) d).key (length kept) kept ≤ most = rw (take_all (length kept) kept (omega arith)) (few (get_or kept (i + most) d).key) in
      absurd (omega arith)

  -- one cell more
  block_on : (most key n from : ℕ) (d : Cell) → AreFew most kept → n < length kept → HasBlock kept most key n from → (next : ℕ) × HasBlock kept most key (n + 1) next
  block_on most key n from d few l so = go (eqb (get_or kept n d).key key) refl
    where
      go : (b : Bool) → eqb (get_or kept n d).key key ≡ b → (next : ℕ) × HasBlock kept most key (n + 1) next
      go true e =
          let more = count_by_more_yes (λ c. eqb c.key key) kept n d l e in
          let same : (get_or kept n d).key ≡ key = grind (arith, nat_tests) in
          let w = so.within in
          let c = so.counted in
          let short : n - from < most = at same (cases_lt (n - from) most) in (
            from,
            record {
              within = omega arith;
              below = so.below;
              above = λ k x g h. above same k x g h (cases_lt k n);
              counted = rw more (omega arith);
              bounded = rw more (omega arith);
            },
          )
        where
          at : (get_or kept n d).key ≡ key → ((n - from < most) ⊎ (most ≤ n - from)) → n - from < most
          at same (inl h) = h
          at same (inr h) =
              let w = so.within in
              let near : from + most ≤ n = omega arith in
              let a = above_from same near in
              absurd (few from d (omega arith) a)
            where
              above_from : (get_or kept n d).key ≡ key → from + most ≤ n → (get_or kept from d).key ≡ (get_or kept (from + most) d).key
              above_from same near =
                  let low : key ≤ (get_or kept from d).key = low_at (cases_lt from n) in
                  let p = keys_rise kept rising from (from + most) d (omega arith) (omega arith) in
                  let q = keys_rise kept rising (from + most) n d near l in
                  omega arith
                where
                  low_at : ((from < n) ⊎ (n ≤ from)) → key ≤ (get_or kept from d).key
                  low_at (inl g) = so.above from d (omega arith) g
                  low_at (inr g) = let w = so.within in let e : from ≡ n = omega arith in let f : (get_or kept from d).key ≡ (get_or kept n d).key = ap (λ (q : ℕ). (get_or kept q d).key) e in omega arith

          above : (get_or kept n d).key ≡ key → (k : ℕ) (x : Cell) → from ≤ k → k < n + 1 → ((k < n) ⊎ (n ≤ k)) → key ≤ (get_or kept k x).key
          above same k x g h (inl p) = so.above k x g p
          above same k x g h (inr p) = let e : k ≡ n = omega arith in let f = get_or_default kept n x d l in let q : (get_or kept n x).key ≡ (get_or kept n d).key = ap (λ (c : Cell). c.key) f in let r : (get_or kept k x).key ≡ (get_or kept n x).key = ap (λ (m : ℕ). (get_or kept m x).key) e in omega arith
      go false e = at (cases_lt (get_or kept n d).key key)
        where
          more : count_of key (n + 1) kept ≡ count_of key n kept
          more = count_by_more_no (λ c. eqb c.key key) kept n d l e

          at : (((get_or kept n d).key < key) ⊎ (key ≤ (get_or kept n d).key)) → (next : ℕ) × HasBlock kept most key (n + 1) next
          at (inr g) = (
            from,
            record {
              within = (let w = so.within in omega arith);
              below = so.below;
              above = λ k x p h. above k x p h (cases_lt k n);
              counted = rw more (let c = so.counted in omega arith);
              bounded = rw more so.bounded;
            },
          )
            where
              above : (k : ℕ) (x : Cell) → from ≤ k → k < n + 1 → ((k < n) ⊎ (n ≤ k)) → key ≤ (get_or kept k x).key
              above k x p h (inl q) = so.above k x p q
              above k x p h (inr q) = let e : k ≡ n = omega arith in let f : (get_or kept n x).key ≡ (get_or kept n d).key = ap (λ (c : Cell). c.key) (get_or_default kept n x d l) in let r : (get_or kept k x).key ≡ (get_or kept n x).key = ap (λ (m : ℕ). (get_or kept m x).key) e in omega arith
          at (inl g) = (
            n + 1,
            record {
              within = omega arith;
              below = below;
              above = λ k x p h. absurd (omega arith);
              counted = rw more (let c = so.counted in let e = all_below (cases_lt from n) in omega arith);
              bounded = rw more so.bounded;
            },
          )
            where
              all_below : ((from < n) ⊎ (n ≤ from)) → n - from ≡ 0
              all_below (inl p) = absurd (let a = so.above from d (omega arith) p in let b = keys_rise kept rising from n d (omega arith) l in omega arith)
              all_below (inr p) = omega arith

              below : (k : ℕ) (x : Cell) → k < n + 1 → (get_or kept k x).key < key
              below k x p = let a = keys_rise kept rising k n x (omega arith) l in let f : (get_or kept n x).key ≡ (get_or kept n d).key = ap (λ (c : Cell). c.key) (get_or_default kept n x d l) in omega arith

  -- the first n cells have such a place
  block : (most key n : ℕ) → AreFew most kept → n ≤ length kept → (from : ℕ) × HasBlock kept most key n from
  block most key zero few l = (0, record { within = omega arith; below = λ k d g. absurd (omega arith); above = λ k d g h. absurd (omega arith); counted = omega arith; bounded = omega arith })
  block most key (suc n) few l =
      let b = block most key n few (omega arith) in
      let c = block_on most key n b.0 any_cell few (omega arith) b.1 in
      let e : suc n ≡ n + 1 = omega arith in
      (c.0, rw e c.1)

  -- where no two cells so many places apart have one key, no key has more than so many
  pub few_of_each : (most : ℕ) → AreFew most kept → HasFew most kept
  few_of_each most few key = let b = (block most key (length kept) few (omega arith)).1.bounded in subst (λ (cells : List Cell). count_by (λ c. eqb c.key key) cells ≤ most) (take_all (length kept) kept (omega arith)) b
