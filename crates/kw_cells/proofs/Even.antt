-- The even cut: what the function gives is one, and it is filled as rows should be.
use Rattle.std.proofs.Common.{ℕ, zero, suc, Bool, true, false, ◌≡◌, ◌<◌, ◌≤◌, ◌+◌, ◌-◌, ◌*◌, leb, List, refl, ap, subst, arith, length, get_or, inl, inr, ◌⊎◌}
use Rattle.std.proofs.Math.Nat.{suc-mul, mul_comm, mul-le-mul_right}
use Rattle.std.proofs.lemmas.List.{get_or_default, get_or_past}
use Rattle.std.proofs.lemmas.Bool.{cases_lt}
use Rattle.std.proofs.lemmas.Bool.Decides.{nat_tests}
use Rattle.kw_cells.specs.Kept.{AreRising, HasFew}
use Rattle.kw_cells.specs.Cuts.{AreCuts, AreStarts, AreEven, AreFilled, end_of, starts_from, starts_at, limit_from, limit_of, starts_of}
use Rattle.kw_cells.specs.declared.cell.Cell.{Cell}
use Rattle.kw_cells.proofs.Rising.{keys_rise}
use Rattle.kw_cells.proofs.Made.{starts_at-are, starts_at-few}
use Rattle.kw_cells.proofs.Fewest.{no_fewer, fewer}

module _ (limit : ℕ) (kept : List Cell) (starts : List ℕ) (are : AreStarts limit kept starts) where
  -- each row before a start has a cell
  start_from : (i : ℕ) → i < length starts → i ≤ get_or starts i 0
  start_from zero l = omega arith
  start_from (suc i) l =
      let h = start_from i (omega arith) in
      let n = (are.next i (omega arith)).later in
      let e : suc i ≡ i + 1 = omega arith in
      rw e (omega arith)

  -- a start is no further on than the rows before it may take
  start_upto : (i : ℕ) → i < length starts → get_or starts i 0 ≤ i * limit
  start_upto zero l = let f = are.first in omega arith
  start_upto (suc i) l =
      let h = start_upto i (omega arith) in
      let n = (are.next i (omega arith)).fits in
      let e : suc i ≡ i + 1 = omega arith in
      let m : get_or starts (suc i) 0 ≡ get_or starts (i + 1) 0 = ap (λ (q : ℕ). get_or starts q 0) e in
      rw (suc-mul i limit) (omega arith)

  -- there are no more rows than cells
  pub rows_few : 0 < length kept → length starts ≤ length kept
  rows_few some = go (cases_lt 1 (length starts))
    where
      go : ((1 < length starts) ⊎ (length starts ≤ 1)) → length starts ≤ length kept
      go (inl h) =
          let n = are.next (length starts - 2) (omega arith) in
          let s = start_from (length starts - 2) (omega arith) in
          let w = n.within in
          let f = n.fits in
          let g = n.later in
          omega arith
      go (inr h) = omega arith

  -- and the rows take all cells
  pub cells_fit : length kept ≤ length starts * limit
  cells_fit = go (length starts) refl are.some
    where
      go : (n : ℕ) → length starts ≡ n → 0 < n → length kept ≤ n * limit
      go zero e l = absurd (omega arith)
      go (suc n) e l =
          let s = start_upto n (omega arith) in
          let b = are.last in
          let m : length starts - 1 ≡ n = omega arith in
          let c : get_or starts (length starts - 1) 0 ≡ get_or starts n 0 = ap (λ (q : ℕ). get_or starts q 0) m in
          rw (suc-mul n limit) (omega arith)

  module _ (rising : AreRising kept) where
    -- no row has too many cells
    row_most : (i : ℕ) → i < length starts → end_of kept starts i ≤ get_or starts i 0 + limit
    row_most i l = go (cases_lt (i + 1) (length starts))
      where
        go : ((i + 1 < length starts) ⊎ (length starts ≤ i + 1)) → end_of kept starts i ≤ get_or starts i 0 + limit
        go (inl h) = let f = (are.next i h).fits in rw (get_or_default starts (i + 1) (length kept) 0 h) f
        go (inr h) = let e : length starts - 1 ≡ i = omega arith in let b = are.last in let c : length kept ≤ get_or starts i 0 + limit = rw e at b in rw (get_or_past starts (i + 1) (length kept) h) c

    -- the keys before a start are below those from it on
    rows_between : (i k m : ℕ) (d : Cell) → i < length starts → k < get_or starts i 0 → get_or starts i 0 ≤ m → m < length kept → (get_or kept k d).key < (get_or kept m d).key
    rows_between zero k m d l g h n = absurd (let f = are.first in omega arith)
    rows_between (suc j) k m d l g h n =
        let e : suc j ≡ j + 1 = omega arith in
        let s = are.next j (omega arith) in
        let below : k < get_or starts (j + 1) 0 = rw e at g in
        let above : get_or starts (j + 1) 0 ≤ m = rw e at h in
        let a = s.first k d below in
        let b = keys_rise kept rising (get_or starts (j + 1) 0) m d above n in
        omega arith

    -- so this is a cut into rows of at most so many cells, and into rows of at most more
    pub starts_cut : (most : ℕ) → limit ≤ most → AreCuts most kept starts
    starts_cut most l = record {
      some = are.some;
      first = are.first;
      within = λ i g. (let n = are.next i g in let w = n.within in let f = n.fits in omega arith);
      later = λ i g. (are.next i g).later;
      most = λ i g. (let m = row_most i g in omega arith);
      between = rows_between;
    }

-- what the search for a limit finds
record IsFound (rows : ℕ) (kept : List Cell) (from upto limit : ℕ) : Type 0 where
  bounded : limit ≤ upto
  enough : length (starts_at limit kept) ≤ rows
  least : (l : ℕ) → from ≤ l → l < limit → rows < length (starts_at l kept)

-- it finds the first one with enough rows, where there is one
finds : (rows : ℕ) (kept : List Cell) (n limit : ℕ) → length (starts_at (n + limit) kept) ≤ rows → IsFound rows kept limit (n + limit) (limit_from n rows kept limit)
finds rows kept zero limit enough = record { bounded = omega arith; enough = (let e : 0 + limit ≡ limit = omega arith in subst (λ q. length (starts_at q kept) ≤ rows) e enough); least = λ l a b. absurd (omega arith) }
finds rows kept (suc n) limit enough = go (leb (length (starts_at limit kept)) rows) refl (finds rows kept n (limit + 1))
  where
    go : (b : Bool) → leb (length (starts_at limit kept)) rows ≡ b → (length (starts_at (n + (limit + 1)) kept) ≤ rows → IsFound rows kept (limit + 1) (n + (limit + 1)) (limit_from n rows kept (limit + 1))) → IsFound rows kept limit (suc n + limit) (limit_from (suc n) rows kept limit)
    go true e rest = rw e (record { bounded = omega arith; enough = grind (arith, nat_tests); least = λ l a b. absurd (omega arith) })
    go false e rest = rw e (record { bounded = (let b = f.bounded in omega arith); enough = f.enough; least = λ l a b. less l a b (cases_lt limit l) })
      where
        f : IsFound rows kept (limit + 1) (n + (limit + 1)) (limit_from n rows kept (limit + 1))
        f = rest (let m : suc n + limit ≡ n + (limit + 1) = omega arith in subst (λ q. length (starts_at q kept) ≤ rows) m enough)

        less : (l : ℕ) → limit ≤ l → l < limit_from n rows kept (limit + 1) → ((limit < l) ⊎ (l ≤ limit)) → rows < length (starts_at l kept)
        less l a b (inl h) = f.least l (omega arith) b
        less l a b (inr h) = let same : l ≡ limit = omega arith in let x : rows < length (starts_at limit kept) = grind (arith, nat_tests) in rw same x

module _ (built : ℕ) (kept : List Cell) where
  -- the limit is the least with which there are no more rows
  found : IsFound (length (starts_at built kept)) kept 0 built (limit_of built kept)
  unfolding limit_of
  found =
      let e : built + 0 ≡ built = omega arith in
      let m : length (starts_at (built + 0) kept) ≤ length (starts_at built kept) = rw e (omega arith) in
      let f = finds (length (starts_at built kept)) kept built 0 m in
      record { bounded = (let b = f.bounded in omega arith); enough = f.enough; least = f.least }

  -- and a limit that is so is this one
  pub limit_is : (limit : ℕ) → length (starts_at limit kept) ≤ length (starts_at built kept) → ((l : ℕ) → l < limit → length (starts_at built kept) < length (starts_at l kept)) → limit ≡ limit_of built kept
  limit_is limit enough least = go (cases_lt limit (limit_of built kept))
    where
      go : ((limit < limit_of built kept) ⊎ (limit_of built kept ≤ limit)) → limit ≡ limit_of built kept
      go (inl h) = absurd (let f = found.least limit (omega arith) h in omega arith)
      go (inr h) = on (cases_lt (limit_of built kept) limit)
        where
          on : ((limit_of built kept < limit) ⊎ (limit ≤ limit_of built kept)) → limit ≡ limit_of built kept
          on (inl g) = absurd (let f = found.enough in let x = least (limit_of built kept) g in omega arith)
          on (inr g) = omega arith

  -- some row starts, also where there are no cells
  pub starts_some : 0 < length (starts_of built kept)
  unfolding starts_of starts_at
  starts_some = which (length kept + 1) (omega arith)
    where
      which : (n : ℕ) → 0 < n → 0 < length (starts_from n (limit_of built kept) kept 0)
      which zero o = absurd (omega (arith, o))
      which (suc n) o = omega arith

  -- so the rows at it are those of the even cut
  pub starts_are : (limit : ℕ) → limit ≡ limit_of built kept → starts_at limit kept ≡ starts_of built kept
  unfolding starts_of
  starts_are limit e = ap (λ l. starts_at l kept) e

  -- which is at most `built`
  pub limit_bounded : limit_of built kept ≤ built
  limit_bounded = found.bounded

  -- the limit gives no more rows
  pub limit_enough : length (starts_at (limit_of built kept) kept) ≤ length (starts_at built kept)
  limit_enough = found.enough

  module _ (rising : AreRising kept) (few : HasFew built kept) where
    -- some row starts that is filled up to `built`
    pub built_some : 0 < length (starts_at built kept)
    built_some = (starts_at-few built kept rising few).some

    -- the rows that are filled up to `built` take all cells
    pub built_fit : length kept ≤ length (starts_at built kept) * built
    built_fit = cells_fit built kept (starts_at built kept) (starts_at-few built kept rising few)

    -- and they are no more than the cells
    pub built_within : 0 < length kept → length (starts_at built kept) ≤ length kept
    built_within some = rows_few built kept (starts_at built kept) (starts_at-few built kept rising few) some

    -- where there are no more rows, they are as they should be
    pub each_here : (limit : ℕ) → length (starts_at limit kept) ≤ length (starts_at built kept) → AreStarts limit kept (starts_at limit kept)
    each_here limit enough = starts_at-are limit kept rising (λ some. let r = built_within some in omega arith)

    -- a limit at which all cells do not fit into so many rows gives more rows
    pub too_low : (limit : ℕ) → length (starts_at built kept) * limit < length kept → length (starts_at built kept) < length (starts_at limit kept)
    too_low limit low = go (cases_lt (length (starts_at built kept)) (length (starts_at limit kept)))
      where
        go : ((length (starts_at built kept) < length (starts_at limit kept)) ⊎ (length (starts_at limit kept) ≤ length (starts_at built kept))) → length (starts_at built kept) < length (starts_at limit kept)
        go (inl h) = h
        go (inr h) = absurd (let c = cells_fit limit kept (starts_at limit kept) (each_here limit h) in let m : length (starts_at limit kept) * limit ≤ length (starts_at built kept) * limit = mul-le-mul_right limit h in omega arith)

    -- the even share of so many rows is at most what they may take
    pub share_bounded : (share : ℕ) → share * length (starts_at built kept) < length kept + length (starts_at built kept) → share ≤ built
    share_bounded share near = go (cases_lt built share)
      where
        go : ((built < share) ⊎ (share ≤ built)) → share ≤ built
        go (inl h) = absurd (
            let b = built_fit in
            let m : suc built * length (starts_at built kept) ≤ share * length (starts_at built kept) = mul-le-mul_right (length (starts_at built kept)) h in
            let e = suc-mul built (length (starts_at built kept)) in
            let c = mul_comm built (length (starts_at built kept)) in
            omega arith)
        go (inr h) = h

    -- and each lesser limit is too low
    pub share_low : (share limit : ℕ) → share * length (starts_at built kept) < length kept + length (starts_at built kept) → limit < share → length (starts_at built kept) < length (starts_at limit kept)
    share_low share limit near l = too_low limit (
        let m : suc limit * length (starts_at built kept) ≤ share * length (starts_at built kept) = mul-le-mul_right (length (starts_at built kept)) l in
        let e = suc-mul limit (length (starts_at built kept)) in
        let c = mul_comm limit (length (starts_at built kept)) in
        omega arith)

    -- the rows of the even cut are filled up to its limit
    each : AreStarts (limit_of built kept) kept (starts_of built kept)
    unfolding starts_of
    each = each_here (limit_of built kept) found.enough

    -- they are as few as those that are filled up to `built`
    no_more : length (starts_of built kept) ≤ length (starts_at built kept)
    unfolding starts_of
    no_more = found.enough

    -- and even
    pub are_even : AreEven built kept (starts_of built kept)
    are_even = record {
      limit = limit_of built kept;
      bounded = found.bounded;
      each = each;
      fewest = λ others cut. (let f = no_fewer built kept rising others cut in let n = no_more in omega arith);
      shortest = shortest;
    }
      where
        shortest : (most : ℕ) (others : List ℕ) → AreCuts most kept others → length others ≤ length (starts_of built kept) → limit_of built kept ≤ most
        shortest most others cut less = go (cases_lt most (limit_of built kept))
          where
            go : ((most < limit_of built kept) ⊎ (limit_of built kept ≤ most)) → limit_of built kept ≤ most
            go (inl h) = absurd (let f = no_fewer most kept rising others cut in let n = no_more in let l = found.least most (omega arith) h in omega arith)
            go (inr h) = h

    -- they are a cut
    pub are_cuts : AreCuts built kept (starts_of built kept)
    are_cuts = starts_cut (limit_of built kept) kept (starts_of built kept) each rising built found.bounded

    -- and filled: two neighbours that fit into one row would leave a cut with fewer rows
    pub are_filled : AreFilled built kept (starts_of built kept)
    are_filled = record { most = are_cuts.most; least = least; between = are_cuts.between }
      where
        least : (i : ℕ) → i + 1 < length (starts_of built kept) → get_or (starts_of built kept) i 0 + built < end_of kept (starts_of built kept) (i + 1)
        least i l = go (cases_lt (get_or (starts_of built kept) i 0 + built) (end_of kept (starts_of built kept) (i + 1)))
          where
            go : ((get_or (starts_of built kept) i 0 + built < end_of kept (starts_of built kept) (i + 1)) ⊎ (end_of kept (starts_of built kept) (i + 1) ≤ get_or (starts_of built kept) i 0 + built)) → get_or (starts_of built kept) i 0 + built < end_of kept (starts_of built kept) (i + 1)
            go (inl h) = h
            go (inr h) = absurd (let f = fewer built kept rising (starts_of built kept) are_cuts i l h in let n = no_more in omega arith)

    -- so the rows that are filled up to `built` are no more than those of the even cut
    pub built_few : length (starts_at built kept) ≤ length (starts_of built kept)
    built_few = no_fewer built kept rising (starts_of built kept) are_cuts
