-- How many rows there are at most.
use Rattle.std.proofs.Common.{ℕ, zero, suc, ◌≡◌, ◌<◌, ◌≤◌, ◌+◌, ◌*◌, List, arith, length, get_or, inl, inr, ◌⊎◌}
use Rattle.std.proofs.Math.Nat.{suc-mul}
use Rattle.std.proofs.lemmas.List.{get_or_default, get_or_past}
use Rattle.std.proofs.lemmas.Bool.{cases_lt}
use Rattle.kw_cells.specs.Cuts.{AreCuts, AreFilled, end_of, starts_at, starts_of}
use Rattle.kw_cells.specs.Kept.{AreRising, HasFew}
use Rattle.kw_cells.specs.declared.cell.Cell.{Cell}
use Rattle.kw_cells.specs.declared.limits.TheConstants.{MOST_GATHERED, MOST_STARTS}
use Rattle.kw_words.specs.declared.sizes.TheConstants.{BUILT}
use Rattle.kw_cells.proofs.Even.{are_cuts, are_filled, built_few}
use Rattle.kw_cells.proofs.Rooms.{AreEnough, room_here}

module _ (built : ℕ) (kept : List Cell) (starts : List ℕ) (cut : AreCuts built kept starts) (filled : AreFilled built kept starts) where
  -- so many pairs of rows have more than `built` cells each
  pairs_hold : (p : ℕ) → p + p < length starts → p * (built + 1) ≤ get_or starts (p + p) 0
  pairs_hold zero l = omega arith
  pairs_hold (suc p) l =
      let h = pairs_hold p (omega arith) in
      let t = filled.least (p + p) (omega arith) in
      let e : suc p + suc p ≡ p + p + 1 + 1 = omega arith in
      let m : end_of kept starts (p + p + 1) ≡ get_or starts (p + p + 1 + 1) 0 = get_or_default starts (p + p + 1 + 1) (length kept) 0 (omega arith) in
      rw (e, suc-mul p (built + 1)) (omega arith)

  -- no row ends behind the cells
  end_within : (i : ℕ) → end_of kept starts i ≤ length kept
  end_within i = go (cases_lt (i + 1) (length starts))
    where
      go : ((i + 1 < length starts) ⊎ (length starts ≤ i + 1)) → end_of kept starts i ≤ length kept
      go (inl h) = let w = cut.within i h in let e = get_or_default starts (i + 1) (length kept) 0 h in omega arith
      go (inr h) = let e = get_or_past starts (i + 1) (length kept) h in omega arith

  -- so there are no more rows than are enough
  pub rows_enough : (most rows : ℕ) → length kept ≤ most → AreEnough most built rows → length starts ≤ rows
  rows_enough most rows small enough = go (cases_lt rows (length starts))
    where
      go : ((rows < length starts) ⊎ (length starts ≤ rows)) → length starts ≤ rows
      go (inl h) = absurd (
          let o = enough.odd in
          let a = pairs_hold enough.pairs (omega arith) in
          let t = filled.least (enough.pairs + enough.pairs) (omega arith) in
          let w = end_within (enough.pairs + enough.pairs + 1) in
          let m : most < enough.pairs * (built + 1) + (built + 1) = rw (suc-mul enough.pairs (built + 1)) at enough.more in
          omega arith)
      go (inr h) = h

-- a rebuild has room for the even cut of its cells
module _ (cells : List Cell) (rising : AreRising cells) (few : HasFew BUILT cells) (room : length cells ≤ MOST_GATHERED) where
  pub even_rows : length (starts_of BUILT cells) ≤ MOST_STARTS
  even_rows = rows_enough BUILT cells (starts_of BUILT cells) (are_cuts BUILT cells rising few) (are_filled BUILT cells rising few) MOST_GATHERED MOST_STARTS room room_here.enough

  -- and for the rows that are filled up to `BUILT`
  pub full_rows : length (starts_at BUILT cells) ≤ MOST_STARTS
  full_rows = let e = even_rows in let f = built_few BUILT cells rising few in omega arith
