-- What an edit at the place that a search found makes of the entries.
use Rattle.std.proofs.Common.{◌≡◌, ◌≢◌, ℕ, suc, ◌<◌, ◌≤◌, true, false, not, List, length, get_or, set, take, filter, All, AllPairs, Some, None, refl, ap, sym, arith}
use Rattle.std.specs.Prelude.{nat_lt, ◌==◌, position}
use Rattle.std.specs.List.{AllWithin, insert, remove, position_or_len}
use Rattle.std.specs.List.Sorted.{IsPartitionPoint}
use Rattle.std.proofs.lemmas.Bool.Decides.{nat_tests}
use Rattle.std.proofs.lemmas.List.Quantifiers.{position-Some}
use Rattle.std.proofs.lemmas.List.Sums.{fails_before_first}
use Rattle.std.proofs.lemmas.List.Elements.{All-weaker, filter_passes}
use Rattle.kw_index.specs.declared.entries.IndexEntry.{IndexEntry}
use Rattle.kw_index.specs.Entries.{without, with_entry}
use Rattle.kw_index.proofs.Filtered.{filter_all, filter_front, filter_back, filter_one_out, set_parts}

module _ (list : List IndexEntry) (rising : AllPairs (λ e f. e.least < f.least) list) (new : IndexEntry) (at : ℕ) (in_range : at ≤ length list)
    (parted : IsPartitionPoint (λ e. nat_lt e.least new.least ≡ true) (λ e. nat_lt e.least new.least ≡ false) list at) where
  none_greater_before : AllWithin (λ e. nat_lt new.least e.least ≡ false) list 0 at
  none_greater_before k d above below = grind (arith, nat_tests, parted.0 k d above below)

  lesser : filter (λ e. nat_lt e.least new.least) list ≡ take at list
  lesser = filter_front (λ e. nat_lt e.least new.least) list at in_range parted.0 parted.1

  -- where no entry has the least key, the entries with the new one are those with it at the place
  pub put_in : ((d : IndexEntry) → at < length list → (get_or list at d).least ≢ new.least) → insert list at new ≡ with_entry new list
  put_in other =
      let all_greater : AllWithin (λ e. nat_lt new.least e.least ≡ true) list at (length list) = λ k d above below.
      grind (arith, nat_tests, parted.1 at d (omega arith) (omega arith), other d (omega arith), rising at k d, λ (same : at ≡ k). ap (λ n. (get_or list n d).least) same) in
      rw (lesser, filter_back (λ e. nat_lt new.least e.least) list at in_range none_greater_before all_greater) refl

  -- where the entry at the place has the least key, they are those with it in that one's place
  pub put_over : at < length list → ((d : IndexEntry) → (get_or list at d).least ≡ new.least) → set list at new ≡ with_entry new list
  put_over here same_least_key =
      let none_greater : AllWithin (λ e. nat_lt new.least e.least ≡ false) list 0 (suc at) = λ k d above below.
      grind (arith, nat_tests, none_greater_before k d, same_least_key d, λ (same : at ≡ k). ap (λ n. (get_or list n d).least) same) in
      let all_greater : AllWithin (λ e. nat_lt new.least e.least ≡ true) list (suc at) (length list) = λ k d above below.
      grind (arith, nat_tests, same_least_key d, rising at k d (omega arith) below) in
      rw (lesser, filter_back (λ e. nat_lt new.least e.least) list (suc at) (omega arith) none_greater all_greater) (set_parts list at new here)

module _ (list : List IndexEntry) (distinct : AllPairs (λ e f. e.row ≢ f.row) list) (row : ℕ) where
  in_range_of : (at : ℕ) → position (λ e. e.row == row) list ≡ Some at → at < length list
  in_range_of at found = grind (arith, nat_tests)

  row_at : (at : ℕ) → position (λ e. e.row == row) list ≡ Some at → (d : IndexEntry) → (at < length list) × ((get_or list at d).row == row ≡ true) × ((k : ℕ) → k < at → (get_or list k d).row == row ≡ false)
  row_at at found d = position-Some (λ e. e.row == row) list at d found

  -- the one entry of the row stands at the place that a search for it found
  pub taken_out : (at : ℕ) → position (λ e. e.row == row) list ≡ Some at → remove list at ≡ without row list
  taken_out at found =
      let facts = row_at at found in
      sym (filter_one_out (λ e. not (e.row == row)) list at (in_range_of at found)
      (λ k d above below. let earlier = (facts d).2 k below in rw earlier refl)
      (λ d. let here = (facts d).1 in rw here refl)
      (λ k d above below. grind (arith, nat_tests, (facts d).1, distinct at k d (omega arith) below)))

  -- and where it found none, no entry has the row
  pub none_out : position (λ e. e.row == row) list ≡ None → list ≡ without row list
  none_out found =
      sym (filter_all (λ e. not (e.row == row)) list (λ k d above below. let fails = fails_before_first (λ e. e.row == row) list k d (none_found k below) in rw fails refl))
    where
      none_found : (k : ℕ) → k < length list → k < position_or_len (λ e. e.row == row) list
      none_found k below = grind (arith, nat_tests)

-- no entry has a row that was taken out
pub absent_without : (row : ℕ) (list : List IndexEntry) → All (λ e. e.row ≢ row) (without row list)
absent_without row list = All-weaker (λ e. not (e.row == row) ≡ true) (λ e. e.row ≢ row) (λ e passes. grind (arith, nat_tests)) (without row list) (filter_passes (λ e. not (e.row == row)) list)
