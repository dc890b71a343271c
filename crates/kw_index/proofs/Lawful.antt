-- Entries that are edited stay lawful, and there are never more of them than rows.
use Rattle.std.proofs.Common.{◌≡◌, ◌≢◌, ℕ, suc, ◌<◌, ◌≤◌, true, false, not, eqb, List, [], ◌∷◌, ◌++◌, length, get_or, map, filter, All, AllPairs, refl, ap, sym, arith}
use Rattle.std.specs.List.{list_any, IsDistinct, AllByRecursion}
use Rattle.std.specs.List.Sorted.{IsNonDecreasingBy}
use Rattle.std.specs.Prelude.{nat_lt, ◌==◌}
use mathlib.Core.Bool.{false≢true}
use Rattle.std.proofs.lemmas.List.{get_or_default}
use Rattle.std.proofs.lemmas.List.Elements.{All-cons, All-head, All-tail, All-append, All-filter, All-weaker, filter_passes}
use Rattle.std.proofs.lemmas.List.Kept.{AllPairs-cons, AllPairs-filter}
use Rattle.std.proofs.lemmas.Map.Steps.{length-le_from_distinct_below}
use Rattle.std.proofs.lemmas.Bool.Decides.{nat_tests}
use Rattle.kw_index.specs.declared.entries.IndexEntry.{IndexEntry}
use Rattle.kw_index.specs.Entries.{IsLawful, without, with_entry}

-- what holds of each pair holds of the first and each later one, and of each pair of the rest
pub pairs_head : {X : Type 0} (R : X → X → Type 0) (x : X) (xs : List X) → AllPairs R (x ∷ xs) → All (R x) xs
pairs_head R x xs pairs k d below = pairs 0 (suc k) d (omega arith) (omega arith)

pub pairs_tail : {X : Type 0} (R : X → X → Type 0) (x : X) (xs : List X) → AllPairs R (x ∷ xs) → AllPairs R xs
pairs_tail R x xs pairs i j d less below = pairs (suc i) (suc j) d (omega arith) (omega arith)

-- two lists one behind the other
pub pairs_append : {X : Type 0} (R : X → X → Type 0) (xs ys : List X) → AllPairs R xs → AllPairs R ys → All (λ x. All (R x) ys) xs → AllPairs R (xs ++ ys)
pairs_append R [] ys left right across = right
pairs_append R (x ∷ xs) ys left right across =
    AllPairs-cons R x (xs ++ ys)
    (All-append (R x) xs ys (pairs_head R x xs left) (All-head (λ z. All (R z) ys) x xs across))
    (pairs_append R xs ys (pairs_tail R x xs left) right (All-tail (λ z. All (R z) ys) x xs across))

-- least keys that rise do not fall
pub rising_by : (list : List IndexEntry) → AllPairs (λ e f. e.least < f.least) list → IsNonDecreasingBy (λ e. e.least) list
rising_by list rising i j d at_most below = grind (arith, rising i j d, λ (same : i ≡ j). ap (λ n. (get_or list n d).least) same)

module _ (rows : ℕ) (list : List IndexEntry) (lawful : IsLawful rows list) where
  -- entries of other least keys have other rows
  apart : All (λ e. All (λ f. e.least < f.least → e.row ≢ f.row) list) list
  apart i d below j e below' less same =
      let at_e = get_or_default list i d e below in
      grind (arith, at_e, lawful.distinct i j e, lawful.distinct j i e, λ (alike : i ≡ j). ap (λ n. get_or list n e) alike)

  -- the entries without that of a row are lawful
  pub lawful_without : (row : ℕ) → IsLawful rows (without row list)
  lawful_without row = record {
    rising = AllPairs-filter (λ e f. e.least < f.least) (λ e. not (e.row == row)) list lawful.rising;
    distinct = AllPairs-filter (λ e f. e.row ≢ f.row) (λ e. not (e.row == row)) list lawful.distinct;
    in_range = All-filter (λ e. not (e.row == row)) (λ e. e.row < rows) list lawful.in_range;
  }

  module _ (new : IndexEntry) (row_in_range : new.row < rows) (row_is_new : All (λ e. e.row ≢ new.row) list) where
    abbrev lesser : List IndexEntry
    lesser = filter (λ e. nat_lt e.least new.least) list

    abbrev greater : List IndexEntry
    greater = filter (λ e. nat_lt new.least e.least) list

    lesser_below : All (λ e. e.least < new.least) lesser
    lesser_below = All-weaker (λ e. nat_lt e.least new.least ≡ true) (λ e. e.least < new.least) (λ e passes. grind (arith, nat_tests)) lesser (filter_passes (λ e. nat_lt e.least new.least) list)

    greater_above : All (λ e. new.least < e.least) greater
    greater_above = All-weaker (λ e. nat_lt new.least e.least ≡ true) (λ e. new.least < e.least) (λ e passes. grind (arith, nat_tests)) greater (filter_passes (λ e. nat_lt new.least e.least) list)

    -- an entry of a lesser least key has another row than each of a greater one
    rows_across : All (λ e. All (λ f. e.row ≢ f.row) greater) lesser
    rows_across =
        let others = All-filter (λ e. nat_lt e.least new.least) (λ e. All (λ f. e.least < f.least → e.row ≢ f.row) list) list apart in
        λ i d below j e below' same.
        omega (
          arith,
          lesser_below i d below,
          greater_above j e below',
          All-filter (λ f. nat_lt new.least f.least) (λ f. (get_or lesser i d).least < f.least → (get_or lesser i d).row ≢ f.row) list (others i d below) j e below' (omega (arith, lesser_below i d below, greater_above j e below')) same,
        )

    -- the entries with a new one in its place are lawful
    pub lawful_with_entry : IsLawful rows (with_entry new list)
    lawful_with_entry = record {
      rising = pairs_append (λ e f. e.least < f.least) lesser (new ∷ greater)
          (AllPairs-filter (λ e f. e.least < f.least) _ list lawful.rising)
          (AllPairs-cons (λ e f. e.least < f.least) new greater greater_above (AllPairs-filter (λ e f. e.least < f.least) _ list lawful.rising))
          (λ i d below. All-cons (λ f. (get_or lesser i d).least < f.least) new greater (lesser_below i d below)
          (λ j e below'. omega (arith, lesser_below i d below, greater_above j e below')));
      distinct = pairs_append (λ e f. e.row ≢ f.row) lesser (new ∷ greater)
          (AllPairs-filter (λ e f. e.row ≢ f.row) _ list lawful.distinct)
          (AllPairs-cons (λ e f. e.row ≢ f.row) new greater
          (λ j e below same. All-filter (λ f. nat_lt new.least f.least) (λ f. f.row ≢ new.row) list row_is_new j e below (sym same))
          (AllPairs-filter (λ e f. e.row ≢ f.row) _ list lawful.distinct))
          (λ i d below. All-cons (λ f. (get_or lesser i d).row ≢ f.row) new greater
          (All-filter (λ e. nat_lt e.least new.least) (λ e. e.row ≢ new.row) list row_is_new i d below)
          (rows_across i d below));
      in_range = All-append (λ e. e.row < rows) lesser (new ∷ greater)
          (All-filter _ (λ e. e.row < rows) list lawful.in_range)
          (All-cons (λ e. e.row < rows) new greater row_in_range (All-filter _ (λ e. e.row < rows) list lawful.in_range));
    }

-- a row that no entry has is not among the rows
row_absent : (row : ℕ) (list : List IndexEntry) → All (λ e. row ≢ e.row) list → AllByRecursion (λ y. eqb row y ≡ false) (map (λ e. e.row) list)
row_absent row [] absent = tt
row_absent row (e ∷ list) absent = (grind (arith, nat_tests, All-head (λ f. row ≢ f.row) e list absent), row_absent row list (All-tail (λ f. row ≢ f.row) e list absent))

-- the rows of entries that differ are distinct
rows_distinct : (list : List IndexEntry) → AllPairs (λ e f. e.row ≢ f.row) list → IsDistinct eqb (map (λ e. e.row) list)
unfolding IsDistinct
rows_distinct [] pairs = tt
rows_distinct (e ∷ list) pairs = (row_absent e.row list (pairs_head (λ e f. e.row ≢ f.row) e list pairs), rows_distinct list (pairs_tail (λ e f. e.row ≢ f.row) e list pairs))

-- a row among the rows is that of an entry
row_below : (rows row : ℕ) (list : List IndexEntry) → All (λ e. e.row < rows) list → list_any (eqb row) (map (λ e. e.row) list) ≡ true → row < rows
row_below rows row [] below found = absurd (false≢true found)
row_below rows row (e ∷ list) below found = grind (arith, nat_tests, All-head (λ f. f.row < rows) e list below, row_below rows row list (All-tail (λ f. f.row < rows) e list below))

length_rows : (list : List IndexEntry) → length (map (λ e. e.row) list) ≡ length list
length_rows [] = refl
length_rows (e ∷ list) = ap suc (length_rows list)

-- no row comes twice, so there are at most as many entries as rows
pub length_at_most : (rows : ℕ) (list : List IndexEntry) → IsLawful rows list → length list ≤ rows
length_at_most rows list lawful =
    rw (← length_rows list) (length-le_from_distinct_below (map (λ e. e.row) list) rows (rows_distinct list lawful.distinct) (λ row found. row_below rows row list lawful.in_range found))
