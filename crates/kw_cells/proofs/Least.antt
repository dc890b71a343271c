-- The least key of a range, as the cells are gone through.
use Rattle.std.proofs.Common.{ℕ, suc, ◌≡◌, ◌<◌, ◌≤◌, ◌+◌, Option, Some, None, List, refl, sym, ap, ◌∙◌, arith, All, Any, length, get_or, unwrap_or, MatchOption, Bool, true, false, nat_lt, subst}
use Rattle.std.proofs.lemmas.Bool.Decides.{nat_tests}
use Rattle.std.proofs.lemmas.List.{get_or_default}
use Rattle.kw_cells.specs.Cells.{IsLeastKey}
use Rattle.kw_cells.specs.declared.cell.Cell.{Cell}

-- of the first n cells, none with a key from `from` on has one below the floor
abbrev pub StandAbove : ℕ → ℕ → List Cell → ℕ → Type 0
StandAbove from floor cells n = (k : ℕ) (d : Cell) → k < n → from ≤ (get_or cells k d).key → floor ≤ (get_or cells k d).key

-- the least key of the range among the first n cells, or none
abbrev pub IsLeastOf : ℕ → ℕ → List Cell → ℕ → Option ℕ → Type 0
IsLeastOf from to cells n None = StandAbove from (suc to) cells n
IsLeastOf from to cells n (Some m) = (from ≤ m) × (m ≤ to) × Any (λ c. c.key ≡ m) cells × StandAbove from m cells n

-- one more cell that stands above
more : (from floor : ℕ) (cells : List Cell) (i : ℕ) (x : Cell) → i < length cells → (from ≤ (get_or cells i x).key → floor ≤ (get_or cells i x).key) → StandAbove from floor cells i → StandAbove from floor cells (i + 1)
more from floor cells i x l here before k d b = go (nat_lt k i) refl
  where
    go : (t : Bool) → nat_lt k i ≡ t → from ≤ (get_or cells k d).key → floor ≤ (get_or cells k d).key
    go true e = before k d (grind (arith, nat_tests))
    go false e =
        let at : k ≡ i = grind (arith, nat_tests) in
        let same : get_or cells k d ≡ get_or cells i x = ap (λ j. get_or cells j d) at ∙ get_or_default cells i d x l in
        subst (λ (c : Cell). from ≤ c.key → floor ≤ c.key) (sym same) here

-- a lower floor
lowered : (from high low : ℕ) (cells : List Cell) (n : ℕ) → low ≤ high → StandAbove from high cells n → StandAbove from low cells n
lowered from high low cells n l h k d b g = let r = h k d b g in omega arith

-- a cell below the range is passed
pub below_range : (from to i : ℕ) (cells : List Cell) (x : Cell) (least : Option ℕ) → i < length cells → (get_or cells i x).key < from → IsLeastOf from to cells i least → IsLeastOf from to cells (i + 1) least
below_range from to i cells x None l b h = more from (suc to) cells i x l (λ g. absurd (omega arith)) h
below_range from to i cells x (Some m) l b h = (h.0, h.1, h.2, more from m cells i x l (λ g. absurd (omega arith)) h.3)

-- a cell above the least key so far, or above the range, is passed
pub above_least : (from to i : ℕ) (cells : List Cell) (x : Cell) (least : Option ℕ) → i < length cells → unwrap_or least to < (get_or cells i x).key → IsLeastOf from to cells i least → IsLeastOf from to cells (i + 1) least
above_least from to i cells x None l a h = more from (suc to) cells i x l (λ g. omega arith) h
above_least from to i cells x (Some m) l a h = (h.0, h.1, h.2, more from m cells i x l (λ g. omega arith) h.3)

-- the key of a cell is that of one
has_its_key : (cells : List Cell) (i : ℕ) (x : Cell) → i < length cells → Any (λ c. c.key ≡ (get_or cells i x).key) cells
has_its_key cells i x l = (i, get_or cells i x, l, get_or_default cells i (get_or cells i x) x l, refl)

-- a cell of the range that is no higher than the least key so far has the least key
pub new_least : (from to i : ℕ) (cells : List Cell) (x : Cell) (least : Option ℕ) → i < length cells → from ≤ (get_or cells i x).key → (get_or cells i x).key ≤ unwrap_or least to → IsLeastOf from to cells i least → IsLeastOf from to cells (i + 1) (Some (get_or cells i x).key)
new_least from to i cells x None l f a h = (f, a, has_its_key cells i x l, more from (get_or cells i x).key cells i x l (λ g. omega arith) (lowered from (suc to) (get_or cells i x).key cells i (omega arith) h))
new_least from to i cells x (Some m) l f a h = let t = h.1 in (f, omega arith, has_its_key cells i x l, more from (get_or cells i x).key cells i x l (λ g. omega arith) (lowered from m (get_or cells i x).key cells i a h.3))

-- in the end it is the least key of all
pub least_in_all : (from to n : ℕ) (cells : List Cell) (least : Option ℕ) → length cells ≤ n → IsLeastOf from to cells n least → MatchOption least (All (λ c. from ≤ c.key → to < c.key) cells) (IsLeastKey cells from to)
least_in_all from to n cells None l h = λ k d b g. let r = h k d (omega arith) g in omega arith
least_in_all from to n cells (Some m) l h = record { from = h.0; to = h.1; of_cell = h.2; least = λ k d b. h.3 k d (omega arith) }

-- a key of the range below the least key is none of the cells'
pub absent_below : (cells : List Cell) (from to key q : ℕ) → IsLeastKey cells from to key → from ≤ q → q < key → All (λ c. c.key ≡ q → ⊥) cells
absent_below cells from to key q h f l k d b same = let r : from ≤ (get_or cells k d).key → key ≤ (get_or cells k d).key = h.least k d b in let s = r (omega arith) in omega arith

-- a key of a range without cells is none of the cells'
pub absent_in : (cells : List Cell) (from to q : ℕ) → All (λ c. from ≤ c.key → to < c.key) cells → from ≤ q → q ≤ to → All (λ c. c.key ≡ q → ⊥) cells
absent_in cells from to q h f l k d b same = let r : from ≤ (get_or cells k d).key → to < (get_or cells k d).key = h k d b in let s = r (omega arith) in omega arith
