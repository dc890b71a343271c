-- Which cells a rebuild of rows keeps, as a relation, and what the kept cells show.
use Rattle.std.specs.Prelude.{ℕ, ◌≡◌, ◌≤◌, ◌==◌, ◌&&◌, ◌||◌, ◌⊎◌, ◌↔◌, not, nat_lt, nat_le, Bool, true, false, if◌then◌else◌, List, [], ◌∷◌, None, IsSome, is_some, All, AllPairs, Any, Contains, filter, count_by}
use Rattle.std.specs.List.{list_any}
use Rattle.kw_cells.specs.Cells.{is_later, IsBest, best_of, shown_at}
use Rattle.kw_cells.specs.declared.cell.Cell.{Cell}

-- by key, then version
abbrev pub is_below : Cell → Cell → Bool
is_below c d = nat_lt c.key d.key || (c.key == d.key && nat_lt c.version d.version)

-- by key, then version, then place
abbrev pub is_before : Cell → Cell → Bool
is_before c d = nat_lt c.key d.key || (c.key == d.key && is_later d c)

-- strictly rising by key and version
abbrev pub AreRising : List Cell → Type 0
AreRising cells = AllPairs (λ c d. is_below c d ≡ true) cells

-- no cell of its key is later
abbrev pub IsNewest : List Cell → Cell → Type 0
IsNewest cells c = All (λ d. d.key ≡ c.key → is_later d c ≡ false) cells

-- one of the cells: the newest of its key, or the best of its key at a needed version
abbrev pub IsChosen : List Cell → List ℕ → Cell → Type 0
IsChosen cells needed c = Contains cells c × (IsNewest cells c ⊎ Any (λ u. IsBest cells c.key u c) needed)

-- chosen, and a chosen cell of its key that is not above it has a value: just those are left where
-- the oldest chosen cell of a key is dropped again and again, as long as it is a tombstone
abbrev pub IsKept : List Cell → List ℕ → Cell → Type 0
IsKept cells needed c = IsChosen cells needed c × Any (λ d. (d.key ≡ c.key) × (d.version ≤ c.version) × IsChosen cells needed d × IsSome d.value) cells

-- the kept cells, strictly rising by key and version; at most one list is so
pub record IsKeptList (cells : List Cell) (needed : List ℕ) (kept : List Cell) : Type 0 where
  pub rising : AreRising kept
  pub exactly : (c : Cell) → Contains kept c ↔ IsKept cells needed c

-- the key has the same best cell at this version in both lists, or shows no value in both
abbrev pub ShowsTheSame : List Cell → List Cell → ℕ → ℕ → Type 0
ShowsTheSame cells kept key version = (best_of kept key version ≡ best_of cells key version) ⊎ ((shown_at kept version key ≡ None) × (shown_at cells version key ≡ None))

-- no key has more than so many of the cells
abbrev pub HasFew : ℕ → List Cell → Type 0
HasFew most cells = (key : ℕ) → count_by (λ c. c.key == key) cells ≤ most

-- The same list as a function of the cells.

-- no cell of its key is later
abbrev pub is_newest : List Cell → Cell → Bool
is_newest cells c = not (list_any (λ d. d.key == c.key && is_later d c) cells)

-- its version is at most this one, and no cell of its key that is so is later
abbrev pub is_best : List Cell → ℕ → Cell → Bool
is_best cells u c = nat_le c.version u && not (list_any (λ d. d.key == c.key && nat_le d.version u && is_later d c) cells)

-- the newest of its key, or the best of its key at a needed version
abbrev pub is_chosen : List Cell → List ℕ → Cell → Bool
is_chosen cells needed c = is_newest cells c || list_any (λ u. is_best cells u c) needed

-- chosen, and a chosen cell of its key that is not above it has a value
abbrev pub is_kept : List Cell → List ℕ → Cell → Bool
is_kept cells needed c = is_chosen cells needed c && list_any (λ d. d.key == c.key && nat_le d.version c.version && is_chosen cells needed d && is_some d.value) cells

-- the cells with one more behind those that are before it; one that agrees with a cell in key,
-- version and place is not put beside it
abbrev pub with_rising : Cell → List Cell → List Cell
with_rising c [] = c ∷ []
with_rising c (d ∷ cells) = if is_before d c then d ∷ with_rising c cells else if is_before c d then c ∷ d ∷ cells else d ∷ cells

-- the same cells by strictly rising key, version and place
abbrev pub rising_of : List Cell → List Cell
rising_of [] = []
rising_of (c ∷ cells) = with_rising c (rising_of cells)

-- the kept ones of the cells, by rising key and version
unfoldable pub kept_of : List Cell → List ℕ → List Cell
kept_of cells needed = filter (is_kept cells needed) (rising_of cells)
