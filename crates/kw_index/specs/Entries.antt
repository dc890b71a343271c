-- The entries of an index as a list: what they keep, what an edit leaves of them, and which row
-- they name for a key.
use Rattle.std.specs.Prelude.{ℕ, ◌≡◌, ◌≢◌, ◌≤◌, ◌<◌, ◌==◌, nat_lt, not, if◌then◌else◌, Bool, true, List, ◌∷◌, ◌++◌, Option, Some, None, All, AllPairs, Contains, filter, length, slice_index_or}
use Rattle.kw_index.specs.declared.entries.IndexEntry.{IndexEntry}

-- what callers see of entries: the number of rows of the map, and the entries
pub record Listing : Type 0 where
  pub rows : ℕ
  pub list : List IndexEntry

-- the least keys rise strictly, and the rows differ and are rows of the map
pub record IsLawful (rows : ℕ) (list : List IndexEntry) : Type 0 where
  pub rising : AllPairs (λ e f. e.least < f.least) list
  pub distinct : AllPairs (λ e f. e.row ≢ f.row) list
  pub in_range : All (λ e. e.row < rows) list

-- lawful entries of a map of this many rows
pub record IsOf (rows : ℕ) (shown : Listing) : Type 0 where
  pub of_map : shown.rows ≡ rows
  pub lawful : IsLawful shown.rows shown.list

-- the rows of entries are marked
abbrev pub AreMarked : List Bool → List IndexEntry → Type 0
AreMarked marks list = All (λ e. (d : Bool) → slice_index_or marks e.row d ≡ true) list

-- lawful entries, with room for as many as the map has rows, and a mark for each row
pub record IsHeld (rows : ℕ) (list : List IndexEntry) (capacity : ℕ) (marks : List Bool) : Type 0 where
  pub lawful : IsLawful rows list
  pub room : rows ≤ capacity
  pub sized : length marks ≡ rows
  pub marked : AreMarked marks list

-- the entries of other rows
abbrev pub without : ℕ → List IndexEntry → List IndexEntry
without row list = filter (λ e. not (e.row == row)) list

-- those with a lesser least key, then this one, then those with a greater least key
abbrev pub with_entry : IndexEntry → List IndexEntry → List IndexEntry
with_entry new list = filter (λ e. nat_lt e.least new.least) list ++ new ∷ filter (λ e. nat_lt new.least e.least) list

-- this one in place of its row's own and of the one with its least key, where its row is one of the
-- map
abbrev pub with_own : ℕ → IndexEntry → List IndexEntry → List IndexEntry
with_own rows new list = if nat_lt new.row rows then with_entry new (without new.row list) else list

-- of the entries whose least key is at most the key, the one with the greatest
pub record IsNearest (list : List IndexEntry) (key : ℕ) (e : IndexEntry) : Type 0 where
  pub among : Contains list e
  pub at_most : e.least ≤ key
  pub greatest : All (λ f. f.least ≤ key → f.least ≤ e.least) list

-- the row of the entry with the greatest least key that is at most the key, or none where each
-- least key is above the key
abbrev pub IsGuess : List IndexEntry → ℕ → Option ℕ → Type 0
IsGuess list key (Some row) = (e : IndexEntry) × IsNearest list key e × (e.row ≡ row)
IsGuess list key None = All (λ e. key < e.least) list

-- an entry stands at the place and has the least key
pub record HasLeastAt (list : List IndexEntry) (at least : ℕ) : Type 0 where
  pub here : at < length list
  pub same : (d : IndexEntry) → (slice_index_or list at d).least ≡ least

-- no entry stands at the place, or it has another least key
abbrev pub HasNotLeastAt : List IndexEntry → ℕ → ℕ → Type 0
HasNotLeastAt list at least = (d : IndexEntry) → at < length list → (slice_index_or list at d).least ≢ least
