-- Which cell of a key a version shows, as a relation and as a function, and the pairs that the
-- cells of a row show.
use Rattle.std.specs.Prelude.{ℕ, ◌≡◌, ◌≤◌, ◌<◌, ◌==◌, ◌&&◌, ◌||◌, nat_lt, nat_le, Bool, false, List, [], ◌∷◌, Option, Some, None, All, Any, Contains, if◌then◌else◌}
use Rattle.kw_cells.specs.Pairs.{Pairs, pairs_between}
use Rattle.kw_cells.specs.declared.cell.Cell.{Cell}

-- the first has a greater version, or at one version a greater place
abbrev pub is_later : Cell → Cell → Bool
is_later c d = nat_lt d.version c.version || (c.version == d.version && nat_lt d.place c.place)

-- the cell is among those of the key with a version at most this one, and none of them is later
pub record IsBest (cells : List Cell) (key version : ℕ) (c : Cell) : Type 0 where
  pub among : Contains cells c
  pub of_key : c.key ≡ key
  pub in_bound : c.version ≤ version
  pub greatest : All (λ d. d.key ≡ key → d.version ≤ version → is_later d c ≡ false) cells

-- the cell is one of the key, with a version at most this one
abbrev pub fits : ℕ → ℕ → Cell → Bool
fits key version c = c.key == key && nat_le c.version version

-- of two, the later; the second where neither is
abbrev pub later_of : Cell → Option Cell → Cell
later_of c None = c
later_of c (Some d) = if is_later c d then c else d

-- the best cell of the key at this version, or none. Where several agree in version and place, it
-- is the last of them
unfoldable pub best_of : List Cell → ℕ → ℕ → Option Cell
best_of [] key version = None
best_of (c ∷ cells) key version = if fits key version c then Some (later_of c (best_of cells key version)) else best_of cells key version

-- cells that agree in key, version and place are one: what a row keeps of its cells
abbrev pub AreApart : List Cell → Type 0
AreApart cells = (c d : Cell) → Contains cells c → Contains cells d → c.key ≡ d.key → c.version ≡ d.version → c.place ≡ d.place → c ≡ d

-- the value of a cell, or none where it is a tombstone or there is none
abbrev pub value_in : Option Cell → Option ℕ
value_in None = None
value_in (Some c) = c.value

-- what a key shows at this version
abbrev pub shown_at : List Cell → ℕ → ℕ → Option ℕ
shown_at cells version key = value_in (best_of cells key version)

-- the pairs that the cells show at this version: by rising key, each key from a to b whose best
-- cell has a value
abbrev pub pairs_of : List Cell → ℕ → ℕ → ℕ → Pairs
pairs_of cells a b version = pairs_between (shown_at cells version) a b

-- the pair is the first of these
pub record IsNextPair (cells : List Cell) (a b version : ℕ) (pair : ℕ × ℕ) : Type 0 where
  pub from : a ≤ pair.0
  pub to : pair.0 ≤ b
  pub shown : shown_at cells version pair.0 ≡ Some pair.1
  pub least : (k : ℕ) → a ≤ k → k < pair.0 → shown_at cells version k ≡ None

-- the key is that of a cell, in the range, and no cell has a lower one in the range
pub record IsLeastKey (cells : List Cell) (a b key : ℕ) : Type 0 where
  pub from : a ≤ key
  pub to : key ≤ b
  pub of_cell : Any (λ c. c.key ≡ key) cells
  pub least : All (λ c. a ≤ c.key → key ≤ c.key) cells
