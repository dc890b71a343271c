-- Cells of one row, linked in an order: the order, the links, and what makes the cells that are
-- listed a list.
use Rattle.std.specs.Prelude.{ℕ, ◌≡◌, ◌⊎◌, ◌==◌, ◌&&◌, ◌||◌, nat_lt, ◌<◌, Bool, true, false, Option, Some, None}

-- what stands in a row: the keys and the versions of its cells by their places, the links, and
-- which cells are listed. The link at none is the row's first, and one that holds none leads to no
-- cell
pub record Row : Type 0 where
  pub key : ℕ → ℕ
  pub version : ℕ → ℕ
  pub link : Option ℕ → Option ℕ
  pub listed : ℕ → Bool

-- the first stands before the second: by key, then by falling version, then by falling place
abbrev pub Stands : Row → ℕ → ℕ → Type 0
Stands r c d = (r.key c < r.key d) ⊎ (r.key c ≡ r.key d) × ((r.version d < r.version c) ⊎ (r.version d ≡ r.version c) × (d < c))

-- the test of the order
abbrev pub stands : Row → ℕ → ℕ → Bool
stands r c d = nat_lt (r.key c) (r.key d) || (r.key c == r.key d && (nat_lt (r.version d) (r.version c) || (r.version d == r.version c && nat_lt d c)))

-- the cell stands behind the link
abbrev pub IsBehind : Row → Option ℕ → ℕ → Type 0
IsBehind r None d = Unit {0}
IsBehind r (Some c) d = Stands r c d

-- the link is the row's first, or that of a listed cell
abbrev pub IsOn : Row → Option ℕ → Type 0
IsOn r None = Unit {0}
IsOn r (Some c) = r.listed c ≡ true

-- the cell is the next listed one behind the link
pub record IsNext (r : Row) (at : Option ℕ) (c : ℕ) : Type 0 where
  pub listed : r.listed c ≡ true
  pub behind : IsBehind r at c
  pub first : (d : ℕ) → r.listed d ≡ true → IsBehind r at d → (d ≡ c) ⊎ Stands r c d

-- no listed cell stands behind the link
pub record IsLast (r : Row) (at : Option ℕ) : Type 0 where
  pub none : (d : ℕ) → r.listed d ≡ true → IsBehind r at d → ⊥

-- what a link holds is the next listed cell behind it, or none where there is none
abbrev pub Leads : Row → Option ℕ → Option ℕ → Type 0
Leads r at None = IsLast r at
Leads r at (Some c) = IsNext r at c

-- the row's first link and those of its listed cells lead from cell to cell in the order
abbrev pub IsList : Row → Type 0
IsList r = (at : Option ℕ) → IsOn r at → Leads r at (r.link at)

-- a list of cells below n
pub record IsSound (n : ℕ) (r : Row) : Type 0 where
  pub list : IsList r
  pub below : (c : ℕ) → r.listed c ≡ true → c < n

-- a row of which nothing is listed, and whose first link leads nowhere
pub record IsEmpty (r : Row) : Type 0 where
  pub none : (c : ℕ) → r.listed c ≡ false
  pub first : r.link None ≡ None
