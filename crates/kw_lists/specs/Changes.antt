-- What an event may do to a row.
use Rattle.std.specs.Prelude.{ℕ, ◌≡◌, ◌⊎◌, ◌==◌, ◌<◌, Bool, true, false, if◌then◌else◌, Option, Some, None}
use Rattle.kw_lists.specs.Counts.{count_below}
use Rattle.kw_lists.specs.Rows.{Row, Stands, IsBehind, IsOn}

-- both links are one
abbrev pub is_same : Option ℕ → Option ℕ → Bool
is_same None None = true
is_same None (Some b) = false
is_same (Some a) None = false
is_same (Some a) (Some b) = a == b

-- the links, with another one at a place
abbrev pub with_link : (Option ℕ → Option ℕ) → Option ℕ → Option ℕ → Option ℕ → Option ℕ
with_link f at to x = if is_same x at then to else f x

-- the cells, with one more
abbrev pub with_cell : (ℕ → Bool) → ℕ → ℕ → Bool
with_cell f c x = if x == c then true else f x

-- a cell that is not listed gets its link
abbrev pub stored : Row → ℕ → Option ℕ → Row
stored r c to = record r { link = with_link r.link (Some c) to }

-- a cell is linked in at a link
abbrev pub inserted : Row → Option ℕ → ℕ → Row
inserted r at c = record r { link = with_link r.link at (Some c); listed = with_cell r.listed c }

-- the cell stands before what a link holds
abbrev pub IsAhead : Row → ℕ → Option ℕ → Type 0
IsAhead r c None = Unit {0}
IsAhead r c (Some d) = Stands r c d

-- a cell may be linked in here: it is not listed, and it stands between the link and what this
-- holds, which its own link holds too
pub record MayInsert (r : Row) (at : Option ℕ) (c : ℕ) : Type 0 where
  pub unlisted : r.listed c ≡ false
  pub on : IsOn r at
  pub behind : IsBehind r at c
  pub ahead : IsAhead r c (r.link at)
  pub after : r.link (Some c) ≡ r.link at

-- the cell has the key and the version that it had
pub record SameCell (r r' : Row) (c : ℕ) : Type 0 where
  pub key : r'.key c ≡ r.key c
  pub version : r'.version c ≡ r.version c

-- the rows agree in what is listed, in the links of the list, and in the keys and versions of
-- listed cells. What else stands in them, as in a cell that a put is writing, is not said
pub record Agree (r r' : Row) : Type 0 where
  pub listed : (c : ℕ) → r'.listed c ≡ r.listed c
  pub link : (at : Option ℕ) → IsOn r at → r'.link at ≡ r.link at
  pub cell : (c : ℕ) → r.listed c ≡ true → SameCell r r' c

-- what events leave of a row of n cells to those who walk along its list: what is listed stays
-- listed and as it was, and a link of the list holds what it held, or more cells are listed
pub record Leaves (n : ℕ) (r r' : Row) : Type 0 where
  pub listed : (c : ℕ) → r.listed c ≡ true → r'.listed c ≡ true
  pub cell : (c : ℕ) → r.listed c ≡ true → SameCell r r' c
  pub link : (at : Option ℕ) → IsOn r at → (r'.link at ≡ r.link at) ⊎ (count_below n r.listed < count_below n r'.listed)
