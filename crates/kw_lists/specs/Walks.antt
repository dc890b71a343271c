-- A walk along the links while others link cells in, and the cells that such a walk reaches.
use Rattle.std.specs.Prelude.{ℕ, ◌≡◌, ◌⊎◌, ◌==◌, ◌&&◌, ◌||◌, ◌≤◌, Bool, false, Option, Some, None}
use Rattle.kw_lists.specs.Counts.{count_below}
use Rattle.kw_lists.specs.Rows.{Row, Stands, stands, IsOn}

-- a walk that stands at this link has gone by the cell: it is the link's own, or stands before that
abbrev pub IsGoneBy : Row → Option ℕ → ℕ → Type 0
IsGoneBy r None c = ⊥
IsGoneBy r (Some a) c = (c ≡ a) ⊎ Stands r c a

-- the test of it
abbrev pub goes_by : Row → Option ℕ → ℕ → Bool
goes_by r None c = false
goes_by r (Some a) c = c == a || stands r c a

-- the cell is listed, and has been gone by
abbrev pub has_gone_by : Row → Option ℕ → ℕ → Bool
has_gone_by r at c = r.listed c && goes_by r at c

-- a walk that stands at this link of the list has reached so many cells: no more than there are
-- listed ones that it has gone by
pub record IsWalking (n : ℕ) (r : Row) (at : Option ℕ) (walked : ℕ) : Type 0 where
  pub on : IsOn r at
  pub counted : walked ≤ count_below n (has_gone_by r at)

-- the cell is reached by going from link to link, beginning at the row's first
pub data IsReached (r : Row) : ℕ → Type 0 where
  first : (c : ℕ) → r.link None ≡ Some c → IsReached r c
  next : (b c : ℕ) → IsReached r b → r.link (Some b) ≡ Some c → IsReached r c
