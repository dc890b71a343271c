-- A row that is written at once, from cells that rise by key and then by version.
use Rattle.std.specs.Prelude.{ℕ, suc, ◌≡◌, ◌⊎◌, ◌+◌, ◌<◌, ◌≤◌, true, Option, Some, None}
use Rattle.kw_lists.specs.Rows.{Row}

-- no later place has the same key
abbrev pub IsTop : ℕ → Row → ℕ → Type 0
IsTop n r e = (j : ℕ) → e < j → j < n → r.key e < r.key j

-- the place is the last of the least key that is at least this
pub record IsFirstFrom (n : ℕ) (r : Row) (low e : ℕ) : Type 0 where
  pub below : e < n
  pub from : low ≤ r.key e
  pub top : IsTop n r e
  pub least : (j : ℕ) → j < n → low ≤ r.key j → r.key e ≤ r.key j

-- the link that leads to the first cell whose key is at least this
abbrev pub LeadsFrom : ℕ → Row → ℕ → Option ℕ → Type 0
LeadsFrom n r low None = (j : ℕ) → j < n → r.key j < low
LeadsFrom n r low (Some e) = IsFirstFrom n r low e

-- n cells stand in the row, strictly rising by key and then by version, and all are listed. The
-- first link leads to the last place of the least key. The link of a cell leads to the place before
-- its own if that has its key, and else to the last place of the next key
pub record IsBuilt (n : ℕ) (r : Row) : Type 0 where
  pub listed : (c : ℕ) → c < n → r.listed c ≡ true
  pub below : (c : ℕ) → r.listed c ≡ true → c < n
  pub rises : (i j : ℕ) → i < j → j < n → (r.key i < r.key j) ⊎ (r.key i ≡ r.key j) × (r.version i < r.version j)
  pub first : LeadsFrom n r 0 (r.link None)
  pub older : (b : ℕ) → suc b < n → r.key b ≡ r.key (suc b) → r.link (Some (suc b)) ≡ Some b
  pub oldest : (c : ℕ) → c < n → ((b : ℕ) → c ≡ suc b → r.key b < r.key c) → LeadsFrom n r (r.key c + 1) (r.link (Some c))
