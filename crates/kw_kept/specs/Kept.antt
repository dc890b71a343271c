-- That rows have kept what is needed of the stamped puts, and the two changes that could lose it: a
-- stamp, and the replacing of rows. `in_row q` are the puts of which row q has a stamped cell,
-- `stamped` all stamped puts, `holds q k` says that the key k is of the row q of the list. `Rows`
-- has the three; a contract takes them by tests (`RowTests`).
use Rattle.std.specs.Prelude.{ℕ, ◌≡◌, ◌⊎◌, ◌≤◌, Bool}
use Rattle.kw_kept.specs.Puts.{Puts, On, OnEach, StandsBefore, HasGreatest, Shows}

-- the puts of rows, all stamped puts, and the keys of rows
pub record Rows : Type 1 where
  pub in_row : ℕ → ℕ → Type 0
  pub stamped : ℕ → Type 0
  pub holds : ℕ → ℕ → Type 0

-- the tests that pick them out
pub record RowTests : Type 0 where
  pub in_row : ℕ → ℕ → Bool
  pub stamped : ℕ → Bool
  pub holds : ℕ → ℕ → Bool

-- what the tests pick out
abbrev pub on_rows : RowTests → Rows
on_rows t = record { in_row = OnEach t.in_row; stamped = On t.stamped; holds = OnEach t.holds }

-- each row shows for each of its keys, at each version that is needed, what all stamped puts show
abbrev pub Kept : Puts → Rows → (ℕ → Type 0) → Type 0
Kept puts rows needed = (q k u : ℕ) → rows.holds q k → needed u → Shows puts (rows.in_row q) rows.stamped k u

-- the put o is stamped, in this row
pub record Stamps (puts puts' : Puts) (rows rows' : Rows) (row o : ℕ) : Type 0 where
  -- the other stamped puts are what they were
  pub unchanged : (p : ℕ) → rows.stamped p → puts' p ≡ puts p
  -- the cells of rows are of stamped puts, and the row gets one of o
  pub of_row : (q p : ℕ) → rows.in_row q p → rows.stamped p
  pub row_new : rows'.in_row row o
  pub row_old : (q p : ℕ) → rows.in_row q p → rows'.in_row q p
  pub row_was : (q p : ℕ) → rows'.in_row q p → (p ≡ o) ⊎ rows.in_row q p
  -- o alone is stamped
  pub new : rows'.stamped o
  pub old : (p : ℕ) → rows.stamped p → rows'.stamped p
  pub was : (p : ℕ) → rows'.stamped p → (p ≡ o) ⊎ rows.stamped p
  -- what was stamped of its key and has no cell in the row stands before it
  pub elsewhere : (p : ℕ) → rows.stamped p → (puts' p).key ≡ (puts' o).key → rows.in_row row p ⊎ StandsBefore puts' p o
  -- no row has gained a key, and the key of o is of this row alone
  pub held : (q k : ℕ) → rows'.holds q k → rows.holds q k
  pub alone : (q : ℕ) → rows'.holds q (puts' o).key → q ≡ row

-- the row `new` was built of the row `old`, as to this key: it has kept what each listed version
-- shows, and what `newest` shows, which is at least every version
pub record Rebuilds (puts : Puts) (old new : ℕ → Type 0) (listed : ℕ → Type 0) (k most newest : ℕ) : Type 0 where
  -- the cells of the new row are cells of the old one
  pub of_old : (p : ℕ) → new p → (puts p).key ≡ k → old p
  -- none of the old ones has a version above `most`
  pub bound : (p : ℕ) → old p → (puts p).key ≡ k → (puts p).version ≤ most
  pub found : (u : ℕ) → HasGreatest puts old k u
  pub at_listed : (u : ℕ) → listed u → Shows puts new old k u
  pub at_newest : Shows puts new old k newest

-- the row has the cells of this key that it had
pub record IsAsBefore (puts : Puts) (old new : ℕ → Type 0) (k : ℕ) : Type 0 where
  pub had : (p : ℕ) → new p → (puts p).key ≡ k → old p
  pub has : (p : ℕ) → old p → (puts p).key ≡ k → new p

-- rows of the list are replaced by others: each key of a row is of a row that stays, or of one that
-- was built of its row
pub record Replaces (puts : Puts) (rows rows' : Rows) (needed listed : ℕ → Type 0) (most newest : ℕ) : Type 0 where
  pub each : (q k : ℕ) → rows'.holds q k → (rows.holds q k × IsAsBefore puts (rows.in_row q) (rows'.in_row q) k) ⊎ (g : ℕ) × rows.holds g k × Rebuilds puts (rows.in_row g) (rows'.in_row q) listed k most newest
  -- the stamped puts are the same
  pub was : (p : ℕ) → rows'.stamped p → rows.stamped p
  pub still : (p : ℕ) → rows.stamped p → rows'.stamped p
  -- each version that is needed is listed, or shows the same as `newest`
  pub covered : (u : ℕ) → needed u → listed u ⊎ (most ≤ u)
  pub beyond : most ≤ newest
