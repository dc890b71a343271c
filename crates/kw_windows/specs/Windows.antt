-- Rows, the seats that build for them, and how many rows were taken. A window lies between two
-- exchanges that replace a row: each ends one, and begins the next.
use Rattle.std.specs.Prelude.{ℕ, ◌≡◌, ◌+◌, Bool, true}
use Rattle.kw_windows.specs.Sums.{sum_below}
use Rattle.kw_windows.specs.Builders.{Builder, Elsewhere}

-- the rows, the seats in this window, and what came of the windows that are over
pub record Windows : Type 0 where
  -- the rows of the list, and those of them that lead a rebalance
  pub live : ℕ → Bool
  pub leads : ℕ → Bool
  pub least : ℕ → ℕ
  -- the rows that were ever in use
  pub used : ℕ → Bool
  pub seats : ℕ → Builder
  -- how many windows are over, and how many rows were taken in them
  pub wins : ℕ
  pub before : ℕ

-- how many rows and seats there are; how many rows a build takes, and how many lead, at most
pub record Limits : Type 0 where
  pub rows : ℕ
  pub seats : ℕ
  pub build : ℕ
  pub leaders : ℕ

-- how many rows were taken, in this window and in those that are over
abbrev pub taken : Limits → Windows → ℕ
taken z w = w.before + sum_below z.seats (λ t. (w.seats t).taken)

-- nothing has happened: only row 0 is in use, and no seat is at a full row
pub record IsNew (w : Windows) : Type 0 where
  pub used : (x : ℕ) → w.used x ≡ true → x ≡ 0
  pub seats : (t : ℕ) → w.seats t ≡ record { stage = Elsewhere; held = 0; lives = 0; deads = 0; taken = 0 }
  pub wins : w.wins ≡ 0
  pub before : w.before ≡ 0
