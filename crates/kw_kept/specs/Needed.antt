-- Which versions are needed: those that scans have drawn or may still be given, those that are
-- pinned, and all that have not been drawn. What is needed only shrinks, and whoever rebuilds a row
-- may go by a list of what it found to be needed. `scans i u` says that the scan of seat i has
-- drawn u, or that somebody holds u for the wait of that scan, which still stands; `pins i u` that
-- the pin of seat i is u. `waits i` is the position at which the scan of seat i began to wait, the
-- last time that it did.
use Rattle.std.specs.Prelude.{ℕ, ◌≡◌, ◌⊎◌, ◌<◌, ◌≤◌}

-- at or above the clock, or needed through the scan or the pin of a seat
abbrev pub IsNeeded : ℕ → (ℕ → ℕ → Type 0) → (ℕ → ℕ → Type 0) → ℕ → Type 0
IsNeeded clock scans pins u = (clock ≤ u) ⊎ (i : ℕ) × (scans i u ⊎ pins i u)

-- what an event may do to scans: the clock and the waits do not go back, a version that is newly
-- needed through a scan was not drawn before, and a scan that begins to wait needs none but such.
-- Of pins the last is false: a seat that holds one may begin to wait
pub record Moves (clock clock' : ℕ) (waits waits' : ℕ → ℕ) (scans scans' : ℕ → ℕ → Type 0) : Type 0 where
  pub rises : clock ≤ clock'
  pub goes_on : (i u : ℕ) → scans' i u → scans i u ⊎ (clock ≤ u)
  pub renews : (i : ℕ) → (waits' i ≡ waits i) ⊎ ((u : ℕ) → scans' i u → clock ≤ u)

-- and to pins: what is newly pinned was needed through the scan of the same seat
pub record Pins (scans pins pins' : ℕ → ℕ → Type 0) : Type 0 where
  pub goes_on : (i u : ℕ) → pins' i u → pins i u ⊎ scans i u

-- of what is needed through the seats that were gone by, all is listed or at least `most`
abbrev pub IsCovered : (ℕ → ℕ → Type 0) → (ℕ → Type 0) → (ℕ → Type 0) → ℕ → Type 0
IsCovered through passed listed most = (i u : ℕ) → passed i → through i u → listed u ⊎ (most ≤ u)

-- a scan that began to wait after this position needs no version below `most`
abbrev pub IsLate : ℕ → (ℕ → ℕ) → (ℕ → ℕ → Type 0) → ℕ → Type 0
IsLate since waits scans most = (i u : ℕ) → since < waits i → scans i u → most ≤ u

-- the scan of seat s is gone by: what is needed through it is listed, or it began to wait after the
-- position
pub record GoesBy (since : ℕ) (waits : ℕ → ℕ) (scans : ℕ → ℕ → Type 0) (passed passed' listed listed' : ℕ → Type 0) (s : ℕ) : Type 0 where
  pub seat : (i : ℕ) → passed' i → (i ≡ s) ⊎ passed i
  pub old : (u : ℕ) → listed u → listed' u
  pub looked : ((u : ℕ) → scans s u → listed' u) ⊎ (since < waits s)

-- the pin of seat s is gone by: what is pinned there is listed
pub record GoesByPin (pins : ℕ → ℕ → Type 0) (passed passed' listed listed' : ℕ → Type 0) (s : ℕ) : Type 0 where
  pub seat : (i : ℕ) → passed' i → (i ≡ s) ⊎ passed i
  pub old : (u : ℕ) → listed u → listed' u
  pub looked : (u : ℕ) → pins s u → listed' u
