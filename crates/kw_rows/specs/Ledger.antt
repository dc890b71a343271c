-- What has become of each row, and which rows a seat may still name. No code reads this: it is a
-- record of past events.
use Rattle.std.specs.Prelude.{ℕ, ◌≡◌, ◌⊎◌, ◌<◌, Option, Some}

-- a row is free, or taken and not yet linked, or linked, or was linked and is so no more
pub data Status : Type 0 where
  Free : Status
  Infant : Status
  Live : Status
  Dead : Status

-- the fate of a row since it was taken last; an event's position is how many events there were
-- before it
pub record Fate : Type 0 where
  pub status : Status
  -- how many events there were with the one that took it, and with the one that linked it
  pub taken : ℕ
  pub born : ℕ
  -- the position of the event that unlinked it
  pub gone : ℕ
  -- the seat that took it; of a dead row the seat that unlinked it
  pub owner : ℕ
  -- the end of its range: the least key of the next row when it was linked, or none
  pub upper : Option ℕ
  -- the clock when it was linked
  pub clock : ℕ

-- the record: what has become of the rows, and where visits began and numbers were drawn
pub record Ledger : Type 0 where
  pub fates : ℕ → Fate
  -- where the visit of each seat began, of those that are in one
  pub visits : ℕ → Option ℕ
  -- where each retirement number was drawn, of those that were
  pub numbered : ℕ → Option ℕ

-- the row is linked
abbrev pub IsLive : Ledger → ℕ → Type 0
IsLive g x = (g.fates x).status ≡ Live

-- it was linked, and is so no more
abbrev pub IsDead : Ledger → ℕ → Type 0
IsDead g x = (g.fates x).status ≡ Dead

-- the row was unlinked after the visit of seat t began
pub record WasHeld (g : Ledger) (t x : ℕ) : Type 0 where
  pub since : ℕ
  pub dead : IsDead g x
  pub visits : g.visits t ≡ Some since
  pub before : since < (g.fates x).gone

-- seat t may name the row: it is linked, or was so in the visit
abbrev pub IsFresh : Ledger → ℕ → ℕ → Type 0
IsFresh g t x = IsLive g x ⊎ WasHeld g t x

-- some seat may name the row
abbrev pub IsHeld : Ledger → ℕ → Type 0
IsHeld g x = IsLive g x ⊎ ((t : ℕ) × WasHeld g t x)

-- `now` is past all that is recorded
pub record Past (g : Ledger) (now : ℕ) : Type 0 where
  pub gone : (x : ℕ) → IsDead g x → (g.fates x).gone < now
  pub begun : (t since : ℕ) → g.visits t ≡ Some since → since < now
  pub drawn : (m at : ℕ) → g.numbered m ≡ Some at → at < now
