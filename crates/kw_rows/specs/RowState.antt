-- The state of a row, and the families of states that a seat may find.
use Rattle.std.specs.Prelude.{ℕ, ◌≡◌, ◌≤◌}

-- a leader knows how many rows its group has, none before that is decided; a follower knows the row
-- that leads it
pub data State : Type 0 where
  Free : State
  Infant : ℕ → State
  Normal : State
  Leader : ℕ → State
  Follower : ℕ → State
  Retired : ℕ → State

-- it leads a group of n rows, if n is not none, or has led one
abbrev pub IsLed : ℕ → State → Type 0
IsLed n (Leader m) = 1 ≤ n → m ≡ n
IsLed n (Retired m) = Unit {0}
IsLed n _ = ⊥

-- it leads a group of two, or has led one
abbrev pub IsTwo : State → Type 0
IsTwo (Leader m) = m ≡ 2
IsTwo (Retired m) = Unit {0}
IsTwo _ = ⊥

-- it leads a group
abbrev pub IsLeader : State → Type 0
IsLeader (Leader m) = Unit {0}
IsLeader _ = ⊥

-- a rebalance is at work on the row
abbrev pub IsEngaged : State → Type 0
IsEngaged (Leader m) = Unit {0}
IsEngaged (Follower p) = Unit {0}
IsEngaged _ = ⊥

-- and its group is decided
abbrev pub IsDecided : State → Type 0
IsDecided (Leader m) = 1 ≤ m
IsDecided (Follower p) = Unit {0}
IsDecided _ = ⊥

-- what the row after a live leader of two may be
abbrev pub IsClaimable : ℕ → State → Type 0
IsClaimable r (Infant s) = Unit {0}
IsClaimable r Normal = Unit {0}
IsClaimable r (Leader m) = Unit {0}
IsClaimable r (Follower p) = p ≡ r
IsClaimable r _ = ⊥

-- what it may be once the leader is gone
abbrev pub IsClaimed : ℕ → State → Type 0
IsClaimed r (Leader m) = Unit {0}
IsClaimed r (Follower p) = p ≡ r
IsClaimed r (Retired m) = Unit {0}
IsClaimed r _ = ⊥

-- it goes along with some row, or has gone
abbrev pub IsFollowing : State → Type 0
IsFollowing (Follower p) = Unit {0}
IsFollowing (Retired m) = Unit {0}
IsFollowing _ = ⊥

-- it goes along with r, or has gone
abbrev pub IsTaken : ℕ → State → Type 0
IsTaken r (Follower p) = p ≡ r
IsTaken r (Retired m) = Unit {0}
IsTaken r _ = ⊥
