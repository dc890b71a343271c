-- Which replies a list of calls may have, each asked for its seat: the answers of the state in
-- turn, and refusals in their place. Where no call is of snapshots, the map alone decides, and the
-- seats say nothing.
use Rattle.std.specs.Prelude.{ℕ, ◌≡◌, Bool, true, false, List, [], ◌∷◌, MatchBool, if◌then◌else◌}
use Rattle.kw_model.specs.Legal.{may_refuse}
use Rattle.kw_model.specs.Snapshots.{State, state_after, state_answer}
use Rattle.kw_model.specs.declared.call.Call.{Call}
use Rattle.kw_model.specs.declared.call.Call.TheVariants.{Put, Del, Get, Scan, Pin, ScanAt, Unpin}
use Rattle.kw_model.specs.declared.call.Reply.{Reply}
use Rattle.kw_model.specs.declared.call.Reply.TheVariants.{Done}

-- the reply is the state's answer to this seat, or a refusal in its place
abbrev pub IsRightFor : State → ℕ → Call → Reply → Type 0
IsRightFor t s c r = MatchBool (may_refuse c r) (Unit {0}) (r ≡ state_answer t s c)

-- the state after a call that had this reply: a refusal leaves it as it was
abbrev pub state_went : State → ℕ → Call → Reply → State
state_went t s c r = if may_refuse c r then t else state_after t s c

-- from this state on, each reply is right; there are as many seats, calls and replies
abbrev pub IsLegalFor : State → List ℕ → List Call → List Reply → Type 0
IsLegalFor t [] [] [] = Unit {0}
IsLegalFor t (s ∷ ss) (c ∷ cs) (r ∷ rs) = IsRightFor t s c r × IsLegalFor (state_went t s c r) ss cs rs
IsLegalFor t _ _ _ = ⊥

-- the state after these calls of these seats, which had these replies
abbrev pub state_went_all : State → List ℕ → List Call → List Reply → State
state_went_all t (s ∷ ss) (c ∷ cs) (r ∷ rs) = state_went_all (state_went t s c r) ss cs rs
state_went_all t _ _ _ = t

-- the call is of snapshots
abbrev pub is_of_snapshots : Call → Bool
is_of_snapshots (Put k v) = false
is_of_snapshots (Del k) = false
is_of_snapshots (Get k) = false
is_of_snapshots (Scan a b) = false
is_of_snapshots Pin = true
is_of_snapshots (ScanAt a b) = true
is_of_snapshots Unpin = true

-- the call was accepted
abbrev pub is_done : Reply → Bool
is_done Done = true
is_done _ = false

-- the call took or gave back its seat's snapshot: a pin or an unpin that was accepted
abbrev pub is_change : Call → Reply → Bool
is_change (Put k v) r = false
is_change (Del k) r = false
is_change (Get k) r = false
is_change (Scan a b) r = false
is_change Pin r = is_done r
is_change (ScanAt a b) r = false
is_change Unpin r = is_done r

-- the call is a pin
abbrev pub is_pin : Call → Bool
is_pin (Put k v) = false
is_pin (Del k) = false
is_pin (Get k) = false
is_pin (Scan a b) = false
is_pin Pin = true
is_pin (ScanAt a b) = false
is_pin Unpin = false
