-- Which replies a list of calls may have: the answers of the map in turn, and refusals in their
-- place.
use Rattle.std.specs.Prelude.{ℕ, ◌≡◌, Bool, true, false, not, ◌&&◌, ◌==◌, Option, Some, None, List, [], ◌∷◌, MatchBool, if◌then◌else◌}
use Rattle.kw_model.specs.Map.{Pairs, after, answer}
use Rattle.kw_model.specs.declared.call.Call.{Call}
use Rattle.kw_model.specs.declared.call.Call.TheVariants.{Put, Del, Get, Scan, Pin, ScanAt, Unpin}
use Rattle.kw_model.specs.declared.call.Reply.{Reply}
use Rattle.kw_model.specs.declared.call.Reply.TheVariants.{NoRows, Spent, Stopped}

-- the reply is a refusal that this call may have
abbrev pub may_refuse : Call → Reply → Bool
may_refuse (Put k v) NoRows = true
may_refuse (Put k v) Spent = true
may_refuse (Del k) NoRows = true
may_refuse (Del k) Spent = true
may_refuse (Scan a b) Spent = true
may_refuse (Scan a b) Stopped = true
may_refuse Pin Spent = true
may_refuse (ScanAt a b) Stopped = true
may_refuse _ _ = false

-- the reply is the map's answer, or a refusal in its place
abbrev pub IsRight : Pairs → Call → Reply → Type 0
IsRight m c r = MatchBool (may_refuse c r) (Unit {0}) (r ≡ answer m c)

-- the map after a call that had this reply: a refusal leaves it as it was
abbrev pub went : Pairs → Call → Reply → Pairs
went m c r = if may_refuse c r then m else after m c

-- from this map on, each reply is right
abbrev pub IsLegal : Pairs → List Call → List Reply → Type 0
IsLegal m [] [] = Unit {0}
IsLegal m [] (r ∷ rs) = ⊥
IsLegal m (c ∷ cs) [] = ⊥
IsLegal m (c ∷ cs) (r ∷ rs) = IsRight m c r × IsLegal (went m c r) cs rs

-- the map after these calls, which had these replies
abbrev pub went_all : Pairs → List Call → List Reply → Pairs
went_all m [] rs = m
went_all m (c ∷ cs) [] = m
went_all m (c ∷ cs) (r ∷ rs) = went_all (went m c r) cs rs

-- the call sets or takes away this key
abbrev pub updates : ℕ → Call → Bool
updates k (Put q v) = k == q
updates k (Del q) = k == q
updates k (Get q) = false
updates k (Scan a b) = false
updates k Pin = false
updates k (ScanAt a b) = false
updates k Unpin = false

-- it does so, and was not refused
abbrev pub is_update : ℕ → Call → Reply → Bool
is_update k c r = not (may_refuse c r) && updates k c

-- the value that an update leaves, or none
abbrev pub shown : Call → Option ℕ
shown (Put k v) = Some v
shown (Del k) = None
shown (Get k) = None
shown (Scan a b) = None
shown Pin = None
shown (ScanAt a b) = None
shown Unpin = None

-- what the last update of a key in these calls shows, or else this
abbrev pub last_shown : ℕ → List Call → List Reply → Option ℕ → Option ℕ
last_shown k [] rs before = before
last_shown k (c ∷ cs) [] before = before
last_shown k (c ∷ cs) (r ∷ rs) before = last_shown k cs rs (if is_update k c r then shown c else before)

-- the reply is a refusal
abbrev pub is_refusal : Reply → Bool
is_refusal NoRows = true
is_refusal Spent = true
is_refusal Stopped = true
is_refusal _ = false
