-- The ordered map of one thread: a list of pairs by strictly rising key, what each call answers,
-- and the map after it. Every promise on replies, here and above, is measured by these definitions.
use Rattle.std.specs.Prelude.{ℕ, suc, ◌≤◌, not, ◌&&◌, List, [], ◌∷◌, Option, Some, None, if◌then◌else◌, ◌==◌, nat_lt, nat_le}
use Rattle.std.specs.List.{filter}
use Rattle.kw_model.specs.declared.call.Call.{Call}
use Rattle.kw_model.specs.declared.call.Call.TheVariants.{Put, Del, Get, Scan, Pin, ScanAt, Unpin}
use Rattle.kw_model.specs.declared.call.Reply.{Reply}
use Rattle.kw_model.specs.declared.call.Reply.TheVariants as reply

-- pairs of a key and its value
abbrev pub Pairs : Type 0
Pairs = List (ℕ × ℕ)

-- the keys rise strictly, and none is below `low`
abbrev pub RisesFrom : ℕ → Pairs → Type 0
RisesFrom low [] = Unit {0}
RisesFrom low (p ∷ m) = (low ≤ p.0) × RisesFrom (suc p.0) m

-- the keys rise strictly
abbrev pub IsRising : Pairs → Type 0
IsRising m = RisesFrom 0 m

-- the value of a key
abbrev pub value_of : ℕ → Pairs → Option ℕ
value_of k [] = None
value_of k (p ∷ m) = if k == p.0 then Some p.1 else value_of k m

-- the map with the one pair of key k being (k, v)
abbrev pub put : ℕ → ℕ → Pairs → Pairs
put k v [] = (k, v) ∷ []
put k v (p ∷ m) = if nat_lt k p.0 then (k, v) ∷ p ∷ m else (if k == p.0 then (k, v) ∷ m else p ∷ put k v m)

-- the map without a pair of key k
abbrev pub without : ℕ → Pairs → Pairs
without k m = filter (λ p. not (k == p.0)) m

-- the pairs from key a to key b, in order
abbrev pub between : ℕ → ℕ → Pairs → Pairs
between a b m = filter (λ p. nat_le a p.0 && nat_le p.0 b) m

-- the map after a call
abbrev pub after : Pairs → Call → Pairs
after m (Put k v) = put k v m
after m (Del k) = without k m
after m (Get k) = m
after m (Scan a b) = m
after m Pin = m
after m (ScanAt a b) = m
after m Unpin = m

-- what a value, or none, is answered as
abbrev pub found : Option ℕ → Reply
found (Some v) = reply.Value v
found None = reply.Absent

-- what the map answers to a call; of pins it answers as where none is held
abbrev pub answer : Pairs → Call → Reply
answer m (Put k v) = reply.Done
answer m (Del k) = reply.Done
answer m (Get k) = found (value_of k m)
answer m (Scan a b) = reply.Pairs (between a b m)
answer m Pin = reply.Done
answer m (ScanAt a b) = reply.NotPinned
answer m Unpin = reply.NotPinned

-- what the map answers to these calls, one after the other
abbrev pub answers : Pairs → List Call → List Reply
answers m [] = []
answers m (c ∷ cs) = answer m c ∷ answers (after m c) cs
