-- The ordered map of one thread with snapshots: beside the map, the maps that seats have pinned. A
-- seat holds one snapshot at most, which stands still while the map goes on.
use Rattle.std.specs.Prelude.{ℕ, Option, Some, None, [], refl}
use Rattle.std.specs.Ordering.{nat_cmp}
use Rattle.std.specs.FinMap.{FinMap}
use Rattle.std.specs.FinMap as seats
use Rattle.std.specs.Coded.{Coded, code_by, coded×, coded_ℕ, coded_list}
use Rattle.kw_model.specs.Map.{Pairs, put, without, value_of, between, found}
use Rattle.kw_model.specs.declared.call.Call.{Call}
use Rattle.kw_model.specs.declared.call.Call.TheVariants.{Put, Del, Get, Scan, Pin, ScanAt, Unpin}
use Rattle.kw_model.specs.declared.call.Reply.{Reply}
use Rattle.kw_model.specs.declared.call.Reply.TheVariants as reply

-- the map as it stands, and by seat the map as it was pinned
pub record State : Type 0 where
  pub map : Pairs
  pub pins : FinMap nat_cmp Pairs

-- a state is stored as the pair of its fields
abbrev pub state_code : Coded State
state_code =
    let pairs = coded_list (coded× coded_ℕ coded_ℕ) in
    code_by (Pairs × FinMap nat_cmp Pairs) (coded× pairs (seats.code coded_ℕ pairs)) (λ t. (t.map, t.pins)) (λ p. record { map = p.0; pins = p.1 }) (λ _. refl)

-- no pairs, and no seat holds a snapshot
abbrev pub empty : State
empty = record { map = []; pins = seats.empty }

-- the snapshot of a seat, if it holds one
abbrev pub snapshot_of : ℕ → State → Option Pairs
snapshot_of s t = seats.get t.pins s

-- the state after a seat pinned the map: a snapshot that it held stays
abbrev pub pinned : ℕ → State → Option Pairs → State
pinned s t None = record t { pins = seats.insert t.pins s t.map }
pinned s t (Some m) = t

-- the state after a call of a seat
abbrev pub state_after : State → ℕ → Call → State
state_after t s (Put k v) = record t { map = put k v t.map }
state_after t s (Del k) = record t { map = without k t.map }
state_after t s (Get k) = t
state_after t s (Scan a b) = t
state_after t s Pin = pinned s t (snapshot_of s t)
state_after t s (ScanAt a b) = t
state_after t s Unpin = record t { pins = seats.remove t.pins s }

-- what a pin, a scan of a snapshot and an unpin are answered, by the snapshot that the seat holds
abbrev pub pin_answer : Option Pairs → Reply
pin_answer None = reply.Done
pin_answer (Some m) = reply.Held

abbrev pub scan_answer : ℕ → ℕ → Option Pairs → Reply
scan_answer a b None = reply.NotPinned
scan_answer a b (Some m) = reply.Pairs (between a b m)

abbrev pub unpin_answer : Option Pairs → Reply
unpin_answer None = reply.NotPinned
unpin_answer (Some m) = reply.Done

-- what a seat is answered to a call
abbrev pub state_answer : State → ℕ → Call → Reply
state_answer t s (Put k v) = reply.Done
state_answer t s (Del k) = reply.Done
state_answer t s (Get k) = found (value_of k t.map)
state_answer t s (Scan a b) = reply.Pairs (between a b t.map)
state_answer t s Pin = pin_answer (snapshot_of s t)
state_answer t s (ScanAt a b) = scan_answer a b (snapshot_of s t)
state_answer t s Unpin = unpin_answer (snapshot_of s t)
