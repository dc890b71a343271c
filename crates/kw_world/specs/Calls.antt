-- What a seat's events need of its call. A seat without a call is taken to ask for the value of key
-- 0, so that each of these answers something for every local; no list of events leads to such a
-- seat.
use Rattle.std.specs.Prelude.{ℕ, Bool, true, false, ◌&&◌, nat_le, nat_lt, Option, Some, None}
use Rattle.kw_model.specs.declared.call.Call.{Call}
use Rattle.kw_model.specs.declared.call.Call.TheVariants.{Put, Del, Get, Scan, Pin, ScanAt, Unpin}

-- the key of a put, a delete or a get, and the first key of a scan, of the map as it stands or as
-- it was pinned
abbrev pub first_key : Option Call → ℕ
first_key (Some (Put key value)) = key
first_key (Some (Del key)) = key
first_key (Some (Get key)) = key
first_key (Some (Scan from upto)) = from
first_key (Some Pin) = 0
first_key (Some (ScanAt from upto)) = from
first_key (Some Unpin) = 0
first_key None = 0

-- the key of a put, a delete or a get, and the last key of a scan, of the map as it stands or as it
-- was pinned
abbrev pub last_key : Option Call → ℕ
last_key (Some (Put key value)) = key
last_key (Some (Del key)) = key
last_key (Some (Get key)) = key
last_key (Some (Scan from upto)) = upto
last_key (Some Pin) = 0
last_key (Some (ScanAt from upto)) = upto
last_key (Some Unpin) = 0
last_key None = 0

-- the key is in the range of the call: the one key of a get, the keys of a scan
abbrev pub is_in_range : Option Call → ℕ → Bool
is_in_range call key = nat_le (first_key call) key && nat_le key (last_key call)

-- the range of the call holds no key
abbrev pub is_range_empty : Option Call → Bool
is_range_empty call = nat_lt (last_key call) (first_key call)

-- the value that the call puts; a delete puts a tombstone
abbrev pub put_value : Option Call → Option ℕ
put_value (Some (Put key value)) = Some value
put_value (Some (Del key)) = None
put_value (Some (Get key)) = None
put_value (Some (Scan from upto)) = None
put_value (Some Pin) = None
put_value (Some (ScanAt from upto)) = None
put_value (Some Unpin) = None
put_value None = None

-- the call is a scan of the map as it stands
abbrev pub is_scan : Option Call → Bool
is_scan (Some (Put key value)) = false
is_scan (Some (Del key)) = false
is_scan (Some (Get key)) = false
is_scan (Some (Scan from upto)) = true
is_scan (Some Pin) = false
is_scan (Some (ScanAt from upto)) = false
is_scan (Some Unpin) = false
is_scan None = false

-- the call is a pin
abbrev pub is_pin : Option Call → Bool
is_pin (Some (Put key value)) = false
is_pin (Some (Del key)) = false
is_pin (Some (Get key)) = false
is_pin (Some (Scan from upto)) = false
is_pin (Some Pin) = true
is_pin (Some (ScanAt from upto)) = false
is_pin (Some Unpin) = false
is_pin None = false
