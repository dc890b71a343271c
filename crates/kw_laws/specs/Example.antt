-- A history that keeps the laws: put 5 7, get 5, scan 0 9 and get 6, one after the other.
use Rattle.std.specs.Prelude.{ℕ, List, [], ◌∷◌, Some, None, true, false}
use Rattle.kw_core.specs.History.{History, Put, Get, Scan, Done, Value, Absent, Pairs, Kind, LoadEpoch, LoadClock, Draw}
use Rattle.kw_core.specs.declared.history.Logged.{Logged}
use Rattle.kw_core.specs.declared.history.Attempt.{Attempt}
use Rattle.kw_core.specs.declared.history.CallLog.{CallLog}
use Rattle.kw_words.specs.declared.kind.Kind.TheVariants.{AddCount, Announce, Stamp, ClearPass}

-- an event of a seat
abbrev pub event : ℕ → Kind → ℕ → Logged
event s k c = record { seat = s; kind = k; clock = c }

-- the events
abbrev pub events : List Logged
events = event 0 LoadEpoch 1 ∷ event 0 AddCount 1 ∷ event 0 Announce 1 ∷ event 0 LoadClock 1 ∷ event 0 Stamp 1 ∷ event 0 ClearPass 1 ∷ event 1 LoadEpoch 1 ∷ event 1 ClearPass 1
    ∷ event 0 LoadEpoch 1 ∷ event 0 Draw 1 ∷ event 0 ClearPass 2 ∷ event 1 LoadEpoch 2 ∷ event 1 ClearPass 2 ∷ []

-- the one attempt
abbrev pub the_put : Attempt
the_put = record { call = 0; seat = 0; key = 5; value = Some 7; row = 0; cell = 0; add = 1; is_announced = true; announced = 2; is_stamped = true; version = 1; load = 3; at = 4; is_lost = false }

-- put 5 7
abbrev pub call_0 : CallLog
call_0 = record { seat = 0; number = 1; call = Put 5 7; first = 0; end = Some (record { at = 5; reply = Done }); put = Some 0; answer = None; draw = None }

-- get 5
abbrev pub call_1 : CallLog
call_1 = record { seat = 1; number = 1; call = Get 5; first = 6; end = Some (record { at = 7; reply = Value 7 }); put = None; answer = Some 0; draw = None }

-- scan 0 9
abbrev pub call_2 : CallLog
call_2 = record { seat = 0; number = 2; call = Scan 0 9; first = 8; end = Some (record { at = 10; reply = Pairs ((5, 7) ∷ []) }); put = None; answer = None; draw = Some (record { at = 9; version = 1 }) }

-- get 6
abbrev pub call_3 : CallLog
call_3 = record { seat = 1; number = 2; call = Get 6; first = 11; end = Some (record { at = 12; reply = Absent }); put = None; answer = None; draw = None }

-- the history
abbrev pub example : History
example = record { log = events; attempts = the_put ∷ []; calls = call_0 ∷ call_1 ∷ call_2 ∷ call_3 ∷ [] }
