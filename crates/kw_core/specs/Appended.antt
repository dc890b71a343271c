-- One more event of a history in two parts: what is added at the ends of its lists, and what is
-- then set in an attempt or a call that was there. The two together are the history with the event
-- and its change.
use Rattle.std.specs.Prelude.{ℕ, true, false, Some, None, List, [], ◌∷◌, ◌++◌, length, set}
use Rattle.kw_core.specs.History.{History, Logged, Attempt, CallLog, attempt, called}
use Rattle.kw_core.specs.Noted.{Change, Begins, Adds, Announces, Loses, Stamps, Ends}

-- the attempts with the one that the change adds
abbrev pub attempts_with : History → Change → List Attempt
attempts_with h (Adds call seat key value row cell) =
    h.attempts ++ record { call = call; seat = seat; key = key; value = value; row = row; cell = cell; add = length h.log; is_announced = false; announced = 0; is_stamped = false; version = 0; load = 0; at = 0; is_lost = false } ∷ []
attempts_with h _ = h.attempts

-- the calls with the one that the change begins
abbrev pub calls_with : History → Change → List CallLog
calls_with h (Begins seat number call) = h.calls ++ record { seat = seat; number = number; call = call; first = length h.log; end = None; put = None; answer = None; draw = None } ∷ []
calls_with h _ = h.calls

-- the history with the event, and with the attempt or the call that it adds
abbrev pub appended : History → Logged → Change → History
appended h e c = record { log = h.log ++ e ∷ []; attempts = attempts_with h c; calls = calls_with h c }

-- the attempts with what the change sets in one of them, at the event of this position
abbrev pub attempts_set : ℕ → History → Change → List Attempt
attempts_set now h (Announces p) = set h.attempts p (record (attempt h p) { is_announced = true; announced = now })
attempts_set now h (Loses p) = set h.attempts p (record (attempt h p) { is_lost = true })
attempts_set now h (Stamps p version load) = set h.attempts p (record (attempt h p) { is_stamped = true; version = version; load = load; at = now })
attempts_set now h _ = h.attempts

-- the calls with what the change sets in one of them
abbrev pub calls_set : ℕ → History → Change → List CallLog
calls_set now h (Stamps p version load) = set h.calls (attempt h p).call (record (called h (attempt h p).call) { put = Some p })
calls_set now h (Ends x reply answer draw) = set h.calls x (record (called h x) { end = Some (record { at = now; reply = reply }); answer = answer; draw = draw })
calls_set now h _ = h.calls

-- the history with what the change sets
abbrev pub settled : ℕ → History → Change → History
settled now h c = record { log = h.log; attempts = attempts_set now h c; calls = calls_set now h c }
