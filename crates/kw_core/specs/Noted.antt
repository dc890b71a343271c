-- A history with one more event.
use Rattle.std.specs.Prelude.{ℕ, ◌≡◌, ◌≢◌, ◌<◌, ◌≤◌, true, false, Some, None, List, [], ◌∷◌, ◌++◌, length, set}
use Rattle.kw_core.specs.History.{History, Logged, Attempt, CallLog, Drawn, Kind, LoadEpoch, LoadClock, attempt, called, Stands}
pub use Rattle.kw_core.specs.declared.history.Change.{Change}
pub use Rattle.kw_core.specs.declared.history.Change.TheVariants.{Nothing, Begins, Adds, Announces, Loses, Stamps, Ends}
use Rattle.kw_core.specs.HistoryLaws.{Makes, Answers, DrawLogged}
use Rattle.kw_core.specs.Step.{MayEnd}

-- the change names calls and attempts that are there
abbrev pub IsWithin : History → Change → Type 0
IsWithin h (Announces p) = p < length h.attempts
IsWithin h (Loses p) = p < length h.attempts
IsWithin h (Stamps p version load) = (p < length h.attempts) × ((attempt h p).call < length h.calls)
IsWithin h (Ends x reply answer draw) = x < length h.calls
IsWithin h _ = Unit {0}

-- the attempts after the change
abbrev pub attempts_after : History → Change → List Attempt
attempts_after h (Adds call seat key value row cell) =
    h.attempts ++ record { call = call; seat = seat; key = key; value = value; row = row; cell = cell; add = length h.log; is_announced = false; announced = 0; is_stamped = false; version = 0; load = 0; at = 0; is_lost = false } ∷ []
attempts_after h (Announces p) = set h.attempts p (record (attempt h p) { is_announced = true; announced = length h.log })
attempts_after h (Loses p) = set h.attempts p (record (attempt h p) { is_lost = true })
attempts_after h (Stamps p version load) = set h.attempts p (record (attempt h p) { is_stamped = true; version = version; load = load; at = length h.log })
attempts_after h _ = h.attempts

-- the calls after the change
abbrev pub calls_after : History → Change → List CallLog
calls_after h (Begins seat number call) = h.calls ++ record { seat = seat; number = number; call = call; first = length h.log; end = None; put = None; answer = None; draw = None } ∷ []
calls_after h (Stamps p version load) = set h.calls (attempt h p).call (record (called h (attempt h p).call) { put = Some p })
calls_after h (Ends x reply answer draw) = set h.calls x (record (called h x) { end = Some (record { at = length h.log; reply = reply }); answer = answer; draw = draw })
calls_after h _ = h.calls

-- the history with the event and its change
abbrev pub noted : History → Logged → Change → History
noted h e c = record { log = h.log ++ e ∷ []; attempts = attempts_after h c; calls = calls_after h c }

-- nothing happened yet
abbrev pub nothing_yet : History
nothing_yet = record { log = []; attempts = []; calls = [] }

-- what must be known of the event
pub record MayLog (h : History) (e : Logged) : Type 0 where
  pub clock : (x : ℕ) (k : Kind) (c : ℕ) → Stands h x k c → c ≤ e.clock
  pub draws : (x : ℕ) (d : Drawn) → (called h x).draw ≡ Some d → d.version < e.clock

-- what must be known of a call of this attempt that is stamped now
pub record MayStamp (h : History) (p version load : ℕ) : Type 0 where
  pub within : p < length h.attempts
  pub is_announced : (attempt h p).is_announced ≡ true
  pub not_stamped : (attempt h p).is_stamped ≡ false
  pub not_lost : (attempt h p).is_lost ≡ false
  pub runs : (called h (attempt h p).call).end ≡ None
  pub no_put : (called h (attempt h p).call).put ≡ None
  pub after : (attempt h p).announced < load
  pub stands : Stands h load LoadClock version

-- what must be known of the change
abbrev pub MayNote : History → Logged → Change → Type 0
MayNote h e Nothing = Unit {0}
MayNote h e (Begins seat number call) = (e.kind ≡ LoadEpoch) × ((y : ℕ) → y < length h.calls → (called h y).seat ≡ seat → (called h y).number ≢ number)
MayNote h e (Adds call seat key value row cell) = (call < length h.calls) × ((called h call).seat ≡ seat) × Makes (called h call).call key value
MayNote h e (Announces p) = (p < length h.attempts) × ((attempt h p).is_announced ≡ false)
MayNote h e (Loses p) = (p < length h.attempts) × ((attempt h p).is_stamped ≡ false)
MayNote h e (Stamps p version load) = MayStamp h p version load
MayNote h e (Ends x reply answer draw) = (x < length h.calls) × ((called h x).end ≡ None) × Answers (called h x).call (called h x).put reply ×
    ((d : Drawn) → draw ≡ Some d → DrawLogged h d × (d.version < e.clock)) × MayEnd h (called h x).call (called h x).first reply answer draw
