-- What one event may change in a history, and what must be known where it does.
use Rattle.std.specs.Prelude.{ℕ, ◌≡◌, ◌≢◌, ◌<◌, ◌≤◌, true, false, Option, Some, None, [], ◌∷◌, ◌++◌, length}
use Rattle.kw_core.specs.History.{History, Logged, Attempt, CallLog, Drawn, Kind, LoadEpoch, LoadClock, Call, Get, Scan, Reply, Value, Pairs, attempt, called, Stands}
use Rattle.kw_core.specs.HistoryLaws.{HistoryLaws, IsPut, Makes, Answers, GetKey, ScanKey, RisesWithin, DrawLogged}

-- the next event's position
abbrev pub now : History → ℕ
now h = length h.log

-- an attempt over an event: as it was; added; announced; lost; stamped
pub data AttemptStep (h h' : History) (p : ℕ) : Type 0 where
  as_it_was : p < length h.attempts → attempt h' p ≡ attempt h p → AttemptStep h h' p
  is_added : (a : Attempt) → p ≡ length h.attempts → attempt h' p ≡ a → a.call < length h.calls → (called h a.call).seat ≡ a.seat → Makes (called h a.call).call a.key a.value → a.add ≡ now h →
      a.is_announced ≡ false → a.is_stamped ≡ false → AttemptStep h h' p
  is_announced : p < length h.attempts → (attempt h p).is_announced ≡ false → attempt h' p ≡ record (attempt h p) { is_announced = true; announced = now h } → AttemptStep h h' p
  is_lost : p < length h.attempts → (attempt h p).is_stamped ≡ false → attempt h' p ≡ record (attempt h p) { is_lost = true } → AttemptStep h h' p
  is_stamped : (version load : ℕ) → p < length h.attempts → (attempt h p).is_announced ≡ true → (attempt h p).is_stamped ≡ false → (attempt h p).is_lost ≡ false →
      (called h (attempt h p).call).end ≡ None → (attempt h p).announced < load → Stands h load LoadClock version →
      attempt h' p ≡ record (attempt h p) { is_stamped = true; version = version; load = load; at = now h } → (called h' (attempt h p).call).put ≡ Some p → AttemptStep h h' p

-- what must be known of a call where it ends
abbrev pub MayEnd : History → Call → ℕ → Reply → Option ℕ → Option Drawn → Type 0
MayEnd h (Get key) first reply answer draw = (gap : Option ℕ) × GetKey h key first reply gap × ((v : ℕ) → reply ≡ Value v → answer ≡ gap)
MayEnd h (Scan from to) first (Pairs pairs) answer draw = (d : Drawn) × (draw ≡ Some d) × (first < d.at) × RisesWithin from to pairs × ((key : ℕ) → from ≤ key → key ≤ to → (o : Option ℕ) × ScanKey h key d.version d.at pairs o)
MayEnd h _ first reply answer draw = Unit {0}

-- a call over an event: as it was; begun; given its put; ended
pub data CallStep (h h' : History) (e : Logged) (x : ℕ) : Type 0 where
  as_it_was : x < length h.calls → called h' x ≡ called h x → CallStep h h' e x
  begins : (c : CallLog) → x ≡ length h.calls → called h' x ≡ c → c.first ≡ now h → c.end ≡ None → c.put ≡ None → c.draw ≡ None → e.kind ≡ LoadEpoch →
      ((y : ℕ) → y < length h.calls → (called h y).seat ≡ c.seat → (called h y).number ≢ c.number) → CallStep h h' e x
  gets_put : (p : ℕ) → x < length h.calls → (called h x).put ≡ None → called h' x ≡ record (called h x) { put = Some p } → (called h x).end ≡ None → IsPut h' p → (attempt h' p).call ≡ x → CallStep h h' e x
  ends : (reply : Reply) (answer : Option ℕ) (draw : Option Drawn) → x < length h.calls → (called h x).end ≡ None → called h' x ≡ record (called h x) { end = Some (record { at = now h; reply = reply }); answer = answer; draw = draw } →
      Answers (called h x).call (called h x).put reply → ((d : Drawn) → draw ≡ Some d → DrawLogged h d × (d.version < e.clock)) → MayEnd h (called h x).call (called h x).first reply answer draw → CallStep h h' e x

-- one event
pub record Step (h h' : History) (e : Logged) : Type 0 where
  pub log : h'.log ≡ h.log ++ e ∷ []
  pub attempts : (p : ℕ) → p < length h'.attempts → AttemptStep h h' p
  pub calls : (x : ℕ) → x < length h'.calls → CallStep h h' e x
  pub more_attempts : length h.attempts ≤ length h'.attempts
  pub more_calls : length h.calls ≤ length h'.calls
  pub clock : (x : ℕ) (k : Kind) (c : ℕ) → Stands h x k c → c ≤ e.clock
  pub draws : (x : ℕ) (d : Drawn) → (called h x).draw ≡ Some d → d.version < e.clock

-- all that is known of a history lies before the next event
pub record Past (h : History) : Type 0 where
  pub add : (p : ℕ) → p < length h.attempts → (attempt h p).add < now h
  pub announced : (p : ℕ) → p < length h.attempts → (attempt h p).is_announced ≡ true → (attempt h p).announced < now h
  pub at : (p : ℕ) → p < length h.attempts → IsPut h p → (attempt h p).at < now h
  pub first : (x : ℕ) → x < length h.calls → (called h x).first < now h

-- a history keeps its laws, and lies in the past
pub record Keeps (h : History) : Type 0 where
  pub laws : HistoryLaws h
  pub past : Past h
