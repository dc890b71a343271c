-- The laws of a history: what every list of events keeps, in words of its record alone.
use Rattle.kw_model.specs.Map.{value_of}
use Rattle.std.specs.Prelude.{ℕ, suc, ◌≡◌, ◌<◌, ◌≤◌, ◌⊎◌, true, false, Option, Some, None, List, [], ◌∷◌, length}
use Rattle.kw_core.specs.History.{History, Call, Put, Del, Get, Scan, Pin, ScanAt, Unpin, Reply, Done, Value, Absent, Pairs, NoRows, Spent, Stopped, Kind, LoadEpoch, LoadClock, Draw, HelpDraw, attempt, called, Stands, End, Drawn}

-- the attempt is a stamped put or delete
abbrev pub IsPut : History → ℕ → Type 0
IsPut h p = (attempt h p).is_stamped ≡ true

-- of this key
pub record IsPutOf (h : History) (k p : ℕ) : Type 0 where
  pub is_put : IsPut h p
  pub key : (attempt h p).key ≡ k

-- by version, and by the place of the add where the versions are equal
abbrev pub StandsBefore : History → ℕ → ℕ → Type 0
StandsBefore h p q = ((attempt h p).version < (attempt h q).version) ⊎ (((attempt h p).version ≡ (attempt h q).version) × ((attempt h p).add < (attempt h q).add))

-- q is not after the gap behind o
abbrev pub StandsUpTo : History → Option ℕ → ℕ → Type 0
StandsUpTo h None q = ⊥
StandsUpTo h (Some p) q = (q ≡ p) ⊎ StandsBefore h q p

-- what a gap shows: the value of the put before it
abbrev pub shows : History → Option ℕ → Option ℕ
shows h None = None
shows h (Some p) = (attempt h p).value

-- the call makes a put of this key and value
abbrev pub Makes : Call → ℕ → Option ℕ → Type 0
Makes (Put k v) key value = (key ≡ k) × (value ≡ Some v)
Makes (Del k) key value = (key ≡ k) × (value ≡ None)
Makes (Get k) key value = ⊥
Makes (Scan from to) key value = ⊥
Makes Pin key value = ⊥
Makes (ScanAt from to) key value = ⊥
Makes Unpin key value = ⊥

-- the reply fits the call, and a put or delete is done exactly where it has a put
abbrev pub Answers : Call → Option ℕ → Reply → Type 0
Answers (Put k v) put Done = (p : ℕ) × (put ≡ Some p)
Answers (Put k v) put NoRows = put ≡ None
Answers (Put k v) put Spent = put ≡ None
Answers (Del k) put Done = (p : ℕ) × (put ≡ Some p)
Answers (Del k) put NoRows = put ≡ None
Answers (Del k) put Spent = put ≡ None
Answers (Get k) put (Value v) = Unit {0}
Answers (Get k) put Absent = Unit {0}
Answers (Scan from to) put (Pairs ps) = Unit {0}
Answers (Scan from to) put Spent = Unit {0}
Answers (Scan from to) put Stopped = Unit {0}
Answers _ put _ = ⊥

-- a gap is behind no put, or behind a put of this key
abbrev pub IsGapOf : History → ℕ → Option ℕ → Type 0
IsGapOf h key None = Unit {0}
IsGapOf h key (Some p) = IsPutOf h key p

-- what a get answers
abbrev pub answer_of : Option ℕ → Reply
answer_of None = Absent
answer_of (Some v) = Value v

-- a call that began at f, or drew at f, knows each attempt that was announced before: if it was not
-- lost, it is stamped
pub record IsEarly (h : History) (k f q : ℕ) : Type 0 where
  pub key : (attempt h q).key ≡ k
  pub is_announced : (attempt h q).is_announced ≡ true
  pub before : (attempt h q).announced < f

-- o is what a get of this key that began at f answered
pub record GetKey (h : History) (key f : ℕ) (x : Reply) (o : Option ℕ) : Type 0 where
  pub gap : IsGapOf h key o
  pub reply : x ≡ answer_of (shows h o)
  pub early : (q : ℕ) → IsEarly h key f q → ((attempt h q).is_lost ≡ true) ⊎ ((attempt h q).is_stamped ≡ true) × StandsUpTo h o q

-- the version of the put before a gap is at most v
abbrev pub HasVersionUpTo : History → Option ℕ → ℕ → Type 0
HasVersionUpTo h None v = Unit {0}
HasVersionUpTo h (Some p) v = (attempt h p).version ≤ v

-- o is what a scan that drew v at d gave for this key
pub record ScanKey (h : History) (key v d : ℕ) (pairs : List (ℕ × ℕ)) (o : Option ℕ) : Type 0 where
  pub gap : IsGapOf h key o
  pub version : HasVersionUpTo h o v
  pub reply : value_of key pairs ≡ shows h o
  pub early : (q : ℕ) → IsEarly h key d q → ((attempt h q).is_lost ≡ true) ⊎ ((attempt h q).is_stamped ≡ true) × ((attempt h q).version ≤ v → StandsUpTo h o q)

-- the keys rise, and lie from the first bound to the second
abbrev pub RisesWithin : ℕ → ℕ → List (ℕ × ℕ) → Type 0
RisesWithin from to [] = Unit {0}
RisesWithin from to (p ∷ ps) = (from ≤ p.0) × (p.0 ≤ to) × RisesWithin (suc p.0) to ps

-- the position of an event that draws
abbrev pub IsDraw : Kind → Type 0
IsDraw Draw = Unit {0}
IsDraw HelpDraw = Unit {0}
IsDraw _ = ⊥

-- how the call ended
abbrev pub EndsWith : History → ℕ → Call → ℕ → Reply → Type 0
EndsWith h x call at reply = ((called h x).call ≡ call) × ((called h x).end ≡ Some (record { at = at; reply = reply }))

-- the times of an attempt: begun, added, announced, its version loaded, stamped, ended
pub record Attempted (h : History) (p : ℕ) : Type 0 where
  pub call : (attempt h p).call < length h.calls
  pub seat : (called h (attempt h p).call).seat ≡ (attempt h p).seat
  pub makes : Makes (called h (attempt h p).call).call (attempt h p).key (attempt h p).value
  pub begun : (called h (attempt h p).call).first < (attempt h p).add
  pub announced : (attempt h p).is_announced ≡ true → (attempt h p).add < (attempt h p).announced
  pub is_announced : IsPut h p → (attempt h p).is_announced ≡ true
  pub load : IsPut h p → (attempt h p).announced < (attempt h p).load
  pub at : IsPut h p → (attempt h p).load < (attempt h p).at
  pub end : IsPut h p → (e : End) → (called h (attempt h p).call).end ≡ Some e → (attempt h p).at < e.at

-- a scan that gave pairs drew its version before it read, and gave for each key what it knew
pub record Scanned (h : History) (x from to at : ℕ) (pairs : List (ℕ × ℕ)) : Type 0 where
  pub draw : Drawn
  pub drawn : (called h x).draw ≡ Some draw
  pub first : (called h x).first < draw.at
  pub before_end : draw.at < at
  pub rises : RisesWithin from to pairs
  pub keys : (key : ℕ) → from ≤ key → key ≤ to → (o : Option ℕ) × ScanKey h key draw.version draw.at pairs o

-- a version was drawn where the clock had it, and the clock was above it ever after
pub record DrawLogged (h : History) (d : Drawn) : Type 0 where
  pub kind : Kind
  pub is_draw : IsDraw kind
  pub stands : Stands h d.at kind d.version
  pub later : (y : ℕ) (k : Kind) (c : ℕ) → d.at < y → Stands h y k c → d.version < c

-- a get that ended answered what it knew of its key
pub record Got (h : History) (x key at : ℕ) (reply : Reply) : Type 0 where
  pub gap : Option ℕ
  pub knows : GetKey h key (called h x).first reply gap
  pub before_end : (p : ℕ) → gap ≡ Some p → (attempt h p).at < at
  pub answer : (v : ℕ) → reply ≡ Value v → (called h x).answer ≡ gap

-- all laws together
pub record HistoryLaws (h : History) : Type 0 where
  -- attempts have their times in order, and were added one after the other
  pub attempted : (p : ℕ) → p < length h.attempts → Attempted h p
  pub adds : (p q : ℕ) → p < q → q < length h.attempts → (attempt h p).add < (attempt h q).add
  -- the put of a call is its stamped attempt, which was not lost
  pub is_put : (x p : ℕ) → (called h x).put ≡ Some p → IsPut h p × ((attempt h p).call ≡ x)
  pub has_put : (p : ℕ) → IsPut h p → (called h (attempt h p).call).put ≡ Some p
  pub kept : (p : ℕ) → IsPut h p → (attempt h p).is_lost ≡ false
  -- the clock does not fall, and gave each version where it is said to
  pub clock : (x y : ℕ) (a b : Kind) (c d : ℕ) → Stands h x a c → Stands h y b d → x ≤ y → c ≤ d
  pub loaded : (p : ℕ) → IsPut h p → Stands h (attempt h p).load LoadClock (attempt h p).version
  pub drawn : (x : ℕ) (d : Drawn) → (called h x).draw ≡ Some d → DrawLogged h d
  -- replies fit their calls
  pub ends : (x : ℕ) (e : End) → (called h x).end ≡ Some e → ((called h x).first < e.at) × Answers (called h x).call (called h x).put e.reply
  -- gets that ended
  pub got : (x key at : ℕ) (reply : Reply) → EndsWith h x (Get key) at reply → Got h x key at reply
  -- scans that ended with pairs
  pub scanned : (x from to at : ℕ) (pairs : List (ℕ × ℕ)) → EndsWith h x (Scan from to) at (Pairs pairs) → Scanned h x from to at pairs
  -- calls differ by their first events and by their names, and begin with a load of the epoch
  pub firsts : (x y : ℕ) → x < length h.calls → y < length h.calls → (called h x).first ≡ (called h y).first → x ≡ y
  pub numbers : (x y : ℕ) → x < length h.calls → y < length h.calls → (called h x).seat ≡ (called h y).seat → (called h x).number ≡ (called h y).number → x ≡ y
  pub begins : (x : ℕ) → x < length h.calls → (clock : ℕ) × Stands h (called h x).first LoadEpoch clock
