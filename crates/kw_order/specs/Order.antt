-- The order of the calls of a history.
use Rattle.std.specs.Prelude.{ℕ, ◌≡◌, ◌≢◌, ◌+◌, ◌<◌, ◌≤◌, ◌⊎◌, Option, Some, None, List, slice_get}
use Rattle.kw_core.specs.History.{History, Call, Put, Del, Get, Scan, Pin, ScanAt, Unpin, Reply, Done, Value, Absent, Pairs, NoRows, Spent, Stopped, Held, NotPinned, attempt, called}
use Rattle.kw_core.specs.declared.history.Drawn.{Drawn}
use Rattle.kw_core.specs.declared.history.End.{End}
pub use Rattle.kw_order.specs.declared.rank.Rank.{Rank}
use Rattle.kw_core.specs.HistoryLaws.{IsPut, IsPutOf, StandsBefore, StandsUpTo, shows, IsGapOf, EndsWith}

-- u is a put of p's key and version, added where p was or later
pub record IsMate (h : History) (p u : ℕ) : Type 0 where
  pub is_put : IsPut h u
  pub key : (attempt h u).key ≡ (attempt h p).key
  pub version : (attempt h u).version ≡ (attempt h p).version
  pub add : (attempt h p).add ≤ (attempt h u).add

-- a is the point of the put p: the first clock load of its mates
pub record IsPoint (h : History) (p a : ℕ) : Type 0 where
  pub mate : ℕ
  pub is_mate : IsMate h p mate
  pub load : a ≡ (attempt h mate).load
  pub first : (u : ℕ) → IsMate h p u → a ≤ (attempt h u).load

-- q is the next put of its key after the gap behind o
pub record IsNext (h : History) (key : ℕ) (o : Option ℕ) (q : ℕ) : Type 0 where
  pub is_put : IsPutOf h key q
  pub after : StandsUpTo h o q → ⊥
  pub first : (u : ℕ) → IsPutOf h key u → (StandsUpTo h o u → ⊥) → (u ≡ q) ⊎ StandsBefore h q u

-- the gap behind o shows nothing, and its next put, if any, has its point after f
pub record Serves (h : History) (key f : ℕ) (o : Option ℕ) : Type 0 where
  pub gap : IsGapOf h key o
  pub shows : shows h o ≡ None
  pub next : (q a : ℕ) → IsNext h key o q → IsPoint h q a → f < a

-- one gap stands before another
abbrev pub GapBefore : History → Option ℕ → Option ℕ → Type 0
GapBefore h o None = ⊥
GapBefore h None (Some q) = Unit {0}
GapBefore h (Some p) (Some q) = StandsBefore h p q

-- the first gap that a get of this key which began at f and found nothing may stand in
pub record IsFirstGap (h : History) (key f : ℕ) (o : Option ℕ) : Type 0 where
  pub serves : Serves h key f o
  pub first : (other : Option ℕ) → Serves h key f other → GapBefore h other o → ⊥

-- the gap of a get that ended with this reply
abbrev pub IsGap : History → ℕ → ℕ → Reply → Option ℕ → Type 0
IsGap h x key (Value v) o = o ≡ (called h x).answer
IsGap h x key Absent o = IsFirstGap h key (called h x).first o
IsGap h x key _ o = ⊥

-- one place in the order is before another
abbrev pub Below : Rank → Rank → Type 0
Below r s = (r.at < s.at) ⊎ ((r.at ≡ s.at) × (r.add < s.add)) ⊎ ((r.at ≡ s.at) × (r.add ≡ s.add) × (r.tail < s.tail))

-- a call with this reply takes effect at its first event: it was refused, or goes by what its seat
-- held by then
abbrev pub StandsFirst : Call → Reply → Type 0
StandsFirst call NoRows = Unit {0}
StandsFirst call Spent = Unit {0}
StandsFirst call Stopped = Unit {0}
StandsFirst Pin Held = Unit {0}
StandsFirst (ScanAt from to) (Pairs pairs) = Unit {0}
StandsFirst (ScanAt from to) NotPinned = Unit {0}
StandsFirst Unpin Done = Unit {0}
StandsFirst Unpin NotPinned = Unit {0}
StandsFirst _ _ = ⊥

-- the place of a call
pub data HasRank (h : History) (x : ℕ) : Rank → Type 0 where
  of_put : (p a : ℕ) → (called h x).put ≡ Some p → IsPoint h p a → HasRank h x (record { at = a; add = (attempt h p).add; tail = 0 })
  behind : (key at : ℕ) (reply : Reply) (p a : ℕ) → EndsWith h x (Get key) at reply → IsGap h x key reply (Some p) → IsPoint h p a → (called h x).first < a →
      HasRank h x (record { at = a; add = (attempt h p).add; tail = (called h x).first + 1 })
  at_first : (key at : ℕ) (reply : Reply) (o : Option ℕ) → EndsWith h x (Get key) at reply → IsGap h x key reply o → ((p a : ℕ) → o ≡ Some p → IsPoint h p a → a ≤ (called h x).first) →
      HasRank h x (record { at = (called h x).first; add = 0; tail = (called h x).first + 1 })
  of_scan : (from to at : ℕ) (pairs : List (ℕ × ℕ)) (d : Drawn) → EndsWith h x (Scan from to) at (Pairs pairs) → (called h x).draw ≡ Some d →
      HasRank h x (record { at = d.at; add = 0; tail = (called h x).first + 1 })
  of_pin : (at : ℕ) (d : Drawn) → EndsWith h x Pin at Done → (called h x).draw ≡ Some d → HasRank h x (record { at = d.at; add = 0; tail = (called h x).first + 1 })
  of_first : (call : Call) (at : ℕ) (reply : Reply) → EndsWith h x call at reply → StandsFirst call reply → HasRank h x (record { at = (called h x).first; add = 0; tail = (called h x).first + 1 })

-- the rank of the call that made the put q, whose point is b
abbrev pub put_rank : History → ℕ → ℕ → Rank
put_rank h q b = record { at = b; add = (attempt h q).add; tail = 0 }

-- r stands right behind the gap o of key k: after each put up to the gap, before each put after it
pub record Separates (h : History) (k : ℕ) (o : Option ℕ) (r : Rank) : Type 0 where
  pub below : (q b : ℕ) → IsPutOf h k q → IsPoint h q b → StandsUpTo h o q → Below (put_rank h q b) r
  pub above : (q b : ℕ) → IsPutOf h k q → IsPoint h q b → (StandsUpTo h o q → ⊥) → Below r (put_rank h q b)

-- the calls that have a place: those that ended, and those that have a put
abbrev pub IsPlaced : History → ℕ → Type 0
IsPlaced h x = ((called h x).end ≢ None) ⊎ ((called h x).put ≢ None)

-- the calls that have a place, by rising rank
pub record IsOrder (h : History) (xs : List ℕ) : Type 0 where
  pub placed : (i x : ℕ) → slice_get xs i ≡ Some x → IsPlaced h x
  pub every : (x : ℕ) → IsPlaced h x → (i : ℕ) × (slice_get xs i ≡ Some x)
  pub rises : (i j x y : ℕ) (r s : Rank) → i < j → slice_get xs i ≡ Some x → slice_get xs j ≡ Some y → HasRank h x r → HasRank h y s → Below r s

-- the position is inside the call
pub record Inside (h : History) (x a : ℕ) : Type 0 where
  pub first : (called h x).first ≤ a
  pub end : (e : End) → (called h x).end ≡ Some e → a ≤ e.at

-- the call made a put or delete of this key that was stamped
pub record Updates (h : History) (k x : ℕ) : Type 0 where
  pub put : ℕ
  pub is_its : (called h x).put ≡ Some put
  pub of_key : IsPutOf h k put

-- the call y is the last update of key k below the rank r
pub record IsLastBelow (h : History) (k : ℕ) (r : Rank) (y : ℕ) : Type 0 where
  pub updates : Updates h k y
  pub rank : Rank
  pub has_rank : HasRank h y rank
  pub below : Below rank r
  pub last : (z : ℕ) (s : Rank) → Updates h k z → HasRank h z s → Below s r → (z ≡ y) ⊎ Below s rank

-- the last update of key k below the rank r, or none
abbrev pub LastBelow : History → ℕ → Rank → Option ℕ → Type 0
LastBelow h k r None = (z : ℕ) (s : Rank) → Updates h k z → HasRank h z s → Below s r → ⊥
LastBelow h k r (Some y) = IsLastBelow h k r y

-- what a call writes
abbrev pub written : Call → Option ℕ
written (Put k v) = Some v
written (Del k) = None
written (Get k) = None
written (Scan from to) = None
written Pin = None
written (ScanAt from to) = None
written Unpin = None

-- what a call, if any, writes
abbrev pub written_by : History → Option ℕ → Option ℕ
written_by h None = None
written_by h (Some y) = written (called h y).call

-- o is the greatest put of key k with a version at most v, or none
abbrev pub IsTop : History → ℕ → ℕ → Option ℕ → Type 0
IsTop h k v None = (q : ℕ) → IsPutOf h k q → (attempt h q).version ≤ v → ⊥
IsTop h k v (Some p) = IsPutOf h k p × ((attempt h p).version ≤ v) × ((q : ℕ) → IsPutOf h k q → (attempt h q).version ≤ v → StandsUpTo h (Some p) q)
