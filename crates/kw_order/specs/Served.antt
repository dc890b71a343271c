-- Calls of seats, with replies, that stand in an order: what each reply must be served from.
use Rattle.std.specs.Prelude.{ℕ, ◌≡◌, ◌≤◌, ◌⊎◌, ◌&&◌, ◌==◌, Bool, true, false, List, Option, Some, None, All}
use Rattle.kw_order.specs.LastOf.{IsLast}
use Rattle.kw_model.specs.Map.{Pairs, IsRising, value_of, found}
use Rattle.kw_model.specs.Legal.{may_refuse, is_update, shown}
use Rattle.kw_model.specs.LegalFor.{is_change, is_pin}
use Rattle.kw_model.specs.declared.call.Call.{Call}
use Rattle.kw_model.specs.declared.call.Call.TheVariants.{Put, Del, Get, Scan, Pin, ScanAt, Unpin}
use Rattle.kw_model.specs.declared.call.Reply.{Reply}
use Rattle.kw_model.specs.declared.call.Reply.TheVariants as reply

module _ {X : Type 0} (seat_of : X → ℕ) (call : X → Call) (reply_of : X → Reply) (Before : X → X → Type 0) where
  -- x sets or takes away the key, and was not refused
  abbrev pub does_update : ℕ → X → Bool
  does_update k x = is_update k (call x) (reply_of x)

  -- x is a pin or an unpin of the seat, and was accepted
  abbrev pub does_change : ℕ → X → Bool
  does_change s x = is_change (call x) (reply_of x) && (seat_of x == s)

  -- what an update, or none, shows
  abbrev pub shows : Option X → Option ℕ
  shows None = None
  shows (Some p) = shown (call p)

  -- whether a seat holds a snapshot after its last change, or after none
  abbrev pub holds : Option X → Bool
  holds None = false
  holds (Some y) = is_pin (call y)

  -- o is the last update of the key before x, or there is none
  abbrev pub IsLastUpdate : List X → ℕ → X → Option X → Type 0
  IsLastUpdate xs k x o = IsLast Before xs (does_update k) x o

  -- o is the last change of what x's seat holds before x, or there is none
  abbrev pub IsLastChange : List X → X → Option X → Type 0
  IsLastChange xs x o = IsLast Before xs (does_change (seat_of x)) x o

  -- the seat of x holds no snapshot, or holds one
  abbrev pub IsWithout : List X → X → Type 0
  IsWithout xs x = (o : Option X) × IsLastChange xs x o × (holds o ≡ false)

  abbrev pub IsHolding : List X → X → Type 0
  IsHolding xs x = (o : Option X) × IsLastChange xs x o × (holds o ≡ true)

  -- x was refused in its place
  abbrev pub IsRefused : X → Type 0
  IsRefused x = may_refuse (call x) (reply_of x) ≡ true

  -- x has these pairs, of this range: each key shows its last update before y, which is x itself
  -- for a scan of the map as it stands, and the pin for a scan of a snapshot
  pub record IsScanned (xs : List X) (x y : X) (a b : ℕ) : Type 0 where
    pub pairs : Pairs
    pub replied : reply_of x ≡ reply.Pairs pairs
    pub rising : IsRising pairs
    pub inside : All (λ p. (a ≤ p.0) × (p.0 ≤ b)) pairs
    pub each : (k : ℕ) → a ≤ k → k ≤ b → (o : Option X) × IsLastUpdate xs k y o × (value_of k pairs ≡ shows o)

  -- x has the pairs of the snapshot that its seat holds: its last change is this pin
  pub record IsReadAt (xs : List X) (x : X) (a b : ℕ) : Type 0 where
    pub pin : X
    pub last : IsLastChange xs x (Some pin)
    pub is_pin : call pin ≡ Pin
    pub scanned : IsScanned xs x pin a b

  -- the reply of x, which is this call
  abbrev pub IsServedAt : List X → X → Call → Type 0
  IsServedAt xs x (Put k v) = IsRefused x ⊎ (reply_of x ≡ reply.Done)
  IsServedAt xs x (Del k) = IsRefused x ⊎ (reply_of x ≡ reply.Done)
  IsServedAt xs x (Get k) = (o : Option X) × IsLastUpdate xs k x o × (reply_of x ≡ found (shows o))
  IsServedAt xs x (Scan a b) = IsRefused x ⊎ IsScanned xs x x a b
  IsServedAt xs x Pin = IsRefused x ⊎ (IsWithout xs x × (reply_of x ≡ reply.Done)) ⊎ (IsHolding xs x × (reply_of x ≡ reply.Held))
  IsServedAt xs x (ScanAt a b) = IsRefused x ⊎ (IsWithout xs x × (reply_of x ≡ reply.NotPinned)) ⊎ IsReadAt xs x a b
  IsServedAt xs x Unpin = (IsWithout xs x × (reply_of x ≡ reply.NotPinned)) ⊎ (IsHolding xs x × (reply_of x ≡ reply.Done))
