-- The stamped puts of a history in their order, key by key, and their points: what the code that
-- sorts them keeps.
use Rattle.std.specs.Prelude.{ℕ, ◌≡◌, ◌<◌, ◌≤◌, ◌⊎◌, Option, Some, None, List, length, get_or}
use Rattle.kw_core.specs.History.{History, attempt}
use Rattle.kw_core.specs.HistoryLaws.{IsPut}
use Rattle.kw_order.specs.declared.puts.StampedPut.{StampedPut}
use Rattle.kw_order.specs.declared.puts.PutTable.{PutTable}
use Rattle.kw_order.specs.Order.{IsPoint, IsFirstGap}

-- the put at a place of the list
abbrev pub put_at : List StampedPut → ℕ → StampedPut
put_at puts i = get_or puts i (record { key = 0; version = 0; add = 0; place = 0 })

-- the entry is that of a stamped attempt
pub record IsStampedPut (h : History) (put : StampedPut) : Type 0 where
  pub is_put : IsPut h put.place
  pub key : put.key ≡ (attempt h put.place).key
  pub version : put.version ≡ (attempt h put.place).version
  pub add : put.add ≡ (attempt h put.place).add

-- by key, then by version, then by the place of the add
abbrev pub Precedes : StampedPut → StampedPut → Type 0
Precedes s t = (s.key < t.key) ⊎ ((s.key ≡ t.key) × ((s.version < t.version) ⊎ ((s.version ≡ t.version) × (s.add < t.add))))

-- stamped attempts in this order
pub record ArePuts (h : History) (puts : List StampedPut) : Type 0 where
  pub each : (i : ℕ) → i < length puts → IsStampedPut h (put_at puts i)
  pub rises : (i j : ℕ) → i < j → j < length puts → Precedes (put_at puts i) (put_at puts j)

-- the attempt has its entry in the list
abbrev pub IsListed : List StampedPut → ℕ → Type 0
IsListed puts p = (i : ℕ) × (i < length puts) × ((put_at puts i).place ≡ p)

-- all of them
pub record AreAllPuts (h : History) (puts : List StampedPut) : Type 0 where
  pub are : ArePuts h puts
  pub every : (p : ℕ) → IsPut h p → IsListed puts p

-- all that are deletes
pub record AreAllDeletes (h : History) (puts : List StampedPut) : Type 0 where
  pub are : ArePuts h puts
  pub delete : (i : ℕ) → i < length puts → (attempt h (put_at puts i).place).value ≡ None
  pub every : (p : ℕ) → IsPut h p → (attempt h p).value ≡ None → IsListed puts p

-- each put's point stands at the put's place
pub record HavePoints (h : History) (points : List ℕ) : Type 0 where
  pub size : length points ≡ length h.attempts
  pub each : (p : ℕ) → IsPut h p → IsPoint h p (get_or points p 0)

-- the put at i of the list is of a lesser key, or of this key with a point that is not after `at`
abbrev pub IsUntil : List StampedPut → List ℕ → ℕ → ℕ → ℕ → Type 0
IsUntil puts points key at i = ((put_at puts i).key < key) ⊎ (((put_at puts i).key ≡ key) × (get_or points (put_at puts i).place 0 ≤ at))

-- where this holds of a put of the list it holds of all before it, and each put has a place among
-- the points
pub record CanSplit (puts : List StampedPut) (points : List ℕ) (key at : ℕ) : Type 0 where
  pub within : (i : ℕ) → i < length puts → (put_at puts i).place < length points
  pub down : (i j : ℕ) → i ≤ j → j < length puts → IsUntil puts points key at j → IsUntil puts points key at i

-- it holds of the first n puts, and of no more
pub record IsSplit (puts : List StampedPut) (points : List ℕ) (key at n : ℕ) : Type 0 where
  pub within : n ≤ length puts
  pub until : (i : ℕ) → i < n → IsUntil puts points key at i
  pub past : (i : ℕ) → n ≤ i → i < length puts → IsUntil puts points key at i → ⊥

-- where the split is being sought, it lies from low up to high
pub record IsSplitWithin (puts : List StampedPut) (points : List ℕ) (key at low high : ℕ) : Type 0 where
  pub rising : low ≤ high
  pub within : high ≤ length puts
  pub until : (i : ℕ) → i < low → IsUntil puts points key at i
  pub past : (i : ℕ) → high ≤ i → i < length puts → IsUntil puts points key at i → ⊥

-- the points of the puts from a place of the list on stand at these puts' places
pub record HavePointsFrom (h : History) (puts : List StampedPut) (points : List ℕ) (n : ℕ) : Type 0 where
  pub size : length points ≡ length h.attempts
  pub each : (i : ℕ) → n ≤ i → i < length puts → IsPoint h (put_at puts i).place (get_or points (put_at puts i).place 0)

-- the table of the history's puts
pub record IsTable (h : History) (table : PutTable) : Type 0 where
  pub puts : AreAllPuts h table.puts.items
  pub deletes : AreAllDeletes h table.deletes.items
  pub points : HavePoints h table.points.items

-- the gap is behind no put whose point is after f
abbrev pub IsReached : History → ℕ → Option ℕ → Type 0
IsReached h f o = (p a : ℕ) → o ≡ Some p → IsPoint h p a → a ≤ f

-- a get of this key that began at f and found nothing stands in the gap behind this put, whose
-- point is after f; or else in a gap that is reached
abbrev pub HasGap : History → ℕ → ℕ → Option ℕ → Type 0
HasGap h key f None = (o : Option ℕ) × IsFirstGap h key f o × IsReached h f o
HasGap h key f (Some p) = IsFirstGap h key f (Some p) × ((a : ℕ) → IsPoint h p a → f < a)

-- the stamped attempts below n, in the order of their places
pub record AreCollected (h : History) (puts : List StampedPut) (n : ℕ) : Type 0 where
  pub each : (i : ℕ) → i < length puts → IsStampedPut h (put_at puts i)
  pub below : (i : ℕ) → i < length puts → (put_at puts i).place < n
  pub rises : (i j : ℕ) → i < j → j < length puts → (put_at puts i).place < (put_at puts j).place
  pub every : (p : ℕ) → p < n → IsPut h p → IsListed puts p

-- the deletes among the first n of the puts
pub record ArePicked (h : History) (puts deletes : List StampedPut) (n : ℕ) : Type 0 where
  pub are : ArePuts h deletes
  pub delete : (i : ℕ) → i < length deletes → (attempt h (put_at deletes i).place).value ≡ None
  pub before : (i : ℕ) → i < length deletes → (j : ℕ) × (j < n) × (put_at deletes i ≡ put_at puts j)
  pub every : (j : ℕ) → j < n → (attempt h (put_at puts j).place).value ≡ None → IsListed deletes (put_at puts j).place
