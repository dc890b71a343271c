-- Names that are looked up by a number of each, and the places of an order among the lines of a
-- record.
use Rattle.std.specs.Prelude.{ℕ, ◌≡◌, ◌+◌, ◌*◌, ◌<◌, Some, None, List, map, length, slice_get, get_or}
use Rattle.std.specs.Ordering.{nat_cmp}
use Rattle.std.specs.BTreeMap.{BTreeMap, get}
use Rattle.kw_judge.specs.declared.record.Name.{Name}
use Rattle.kw_judge.specs.declared.index.TheConstants.{NUMBER_END}
use Rattle.kw_judge.specs.Record.{RecordView, IsName}
use Rattle.kw_judge.specs.Good.{Recorded, calls_of, no_call, calls_in_order}

-- a number for each name: no other name has it
abbrev pub key_of : Name → ℕ
key_of name = name.seat * NUMBER_END + name.number

-- the map has the places of the names below n, and nothing else
pub record IsIndexBelow (names : List Name) (n : ℕ) (m : BTreeMap ℕ ℕ) : Type 0 where
  pub found : (name : Name) (p : ℕ) → IsName name → get nat_cmp m (key_of name) ≡ Some p → (p < n) × (slice_get names p ≡ Some name)
  pub lost : (name : Name) (p : ℕ) → get nat_cmp m (key_of name) ≡ None → p < n → slice_get names p ≡ Some name → ⊥

-- it has the places of all
abbrev pub IsIndex : List Name → BTreeMap ℕ ℕ → Type 0
IsIndex names m = IsIndexBelow names (length names) m

-- each name is in range
abbrev pub AreNames : List Name → Type 0
AreNames names = (k : ℕ) (name : Name) → slice_get names k ≡ Some name → IsName name

-- the places have the names of the order among these names
abbrev pub ArePlaces : List Name → List Name → List ℕ → Type 0
ArePlaces names order places = map (slice_get names) places ≡ map Some order

-- the call of the line at this place
abbrev pub call_at : RecordView → ℕ → Recorded
call_at r p = get_or (calls_of r) p no_call

-- the calls at these places are those of the order
pub record StandInOrder (r : RecordView) (places : List ℕ) : Type 0 where
  pub calls : calls_in_order r ≡ map (call_at r) places
  pub within : (k p : ℕ) → slice_get places k ≡ Some p → p < length (calls_of r)
