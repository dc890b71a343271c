-- What the pass over cells in order asks of each, and what holds on its way.
use Rattle.std.specs.Prelude.{ℕ, ◌≡◌, ◌≤◌, ◌<◌, ◌+◌, ◌⊎◌, Bool, true, false, List, IsSome, All, Any, Contains, length, slice_index_or}
use Rattle.kw_cells.specs.InOrder.{stands_before}
use Rattle.kw_cells.specs.Kept.{AreRising, IsKept}
use Rattle.kw_cells.specs.declared.cell.Cell.{Cell}

-- no cell stands behind one that it stands before in a row's list
abbrev pub IsOrdered : List Cell → Type 0
IsOrdered s = (i j : ℕ) (d : Cell) → i ≤ j → j < length s → stands_before (slice_index_or s j d) (slice_index_or s i d) ≡ false

-- the cell at a place is the newest of its key, or a needed version lies from its own to below that
-- of the cell in front of it
abbrev pub IsPicked : List Cell → List ℕ → ℕ → Type 0
IsPicked s needed i = (k : ℕ) (d : Cell) → k + 1 ≡ i → (slice_index_or s k d).key ≡ (slice_index_or s i d).key → Any (λ u. ((slice_index_or s i d).version ≤ u) × (u < (slice_index_or s k d).version)) needed

-- a cell that may be kept as far as tombstones go: it has a value, or one of its key was kept
abbrev pub MayStay : Bool → Cell → Type 0
MayStay shown c = (IsSome c.value) ⊎ (shown ≡ true)

-- the cells of one key stand from a place to below another
pub record IsKeyAt (s : List Cell) (from end : ℕ) : Type 0 where
  pub some : from < end
  pub within : end ≤ length s
  pub first : (k : ℕ) (d : Cell) → k + 1 ≡ from → (slice_index_or s k d).key < (slice_index_or s from d).key
  pub same : (k : ℕ) (d : Cell) → from ≤ k → k < end → (slice_index_or s k d).key ≡ (slice_index_or s from d).key
  pub last : (d : Cell) → end < length s → (slice_index_or s from d).key < (slice_index_or s end d).key

-- the kept ones of the cells in front of a place at which a key begins, or of all
pub record IsKeptTo (s : List Cell) (needed : List ℕ) (n : ℕ) (kept : List Cell) : Type 0 where
  pub few : length kept ≤ n
  pub rising : AreRising kept
  pub under : (m : ℕ) (d : Cell) → n ≤ m → m < length s → All (λ c. c.key < (slice_index_or s m d).key) kept
  pub sound : All (IsKept s needed) kept
  pub complete : (j : ℕ) (d : Cell) → j < n → j < length s → IsKept s needed (slice_index_or s j d) → Contains kept (slice_index_or s j d)
