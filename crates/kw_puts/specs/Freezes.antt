-- What holds of the rows that seats freeze: a count that is frozen gives no cell any more, an entry
-- that was gone by is never pending again, and the stamped cells that are not listed are
-- remembered.
use Rattle.std.specs.Prelude.{ℕ, ◌≡◌, ◌⊎◌, ◌+◌, ◌<◌, true, if◌then◌else◌, Option, Some, All, length}
use Rattle.kw_words.specs.declared.layout.Name.TheVariants as name
use Rattle.kw_words.specs.declared.pend.Pend.{Pend}
use Rattle.kw_words.specs.declared.pend.Pend.TheVariants.{Idle, Pending, Stamped, Frozen}
use Rattle.kw_words.specs.Pend.{pend_word}
use Rattle.kw_words.specs.Count.{count_of}
use Rattle.kw_world.specs.declared.activity.Activity.{Activity}
use Rattle.kw_world.specs.declared.activity.rebalance.freeze.Freeze.TheVariants as Freeze
use Rattle.kw_world.specs.declared.activity.rebalance.Rebalance.TheVariants as Rebalance
use Rattle.kw_world.specs.declared.local.Local.{Local}
use Rattle.kw_world.specs.declared.marks.Mark.{Mark}
use Rattle.kw_world.specs.Marks.{is_marked}
use Rattle.kw_world.specs.GroupPlaces.{is_row, source}
use Rattle.kw_world.specs.Sizes.{Sizes}
use Rattle.kw_core.specs.History.{History, attempt}
use Rattle.kw_core.specs.Listed.{Listed}
use Rattle.kw_core.specs.Run.{Origins}
use Rattle.kw_core.specs.Stages.{IsFresh}
use Rattle.kw_core.specs.Words.{Words}
use Rattle.kw_rows.specs.Ledger.{Ledger}
use Rattle.kw_puts.specs.Here.{IsMadeIn}
pub use Rattle.kw_shape.specs.Hands.{HasFrozen, IsAllFrozen, IsBehind, IsOfGroup}
use Rattle.kw_shape.specs.RowsIn.{has_frozen}

-- the row is frozen: it gives no cell any more
abbrev pub IsFrozen : Words → ℕ → Type 0
IsFrozen v r = has_frozen (count_of (v (name.Count r))) ≡ true

-- The entry that a seat is to freeze.

-- such an entry is idle or pending: a stamped one is remembered, and a frozen one is gone by
abbrev pub IsUnsettled : Pend → Type 0
IsUnsettled Idle = Unit {0}
IsUnsettled (Pending cell) = Unit {0}
IsUnsettled (Stamped cell version) = ⊥
IsUnsettled Frozen = ⊥

-- what the seat found in the entry that it is to freeze
abbrev pub IsToFreeze : Activity → Local → Type 0
IsToFreeze (Activity.Rebalance (Rebalance.Freeze (Freeze.Entry i))) l = IsUnsettled l.rebalance.entry
IsToFreeze _ l = Unit {0}

-- The row that a seat has frozen.

-- no put of seat j gets a version in row q any more: its entry is frozen, or is stamped already, or
-- it is idle and the seat has no cell of the row that it may announce
pub data IsSettled (v : Words) (locals : ℕ → Option Local) (q j : ℕ) : Type 0 where
  settled_frozen : v (name.Pend q j) ≡ pend_word Frozen → IsSettled v locals q j
  settled_stamped : (cell version : ℕ) → v (name.Pend q j) ≡ pend_word (Stamped cell version) → IsSettled v locals q j
  settled_idle : v (name.Pend q j) ≡ pend_word Idle → ((k : Local) → locals j ≡ Some k → IsFresh k.activity → k.row ≡ q → ⊥) → IsSettled v locals q j

-- the seat has gone by the entry of seat j in this row of its group
abbrev pub HasPassed : Activity → Local → ℕ → ℕ → Type 0
HasPassed (Activity.Rebalance (Rebalance.Freeze (Freeze.Look i))) l q j = IsBehind l q ⊎ (q ≡ l.rebalance.hand) × (j < i)
HasPassed (Activity.Rebalance (Rebalance.Freeze (Freeze.Entry i))) l q j = IsBehind l q ⊎ (q ≡ l.rebalance.hand) × (j < i)
HasPassed a l q j = HasFrozen a l q

-- the counts of the rows of its group are frozen, and each entry that it has gone by is settled
pub record Freezes (z : Sizes) (v : Words) (locals : ℕ → Option Local) (a : Activity) (l : Local) : Type 0 where
  pub count : (q : ℕ) → HasFrozen a l q → IsFrozen v q
  pub settled : (q j : ℕ) → HasPassed a l q j → j < z.seats → IsSettled v locals q j

-- What a seat that freezes a row remembers of it.

-- the place that a cell of this row has in the seat's group
abbrev pub place_of : Sizes → Local → ℕ → ℕ → ℕ
place_of z l q cell = (if is_row l.rebalance.second q then z.cells else 0) + cell

-- a place that is remembered is that of a cell of an attempt that is stamped with the remembered
-- version, where the cells of these places stand for these attempts
pub record IsMarkOf (h : History) (places : ℕ → Option ℕ) (m : Mark) : Type 0 where
  pub put : ℕ
  pub origin : places m.cell ≡ Some put
  pub stamped : (attempt h put).is_stamped ≡ true
  pub version : (attempt h put).version ≡ m.version

-- the seat remembers places of its group: it goes by the entries of the rows, looks at the scans,
-- or gathers cells
abbrev pub IsRemembering : Activity → Type 0
IsRemembering (Activity.Rebalance (Rebalance.Freeze _)) = Unit {0}
IsRemembering (Activity.Rebalance (Rebalance.Gather _)) = Unit {0}
IsRemembering _ = ⊥

-- it has still to walk along the list of this row
abbrev pub IsToWalk : Activity → Local → ℕ → Type 0
IsToWalk (Activity.Rebalance (Rebalance.Freeze _)) l q = IsOfGroup l q
IsToWalk (Activity.Rebalance (Rebalance.Gather _)) l q = l.rebalance.ahead ≡ Some q
IsToWalk _ l q = ⊥

-- what is remembered is the cells of stamped attempts. Each stamped attempt that was made in a row
-- of the group since that was linked, and whose seat's entry was gone by, is remembered, or its
-- cell is listed, until the seat walks along that row's list
pub record Remembers (z : Sizes) (g : Ledger) (h : History) (o : Origins) (f : Listed) (a : Activity) (l : Local) : Type 0 where
  pub marks : IsRemembering a → All (IsMarkOf h (source z o l)) l.rebalance.marks
  pub noted : (q p : ℕ) → IsToWalk a l q → p < length h.attempts → IsMadeIn g h q p → (attempt h p).is_stamped ≡ true → HasPassed a l q (attempt h p).seat →
      (is_marked (place_of z l q (attempt h p).cell) l.rebalance.marks ≡ true) ⊎ (f q (attempt h p).cell ≡ true)
