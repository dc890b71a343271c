-- Which keys stand in the cells of rows: the cells that an entry names, and those that are reached
-- by links, have keys that their row may hold.
--
-- Links are followed from a row's first one, or from a cell with which the row was built. A place
-- that has no cell yet may have a link of an earlier use of the row, which says nothing; it is not
-- reached before a put has stored the link after its own cell.
use Rattle.std.specs.Prelude.{ℕ, ◌≡◌, ◌⊎◌, ◌<◌, ◌≤◌, All, Option, Some}
use Rattle.kw_words.specs.declared.layout.Name.TheVariants as name
use Rattle.kw_words.specs.declared.pend.Pend.{Pend}
use Rattle.kw_words.specs.declared.pend.Pend.TheVariants as pend
use Rattle.kw_words.specs.Pend.{pend_of}
use Rattle.kw_words.specs.Plain.{cell_of_link_word, key_of_word}
use Rattle.kw_rows.specs.Ledger.{Ledger}
use Rattle.kw_rows.specs.Rows as rows
use Rattle.kw_cells.specs.declared.cell.Cell.{Cell}
use Rattle.kw_world.specs.declared.activity.Activity.{Activity}
use Rattle.kw_world.specs.declared.activity.rebalance.gather.Gather.TheVariants as Gather
use Rattle.kw_world.specs.declared.activity.insert.Insert.TheVariants as Insert
use Rattle.kw_world.specs.declared.activity.put.Put.TheVariants as Put
use Rattle.kw_world.specs.declared.activity.rebalance.Rebalance.TheVariants as Rebalance
use Rattle.kw_world.specs.declared.local.Local.{Local}
use Rattle.kw_world.specs.GroupPlaces.{base, cell_at, places, row_at}
use Rattle.kw_world.specs.Sizes.{Sizes}
use Rattle.kw_core.specs.Words.{Words, built_in}
use Rattle.kw_shape.specs.Infants.{Nursing, HasNone, nursing_of}
use Rattle.kw_shape.specs.RowsIn.{rows_in}

-- the row may hold the key that stands in its cell
abbrev pub HoldsCell : Words → Ledger → ℕ → ℕ → Type 0
HoldsCell v g q c = rows.HoldsKey (rows_in v) g q (key_of_word (v (name.Key q c)))

-- the entry names this cell
abbrev pub IsOfCell : ℕ → Option Pend → Type 0
IsOfCell c (Some (pend.Pending cell)) = cell ≡ c
IsOfCell c (Some (pend.Stamped cell version)) = cell ≡ c
IsOfCell c _ = ⊥

-- the links of row q lead from the first cell to the second, or they are one
pub data Reaches (v : Words) (q : ℕ) : ℕ → ℕ → Type 0 where
  is_there : (c : ℕ) → Reaches v q c c
  leads_on : (c d e : ℕ) → cell_of_link_word (v (name.After q c)) ≡ Some d → Reaches v q d e → Reaches v q c e

-- the row may hold the key of this cell and of each that is reached from it
abbrev pub HoldsFrom : Words → Ledger → ℕ → ℕ → Type 0
HoldsFrom v g q c = (d : ℕ) → Reaches v q c d → HoldsCell v g q d

-- of a row that is linked, or was
pub record Keyed (z : Sizes) (v : Words) (g : Ledger) (q : ℕ) : Type 0 where
  pub named : (i c : ℕ) → i < z.seats → IsOfCell c (pend_of (v (name.Pend q i))) → HoldsCell v g q c
  pub first : (c : ℕ) → cell_of_link_word (v (name.First q)) ≡ Some c → HoldsFrom v g q c
  pub built : (c : ℕ) → c < built_in v q → HoldsFrom v g q c

-- a put has stored its key, and may name or link its cell
abbrev pub HasOwnKey : Activity → Type 0
HasOwnKey (Activity.Put Put.Value) = Unit {0}
HasOwnKey (Activity.Put Put.Announce) = Unit {0}
HasOwnKey (Activity.Put Put.Clock) = Unit {0}
HasOwnKey (Activity.Put Put.Stamp) = Unit {0}
HasOwnKey (Activity.Put Put.Version) = Unit {0}
HasOwnKey (Activity.Insert _) = Unit {0}
HasOwnKey _ = ⊥

-- the cell is one from which the seat goes on in its row's list, or to which it may make links
-- lead: that of its link, the one that it has reached, the one that is to stand behind its own
-- cell, or its own cell, whose link it has stored
abbrev pub IsInList : Activity → Local → ℕ → Type 0
IsInList (Activity.Insert Insert.Start) l c = l.link ≡ Some c
IsInList (Activity.Insert Insert.Link) l c = l.link ≡ Some c
IsInList (Activity.Insert Insert.Key) l c = (l.place ≡ c) ⊎ (l.held ≡ Some c)
IsInList (Activity.Insert Insert.Version) l c = (l.place ≡ c) ⊎ (l.held ≡ Some c)
IsInList (Activity.Insert Insert.Set) l c = l.held ≡ Some c
IsInList (Activity.Insert Insert.Exchange) l c = l.cell ≡ c
IsInList (Activity.Rebalance (Rebalance.Gather Gather.Link)) l c = l.link ≡ Some c
IsInList (Activity.Rebalance (Rebalance.Gather Gather.Key)) l c = l.place ≡ c
IsInList (Activity.Rebalance (Rebalance.Gather Gather.Version)) l c = l.place ≡ c
IsInList (Activity.Rebalance (Rebalance.Gather Gather.Value)) l c = l.place ≡ c
IsInList _ l c = ⊥

-- the row in whose list that is: a rebalance has one of its group at hand
abbrev pub list_row : Activity → Local → ℕ
list_row (Activity.Rebalance _) l = l.rebalance.hand
list_row _ l = l.row

-- a rebalance remembers cells
abbrev pub HasMarks : Activity → Type 0
HasMarks (Activity.Rebalance (Rebalance.Freeze _)) = Unit {0}
HasMarks (Activity.Rebalance (Rebalance.Gather _)) = Unit {0}
HasMarks _ = ⊥

-- it gathers the cells of the row at hand
abbrev pub IsGatheringRow : Activity → Type 0
IsGatheringRow (Activity.Rebalance (Rebalance.Gather _)) = Unit {0}
IsGatheringRow _ = ⊥

-- it has reached the cell at hand, and has not loaded its key
abbrev pub HasReachedCell : Activity → Type 0
HasReachedCell (Activity.Rebalance (Rebalance.Gather Gather.Key)) = Unit {0}
HasReachedCell (Activity.Rebalance (Rebalance.Gather Gather.LeftOverKey)) = Unit {0}
HasReachedCell _ = ⊥

-- it has
abbrev pub HasKeyInHand : Activity → Type 0
HasKeyInHand (Activity.Rebalance (Rebalance.Gather Gather.Version)) = Unit {0}
HasKeyInHand (Activity.Rebalance (Rebalance.Gather Gather.Value)) = Unit {0}
HasKeyInHand (Activity.Rebalance (Rebalance.Gather Gather.LeftOverValue)) = Unit {0}
HasKeyInHand _ = ⊥

-- it has gathered cells, or has made its plan of them
abbrev pub IsPlanned : Nursing → Type 0
IsPlanned HasNone = ⊥
IsPlanned _ = Unit {0}

abbrev pub HasGathered : Activity → Type 0
HasGathered (Activity.Rebalance (Rebalance.Gather _)) = Unit {0}
HasGathered a = IsPlanned (nursing_of a)

-- the group has the place, and the row of the cell there may hold the key that stands in that cell
abbrev pub HoldsPlace : Sizes → Words → Ledger → Local → ℕ → Type 0
HoldsPlace z v g l p = (p < places z l.rebalance.second) × HoldsCell v g (row_at z l p) (cell_at z p)

-- the group has the place of the gathered cell, and the row there may hold its key
abbrev pub HoldsGathered : Sizes → Words → Ledger → Local → Cell → Type 0
HoldsGathered z v g l c = (c.place < places z l.rebalance.second) × rows.HoldsKey (rows_in v) g (row_at z l c.place) c.key

-- of the cells that a seat remembers while it gathers, none is of a row behind the one at hand
abbrev pub IsRest : Sizes → Activity → Local → Type 0
IsRest z a l = IsGatheringRow a → All (λ m. base z l.rebalance ≤ m.cell) l.rebalance.marks

-- what a seat knows of the keys of its row, or of the rows of its group
pub record Keys (z : Sizes) (v : Words) (g : Ledger) (a : Activity) (l : Local) : Type 0 where
  pub own : HasOwnKey a → HoldsCell v g l.row l.cell
  pub list : (c : ℕ) → IsInList a l c → HoldsFrom v g (list_row a l) c
  pub marks : HasMarks a → All (λ m. HoldsPlace z v g l m.cell) l.rebalance.marks
  pub saw : HasReachedCell a → HoldsCell v g l.rebalance.hand l.place
  pub key : HasKeyInHand a → rows.HoldsKey (rows_in v) g l.rebalance.hand l.place_key
  pub gathered : HasGathered a → All (HoldsGathered z v g l) l.rebalance.gathered
