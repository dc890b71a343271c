-- What a seat that rebalances gathers of its frozen rows, and what the cells of the rows that it
-- writes stand for.
use Rattle.std.specs.Prelude.{ℕ, ◌≡◌, ◌⊎◌, ◌<◌, ◌≤◌, ◌==◌, Bool, true, false, if◌then◌else◌, Option, Some, None, List, [], ◌∷◌, All, length, slice_get}
use Rattle.kw_cells.specs.declared.cell.Cell.{Cell}
use Rattle.kw_lists.specs.Counts.{count_below}
use Rattle.kw_lists.specs.Rows.{Row, Stands, IsOn, IsBehind}
use Rattle.kw_lists.specs.Walks.{IsGoneBy}
use Rattle.kw_world.specs.declared.activity.Activity.{Activity}
use Rattle.kw_world.specs.declared.activity.rebalance.gather.Gather.TheVariants as Gather
use Rattle.kw_world.specs.declared.activity.rebalance.Rebalance.TheVariants as Rebalance
use Rattle.kw_world.specs.declared.activity.rebalance.replace.Replace.TheVariants as Replace
use Rattle.kw_world.specs.declared.local.Local.{Local}
use Rattle.kw_world.specs.GroupPlaces.{place_in_group, places, source}
use Rattle.kw_world.specs.Marks.{is_marked}
use Rattle.kw_world.specs.SeekTransitions.{at_infant, infant}
use Rattle.kw_world.specs.Sizes.{Sizes}
use Rattle.kw_world.specs.WriteTransitions.{infant_cells}
use Rattle.kw_core.specs.History.{History, attempt}
use Rattle.kw_core.specs.Listed.{Listed}
use Rattle.kw_core.specs.Run.{Origins}
use Rattle.kw_shape.specs.Hands.{IsBehind as IsRowBehind}
use Rattle.kw_shape.specs.Infants.{Nursing, HasNone, nursing_of, IsWhole, IsWriting, HasCount, HasVersion, HasAfter}

-- Cells that are gathered.

-- the cell is that of a stamped attempt
pub record IsCellOf (h : History) (c : Cell) (p : ℕ) : Type 0 where
  pub stamped : (attempt h p).is_stamped ≡ true
  pub key : (attempt h p).key ≡ c.key
  pub version : (attempt h p).version ≡ c.version
  pub value : (attempt h p).value ≡ c.value

-- it was gathered at its place, where the cells of these places stand for these attempts
pub record IsGathered (h : History) (places : ℕ → Option ℕ) (c : Cell) : Type 0 where
  pub put : ℕ
  pub origin : places c.place ≡ Some put
  pub is : IsCellOf h c put

-- a cell of this place is gathered
abbrev pub has_place : ℕ → List Cell → Bool
has_place c [] = false
has_place c (d ∷ cells) = if d.place == c then true else has_place c cells

-- The walk.

-- the seat reads the cells of the frozen row at hand
abbrev pub IsGathering : Activity → Type 0
IsGathering (Activity.Rebalance (Rebalance.Gather _)) = Unit {0}
IsGathering _ = ⊥

-- it walks along the list
abbrev pub IsTakeListing : Activity → Type 0
IsTakeListing (Activity.Rebalance (Rebalance.Gather Gather.Link)) = Unit {0}
IsTakeListing (Activity.Rebalance (Rebalance.Gather Gather.Key)) = Unit {0}
IsTakeListing (Activity.Rebalance (Rebalance.Gather Gather.Version)) = Unit {0}
IsTakeListing (Activity.Rebalance (Rebalance.Gather Gather.Value)) = Unit {0}
IsTakeListing _ = ⊥

-- it has a cell in hand
abbrev pub HasTaken : Activity → Type 0
HasTaken (Activity.Rebalance (Rebalance.Gather Gather.Link)) = ⊥
HasTaken a = IsGathering a

-- one that it reached in the list
abbrev pub HasTakenListed : Activity → Type 0
HasTakenListed (Activity.Rebalance (Rebalance.Gather Gather.Key)) = Unit {0}
HasTakenListed (Activity.Rebalance (Rebalance.Gather Gather.Version)) = Unit {0}
HasTakenListed (Activity.Rebalance (Rebalance.Gather Gather.Value)) = Unit {0}
HasTakenListed _ = ⊥

-- with its version, with its key
abbrev pub HasTakenVersion : Activity → Type 0
HasTakenVersion (Activity.Rebalance (Rebalance.Gather Gather.Value)) = Unit {0}
HasTakenVersion (Activity.Rebalance (Rebalance.Gather Gather.LeftOverKey)) = Unit {0}
HasTakenVersion (Activity.Rebalance (Rebalance.Gather Gather.LeftOverValue)) = Unit {0}
HasTakenVersion _ = ⊥

abbrev pub HasTakenKey : Activity → Type 0
HasTakenKey (Activity.Rebalance (Rebalance.Gather Gather.Version)) = Unit {0}
HasTakenKey (Activity.Rebalance (Rebalance.Gather Gather.Value)) = Unit {0}
HasTakenKey (Activity.Rebalance (Rebalance.Gather Gather.LeftOverValue)) = Unit {0}
HasTakenKey _ = ⊥

-- the walk will reach the cell, or it is in hand
abbrev pub IsToTake : Row → Activity → Local → ℕ → Type 0
IsToTake r (Activity.Rebalance (Rebalance.Gather Gather.Link)) l c = (r.listed c ≡ true) × IsBehind r l.link c
IsToTake r (Activity.Rebalance (Rebalance.Gather Gather.LeftOverKey)) l c = c ≡ l.place
IsToTake r (Activity.Rebalance (Rebalance.Gather Gather.LeftOverValue)) l c = c ≡ l.place
IsToTake r (Activity.Rebalance (Rebalance.Gather _)) l c = (r.listed c ≡ true) × ((c ≡ l.place) ⊎ Stands r l.place c)
IsToTake r _ l c = ⊥

-- the cell in hand is that of a stamped attempt, with the version and the key in hand, once they
-- are
pub record IsTakenOf (h : History) (o : Origins) (a : Activity) (l : Local) : Type 0 where
  pub put : ℕ
  pub origin : o l.rebalance.hand l.place ≡ Some put
  pub stamped : (attempt h put).is_stamped ≡ true
  pub version : HasTakenVersion a → (attempt h put).version ≡ l.place_version
  pub key : HasTakenKey a → (attempt h put).key ≡ l.place_key

-- each cell of the row at hand that stands for a stamped attempt is gathered, remembered, or to
-- come, and those of the row behind it are gathered; none is gathered twice
pub record Gathering (z : Sizes) (r : Row) (h : History) (o : Origins) (a : Activity) (l : Local) : Type 0 where
  pub on : IsTakeListing a → IsOn r l.link
  pub behind : HasTakenListed a → (r.listed l.place ≡ true) × IsBehind r l.link l.place
  pub found : (c p : ℕ) → c < z.cells → o l.rebalance.hand c ≡ Some p → (attempt h p).is_stamped ≡ true → (has_place (place_in_group z l.rebalance c) l.rebalance.gathered ≡ true) ⊎ (is_marked (place_in_group z l.rebalance c) l.rebalance.marks ≡ true) ⊎ IsToTake r a l c
  pub whole : (q c p : ℕ) → IsRowBehind l q → c < z.cells → o q c ≡ Some p → (attempt h p).is_stamped ≡ true → has_place c l.rebalance.gathered ≡ true
  pub hand : HasTaken a → IsTakenOf h o a l
  pub few : length l.rebalance.gathered ≤ count_below (places z l.rebalance.second) (λ p. has_place p l.rebalance.gathered)
  pub below : (p : ℕ) → has_place p l.rebalance.gathered ≡ true → p < place_in_group z l.rebalance z.cells
  pub unmarked : (p : ℕ) → is_marked p l.rebalance.marks ≡ true → has_place p l.rebalance.gathered ≡ false
  pub gone_by : IsTakeListing a → (c : ℕ) → has_place (place_in_group z l.rebalance c) l.rebalance.gathered ≡ true → (r.listed c ≡ true) × IsGoneBy r l.link c
  pub fresh : HasTaken a → (IsTakeListing a → ⊥) → has_place (place_in_group z l.rebalance l.place) l.rebalance.gathered ≡ false
  pub held : HasTaken a → is_marked (place_in_group z l.rebalance l.place) l.rebalance.marks ≡ false

-- After the walk.

-- all is gathered, and the plan is made: rows are sought, written, linked, or given back
abbrev pub HasPlanned : Nursing → Type 0
HasPlanned HasNone = ⊥
HasPlanned _ = Unit {0}

-- what is gathered holds all of the group
abbrev pub HoldsGroup : Sizes → History → Origins → Local → Type 0
HoldsGroup z h o l = (p x : ℕ) → p < places z l.rebalance.second → source z o l p ≡ Some x → (attempt h x).is_stamped ≡ true → has_place p l.rebalance.gathered ≡ true

-- what the cells of row q stand for and which are listed, where it is the row at hand of a seat
-- that knows l and is about to do this: a copy stands for the attempt of the cell at which it was
-- gathered
pub record Copied (z : Sizes) (h : History) (o : Origins) (f : Listed) (a : Activity) (l : Local) (q : ℕ) : Type 0 where
  pub origin : (j : ℕ) (c : Cell) → j < z.cells → HasVersion a j → slice_get (infant_cells l) j ≡ Some c → (p : ℕ) × (o q j ≡ Some p) × IsCellOf h c p
  pub gathered : (j : ℕ) (c : Cell) → j < z.cells → HasVersion a j → slice_get (infant_cells l) j ≡ Some c → o q j ≡ source z o l c.place
  pub rest : (j : ℕ) → j < z.cells → HasVersion a j → slice_get (infant_cells l) j ≡ None → o q j ≡ None
  pub listed : (j : ℕ) → j < length (infant_cells l) → HasAfter a j → f q j ≡ true
  pub unlisted : HasCount a → (j : ℕ) → f q j ≡ true → (j < length (infant_cells l)) × HasAfter a j

-- what a seat that rebalances knows of the cells
pub record Builds (z : Sizes) (r : Row) (h : History) (o : Origins) (f : Listed) (a : Activity) (l : Local) : Type 0 where
  pub gathering : IsGathering a → Gathering z r h o a l
  pub gathered : IsGathering a → All (IsGathered h (source z o l)) l.rebalance.gathered
  pub collected : HasPlanned (nursing_of a) → All (IsGathered h (source z o l)) l.rebalance.gathered
  pub kept : HasPlanned (nursing_of a) → All (IsGathered h (source z o l)) l.rebalance.kept
  pub holds : HasPlanned (nursing_of a) → HoldsGroup z h o l
  pub whole : (i q : ℕ) → IsWhole (nursing_of a) l i → slice_get l.rebalance.taken i ≡ Some q → Copied z h o f (Activity.Rebalance (Rebalance.Replace Replace.Start)) (at_infant i l) q
  pub words : IsWriting (nursing_of a) → Copied z h o f a l (infant l)
