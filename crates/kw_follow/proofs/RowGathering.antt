-- The events that gather a row of a group along its list, by a cursor: what follows from each.
use Rattle.std.proofs.Common.{arith, ◌≡◌, ◌∙◌, ◌+◌, ℕ, ◌≤◌, Bool, true, false, Option, Some, None, unwrap_or, nat_lt, if◌then◌else◌, List, refl, sym, ap, subst, length}
use Rattle.kw_words.specs.Plain.{cell_of_link_word, key_of_word, value_of_word, version_of_word}
use Rattle.kw_words.specs.declared.sizes.TheConstants.{CELLS}
use Rattle.kw_cells.specs.declared.cell.Cell.{Cell}
use Rattle.kw_cells.specs.declared.limits.TheConstants.{MOST_GATHERED, MOST_NEEDED}
use Rattle.kw_cells.specs.InOrder.{with_cell}
use Rattle.kw_world.specs.declared.activity.Activity.{Activity}
use Rattle.kw_world.specs.declared.activity.rebalance.Rebalance.TheVariants as Rebalance
use Rattle.kw_world.specs.declared.activity.rebalance.gather.Gather.TheVariants as Gather
use Rattle.kw_world.specs.declared.event.Choice.TheVariants.{Go}
use Rattle.kw_world.specs.declared.event.StepDone.{StepDone}
use Rattle.kw_world.specs.declared.local.Local.{Local}
use Rattle.kw_world.specs.declared.marks.Mark.{Mark}
use Rattle.kw_world.specs.Marks.{least_mark}
use Rattle.kw_world.specs.Sizes.{product}
use Rattle.kw_world.specs.declared.rebalance.Rebalancing.{Rebalancing}
use Rattle.kw_world.specs.GroupPlaces.{base, is_second, place_in_group}
use Rattle.kw_world.specs.TakeTransitions.{keeping, leaving_over, left_of, row_gathered, take_reached}
use Rattle.kw_world.specs.Transition.{Outcome, outcome, to}
use Rattle.kw_table.specs.declared.pass.Pass.{Pass}
use Rattle.kw_table.specs.declared.shared.Shared.{Shared}
use Rattle.kw_table.specs.Passes.{Makes}
use Rattle.kw_follow.specs.declared.cursor.Cursor.{Cursor}
use Rattle.kw_follow.specs.declared.row_gathering.Hand.{Hand}
use Rattle.kw_follow.specs.BuildsOn.{IsHand, forgetting_mark, group_cell, past_list, taking_at}
use Rattle.kw_follow.specs.Cursors.{cell_at, past, reached, with_cursor}
use Rattle.kw_follow.specs.Following.{Follows}
use Rattle.kw_follow.specs.Reaching.{Advances}
use Rattle.kw_follow.proofs.BuildEvents.{needed_few}
use Rattle.kw_follow.proofs.OneEvent.{follows_ranges, follows_room}
use Rattle.kw_follow.proofs.RowWriting.{Ends}
use Rattle.kw_follow.proofs.Advancing.{advances_by}

-- these cells are gathered
abbrev pub with_gathered : List Cell → Local → Local
with_gathered cells l = record l { rebalance = record l.rebalance { gathered = cells } }

-- what the code that goes on after the list may count on
pub record HasPlace (l : Local) : Type 0 where
  pub walked : l.walked ≤ CELLS
  pub gathered : length l.rebalance.gathered ≤ MOST_GATHERED
  pub needed : length l.rebalance.needed ≤ MOST_NEEDED

module _ {s : Shared} {p : Pass} (l : Local) (w : Cursor) (f : Follows s p (taking_at Gather.Link w l)) where
  pub has_place : HasPlace (taking_at Gather.Link w l)
  has_place = record {
    walked = (follows_ranges s p (taking_at Gather.Link w l) f).walked;
    gathered = (follows_room s p (taking_at Gather.Link w l) f).rebalance.gathered;
    needed = needed_few s p (taking_at Gather.Link w l) f (Activity.Rebalance (Rebalance.Gather Gather.Link)) refl refl;
  }

module _ {s : Shared} {p q : Pass} {told : ℕ} (l : Local) (w : Cursor) where
  -- the link led to a cell
  pub link_reached : (x : Cursor) (m : Local) (cell : ℕ) → x ≡ reached cell w → m ≡ forgetting_mark cell l → cell_of_link_word told ≡ Some cell → Follows s p (taking_at Gather.Link w l) → Makes s p Go told q → Advances s p q (taking_at Gather.Key x m)
  link_reached x m cell is left leads f makes =
      advances_by (Activity.Rebalance (Rebalance.Gather Gather.Link)) (taking_at Gather.Link w l) (taking_at Gather.Key x m) f refl tt makes
      (ap (λ (y : Cursor). taking_at Gather.Key y m) is
      ∙ (ap (λ (k : Local). taking_at Gather.Key (reached cell w) k) left
      ∙ ap (λ (c : Option ℕ). (take_reached product c (taking_at Gather.Link w l)).local) (sym leads)))

  -- it led to none: the seat goes on to what comes after the list
  pub list_over : (k m : Local) (done : StepDone) → k ≡ taking_at Gather.Link w l → outcome m done ≡ take_reached product (cell_of_link_word told) k → Follows s p (taking_at Gather.Link w l) → Makes s p Go told q → Advances s p q m
  list_over k m done written line f makes =
      advances_by (Activity.Rebalance (Rebalance.Gather Gather.Link)) (taking_at Gather.Link w l) m f refl tt makes
      (ap (λ (x : Outcome). x.local) line ∙ ap (λ (n : Local). (take_reached product (cell_of_link_word told) n).local) written)

  -- the key of the cell was told
  pub key_told : (x : Cursor) (key : ℕ) → x ≡ record w { key = key } → key ≡ key_of_word told → Follows s p (taking_at Gather.Key w l) → Makes s p Go told q → Advances s p q (taking_at Gather.Version x l)
  key_told x key is keyed f makes =
      advances_by (Activity.Rebalance (Rebalance.Gather Gather.Key)) (taking_at Gather.Key w l) (taking_at Gather.Version x l) f refl tt makes
      (ap (λ (y : Cursor). taking_at Gather.Version y l) is ∙ ap (λ n. taking_at Gather.Version (record w { key = n }) l) keyed)

  -- its version was told
  pub version_told : (x : Cursor) → x ≡ record w { version = unwrap_or (version_of_word told) 1 } → Follows s p (taking_at Gather.Version w l) → Makes s p Go told q → Advances s p q (taking_at Gather.Value x l)
  version_told x is f makes = advances_by (Activity.Rebalance (Rebalance.Gather Gather.Version)) (taking_at Gather.Version w l) (taking_at Gather.Value x l) f refl tt makes (ap (λ (y : Cursor). taking_at Gather.Value y l) is)

  -- its value was told: the cell is gathered, and gone by
  pub value_told : (x : Cursor) (cells : List Cell) → x ≡ past w → cells ≡ (keeping product (value_of_word told) (taking_at Gather.Value w l)).rebalance.gathered → Follows s p (taking_at Gather.Value w l) → Makes s p Go told q → Advances s p q (taking_at Gather.Link x (with_gathered cells l))
  value_told x cells is kept f makes =
      advances_by (Activity.Rebalance (Rebalance.Gather Gather.Value)) (taking_at Gather.Value w l) (taking_at Gather.Link x (with_gathered cells l)) f refl tt makes
      (ap (λ (y : Cursor). taking_at Gather.Link y (with_gathered cells l)) is ∙ ap (λ (cs : List Cell). taking_at Gather.Link (past w) (with_gathered cs l)) kept)

-- the places of the row at hand begin at one of the first of two rows
base_by : (b : Bool) → (if b then product.cells else 0) ≤ CELLS
base_by true = omega arith
base_by false = omega arith

pub base_few : (b : Rebalancing) → base product b ≤ CELLS
base_few b = base_by (is_second b)

-- the cell at hand has its place in the group by where those of its row begin
pub in_hand : {cell : Cell} {h : Hand} (l : Local) (w : Cursor) (value : Option ℕ) → IsHand h l.rebalance → cell ≡ record (cell_at w value) { place = h.base + w.place } → cell ≡ group_cell w value l
in_hand l w value hand is = is ∙ ap (λ n. record (cell_at w value) { place = n + w.place }) hand.base

-- the cell at hand is the one that is gathered
pub cell_kept : {cells : List Cell} {cell : Cell} {value : Option ℕ} (l : Local) (w : Cursor) → cell ≡ group_cell w value l → cells ≡ (if nat_lt (length l.rebalance.gathered) MOST_GATHERED then with_cell cell l.rebalance.gathered else l.rebalance.gathered) → cells ≡ (keeping product value (taking_at Gather.Value w l)).rebalance.gathered
cell_kept {cells} {cell} {value} l w is put = put ∙ ap (λ (c : Cell). if nat_lt (length l.rebalance.gathered) MOST_GATHERED then with_cell c l.rebalance.gathered else l.rebalance.gathered) is

-- where the seat stands once the list is over
row_ends : (ahead : Option ℕ) (l : Local) → Ends l (row_gathered product ahead l).local
row_ends (Some r) l = record { stands = tt; tidies = refl }
row_ends None l = record { stands = tt; tidies = refl }

left_ends : (x : Option Mark) (l : Local) → Ends l (left_of product x l).local
left_ends (Some m) l = which (nat_lt m.cell (place_in_group product l.rebalance product.cells))
  where
    which : (b : Bool) → Ends l (let x : Outcome = if b then to (Activity.Rebalance (Rebalance.Gather Gather.LeftOverKey)) (leaving_over product m l) else row_gathered product l.rebalance.ahead l in x).local
    which true = record { stands = tt; tidies = refl }
    which false = row_ends l.rebalance.ahead l
left_ends None l = row_ends l.rebalance.ahead l

pub past_list_ends : (w : Cursor) (l : Local) → Ends l (past_list w l)
past_list_ends w l = let e = left_ends (least_mark l.rebalance.marks) (taking_at Gather.Link w l) in record { stands = e.stands; tidies = e.tidies }

-- the local that code then has is the one past the list
pub list_left : (l : Local) (w : Cursor) (k m : Local) (done : StepDone) (cell : Option ℕ) → cell ≡ None → outcome m done ≡ take_reached product cell k → k ≡ taking_at Gather.Link w l → m ≡ past_list w l
list_left l w k m done cell none line written =
    ap (λ (x : Outcome). x.local) line
    ∙ (ap (λ (c : Option ℕ). (take_reached product c k).local) none
    ∙ ap (λ (n : Local). (take_reached product None n).local) written)

-- the walk begins with the cursor that the local has
pub begins_gathering : {s : Shared} {p : Pass} (w : Cursor) (l : Local) → with_cursor l.activity w l ≡ l → l.activity ≡ Activity.Rebalance (Rebalance.Gather Gather.Link) → Follows s p l → Follows s p (taking_at Gather.Link w l)
begins_gathering {s} {p} w l is at f = subst (λ (a : Activity). Follows s p (with_cursor a w l)) at (subst (Follows s p) (sym is) f)
