-- The events that write a new row while the local stays as it was: what each asks for, and how the
-- row is written on by it.
use Rattle.std.proofs.Common.{arith, ◌≡◌, ◌∙◌, ◌+◌, ◌<◌, ◌≤◌, ℕ, Bool, true, false, nat_lt, if◌then◌else◌, refl, sym, ap, length}
use Rattle.std.proofs.lemmas.Bool.Decides.{nat_tests}
use Rattle.kw_words.specs.declared.kind.Kind.TheVariants as kind
use Rattle.kw_words.specs.declared.layout.Name.{Name}
use Rattle.kw_words.specs.declared.sizes.TheConstants.{CELLS, SEATS}
use Rattle.kw_world.specs.declared.activity.Activity.TheVariants as Activity
use Rattle.kw_world.specs.declared.activity.rebalance.Rebalance.TheVariants as Rebalance
use Rattle.kw_world.specs.declared.activity.rebalance.replace.Replace.TheVariants as Replace
use Rattle.kw_world.specs.declared.activity.rebalance.write.Write.{Write}
use Rattle.kw_world.specs.declared.event.Choice.TheVariants.{Go}
use Rattle.kw_world.specs.declared.local.Local.{Local}
use Rattle.kw_world.specs.declared.operation.Action.TheVariants.{Store}
use Rattle.kw_world.specs.SeekTransitions.{at_infant, has_more}
use Rattle.kw_world.specs.Sizes.{product}
use Rattle.kw_world.specs.Table.{transition}
use Rattle.kw_world.specs.Transition.{Outcome, to}
use Rattle.kw_world.specs.WriteTransitions.{infant_cells, row_written, to_write_after, to_write_cell}
use Rattle.kw_table.specs.declared.pass.Pass.{Pass}
use Rattle.kw_table.specs.declared.shared.Shared.{Shared}
use Rattle.kw_table.specs.Passes.{view, operation, Asks, Makes}
use Rattle.kw_follow.specs.BuildsOn.{IsBuildingOn, at_cell, at_entry, writing}
use Rattle.kw_follow.specs.Following.{Follows}
use Rattle.kw_follow.specs.Reaching.{Advances}
use Rattle.kw_follow.proofs.PutEvents.{asks_stored_at}
use Rattle.kw_follow.proofs.Advancing.{advances_by}
use Rattle.kw_follow.proofs.Reaching.{advances_trans}

-- a store is the operation that the pass makes next, with the name and the word that code has
pub asks_word : {s : Shared} {p : Pass} (l : Local) (w : Write) {n m : Name} {x y : ℕ} → Follows s p (writing w l) → n ≡ m → x ≡ y → operation kind.StoreInfant m (Store y) ≡ (transition product (Activity.Rebalance (Rebalance.Write w)) (view p).number Go (writing w l)).operation → Asks s p Go (operation kind.StoreInfant n (Store x))
asks_word {s} {p} l w {n} {m} {x} {y} f name word line = asks_stored_at s p (writing w l) (Activity.Rebalance (Rebalance.Write w)) kind.StoreInfant n m x y f refl tt name word line

-- the row is written on by one word
pub wrote : {s : Shared} {o p q : Pass} {told : ℕ} (l m : Local) (w : Write) → Advances s o p (writing w l) → Makes s p Go told q → m ≡ ((transition product (Activity.Rebalance (Rebalance.Write w)) 0 Go (writing w l)).next s.opening.rows told).local → Advances s o q m
wrote l m w b makes line = advances_trans b (advances_by (Activity.Rebalance (Rebalance.Write w)) (writing w l) m b.follows refl tt makes line)

-- Which word comes next.

-- the entry of a seat
pub entry_next : (i : ℕ) (l : Local) → i < SEATS → at_entry i l ≡ writing (Write.Entry i) l
entry_next i l below =
    let is : nat_lt i product.seats ≡ true = grind (arith, nat_tests) in
    ap (λ (b : Bool). let x : Outcome = if b then to (Activity.Rebalance (Rebalance.Write (Write.Entry i))) l else to_write_cell product 0 l in x.local) is

-- after all entries the cells
pub entries_over : (i : ℕ) (l : Local) → SEATS ≤ i → at_entry i l ≡ at_cell 0 l
entries_over i l over =
    let is : nat_lt i product.seats ≡ false = grind (arith, nat_tests) in
    ap (λ (b : Bool). let x : Outcome = if b then to (Activity.Rebalance (Rebalance.Write (Write.Entry i))) l else to_write_cell product 0 l in x.local) is

-- what stands at a place, by both tests
place_next : (j : ℕ) (l : Local) (b : Bool) → j < CELLS → nat_lt j (length (infant_cells l)) ≡ b → at_cell j l ≡ (let x : Outcome = if b then to (Activity.Rebalance (Rebalance.Write (Write.Key j))) l else to (Activity.Rebalance (Rebalance.Write (Write.Version j))) l in x.local)
place_next j l b below is =
    let within : nat_lt j product.cells ≡ true = grind (arith, nat_tests) in
    ap (λ (c : Bool). let x : Outcome = if c then (if nat_lt j (length (infant_cells l)) then to (Activity.Rebalance (Rebalance.Write (Write.Key j))) l else to (Activity.Rebalance (Rebalance.Write (Write.Version j))) l) else row_written l in x.local) within
    ∙ ap (λ (c : Bool). let x : Outcome = if c then to (Activity.Rebalance (Rebalance.Write (Write.Key j))) l else to (Activity.Rebalance (Rebalance.Write (Write.Version j))) l in x.local) is

-- a cell of the row
pub cell_next : (j : ℕ) (l : Local) → j < CELLS → j < length (infant_cells l) → at_cell j l ≡ writing (Write.Key j) l
cell_next j l below within = place_next j l true below (grind (arith, nat_tests))

-- a place behind them
pub behind_next : (j : ℕ) (l : Local) → j < CELLS → length (infant_cells l) ≤ j → at_cell j l ≡ writing (Write.Version j) l
behind_next j l below over = place_next j l false below (grind (arith, nat_tests))

-- behind the version at a place: the link after the cell, and behind the cells the next place
version_next : (j : ℕ) (l : Local) (b : Bool) → nat_lt j (length (infant_cells l)) ≡ b → (to_write_after product j l).local ≡ (let x : Outcome = if b then to (Activity.Rebalance (Rebalance.Write (Write.After j))) l else to_write_cell product (j + 1) l in x.local)
version_next j l b is = ap (λ (c : Bool). let x : Outcome = if c then to (Activity.Rebalance (Rebalance.Write (Write.After j))) l else to_write_cell product (j + 1) l in x.local) is

-- The end of the row.

-- where the seat stands once all of it is written
pub record Ends (l m : Local) : Type 0 where
  pub stands : IsBuildingOn m.activity
  pub tidies : m.tidies ≡ l.tidies

pub row_over : (l : Local) → Ends l (at_cell CELLS l)
row_over l = over (has_more l)
  where
    over : (b : Bool) → Ends l (let x : Outcome = if b then to (Activity.Rebalance (Rebalance.Write Write.Count)) (at_infant (l.rebalance.at + 1) l) else to (Activity.Rebalance (Rebalance.Replace Replace.Start)) l in x.local)
    over true = record { stands = tt; tidies = refl }
    over false = record { stands = tt; tidies = refl }

-- The words of one place, one after the other.

module _ {s : Shared} {o p q : Pass} {told : ℕ} (l : Local) (j : ℕ) where
  pub key_written : Advances s o p (writing (Write.Key j) l) → Makes s p Go told q → Advances s o q (writing (Write.Value j) l)
  key_written b made = wrote l (writing (Write.Value j) l) (Write.Key j) b made refl

  pub value_written : Advances s o p (writing (Write.Value j) l) → Makes s p Go told q → Advances s o q (writing (Write.Version j) l)
  value_written b made = wrote l (writing (Write.Version j) l) (Write.Value j) b made refl

  pub version_written : j < length (infant_cells l) → Advances s o p (writing (Write.Version j) l) → Makes s p Go told q → Advances s o q (writing (Write.After j) l)
  version_written within b made = wrote l (writing (Write.After j) l) (Write.Version j) b made (sym (version_next j l true (grind (arith, nat_tests))))

  pub none_written : length (infant_cells l) ≤ j → Advances s o p (writing (Write.Version j) l) → Makes s p Go told q → Advances s o q (at_cell (j + 1) l)
  none_written past b made = wrote l (at_cell (j + 1) l) (Write.Version j) b made (sym (version_next j l false (grind (arith, nat_tests))))

  pub link_written : Advances s o p (writing (Write.After j) l) → Makes s p Go told q → Advances s o q (at_cell (j + 1) l)
  link_written b made = wrote l (at_cell (j + 1) l) (Write.After j) b made refl
