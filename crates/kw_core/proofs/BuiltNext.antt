-- What each event by which new rows are taken, written, linked and made normal leaves of what its
-- seat knows: its call, with what readers gather and the pairs of scans, and, as long as it is at
-- such events, its group with all that is gathered of it.
use Rattle.std.proofs.Common.{ℕ, ◌≡◌, ◌⊎◌, inl, inr, Bool, true, false, Option, List, refl, sym, ◌∙◌, ap}
use Rattle.kw_model.specs.declared.call.Call.{Call}
use Rattle.kw_cells.specs.declared.cell.Cell.{Cell}
use Rattle.kw_world.specs.declared.activity.Activity.{Activity}
use Rattle.kw_world.specs.declared.activity.rebalance.engage.Engage.TheVariants as Engage
use Rattle.kw_world.specs.declared.activity.rebalance.Rebalance.TheVariants as Rebalance
use Rattle.kw_world.specs.declared.answer.Answer.TheVariants.{Done, NoRows}
use Rattle.kw_world.specs.declared.event.Choice.{Choice}
use Rattle.kw_world.specs.declared.local.Local.{Local}
use Rattle.kw_world.specs.declared.marks.Mark.{Mark}
use Rattle.kw_world.specs.declared.rebalance.Afterwards.{Afterwards}
use Rattle.kw_world.specs.SeekTransitions.{seeking, with_row}
use Rattle.kw_world.specs.Sizes.{Sizes}
use Rattle.kw_core.specs.Stages.{IsBalancing, IsDone}
use Rattle.kw_core.specs.Words.{Words}
use Rattle.kw_core.proofs.NextBuilt.{GivenBack, tries_again, was_done, is_refused_rows, was_served, moves_left, NextBack, gives_back, has_none, NextSeek, asks, has_asked, NextPass, looks_on, has_looked, NextTaken, wants_more, has_enough, NextNewRow, writes_row, has_written, NextNewCell, fills, empties, has_cells, NextNewEntry, writes_idle, has_entries, NextBefore, is_first, is_behind}
use Rattle.kw_core.proofs.Building.{Building, IsBuilding, first_is_free, first_is_taken, sought_is_free, sought_is_taken, first_is_retired, sought_is_retired, pass_is_old, pass_is_young, frees_row, takes_row, loses_row, gives_one_back, gives_last_back, writes_count, writes_least, writes_link, writes_first, writes_entry, writes_key, writes_value, writes_version, writes_no_cell, writes_after, begins_before, guesses_before, guess_before_fails, before_serves, before_is_above, takes_head_before, leads_to_full, leads_on_marked, leads_to_other, leads_nowhere, walks_before, walks_past, replaces_row, is_marked_before, is_replaced, makes_normal, makes_last_normal, draws_number, retires_ahead, retires_row, retires_and_leaves}

-- such an event follows, or the put tries again, is refused for want of rows, was done before, or
-- rebalances another row
abbrev pub IsAfterBuilding : Activity → Type 0
IsAfterBuilding Activity.Retry = Unit {0}
IsAfterBuilding (Activity.Leave NoRows) = Unit {0}
IsAfterBuilding (Activity.Leave Done) = Unit {0}
IsAfterBuilding (Activity.Rebalance (Rebalance.Engage Engage.Clock)) = Unit {0}
IsAfterBuilding a = IsBuilding a

-- the call goes on
pub record BuiltGoes (l k : Local) : Type 0 where
  pub call : k.call ≡ l.call
  pub number : k.number ≡ l.number
  pub epoch : k.epoch ≡ l.epoch
  pub gathered : k.gathered ≡ l.gathered
  pub pairs : k.pairs ≡ l.pairs
  pub next : IsAfterBuilding k.activity
  pub tidies : k.tidies ≡ l.tidies
  pub goes : l.tidies ≡ true → IsBalancing k.activity ⊎ IsDone k.activity
  pub done : IsDone k.activity → l.tidies ≡ true

-- the full row is the same, and what was gathered and planned of it
pub record BuiltKeeps (l k : Local) : Type 0 where
  pub row : k.row ≡ l.row
  pub lower : k.lower ≡ l.lower
  pub after : k.rebalance.after ≡ l.rebalance.after
  pub second : k.rebalance.second ≡ l.rebalance.second
  pub marks : k.rebalance.marks ≡ l.rebalance.marks
  pub needed : k.rebalance.needed ≡ l.rebalance.needed
  pub gathered : k.rebalance.gathered ≡ l.rebalance.gathered
  pub kept : k.rebalance.kept ≡ l.rebalance.kept
  pub starts : k.rebalance.starts ≡ l.rebalance.starts

-- The same as one equation each.

record Called : Type 0 where
  call : Option Call
  number : ℕ
  epoch : ℕ
  gathered : List Cell
  pairs : List (ℕ × ℕ)
  tidies : Bool

record Planned : Type 0 where
  row : ℕ
  lower : ℕ
  after : Option ℕ
  second : Option ℕ
  marks : List Mark
  needed : List ℕ
  gathered : List Cell
  kept : List Cell
  starts : List ℕ

abbrev called : Local → Called
called l = record { call = l.call; number = l.number; epoch = l.epoch; gathered = l.gathered; pairs = l.pairs; tidies = l.tidies }

abbrev planned : Local → Planned
planned l = record {
  row = l.row;
  lower = l.lower;
  after = l.rebalance.after;
  second = l.rebalance.second;
  marks = l.rebalance.marks;
  needed = l.rebalance.needed;
  gathered = l.rebalance.gathered;
  kept = l.rebalance.kept;
  starts = l.rebalance.starts;
}

record Follows (before : Called) (row : Planned) (k : Local) : Type 0 where
  call : called k ≡ before
  plan : IsBuilding k.activity → planned k ≡ row
  next : IsAfterBuilding k.activity
  -- a seat that tidies goes on until its put is done, as no other one is
  goes : before.tidies ≡ true → IsBalancing k.activity ⊎ IsDone k.activity
  done : IsDone k.activity → before.tidies ≡ true

-- what follows where no event stands between
given_follows : (a : Afterwards) (l k : Local) → GivenBack l a k → Follows (called l) (planned l) k
given_follows a l k (tries_again n) = record { call = refl; plan = λ o. absurd o; next = tt; goes = λ t. let x : true ≡ false = sym t ∙ n in cc; done = λ x. absurd x }
given_follows a l k (was_done d) = record { call = refl; plan = λ o. absurd o; next = tt; goes = λ t. inr tt; done = λ x. d }
given_follows a l k (is_refused_rows n) = record { call = refl; plan = λ o. absurd o; next = tt; goes = λ t. let x : true ≡ false = sym t ∙ n in cc; done = λ x. absurd x }
given_follows a l k (was_served d) = record { call = refl; plan = λ o. absurd o; next = tt; goes = λ t. inr tt; done = λ x. d }
given_follows a l k moves_left = record { call = refl; plan = λ o. absurd o; next = tt; goes = λ t. inl tt; done = λ x. absurd x }

back_follows : (a : Afterwards) (l k : Local) → NextBack a l k → Follows (called l) (planned l) k
back_follows a l k (gives_back o) = record { call = refl; plan = λ o. refl; next = tt; goes = λ t. inl tt; done = λ x. absurd x }
back_follows a l k (has_none next e n) = given_follows a l next n

seek_follows : (rows : ℕ) (l k : Local) → NextSeek rows l k → Follows (called l) (planned l) k
seek_follows rows l k (asks o) = record { call = refl; plan = λ o. refl; next = tt; goes = λ t. inl tt; done = λ x. absurd x }
seek_follows rows l k (has_asked next o n) = back_follows _ l next n

pass_follows : (z : Sizes) (i : ℕ) (l k : Local) → NextPass z i l k → Follows (called l) (planned l) k
pass_follows z i l k (looks_on o) = record { call = refl; plan = λ o. refl; next = tt; goes = λ t. inl tt; done = λ x. absurd x }
pass_follows z i l k (has_looked o) = record { call = refl; plan = λ o. refl; next = tt; goes = λ t. inl tt; done = λ x. absurd x }

taken_follows : (rows : ℕ) (l k : Local) → NextTaken rows l k → Follows (called l) (planned l) k
taken_follows rows l k (wants_more next o n) = seek_follows rows l next n
taken_follows rows l k (has_enough o) = record { call = refl; plan = λ o. refl; next = tt; goes = λ t. inl tt; done = λ x. absurd x }

row_follows : (l k : Local) → NextNewRow l k → Follows (called l) (planned l) k
row_follows l k (writes_row o) = record { call = refl; plan = λ o. refl; next = tt; goes = λ t. inl tt; done = λ x. absurd x }
row_follows l k (has_written o) = record { call = refl; plan = λ o. refl; next = tt; goes = λ t. inl tt; done = λ x. absurd x }

cell_follows : (z : Sizes) (j : ℕ) (l k : Local) → NextNewCell z j l k → Follows (called l) (planned l) k
cell_follows z j l k (fills o m) = record { call = refl; plan = λ o. refl; next = tt; goes = λ t. inl tt; done = λ x. absurd x }
cell_follows z j l k (empties o m) = record { call = refl; plan = λ o. refl; next = tt; goes = λ t. inl tt; done = λ x. absurd x }
cell_follows z j l k (has_cells next o n) = row_follows l next n

entry_follows : (z : Sizes) (i : ℕ) (l k : Local) → NextNewEntry z i l k → Follows (called l) (planned l) k
entry_follows z i l k (writes_idle o) = record { call = refl; plan = λ o. refl; next = tt; goes = λ t. inl tt; done = λ x. absurd x }
entry_follows z i l k (has_entries next o n) = cell_follows z 0 l next n

before_follows : (r : ℕ) (l k : Local) → NextBefore r l k → Follows (called l) (planned l) k
before_follows r l k (is_first e) = record { call = refl; plan = λ o. refl; next = tt; goes = λ t. inl tt; done = λ x. absurd x }
before_follows r l k (is_behind d) = record { call = refl; plan = λ o. refl; next = tt; goes = λ t. inl tt; done = λ x. absurd x }

module _ (z : Sizes) (v : Words) (choice : Choice) (l : Local) where
  follows : (a : Activity) (k : Local) → Building z v choice l a k → Follows (called l) (planned l) k
  follows a k (first_is_free q c e) = record { call = refl; plan = λ o. refl; next = tt; goes = λ t. inl tt; done = λ x. absurd x }
  follows a k (first_is_taken q rows next c d n) = seek_follows rows (seeking q l) next n
  follows a k (sought_is_free e) = record { call = refl; plan = λ o. refl; next = tt; goes = λ t. inl tt; done = λ x. absurd x }
  follows a k (sought_is_taken rows next d n) = seek_follows rows l next n
  follows a k (first_is_retired q m c e) = record { call = refl; plan = λ o. refl; next = tt; goes = λ t. inl tt; done = λ x. absurd x }
  follows a k (sought_is_retired m e) = record { call = refl; plan = λ o. refl; next = tt; goes = λ t. inl tt; done = λ x. absurd x }
  follows a k (pass_is_old i epoch rows next e o n) = seek_follows rows l next n
  follows a k (pass_is_young i next y n) = pass_follows z _ l next n
  follows a k frees_row = record { call = refl; plan = λ o. refl; next = tt; goes = λ t. inl tt; done = λ x. absurd x }
  follows a k (takes_row rows next e n) = taken_follows rows (with_row l) next n
  follows a k (loses_row rows next d n) = seek_follows rows l next n
  follows a k (gives_one_back o) = record { call = refl; plan = λ o. refl; next = tt; goes = λ t. inl tt; done = λ x. absurd x }
  follows a k (gives_last_back next o n) = given_follows _ l next n
  follows a k writes_count = record { call = refl; plan = λ o. refl; next = tt; goes = λ t. inl tt; done = λ x. absurd x }
  follows a k writes_least = record { call = refl; plan = λ o. refl; next = tt; goes = λ t. inl tt; done = λ x. absurd x }
  follows a k writes_link = record { call = refl; plan = λ o. refl; next = tt; goes = λ t. inl tt; done = λ x. absurd x }
  follows a k (writes_first next n) = entry_follows z 0 l next n
  follows a k (writes_entry i next n) = entry_follows z _ l next n
  follows a k (writes_key j) = record { call = refl; plan = λ o. refl; next = tt; goes = λ t. inl tt; done = λ x. absurd x }
  follows a k (writes_value j) = record { call = refl; plan = λ o. refl; next = tt; goes = λ t. inl tt; done = λ x. absurd x }
  follows a k (writes_version j o) = record { call = refl; plan = λ o. refl; next = tt; goes = λ t. inl tt; done = λ x. absurd x }
  follows a k (writes_no_cell j next o n) = cell_follows z _ l next n
  follows a k (writes_after j next n) = cell_follows z _ l next n
  follows a k (begins_before next n) = before_follows _ l next n
  follows a k (guesses_before q c e) = record { call = refl; plan = λ o. refl; next = tt; goes = λ t. inl tt; done = λ x. absurd x }
  follows a k guess_before_fails = record { call = refl; plan = λ o. refl; next = tt; goes = λ t. inl tt; done = λ x. absurd x }
  follows a k (before_serves o) = record { call = refl; plan = λ o. refl; next = tt; goes = λ t. inl tt; done = λ x. absurd x }
  follows a k (before_is_above o) = record { call = refl; plan = λ o. refl; next = tt; goes = λ t. inl tt; done = λ x. absurd x }
  follows a k (takes_head_before next n) = before_follows _ l next n
  follows a k (leads_to_full e) = record { call = refl; plan = λ o. refl; next = tt; goes = λ t. inl tt; done = λ x. absurd x }
  follows a k (leads_on_marked next e n) = back_follows _ l next n
  follows a k (leads_to_other q e d) = record { call = refl; plan = λ o. refl; next = tt; goes = λ t. inl tt; done = λ x. absurd x }
  follows a k (leads_nowhere next e n) = back_follows _ l next n
  follows a k (walks_before o) = record { call = refl; plan = λ o. refl; next = tt; goes = λ t. inl tt; done = λ x. absurd x }
  follows a k (walks_past next o n) = back_follows _ l next n
  follows a k (replaces_row e) = record { call = refl; plan = λ o. refl; next = tt; goes = λ t. inl tt; done = λ x. absurd x }
  follows a k (is_marked_before next e n) = back_follows _ l next n
  follows a k (is_replaced next d n) = back_follows _ l next n
  follows a k (makes_normal o) = record { call = refl; plan = λ o. refl; next = tt; goes = λ t. inl tt; done = λ x. absurd x }
  follows a k (makes_last_normal o) = record { call = refl; plan = λ o. refl; next = tt; goes = λ t. inl tt; done = λ x. absurd x }
  follows a k draws_number = record { call = refl; plan = λ o. refl; next = tt; goes = λ t. inl tt; done = λ x. absurd x }
  follows a k (retires_ahead r e) = record { call = refl; plan = λ o. refl; next = tt; goes = λ t. inl tt; done = λ x. absurd x }
  follows a k (retires_row m n) = record { call = refl; plan = λ o. absurd o; next = tt; goes = λ t. let x : true ≡ false = sym t ∙ n in cc; done = λ x. absurd x }
  follows a k (retires_and_leaves m d) = record { call = refl; plan = λ o. absurd o; next = tt; goes = λ t. inr tt; done = λ x. d }

  -- the call goes on
  pub built_goes : (a : Activity) (k : Local) → Building z v choice l a k → BuiltGoes l k
  built_goes a k b =
      let f = follows a k b in
      record {
        call = ap (λ (x : Called). x.call) f.call;
        number = ap (λ (x : Called). x.number) f.call;
        epoch = ap (λ (x : Called). x.epoch) f.call;
        gathered = ap (λ (x : Called). x.gathered) f.call;
        pairs = ap (λ (x : Called). x.pairs) f.call;
        next = f.next;
        tidies = ap (λ (x : Called). x.tidies) f.call;
        goes = f.goes;
        done = f.done;
      }

  -- the seat builds on, or its put tries again, is refused, or rebalances another row
  pub built_next : (a : Activity) (k : Local) → Building z v choice l a k → IsAfterBuilding k.activity
  built_next a k b = (follows a k b).next

  -- as long as it builds, it does so for the same row and by the same plan
  pub built_keeps : (a : Activity) (k : Local) → Building z v choice l a k → IsBuilding k.activity → BuiltKeeps l k
  built_keeps a k b o =
      let e = (follows a k b).plan o in
      record {
        row = ap (λ (x : Planned). x.row) e;
        lower = ap (λ (x : Planned). x.lower) e;
        after = ap (λ (x : Planned). x.after) e;
        second = ap (λ (x : Planned). x.second) e;
        marks = ap (λ (x : Planned). x.marks) e;
        needed = ap (λ (x : Planned). x.needed) e;
        gathered = ap (λ (x : Planned). x.gathered) e;
        kept = ap (λ (x : Planned). x.kept) e;
        starts = ap (λ (x : Planned). x.starts) e;
      }
