-- A seat that takes new rows asks rows of the table alone, and no more than all.
use Rattle.std.proofs.Common.{ℕ, ◌≡◌, ◌+◌, ◌<◌, ◌==◌, Bool, true, false, nat_lt, nat_le, if◌then◌else◌, Option, Some, None, arith, refl, sym, subst}
use Rattle.std.proofs.lemmas.Bool.Decides.{nat_tests}
use Rattle.kw_words.specs.declared.layout.Name.TheVariants as name
use Rattle.kw_words.specs.declared.state.State.{State}
use Rattle.kw_words.specs.declared.state.State.TheVariants.{Free, Infant, Normal, Leader, Follower, Retired}
use Rattle.kw_words.specs.Plain.{pass_of_word}
use Rattle.kw_words.specs.State.{state_of, state_word}
use Rattle.kw_world.specs.declared.activity.Activity.{Activity}
use Rattle.kw_world.specs.declared.activity.rebalance.Rebalance.TheVariants as Rebalance
use Rattle.kw_world.specs.declared.activity.rebalance.seek.Seek.TheVariants as Seek
use Rattle.kw_world.specs.declared.event.Choice.{Choice}
use Rattle.kw_world.specs.declared.event.Choice.TheVariants.{Begin, Go, Guess, Stop}
use Rattle.kw_world.specs.declared.local.Local.{Local}
use Rattle.kw_world.specs.declared.rebalance.Afterwards.{Afterwards}
use Rattle.kw_world.specs.Sane.{IsOffered, IsTakingRows, IsSane}
use Rattle.kw_world.specs.SeekTransitions.{row_behind, pass_seen, seek_first_transition, seek_seen, take_row, to_pass, to_seek, with_row}
use Rattle.kw_world.specs.Sizes.{Sizes}
use Rattle.kw_world.specs.Step.{word}
use Rattle.kw_world.specs.Transition.{Outcome}
use Rattle.kw_core.specs.Run.{Run}
use Rattle.kw_core.specs.Words.{Words}
use Rattle.kw_core.proofs.Building.{Building, IsBuilding, first_is_free, first_is_taken, sought_is_free, sought_is_taken, first_is_retired, sought_is_retired, pass_is_old, pass_is_young, frees_row, takes_row, loses_row, gives_last_back, writes_first, writes_entry, writes_no_cell, writes_after, begins_before, takes_head_before, leads_on_marked, leads_nowhere, walks_past, is_marked_before, is_replaced, retires_row, building, retires_and_leaves}
use Rattle.kw_core.proofs.Happens.{Happens}
use Rattle.kw_core.proofs.NextBuilt.{GivenBack, tries_again, is_refused_rows, moves_left, NextBack, gives_back, has_none, NextSeek, asks, has_asked, NextPass, looks_on, has_looked, NextTaken, wants_more, has_enough, NextNewRow, writes_row, has_written, NextNewCell, fills, empties, has_cells, NextNewEntry, writes_idle, has_entries, NextBefore, is_first, is_behind, next_pass, next_seek, next_taken, was_done, was_served}
use Rattle.kw_shape.proofs.Known.{IsSoughtIn}

module _ (rows : ℕ) (some : 0 < rows) where
  -- nothing is sought any more
  given_sought : (a : Afterwards) (l k : Local) → GivenBack l a k → IsSoughtIn rows k
  given_sought a l k (tries_again nd) = record { sought = some; asked = omega arith }
  given_sought a l k (was_done dn) = record { sought = some; asked = omega arith }
  given_sought a l k (is_refused_rows nd) = record { sought = some; asked = omega arith }
  given_sought a l k (was_served dn) = record { sought = some; asked = omega arith }
  given_sought a l k moves_left = record { sought = some; asked = omega arith }

  back_sought : (a : Afterwards) (l k : Local) → NextBack a l k → IsSoughtIn rows l → IsSoughtIn rows k
  back_sought a l k (gives_back o) i = assumption i
  back_sought a l k (has_none next o n) i = given_sought a l next n

  -- the next row round the table is one of it
  behind_below : (r : ℕ) → row_behind rows r < rows
  behind_below r = which (nat_lt (r + 1) rows) refl
    where
      which : (b : Bool) → nat_lt (r + 1) rows ≡ b → (if b then r + 1 else 0) < rows
      which true e = grind (arith, nat_tests)
      which false e = some

  seek_sought : (l k : Local) → NextSeek rows l k → IsSoughtIn rows l → IsSoughtIn rows k
  seek_sought l k (asks o) i = record { sought = behind_below l.rebalance.sought; asked = omega (arith, o) }
  seek_sought l k (has_asked next o n) i = back_sought _ l next n i

  pass_sought : (z : Sizes) (j : ℕ) (l k : Local) → NextPass z j l k → IsSoughtIn rows l → IsSoughtIn rows k
  pass_sought z j l k (looks_on o) i = assumption i
  pass_sought z j l k (has_looked o) i = assumption i

  taken_sought : (l k : Local) → NextTaken rows l k → IsSoughtIn rows l → IsSoughtIn rows k
  taken_sought l k (wants_more next o n) i = seek_sought l next n i
  taken_sought l k (has_enough o) i = assumption i

  row_sought : (l k : Local) → NextNewRow l k → IsSoughtIn rows l → IsSoughtIn rows k
  row_sought l k (writes_row o) i = assumption i
  row_sought l k (has_written o) i = assumption i

  cell_sought : (z : Sizes) (j : ℕ) (l k : Local) → NextNewCell z j l k → IsSoughtIn rows l → IsSoughtIn rows k
  cell_sought z j l k (fills o m) i = assumption i
  cell_sought z j l k (empties o m) i = assumption i
  cell_sought z j l k (has_cells next o n) i = row_sought l next n i

  entry_sought : (z : Sizes) (j : ℕ) (l k : Local) → NextNewEntry z j l k → IsSoughtIn rows l → IsSoughtIn rows k
  entry_sought z j l k (writes_idle o) i = assumption i
  entry_sought z j l k (has_entries next o n) i = cell_sought z 0 l next n i

  before_sought : (r : ℕ) (l k : Local) → NextBefore r l k → IsSoughtIn rows l → IsSoughtIn rows k
  before_sought r l k (is_first e) i = assumption i
  before_sought r l k (is_behind d) i = assumption i

  -- an event that seeks no row leaves the one that was asked
  kept_sought : (z : Sizes) (v : Words) (choice : Choice) (l : Local) (a : Activity) (k : Local) → Building z v choice l a k → (IsTakingRows a → ⊥) → IsSoughtIn rows l → IsSoughtIn rows k
  kept_sought z v choice l a k (first_is_free q c e) n i = absurd (n tt)
  kept_sought z v choice l a k (first_is_taken q r next c d y) n i = absurd (n tt)
  kept_sought z v choice l a k (sought_is_free e) n i = absurd (n tt)
  kept_sought z v choice l a k (sought_is_taken r next d y) n i = absurd (n tt)
  kept_sought z v choice l a k (first_is_retired q m c e) n i = absurd (n tt)
  kept_sought z v choice l a k (sought_is_retired m e) n i = absurd (n tt)
  kept_sought z v choice l a k (pass_is_old j epoch r next e o y) n i = absurd (n tt)
  kept_sought z v choice l a k (pass_is_young j next y o) n i = absurd (n tt)
  kept_sought z v choice l a k frees_row n i = absurd (n tt)
  kept_sought z v choice l a k (takes_row r next e y) n i = absurd (n tt)
  kept_sought z v choice l a k (loses_row r next d y) n i = absurd (n tt)
  kept_sought z v choice l a k (gives_last_back next o y) n i = given_sought _ l next y
  kept_sought z v choice l a k (writes_first next y) n i = entry_sought z _ l next y i
  kept_sought z v choice l a k (writes_entry j next y) n i = entry_sought z _ l next y i
  kept_sought z v choice l a k (writes_no_cell j next o y) n i = cell_sought z _ l next y i
  kept_sought z v choice l a k (writes_after j next y) n i = cell_sought z _ l next y i
  kept_sought z v choice l a k (begins_before next y) n i = before_sought _ l next y i
  kept_sought z v choice l a k (takes_head_before next y) n i = before_sought _ l next y i
  kept_sought z v choice l a k (leads_on_marked next e y) n i = back_sought _ l next y i
  kept_sought z v choice l a k (leads_nowhere next e y) n i = back_sought _ l next y i
  kept_sought z v choice l a k (walks_past next o y) n i = back_sought _ l next y i
  kept_sought z v choice l a k (is_marked_before next e y) n i = back_sought _ l next y i
  kept_sought z v choice l a k (is_replaced next d y) n i = back_sought _ l next y i
  kept_sought z v choice l a k (retires_row m nd) n i = record { sought = some; asked = omega arith }
  kept_sought z v choice l a k (retires_and_leaves m dn) n i = record { sought = some; asked = omega arith }
  kept_sought z v choice l a k _ n i = assumption i

  -- a search that sees a state
  seen_sought : (x : Option State) (l : Local) → IsSoughtIn rows l → IsSoughtIn rows (seek_seen rows x l).local
  seen_sought (Some Free) l i = assumption i
  seen_sought (Some (Infant seat)) l i = seek_sought l _ (next_seek rows l) i
  seen_sought (Some Normal) l i = seek_sought l _ (next_seek rows l) i
  seen_sought (Some (Leader count)) l i = seek_sought l _ (next_seek rows l) i
  seen_sought (Some (Follower leader)) l i = seek_sought l _ (next_seek rows l) i
  seen_sought (Some (Retired number)) l i = assumption i
  seen_sought None l i = seek_sought l _ (next_seek rows l) i

  first_sought : (choice : Choice) (l : Local) (w : ℕ) → IsOffered rows choice → IsSoughtIn rows l → IsSoughtIn rows ((seek_first_transition choice l).next rows w).local
  first_sought (Begin call) l w o i = seen_sought (state_of w) l i
  first_sought Go l w o i = seen_sought (state_of w) l i
  first_sought (Guess q) l w o i = seen_sought (state_of w) _ (record { sought = o; asked = i.asked })
  first_sought Stop l w o i = seen_sought (state_of w) l i

  -- one that sees a visit
  passed_sought : (z : Sizes) (j : ℕ) (x : Option ℕ) (l : Local) → IsSoughtIn rows l → IsSoughtIn rows (pass_seen z j rows x l).local
  passed_sought z j (Some epoch) l i = which (nat_le epoch l.rebalance.number)
    where
      which : (b : Bool) → IsSoughtIn rows (let x : Outcome = if b then to_seek rows l else to_pass z (j + 1) l in x).local
      which true = seek_sought l _ (next_seek rows l) i
      which false = pass_sought z (j + 1) l _ (next_pass z (j + 1) l) i
  passed_sought z j None l i = pass_sought z (j + 1) l _ (next_pass z (j + 1) l) i

  -- one that finds its row free, or not
  take_sought : (b : Bool) (l : Local) → IsSoughtIn rows l → IsSoughtIn rows (take_row rows b l).local
  take_sought true l i = taken_sought (with_row l) _ (next_taken rows (with_row l)) (assumption i)
  take_sought false l i = seek_sought l _ (next_seek rows l) i

-- so each event of these does
pub sought_in : {z : Sizes} {r r' : Run} {s : ℕ} {choice : Choice} {l l' : Local} (a : Activity) → IsBuilding a → Happens z r r' s choice l l' a → IsSane z r.world → IsSoughtIn r.world.rows l'
sought_in {z} {r} {r'} {s} {choice} {l} {l'} a b h sane = by a h b
  where
    some : 0 < r.world.rows
    some = omega (arith, sane.sized.some_rows)

    now : IsSoughtIn r.world.rows l
    now = let k = (sane.locals s l h.knows).below.rebalance in record { sought = k.sought; asked = k.asked }

    by : (a : Activity) → Happens z r r' s choice l l' a → IsBuilding a → IsSoughtIn r.world.rows l'
    by (Activity.Rebalance (Rebalance.Seek Seek.First)) h b = subst (IsSoughtIn r.world.rows) (sym h.next) (first_sought r.world.rows some choice l _ h.offers now)
    by (Activity.Rebalance (Rebalance.Seek Seek.Next)) h b = subst (IsSoughtIn r.world.rows) (sym h.next) (seen_sought r.world.rows some (state_of (word z r.world (name.State l.rebalance.sought))) l now)
    by (Activity.Rebalance (Rebalance.Seek (Seek.Pass i))) h b = subst (IsSoughtIn r.world.rows) (sym h.next) (passed_sought r.world.rows some z i (pass_of_word (word z r.world (name.Pass i))) l now)
    by (Activity.Rebalance (Rebalance.Seek Seek.Reclaim)) h b = subst (IsSoughtIn r.world.rows) (sym h.next) (assumption now)
    by (Activity.Rebalance (Rebalance.Seek Seek.Take)) h b = subst (IsSoughtIn r.world.rows) (sym h.next) (take_sought r.world.rows some (word z r.world (name.State l.rebalance.sought) == state_word Free) l now)
    by a h b = subst (IsSoughtIn r.world.rows) (sym h.next) (kept_sought r.world.rows some z (word z r.world) choice l a _ (building z r.world.rows (word z r.world) s choice l a b) (λ t. t) now)
