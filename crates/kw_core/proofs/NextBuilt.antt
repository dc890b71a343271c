-- What follows the events by which a rebalance takes, writes and links new rows, where a part of it
-- has no event of its own.
--
-- There is a type for each such part, with a constructor for each way that it may go, and a lemma
-- that the table goes one of these ways: the next row is asked, or all were; the next visit is
-- looked at, or all were; taken rows are given back, or none was taken; enough rows are taken, or
-- one more is sought; the next entry, the next cell, the next row is written, or all are; and the
-- walk to the row before the full one begins behind the first row, or the full row is the first.
use Rattle.std.proofs.Common.{ℕ, ◌≡◌, ◌≢◌, ◌+◌, ◌<◌, ◌≤◌, ◌==◌, Bool, true, false, Some, None, nat_lt, length, arith, refl, if◌then◌else◌}
use Rattle.std.proofs.lemmas.Bool.Decides.{nat_tests}
use Rattle.kw_world.specs.declared.activity.Activity.TheVariants as Activity
use Rattle.kw_world.specs.declared.activity.rebalance.Rebalance.TheVariants as Rebalance
use Rattle.kw_world.specs.declared.activity.rebalance.replace.Replace.TheVariants as Replace
use Rattle.kw_world.specs.declared.activity.rebalance.seek.Seek.TheVariants as Seek
use Rattle.kw_world.specs.declared.activity.rebalance.write.Write.TheVariants as Write
use Rattle.kw_world.specs.declared.answer.Answer.{Answer}
use Rattle.kw_world.specs.declared.answer.Answer.TheVariants.{Done, NoRows}
use Rattle.kw_world.specs.declared.local.Local.{Local}
use Rattle.kw_world.specs.declared.rebalance.Afterwards.{Afterwards}
use Rattle.kw_world.specs.declared.rebalance.Afterwards.TheVariants.{TryAgain, Refuse, MoveLeft}
use Rattle.kw_world.specs.EngageTransitions.{to_rebalance}
use Rattle.kw_world.specs.Local.{without_rows, without_rebalance}
use Rattle.kw_world.specs.ReplaceTransitions.{at_before, first_before}
use Rattle.kw_world.specs.SeekTransitions.{at_infant, has_more, moved_left, given_back, give_back, row_behind, to_seek, to_pass, row_taken}
use Rattle.kw_world.specs.Sizes.{Sizes}
use Rattle.kw_world.specs.Transition.{Outcome, to, leave}
use Rattle.kw_world.specs.WriteTransitions.{infant_cells, row_written, to_write_cell, to_write_entry}

-- a rebalance is over: the put tries again; it was done before, and leaves; or it is refused
abbrev pub begun_anew : Local → Outcome
begun_anew l = to Activity.Retry (without_rows (without_rebalance l))

abbrev pub over : Local → Outcome
over l = leave Done (without_rebalance l)

abbrev pub refused : Answer → Local → Outcome
refused answer l = leave answer (without_rebalance l)

-- no taken row is left, and what was to follow follows
pub data GivenBack (l : Local) : Afterwards → Local → Type 0 where
  tries_again : l.tidies ≡ false → GivenBack l TryAgain (begun_anew l).local
  was_done : l.tidies ≡ true → GivenBack l TryAgain (over l).local
  is_refused_rows : l.tidies ≡ false → GivenBack l Refuse (refused NoRows l).local
  was_served : l.tidies ≡ true → GivenBack l Refuse (over l).local
  moves_left : GivenBack l MoveLeft (to_rebalance (moved_left l)).local

-- the taken rows are given back from the first on, or none was taken
pub data NextBack (a : Afterwards) (l : Local) : Local → Type 0 where
  gives_back : 0 < length l.rebalance.taken → NextBack a l (record l { rebalance = record l.rebalance { at = 0; afterwards = a }; activity = Activity.Rebalance (Rebalance.Seek Seek.GiveBack) })
  has_none : (next : Local) → length l.rebalance.taken ≡ 0 → GivenBack l a next → NextBack a l next

-- the next row round the table is asked, or all rows were
pub data NextSeek (rows : ℕ) (l : Local) : Local → Type 0 where
  asks : l.rebalance.asked < rows → NextSeek rows l (record l { rebalance = record l.rebalance { sought = row_behind rows l.rebalance.sought; asked = l.rebalance.asked + 1 }; activity = Activity.Rebalance (Rebalance.Seek Seek.Next) })
  has_asked : (next : Local) → rows ≤ l.rebalance.asked → NextBack Refuse l next → NextSeek rows l next

-- the visit of this seat is looked at, or all visits were
pub data NextPass (z : Sizes) (i : ℕ) (l : Local) : Local → Type 0 where
  looks_on : i < z.seats → NextPass z i l (record l { activity = Activity.Rebalance (Rebalance.Seek (Seek.Pass i)) })
  has_looked : z.seats ≤ i → NextPass z i l (record l { activity = Activity.Rebalance (Rebalance.Seek Seek.Reclaim) })

-- one more row is sought, or there is one for each start, and the first of them is written
pub data NextTaken (rows : ℕ) (l : Local) : Local → Type 0 where
  wants_more : (next : Local) → length l.rebalance.taken < length l.rebalance.starts → NextSeek rows l next → NextTaken rows l next
  has_enough : length l.rebalance.starts ≤ length l.rebalance.taken → NextTaken rows l (record (at_infant 0 l) { activity = Activity.Rebalance (Rebalance.Write Write.Count) })

-- the next new row is written, or all are
pub data NextNewRow (l : Local) : Local → Type 0 where
  writes_row : l.rebalance.at + 1 < length l.rebalance.taken → NextNewRow l (record (at_infant (l.rebalance.at + 1) l) { activity = Activity.Rebalance (Rebalance.Write Write.Count) })
  has_written : length l.rebalance.taken ≤ l.rebalance.at + 1 → NextNewRow l (record l { activity = Activity.Rebalance (Rebalance.Replace Replace.Start) })

-- cell j is written, with a key where the row has a cell for it, or all are
pub data NextNewCell (z : Sizes) (j : ℕ) (l : Local) : Local → Type 0 where
  fills : j < z.cells → j < length (infant_cells l) → NextNewCell z j l (record l { activity = Activity.Rebalance (Rebalance.Write (Write.Key j)) })
  empties : j < z.cells → length (infant_cells l) ≤ j → NextNewCell z j l (record l { activity = Activity.Rebalance (Rebalance.Write (Write.Version j)) })
  has_cells : (next : Local) → z.cells ≤ j → NextNewRow l next → NextNewCell z j l next

-- entry i is written, or all are
pub data NextNewEntry (z : Sizes) (i : ℕ) (l : Local) : Local → Type 0 where
  writes_idle : i < z.seats → NextNewEntry z i l (record l { activity = Activity.Rebalance (Rebalance.Write (Write.Entry i)) })
  has_entries : (next : Local) → z.seats ≤ i → NextNewCell z 0 l next → NextNewEntry z i l next

-- the full row is the first one, or the walk to the row before it begins at the first one
pub data NextBefore (r : ℕ) (l : Local) : Local → Type 0 where
  is_first : r ≡ l.row → NextBefore r l (record (at_before None 0 l) { activity = Activity.Rebalance (Rebalance.Replace Replace.Exchange) })
  is_behind : r ≢ l.row → NextBefore r l (record (at_before (Some r) 0 l) { activity = Activity.Rebalance (Rebalance.Replace Replace.Next) })

-- The table goes one of these ways.

back_given : (a : Afterwards) (l : Local) → GivenBack l a (given_back a l).local
back_given TryAgain l = saw l.tidies refl
  where
    saw : (b : Bool) → l.tidies ≡ b → GivenBack l TryAgain (to (if b then (Activity.Leave Done) else Activity.Retry) (without_rows (without_rebalance l))).local
    saw true e = was_done e
    saw false e = tries_again e
back_given Refuse l = saw l.tidies refl
  where
    saw : (b : Bool) → l.tidies ≡ b → GivenBack l Refuse (leave (if b then Done else NoRows) (without_rebalance l)).local
    saw true e = was_served e
    saw false e = is_refused_rows e
back_given MoveLeft l = moves_left

pub next_given : (l : Local) → GivenBack l l.rebalance.afterwards (given_back l.rebalance.afterwards l).local
next_given l = back_given l.rebalance.afterwards l

pub next_back : (a : Afterwards) (l : Local) → NextBack a l (give_back a l).local
next_back a l = saw (nat_lt 0 (length l.rebalance.taken)) refl
  where
    saw : (b : Bool) → nat_lt 0 (length l.rebalance.taken) ≡ b → NextBack a l (let x : Outcome = if b then to (Activity.Rebalance (Rebalance.Seek Seek.GiveBack)) (record l { rebalance = record l.rebalance { at = 0; afterwards = a } }) else given_back a l in x).local
    saw true e = gives_back (grind (arith, nat_tests))
    saw false e = has_none _ (grind (arith, nat_tests)) (back_given a l)

pub next_seek : (rows : ℕ) (l : Local) → NextSeek rows l (to_seek rows l).local
next_seek rows l = saw (nat_lt l.rebalance.asked rows) refl
  where
    saw : (b : Bool) → nat_lt l.rebalance.asked rows ≡ b → NextSeek rows l (let x : Outcome = if b then to (Activity.Rebalance (Rebalance.Seek Seek.Next)) (record l { rebalance = record l.rebalance { sought = row_behind rows l.rebalance.sought; asked = l.rebalance.asked + 1 } }) else give_back Refuse l in x).local
    saw true e = asks (grind (arith, nat_tests))
    saw false e = has_asked _ (grind (arith, nat_tests)) (next_back Refuse l)

pub next_pass : (z : Sizes) (i : ℕ) (l : Local) → NextPass z i l (to_pass z i l).local
next_pass z i l = saw (nat_lt i z.seats) refl
  where
    saw : (b : Bool) → nat_lt i z.seats ≡ b → NextPass z i l (let x : Outcome = if b then to (Activity.Rebalance (Rebalance.Seek (Seek.Pass i))) l else to (Activity.Rebalance (Rebalance.Seek Seek.Reclaim)) l in x).local
    saw true e = looks_on (grind (arith, nat_tests))
    saw false e = has_looked (grind (arith, nat_tests))

pub next_taken : (rows : ℕ) (l : Local) → NextTaken rows l (row_taken rows l).local
next_taken rows l = saw (nat_lt (length l.rebalance.taken) (length l.rebalance.starts)) refl
  where
    saw : (b : Bool) → nat_lt (length l.rebalance.taken) (length l.rebalance.starts) ≡ b → NextTaken rows l (let x : Outcome = if b then to_seek rows l else to (Activity.Rebalance (Rebalance.Write Write.Count)) (at_infant 0 l) in x).local
    saw true e = wants_more _ (grind (arith, nat_tests)) (next_seek rows l)
    saw false e = has_enough (grind (arith, nat_tests))

pub next_new_row : (l : Local) → NextNewRow l (row_written l).local
next_new_row l = saw (has_more l) refl
  where
    saw : (b : Bool) → has_more l ≡ b → NextNewRow l (let x : Outcome = if b then to (Activity.Rebalance (Rebalance.Write Write.Count)) (at_infant (l.rebalance.at + 1) l) else to (Activity.Rebalance (Rebalance.Replace Replace.Start)) l in x).local
    saw true e = writes_row (grind (arith, nat_tests))
    saw false e = has_written (grind (arith, nat_tests))

pub next_new_cell : (z : Sizes) (j : ℕ) (l : Local) → NextNewCell z j l (to_write_cell z j l).local
next_new_cell z j l = saw (nat_lt j z.cells) (nat_lt j (length (infant_cells l))) refl refl
  where
    saw : (b c : Bool) → nat_lt j z.cells ≡ b → nat_lt j (length (infant_cells l)) ≡ c → NextNewCell z j l (let x : Outcome = if b then (if c then to (Activity.Rebalance (Rebalance.Write (Write.Key j))) l else to (Activity.Rebalance (Rebalance.Write (Write.Version j))) l) else row_written l in x).local
    saw true true e f = fills (grind (arith, nat_tests)) (grind (arith, nat_tests))
    saw true false e f = empties (grind (arith, nat_tests)) (grind (arith, nat_tests))
    saw false c e f = has_cells _ (grind (arith, nat_tests)) (next_new_row l)

pub next_new_entry : (z : Sizes) (i : ℕ) (l : Local) → NextNewEntry z i l (to_write_entry z i l).local
next_new_entry z i l = saw (nat_lt i z.seats) refl
  where
    saw : (b : Bool) → nat_lt i z.seats ≡ b → NextNewEntry z i l (let x : Outcome = if b then to (Activity.Rebalance (Rebalance.Write (Write.Entry i))) l else to_write_cell z 0 l in x).local
    saw true e = writes_idle (grind (arith, nat_tests))
    saw false e = has_entries _ (grind (arith, nat_tests)) (next_new_cell z 0 l)

pub next_before : (r : ℕ) (l : Local) → NextBefore r l (first_before r l).local
next_before r l = saw (r == l.row) refl
  where
    saw : (b : Bool) → (r == l.row) ≡ b → NextBefore r l (let x : Outcome = if b then to (Activity.Rebalance (Rebalance.Replace Replace.Exchange)) (at_before None 0 l) else to (Activity.Rebalance (Rebalance.Replace Replace.Next)) (at_before (Some r) 0 l) in x).local
    saw true e = is_first (grind (arith, nat_tests))
    saw false e = is_behind (grind (arith, nat_tests))
