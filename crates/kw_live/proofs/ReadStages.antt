-- How a reader goes along the list of its row, cell after cell, then reads what it remembers and
-- did not reach, and what follows at the end of the row.
use Rattle.std.proofs.Common.{◌≡◌, ◌⊎◌, ℕ, ◌*◌, ◌<◌, ◌≤◌, ◌==◌, Bool, true, false, nat_lt, nat_le, if◌then◌else◌, Option, Some, None, List, [], ◌∷◌, ◌++◌, length, arith, refl, subst, inl, inr, eq-eqb}
use Rattle.std.proofs.lemmas.Bool.Decides.{nat_tests}
use Rattle.kw_words.specs.Plain.{key_of_word, value_of_word, cell_of_link_word}
use Rattle.kw_cells.specs.Cells.{shown_at, pairs_of}
use Rattle.kw_world.specs.Answers.{answer_found}
use Rattle.kw_model.specs.declared.call.Call.{Call}
use Rattle.kw_model.specs.declared.call.Call.TheVariants.{Put, Del, Get, Scan, Pin, ScanAt, Unpin}
use Rattle.kw_world.specs.declared.answer.Answer.TheVariants.{Pairs}
use Rattle.kw_world.specs.declared.activity.Activity.{Activity}
use Rattle.kw_world.specs.declared.activity.read.Read.TheVariants as Read
use Rattle.kw_world.specs.declared.activity.walk.Walk.TheVariants as Walk
use Rattle.kw_world.specs.declared.event.Choice.TheVariants.{Go}
use Rattle.kw_world.specs.declared.limits.TheConstants.{NEWEST}
use Rattle.kw_world.specs.declared.local.Local.{Local}
use Rattle.kw_world.specs.declared.marks.Mark.{Mark}
use Rattle.kw_world.specs.Calls.{first_key, last_key, is_in_range}
use Rattle.kw_world.specs.Marks.{is_marked, least_mark, lesser_of, unmarked}
use Rattle.kw_world.specs.Transition.{Outcome, to}
use Rattle.kw_world.specs.ReadTransitions.{gathering, list_key, list_reached, list_past, left_over_key, left_over_of, row_read, scan_on, scan_ended, to_left_over, with_pairs}
use Rattle.kw_world.specs.Sizes.{Sizes}
use Rattle.kw_world.specs.Table.{transition}
use Rattle.kw_core.specs.Stages.{IsAtReadLink}
use Rattle.kw_core.proofs.InRange.{unmarked_few}
use Rattle.kw_puts.proofs.Owners.{true_false}
use Rattle.kw_follow.specs.Following.{carried}
use Rattle.kw_live.specs.Reading.{is_reading_list, read_ahead}

-- What is remembered.

-- the marks of a cell that is marked are some
marked_fewer : (c : ℕ) (ms : List Mark) → is_marked c ms ≡ true → length (unmarked c ms) < length ms
marked_fewer c [] e = true_false e refl
marked_fewer c (n ∷ ms) e = saw (n.cell == c) refl e (marked_fewer c ms)
  where
    saw : (b : Bool) → (n.cell == c) ≡ b → (if b then true else is_marked c ms) ≡ true → (is_marked c ms ≡ true → length (unmarked c ms) < length ms) → length (unmarked c (n ∷ ms)) < length (n ∷ ms)
    saw true h g i = rw h (omega (arith, unmarked_few c ms))
    saw false h g i = rw h (omega (arith, i g))

-- a mark of the least cell is among them
least_marked : (ms : List Mark) (m : Mark) → least_mark ms ≡ Some m → is_marked m.cell ms ≡ true
least_marked [] m e = let x : None ≡ Some m = e in absurd (cc)
least_marked (n ∷ ms) m e = saw (least_mark ms) refl e (least_marked ms)
  where
    own : n ≡ m → is_marked m.cell (n ∷ ms) ≡ true
    own same = subst (λ (x : Mark). is_marked x.cell (n ∷ ms) ≡ true) same (rw (eq-eqb n.cell n.cell refl) refl)

    later : (k : Mark) (b : Bool) → is_marked k.cell ms ≡ true → (if b then true else is_marked k.cell ms) ≡ true
    later k true g = refl
    later k false g = g

    which : (k : Mark) (b : Bool) → is_marked k.cell ms ≡ true → (if b then k else n) ≡ m → is_marked m.cell (n ∷ ms) ≡ true
    which k true g is = subst (λ (x : Mark). is_marked x.cell (n ∷ ms) ≡ true) is (later k (n.cell == k.cell) g)
    which k false g is = own is

    saw : (o : Option Mark) → least_mark ms ≡ o → Some (lesser_of n o) ≡ Some m → ((k : Mark) → least_mark ms ≡ Some k → is_marked k.cell ms ≡ true) → is_marked m.cell (n ∷ ms) ≡ true
    saw None h is i = let same : n ≡ m = cc in own same
    saw (Some k) h is i = let same : lesser_of n (Some k) ≡ m = cc in which k (nat_lt k.cell n.cell) (i k h) same

-- so fewer are remembered once it is taken in hand
least_fewer : (ms : List Mark) (m : Mark) → least_mark ms ≡ Some m → length (unmarked m.cell ms) < length ms
least_fewer ms m e = marked_fewer m.cell ms (least_marked ms m e)

-- a scan goes on with the next row: what is known of it by the event alone
pub record Passes (want upto : ℕ) (m : Local) : Type 0 where
  pub activity : m.activity ≡ Activity.Walk Walk.Next
  pub rises : want < m.want
  pub within : m.want ≤ upto
  pub read : m.has_read ≡ true

-- what a reader of this row gave, as far as the event tells
abbrev pub Ended : Option Call → ℕ → ℕ → Local → List (ℕ × ℕ) → List (ℕ × ℕ) → Type 0
Ended (Some (Get key)) want version m before after = (m.activity ≡ Activity.Leave (answer_found (shown_at m.gathered NEWEST key))) × (after ≡ before)
Ended (Some (Scan from upto)) want version m before after = (Passes want upto m ⊎ (m.activity ≡ Activity.EndScan Pairs)) × (after ≡ before ++ pairs_of m.gathered want upto version)
Ended _ want version m before after = Unit {0}

-- the row after the reader's own begins above the key that it wants
abbrev pub IsBelowNext : Local → Type 0
IsBelowNext l = (n : ℕ) → l.next ≡ Some n → l.want < l.upper

-- o follows for a seat that had this call, wanted this key at this version and had these pairs, and
-- it has fewer events to make
pub record Goes (z : Sizes) (call : Option Call) (want version : ℕ) (before : List (ℕ × ℕ)) (ahead : ℕ) (o : Outcome) : Type 0 where
  pub calls : o.local.call ≡ call
  pub drawn : o.local.version ≡ version
  pub on : is_reading_list o.local.activity ≡ true → (o.local.want ≡ want) × (o.local.pairs ≡ before)
  pub ends : is_reading_list o.local.activity ≡ false → Ended call want version (carried o.local) before o.local.pairs
  pub fewer : read_ahead z o.local.activity o.local.walked (length o.local.remembered) < ahead

-- The end of the row.

-- a scan is at its end
scan_ends : (z : Sizes) (from upto ahead : ℕ) (y : Local) → y.call ≡ Some (Scan from upto) → 0 < ahead → Goes z (Some (Scan from upto)) y.want y.version y.pairs ahead (scan_ended (with_pairs upto y))
scan_ends z from upto ahead y is some = record { calls = is; drawn = refl; on = λ e. true_false e refl; ends = λ e. (inr refl, refl); fewer = some }

-- or goes on with the next row
scans_on : (z : Sizes) (from upto ahead : ℕ) (y : Local) → y.call ≡ Some (Scan from upto) → 0 < ahead → (next : Option ℕ) → ((n : ℕ) → next ≡ Some n → y.want < y.upper) → Goes z (Some (Scan from upto)) y.want y.version y.pairs ahead (scan_on next upto (with_pairs upto y))
scans_on z from upto ahead y is some None above = scan_ends z from upto ahead y is some
scans_on z from upto ahead y is some (Some r) above = saw (nat_lt upto y.upper) refl
  where
    saw : (b : Bool) → nat_lt upto y.upper ≡ b → Goes z (Some (Scan from upto)) y.want y.version y.pairs ahead
        (if b then scan_ended (with_pairs upto y) else to (Activity.Walk Walk.Next) (record (with_pairs upto y) { row = r; lower = y.upper; built = 0; want = y.upper; next = None; upper = 0 }))
    saw true h = scan_ends z from upto ahead y is some
    saw false h = record {
      calls = is;
      drawn = refl;
      on = λ e. true_false e refl;
      ends = λ e. (inl (record { activity = refl; rises = above r refl; within = grind (arith, nat_tests); read = refl }), refl);
      fewer = some;
    }

-- the row is read
row_ends : (z : Sizes) (call : Option Call) (ahead : ℕ) (y : Local) → y.call ≡ call → 0 < ahead → IsBelowNext y → Goes z call y.want y.version y.pairs ahead (row_read call y)
row_ends z (Some (Put key value)) ahead y is some above = record { calls = is; drawn = refl; on = λ e. true_false e refl; ends = λ e. tt; fewer = some }
row_ends z (Some (Del key)) ahead y is some above = record { calls = is; drawn = refl; on = λ e. true_false e refl; ends = λ e. tt; fewer = some }
row_ends z (Some (Get key)) ahead y is some above = record { calls = is; drawn = refl; on = λ e. true_false e refl; ends = λ e. (refl, refl); fewer = some }
row_ends z (Some (Scan from upto)) ahead y is some above = scans_on z from upto ahead y is some y.next above
row_ends z (Some Pin) ahead y is some above = record { calls = is; drawn = refl; on = λ e. true_false e refl; ends = λ e. tt; fewer = some }
row_ends z (Some (ScanAt from upto)) ahead y is some above = record { calls = is; drawn = refl; on = λ e. true_false e refl; ends = λ e. tt; fewer = some }
row_ends z (Some Unpin) ahead y is some above = record { calls = is; drawn = refl; on = λ e. true_false e refl; ends = λ e. tt; fewer = some }
row_ends z None ahead y is some above = record { calls = is; drawn = refl; on = λ e. true_false e refl; ends = λ e. tt; fewer = some }

-- a remembered cell is taken in hand, or the row is at its end
rests : (z : Sizes) (ahead : ℕ) (y : Local) → 2 * length y.remembered < ahead → IsBelowNext y → Goes z y.call y.want y.version y.pairs ahead (to_left_over y)
rests z ahead y some above = saw (least_mark y.remembered) refl
  where
    saw : (o : Option Mark) → least_mark y.remembered ≡ o → Goes z y.call y.want y.version y.pairs ahead (left_over_of o y)
    saw (Some m) h = record { calls = refl; drawn = refl; on = λ e. (refl, refl); ends = λ e. true_false refl e; fewer = omega (arith, some, least_fewer y.remembered m h) }
    saw None h = row_ends z y.call ahead y refl (omega (arith, some)) above

-- The events.

-- a link was read
links : (z : Sizes) (cell : Option ℕ) (y : Local) → ((c : ℕ) → cell ≡ Some c → y.walked < z.cells) → IsBelowNext y → Goes z y.call y.want y.version y.pairs (read_ahead z (Activity.Read Read.Link) y.walked (length y.remembered)) (list_reached z cell y)
links z (Some c) y led above = record { calls = refl; drawn = refl; on = λ e. (refl, refl); ends = λ e. true_false refl e; fewer = omega (arith, led c refl, unmarked_few c y.remembered) }
links z None y led above = rests z _ y (omega arith) above

-- a key of the list was read
keys : (z : Sizes) (key : ℕ) (y : Local) → IsBelowNext y → Goes z y.call y.want y.version y.pairs (read_ahead z (Activity.Read Read.Key) y.walked (length y.remembered)) (list_key key y)
keys z key y above = saw (nat_lt key (first_key y.call)) (nat_le key (last_key y.call))
  where
    saw : (b c : Bool) → Goes z y.call y.want y.version y.pairs (read_ahead z (Activity.Read Read.Key) y.walked (length y.remembered)) (if b then list_past y else if c then to (Activity.Read Read.Version) (record y { place_key = key }) else to_left_over y)
    saw true c = record { calls = refl; drawn = refl; on = λ e. (refl, refl); ends = λ e. true_false refl e; fewer = omega arith }
    saw false true = record { calls = refl; drawn = refl; on = λ e. (refl, refl); ends = λ e. true_false refl e; fewer = omega arith }
    saw false false = rests z _ y (omega arith) above

-- and that of a remembered cell
left_over_keys : (z : Sizes) (key : ℕ) (y : Local) → IsBelowNext y → Goes z y.call y.want y.version y.pairs (read_ahead z (Activity.Read Read.LeftOverKey) y.walked (length y.remembered)) (left_over_key key y)
left_over_keys z key y above = saw (is_in_range y.call key)
  where
    saw : (b : Bool) → Goes z y.call y.want y.version y.pairs (read_ahead z (Activity.Read Read.LeftOverKey) y.walked (length y.remembered)) (if b then to (Activity.Read Read.LeftOverValue) (record y { place_key = key }) else to_left_over y)
    saw true = record { calls = refl; drawn = refl; on = λ e. (refl, refl); ends = λ e. true_false refl e; fewer = omega arith }
    saw false = rests z _ y (omega arith) above

-- what follows from an event there
pub read_goes : (z : Sizes) (a : Activity) (k : Local) (rows told : ℕ) → is_reading_list a ≡ true → IsBelowNext k → (IsAtReadLink a → (c : ℕ) → cell_of_link_word told ≡ Some c → k.walked < z.cells)
    → Goes z k.call k.want k.version k.pairs (read_ahead z a k.walked (length k.remembered)) ((transition z a 0 Go k).next rows told)
read_goes z (Activity.Read Read.Start) k rows told u above led = links z (cell_of_link_word told) k (led tt) above
read_goes z (Activity.Read Read.Link) k rows told u above led = links z (cell_of_link_word told) k (led tt) above
read_goes z (Activity.Read Read.Key) k rows told u above led = keys z (key_of_word told) k above
read_goes z (Activity.Read Read.Version) k rows told u above led = record { calls = refl; drawn = refl; on = λ e. (refl, refl); ends = λ e. true_false refl e; fewer = omega arith }
read_goes z (Activity.Read Read.Value) k rows told u above led = record { calls = refl; drawn = refl; on = λ e. (refl, refl); ends = λ e. true_false refl e; fewer = omega arith }
read_goes z (Activity.Read Read.LeftOverKey) k rows told u above led = left_over_keys z (key_of_word told) k above
read_goes z (Activity.Read Read.LeftOverValue) k rows told u above led = rests z _ (gathering z (value_of_word told) k) (omega arith) above
read_goes z _ k rows told u above led = true_false u refl
