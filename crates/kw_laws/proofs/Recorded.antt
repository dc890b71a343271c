-- What one event adds to a record that is kept along is what it adds to the run.
use Rattle.std.proofs.Common.{ℕ, suc, ◌≡◌, ◌≢◌, ◌⊎◌, inl, inr, ◌+◌, ◌-◌, ◌*◌, ◌/◌, ◌%◌, ◌<◌, ◌≤◌, ◌==◌, Bool, true, false, nat_lt, if◌then◌else◌, Option, Some, None, List, get_or, set, slice_get, slice_set, length, arith, refl, sym, ◌∙◌, ap, subst, length-append, length-set, get_or-set_other, get_or-set_same, eq-eqb, ne_eqb}
use Rattle.std.proofs.lemmas.Nat.{mod-mul-add, div-mul-add}
use Rattle.std.proofs.Math.Nat.{mul-le-mul_left}
use Rattle.std.proofs.lemmas.Bool.{cases_eq}
use borrow.Author.Tests.{ltb-true}
use Rattle.std.proofs.lemmas.Option.{slice_get_within, same_Some}
use Rattle.kw_words.specs.declared.count.Count.{Count}
use Rattle.kw_words.specs.declared.pend.Pend.{Pend}
use Rattle.kw_words.specs.declared.pend.Pend.TheVariants as pend
use Rattle.kw_words.specs.declared.sizes.TheConstants.{MOST_GROUP}
use Rattle.kw_words.specs.Pend.{pend_word}
use Rattle.kw_words.specs.declared.scan.ScanWord.TheVariants.{Waiting}
use Rattle.kw_words.specs.Scan.{scan_word}
use Rattle.kw_words.specs.Count.{count_of}
use Rattle.kw_cells.specs.declared.cell.Cell as kw_cell
use Rattle.kw_world.specs.declared.activity.Activity.{Activity}
use Rattle.kw_world.specs.declared.activity.draw.Draw.TheVariants as Draw
use Rattle.kw_world.specs.declared.activity.rebalance.freeze.Freeze.TheVariants as Freeze
use Rattle.kw_world.specs.declared.activity.look.Look.TheVariants as Look
use Rattle.kw_world.specs.declared.activity.put.Put.TheVariants as Put
use Rattle.kw_world.specs.declared.activity.read.Read.TheVariants as Read
use Rattle.kw_world.specs.declared.activity.rebalance.Rebalance.TheVariants as Rebalance
use Rattle.kw_world.specs.declared.activity.rebalance.write.Write.TheVariants as Write
use Rattle.kw_world.specs.declared.activity.rebalance.engage.Engage.TheVariants as Engage
use Rattle.kw_world.specs.declared.activity.enter.Enter.TheVariants as Enter
use Rattle.kw_world.specs.declared.activity.rebalance.gather.Gather.TheVariants as Gather
use Rattle.kw_world.specs.declared.activity.insert.Insert.TheVariants as Insert
use Rattle.kw_world.specs.declared.activity.rebalance.replace.Replace.TheVariants as Replace
use Rattle.kw_world.specs.declared.activity.rebalance.seek.Seek.TheVariants as Seek
use Rattle.kw_world.specs.declared.activity.walk.Walk.TheVariants as Walk
use Rattle.kw_world.specs.declared.local.Local.{Local}
use Rattle.kw_world.specs.declared.event.Event.{Event}
use Rattle.kw_world.specs.declared.event.Choice.{Choice}
use Rattle.kw_world.specs.declared.event.Choice.TheVariants.{Begin, Go, Guess, Stop}
use Rattle.kw_world.specs.Sizes.{Sizes}
use Rattle.kw_world.specs.PutTransitions.{has_room, given_of}
use Rattle.kw_world.specs.WalkTransitions.{offered}
use Rattle.kw_world.specs.GroupPlaces.{cell_at, row_at, source}
use Rattle.kw_world.specs.Sane.{IsSane, IsKnown, IsEntry, IsPlaced, IsActivity, IsRowBelow}
use Rattle.kw_world.specs.Transition.{row_or_first}
use Rattle.kw_world.specs.SeekTransitions.{infant}
use Rattle.kw_world.specs.WriteTransitions.{infant_cells}
use Rattle.kw_world.specs.Step.{followed, transition_at, is_skipped, step, Stepped, stepped, moved_of}
use Rattle.kw_world.specs.declared.event.StepDone.{StepDone}
use Rattle.kw_world.specs.WorldView.{WorldView}
use Rattle.kw_world.proofs.Steps.{step-moved}
use Rattle.kw_world.proofs.Lists.{get-set_same}
use Rattle.kw_core.specs.History.{History}
use Rattle.kw_core.specs.declared.history.Logged.{Logged}
use Rattle.kw_core.specs.declared.history.Attempt.{Attempt}
use Rattle.kw_core.specs.declared.history.Change.{Change}
use Rattle.kw_core.specs.declared.history.Change.TheVariants.{Nothing, Begins, Adds, Announces, Loses, Stamps, Ends}
use Rattle.kw_core.specs.Noted.{noted}
use Rattle.kw_core.specs.Appended.{appended}
use Rattle.kw_core.specs.Run.{Run, Origins, change_of, seat_after, origins_after, with_seat, with_copy, copied, copied_cell, found_by, beginning, helping, noted_by, no_log, goes_on, freezing, losing, settled_scan, with_settled}
use Rattle.kw_core.specs.declared.change.Copied.{Copied}
use Rattle.kw_core.specs.declared.change.Settled.{Settled}
use Rattle.kw_core.specs.declared.seat_log.SeatLog.{SeatLog}
use Rattle.kw_core.specs.Recording.{Recording, origin_in}
use Rattle.kw_core.specs.Remarks.{remark_of, remarked}
use Rattle.kw_laws.specs.Recorder.{Records, log_of, happening_at, logged_of, entry_of, origins_with, settled_by, draw_of, draws_with, copies_with, IsCopyIn, IsScanBelow}
use Rattle.kw_core.proofs.Appended.{settled_noted}
use Rattle.kw_core.proofs.InRange.{infant_in_range, infant_cell_in_range}

-- The log of the seat.

-- a remark made before the event is what the event adds to the log
remarked_after : (z : Sizes) (a : Activity) (choice : Choice) (l : Local) (found : ℕ) (next : Activity) (g : SeatLog) (o : Origins) (h : History) (settled : ℕ) → remarked (remark_of z a choice l found o h settled) next g ≡ seat_after z a choice l found next g o h settled
remarked_after z Activity.Idle (Begin call) l found next g o h settled = refl
remarked_after z Activity.Idle Go l found next g o h settled = refl
remarked_after z Activity.Idle (Guess r) l found next g o h settled = refl
remarked_after z Activity.Idle Stop l found next g o h settled = refl
remarked_after z (Activity.Draw Draw.Settle) choice l found next g o h settled = saw (found == scan_word (Waiting l.waiting)) refl
  where
    saw : (b : Bool) → (found == scan_word (Waiting l.waiting)) ≡ b → remarked (remark_of z (Activity.Draw Draw.Settle) choice l found o h settled) next g ≡ seat_after z (Activity.Draw Draw.Settle) choice l found next g o h settled
    saw true e = rw e refl
    saw false e = rw e refl
remarked_after z (Activity.Look (Look.Entry i)) choice l found next g o h settled = saw (i == 0) refl
  where
    saw : (b : Bool) → (i == 0) ≡ b → remarked (remark_of z (Activity.Look (Look.Entry i)) choice l found o h settled) next g ≡ seat_after z (Activity.Look (Look.Entry i)) choice l found next g o h settled
    saw true e = rw e refl
    saw false e = rw e refl
remarked_after z (Activity.Put Put.Add) choice l found next g o h settled = saw (has_room z (count_of found)) refl
  where
    saw : (b : Bool) → has_room z (count_of found) ≡ b → remarked (remark_of z (Activity.Put Put.Add) choice l found o h settled) next g ≡ seat_after z (Activity.Put Put.Add) choice l found next g o h settled
    saw true e = rw e refl
    saw false e = rw e refl
remarked_after z (Activity.Enter Enter.Announce) choice l found next g o h settled = refl
remarked_after z (Activity.Walk Walk.First) choice l found next g o h settled = refl
remarked_after z (Activity.Read Read.Link) choice l found next g o h settled = refl
remarked_after z (Activity.Insert Insert.Link) choice l found next g o h settled = refl
remarked_after z (Activity.Rebalance (Rebalance.Engage Engage.Clock)) choice l found next g o h settled = refl
remarked_after z (Activity.Rebalance (Rebalance.Freeze Freeze.Count)) choice l found next g o h settled = refl
remarked_after z (Activity.Rebalance (Rebalance.Gather Gather.Link)) choice l found next g o h settled = refl
remarked_after z (Activity.Rebalance (Rebalance.Seek Seek.Next)) choice l found next g o h settled = refl
remarked_after z (Activity.Rebalance (Rebalance.Write Write.Count)) choice l found next g o h settled = refl
remarked_after z (Activity.Rebalance (Rebalance.Replace Replace.First)) choice l found next g o h settled = refl
remarked_after z _ choice l found next g o h settled = refl

-- the log depends on the origin of the cell that is gathered alone
seat_after_same : (z : Sizes) (a : Activity) (choice : Choice) (l : Local) (found : ℕ) (next : Activity) (g : SeatLog) (o p : Origins) (h : History) (settled : ℕ) → o l.row l.place ≡ p l.row l.place → seat_after z a choice l found next g o h settled ≡ seat_after z a choice l found next g p h settled
seat_after_same z (Activity.Read Read.Value) choice l found next g o p h settled e = rw e refl
seat_after_same z (Activity.Read Read.LeftOverValue) choice l found next g o p h settled e = rw e refl
seat_after_same z (Activity.Enter Enter.Announce) choice l found next g o p h settled e = refl
seat_after_same z (Activity.Draw Draw.Clock) choice l found next g o p h settled e = refl
seat_after_same z (Activity.Walk Walk.First) choice l found next g o p h settled e = refl
seat_after_same z (Activity.Look Look.Key) choice l found next g o p h settled e = refl
seat_after_same z (Activity.Put Put.Count) choice l found next g o p h settled e = refl
seat_after_same z (Activity.Insert Insert.Link) choice l found next g o p h settled e = refl
seat_after_same z (Activity.Rebalance (Rebalance.Engage Engage.Clock)) choice l found next g o p h settled e = refl
seat_after_same z (Activity.Rebalance (Rebalance.Freeze Freeze.Count)) choice l found next g o p h settled e = refl
seat_after_same z (Activity.Rebalance (Rebalance.Gather Gather.Link)) choice l found next g o p h settled e = refl
seat_after_same z (Activity.Rebalance (Rebalance.Seek Seek.Next)) choice l found next g o p h settled e = refl
seat_after_same z (Activity.Rebalance (Rebalance.Write Write.Count)) choice l found next g o p h settled e = refl
seat_after_same z (Activity.Rebalance (Rebalance.Replace Replace.First)) choice l found next g o p h settled e = refl
seat_after_same z _ choice l found next g o p h settled e = refl

-- The change.

-- what is lost with an entry depends on the origin of its cell alone
freezing_same : (x : Pend) (row : ℕ) (o p : Origins) → ((c : ℕ) → x ≡ pend.Pending c → o row c ≡ p row c) → freezing x row o ≡ freezing x row p
freezing_same pend.Idle row o p e = refl
freezing_same (pend.Pending c) row o p e = ap losing (e c refl)
freezing_same (pend.Stamped c version) row o p e = refl
freezing_same pend.Frozen row o p e = refl

-- the change depends on the origins of the cell that was seen and of that of the entry at hand
-- alone
change_same : (z : Sizes) (a : Activity) (s : ℕ) (choice : Choice) (l : Local) (found : ℕ) (g : SeatLog) (o p : Origins) → o l.row l.saw ≡ p l.row l.saw → ((c : ℕ) → l.rebalance.entry ≡ pend.Pending c → o l.rebalance.hand c ≡ p l.rebalance.hand c) → change_of z a s choice l found g o ≡ change_of z a s choice l found g p
change_same z (Activity.Look Look.Help) s choice l found g o p e f = rw e refl
change_same z (Activity.Rebalance (Rebalance.Freeze (Freeze.Entry i))) s choice l found g o p e f = rw (freezing_same l.rebalance.entry l.rebalance.hand o p f) refl
change_same z (Activity.Put Put.Count) s choice l found g o p e f = refl
change_same z _ s choice l found g o p e f = refl

-- The origins.

-- the places of two cells differ
one_place : (n q c r d : ℕ) → c < n → d < n → q * n + c ≡ r * n + d → (q ≡ r) × (c ≡ d)
one_place n q c r d v w e =
    (sym (div-mul-add q n c v) ∙ ap (λ (x : ℕ). x / n) e ∙ div-mul-add r n d w, sym (mod-mul-add q n c v) ∙ ap (λ (x : ℕ). x % n) e ∙ mod-mul-add r n d w)

-- a place of a row is one of the table's
pub place_within : (n q c rows : ℕ) → q < rows → c < n → q * n + c < rows * n
place_within n q c rows v w =
    let x : n * suc q ≤ n * rows = mul-le-mul_left n (omega (arith, v)) in
    omega (arith, x, w)

-- a row with room has given fewer cells than it has
pub room_given : (z : Sizes) (count : Option Count) → has_room z count ≡ true → given_of count < z.cells
room_given z None e = let x : false ≡ true = e in absurd (cc)
room_given z (Some count) e = saw count.frozen refl
  where
    saw : (b : Bool) → count.frozen ≡ b → count.given < z.cells
    saw true f = let x : false ≡ true = rw f at e in absurd (cc)
    saw false f = ltb-true count.given z.cells (rw f at e)

-- the change is one that gives no cell
abbrev pub GivesNone : Change → Type 0
GivesNone (Adds call seat key value row cell) = ⊥
GivesNone _ = Unit {0}

-- such a change leaves the origins
none_given : (z : Sizes) (c : Change) (p : ℕ) (xs : List (Option ℕ)) → GivesNone c → origins_with z c p xs ≡ xs
none_given z (Adds call seat key value row cell) p xs n = absurd n
none_given z Nothing p xs n = refl
none_given z (Begins seat number call) p xs n = refl
none_given z (Announces q) p xs n = refl
none_given z (Loses q) p xs n = refl
none_given z (Stamps q version load) p xs n = refl
none_given z (Ends x reply answer draw) p xs n = refl

-- of two changes that give none, neither does
pub none_of : (b : Bool) (c d : Change) → GivesNone c → GivesNone d → GivesNone (if b then c else d)
none_of true c d e f = e
none_of false c d e f = f

pub none_helping : (o : Option ℕ) (version load : ℕ) → GivesNone (helping o version load)
none_helping (Some p) version load = tt
none_helping None version load = tt

pub none_freezing : (x : Pend) (row : ℕ) (o : Origins) → GivesNone (freezing x row o)
none_freezing pend.Idle row o = tt
none_freezing (pend.Pending c) row o = lost (o row c)
  where
    lost : (x : Option ℕ) → GivesNone (losing x)
    lost (Some p) = tt
    lost None = tt
none_freezing (pend.Stamped c version) row o = tt
none_freezing pend.Frozen row o = tt

-- the origins with that of one cell set
origin_set : (z : Sizes) (xs : List (Option ℕ)) (rows row cell : ℕ) (x : Option ℕ) (p : Origins) → length xs ≡ rows * z.cells → row < rows → cell < z.cells → ((q c : ℕ) → q < rows → c < z.cells → origin_in z xs q c ≡ p q c) →
    (q c : ℕ) → q < rows → c < z.cells → origin_in z (set xs (row * z.cells + cell) x) q c ≡ with_copy p row cell x q c
origin_set z xs rows row cell x p len below in_row same q c v w = which (cases_eq (q * z.cells + c) (row * z.cells + cell))
  where
    elsewhere : q * z.cells + c ≢ row * z.cells + cell → (q ≡ row) ⊎ (q ≢ row) → (c ≡ cell) ⊎ (c ≢ cell) → with_copy p row cell x q c ≡ p q c
    elsewhere f (inl a) (inl b) = absurd (f (rw (a, b) refl))
    elsewhere f (inl a) (inr b) = rw (eq-eqb q row a, ne_eqb c cell b) refl
    elsewhere f (inr a) b = rw (ne_eqb q row a) refl

    which : (q * z.cells + c ≡ row * z.cells + cell) ⊎ (q * z.cells + c ≢ row * z.cells + cell) → origin_in z (set xs (row * z.cells + cell) x) q c ≡ with_copy p row cell x q c
    which (inl e) =
        let t = one_place z.cells q c row cell w in_row e in
        let y : row * z.cells + cell < length xs = omega (arith, len, place_within z.cells row cell rows below in_row) in
        rw (eq-eqb q row t.0, eq-eqb c cell t.1, e) (get_or-set_same xs (row * z.cells + cell) x None y)
    which (inr f) = rw (get_or-set_other xs (row * z.cells + cell) (q * z.cells + c) x None f) (same q c v w ∙ sym (elsewhere f (cases_eq q row) (cases_eq c cell)))

-- the row of the cell at a place of the group is one of the table's
row_at_below : (z : Sizes) (l : Local) (rows place : ℕ) → l.row < rows → IsRowBelow rows l.rebalance.second → row_at z l place < rows
row_at_below z l rows place below second = saw (nat_lt place z.cells)
  where
    other : (x : Option ℕ) → IsRowBelow rows x → row_or_first x < rows
    other (Some r) v = v
    other None v = omega arith

    saw : (b : Bool) → (if b then l.row else row_or_first l.rebalance.second) < rows
    saw true = below
    saw false = other l.rebalance.second second

-- the cell at a place of a group is one of its row
cell_at_below : (z : Sizes) (place : ℕ) → place < MOST_GROUP * z.cells → cell_at z place < z.cells
cell_at_below z place v = saw (nat_lt place z.cells) refl
  where
    saw : (b : Bool) → nat_lt place z.cells ≡ b → (if b then place else place - z.cells) < z.cells
    saw true e = ltb-true place z.cells e
    saw false e = omega arith

-- a kept cell is a copy of the same attempt in origins that agree on it
copied_same : (z : Sizes) (o p : Origins) (l : Local) (x : Option kw_cell.Cell) → ((c : kw_cell.Cell) → x ≡ Some c → source z o l c.place ≡ source z p l c.place) → copied z o l x ≡ copied z p l x
copied_same z o p l (Some c) e = e c refl
copied_same z o p l None e = refl

-- the origins with what the change adds, where the attempt p is the next one, and with the copy
-- that the event writes, if it writes one
origins_noted : (z : Sizes) (a : Activity) (s : ℕ) (choice : Choice) (l : Local) (found : ℕ) (g : SeatLog) (o p : Origins) (h : History) (n : ℕ) (xs : List (Option ℕ)) (rows : ℕ) → n ≡ length h.attempts → length xs ≡ rows * z.cells → l.row < rows → infant l < rows → IsActivity z a →
    ((j : ℕ) (c : kw_cell.Cell) → slice_get (infant_cells l) j ≡ Some c → source z o l c.place ≡ source z p l c.place) → ((q c : ℕ) → q < rows → c < z.cells → origin_in z xs q c ≡ p q c) →
    (q c : ℕ) → q < rows → c < z.cells → origin_in z (copies_with z (copied_cell z a l o) (origins_with z (change_of z a s choice l found g o) n xs)) q c ≡ origins_after z a l found p h q c
origins_noted z (Activity.Put Put.Add) s choice l found g o p h n xs rows is len below new y kept same q c v w = saw (has_room z (count_of found)) refl
  where
    saw : (b : Bool) → has_room z (count_of found) ≡ b → origin_in z (origins_with z (change_of z (Activity.Put Put.Add) s choice l found g o) n xs) q c ≡ origins_after z (Activity.Put Put.Add) l found p h q c
    saw true e = rw (e, sym is) (origin_set z xs rows l.row (given_of (count_of found)) (Some n) p len below (room_given z (count_of found) e) same q c v w)
    saw false e = rw e (same q c v w)
origins_noted z Activity.Idle s choice l found g o p h n xs rows is len below new y kept same q c v w = begins choice
  where
    begins : (x : Choice) → origin_in z (origins_with z (beginning x s l) n xs) q c ≡ p q c
    begins (Begin call) = same q c v w
    begins Go = same q c v w
    begins (Guess r) = same q c v w
    begins Stop = same q c v w
origins_noted z (Activity.Look Look.Help) s choice l found g o p h n xs rows is len below new y kept same q c v w =
    rw (none_given z (if found == pend_word (pend.Pending l.saw) then helping (o l.row l.saw) l.helping g.loaded else Nothing) n xs (none_of (found == pend_word (pend.Pending l.saw)) _ Nothing (none_helping (o l.row l.saw) l.helping g.loaded) tt)) (same q c v w)
origins_noted z (Activity.Put Put.Announce) s choice l found g o p h n xs rows is len below new y kept same q c v w =
    rw (none_given z (if found == pend_word pend.Idle then Announces g.own else Nothing) n xs (none_of (found == pend_word pend.Idle) (Announces g.own) Nothing tt tt)) (same q c v w)
origins_noted z (Activity.Put Put.Stamp) s choice l found g o p h n xs rows is len below new y kept same q c v w =
    rw (none_given z (if found == pend_word (pend.Pending l.cell) then Stamps g.own l.version g.loaded else Nothing) n xs (none_of (found == pend_word (pend.Pending l.cell)) (Stamps g.own l.version g.loaded) Nothing tt tt)) (same q c v w)
origins_noted z (Activity.Rebalance (Rebalance.Freeze (Freeze.Entry i))) s choice l found g o p h n xs rows is len below new y kept same q c v w =
    rw (none_given z (if found == pend_word l.rebalance.entry then freezing l.rebalance.entry l.rebalance.hand o else Nothing) n xs (none_of (found == pend_word l.rebalance.entry) _ Nothing (none_freezing l.rebalance.entry l.rebalance.hand o) tt)) (same q c v w)
origins_noted z (Activity.Rebalance (Rebalance.Write (Write.Version j))) s choice l found g o p h n xs rows is len below new y kept same q c v w =
    origin_set z xs rows (infant l) j _ p len new y same q c v w ∙ ap (λ x. with_copy p (infant l) j x q c) (copied_same z o p l (slice_get (infant_cells l) j) (kept j))
origins_noted z _ s choice l found g o p h n xs rows is len below new y kept same q c v w = same q c v w

-- the cell that an event writes is one of the table's
pub copy_below : (z : Sizes) (a : Activity) (l : Local) (o : Origins) (rows : ℕ) → infant l < rows → IsActivity z a → IsCopyIn z (rows * z.cells) (copied_cell z a l o)
copy_below z (Activity.Rebalance (Rebalance.Write (Write.Version j))) l o rows new y = place_within z.cells (infant l) j rows new y
copy_below z _ l o rows new y = tt

-- and with it there are as many origins
copies_long : (z : Sizes) (x : Option Copied) (xs : List (Option ℕ)) → length (copies_with z x xs) ≡ length xs
copies_long z (Some x) xs = length-set xs (x.row * z.cells + x.cell) x.attempt
copies_long z None xs = refl

-- Where the versions of scans were drawn.

-- the event settles a scan of one of the seats
pub scan_below : (z : Sizes) (a : Activity) (s : ℕ) (l : Local) (found : ℕ) (g : SeatLog) → s < z.seats → IsActivity z a → IsScanBelow z.seats (settled_scan a s l found g)
scan_below z (Activity.Draw Draw.Settle) s l found g w i = settles (found == scan_word (Waiting l.waiting))
  where
    settles : (b : Bool) → IsScanBelow z.seats (if b then Some (record { seat = s; at = g.drawn }) else None)
    settles true = w
    settles false = tt
scan_below z (Activity.Rebalance (Rebalance.Freeze (Freeze.Settle t))) s l found g w i = settles (found == scan_word (Waiting l.rebalance.waiting))
  where
    settles : (b : Bool) → IsScanBelow z.seats (if b then Some (record { seat = t; at = g.drawn }) else None)
    settles true = i
    settles false = tt
scan_below z _ s l found g w i = tt

-- the draws with that of a scan that is settled are those of the run
draws_noted : (n : ℕ) (xs : List ℕ) (draws : ℕ → ℕ) (x : Option Settled) → length xs ≡ n → IsScanBelow n x → ((s : ℕ) → s < n → get_or xs s 0 ≡ draws s) → (s : ℕ) → s < n → get_or (draws_with x xs) s 0 ≡ with_settled x draws s
draws_noted n xs draws None e w same s v = same s v
draws_noted n xs draws (Some x) e w same s v = which (cases_eq s x.seat)
  where
    which : (s ≡ x.seat) ⊎ (s ≢ x.seat) → get_or (set xs x.seat x.at) s 0 ≡ (if s == x.seat then x.at else draws s)
    which (inl is) = rw (eq-eqb s x.seat is, is) (get_or-set_same xs x.seat x.at 0 (omega (arith, w, e)))
    which (inr ne) = rw (ne_eqb s x.seat ne, get_or-set_other xs x.seat s x.at 0 ne) (same s v)

-- and as many
draws_long : (x : Option Settled) (xs : List ℕ) → length (draws_with x xs) ≡ length xs
draws_long (Some x) xs = length-set xs x.seat x.at
draws_long None xs = refl

-- The whole record.

-- what the change leaves of the length of the origins
origins_long : (z : Sizes) (c : Change) (p : ℕ) (xs : List (Option ℕ)) → length (origins_with z c p xs) ≡ length xs
origins_long z (Adds call seat key value row cell) p xs = length-set xs (row * z.cells + cell) (Some p)
origins_long z Nothing p xs = refl
origins_long z (Begins seat number call) p xs = refl
origins_long z (Announces q) p xs = refl
origins_long z (Loses q) p xs = refl
origins_long z (Stamps q version load) p xs = refl
origins_long z (Ends x reply answer draw) p xs = refl

-- the attempt that an add gives its cell to is the last one
origins_last : (z : Sizes) (h : History) (e : Logged) (c : Change) (xs : List (Option ℕ)) → origins_with z c (length (appended h e c).attempts - 1) xs ≡ origins_with z c (length h.attempts) xs
origins_last z h e (Adds call seat key value row cell) xs = ap (λ (n : ℕ). set xs (row * z.cells + cell) (Some n)) (omega (arith, length-append {A = Attempt}))
origins_last z h e Nothing xs = refl
origins_last z h e (Begins seat number call) xs = refl
origins_last z h e (Announces q) xs = refl
origins_last z h e (Loses q) xs = refl
origins_last z h e (Stamps q version load) xs = refl
origins_last z h e (Ends x reply answer draw) xs = refl

-- the record before the event, with the event appended to its history
abbrev pub prepared : Sizes → Recording → Run → Event → Local → Recording
prepared z k r e l = record k { history = appended k.history (logged_of (happening_at z r.world e l)) (entry_of z k l (happening_at z r.world e l)).change }

-- what the seat does next
abbrev pub next_activity : Sizes → Run → Event → Local → Activity
next_activity z r e l = (followed r.world.rows (transition_at z r.world e l) (found_by z r.world e l)).local.activity

-- the logs with one that was set
logs_set : (logs : List SeatLog) (seats : ℕ → SeatLog) (t : ℕ) (g h : SeatLog) → t < length logs → g ≡ h → ((s : ℕ) → s < length logs → get_or logs s no_log ≡ seats s) → (s : ℕ) → s < length logs → get_or (set logs t g) s no_log ≡ with_seat seats t h s
logs_set logs seats t g h w e same s v = which (cases_eq s t)
  where
    which : (s ≡ t) ⊎ (s ≢ t) → get_or (set logs t g) s no_log ≡ with_seat seats t h s
    which (inl is) = rw (eq-eqb s t is, is, get_or-set_same logs t g no_log w) e
    which (inr ne) = rw (ne_eqb s t ne, get_or-set_other logs t s g no_log ne) (same s v)

-- what the record says that the event changes is what the run says
pub change_recorded : (z : Sizes) (k : Recording) (r : Run) (e : Event) (l : Local) → Records z k r → IsSane z r.world → slice_get r.world.locals e.seat ≡ Some l →
    (entry_of z k l (happening_at z r.world e l)).change ≡ change_of z l.activity e.seat (offered r.world.rows e.choice) l (found_by z r.world e l) (r.seats e.seat) r.origin
change_recorded z k r e l i sane knows =
    let known = sane.locals e.seat l knows in
    ap (λ (g : SeatLog). change_of z l.activity e.seat (offered r.world.rows e.choice) l (found_by z r.world e l) g (origin_in z k.origins)) (i.logs e.seat (slice_get_within r.world.locals e.seat l knows)) ∙
    change_same z l.activity e.seat (offered r.world.rows e.choice) l (found_by z r.world e l) (r.seats e.seat) (origin_in z k.origins) r.origin (i.origins l.row l.saw known.below.row known.ranges.saw)
    (λ c x. i.origins l.rebalance.hand c known.below.rebalance.hand (subst (λ y. IsEntry z (Some y)) x known.ranges.rebalance.entry))

-- the record with what the event adds is that of the run with the event
pub records_on : (z : Sizes) (k : Recording) (r : Run) (e : Event) (l : Local) → Records z k r → IsSane z r.world → slice_get r.world.locals e.seat ≡ Some l →
    Records z (settled_by z (prepared z k r e l) (entry_of z k l (happening_at z r.world e l)) (next_activity z r e l)) (noted_by z r e l)
records_on z k r e l i sane knows = record {
  history = settled_noted k.history (appended k.history at change) _ at change refl refl refl refl ∙ ap (λ (h : History). noted h at change) i.history ∙ ap (λ (c : Change). noted r.history at c) (change_recorded z k r e l i sane knows);
  seats = length-set k.logs e.seat _ ∙ i.seats ∙ sym (length-set r.world.locals e.seat _);
  scans = draws_long (settled_scan l.activity e.seat l found (log_of k e.seat)) k.settled ∙ i.scans;
  cells = copies_long z (copied_cell z l.activity l (origin_in z k.origins)) _ ∙ origins_long z change _ k.origins ∙ i.cells;
  logs = λ s w. logs_set k.logs r.seats e.seat _ _ (omega (arith, inside, i.seats)) log (λ t u. i.logs t (omega (arith, u, i.seats))) s (omega (arith, w, i.seats, length-set r.world.locals e.seat (followed r.world.rows (transition_at z r.world e l) found).local));
  settled = λ s w. draws_noted z.seats k.settled r.settled (settled_scan l.activity e.seat l found (log_of k e.seat)) i.scans (scan_below z l.activity e.seat l found (log_of k e.seat) seat known.ranges.activity) i.settled s w ∙
      ap (λ (g : SeatLog). with_settled (settled_scan l.activity e.seat l found g) r.settled s) (i.logs e.seat inside);
  origins = λ q c v w. ap (λ (xs : List (Option ℕ)). origin_in z (copies_with z (copied_cell z l.activity l (origin_in z k.origins)) xs) q c) (origins_last z k.history at change k.origins) ∙
      origins_noted z l.activity e.seat choice l found (log_of k e.seat) (origin_in z k.origins) r.origin r.history (length k.history.attempts) k.origins r.world.rows (ap (λ (h : History). length h.attempts) i.history) i.cells known.below.row (infant_in_range r.world.rows l known.below) known.ranges.activity
      (λ j c x. i.origins _ _ (row_at_below z l r.world.rows c.place known.below.row known.below.rebalance.second) (cell_at_below z c.place (infant_cell_in_range (IsPlaced z) l j c known.ranges.rebalance.places x))) i.origins q c v w;
}
  where
    choice : Choice
    choice = offered r.world.rows e.choice

    found : ℕ
    found = found_by z r.world e l

    at : Logged
    at = logged_of (happening_at z r.world e l)

    change : Change
    change = change_of z l.activity e.seat choice l found (log_of k e.seat) (origin_in z k.origins)

    inside : e.seat < length r.world.locals
    inside = slice_get_within r.world.locals e.seat l knows

    known : IsKnown z r.world.rows l
    known = sane.locals e.seat l knows

    seat : e.seat < z.seats
    seat = omega (arith, inside, sane.seats)

    log : remarked (remark_of z l.activity choice l found (origin_in z k.origins) k.history (draw_of k e.seat)) (next_activity z r e l) (log_of k e.seat) ≡ seat_after z l.activity choice l found (next_activity z r e l) (r.seats e.seat) r.origin r.history (r.settled e.seat)
    log = remarked_after z l.activity choice l found (next_activity z r e l) (log_of k e.seat) (origin_in z k.origins) k.history (draw_of k e.seat) ∙
        seat_after_same z l.activity choice l found (next_activity z r e l) (log_of k e.seat) (origin_in z k.origins) r.origin k.history (draw_of k e.seat) (i.origins l.row l.place known.below.row known.ranges.place) ∙
        ap (λ (g : SeatLog). seat_after z l.activity choice l found (next_activity z r e l) g r.origin k.history (draw_of k e.seat)) (i.logs e.seat inside) ∙
        ap (λ (h : History). seat_after z l.activity choice l found (next_activity z r e l) (r.seats e.seat) r.origin h (draw_of k e.seat)) i.history ∙
        ap (λ (d : ℕ). seat_after z l.activity choice l found (next_activity z r e l) (r.seats e.seat) r.origin r.history d) (i.settled e.seat seat)

-- an event that is skipped leaves the run
pub goes_on-skipped : (z : Sizes) (r : Run) (e : Event) (l : Local) → slice_get r.world.locals e.seat ≡ Some l → is_skipped l.activity e.choice ≡ true → goes_on z r e ≡ r
unfolding goes_on
goes_on-skipped z r e l knows skipped = rw (knows, skipped) refl

-- what the seat does next is what it knows after the event
pub next_known : (z : Sizes) (r : Run) (e : Event) (l m : Local) (w : WorldView) (done : StepDone) → slice_get r.world.locals e.seat ≡ Some l → is_skipped l.activity e.choice ≡ false → stepped w done ≡ step z r.world e → slice_get w.locals e.seat ≡ Some m → m.activity ≡ next_activity z r e l
next_known z r e l m w done knows moves is after =
    let world : w ≡ (moved_of z r.world e l).world = ap (λ (x : Stepped). x.world) (is ∙ step-moved z r.world e l knows moves) in
    let set : slice_get (slice_set r.world.locals e.seat (followed r.world.rows (transition_at z r.world e l) (found_by z r.world e l)).local) e.seat ≡ Some m = subst (λ (x : WorldView). slice_get x.locals e.seat ≡ Some m) world after in
    ap (λ (x : Local). x.activity) (same_Some m _ (sym set ∙ get-set_same r.world.locals e.seat _ (slice_get_within r.world.locals e.seat l knows)))
