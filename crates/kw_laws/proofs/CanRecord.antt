-- What an event adds to a record can be written there: all that it names is there.
use Rattle.std.proofs.Common.{ℕ, suc, ◌≡◌, ◌+◌, ◌*◌, ◌<◌, ◌==◌, Bool, true, false, nat_lt, if◌then◌else◌, Option, Some, None, List, [], ◌∷◌, arith, refl, sym, ap, subst, length, length-append, slice_get}
use Rattle.std.proofs.lemmas.Option.{slice_get_within}
use Rattle.kw_words.specs.declared.pend.Pend.TheVariants as pend
use Rattle.kw_words.specs.Pend.{pend_word}
use Rattle.kw_words.specs.declared.scan.ScanWord.TheVariants.{Waiting}
use Rattle.kw_words.specs.Scan.{scan_word}
use Rattle.kw_words.specs.Count.{count_of}
use Rattle.kw_cells.specs.declared.cell.Cell as kw_cell
use Rattle.kw_model.specs.declared.call.Call.{Call}
use Rattle.kw_world.specs.declared.activity.Activity.{Activity}
use Rattle.kw_world.specs.declared.activity.draw.Draw.TheVariants as Draw
use Rattle.kw_world.specs.declared.activity.rebalance.freeze.Freeze.TheVariants as Freeze
use Rattle.kw_world.specs.declared.activity.look.Look.TheVariants as Look
use Rattle.kw_world.specs.declared.activity.put.Put.TheVariants as Put
use Rattle.kw_world.specs.declared.activity.read.Read.TheVariants as Read
use Rattle.kw_world.specs.declared.activity.rebalance.Rebalance.TheVariants as Rebalance
use Rattle.kw_world.specs.declared.activity.rebalance.engage.Engage.TheVariants as Engage
use Rattle.kw_world.specs.declared.local.Local.{Local}
use Rattle.kw_world.specs.declared.event.Event.{Event}
use Rattle.kw_world.specs.declared.event.Choice.{Choice}
use Rattle.kw_world.specs.declared.event.Choice.TheVariants.{Begin, Go, Guess, Stop}
use Rattle.kw_world.specs.Sizes.{Sizes}
use Rattle.kw_world.specs.PutTransitions.{has_room, given_of}
use Rattle.kw_world.specs.WalkTransitions.{offered}
use Rattle.kw_world.specs.Sane.{IsKnown, CanBegin, CanBeginAt}
use Rattle.kw_world.specs.Step.{transition_of, is_skipped}
use Rattle.kw_core.specs.History.{History}
use Rattle.kw_core.specs.declared.history.Logged.{Logged}
use Rattle.kw_core.specs.declared.history.Change.{Change}
use Rattle.kw_core.specs.declared.history.Change.TheVariants.{Nothing, Begins, Adds, Announces, Loses, Stamps, Ends}
use Rattle.kw_core.specs.Noted.{IsWithin, MayNote}
use Rattle.kw_core.specs.Step.{Keeps}
use Rattle.kw_core.specs.Appended.{appended}
use Rattle.kw_reads.specs.Inv.{Inv}
use Rattle.kw_core.specs.Run.{Run, Origins, change_of, found_by, beginning, helping, noted_by, freezing, settled_scan, copied_cell}
use Rattle.kw_core.specs.declared.seat_log.SeatLog.{SeatLog}
use Rattle.kw_lists.specs.Rows.{Row}
use Rattle.kw_cells.proofs.InOrder.{index_in-within}
use Rattle.kw_words.specs.Plain.{value_of_word}
use Rattle.kw_world.specs.ReadTransitions.{cell_in_hand}
use Rattle.kw_reads.specs.Readers.{AreCopies, ReadsList, Apart}
use Rattle.kw_reads.proofs.ApartKeeps.{hand_fresh, gather_room}
use Rattle.kw_core.specs.Stages.{IsTaking}
use Rattle.kw_core.specs.Recording.{Recording, origin_in}
use Rattle.kw_core.specs.Remarks.{remark_of, HasRoomFor}
use Rattle.kw_laws.specs.Recorder.{Records, CanSettle, IsInTable, log_of, happening_at, logged_of, entry_of, draw_of, IsScanBelow, IsCopyIn}
use Rattle.kw_core.proofs.Events.{IsBegun}
use Rattle.kw_core.proofs.Happens.{happens}
use Rattle.kw_core.proofs.InRange.{infant_in_range}
use Rattle.kw_reads.proofs.HistoryKeeps.{may_note}
use Rattle.kw_core.proofs.Appended.{within_appended}
use Rattle.kw_laws.proofs.Recorded.{GivesNone, none_of, none_helping, place_within, room_given, prepared, change_recorded, none_freezing, scan_below, copy_below}

-- a change that may happen names calls and attempts that are there
within_of : (h : History) (e : Logged) (c : Change) → Keeps h → MayNote h e c → IsWithin h c
within_of h e Nothing k m = tt
within_of h e (Begins seat number call) k m = tt
within_of h e (Adds call seat key value row cell) k m = tt
within_of h e (Announces p) k m = m.0
within_of h e (Loses p) k m = m.0
within_of h e (Stamps p version load) k m = (m.within, (k.laws.attempted p m.within).call)
within_of h e (Ends x reply answer draw) k m = m.0

-- Cells that are given.

-- a cell that the change gives is one of so many
abbrev pub IsGivenBelow : Sizes → ℕ → Change → Type 0
IsGivenBelow z cells (Adds call seat key value row cell) = row * z.cells + cell < cells
IsGivenBelow z cells _ = Unit {0}

none_below : (z : Sizes) (cells : ℕ) (c : Change) → GivesNone c → IsGivenBelow z cells c
none_below z cells (Adds call seat key value row cell) n = absurd n
none_below z cells Nothing n = tt
none_below z cells (Begins seat number call) n = tt
none_below z cells (Announces p) n = tt
none_below z cells (Loses p) n = tt
none_below z cells (Stamps p version load) n = tt
none_below z cells (Ends x reply answer draw) n = tt

-- what an event gives is a cell of the table
given_below : (z : Sizes) (a : Activity) (s : ℕ) (choice : Choice) (l : Local) (found : ℕ) (g : SeatLog) (o : Origins) (rows : ℕ) → l.row < rows → IsGivenBelow z (rows * z.cells) (change_of z a s choice l found g o)
given_below z (Activity.Put Put.Add) s choice l found g o rows below = saw (has_room z (count_of found)) refl
  where
    saw : (b : Bool) → has_room z (count_of found) ≡ b → IsGivenBelow z (rows * z.cells) (change_of z (Activity.Put Put.Add) s choice l found g o)
    saw true e = rw e (place_within z.cells l.row (given_of (count_of found)) rows below (room_given z (count_of found) e))
    saw false e = rw e tt
given_below z Activity.Idle s choice l found g o rows below = begins choice
  where
    begins : (x : Choice) → IsGivenBelow z (rows * z.cells) (beginning x s l)
    begins (Begin call) = tt
    begins Go = tt
    begins (Guess r) = tt
    begins Stop = tt
given_below z (Activity.Look Look.Help) s choice l found g o rows below = none_below z (rows * z.cells) _ (none_of (found == pend_word (pend.Pending l.saw)) (helping (o l.row l.saw) l.helping g.loaded) Nothing (none_helping (o l.row l.saw) l.helping g.loaded) tt)
given_below z (Activity.Put Put.Announce) s choice l found g o rows below = none_below z (rows * z.cells) _ (none_of (found == pend_word pend.Idle) (Announces g.own) Nothing tt tt)
given_below z (Activity.Put Put.Stamp) s choice l found g o rows below = none_below z (rows * z.cells) _ (none_of (found == pend_word (pend.Pending l.cell)) (Stamps g.own l.version g.loaded) Nothing tt tt)
given_below z (Activity.Rebalance (Rebalance.Freeze (Freeze.Entry i))) s choice l found g o rows below = none_below z (rows * z.cells) _ (none_of (found == pend_word l.rebalance.entry) (freezing l.rebalance.entry l.rebalance.hand o) Nothing (none_freezing l.rebalance.entry l.rebalance.hand o) tt)
given_below z _ s choice l found g o rows below = tt

-- a cell of the table that is given has its attempt at the end of the history
in_table : (z : Sizes) (k : Recording) (e : Logged) (c : Change) → IsGivenBelow z (length k.origins) c → IsInTable z (record k { history = appended k.history e c }) c
in_table z k e (Adds call seat key value row cell) b = (b, omega (arith, length-append k.history.attempts (record { call = call; seat = seat; key = key; value = value; row = row; cell = cell; add = length k.history.log; is_announced = false; announced = 0; is_stamped = false; version = 0; load = 0; at = 0; is_lost = false } ∷ [])))
in_table z k e Nothing b = tt
in_table z k e (Begins seat number call) b = tt
in_table z k e (Announces p) b = tt
in_table z k e (Loses p) b = tt
in_table z k e (Stamps p version load) b = tt
in_table z k e (Ends x reply answer draw) b = tt

-- Cells that are gathered.

-- there are as many attempts as gathered cells
as_many : (h : History) (o : Origins) (q : ℕ) (call : Option Call) (cells : List kw_cell.Cell) (ids : List ℕ) → AreCopies h o q call cells ids → length cells ≡ length ids
as_many h o q call [] [] a = refl
as_many h o q call [] (p ∷ ids) a = absurd a
as_many h o q call (c ∷ cells) [] a = absurd a
as_many h o q call (c ∷ cells) (p ∷ ids) a = ap suc (as_many h o q call cells ids a.1)

-- a reader loads the value of the cell in hand, which it gathers
abbrev Gathering : Activity → Type 0
Gathering (Activity.Read Read.Value) = Unit {0}
Gathering (Activity.Read Read.LeftOverValue) = Unit {0}
Gathering _ = ⊥

-- it takes cells
gathering_takes : (a : Activity) → Gathering a → IsTaking a
gathering_takes (Activity.Read Read.Value) x = tt
gathering_takes (Activity.Read Read.LeftOverValue) x = tt
gathering_takes _ x = absurd x

-- and fewer than there are cells are gathered: the one in hand is not
gathering_room : (z : Sizes) (row : Row) (a : Activity) (l : Local) → Gathering a → ReadsList z.cells row a l → Apart z row a l → l.place < z.cells → length l.gathered < z.cells
gathering_room z row (Activity.Read Read.Value) l x k m w = gather_room z row (Activity.Read Read.Value) l None m w (hand_fresh z row l k m) (m.hand tt)
gathering_room z row (Activity.Read Read.LeftOverValue) l x k m w = gather_room z row (Activity.Read Read.LeftOverValue) l None m w (m.fresh tt) (m.hand tt)
gathering_room z row _ l x k m w = absurd x

-- only the load of a value gathers a cell
room_for : (z : Sizes) (a : Activity) (choice : Choice) (l : Local) (found : ℕ) (o : Origins) (h : History) (settled : ℕ) (g : SeatLog) → (Gathering a → (length g.ids < z.cells) × (length l.gathered ≡ length g.ids)) → HasRoomFor z.cells (remark_of z a choice l found o h settled) g
room_for z (Activity.Read Read.Value) choice l found o h settled g f = let x = f tt in (x.0, omega (arith, index_in-within (cell_in_hand (value_of_word found) l) l.gathered, x.1))
room_for z (Activity.Read Read.LeftOverValue) choice l found o h settled g f = let x = f tt in (x.0, omega (arith, index_in-within (cell_in_hand (value_of_word found) l) l.gathered, x.1))
room_for z Activity.Idle (Begin call) l found o h settled g f = tt
room_for z Activity.Idle Go l found o h settled g f = tt
room_for z Activity.Idle (Guess r) l found o h settled g f = tt
room_for z Activity.Idle Stop l found o h settled g f = tt
room_for z (Activity.Draw Draw.Settle) choice l found o h settled g f = saw (found == scan_word (Waiting l.waiting)) refl
  where
    saw : (b : Bool) → (found == scan_word (Waiting l.waiting)) ≡ b → HasRoomFor z.cells (remark_of z (Activity.Draw Draw.Settle) choice l found o h settled) g
    saw true e = rw e tt
    saw false e = rw e tt
room_for z (Activity.Look (Look.Entry i)) choice l found o h settled g f = saw (i == 0) refl
  where
    saw : (b : Bool) → (i == 0) ≡ b → HasRoomFor z.cells (remark_of z (Activity.Look (Look.Entry i)) choice l found o h settled) g
    saw true e = rw e tt
    saw false e = rw e tt
room_for z (Activity.Put Put.Add) choice l found o h settled g f = saw (has_room z (count_of found)) refl
  where
    saw : (b : Bool) → has_room z (count_of found) ≡ b → HasRoomFor z.cells (remark_of z (Activity.Put Put.Add) choice l found o h settled) g
    saw true e = rw e tt
    saw false e = rw e tt
room_for z (Activity.Rebalance (Rebalance.Engage Engage.Clock)) choice l found o h settled g f = tt
room_for z (Activity.Rebalance (Rebalance.Freeze Freeze.Count)) choice l found o h settled g f = tt
room_for z _ choice l found o h settled g f = tt

-- All of it.

-- all that the event's entry names is there
pub can_settle : (z : Sizes) (k : Recording) (r : Run) (e : Event) (l : Local) → Records z k r → Inv z r → IsBegun l.activity e.choice → slice_get r.world.locals e.seat ≡ Some l → is_skipped l.activity e.choice ≡ false →
    CanSettle z (prepared z k r e l) (entry_of z k l (happening_at z r.world e l))
unfolding transition_of
can_settle z k r e l i inv begins knows moves = record {
  some = omega (arith, length-append k.history.log (at ∷ []));
  within = within_appended k.history at _ (subst (λ (h : History). IsWithin h change) (sym i.history) (subst (IsWithin r.history) (sym (change_recorded z k r e l i inv.shape.sane knows)) (within_of r.history at _ inv.history may)));
  seat = omega (arith, slice_get_within r.world.locals e.seat l knows, i.seats);
  room = room_for z l.activity (offered r.world.rows e.choice) l (found_by z r.world e l) (origin_in z k.origins) k.history (draw_of k e.seat) (log_of k e.seat) taken;
  scan = subst (λ (n : ℕ). IsScanBelow n (settled_scan l.activity e.seat l (found_by z r.world e l) (log_of k e.seat))) (sym i.scans) (scan_below z l.activity e.seat l (found_by z r.world e l) (log_of k e.seat) (omega (arith, slice_get_within r.world.locals e.seat l knows, inv.shape.sane.seats)) known.ranges.activity);
  origin = in_table z k at _ (subst (λ (n : ℕ). IsGivenBelow z n change) (sym i.cells) (given_below z l.activity e.seat (offered r.world.rows e.choice) l (found_by z r.world e l) (log_of k e.seat) (origin_in z k.origins) r.world.rows known.below.row));
  copy = subst (λ (n : ℕ). IsCopyIn z n (copied_cell z l.activity l (origin_in z k.origins))) (sym i.cells) (copy_below z l.activity l (origin_in z k.origins) r.world.rows (infant_in_range r.world.rows l known.below) known.ranges.activity);
}
  where
    at : Logged
    at = logged_of (happening_at z r.world e l)

    change : Change
    change = (entry_of z k l (happening_at z r.world e l)).change

    known : IsKnown z r.world.rows l
    known = inv.shape.sane.locals e.seat l knows

    may : MayNote r.history at (change_of z l.activity e.seat (offered r.world.rows e.choice) l (found_by z r.world e l) (r.seats e.seat) r.origin)
    may = may_note z r (noted_by z r e l) e.seat (offered r.world.rows e.choice) l l.activity _ (happens z r e l inv.shape.sane begins knows moves) inv

    taken : Gathering l.activity → (length (log_of k e.seat).ids < z.cells) × (length l.gathered ≡ length (log_of k e.seat).ids)
    taken is =
        let copies = as_many r.history r.origin l.row l.call l.gathered (r.seats e.seat).ids ((inv.readers.gathers e.seat l knows).taking (gathering_takes l.activity is)) in
        let same = ap (λ (x : SeatLog). length x.ids) (i.logs e.seat (slice_get_within r.world.locals e.seat l knows)) in
        let room = gathering_room z _ l.activity l is (inv.readers.walks e.seat l knows) (inv.readers.apart e.seat l knows (gathering_takes l.activity is)) known.ranges.place in
        (omega (arith, copies, same, room), omega (arith, copies, same))

-- a call that may begin does so whether or not the choice is offered
pub can_offer : (rows : ℕ) (choice : Choice) (l : Local) → CanBegin choice l → CanBegin (offered rows choice) l
can_offer rows choice l h = which l.activity choice h
  where
    which : (a : Activity) (c : Choice) → CanBeginAt a c l → CanBeginAt a (offered rows c) l
    which Activity.Idle (Begin call) g = g
    which Activity.Idle Go g = tt
    which Activity.Idle (Guess q) g = saw (nat_lt q rows)
      where
        saw : (b : Bool) → CanBeginAt Activity.Idle (if b then Guess q else Go) l
        saw true = tt
        saw false = tt
    which Activity.Idle Stop g = tt
    which _ c g = tt

-- the call that begins is in range
pub begun_of : (choice : Choice) (l : Local) → CanBegin choice l → IsBegun l.activity choice
begun_of choice l h = which l.activity choice h
  where
    which : (a : Activity) (c : Choice) → CanBeginAt a c l → IsBegun a c
    which Activity.Idle (Begin call) g = g.0
    which _ c g = tt
