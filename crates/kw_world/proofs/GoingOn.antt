-- What every line of the table leaves, whatever was told: only the last event of a call ends it,
-- every other one that is not skipped answers that the call goes on; and an event begins at most
-- one call.
--
-- One walk over all lines says both. What needs one of them takes it from `goes_on`.
use Rattle.std.proofs.Common.{ℕ, ◌≡◌, refl, sym, ◌∙◌, ◌+◌, Option, Some, None, Bool, true, false, nat_lt, nat_le, ◌==◌, if◌then◌else◌, unwrap_or, ◌≤◌, subst, arith, length}
use Rattle.kw_words.specs.declared.pend.Pend.{Pend}
use Rattle.kw_words.specs.declared.pend.Pend.TheVariants as pend
use Rattle.kw_words.specs.declared.state.State.{State}
use Rattle.kw_words.specs.declared.state.State.TheVariants.{Free, Infant, Normal, Leader, Follower, Retired}
use Rattle.kw_words.specs.State.{state_of}
use Rattle.kw_words.specs.Link.{link_of}
use Rattle.kw_words.specs.Pend.{pend_of, pend_word}
use Rattle.kw_words.specs.Plain.{version_of_word, key_of_word, built_of_word, value_of_word, pass_of_word, cell_of_link_word, cell_link_word}
use Rattle.kw_words.specs.Count.{count_of}
use Rattle.kw_words.specs.Scan.{scan_of}
use Rattle.kw_words.specs.declared.sizes.TheConstants.{MOST_GROUP, SPENT}
use Rattle.kw_world.specs.declared.answer.Answer.{Answer}
use Rattle.kw_world.specs.declared.answer.Answer.TheVariants.{Done, Pairs, Spent}
use Rattle.kw_world.specs.Answers.{reply_of}
use Rattle.kw_world.specs.Calls.{first_key, last_key, is_in_range, is_range_empty, is_pin}
use Rattle.kw_model.specs.declared.call.Call.{Call}
use Rattle.kw_model.specs.declared.call.Call.TheVariants.{Put, Del, Get, Scan, Pin, ScanAt, Unpin}
use Rattle.kw_world.specs.declared.activity.Activity.{Activity}
use Rattle.kw_world.specs.declared.activity.draw.Draw.TheVariants as Draw
use Rattle.kw_world.specs.declared.activity.rebalance.claim.Claim.TheVariants as Claim
use Rattle.kw_world.specs.declared.activity.rebalance.engage.Engage.TheVariants as Engage
use Rattle.kw_world.specs.declared.activity.enter.Enter.TheVariants as Enter
use Rattle.kw_world.specs.declared.activity.rebalance.freeze.Freeze.TheVariants as Freeze
use Rattle.kw_world.specs.declared.activity.rebalance.gather.Gather.TheVariants as Gather
use Rattle.kw_world.specs.declared.activity.rebalance.left.Left.TheVariants as Left
use Rattle.kw_world.specs.declared.activity.insert.Insert.TheVariants as Insert
use Rattle.kw_world.specs.declared.activity.look.Look.TheVariants as Look
use Rattle.kw_world.specs.declared.activity.put.Put.TheVariants as Put
use Rattle.kw_world.specs.declared.activity.read.Read.TheVariants as Read
use Rattle.kw_world.specs.declared.activity.rebalance.Rebalance.TheVariants as Rebalance
use Rattle.kw_world.specs.declared.activity.rebalance.replace.Replace.TheVariants as Replace
use Rattle.kw_world.specs.declared.activity.rebalance.seek.Seek.TheVariants as Seek
use Rattle.kw_world.specs.declared.activity.walk.Walk.TheVariants as Walk
use Rattle.kw_world.specs.declared.activity.rebalance.write.Write.TheVariants as Write
use Rattle.kw_world.specs.declared.local.Local.{Local}
use Rattle.kw_world.specs.declared.event.Choice.{Choice}
use Rattle.kw_world.specs.declared.event.Choice.TheVariants.{Begin, Go, Guess, Stop}
use Rattle.kw_world.specs.Sizes.{Sizes}
use Rattle.kw_world.specs.Transition.{Outcome, row_linked, row_or_first, to, leave}
use Rattle.kw_world.specs.PutTransitions.{stamp_seen, has_room, given_of, tidies_row}
use Rattle.kw_world.specs.ListTransitions.{cell_guess, behind_cell, insert_started, insert_from, insert_key, insert_past, insert_tried, is_newer}
use Rattle.kw_world.specs.GroupPlaces.{at_first_row, place_in_group}
use Rattle.kw_world.specs.declared.marks.Mark.{Mark}
use Rattle.kw_world.specs.Marks.{least_mark}
use Rattle.kw_world.specs.ReadTransitions.{to_look, look_seen, help_seen, scan_on, row_read, left_over_of, to_left_over, list_started, list_reached, list_key, list_past, with_pairs, remembering, gathering}
use Rattle.kw_world.specs.ScanTransitions.{begun, entered, pin_entered, scan_at_entered, unpin_entered, settled, to_start, version_settled}
use Rattle.kw_world.specs.WalkTransitions.{guess_seen, start_transition, walk_transition, is_stopped, link_reached, walk_least, arrive}
use Rattle.kw_words.specs.declared.scan.ScanWord.{ScanWord}
use Rattle.kw_words.specs.declared.scan.ScanWord.TheVariants as scan
use Rattle.kw_words.specs.declared.link.Link.{Link}
use Rattle.kw_words.specs.State.{state_word}
use Rattle.kw_world.specs.declared.rebalance.Afterwards.{Afterwards}
use Rattle.kw_world.specs.declared.rebalance.Afterwards.TheVariants.{TryAgain, Refuse, MoveLeft}
use Rattle.kw_world.specs.EngageTransitions.{again, refuse, to_rebalance, state_seen, engaged, followed_by, to_group, claiming, counted, undecided, link_marked, decided}
use Rattle.kw_world.specs.ClaimTransitions.{to_mark_next, claimed}
use Rattle.kw_world.specs.LeftTransitions.{to_leader, first_left, left_transition, link_left}
use Rattle.kw_world.specs.FreezeTransitions.{row_frozen, to_freeze_look, marking, freeze_seen, entry_tried, to_scan_look, needing, scan_seen, scan_helped, to_pin_look, pin_seen}
use Rattle.kw_world.specs.TakeTransitions.{to_take, row_gathered, leaving_over, left_of, take_reached, keeping}
use Rattle.kw_world.specs.SeekTransitions.{given_back, give_back, gave_back, at_infant, has_more, row_behind, to_seek, to_pass, seek_seen, pass_seen, seeking, seek_first_transition, with_row, take_row}
use Rattle.kw_world.specs.WriteTransitions.{infant_cells, row_written, to_write_after, to_write_cell, to_write_entry}
use Rattle.kw_world.specs.ReplaceTransitions.{at_before, first_before, guess_before, before_transition, row_before, link_before, row_replaced, replaced, retired}
use Rattle.kw_world.specs.Table.{transition}
use Rattle.kw_world.specs.Step.{is_skipped, IsMade}
use Rattle.kw_world.specs.declared.event.StepDone.TheVariants.{Moved, Ended}
use Rattle.kw_model.specs.declared.call.Reply.{Reply}

-- what follows is that the call goes on, and the seat has begun this many
pub record Goes (n : ℕ) (o : Outcome) : Type 0 where
  pub moved : o.done ≡ Moved
  pub number : o.local.number ≡ n

-- both ways
either : {n : ℕ} (b : Bool) (p q : Outcome) → Goes n p → Goes n q → Goes n (if b then p else q)
either true p q g h = g
either false p q g h = h

looks_then : {n : ℕ} (z : Sizes) (i : ℕ) (l : Local) → l.number ≡ n → Goes n (to_look z i l)
looks_then z i l e = either (nat_lt i z.seats) _ _ (record { moved = refl; number = e }) (record { moved = refl; number = e })

looks : (z : Sizes) (i : ℕ) (l : Local) → Goes l.number (to_look z i l)
looks z i l = looks_then z i l refl

-- what is remembered changes no number
remembers : (b : Bool) (cell version : ℕ) (l : Local) → (if b then remembering cell version l else l).number ≡ l.number
remembers true cell version l = refl
remembers false cell version l = refl

look_goes : (z : Sizes) (i : ℕ) (e : Option Pend) (l : Local) → Goes l.number (look_seen z i e l)
look_goes z i (Some pend.Idle) l = looks z (i + 1) l
look_goes z i (Some (pend.Pending cell)) l = record { moved = refl; number = refl }
look_goes z i (Some (pend.Stamped cell version)) l = looks z (i + 1) (remembering cell version l)
look_goes z i (Some pend.Frozen) l = looks z (i + 1) l
look_goes z i None l = looks z (i + 1) l

help_goes : (z : Sizes) (e : Option Pend) (l : Local) → Goes l.number (help_seen z e l)
help_goes z (Some pend.Idle) l = looks z (l.looked + 1) l
help_goes z (Some (pend.Pending cell)) l = looks_then z (l.looked + 1) (if cell == l.saw then remembering cell l.helping l else l) (remembers (cell == l.saw) cell l.helping l)
help_goes z (Some (pend.Stamped cell version)) l = looks z (l.looked + 1) (remembering cell version l)
help_goes z (Some pend.Frozen) l = looks z (l.looked + 1) l
help_goes z None l = looks z (l.looked + 1) l

scan_goes : (next : Option ℕ) (upto : ℕ) (l : Local) → Goes l.number (scan_on next upto l)
scan_goes None upto l = record { moved = refl; number = refl }
scan_goes (Some r) upto l = either (nat_lt upto l.upper) _ _ (record { moved = refl; number = refl }) (record { moved = refl; number = refl })

read_goes : (call : Option Call) (l : Local) → Goes l.number (row_read call l)
read_goes (Some (Put key value)) l = record { moved = refl; number = refl }
read_goes (Some (Del key)) l = record { moved = refl; number = refl }
read_goes (Some (Get key)) l = record { moved = refl; number = refl }
read_goes (Some (Scan from upto)) l = scan_goes l.next upto (with_pairs upto l)
read_goes (Some Pin) l = record { moved = refl; number = refl }
read_goes (Some (ScanAt from upto)) l = record { moved = refl; number = refl }
read_goes (Some Unpin) l = record { moved = refl; number = refl }
read_goes None l = record { moved = refl; number = refl }

left_over_goes : (m : Option Mark) (l : Local) → Goes l.number (left_over_of m l)
left_over_goes (Some m) l = record { moved = refl; number = refl }
left_over_goes None l = read_goes l.call l

rests : (l : Local) → Goes l.number (to_left_over l)
rests l = left_over_goes (least_mark l.remembered) l

list_goes : (z : Sizes) (cell : Option ℕ) (l : Local) → Goes l.number (list_reached z cell l)
list_goes z (Some cell) l = record { moved = refl; number = refl }
list_goes z None l = rests l

list_start_goes : (z : Sizes) (guess : Option ℕ) (l : Local) (told : ℕ) → Goes l.number (list_started z l guess told)
list_start_goes z (Some cell) l told = either (nat_lt (key_of_word told) (first_key l.call)) (to (Activity.Read Read.Link) (behind_cell cell l)) (to (Activity.Read Read.Link) l) (record { moved = refl; number = refl }) (record { moved = refl; number = refl })
list_start_goes z None l told = list_goes z (cell_of_link_word told) l

list_key_goes : (key : ℕ) (l : Local) → Goes l.number (list_key key l)
list_key_goes key l = either (nat_lt key (first_key l.call)) (list_past l) _ (record { moved = refl; number = refl }) (either (nat_le key (last_key l.call)) (to (Activity.Read Read.Version) (record l { place_key = key })) (to_left_over l) (record { moved = refl; number = refl }) (rests l))

stamp_goes : (e : Option Pend) (l : Local) → Goes l.number (stamp_seen e l)
stamp_goes (Some pend.Idle) l = record { moved = refl; number = refl }
stamp_goes (Some (pend.Pending cell)) l = either (cell == l.cell) (to (Activity.Put Put.Version) l) (to_rebalance l) (record { moved = refl; number = refl }) (record { moved = refl; number = refl })
stamp_goes (Some (pend.Stamped cell version)) l = either (cell == l.cell) (to (Activity.Put Put.Version) (record l { version = version })) (to_rebalance l) (record { moved = refl; number = refl }) (record { moved = refl; number = refl })
stamp_goes (Some pend.Frozen) l = record { moved = refl; number = refl }
stamp_goes None l = record { moved = refl; number = refl }

insert_from_goes : (z : Sizes) (cell : Option ℕ) (l : Local) → Goes l.number (insert_from z cell l)
insert_from_goes z (Some cell) l = record { moved = refl; number = refl }
insert_from_goes z None l = record { moved = refl; number = refl }

insert_start_goes : (z : Sizes) (guess : Option ℕ) (l : Local) (told : ℕ) → Goes l.number (insert_started z l guess told)
insert_start_goes z (Some cell) l told = either (nat_lt (key_of_word told) (first_key l.call)) (to (Activity.Insert Insert.Link) (behind_cell cell l)) (to (Activity.Insert Insert.Link) l) (record { moved = refl; number = refl }) (record { moved = refl; number = refl })
insert_start_goes z None l told = insert_from_goes z (cell_of_link_word told) l

insert_key_goes : (key : ℕ) (l : Local) → Goes l.number (insert_key key l)
insert_key_goes key l = either (nat_lt key (first_key l.call)) _ _ (record { moved = refl; number = refl }) (either (key == first_key l.call) (to (Activity.Insert Insert.Version) l) (to (Activity.Insert Insert.Set) l) (record { moved = refl; number = refl }) (record { moved = refl; number = refl }))

insert_tried_goes : (z : Sizes) (b : Bool) (l : Local) → Goes l.number (insert_tried z b l)
insert_tried_goes z true l = record { moved = refl; number = refl }
insert_tried_goes z false l = record { moved = refl; number = refl }

arrive_goes : (call : Option Call) (l : Local) → Goes l.number (arrive call l)
arrive_goes (Some (Put key value)) l = record { moved = refl; number = refl }
arrive_goes (Some (Del key)) l = record { moved = refl; number = refl }
arrive_goes (Some (Get key)) l = record { moved = refl; number = refl }
arrive_goes (Some (Scan from upto)) l = record { moved = refl; number = refl }
arrive_goes (Some Pin) l = record { moved = refl; number = refl }
arrive_goes (Some (ScanAt from upto)) l = record { moved = refl; number = refl }
arrive_goes (Some Unpin) l = record { moved = refl; number = refl }
arrive_goes None l = record { moved = refl; number = refl }

link_goes : (r : Option ℕ) (l : Local) → Goes l.number (link_reached r l)
link_goes None l = arrive_goes l.call (record l { next = None; upper = 0 })
link_goes (Some r) l = record { moved = refl; number = refl }

guess_goes : (r : ℕ) (state : Option State) (l : Local) → Goes l.number (guess_seen r state l)
guess_goes r (Some Free) l = record { moved = refl; number = refl }
guess_goes r (Some (Infant seat)) l = record { moved = refl; number = refl }
guess_goes r (Some Normal) l = record { moved = refl; number = refl }
guess_goes r (Some (Leader count)) l = record { moved = refl; number = refl }
guess_goes r (Some (Follower leader)) l = record { moved = refl; number = refl }
guess_goes r (Some (Retired number)) l = record { moved = refl; number = refl }
guess_goes r None l = record { moved = refl; number = refl }

start_goes : (choice : Choice) (l : Local) (rows told : ℕ) → Goes l.number ((start_transition choice l).next rows told)
start_goes (Begin call) l rows told = record { moved = refl; number = refl }
start_goes Go l rows told = record { moved = refl; number = refl }
start_goes (Guess r) l rows told = guess_goes r (state_of told) l
start_goes Stop l rows told = record { moved = refl; number = refl }

walk_goes : (stopped : Bool) (s : ℕ) (l : Local) (rows told : ℕ) → Goes l.number ((walk_transition stopped s l).next rows told)
walk_goes true s l rows told = record { moved = refl; number = refl }
walk_goes false s l rows told = link_goes (row_linked (link_of told)) l

begin_goes : (choice : Choice) (epoch : ℕ) (l : Local) → is_skipped Activity.Idle choice ≡ false → Goes (l.number + 1) (begun choice epoch l)
begin_goes (Begin call) epoch l e = record { moved = refl; number = refl }
begin_goes Go epoch l e = absurd (cc)
begin_goes (Guess r) epoch l e = absurd (cc)
begin_goes Stop epoch l e = absurd (cc)

pins_goes : (p : Option ℕ) (l : Local) → Goes l.number (pin_entered p l)
pins_goes None l = record { moved = refl; number = refl }
pins_goes (Some version) l = record { moved = refl; number = refl }

scan_at_goes : (p : Option ℕ) (l : Local) → Goes l.number (scan_at_entered p l)
scan_at_goes None l = record { moved = refl; number = refl }
scan_at_goes (Some version) l = either (is_range_empty l.call) (leave Pairs (record l { version = version })) (to_start (record l { version = version })) (record { moved = refl; number = refl }) (record { moved = refl; number = refl })

unpins_goes : (p : Option ℕ) (l : Local) → Goes l.number (unpin_entered p l)
unpins_goes None l = record { moved = refl; number = refl }
unpins_goes (Some version) l = record { moved = refl; number = refl }

enter_goes : (call : Option Call) (l : Local) → Goes l.number (entered call l)
enter_goes (Some (Put key value)) l = record { moved = refl; number = refl }
enter_goes (Some (Del key)) l = record { moved = refl; number = refl }
enter_goes (Some (Get key)) l = record { moved = refl; number = refl }
enter_goes (Some (Scan from upto)) l = record { moved = refl; number = refl }
enter_goes (Some Pin) l = pins_goes l.pin l
enter_goes (Some (ScanAt from upto)) l = scan_at_goes l.pin l
enter_goes (Some Unpin) l = unpins_goes l.pin l
enter_goes None l = record { moved = refl; number = refl }

settle_goes : (version : ℕ) (l : Local) → Goes l.number (settled version l)
settle_goes version l = either (is_pin l.call) (to (Activity.Draw Draw.Pin) (record l { version = version })) (if is_range_empty l.call then to (Activity.EndScan Pairs) (record l { version = version }) else to_start (record l { version = version })) (record { moved = refl; number = refl }) (either (is_range_empty l.call) (to (Activity.EndScan Pairs) (record l { version = version })) (to_start (record l { version = version })) (record { moved = refl; number = refl }) (record { moved = refl; number = refl }))

walk_least_goes : (least built : ℕ) (l : Local) → Goes l.number (walk_least least built l)
walk_least_goes least built l = either (nat_le least l.want) (to (Activity.Walk Walk.Next) (record l { row = l.candidate; lower = least; built = built })) (arrive l.call (record l { next = Some l.candidate; upper = least })) (record { moved = refl; number = refl }) (arrive_goes l.call (record l { next = Some l.candidate; upper = least }))

state_goes : (state : Option State) (l : Local) → Goes l.number (state_seen state l)
state_goes (Some Free) l = record { moved = refl; number = refl }
state_goes (Some (Infant seat)) l = record { moved = refl; number = refl }
state_goes (Some Normal) l = record { moved = refl; number = refl }
state_goes (Some (Leader count)) l = record { moved = refl; number = refl }
state_goes (Some (Follower leader)) l = record { moved = refl; number = refl }
state_goes (Some (Retired number)) l = record { moved = refl; number = refl }
state_goes None l = record { moved = refl; number = refl }

engaged_goes : (b : Bool) (l : Local) → Goes l.number (engaged b l)
engaged_goes true l = record { moved = refl; number = refl }
engaged_goes false l = record { moved = refl; number = refl }

claiming_goes : (after : Option ℕ) (l : Local) → Goes l.number (claiming after l)
claiming_goes (Some r) l = record { moved = refl; number = refl }
claiming_goes None l = record { moved = refl; number = refl }

counted_goes : (count : ℕ) (l : Local) → Goes l.number (counted count l)
counted_goes count l = either (count == MOST_GROUP) (claiming l.rebalance.after l) (to_group l) (claiming_goes l.rebalance.after l) (record { moved = refl; number = refl })

undecided_goes : (after : Option ℕ) (l : Local) → Goes l.number (undecided after l)
undecided_goes (Some r) l = record { moved = refl; number = refl }
undecided_goes None l = record { moved = refl; number = refl }

marked_goes : (count : ℕ) (after : Option ℕ) (l : Local) → Goes l.number (link_marked count after l)
marked_goes count after l = either (count == 0) (undecided after (followed_by after l)) (counted count (followed_by after l)) (undecided_goes after (followed_by after l)) (counted_goes count (followed_by after l))

decided_goes : (count : ℕ) (state : Option State) (l : Local) → Goes l.number (decided count state l)
decided_goes count (Some Free) l = record { moved = refl; number = refl }
decided_goes count (Some (Infant seat)) l = record { moved = refl; number = refl }
decided_goes count (Some Normal) l = record { moved = refl; number = refl }
decided_goes count (Some (Leader found)) l = counted_goes (if found == 0 then count else found) l
decided_goes count (Some (Follower leader)) l = record { moved = refl; number = refl }
decided_goes count (Some (Retired number)) l = record { moved = refl; number = refl }
decided_goes count None l = record { moved = refl; number = refl }

claimed_goes : (state : Option State) (l : Local) → Goes l.number (claimed state l)
claimed_goes (Some Free) l = record { moved = refl; number = refl }
claimed_goes (Some (Infant seat)) l = record { moved = refl; number = refl }
claimed_goes (Some Normal) l = record { moved = refl; number = refl }
claimed_goes (Some (Leader count)) l = record { moved = refl; number = refl }
claimed_goes (Some (Follower leader)) l = either (leader == l.row) (to_mark_next l) (again l) (record { moved = refl; number = refl }) (record { moved = refl; number = refl })
claimed_goes (Some (Retired number)) l = record { moved = refl; number = refl }
claimed_goes None l = record { moved = refl; number = refl }

first_left_goes : (r : ℕ) (l : Local) → Goes l.number (first_left r l)
first_left_goes r l = either (r == l.row) (again l) (to (Activity.Rebalance (Rebalance.Left Left.Next)) (at_before (Some r) 0 l)) (record { moved = refl; number = refl }) (record { moved = refl; number = refl })

left_start_goes : (choice : Choice) (l : Local) (rows told : ℕ) → Goes l.number ((left_transition choice l).next rows told)
left_start_goes (Begin call) l rows told = first_left_goes (row_or_first (row_linked (link_of told))) l
left_start_goes Go l rows told = first_left_goes (row_or_first (row_linked (link_of told))) l
left_start_goes (Guess r) l rows told = record { moved = refl; number = refl }
left_start_goes Stop l rows told = first_left_goes (row_or_first (row_linked (link_of told))) l

link_left_goes : (r : Option ℕ) (l : Local) → Goes l.number (link_left r l)
link_left_goes (Some r) l = either (r == l.row) (to_leader l) (to (Activity.Rebalance (Rebalance.Left Left.NextLeast)) (record l { candidate = r })) (record { moved = refl; number = refl }) (record { moved = refl; number = refl })
link_left_goes None l = record { moved = refl; number = refl }

row_frozen_goes : (ahead : Option ℕ) (l : Local) → Goes l.number (row_frozen ahead l)
row_frozen_goes (Some r) l = record { moved = refl; number = refl }
row_frozen_goes None l = record { moved = refl; number = refl }

freeze_looks : (z : Sizes) (i : ℕ) (l : Local) → Goes l.number (to_freeze_look z i l)
freeze_looks z i l = either (nat_lt i z.seats) (to (Activity.Rebalance (Rebalance.Freeze (Freeze.Look i))) l) (row_frozen l.rebalance.ahead l) (record { moved = refl; number = refl }) (row_frozen_goes l.rebalance.ahead l)

freeze_goes : (z : Sizes) (i : ℕ) (e : Option Pend) (l : Local) → Goes l.number (freeze_seen z i e l)
freeze_goes z i (Some pend.Idle) l = record { moved = refl; number = refl }
freeze_goes z i (Some (pend.Pending cell)) l = record { moved = refl; number = refl }
freeze_goes z i (Some (pend.Stamped cell version)) l = freeze_looks z (i + 1) (marking z cell version l)
freeze_goes z i (Some pend.Frozen) l = freeze_looks z (i + 1) l
freeze_goes z i None l = freeze_looks z (i + 1) l

entry_goes : (z : Sizes) (i : ℕ) (b : Bool) (l : Local) → Goes l.number (entry_tried z i b l)
entry_goes z i true l = freeze_looks z (i + 1) l
entry_goes z i false l = record { moved = refl; number = refl }

scan_looks_then : {n : ℕ} (z : Sizes) (i : ℕ) (l : Local) → l.number ≡ n → Goes n (to_scan_look z i l)
scan_looks_then z i l e = either (nat_lt i z.seats) (to (Activity.Rebalance (Rebalance.Freeze (Freeze.Scan i))) l) (to_take l) (record { moved = refl; number = e }) (record { moved = refl; number = e })

scan_seen_goes : (z : Sizes) (i : ℕ) (w : Option ScanWord) (l : Local) → Goes l.number (scan_seen z i w l)
scan_seen_goes z i (Some scan.Quiet) l = scan_looks_then z (i + 1) l refl
scan_seen_goes z i (Some (scan.Waiting clock)) l = record { moved = refl; number = refl }
scan_seen_goes z i (Some (scan.Drawn version)) l = scan_looks_then z (i + 1) (needing version l) refl
scan_seen_goes z i None l = scan_looks_then z (i + 1) l refl

-- what is needed changes no number
needs : (b : Bool) (version : ℕ) (l : Local) → (if b then needing version l else l).number ≡ l.number
needs true version l = refl
needs false version l = refl

helped_goes : (z : Sizes) (i : ℕ) (w : Option ScanWord) (l : Local) → Goes l.number (scan_helped z i w l)
helped_goes z i (Some scan.Quiet) l = scan_looks_then z (i + 1) l refl
helped_goes z i (Some (scan.Waiting clock)) l = scan_looks_then z (i + 1) (if clock == l.rebalance.waiting then needing l.rebalance.drawn l else l) (needs (clock == l.rebalance.waiting) l.rebalance.drawn l)
helped_goes z i (Some (scan.Drawn version)) l = scan_looks_then z (i + 1) (needing version l) refl
helped_goes z i None l = scan_looks_then z (i + 1) l refl

pin_looks_then : {n : ℕ} (z : Sizes) (i : ℕ) (l : Local) → l.number ≡ n → Goes n (to_pin_look z i l)
pin_looks_then z i l e = either (nat_lt i z.seats) (to (Activity.Rebalance (Rebalance.Freeze (Freeze.Pin i))) l) (to_take l) (record { moved = refl; number = e }) (record { moved = refl; number = e })

pin_seen_goes : (z : Sizes) (i : ℕ) (w : Option ScanWord) (l : Local) → Goes l.number (pin_seen z i w l)
pin_seen_goes z i (Some scan.Quiet) l = pin_looks_then z (i + 1) l refl
pin_seen_goes z i (Some (scan.Waiting clock)) l = pin_looks_then z (i + 1) l refl
pin_seen_goes z i (Some (scan.Drawn version)) l = pin_looks_then z (i + 1) (needing version l) refl
pin_seen_goes z i None l = pin_looks_then z (i + 1) l refl

row_gathered_goes : (z : Sizes) (ahead : Option ℕ) (l : Local) → Goes l.number (row_gathered z ahead l)
row_gathered_goes z (Some r) l = record { moved = refl; number = refl }
row_gathered_goes z None l = record { moved = refl; number = refl }

left_goes : (z : Sizes) (m : Option Mark) (l : Local) → Goes l.number (left_of z m l)
left_goes z (Some m) l = either (nat_lt m.cell (place_in_group z l.rebalance z.cells)) (to (Activity.Rebalance (Rebalance.Gather Gather.LeftOverKey)) (leaving_over z m l)) (row_gathered z l.rebalance.ahead l) (record { moved = refl; number = refl }) (row_gathered_goes z l.rebalance.ahead l)
left_goes z None l = row_gathered_goes z l.rebalance.ahead l

take_goes : (z : Sizes) (cell : Option ℕ) (l : Local) → Goes l.number (take_reached z cell l)
take_goes z (Some cell) l = record { moved = refl; number = refl }
take_goes z None l = left_goes z (least_mark l.rebalance.marks) l

given_back_goes : (a : Afterwards) (l : Local) → Goes l.number (given_back a l)
given_back_goes TryAgain l = record { moved = refl; number = refl }
given_back_goes Refuse l = record { moved = refl; number = refl }
given_back_goes MoveLeft l = record { moved = refl; number = refl }

give_back_goes : (a : Afterwards) (l : Local) → Goes l.number (give_back a l)
give_back_goes a l = either (nat_lt 0 (length l.rebalance.taken)) (to (Activity.Rebalance (Rebalance.Seek Seek.GiveBack)) (record l { rebalance = record l.rebalance { at = 0; afterwards = a } })) (given_back a l) (record { moved = refl; number = refl }) (given_back_goes a l)

gave_back_goes : (l : Local) → Goes l.number (gave_back l)
gave_back_goes l = either (has_more l) (to (Activity.Rebalance (Rebalance.Seek Seek.GiveBack)) (at_infant (l.rebalance.at + 1) l)) (given_back l.rebalance.afterwards l) (record { moved = refl; number = refl }) (given_back_goes l.rebalance.afterwards l)

seeks : (rows : ℕ) (l : Local) → Goes l.number (to_seek rows l)
seeks rows l = either (nat_lt l.rebalance.asked rows) (to (Activity.Rebalance (Rebalance.Seek Seek.Next)) (record l { rebalance = record l.rebalance { sought = row_behind rows l.rebalance.sought; asked = l.rebalance.asked + 1 } })) (give_back Refuse l) (record { moved = refl; number = refl }) (give_back_goes Refuse l)

passes_then : (z : Sizes) (i : ℕ) (l : Local) → Goes l.number (to_pass z i l)
passes_then z i l = either (nat_lt i z.seats) (to (Activity.Rebalance (Rebalance.Seek (Seek.Pass i))) l) (to (Activity.Rebalance (Rebalance.Seek Seek.Reclaim)) l) (record { moved = refl; number = refl }) (record { moved = refl; number = refl })

seek_goes : (rows : ℕ) (state : Option State) (l : Local) → Goes l.number (seek_seen rows state l)
seek_goes rows (Some Free) l = record { moved = refl; number = refl }
seek_goes rows (Some (Infant seat)) l = seeks rows l
seek_goes rows (Some Normal) l = seeks rows l
seek_goes rows (Some (Leader count)) l = seeks rows l
seek_goes rows (Some (Follower leader)) l = seeks rows l
seek_goes rows (Some (Retired number)) l = record { moved = refl; number = refl }
seek_goes rows None l = seeks rows l

seek_first_goes : (choice : Choice) (l : Local) (rows told : ℕ) → Goes l.number ((seek_first_transition choice l).next rows told)
seek_first_goes (Begin call) l rows told = seek_goes rows (state_of told) (seeking l.rebalance.sought l)
seek_first_goes Go l rows told = seek_goes rows (state_of told) (seeking l.rebalance.sought l)
seek_first_goes (Guess r) l rows told = seek_goes rows (state_of told) (seeking r l)
seek_first_goes Stop l rows told = seek_goes rows (state_of told) (seeking l.rebalance.sought l)

pass_goes : (z : Sizes) (i rows : ℕ) (epoch : Option ℕ) (l : Local) → Goes l.number (pass_seen z i rows epoch l)
pass_goes z i rows (Some epoch) l = either (nat_le epoch l.rebalance.number) (to_seek rows l) (to_pass z (i + 1) l) (seeks rows l) (passes_then z (i + 1) l)
pass_goes z i rows None l = passes_then z (i + 1) l

take_row_goes : (rows : ℕ) (b : Bool) (l : Local) → Goes l.number (take_row rows b l)
take_row_goes rows true l = either (nat_lt (length (with_row l).rebalance.taken) (length l.rebalance.starts)) (to_seek rows (with_row l)) (to (Activity.Rebalance (Rebalance.Write Write.Count)) (at_infant 0 (with_row l))) (seeks rows (with_row l)) (record { moved = refl; number = refl })
take_row_goes rows false l = seeks rows l

row_written_goes : (l : Local) → Goes l.number (row_written l)
row_written_goes l = either (has_more l) (to (Activity.Rebalance (Rebalance.Write Write.Count)) (at_infant (l.rebalance.at + 1) l)) (to (Activity.Rebalance (Rebalance.Replace Replace.Start)) l) (record { moved = refl; number = refl }) (record { moved = refl; number = refl })

write_cell_goes : (z : Sizes) (j : ℕ) (l : Local) → Goes l.number (to_write_cell z j l)
write_cell_goes z j l = either (nat_lt j z.cells) (if nat_lt j (length (infant_cells l)) then to (Activity.Rebalance (Rebalance.Write (Write.Key j))) l else to (Activity.Rebalance (Rebalance.Write (Write.Version j))) l) (row_written l) (either (nat_lt j (length (infant_cells l))) (to (Activity.Rebalance (Rebalance.Write (Write.Key j))) l) (to (Activity.Rebalance (Rebalance.Write (Write.Version j))) l) (record { moved = refl; number = refl }) (record { moved = refl; number = refl })) (row_written_goes l)

write_after_goes : (z : Sizes) (j : ℕ) (l : Local) → Goes l.number (to_write_after z j l)
write_after_goes z j l = either (nat_lt j (length (infant_cells l))) (to (Activity.Rebalance (Rebalance.Write (Write.After j))) l) (to_write_cell z (j + 1) l) (record { moved = refl; number = refl }) (write_cell_goes z (j + 1) l)

write_entry_goes : (z : Sizes) (i : ℕ) (l : Local) → Goes l.number (to_write_entry z i l)
write_entry_goes z i l = either (nat_lt i z.seats) (to (Activity.Rebalance (Rebalance.Write (Write.Entry i))) l) (to_write_cell z 0 l) (record { moved = refl; number = refl }) (write_cell_goes z 0 l)

first_before_goes : (r : ℕ) (l : Local) → Goes l.number (first_before r l)
first_before_goes r l = either (r == l.row) (to (Activity.Rebalance (Rebalance.Replace Replace.Exchange)) (at_before None 0 l)) (to (Activity.Rebalance (Rebalance.Replace Replace.Next)) (at_before (Some r) 0 l)) (record { moved = refl; number = refl }) (record { moved = refl; number = refl })

guess_before_goes : (r : ℕ) (state : Option State) (l : Local) → Goes l.number (guess_before r state l)
guess_before_goes r (Some Free) l = record { moved = refl; number = refl }
guess_before_goes r (Some (Infant seat)) l = record { moved = refl; number = refl }
guess_before_goes r (Some Normal) l = record { moved = refl; number = refl }
guess_before_goes r (Some (Leader count)) l = record { moved = refl; number = refl }
guess_before_goes r (Some (Follower leader)) l = record { moved = refl; number = refl }
guess_before_goes r (Some (Retired number)) l = record { moved = refl; number = refl }
guess_before_goes r None l = record { moved = refl; number = refl }

before_goes : (choice : Choice) (l : Local) (rows told : ℕ) → Goes l.number ((before_transition choice l).next rows told)
before_goes (Begin call) l rows told = first_before_goes (row_or_first (row_linked (link_of told))) l
before_goes Go l rows told = first_before_goes (row_or_first (row_linked (link_of told))) l
before_goes (Guess r) l rows told = guess_before_goes r (state_of told) l
before_goes Stop l rows told = first_before_goes (row_or_first (row_linked (link_of told))) l

row_before_goes : (r : Option ℕ) (marked : Bool) (l : Local) → Goes l.number (row_before r marked l)
row_before_goes (Some r) marked l = either (r == l.row) (if marked then give_back MoveLeft l else to (Activity.Rebalance (Rebalance.Replace Replace.Exchange)) l) (to (Activity.Rebalance (Rebalance.Replace Replace.NextLeast)) (record l { candidate = r })) (either marked (give_back MoveLeft l) (to (Activity.Rebalance (Rebalance.Replace Replace.Exchange)) l) (give_back_goes MoveLeft l) (record { moved = refl; number = refl })) (record { moved = refl; number = refl })
row_before_goes None marked l = give_back_goes TryAgain l

link_before_goes : (link : Option Link) (l : Local) → Goes l.number (link_before link l)
link_before_goes (Some link) l = row_before_goes link.row link.marked l
link_before_goes None l = give_back_goes TryAgain l

row_replaced_goes : (r : Option ℕ) (marked : Bool) (l : Local) → Goes l.number (row_replaced r marked l)
row_replaced_goes (Some r) marked l = either (r == l.row) (if marked then give_back MoveLeft l else to (Activity.Rebalance (Rebalance.Replace Replace.Normalise)) (at_infant 0 l)) (give_back TryAgain l) (either marked (give_back MoveLeft l) (to (Activity.Rebalance (Rebalance.Replace Replace.Normalise)) (at_infant 0 l)) (give_back_goes MoveLeft l) (record { moved = refl; number = refl })) (give_back_goes TryAgain l)
row_replaced_goes None marked l = give_back_goes TryAgain l

replaced_goes : (link : Option Link) (l : Local) → Goes l.number (replaced link l)
replaced_goes (Some link) l = row_replaced_goes link.row link.marked l
replaced_goes None l = give_back_goes TryAgain l

retired_goes : (ahead : Option ℕ) (l : Local) → Goes l.number (retired ahead l)
retired_goes (Some r) l = record { moved = refl; number = refl }
retired_goes None l = record { moved = refl; number = refl }

-- the event is not the last of a call
abbrev pub IsBeforeLast : Activity → Type 0
IsBeforeLast (Activity.Leave answer) = ⊥
IsBeforeLast _ = Unit {0}

-- how many calls the seat has begun after an event that is not the last of a call
abbrev pub begun_after : Activity → Local → ℕ
begun_after Activity.Idle l = l.number + 1
begun_after _ l = l.number

-- a seat that is not about to leave goes on, whatever it was told
pub goes_on : (z : Sizes) (a : Activity) (s : ℕ) (choice : Choice) (l : Local) (rows told : ℕ) → is_skipped a choice ≡ false → IsBeforeLast a → Goes (begun_after a l) ((transition z a s choice l).next rows told)
goes_on z Activity.Idle s choice l rows told e n = begin_goes choice told l e
goes_on z (Activity.Enter Enter.Announce) s choice l rows told e n = enter_goes l.call l
goes_on z (Activity.Draw Draw.Clock) s choice l rows told e n = either (nat_le SPENT told) (leave Spent l) (to (Activity.Draw Draw.Wait) (record l { waiting = told })) (record { moved = refl; number = refl }) (record { moved = refl; number = refl })
goes_on z (Activity.Draw Draw.Wait) s choice l rows told e n = record { moved = refl; number = refl }
goes_on z (Activity.Draw Draw.Version) s choice l rows told e n = record { moved = refl; number = refl }
goes_on z (Activity.Draw Draw.Settle) s choice l rows told e n = settle_goes (version_settled (scan_of told) l.drawn) l
goes_on z (Activity.Draw Draw.Pin) s choice l rows told e n = record { moved = refl; number = refl }
goes_on z (Activity.Walk Walk.Start) s choice l rows told e n = start_goes choice l rows told
goes_on z (Activity.Walk Walk.First) s choice l rows told e n = record { moved = refl; number = refl }
goes_on z (Activity.Walk Walk.GuessedLeast) s choice l rows told e n = either (nat_le (key_of_word told) l.want) (to (Activity.Walk Walk.Next) (record l { lower = key_of_word told; built = built_of_word told })) (to (Activity.Walk Walk.First) l) (record { moved = refl; number = refl }) (record { moved = refl; number = refl })
goes_on z (Activity.Walk Walk.Next) s choice l rows told e n = walk_goes (is_stopped choice l) s l rows told
goes_on z (Activity.Walk Walk.NextLeast) s choice l rows told e n = walk_least_goes (key_of_word told) (built_of_word told) l
goes_on z (Activity.Look (Look.Entry i)) s choice l rows told e n = look_goes z i (pend_of told) l
goes_on z (Activity.Look Look.Key) s choice l rows told e n = either (is_in_range l.call (key_of_word told)) (to (Activity.Look Look.Clock) l) (to_look z (l.looked + 1) l) (record { moved = refl; number = refl }) (looks z (l.looked + 1) l)
goes_on z (Activity.Look Look.Clock) s choice l rows told e n = record { moved = refl; number = refl }
goes_on z (Activity.Look Look.Help) s choice l rows told e n = help_goes z (pend_of told) l
goes_on z (Activity.Read Read.Start) s choice l rows told e n = list_start_goes z (cell_guess choice l) l told
goes_on z (Activity.Read Read.Link) s choice l rows told e n = list_goes z (cell_of_link_word told) l
goes_on z (Activity.Read Read.Key) s choice l rows told e n = list_key_goes (key_of_word told) l
goes_on z (Activity.Read Read.Version) s choice l rows told e n = record { moved = refl; number = refl }
goes_on z (Activity.Read Read.Value) s choice l rows told e n = record { moved = refl; number = refl }
goes_on z (Activity.Read Read.LeftOverKey) s choice l rows told e n = either (is_in_range l.call (key_of_word told)) (to (Activity.Read Read.LeftOverValue) (record l { place_key = key_of_word told })) (to_left_over l) (record { moved = refl; number = refl }) (rests l)
goes_on z (Activity.Read Read.LeftOverValue) s choice l rows told e n = rests (gathering z (value_of_word told) l)
goes_on z (Activity.EndScan answer) s choice l rows told e n = record { moved = refl; number = refl }
goes_on z Activity.ClearPin s choice l rows told e n = record { moved = refl; number = refl }
goes_on z (Activity.Put Put.Count) s choice l rows told e n = either (has_room z (count_of told)) (to (Activity.Put Put.Add) l) (to_rebalance l) (record { moved = refl; number = refl }) (record { moved = refl; number = refl })
goes_on z (Activity.Put Put.Add) s choice l rows told e n = either (has_room z (count_of told)) (to (Activity.Put Put.Key) (record l { cell = given_of (count_of told) })) (to_rebalance l) (record { moved = refl; number = refl }) (record { moved = refl; number = refl })
goes_on z (Activity.Put Put.Announce) s choice l rows told e n = either (told == pend_word pend.Idle) (to (Activity.Put Put.Clock) l) (to_rebalance l) (record { moved = refl; number = refl }) (record { moved = refl; number = refl })
goes_on z (Activity.Put Put.Stamp) s choice l rows told e n = stamp_goes (pend_of told) l
goes_on z (Activity.Insert Insert.Start) s choice l rows told e n = insert_start_goes z (cell_guess choice l) l told
goes_on z (Activity.Insert Insert.Link) s choice l rows told e n = insert_from_goes z (cell_of_link_word told) l
goes_on z (Activity.Insert Insert.Key) s choice l rows told e n = insert_key_goes (key_of_word told) l
goes_on z (Activity.Insert Insert.Version) s choice l rows told e n = either (is_newer (unwrap_or (version_of_word told) 0) l.place l) (insert_past l) (to (Activity.Insert Insert.Set) l) (record { moved = refl; number = refl }) (record { moved = refl; number = refl })
goes_on z (Activity.Insert Insert.Set) s choice l rows told e n = record { moved = refl; number = refl }
goes_on z (Activity.Insert Insert.Exchange) s choice l rows told e n = insert_tried_goes z (told == cell_link_word l.held) l
goes_on z (Activity.Put Put.Clear) s choice l rows told e n = either (tidies_row rows choice l) (to_rebalance (record l { tidies = true })) (leave Done l) (record { moved = refl; number = refl }) (record { moved = refl; number = refl })
goes_on z (Activity.Put _) s choice l rows told e n = record { moved = refl; number = refl }
goes_on z (Activity.Leave answer) s choice l rows told e n = absurd n
goes_on z Activity.Retry s choice l rows told e n = record { moved = refl; number = refl }
goes_on z (Activity.Enter Enter.LoadEpoch) s choice l rows told e n = record { moved = refl; number = refl }
goes_on z (Activity.Rebalance (Rebalance.Engage Engage.Clock)) s choice l rows told e n = either (nat_le SPENT told) (refuse Spent l) (to (Activity.Rebalance (Rebalance.Engage Engage.Epoch)) l) (record { moved = refl; number = refl }) (record { moved = refl; number = refl })
goes_on z (Activity.Rebalance (Rebalance.Engage Engage.Epoch)) s choice l rows told e n = either (nat_le SPENT told) (refuse Spent l) (to (Activity.Rebalance (Rebalance.Engage Engage.State)) l) (record { moved = refl; number = refl }) (record { moved = refl; number = refl })
goes_on z (Activity.Rebalance (Rebalance.Engage Engage.State)) s choice l rows told e n = state_goes (state_of told) l
goes_on z (Activity.Rebalance (Rebalance.Engage (Engage.Normal seat))) s choice l rows told e n = record { moved = refl; number = refl }
goes_on z (Activity.Rebalance (Rebalance.Engage Engage.Lead)) s choice l rows told e n = engaged_goes (told == state_word Normal) l
goes_on z (Activity.Rebalance (Rebalance.Engage (Engage.MarkLink count))) s choice l rows told e n = marked_goes count (row_linked (link_of told)) l
goes_on z (Activity.Rebalance (Rebalance.Engage (Engage.Decide count))) s choice l rows told e n = decided_goes count (state_of told) l
goes_on z (Activity.Rebalance (Rebalance.Claim Claim.Exchange)) s choice l rows told e n = claimed_goes (state_of told) l
goes_on z (Activity.Rebalance (Rebalance.Claim _)) s choice l rows told e n = record { moved = refl; number = refl }
goes_on z (Activity.Rebalance (Rebalance.Left Left.Start)) s choice l rows told e n = left_start_goes choice l rows told
goes_on z (Activity.Rebalance (Rebalance.Left Left.Next)) s choice l rows told e n = link_left_goes (row_linked (link_of told)) l
goes_on z (Activity.Rebalance (Rebalance.Left Left.NextLeast)) s choice l rows told e n = either (nat_lt (key_of_word told) l.lower) (to (Activity.Rebalance (Rebalance.Left Left.Next)) (at_before (Some l.candidate) (key_of_word told) l)) (again l) (record { moved = refl; number = refl }) (record { moved = refl; number = refl })
goes_on z (Activity.Rebalance (Rebalance.Freeze Freeze.Count)) s choice l rows told e n = record { moved = refl; number = refl }
goes_on z (Activity.Rebalance (Rebalance.Freeze (Freeze.Look i))) s choice l rows told e n = freeze_goes z i (pend_of told) l
goes_on z (Activity.Rebalance (Rebalance.Freeze (Freeze.Entry i))) s choice l rows told e n = entry_goes z i (told == pend_word l.rebalance.entry) l
goes_on z (Activity.Rebalance (Rebalance.Freeze (Freeze.Scan i))) s choice l rows told e n = scan_seen_goes z i (scan_of told) l
goes_on z (Activity.Rebalance (Rebalance.Freeze (Freeze.Draw i))) s choice l rows told e n = record { moved = refl; number = refl }
goes_on z (Activity.Rebalance (Rebalance.Freeze (Freeze.Settle i))) s choice l rows told e n = helped_goes z i (scan_of told) l
goes_on z (Activity.Rebalance (Rebalance.Freeze (Freeze.Pin i))) s choice l rows told e n = pin_seen_goes z i (scan_of told) l
goes_on z (Activity.Rebalance (Rebalance.Gather Gather.Link)) s choice l rows told e n = take_goes z (cell_of_link_word told) l
goes_on z (Activity.Rebalance (Rebalance.Gather Gather.LeftOverValue)) s choice l rows told e n = left_goes z (least_mark l.rebalance.marks) (keeping z (value_of_word told) l)
goes_on z (Activity.Rebalance (Rebalance.Gather _)) s choice l rows told e n = record { moved = refl; number = refl }
goes_on z (Activity.Rebalance (Rebalance.Seek Seek.First)) s choice l rows told e n = seek_first_goes choice l rows told
goes_on z (Activity.Rebalance (Rebalance.Seek Seek.Next)) s choice l rows told e n = seek_goes rows (state_of told) (seeking l.rebalance.sought l)
goes_on z (Activity.Rebalance (Rebalance.Seek (Seek.Pass i))) s choice l rows told e n = pass_goes z i rows (pass_of_word told) l
goes_on z (Activity.Rebalance (Rebalance.Seek Seek.Reclaim)) s choice l rows told e n = record { moved = refl; number = refl }
goes_on z (Activity.Rebalance (Rebalance.Seek Seek.Take)) s choice l rows told e n = take_row_goes rows (told == state_word Free) l
goes_on z (Activity.Rebalance (Rebalance.Seek Seek.GiveBack)) s choice l rows told e n = gave_back_goes l
goes_on z (Activity.Rebalance (Rebalance.Write Write.First)) s choice l rows told e n = write_entry_goes z 0 l
goes_on z (Activity.Rebalance (Rebalance.Write (Write.Entry i))) s choice l rows told e n = write_entry_goes z (i + 1) l
goes_on z (Activity.Rebalance (Rebalance.Write (Write.Version j))) s choice l rows told e n = write_after_goes z j l
goes_on z (Activity.Rebalance (Rebalance.Write (Write.After j))) s choice l rows told e n = write_cell_goes z (j + 1) l
goes_on z (Activity.Rebalance (Rebalance.Write _)) s choice l rows told e n = record { moved = refl; number = refl }
goes_on z (Activity.Rebalance (Rebalance.Replace Replace.Start)) s choice l rows told e n = before_goes choice l rows told
goes_on z (Activity.Rebalance (Rebalance.Replace Replace.GuessedLeast)) s choice l rows told e n = either (nat_lt (key_of_word told) l.lower) (to (Activity.Rebalance (Rebalance.Replace Replace.Next)) (record l { rebalance = record l.rebalance { least = key_of_word told } })) (to (Activity.Rebalance (Rebalance.Replace Replace.First)) (record l { rebalance = record l.rebalance { before = None } })) (record { moved = refl; number = refl }) (record { moved = refl; number = refl })
goes_on z (Activity.Rebalance (Rebalance.Replace Replace.First)) s choice l rows told e n = first_before_goes (row_or_first (row_linked (link_of told))) l
goes_on z (Activity.Rebalance (Rebalance.Replace Replace.Next)) s choice l rows told e n = link_before_goes (link_of told) l
goes_on z (Activity.Rebalance (Rebalance.Replace Replace.NextLeast)) s choice l rows told e n = either (nat_lt (key_of_word told) l.lower) (to (Activity.Rebalance (Rebalance.Replace Replace.Next)) (at_before (Some l.candidate) (key_of_word told) l)) (give_back TryAgain l) (record { moved = refl; number = refl }) (give_back_goes TryAgain l)
goes_on z (Activity.Rebalance (Rebalance.Replace Replace.Exchange)) s choice l rows told e n = replaced_goes (link_of told) l
goes_on z (Activity.Rebalance (Rebalance.Replace Replace.Normalise)) s choice l rows told e n = either (has_more l) (to (Activity.Rebalance (Rebalance.Replace Replace.Normalise)) (at_infant (l.rebalance.at + 1) l)) (to (Activity.Rebalance (Rebalance.Replace Replace.Number)) (at_first_row l)) (record { moved = refl; number = refl }) (record { moved = refl; number = refl })
goes_on z (Activity.Rebalance (Rebalance.Replace Replace.Number)) s choice l rows told e n = record { moved = refl; number = refl }
goes_on z (Activity.Rebalance (Rebalance.Replace Replace.Retire)) s choice l rows told e n = retired_goes l.rebalance.ahead l

-- so an event that ends a call with this reply is one of a seat that was about to leave with an
-- answer that makes it
pub ends_leaving : (z : Sizes) (a : Activity) (s : ℕ) (choice : Choice) (l : Local) (rows told : ℕ) (reply : Reply) → is_skipped a choice ≡ false → ((transition z a s choice l).next rows told).done ≡ Ended reply → (answer : Answer) × (a ≡ Activity.Leave answer) × (reply ≡ reply_of answer l.pairs)
ends_leaving z (Activity.Leave answer) s choice l rows told reply e d = (answer, refl, (let x : Ended (reply_of answer l.pairs) ≡ Ended reply = d in cc))
ends_leaving z a s choice l rows told reply e d = let x : Moved ≡ Ended reply = sym (goes_on z a s choice l rows told e tt).moved ∙ d in absurd (cc)

-- an event that is not skipped is made
pub is_made : (z : Sizes) (a : Activity) (s : ℕ) (choice : Choice) (l : Local) (rows told : ℕ) → is_skipped a choice ≡ false → IsMade ((transition z a s choice l).next rows told).done
is_made z (Activity.Leave answer) s choice l rows told e = tt
is_made z a s choice l rows told e = subst IsMade (sym (goes_on z a s choice l rows told e tt).moved) tt

-- how many calls a seat has begun rises by one at most
few_after : (a : Activity) (l : Local) → begun_after a l ≤ l.number + 1
few_after Activity.Idle l = omega arith
few_after _ l = omega arith

pub begins_few : (z : Sizes) (a : Activity) (s : ℕ) (choice : Choice) (l : Local) (rows told : ℕ) → is_skipped a choice ≡ false → ((transition z a s choice l).next rows told).local.number ≤ l.number + 1
begins_few z (Activity.Leave answer) s choice l rows told e = omega arith
begins_few z a s choice l rows told e = omega (arith, (goes_on z a s choice l rows told e tt).number, few_after a l)
