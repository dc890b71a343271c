-- No event of a put at its row, but its last one there, and none of a rebalance changes whether the
-- seat tidies: one walk over these lines of the table. Only a put that is done begins to tidy, by a
-- choice that names its row, and only the end of the call ends it.
use Rattle.std.proofs.Common.{ℕ, ◌≡◌, ◌⊎◌, refl, sym, ◌∙◌, ◌+◌, ap, slice_get, Option, Some, None, Bool, true, false, nat_lt, nat_le, ◌==◌, if◌then◌else◌, unwrap_or, subst, length}
use Rattle.kw_words.specs.declared.count.Count.{Count}
use Rattle.kw_words.specs.declared.pend.Pend.{Pend}
use Rattle.kw_words.specs.declared.pend.Pend.TheVariants as pend
use Rattle.kw_words.specs.declared.state.State.{State}
use Rattle.kw_words.specs.declared.state.State.TheVariants.{Free, Infant, Normal, Leader, Follower, Retired}
use Rattle.kw_words.specs.State.{state_of}
use Rattle.kw_words.specs.Link.{link_of}
use Rattle.kw_words.specs.Pend.{pend_of, pend_word}
use Rattle.kw_words.specs.Plain.{version_of_word, key_of_word, value_of_word, pass_of_word, cell_of_link_word, cell_link_word}
use Rattle.kw_words.specs.Count.{count_of}
use Rattle.kw_words.specs.Scan.{scan_of}
use Rattle.kw_words.specs.declared.sizes.TheConstants.{MOST_GROUP, SPENT}
use Rattle.kw_world.specs.declared.answer.Answer.TheVariants.{Spent}
use Rattle.kw_world.specs.Calls.{first_key}
use Rattle.kw_world.specs.declared.activity.Activity.{Activity}
use Rattle.kw_world.specs.declared.activity.rebalance.claim.Claim.TheVariants as Claim
use Rattle.kw_world.specs.declared.activity.rebalance.engage.Engage.TheVariants as Engage
use Rattle.kw_world.specs.declared.activity.rebalance.left.Left.TheVariants as Left
use Rattle.kw_world.specs.declared.activity.rebalance.freeze.Freeze.TheVariants as Freeze
use Rattle.kw_world.specs.declared.activity.rebalance.gather.Gather.TheVariants as Gather
use Rattle.kw_world.specs.declared.activity.insert.Insert.TheVariants as Insert
use Rattle.kw_world.specs.declared.activity.put.Put.TheVariants as Put
use Rattle.kw_world.specs.declared.activity.rebalance.Rebalance.TheVariants as Rebalance
use Rattle.kw_world.specs.declared.activity.rebalance.replace.Replace.TheVariants as Replace
use Rattle.kw_world.specs.declared.activity.rebalance.seek.Seek.TheVariants as Seek
use Rattle.kw_world.specs.declared.activity.rebalance.write.Write.TheVariants as Write
use Rattle.kw_world.specs.declared.local.Local.{Local}
use Rattle.kw_world.specs.declared.event.Choice.{Choice}
use Rattle.kw_world.specs.declared.event.Choice.TheVariants.{Begin, Go, Guess, Stop}
use Rattle.kw_world.specs.Sizes.{Sizes}
use Rattle.kw_world.specs.Transition.{Outcome, row_linked, row_or_first, to}
use Rattle.kw_world.specs.PutTransitions.{stamp_seen, has_room, given_of}
use Rattle.kw_world.specs.ListTransitions.{behind_cell, cell_guess, insert_from, insert_key, insert_past, insert_started, insert_tried, is_newer}
use Rattle.kw_world.specs.declared.marks.Mark.{Mark}
use Rattle.kw_world.specs.Marks.{least_mark}
use Rattle.kw_words.specs.declared.scan.ScanWord.{ScanWord}
use Rattle.kw_words.specs.declared.scan.ScanWord.TheVariants as scan
use Rattle.kw_words.specs.declared.link.Link.{Link}
use Rattle.kw_words.specs.State.{state_word}
use Rattle.kw_world.specs.declared.rebalance.Afterwards.{Afterwards}
use Rattle.kw_world.specs.declared.rebalance.Afterwards.TheVariants.{TryAgain, Refuse, MoveLeft}
use Rattle.kw_world.specs.EngageTransitions.{again, claiming, counted, decided, engaged, followed_by, link_marked, refuse, state_seen, to_group, to_rebalance, undecided}
use Rattle.kw_world.specs.ClaimTransitions.{claimed, next_counted, to_mark_next}
use Rattle.kw_world.specs.LeftTransitions.{first_left, left_transition, link_left, to_leader}
use Rattle.kw_world.specs.GroupPlaces.{at_first_row, place_in_group}
use Rattle.kw_world.specs.FreezeTransitions.{row_frozen, to_freeze_look, marking, freeze_seen, entry_tried, to_scan_look, needing, scan_seen, scan_helped, to_pin_look, pin_seen}
use Rattle.kw_world.specs.TakeTransitions.{to_take, leaving_over, left_of, row_gathered, take_reached, keeping}
use Rattle.kw_world.specs.SeekTransitions.{given_back, give_back, gave_back, at_infant, has_more, row_behind, to_seek, to_pass, seek_seen, pass_seen, seeking, seek_first_transition, with_row, take_row}
use Rattle.kw_world.specs.WriteTransitions.{infant_cells, row_written, to_write_after, to_write_cell, to_write_entry}
use Rattle.kw_world.specs.ReplaceTransitions.{at_before, first_before, guess_before, before_transition, row_before, link_before, row_replaced, replaced, retired}
use Rattle.kw_world.specs.Table.{transition}
use Rattle.kw_core.specs.declared.stage.Stage.{Stage}
use Rattle.kw_core.specs.declared.stage.Stage.TheVariants.{Putting, Rebalancing}
use Rattle.kw_core.specs.Stages.{stage_of, IsBalancing, IsBalancingStage, IsDone}
use Rattle.kw_core.proofs.Runs.{history-world}
use Rattle.kw_reads.proofs.Keeps.{inv_holds}
use Rattle.kw_shape.proofs.Worlds.{world-local}
use Rattle.kw_world.specs.Sizes.{product}
use Rattle.kw_world.specs.WorldView.{WorldView}
use Rattle.kw_table.specs.declared.pass.Pass.{Pass}
use Rattle.kw_table.specs.declared.shared.Shared.{Shared}
use Rattle.kw_table.specs.Passes.{view}
use Rattle.kw_table.specs.Views.{local_in}
use Rattle.kw_follow.specs.Following.{Follows}
use Rattle.kw_follow.proofs.Fronts.{seat_within}

-- both ways
either : {t : Bool} (b : Bool) (p q : Outcome) → p.local.tidies ≡ t → q.local.tidies ≡ t → (if b then p else q).local.tidies ≡ t
either true p q g h = g
either false p q g h = h

stamp_tidies : (e : Option Pend) (l : Local) → (stamp_seen e l).local.tidies ≡ l.tidies
stamp_tidies (Some pend.Idle) l = refl
stamp_tidies (Some (pend.Pending cell)) l = either (cell == l.cell) (to (Activity.Put Put.Version) l) (to_rebalance l) refl refl
stamp_tidies (Some (pend.Stamped cell version)) l = either (cell == l.cell) (to (Activity.Put Put.Version) (record l { version = version })) (to_rebalance l) refl refl
stamp_tidies (Some pend.Frozen) l = refl
stamp_tidies None l = refl

insert_from_tidies : (z : Sizes) (cell : Option ℕ) (l : Local) → (insert_from z cell l).local.tidies ≡ l.tidies
insert_from_tidies z (Some cell) l = refl
insert_from_tidies z None l = refl

insert_key_tidies : (key : ℕ) (l : Local) → (insert_key key l).local.tidies ≡ l.tidies
insert_key_tidies key l = either (nat_lt key (first_key l.call)) _ _ refl (either (key == first_key l.call) (to (Activity.Insert Insert.Version) l) (to (Activity.Insert Insert.Set) l) refl refl)

insert_start_tidies : (z : Sizes) (guess : Option ℕ) (l : Local) (told : ℕ) → (insert_started z l guess told).local.tidies ≡ l.tidies
insert_start_tidies z (Some cell) l told = either (nat_lt (key_of_word told) (first_key l.call)) (to (Activity.Insert Insert.Link) (behind_cell cell l)) (to (Activity.Insert Insert.Link) l) refl refl
insert_start_tidies z None l told = insert_from_tidies z (cell_of_link_word told) l

insert_tried_tidies : (z : Sizes) (b : Bool) (l : Local) → (insert_tried z b l).local.tidies ≡ l.tidies
insert_tried_tidies z true l = refl
insert_tried_tidies z false l = refl

state_tidies : (state : Option State) (l : Local) → (state_seen state l).local.tidies ≡ l.tidies
state_tidies (Some Free) l = refl
state_tidies (Some (Infant seat)) l = refl
state_tidies (Some Normal) l = refl
state_tidies (Some (Leader count)) l = refl
state_tidies (Some (Follower leader)) l = refl
state_tidies (Some (Retired number)) l = refl
state_tidies None l = refl

engaged_tidies : (b : Bool) (l : Local) → (engaged b l).local.tidies ≡ l.tidies
engaged_tidies true l = refl
engaged_tidies false l = refl

claiming_tidies : (after : Option ℕ) (l : Local) → (claiming after l).local.tidies ≡ l.tidies
claiming_tidies (Some r) l = refl
claiming_tidies None l = refl

-- so many rows are led
group_tidies : (count : ℕ) (l : Local) → (counted count l).local.tidies ≡ l.tidies
group_tidies count l = either (count == MOST_GROUP) (claiming l.rebalance.after l) (to_group l) (claiming_tidies l.rebalance.after l) refl

undecided_tidies : (after : Option ℕ) (l : Local) → (undecided after l).local.tidies ≡ l.tidies
undecided_tidies (Some r) l = refl
undecided_tidies None l = refl

marked_tidies : (count : ℕ) (after : Option ℕ) (l : Local) → (link_marked count after l).local.tidies ≡ l.tidies
marked_tidies count after l = either (count == 0) (undecided after (followed_by after l)) (counted count (followed_by after l)) (undecided_tidies after (followed_by after l)) (group_tidies count (followed_by after l))

decided_tidies : (count : ℕ) (state : Option State) (l : Local) → (decided count state l).local.tidies ≡ l.tidies
decided_tidies count (Some Free) l = refl
decided_tidies count (Some (Infant seat)) l = refl
decided_tidies count (Some Normal) l = refl
decided_tidies count (Some (Leader found)) l = group_tidies (if found == 0 then count else found) l
decided_tidies count (Some (Follower leader)) l = refl
decided_tidies count (Some (Retired number)) l = refl
decided_tidies count None l = refl

-- whatever the count of the next row says of it
counted_tidies : (count : Option Count) (l : Local) → (next_counted count l).local.tidies ≡ l.tidies
counted_tidies count l = refl

claimed_tidies : (state : Option State) (l : Local) → (claimed state l).local.tidies ≡ l.tidies
claimed_tidies (Some Free) l = refl
claimed_tidies (Some (Infant seat)) l = refl
claimed_tidies (Some Normal) l = refl
claimed_tidies (Some (Leader count)) l = refl
claimed_tidies (Some (Follower leader)) l = either (leader == l.row) (to_mark_next l) (again l) refl refl
claimed_tidies (Some (Retired number)) l = refl
claimed_tidies None l = refl

first_left_tidies : (r : ℕ) (l : Local) → (first_left r l).local.tidies ≡ l.tidies
first_left_tidies r l = either (r == l.row) (again l) (to (Activity.Rebalance (Rebalance.Left Left.Next)) (at_before (Some r) 0 l)) refl refl

left_tidies : (choice : Choice) (l : Local) (rows told : ℕ) → ((left_transition choice l).next rows told).local.tidies ≡ l.tidies
left_tidies (Begin call) l rows told = first_left_tidies (row_or_first (row_linked (link_of told))) l
left_tidies Go l rows told = first_left_tidies (row_or_first (row_linked (link_of told))) l
left_tidies (Guess r) l rows told = refl
left_tidies Stop l rows told = first_left_tidies (row_or_first (row_linked (link_of told))) l

link_left_tidies : (r : Option ℕ) (l : Local) → (link_left r l).local.tidies ≡ l.tidies
link_left_tidies (Some r) l = either (r == l.row) (to_leader l) (to (Activity.Rebalance (Rebalance.Left Left.NextLeast)) (record l { candidate = r })) refl refl
link_left_tidies None l = refl

row_frozen_tidies : (ahead : Option ℕ) (l : Local) → (row_frozen ahead l).local.tidies ≡ l.tidies
row_frozen_tidies (Some r) l = refl
row_frozen_tidies None l = refl

freeze_looks : (z : Sizes) (i : ℕ) (l : Local) → (to_freeze_look z i l).local.tidies ≡ l.tidies
freeze_looks z i l = either (nat_lt i z.seats) (to (Activity.Rebalance (Rebalance.Freeze (Freeze.Look i))) l) (row_frozen l.rebalance.ahead l) refl (row_frozen_tidies l.rebalance.ahead l)

freeze_tidies : (z : Sizes) (i : ℕ) (e : Option Pend) (l : Local) → (freeze_seen z i e l).local.tidies ≡ l.tidies
freeze_tidies z i (Some pend.Idle) l = refl
freeze_tidies z i (Some (pend.Pending cell)) l = refl
freeze_tidies z i (Some (pend.Stamped cell version)) l = freeze_looks z (i + 1) (marking z cell version l)
freeze_tidies z i (Some pend.Frozen) l = freeze_looks z (i + 1) l
freeze_tidies z i None l = freeze_looks z (i + 1) l

entry_tidies : (z : Sizes) (i : ℕ) (b : Bool) (l : Local) → (entry_tried z i b l).local.tidies ≡ l.tidies
entry_tidies z i true l = freeze_looks z (i + 1) l
entry_tidies z i false l = refl

scan_looks_then : {n : Bool} (z : Sizes) (i : ℕ) (l : Local) → l.tidies ≡ n → (to_scan_look z i l).local.tidies ≡ n
scan_looks_then z i l e = either (nat_lt i z.seats) (to (Activity.Rebalance (Rebalance.Freeze (Freeze.Scan i))) l) (to_take l) (e) (e)

scan_seen_tidies : (z : Sizes) (i : ℕ) (w : Option ScanWord) (l : Local) → (scan_seen z i w l).local.tidies ≡ l.tidies
scan_seen_tidies z i (Some scan.Quiet) l = scan_looks_then z (i + 1) l refl
scan_seen_tidies z i (Some (scan.Waiting clock)) l = refl
scan_seen_tidies z i (Some (scan.Drawn version)) l = scan_looks_then z (i + 1) (needing version l) refl
scan_seen_tidies z i None l = scan_looks_then z (i + 1) l refl

-- what is needed changes not whether it tidies
needs : (b : Bool) (version : ℕ) (l : Local) → (if b then needing version l else l).tidies ≡ l.tidies
needs true version l = refl
needs false version l = refl

helped_tidies : (z : Sizes) (i : ℕ) (w : Option ScanWord) (l : Local) → (scan_helped z i w l).local.tidies ≡ l.tidies
helped_tidies z i (Some scan.Quiet) l = scan_looks_then z (i + 1) l refl
helped_tidies z i (Some (scan.Waiting clock)) l = scan_looks_then z (i + 1) (if clock == l.rebalance.waiting then needing l.rebalance.drawn l else l) (needs (clock == l.rebalance.waiting) l.rebalance.drawn l)
helped_tidies z i (Some (scan.Drawn version)) l = scan_looks_then z (i + 1) (needing version l) refl
helped_tidies z i None l = scan_looks_then z (i + 1) l refl

pin_looks_then : {n : Bool} (z : Sizes) (i : ℕ) (l : Local) → l.tidies ≡ n → (to_pin_look z i l).local.tidies ≡ n
pin_looks_then z i l e = either (nat_lt i z.seats) (to (Activity.Rebalance (Rebalance.Freeze (Freeze.Pin i))) l) (to_take l) (e) (e)

pin_seen_tidies : (z : Sizes) (i : ℕ) (w : Option ScanWord) (l : Local) → (pin_seen z i w l).local.tidies ≡ l.tidies
pin_seen_tidies z i (Some scan.Quiet) l = pin_looks_then z (i + 1) l refl
pin_seen_tidies z i (Some (scan.Waiting clock)) l = pin_looks_then z (i + 1) l refl
pin_seen_tidies z i (Some (scan.Drawn version)) l = pin_looks_then z (i + 1) (needing version l) refl
pin_seen_tidies z i None l = pin_looks_then z (i + 1) l refl

row_gathered_tidies : (z : Sizes) (ahead : Option ℕ) (l : Local) → (row_gathered z ahead l).local.tidies ≡ l.tidies
row_gathered_tidies z (Some r) l = refl
row_gathered_tidies z None l = refl

left_of_tidies : (z : Sizes) (m : Option Mark) (l : Local) → (left_of z m l).local.tidies ≡ l.tidies
left_of_tidies z (Some m) l = either (nat_lt m.cell (place_in_group z l.rebalance z.cells)) (to (Activity.Rebalance (Rebalance.Gather Gather.LeftOverKey)) (leaving_over z m l)) (row_gathered z l.rebalance.ahead l) refl (row_gathered_tidies z l.rebalance.ahead l)
left_of_tidies z None l = row_gathered_tidies z l.rebalance.ahead l

take_tidies : (z : Sizes) (cell : Option ℕ) (l : Local) → (take_reached z cell l).local.tidies ≡ l.tidies
take_tidies z (Some cell) l = refl
take_tidies z None l = left_of_tidies z (least_mark l.rebalance.marks) l

given_back_tidies : (a : Afterwards) (l : Local) → (given_back a l).local.tidies ≡ l.tidies
given_back_tidies TryAgain l = refl
given_back_tidies Refuse l = refl
given_back_tidies MoveLeft l = refl

give_back_tidies : (a : Afterwards) (l : Local) → (give_back a l).local.tidies ≡ l.tidies
give_back_tidies a l = either (nat_lt 0 (length l.rebalance.taken)) (to (Activity.Rebalance (Rebalance.Seek Seek.GiveBack)) (record l { rebalance = record l.rebalance { at = 0; afterwards = a } })) (given_back a l) refl (given_back_tidies a l)

gave_back_tidies : (l : Local) → (gave_back l).local.tidies ≡ l.tidies
gave_back_tidies l = either (has_more l) (to (Activity.Rebalance (Rebalance.Seek Seek.GiveBack)) (at_infant (l.rebalance.at + 1) l)) (given_back l.rebalance.afterwards l) refl (given_back_tidies l.rebalance.afterwards l)

seeks : (rows : ℕ) (l : Local) → (to_seek rows l).local.tidies ≡ l.tidies
seeks rows l = either (nat_lt l.rebalance.asked rows) (to (Activity.Rebalance (Rebalance.Seek Seek.Next)) (record l { rebalance = record l.rebalance { sought = row_behind rows l.rebalance.sought; asked = l.rebalance.asked + 1 } })) (give_back Refuse l) refl (give_back_tidies Refuse l)

passes_then : (z : Sizes) (i : ℕ) (l : Local) → (to_pass z i l).local.tidies ≡ l.tidies
passes_then z i l = either (nat_lt i z.seats) (to (Activity.Rebalance (Rebalance.Seek (Seek.Pass i))) l) (to (Activity.Rebalance (Rebalance.Seek Seek.Reclaim)) l) refl refl

seek_tidies : (rows : ℕ) (state : Option State) (l : Local) → (seek_seen rows state l).local.tidies ≡ l.tidies
seek_tidies rows (Some Free) l = refl
seek_tidies rows (Some (Infant seat)) l = seeks rows l
seek_tidies rows (Some Normal) l = seeks rows l
seek_tidies rows (Some (Leader count)) l = seeks rows l
seek_tidies rows (Some (Follower leader)) l = seeks rows l
seek_tidies rows (Some (Retired number)) l = refl
seek_tidies rows None l = seeks rows l

seek_first_tidies : (choice : Choice) (l : Local) (rows told : ℕ) → ((seek_first_transition choice l).next rows told).local.tidies ≡ l.tidies
seek_first_tidies (Begin call) l rows told = seek_tidies rows (state_of told) (seeking l.rebalance.sought l)
seek_first_tidies Go l rows told = seek_tidies rows (state_of told) (seeking l.rebalance.sought l)
seek_first_tidies (Guess r) l rows told = seek_tidies rows (state_of told) (seeking r l)
seek_first_tidies Stop l rows told = seek_tidies rows (state_of told) (seeking l.rebalance.sought l)

pass_tidies : (z : Sizes) (i rows : ℕ) (epoch : Option ℕ) (l : Local) → (pass_seen z i rows epoch l).local.tidies ≡ l.tidies
pass_tidies z i rows (Some epoch) l = either (nat_le epoch l.rebalance.number) (to_seek rows l) (to_pass z (i + 1) l) (seeks rows l) (passes_then z (i + 1) l)
pass_tidies z i rows None l = passes_then z (i + 1) l

take_row_tidies : (rows : ℕ) (b : Bool) (l : Local) → (take_row rows b l).local.tidies ≡ l.tidies
take_row_tidies rows true l = either (nat_lt (length (with_row l).rebalance.taken) (length l.rebalance.starts)) (to_seek rows (with_row l)) (to (Activity.Rebalance (Rebalance.Write Write.Count)) (at_infant 0 (with_row l))) (seeks rows (with_row l)) refl
take_row_tidies rows false l = seeks rows l

row_written_tidies : (l : Local) → (row_written l).local.tidies ≡ l.tidies
row_written_tidies l = either (has_more l) (to (Activity.Rebalance (Rebalance.Write Write.Count)) (at_infant (l.rebalance.at + 1) l)) (to (Activity.Rebalance (Rebalance.Replace Replace.Start)) l) refl refl

write_cell_tidies : (z : Sizes) (j : ℕ) (l : Local) → (to_write_cell z j l).local.tidies ≡ l.tidies
write_cell_tidies z j l = either (nat_lt j z.cells) (if nat_lt j (length (infant_cells l)) then to (Activity.Rebalance (Rebalance.Write (Write.Key j))) l else to (Activity.Rebalance (Rebalance.Write (Write.Version j))) l) (row_written l) (either (nat_lt j (length (infant_cells l))) (to (Activity.Rebalance (Rebalance.Write (Write.Key j))) l) (to (Activity.Rebalance (Rebalance.Write (Write.Version j))) l) refl refl) (row_written_tidies l)

write_after_tidies : (z : Sizes) (j : ℕ) (l : Local) → (to_write_after z j l).local.tidies ≡ l.tidies
write_after_tidies z j l = either (nat_lt j (length (infant_cells l))) (to (Activity.Rebalance (Rebalance.Write (Write.After j))) l) (to_write_cell z (j + 1) l) refl (write_cell_tidies z (j + 1) l)

write_entry_tidies : (z : Sizes) (i : ℕ) (l : Local) → (to_write_entry z i l).local.tidies ≡ l.tidies
write_entry_tidies z i l = either (nat_lt i z.seats) (to (Activity.Rebalance (Rebalance.Write (Write.Entry i))) l) (to_write_cell z 0 l) refl (write_cell_tidies z 0 l)

first_before_tidies : (r : ℕ) (l : Local) → (first_before r l).local.tidies ≡ l.tidies
first_before_tidies r l = either (r == l.row) (to (Activity.Rebalance (Rebalance.Replace Replace.Exchange)) (at_before None 0 l)) (to (Activity.Rebalance (Rebalance.Replace Replace.Next)) (at_before (Some r) 0 l)) refl refl

guess_before_tidies : (r : ℕ) (state : Option State) (l : Local) → (guess_before r state l).local.tidies ≡ l.tidies
guess_before_tidies r (Some Free) l = refl
guess_before_tidies r (Some (Infant seat)) l = refl
guess_before_tidies r (Some Normal) l = refl
guess_before_tidies r (Some (Leader count)) l = refl
guess_before_tidies r (Some (Follower leader)) l = refl
guess_before_tidies r (Some (Retired number)) l = refl
guess_before_tidies r None l = refl

before_tidies : (choice : Choice) (l : Local) (rows told : ℕ) → ((before_transition choice l).next rows told).local.tidies ≡ l.tidies
before_tidies (Begin call) l rows told = first_before_tidies (row_or_first (row_linked (link_of told))) l
before_tidies Go l rows told = first_before_tidies (row_or_first (row_linked (link_of told))) l
before_tidies (Guess r) l rows told = guess_before_tidies r (state_of told) l
before_tidies Stop l rows told = first_before_tidies (row_or_first (row_linked (link_of told))) l

row_before_tidies : (r : Option ℕ) (marked : Bool) (l : Local) → (row_before r marked l).local.tidies ≡ l.tidies
row_before_tidies (Some r) marked l = either (r == l.row) (if marked then give_back MoveLeft l else to (Activity.Rebalance (Rebalance.Replace Replace.Exchange)) l) (to (Activity.Rebalance (Rebalance.Replace Replace.NextLeast)) (record l { candidate = r })) (either marked (give_back MoveLeft l) (to (Activity.Rebalance (Rebalance.Replace Replace.Exchange)) l) (give_back_tidies MoveLeft l) refl) refl
row_before_tidies None marked l = give_back_tidies TryAgain l

link_before_tidies : (link : Option Link) (l : Local) → (link_before link l).local.tidies ≡ l.tidies
link_before_tidies (Some link) l = row_before_tidies link.row link.marked l
link_before_tidies None l = give_back_tidies TryAgain l

row_replaced_tidies : (r : Option ℕ) (marked : Bool) (l : Local) → (row_replaced r marked l).local.tidies ≡ l.tidies
row_replaced_tidies (Some r) marked l = either (r == l.row) (if marked then give_back MoveLeft l else to (Activity.Rebalance (Rebalance.Replace Replace.Normalise)) (at_infant 0 l)) (give_back TryAgain l) (either marked (give_back MoveLeft l) (to (Activity.Rebalance (Rebalance.Replace Replace.Normalise)) (at_infant 0 l)) (give_back_tidies MoveLeft l) refl) (give_back_tidies TryAgain l)
row_replaced_tidies None marked l = give_back_tidies TryAgain l

replaced_tidies : (link : Option Link) (l : Local) → (replaced link l).local.tidies ≡ l.tidies
replaced_tidies (Some link) l = row_replaced_tidies link.row link.marked l
replaced_tidies None l = give_back_tidies TryAgain l

retired_tidies : (ahead : Option ℕ) (l : Local) → (retired ahead l).local.tidies ≡ l.tidies
retired_tidies (Some r) l = refl
retired_tidies None l = refl

abbrev IsWorkStage : Stage → Type 0
IsWorkStage Putting = Unit {0}
IsWorkStage Rebalancing = Unit {0}
IsWorkStage _ = ⊥

-- the seat puts at its row, and has not come to its last event there, or it rebalances the row
abbrev pub IsAtWork : Activity → Type 0
IsAtWork (Activity.Put Put.Clear) = ⊥
IsAtWork a = IsWorkStage (stage_of a)

-- such an event keeps whether the seat tidies
pub keeps : (z : Sizes) (a : Activity) (s : ℕ) (choice : Choice) (l : Local) (rows told : ℕ) → IsAtWork a → ((transition z a s choice l).next rows told).local.tidies ≡ l.tidies
keeps z (Activity.Put Put.Count) s choice l rows told u = either (has_room z (count_of told)) (to (Activity.Put Put.Add) l) (to_rebalance l) refl refl
keeps z (Activity.Put Put.Add) s choice l rows told u = either (has_room z (count_of told)) (to (Activity.Put Put.Key) (record l { cell = given_of (count_of told) })) (to_rebalance l) refl refl
keeps z (Activity.Put Put.Key) s choice l rows told u = refl
keeps z (Activity.Put Put.Value) s choice l rows told u = refl
keeps z (Activity.Put Put.Announce) s choice l rows told u = either (told == pend_word pend.Idle) (to (Activity.Put Put.Clock) l) (to_rebalance l) refl refl
keeps z (Activity.Put Put.Clock) s choice l rows told u = refl
keeps z (Activity.Put Put.Stamp) s choice l rows told u = stamp_tidies (pend_of told) l
keeps z (Activity.Put Put.Version) s choice l rows told u = refl
keeps z (Activity.Insert Insert.Start) s choice l rows told u = insert_start_tidies z (cell_guess choice l) l told
keeps z (Activity.Insert Insert.Link) s choice l rows told u = insert_from_tidies z (cell_of_link_word told) l
keeps z (Activity.Insert Insert.Key) s choice l rows told u = insert_key_tidies (key_of_word told) l
keeps z (Activity.Insert Insert.Version) s choice l rows told u = either (is_newer (unwrap_or (version_of_word told) 0) l.place l) (insert_past l) (to (Activity.Insert Insert.Set) l) refl refl
keeps z (Activity.Insert Insert.Set) s choice l rows told u = refl
keeps z (Activity.Insert Insert.Exchange) s choice l rows told u = insert_tried_tidies z (told == cell_link_word l.held) l
keeps z (Activity.Rebalance (Rebalance.Engage Engage.Clock)) s choice l rows told u = either (nat_le SPENT told) (refuse Spent l) (to (Activity.Rebalance (Rebalance.Engage Engage.Epoch)) l) refl refl
keeps z (Activity.Rebalance (Rebalance.Engage Engage.Epoch)) s choice l rows told u = either (nat_le SPENT told) (refuse Spent l) (to (Activity.Rebalance (Rebalance.Engage Engage.State)) l) refl refl
keeps z (Activity.Rebalance (Rebalance.Engage Engage.State)) s choice l rows told u = state_tidies (state_of told) l
keeps z (Activity.Rebalance (Rebalance.Engage (Engage.Normal seat))) s choice l rows told u = refl
keeps z (Activity.Rebalance (Rebalance.Engage Engage.Lead)) s choice l rows told u = engaged_tidies (told == state_word Normal) l
keeps z (Activity.Rebalance (Rebalance.Engage (Engage.MarkLink count))) s choice l rows told u = marked_tidies count (row_linked (link_of told)) l
keeps z (Activity.Rebalance (Rebalance.Engage (Engage.Decide count))) s choice l rows told u = decided_tidies count (state_of told) l
keeps z (Activity.Rebalance (Rebalance.Claim Claim.Count)) s choice l rows told u = counted_tidies (count_of told) l
keeps z (Activity.Rebalance (Rebalance.Claim Claim.Exchange)) s choice l rows told u = claimed_tidies (state_of told) l
keeps z (Activity.Rebalance (Rebalance.Claim _)) s choice l rows told u = refl
keeps z (Activity.Rebalance (Rebalance.Left Left.Start)) s choice l rows told u = left_tidies choice l rows told
keeps z (Activity.Rebalance (Rebalance.Left Left.Next)) s choice l rows told u = link_left_tidies (row_linked (link_of told)) l
keeps z (Activity.Rebalance (Rebalance.Left Left.NextLeast)) s choice l rows told u = either (nat_lt (key_of_word told) l.lower) (to (Activity.Rebalance (Rebalance.Left Left.Next)) (at_before (Some l.candidate) (key_of_word told) l)) (again l) refl refl
keeps z (Activity.Rebalance (Rebalance.Freeze Freeze.Count)) s choice l rows told u = refl
keeps z (Activity.Rebalance (Rebalance.Freeze (Freeze.Look i))) s choice l rows told u = freeze_tidies z i (pend_of told) l
keeps z (Activity.Rebalance (Rebalance.Freeze (Freeze.Entry i))) s choice l rows told u = entry_tidies z i (told == pend_word l.rebalance.entry) l
keeps z (Activity.Rebalance (Rebalance.Freeze (Freeze.Scan i))) s choice l rows told u = scan_seen_tidies z i (scan_of told) l
keeps z (Activity.Rebalance (Rebalance.Freeze (Freeze.Draw i))) s choice l rows told u = refl
keeps z (Activity.Rebalance (Rebalance.Freeze (Freeze.Settle i))) s choice l rows told u = helped_tidies z i (scan_of told) l
keeps z (Activity.Rebalance (Rebalance.Freeze (Freeze.Pin i))) s choice l rows told u = pin_seen_tidies z i (scan_of told) l
keeps z (Activity.Rebalance (Rebalance.Gather Gather.Link)) s choice l rows told u = take_tidies z (cell_of_link_word told) l
keeps z (Activity.Rebalance (Rebalance.Gather Gather.LeftOverValue)) s choice l rows told u = left_of_tidies z (least_mark l.rebalance.marks) (keeping z (value_of_word told) l)
keeps z (Activity.Rebalance (Rebalance.Gather _)) s choice l rows told u = refl
keeps z (Activity.Rebalance (Rebalance.Seek Seek.First)) s choice l rows told u = seek_first_tidies choice l rows told
keeps z (Activity.Rebalance (Rebalance.Seek Seek.Next)) s choice l rows told u = seek_tidies rows (state_of told) (seeking l.rebalance.sought l)
keeps z (Activity.Rebalance (Rebalance.Seek (Seek.Pass i))) s choice l rows told u = pass_tidies z i rows (pass_of_word told) l
keeps z (Activity.Rebalance (Rebalance.Seek Seek.Reclaim)) s choice l rows told u = refl
keeps z (Activity.Rebalance (Rebalance.Seek Seek.Take)) s choice l rows told u = take_row_tidies rows (told == state_word Free) l
keeps z (Activity.Rebalance (Rebalance.Seek Seek.GiveBack)) s choice l rows told u = gave_back_tidies l
keeps z (Activity.Rebalance (Rebalance.Write Write.First)) s choice l rows told u = write_entry_tidies z 0 l
keeps z (Activity.Rebalance (Rebalance.Write (Write.Entry i))) s choice l rows told u = write_entry_tidies z (i + 1) l
keeps z (Activity.Rebalance (Rebalance.Write (Write.Version j))) s choice l rows told u = write_after_tidies z j l
keeps z (Activity.Rebalance (Rebalance.Write (Write.After j))) s choice l rows told u = write_cell_tidies z (j + 1) l
keeps z (Activity.Rebalance (Rebalance.Write _)) s choice l rows told u = refl
keeps z (Activity.Rebalance (Rebalance.Replace Replace.Start)) s choice l rows told u = before_tidies choice l rows told
keeps z (Activity.Rebalance (Rebalance.Replace Replace.GuessedLeast)) s choice l rows told u = either (nat_lt (key_of_word told) l.lower) (to (Activity.Rebalance (Rebalance.Replace Replace.Next)) (record l { rebalance = record l.rebalance { least = key_of_word told } })) (to (Activity.Rebalance (Rebalance.Replace Replace.First)) (record l { rebalance = record l.rebalance { before = None } })) refl refl
keeps z (Activity.Rebalance (Rebalance.Replace Replace.First)) s choice l rows told u = first_before_tidies (row_or_first (row_linked (link_of told))) l
keeps z (Activity.Rebalance (Rebalance.Replace Replace.Next)) s choice l rows told u = link_before_tidies (link_of told) l
keeps z (Activity.Rebalance (Rebalance.Replace Replace.NextLeast)) s choice l rows told u = either (nat_lt (key_of_word told) l.lower) (to (Activity.Rebalance (Rebalance.Replace Replace.Next)) (at_before (Some l.candidate) (key_of_word told) l)) (give_back TryAgain l) refl (give_back_tidies TryAgain l)
keeps z (Activity.Rebalance (Rebalance.Replace Replace.Exchange)) s choice l rows told u = replaced_tidies (link_of told) l
keeps z (Activity.Rebalance (Rebalance.Replace Replace.Normalise)) s choice l rows told u = either (has_more l) (to (Activity.Rebalance (Rebalance.Replace Replace.Normalise)) (at_infant (l.rebalance.at + 1) l)) (to (Activity.Rebalance (Rebalance.Replace Replace.Number)) (at_first_row l)) refl refl
keeps z (Activity.Rebalance (Rebalance.Replace Replace.Number)) s choice l rows told u = refl
keeps z (Activity.Rebalance (Rebalance.Replace Replace.Retire)) s choice l rows told u = retired_tidies l.rebalance.ahead l
keeps z _ s choice l rows told u = absurd u

stage_works : (st : Stage) → IsBalancingStage st → IsWorkStage st
stage_works Rebalancing b = tt
stage_works _ b = absurd b

-- a seat that rebalances is at work
pub balancing_works : (a : Activity) → IsBalancing a → IsAtWork a
balancing_works (Activity.Put Put.Clear) b = absurd b
balancing_works a b = stage_works (stage_of a) b

-- a seat that neither rebalances nor is done does not tidy
pub untidied : (s : Shared) (p : Pass) (l : Local) → Follows s p l → (IsBalancing l.activity ⊎ IsDone l.activity → ⊥) → l.tidies ≡ false
untidied s p l f not = by l.tidies refl
  where
    seat : Local
    seat = local_in (view p)

    tidies : seat.tidies ≡ true → IsBalancing seat.activity ⊎ IsDone seat.activity
    tidies = (inv_holds product (view p).opening p.known.opens (view p).seen p.known.valid).shape.tidies (view p).number seat
        (ap (λ (w : WorldView). slice_get w.locals (view p).number) (history-world product (view p).opening (view p).seen) ∙ world-local product (view p).opening (view p).seen (view p).number (seat_within p))

    by : (b : Bool) → l.tidies ≡ b → l.tidies ≡ false
    by true e = absurd (not (subst (λ a. IsBalancing a ⊎ IsDone a) (sym (ap (λ (k : Local). k.activity) f.carries)) (tidies (sym (ap (λ (k : Local). k.tidies) f.carries) ∙ e))))
    by false e = e
