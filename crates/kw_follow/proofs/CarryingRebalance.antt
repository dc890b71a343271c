-- The same of a rebalance: what follows from one of its events is again a local and what code
-- carries for it.
use Rattle.std.proofs.Common.{ℕ, ◌+◌, ◌==◌, Bool, true, false, nat_lt, nat_le, if◌then◌else◌, Option, Some, None, length, refl}
use Rattle.kw_words.specs.declared.count.Count.{Count}
use Rattle.kw_words.specs.declared.pend.Pend.{Pend}
use Rattle.kw_words.specs.declared.pend.Pend.TheVariants as pend
use Rattle.kw_words.specs.declared.state.State.{State}
use Rattle.kw_words.specs.declared.state.State.TheVariants.{Free, Infant, Normal, Leader, Follower, Retired}
use Rattle.kw_words.specs.declared.scan.ScanWord.{ScanWord}
use Rattle.kw_words.specs.declared.scan.ScanWord.TheVariants as scan
use Rattle.kw_words.specs.declared.link.Link.{Link}
use Rattle.kw_words.specs.declared.sizes.TheConstants.{MOST_GROUP, SPENT}
use Rattle.kw_words.specs.Count.{count_of}
use Rattle.kw_words.specs.Link.{link_of}
use Rattle.kw_words.specs.Pend.{pend_of, pend_word}
use Rattle.kw_words.specs.Plain.{key_of_word, value_of_word, pass_of_word, cell_of_link_word}
use Rattle.kw_words.specs.Scan.{scan_of}
use Rattle.kw_words.specs.State.{state_of, state_word}
use Rattle.kw_world.specs.declared.activity.Activity.{Activity}
use Rattle.kw_world.specs.declared.activity.rebalance.claim.Claim.TheVariants as Claim
use Rattle.kw_world.specs.declared.activity.rebalance.engage.Engage.TheVariants as Engage
use Rattle.kw_world.specs.declared.activity.rebalance.left.Left.TheVariants as Left
use Rattle.kw_world.specs.declared.activity.enter.Enter.TheVariants as Enter
use Rattle.kw_world.specs.declared.activity.rebalance.freeze.Freeze.TheVariants as Freeze
use Rattle.kw_world.specs.declared.activity.rebalance.gather.Gather.TheVariants as Gather
use Rattle.kw_world.specs.declared.activity.rebalance.Rebalance.TheVariants as Rebalance
use Rattle.kw_world.specs.declared.activity.rebalance.replace.Replace.TheVariants as Replace
use Rattle.kw_world.specs.declared.activity.rebalance.seek.Seek.TheVariants as Seek
use Rattle.kw_world.specs.declared.activity.rebalance.write.Write.TheVariants as Write
use Rattle.kw_world.specs.declared.event.Choice.{Choice}
use Rattle.kw_world.specs.declared.event.Choice.TheVariants.{Begin, Go, Guess, Stop}
use Rattle.kw_world.specs.declared.local.Local.{Local}
use Rattle.kw_world.specs.declared.marks.Mark.{Mark}
use Rattle.kw_world.specs.declared.rebalance.Afterwards.{Afterwards}
use Rattle.kw_world.specs.declared.rebalance.Afterwards.TheVariants.{TryAgain, Refuse, MoveLeft}
use Rattle.kw_world.specs.Marks.{least_mark}
use Rattle.kw_world.specs.Sizes.{Sizes}
use Rattle.kw_world.specs.Table.{transition}
use Rattle.kw_world.specs.Transition.{row_linked, row_or_first}
use Rattle.kw_world.specs.EngageTransitions.{claiming, counted, decided, engaged, followed_by, link_marked, state_seen, undecided}
use Rattle.kw_world.specs.ClaimTransitions.{claimed, next_counted}
use Rattle.kw_world.specs.LeftTransitions.{first_left, left_transition, link_left}
use Rattle.kw_world.specs.GroupPlaces.{place_in_group}
use Rattle.kw_world.specs.FreezeTransitions.{row_frozen, to_freeze_look, marking, freeze_seen, entry_tried, to_scan_look, needing, scan_seen, scan_helped, to_pin_look, pin_seen}
use Rattle.kw_world.specs.TakeTransitions.{left_of, row_gathered, take_reached, keeping}
use Rattle.kw_world.specs.SeekTransitions.{given_back, give_back, gave_back, has_more, to_seek, to_pass, seek_seen, pass_seen, seeking, seek_first_transition, with_row, take_row}
use Rattle.kw_world.specs.WriteTransitions.{infant_cells, row_written, to_write_after, to_write_cell, to_write_entry}
use Rattle.kw_world.specs.ReplaceTransitions.{first_before, guess_before, before_transition, row_before, link_before, row_replaced, replaced, retired}
use Rattle.kw_follow.specs.Following.{carried}
use Rattle.kw_follow.proofs.Carries.{Carries, either}

-- one of the activities of a rebalance
abbrev pub IsRebalancing : Activity → Type 0
IsRebalancing Activity.Retry = Unit {0}
IsRebalancing (Activity.Enter Enter.LoadEpoch) = Unit {0}
IsRebalancing (Activity.Rebalance _) = Unit {0}
IsRebalancing _ = ⊥

module _ (c : Choice) where
  state_carries : (state : Option State) (l : Local) → Carries c l.pairs (state_seen state l) (state_seen state (carried l))
  state_carries (Some Free) l = record { local = refl; done = refl; held = λ g. refl }
  state_carries (Some (Infant seat)) l = record { local = refl; done = refl; held = λ g. refl }
  state_carries (Some Normal) l = record { local = refl; done = refl; held = λ g. refl }
  state_carries (Some (Leader count)) l = record { local = refl; done = refl; held = λ g. refl }
  state_carries (Some (Follower leader)) l = record { local = refl; done = refl; held = λ g. refl }
  state_carries (Some (Retired number)) l = record { local = refl; done = refl; held = λ g. refl }
  state_carries None l = record { local = refl; done = refl; held = λ g. refl }

  engaged_carries : (b : Bool) (l : Local) → Carries c l.pairs (engaged b l) (engaged b (carried l))
  engaged_carries true l = record { local = refl; done = refl; held = λ g. refl }
  engaged_carries false l = record { local = refl; done = refl; held = λ g. refl }

  claiming_carries : (after : Option ℕ) (l : Local) → Carries c l.pairs (claiming after l) (claiming after (carried l))
  claiming_carries (Some r) l = record { local = refl; done = refl; held = λ g. refl }
  claiming_carries None l = record { local = refl; done = refl; held = λ g. refl }

  -- so many rows are led
  group_carries : (count : ℕ) (l : Local) → Carries c l.pairs (counted count l) (counted count (carried l))
  group_carries count l = either c (count == MOST_GROUP) l.pairs _ _ _ _ (claiming_carries l.rebalance.after l) (record { local = refl; done = refl; held = λ g. refl })

  undecided_carries : (after : Option ℕ) (l : Local) → Carries c l.pairs (undecided after l) (undecided after (carried l))
  undecided_carries (Some r) l = record { local = refl; done = refl; held = λ g. refl }
  undecided_carries None l = record { local = refl; done = refl; held = λ g. refl }

  marked_carries : (count : ℕ) (after : Option ℕ) (l : Local) → Carries c l.pairs (link_marked count after l) (link_marked count after (carried l))
  marked_carries count after l = either c (count == 0) l.pairs _ _ _ _ (undecided_carries after (followed_by after l)) (group_carries count (followed_by after l))

  decided_carries : (count : ℕ) (state : Option State) (l : Local) → Carries c l.pairs (decided count state l) (decided count state (carried l))
  decided_carries count (Some Free) l = record { local = refl; done = refl; held = λ g. refl }
  decided_carries count (Some (Infant seat)) l = record { local = refl; done = refl; held = λ g. refl }
  decided_carries count (Some Normal) l = record { local = refl; done = refl; held = λ g. refl }
  decided_carries count (Some (Leader found)) l = group_carries (if found == 0 then count else found) l
  decided_carries count (Some (Follower leader)) l = record { local = refl; done = refl; held = λ g. refl }
  decided_carries count (Some (Retired number)) l = record { local = refl; done = refl; held = λ g. refl }
  decided_carries count None l = record { local = refl; done = refl; held = λ g. refl }

  counted_carries : (count : Option Count) (l : Local) → Carries c l.pairs (next_counted count l) (next_counted count (carried l))
  counted_carries (Some count) l = record { local = refl; done = refl; held = λ g. refl }
  counted_carries None l = record { local = refl; done = refl; held = λ g. refl }

  claimed_carries : (state : Option State) (l : Local) → Carries c l.pairs (claimed state l) (claimed state (carried l))
  claimed_carries (Some Free) l = record { local = refl; done = refl; held = λ g. refl }
  claimed_carries (Some (Infant seat)) l = record { local = refl; done = refl; held = λ g. refl }
  claimed_carries (Some Normal) l = record { local = refl; done = refl; held = λ g. refl }
  claimed_carries (Some (Leader count)) l = record { local = refl; done = refl; held = λ g. refl }
  claimed_carries (Some (Follower leader)) l = either c (leader == l.row) l.pairs _ _ _ _ (record { local = refl; done = refl; held = λ g. refl }) (record { local = refl; done = refl; held = λ g. refl })
  claimed_carries (Some (Retired number)) l = record { local = refl; done = refl; held = λ g. refl }
  claimed_carries None l = record { local = refl; done = refl; held = λ g. refl }

  first_left_carries : (r : ℕ) (l : Local) → Carries c l.pairs (first_left r l) (first_left r (carried l))
  first_left_carries r l = either c (r == l.row) l.pairs _ _ _ _ (record { local = refl; done = refl; held = λ g. refl }) (record { local = refl; done = refl; held = λ g. refl })

  left_carries : (choice : Choice) (l : Local) (rows told : ℕ) → Carries c l.pairs ((left_transition choice l).next rows told) ((left_transition choice (carried l)).next rows told)
  left_carries (Begin call) l rows told = first_left_carries (row_or_first (row_linked (link_of told))) l
  left_carries Go l rows told = first_left_carries (row_or_first (row_linked (link_of told))) l
  left_carries (Guess r) l rows told = record { local = refl; done = refl; held = λ g. refl }
  left_carries Stop l rows told = first_left_carries (row_or_first (row_linked (link_of told))) l

  link_left_carries : (r : Option ℕ) (l : Local) → Carries c l.pairs (link_left r l) (link_left r (carried l))
  link_left_carries (Some r) l = either c (r == l.row) l.pairs _ _ _ _ (record { local = refl; done = refl; held = λ g. refl }) (record { local = refl; done = refl; held = λ g. refl })
  link_left_carries None l = record { local = refl; done = refl; held = λ g. refl }

  row_frozen_carries : (ahead : Option ℕ) (l : Local) → Carries c l.pairs (row_frozen ahead l) (row_frozen ahead (carried l))
  row_frozen_carries (Some r) l = record { local = refl; done = refl; held = λ g. refl }
  row_frozen_carries None l = record { local = refl; done = refl; held = λ g. refl }

  freeze_looks : (z : Sizes) (i : ℕ) (l : Local) → Carries c l.pairs (to_freeze_look z i l) (to_freeze_look z i (carried l))
  freeze_looks z i l = either c (nat_lt i z.seats) l.pairs _ _ _ _ (record { local = refl; done = refl; held = λ g. refl }) (row_frozen_carries l.rebalance.ahead l)

  freeze_carries : (z : Sizes) (i : ℕ) (e : Option Pend) (l : Local) → Carries c l.pairs (freeze_seen z i e l) (freeze_seen z i e (carried l))
  freeze_carries z i (Some pend.Idle) l = record { local = refl; done = refl; held = λ g. refl }
  freeze_carries z i (Some (pend.Pending cell)) l = record { local = refl; done = refl; held = λ g. refl }
  freeze_carries z i (Some (pend.Stamped cell version)) l = freeze_looks z (i + 1) (marking z cell version l)
  freeze_carries z i (Some pend.Frozen) l = freeze_looks z (i + 1) l
  freeze_carries z i None l = freeze_looks z (i + 1) l

  entry_carries : (z : Sizes) (i : ℕ) (b : Bool) (l : Local) → Carries c l.pairs (entry_tried z i b l) (entry_tried z i b (carried l))
  entry_carries z i true l = freeze_looks z (i + 1) l
  entry_carries z i false l = record { local = refl; done = refl; held = λ g. refl }

  scan_looks : (z : Sizes) (i : ℕ) (l : Local) → Carries c l.pairs (to_scan_look z i l) (to_scan_look z i (carried l))
  scan_looks z i l = either c (nat_lt i z.seats) l.pairs _ _ _ _ (record { local = refl; done = refl; held = λ g. refl }) (record { local = refl; done = refl; held = λ g. refl })

  scan_seen_carries : (z : Sizes) (i : ℕ) (w : Option ScanWord) (l : Local) → Carries c l.pairs (scan_seen z i w l) (scan_seen z i w (carried l))
  scan_seen_carries z i (Some scan.Quiet) l = scan_looks z (i + 1) l
  scan_seen_carries z i (Some (scan.Waiting clock)) l = record { local = refl; done = refl; held = λ g. refl }
  scan_seen_carries z i (Some (scan.Drawn version)) l = scan_looks z (i + 1) (needing version l)
  scan_seen_carries z i None l = scan_looks z (i + 1) l

  helped_carries : (z : Sizes) (i : ℕ) (w : Option ScanWord) (l : Local) → Carries c l.pairs (scan_helped z i w l) (scan_helped z i w (carried l))
  helped_carries z i (Some scan.Quiet) l = scan_looks z (i + 1) l
  helped_carries z i (Some (scan.Waiting clock)) l = own (clock == l.rebalance.waiting)
    where
      own : (b : Bool) → Carries c l.pairs (to_scan_look z (i + 1) (if b then needing l.rebalance.drawn l else l)) (to_scan_look z (i + 1) (if b then needing l.rebalance.drawn (carried l) else carried l))
      own true = scan_looks z (i + 1) (needing l.rebalance.drawn l)
      own false = scan_looks z (i + 1) l
  helped_carries z i (Some (scan.Drawn version)) l = scan_looks z (i + 1) (needing version l)
  helped_carries z i None l = scan_looks z (i + 1) l

  pin_looks : (z : Sizes) (i : ℕ) (l : Local) → Carries c l.pairs (to_pin_look z i l) (to_pin_look z i (carried l))
  pin_looks z i l = either c (nat_lt i z.seats) l.pairs _ _ _ _ (record { local = refl; done = refl; held = λ g. refl }) (record { local = refl; done = refl; held = λ g. refl })

  pin_seen_carries : (z : Sizes) (i : ℕ) (w : Option ScanWord) (l : Local) → Carries c l.pairs (pin_seen z i w l) (pin_seen z i w (carried l))
  pin_seen_carries z i (Some scan.Quiet) l = pin_looks z (i + 1) l
  pin_seen_carries z i (Some (scan.Waiting clock)) l = pin_looks z (i + 1) l
  pin_seen_carries z i (Some (scan.Drawn version)) l = pin_looks z (i + 1) (needing version l)
  pin_seen_carries z i None l = pin_looks z (i + 1) l

  row_gathered_carries : (z : Sizes) (ahead : Option ℕ) (l : Local) → Carries c l.pairs (row_gathered z ahead l) (row_gathered z ahead (carried l))
  row_gathered_carries z (Some r) l = record { local = refl; done = refl; held = λ g. refl }
  row_gathered_carries z None l = record { local = refl; done = refl; held = λ g. refl }

  left_of_carries : (z : Sizes) (m : Option Mark) (l : Local) → Carries c l.pairs (left_of z m l) (left_of z m (carried l))
  left_of_carries z (Some m) l = either c (nat_lt m.cell (place_in_group z l.rebalance z.cells)) l.pairs _ _ _ _ (record { local = refl; done = refl; held = λ g. refl }) (row_gathered_carries z l.rebalance.ahead l)
  left_of_carries z None l = row_gathered_carries z l.rebalance.ahead l

  take_carries : (z : Sizes) (cell : Option ℕ) (l : Local) → Carries c l.pairs (take_reached z cell l) (take_reached z cell (carried l))
  take_carries z (Some cell) l = record { local = refl; done = refl; held = λ g. refl }
  take_carries z None l = left_of_carries z (least_mark l.rebalance.marks) l

  given_back_carries : (a : Afterwards) (l : Local) → Carries c l.pairs (given_back a l) (given_back a (carried l))
  given_back_carries TryAgain l = record { local = refl; done = refl; held = λ g. refl }
  given_back_carries Refuse l = record { local = refl; done = refl; held = λ g. refl }
  given_back_carries MoveLeft l = record { local = refl; done = refl; held = λ g. refl }

  give_back_carries : (a : Afterwards) (l : Local) → Carries c l.pairs (give_back a l) (give_back a (carried l))
  give_back_carries a l = either c (nat_lt 0 (length l.rebalance.taken)) l.pairs _ _ _ _ (record { local = refl; done = refl; held = λ g. refl }) (given_back_carries a l)

  gave_back_carries : (l : Local) → Carries c l.pairs (gave_back l) (gave_back (carried l))
  gave_back_carries l = either c (has_more l) l.pairs _ _ _ _ (record { local = refl; done = refl; held = λ g. refl }) (given_back_carries l.rebalance.afterwards l)

  seeks : (rows : ℕ) (l : Local) → Carries c l.pairs (to_seek rows l) (to_seek rows (carried l))
  seeks rows l = either c (nat_lt l.rebalance.asked rows) l.pairs _ _ _ _ (record { local = refl; done = refl; held = λ g. refl }) (give_back_carries Refuse l)

  passes_carry : (z : Sizes) (i : ℕ) (l : Local) → Carries c l.pairs (to_pass z i l) (to_pass z i (carried l))
  passes_carry z i l = either c (nat_lt i z.seats) l.pairs _ _ _ _ (record { local = refl; done = refl; held = λ g. refl }) (record { local = refl; done = refl; held = λ g. refl })

  pass_carries : (z : Sizes) (i rows : ℕ) (epoch : Option ℕ) (l : Local) → Carries c l.pairs (pass_seen z i rows epoch l) (pass_seen z i rows epoch (carried l))
  pass_carries z i rows (Some epoch) l = either c (nat_le epoch l.rebalance.number) l.pairs _ _ _ _ (seeks rows l) (passes_carry z (i + 1) l)
  pass_carries z i rows None l = passes_carry z (i + 1) l

  seek_carries : (rows : ℕ) (state : Option State) (l : Local) → Carries c l.pairs (seek_seen rows state l) (seek_seen rows state (carried l))
  seek_carries rows (Some Free) l = record { local = refl; done = refl; held = λ g. refl }
  seek_carries rows (Some (Infant seat)) l = seeks rows l
  seek_carries rows (Some Normal) l = seeks rows l
  seek_carries rows (Some (Leader count)) l = seeks rows l
  seek_carries rows (Some (Follower leader)) l = seeks rows l
  seek_carries rows (Some (Retired number)) l = record { local = refl; done = refl; held = λ g. refl }
  seek_carries rows None l = seeks rows l

  seek_first_carries : (choice : Choice) (l : Local) (rows told : ℕ) → Carries c l.pairs ((seek_first_transition choice l).next rows told) ((seek_first_transition choice (carried l)).next rows told)
  seek_first_carries (Begin call) l rows told = seek_carries rows (state_of told) (seeking l.rebalance.sought l)
  seek_first_carries Go l rows told = seek_carries rows (state_of told) (seeking l.rebalance.sought l)
  seek_first_carries (Guess r) l rows told = seek_carries rows (state_of told) (seeking r l)
  seek_first_carries Stop l rows told = seek_carries rows (state_of told) (seeking l.rebalance.sought l)

  take_row_carries : (rows : ℕ) (b : Bool) (l : Local) → Carries c l.pairs (take_row rows b l) (take_row rows b (carried l))
  take_row_carries rows true l = either c (nat_lt (length (with_row l).rebalance.taken) (length l.rebalance.starts)) l.pairs _ _ _ _ (seeks rows (with_row l)) (record { local = refl; done = refl; held = λ g. refl })
  take_row_carries rows false l = seeks rows l

  row_written_carries : (l : Local) → Carries c l.pairs (row_written l) (row_written (carried l))
  row_written_carries l = either c (has_more l) l.pairs _ _ _ _ (record { local = refl; done = refl; held = λ g. refl }) (record { local = refl; done = refl; held = λ g. refl })

  write_cell_carries : (z : Sizes) (j : ℕ) (l : Local) → Carries c l.pairs (to_write_cell z j l) (to_write_cell z j (carried l))
  write_cell_carries z j l = either c (nat_lt j z.cells) l.pairs _ _ _ _ (either c (nat_lt j (length (infant_cells l))) l.pairs _ _ _ _ (record { local = refl; done = refl; held = λ g. refl }) (record { local = refl; done = refl; held = λ g. refl })) (row_written_carries l)

  write_after_carries : (z : Sizes) (j : ℕ) (l : Local) → Carries c l.pairs (to_write_after z j l) (to_write_after z j (carried l))
  write_after_carries z j l = either c (nat_lt j (length (infant_cells l))) l.pairs _ _ _ _ (record { local = refl; done = refl; held = λ g. refl }) (write_cell_carries z (j + 1) l)

  write_entry_carries : (z : Sizes) (i : ℕ) (l : Local) → Carries c l.pairs (to_write_entry z i l) (to_write_entry z i (carried l))
  write_entry_carries z i l = either c (nat_lt i z.seats) l.pairs _ _ _ _ (record { local = refl; done = refl; held = λ g. refl }) (write_cell_carries z 0 l)

  first_before_carries : (r : ℕ) (l : Local) → Carries c l.pairs (first_before r l) (first_before r (carried l))
  first_before_carries r l = either c (r == l.row) l.pairs _ _ _ _ (record { local = refl; done = refl; held = λ g. refl }) (record { local = refl; done = refl; held = λ g. refl })

  guess_before_carries : (r : ℕ) (state : Option State) (l : Local) → Carries c l.pairs (guess_before r state l) (guess_before r state (carried l))
  guess_before_carries r (Some Free) l = record { local = refl; done = refl; held = λ g. refl }
  guess_before_carries r (Some (Infant seat)) l = record { local = refl; done = refl; held = λ g. refl }
  guess_before_carries r (Some Normal) l = record { local = refl; done = refl; held = λ g. refl }
  guess_before_carries r (Some (Leader count)) l = record { local = refl; done = refl; held = λ g. refl }
  guess_before_carries r (Some (Follower leader)) l = record { local = refl; done = refl; held = λ g. refl }
  guess_before_carries r (Some (Retired number)) l = record { local = refl; done = refl; held = λ g. refl }
  guess_before_carries r None l = record { local = refl; done = refl; held = λ g. refl }

  before_carries : (choice : Choice) (l : Local) (rows told : ℕ) → Carries c l.pairs ((before_transition choice l).next rows told) ((before_transition choice (carried l)).next rows told)
  before_carries (Begin call) l rows told = first_before_carries (row_or_first (row_linked (link_of told))) l
  before_carries Go l rows told = first_before_carries (row_or_first (row_linked (link_of told))) l
  before_carries (Guess r) l rows told = guess_before_carries r (state_of told) l
  before_carries Stop l rows told = first_before_carries (row_or_first (row_linked (link_of told))) l

  row_before_carries : (r : Option ℕ) (marked : Bool) (l : Local) → Carries c l.pairs (row_before r marked l) (row_before r marked (carried l))
  row_before_carries (Some r) marked l = either c (r == l.row) l.pairs _ _ _ _ (either c marked l.pairs _ _ _ _ (give_back_carries MoveLeft l) (record { local = refl; done = refl; held = λ g. refl })) (record { local = refl; done = refl; held = λ g. refl })
  row_before_carries None marked l = give_back_carries TryAgain l

  link_before_carries : (link : Option Link) (l : Local) → Carries c l.pairs (link_before link l) (link_before link (carried l))
  link_before_carries (Some link) l = row_before_carries link.row link.marked l
  link_before_carries None l = give_back_carries TryAgain l

  row_replaced_carries : (r : Option ℕ) (marked : Bool) (l : Local) → Carries c l.pairs (row_replaced r marked l) (row_replaced r marked (carried l))
  row_replaced_carries (Some r) marked l = either c (r == l.row) l.pairs _ _ _ _ (either c marked l.pairs _ _ _ _ (give_back_carries MoveLeft l) (record { local = refl; done = refl; held = λ g. refl })) (give_back_carries TryAgain l)
  row_replaced_carries None marked l = give_back_carries TryAgain l

  replaced_carries : (link : Option Link) (l : Local) → Carries c l.pairs (replaced link l) (replaced link (carried l))
  replaced_carries (Some link) l = row_replaced_carries link.row link.marked l
  replaced_carries None l = give_back_carries TryAgain l

  retired_carries : (ahead : Option ℕ) (l : Local) → Carries c l.pairs (retired ahead l) (retired ahead (carried l))
  retired_carries (Some r) l = record { local = refl; done = refl; held = λ g. refl }
  retired_carries None l = record { local = refl; done = refl; held = λ g. refl }

  -- what follows from an event of a rebalance
  pub rebalance_carries : (z : Sizes) (a : Activity) (s : ℕ) (l : Local) (rows told : ℕ) → IsRebalancing a → Carries c l.pairs ((transition z a s c l).next rows told) ((transition z a s c (carried l)).next rows told)
  rebalance_carries z Activity.Retry s l rows told u = record { local = refl; done = refl; held = λ g. refl }
  rebalance_carries z (Activity.Enter Enter.LoadEpoch) s l rows told u = record { local = refl; done = refl; held = λ g. refl }
  rebalance_carries z (Activity.Rebalance (Rebalance.Engage Engage.Clock)) s l rows told u = either c (nat_le SPENT told) l.pairs _ _ _ _ (record { local = refl; done = refl; held = λ g. refl }) (record { local = refl; done = refl; held = λ g. refl })
  rebalance_carries z (Activity.Rebalance (Rebalance.Engage Engage.Epoch)) s l rows told u = either c (nat_le SPENT told) l.pairs _ _ _ _ (record { local = refl; done = refl; held = λ g. refl }) (record { local = refl; done = refl; held = λ g. refl })
  rebalance_carries z (Activity.Rebalance (Rebalance.Engage Engage.State)) s l rows told u = state_carries (state_of told) l
  rebalance_carries z (Activity.Rebalance (Rebalance.Engage (Engage.Normal seat))) s l rows told u = record { local = refl; done = refl; held = λ g. refl }
  rebalance_carries z (Activity.Rebalance (Rebalance.Engage Engage.Lead)) s l rows told u = engaged_carries (told == state_word Normal) l
  rebalance_carries z (Activity.Rebalance (Rebalance.Engage (Engage.MarkLink count))) s l rows told u = marked_carries count (row_linked (link_of told)) l
  rebalance_carries z (Activity.Rebalance (Rebalance.Engage (Engage.Decide count))) s l rows told u = decided_carries count (state_of told) l
  rebalance_carries z (Activity.Rebalance (Rebalance.Claim Claim.Count)) s l rows told u = counted_carries (count_of told) l
  rebalance_carries z (Activity.Rebalance (Rebalance.Claim Claim.Exchange)) s l rows told u = claimed_carries (state_of told) l
  rebalance_carries z (Activity.Rebalance (Rebalance.Claim _)) s l rows told u = record { local = refl; done = refl; held = λ g. refl }
  rebalance_carries z (Activity.Rebalance (Rebalance.Left Left.Start)) s l rows told u = left_carries c l rows told
  rebalance_carries z (Activity.Rebalance (Rebalance.Left Left.Next)) s l rows told u = link_left_carries (row_linked (link_of told)) l
  rebalance_carries z (Activity.Rebalance (Rebalance.Left Left.NextLeast)) s l rows told u = either c (nat_lt (key_of_word told) l.lower) l.pairs _ _ _ _ (record { local = refl; done = refl; held = λ g. refl }) (record { local = refl; done = refl; held = λ g. refl })
  rebalance_carries z (Activity.Rebalance (Rebalance.Freeze Freeze.Count)) s l rows told u = record { local = refl; done = refl; held = λ g. refl }
  rebalance_carries z (Activity.Rebalance (Rebalance.Freeze (Freeze.Look i))) s l rows told u = freeze_carries z i (pend_of told) l
  rebalance_carries z (Activity.Rebalance (Rebalance.Freeze (Freeze.Entry i))) s l rows told u = entry_carries z i (told == pend_word l.rebalance.entry) l
  rebalance_carries z (Activity.Rebalance (Rebalance.Freeze (Freeze.Scan i))) s l rows told u = scan_seen_carries z i (scan_of told) l
  rebalance_carries z (Activity.Rebalance (Rebalance.Freeze (Freeze.Draw i))) s l rows told u = record { local = refl; done = refl; held = λ g. refl }
  rebalance_carries z (Activity.Rebalance (Rebalance.Freeze (Freeze.Settle i))) s l rows told u = helped_carries z i (scan_of told) l
  rebalance_carries z (Activity.Rebalance (Rebalance.Freeze (Freeze.Pin i))) s l rows told u = pin_seen_carries z i (scan_of told) l
  rebalance_carries z (Activity.Rebalance (Rebalance.Gather Gather.Link)) s l rows told u = take_carries z (cell_of_link_word told) l
  rebalance_carries z (Activity.Rebalance (Rebalance.Gather Gather.LeftOverValue)) s l rows told u = left_of_carries z (least_mark l.rebalance.marks) (keeping z (value_of_word told) l)
  rebalance_carries z (Activity.Rebalance (Rebalance.Gather _)) s l rows told u = record { local = refl; done = refl; held = λ g. refl }
  rebalance_carries z (Activity.Rebalance (Rebalance.Seek Seek.First)) s l rows told u = seek_first_carries c l rows told
  rebalance_carries z (Activity.Rebalance (Rebalance.Seek Seek.Next)) s l rows told u = seek_carries rows (state_of told) (seeking l.rebalance.sought l)
  rebalance_carries z (Activity.Rebalance (Rebalance.Seek (Seek.Pass i))) s l rows told u = pass_carries z i rows (pass_of_word told) l
  rebalance_carries z (Activity.Rebalance (Rebalance.Seek Seek.Reclaim)) s l rows told u = record { local = refl; done = refl; held = λ g. refl }
  rebalance_carries z (Activity.Rebalance (Rebalance.Seek Seek.Take)) s l rows told u = take_row_carries rows (told == state_word Free) l
  rebalance_carries z (Activity.Rebalance (Rebalance.Seek Seek.GiveBack)) s l rows told u = gave_back_carries l
  rebalance_carries z (Activity.Rebalance (Rebalance.Write Write.First)) s l rows told u = write_entry_carries z 0 l
  rebalance_carries z (Activity.Rebalance (Rebalance.Write (Write.Entry i))) s l rows told u = write_entry_carries z (i + 1) l
  rebalance_carries z (Activity.Rebalance (Rebalance.Write (Write.Version j))) s l rows told u = write_after_carries z j l
  rebalance_carries z (Activity.Rebalance (Rebalance.Write (Write.After j))) s l rows told u = write_cell_carries z (j + 1) l
  rebalance_carries z (Activity.Rebalance (Rebalance.Write _)) s l rows told u = record { local = refl; done = refl; held = λ g. refl }
  rebalance_carries z (Activity.Rebalance (Rebalance.Replace Replace.Start)) s l rows told u = before_carries c l rows told
  rebalance_carries z (Activity.Rebalance (Rebalance.Replace Replace.GuessedLeast)) s l rows told u = either c (nat_lt (key_of_word told) l.lower) l.pairs _ _ _ _ (record { local = refl; done = refl; held = λ g. refl }) (record { local = refl; done = refl; held = λ g. refl })
  rebalance_carries z (Activity.Rebalance (Rebalance.Replace Replace.First)) s l rows told u = first_before_carries (row_or_first (row_linked (link_of told))) l
  rebalance_carries z (Activity.Rebalance (Rebalance.Replace Replace.Next)) s l rows told u = link_before_carries (link_of told) l
  rebalance_carries z (Activity.Rebalance (Rebalance.Replace Replace.NextLeast)) s l rows told u = either c (nat_lt (key_of_word told) l.lower) l.pairs _ _ _ _ (record { local = refl; done = refl; held = λ g. refl }) (give_back_carries TryAgain l)
  rebalance_carries z (Activity.Rebalance (Rebalance.Replace Replace.Exchange)) s l rows told u = replaced_carries (link_of told) l
  rebalance_carries z (Activity.Rebalance (Rebalance.Replace Replace.Normalise)) s l rows told u = either c (has_more l) l.pairs _ _ _ _ (record { local = refl; done = refl; held = λ g. refl }) (record { local = refl; done = refl; held = λ g. refl })
  rebalance_carries z (Activity.Rebalance (Rebalance.Replace Replace.Number)) s l rows told u = record { local = refl; done = refl; held = λ g. refl }
  rebalance_carries z (Activity.Rebalance (Rebalance.Replace Replace.Retire)) s l rows told u = retired_carries l.rebalance.ahead l
  rebalance_carries z _ s l rows told u = absurd u
