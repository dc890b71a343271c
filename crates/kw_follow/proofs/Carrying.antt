-- The seat's local and the one that code carries: they have the same operation, and what follows is
-- again a local and what code carries for it.
--
-- One lemma for each part of the table, over what the seat knows. A record update of the whole
-- computes, so that each line is one equation, but for the tests that a line makes.
use Rattle.std.proofs.Common.{ℕ, ◌≡◌, ◌+◌, ◌==◌, ◌&&◌, Bool, true, false, nat_lt, nat_le, if◌then◌else◌, Option, Some, None, unwrap_or, refl, ap}
use Rattle.kw_words.specs.declared.pend.Pend.{Pend}
use Rattle.kw_words.specs.declared.pend.Pend.TheVariants as pend
use Rattle.kw_words.specs.declared.state.State.{State}
use Rattle.kw_words.specs.declared.state.State.TheVariants.{Free, Infant, Normal, Leader, Follower, Retired}
use Rattle.kw_words.specs.declared.sizes.TheConstants.{SPENT}
use Rattle.kw_words.specs.Count.{count_of}
use Rattle.kw_words.specs.Link.{link_of}
use Rattle.kw_words.specs.Pend.{pend_of, pend_word}
use Rattle.kw_words.specs.Plain.{built_of_word, key_of_word, version_of_word, cell_of_link_word, cell_link_word}
use Rattle.kw_words.specs.Scan.{scan_of}
use Rattle.kw_words.specs.State.{state_of}
use Rattle.kw_model.specs.declared.call.Call.{Call}
use Rattle.kw_model.specs.declared.call.Call.TheVariants.{Put, Del, Get, Scan, Pin, ScanAt, Unpin}
use Rattle.kw_world.specs.declared.answer.Answer.{Answer}
use Rattle.kw_world.specs.declared.activity.Activity.{Activity}
use Rattle.kw_world.specs.declared.activity.draw.Draw.TheVariants as Draw
use Rattle.kw_world.specs.declared.activity.rebalance.claim.Claim.TheVariants as Claim
use Rattle.kw_world.specs.declared.activity.rebalance.engage.Engage.TheVariants as Engage
use Rattle.kw_world.specs.declared.activity.rebalance.left.Left.TheVariants as Left
use Rattle.kw_world.specs.declared.activity.enter.Enter.TheVariants as Enter
use Rattle.kw_world.specs.declared.activity.rebalance.freeze.Freeze.TheVariants as Freeze
use Rattle.kw_world.specs.declared.activity.rebalance.gather.Gather.TheVariants as Gather
use Rattle.kw_world.specs.declared.activity.insert.Insert.TheVariants as Insert
use Rattle.kw_world.specs.declared.activity.look.Look.TheVariants as Look
use Rattle.kw_world.specs.declared.activity.put.Put.TheVariants as Put
use Rattle.kw_world.specs.declared.activity.read.Read.TheVariants as Read
use Rattle.kw_world.specs.declared.activity.rebalance.Rebalance.TheVariants as Rebalance
use Rattle.kw_world.specs.declared.activity.rebalance.replace.Replace.TheVariants as Replace
use Rattle.kw_world.specs.declared.activity.rebalance.seek.Seek.TheVariants as Seek
use Rattle.kw_world.specs.declared.activity.walk.Walk.TheVariants as Walk
use Rattle.kw_world.specs.declared.activity.rebalance.write.Write.TheVariants as Write
use Rattle.kw_world.specs.declared.event.Choice.{Choice}
use Rattle.kw_world.specs.declared.event.Choice.TheVariants.{Begin, Go, Guess, Stop}
use Rattle.kw_world.specs.declared.local.Local.{Local}
use Rattle.kw_world.specs.Calls.{first_key, is_in_range, is_range_empty, is_pin, is_scan}
use Rattle.kw_world.specs.Transition.{row_linked, leave}
use Rattle.kw_world.specs.ListTransitions.{cell_guess, first_operation, insert_from, insert_started, insert_tried, is_newer}
use Rattle.kw_world.specs.PutTransitions.{cleared, has_room, stamp_seen, tidies_row}
use Rattle.kw_world.specs.ReadTransitions.{to_look, look_seen, help_seen, remembering}
use Rattle.kw_world.specs.ScanTransitions.{entered, pin_entered, scan_at_entered, unpin_entered, answer_or_stopped, settled, version_settled}
use Rattle.kw_world.specs.WalkTransitions.{arrive, guess_seen, is_stop, is_stopped, link_reached, start_transition, walk_least, walk_transition}
use Rattle.kw_world.specs.SeekTransitions.{seek_first_transition}
use Rattle.kw_world.specs.LeftTransitions.{left_transition}
use Rattle.kw_world.specs.ReplaceTransitions.{before_transition}
use Rattle.kw_world.specs.Sizes.{Sizes}
use Rattle.kw_world.specs.Table.{transition}
use Rattle.kw_follow.specs.Following.{carried}
use Rattle.kw_follow.proofs.Carries.{Carries, either}
use Rattle.kw_follow.proofs.CarryingRebalance.{rebalance_carries}

module _ (c : Choice) where
  -- How a call begins.

  pin_enters : (p : Option ℕ) (l : Local) → Carries c l.pairs (pin_entered p l) (pin_entered p (carried l))
  pin_enters None l = record { local = refl; done = refl; held = λ g. refl }
  pin_enters (Some version) l = record { local = refl; done = refl; held = λ g. refl }

  scan_at_enters : (p : Option ℕ) (l : Local) → Carries c l.pairs (scan_at_entered p l) (scan_at_entered p (carried l))
  scan_at_enters None l = record { local = refl; done = refl; held = λ g. refl }
  scan_at_enters (Some version) l = either c (is_range_empty l.call) l.pairs _ _ _ _ (record { local = refl; done = refl; held = λ g. refl }) (record { local = refl; done = refl; held = λ g. refl })

  unpin_enters : (p : Option ℕ) (l : Local) → Carries c l.pairs (unpin_entered p l) (unpin_entered p (carried l))
  unpin_enters None l = record { local = refl; done = refl; held = λ g. refl }
  unpin_enters (Some version) l = record { local = refl; done = refl; held = λ g. refl }

  enters : (call : Option Call) (l : Local) → Carries c l.pairs (entered call l) (entered call (carried l))
  enters (Some (Put key value)) l = record { local = refl; done = refl; held = λ g. refl }
  enters (Some (Del key)) l = record { local = refl; done = refl; held = λ g. refl }
  enters (Some (Get key)) l = record { local = refl; done = refl; held = λ g. refl }
  enters (Some (Scan from upto)) l = record { local = refl; done = refl; held = λ g. refl }
  enters (Some Pin) l = pin_enters l.pin l
  enters (Some (ScanAt from upto)) l = scan_at_enters l.pin l
  enters (Some Unpin) l = unpin_enters l.pin l
  enters None l = record { local = refl; done = refl; held = λ g. refl }

  settles : (version : ℕ) (l : Local) → Carries c l.pairs (settled version l) (settled version (carried l))
  settles version l = either c (is_pin l.call) l.pairs _ _ _ _ (record { local = refl; done = refl; held = λ g. refl }) (either c (is_range_empty l.call) l.pairs _ _ _ _ (record { local = refl; done = refl; held = λ g. refl }) (record { local = refl; done = refl; held = λ g. refl }))

  -- The walk.

  guesses : (r : ℕ) (x : Option State) (l : Local) → Carries c l.pairs (guess_seen r x l) (guess_seen r x (carried l))
  guesses r (Some Free) l = record { local = refl; done = refl; held = λ g. refl }
  guesses r (Some (Infant seat)) l = record { local = refl; done = refl; held = λ g. refl }
  guesses r (Some Normal) l = record { local = refl; done = refl; held = λ g. refl }
  guesses r (Some (Leader count)) l = record { local = refl; done = refl; held = λ g. refl }
  guesses r (Some (Follower leader)) l = record { local = refl; done = refl; held = λ g. refl }
  guesses r (Some (Retired number)) l = record { local = refl; done = refl; held = λ g. refl }
  guesses r None l = record { local = refl; done = refl; held = λ g. refl }

  starts : (choice : Choice) (l : Local) (rows told : ℕ) → Carries c l.pairs ((start_transition choice l).next rows told) ((start_transition choice (carried l)).next rows told)
  starts (Begin call) l rows told = record { local = refl; done = refl; held = λ g. refl }
  starts Go l rows told = record { local = refl; done = refl; held = λ g. refl }
  starts (Guess r) l rows told = guesses r (state_of told) l
  starts Stop l rows told = record { local = refl; done = refl; held = λ g. refl }

  arrives : (call : Option Call) (l : Local) → Carries c l.pairs (arrive call l) (arrive call (carried l))
  arrives (Some (Put key value)) l = record { local = refl; done = refl; held = λ g. refl }
  arrives (Some (Del key)) l = record { local = refl; done = refl; held = λ g. refl }
  arrives (Some (Get key)) l = record { local = refl; done = refl; held = λ g. refl }
  arrives (Some (Scan from upto)) l = record { local = refl; done = refl; held = λ g. refl }
  arrives (Some Pin) l = record { local = refl; done = refl; held = λ g. refl }
  arrives (Some (ScanAt from upto)) l = record { local = refl; done = refl; held = λ g. refl }
  arrives (Some Unpin) l = record { local = refl; done = refl; held = λ g. refl }
  arrives None l = record { local = refl; done = refl; held = λ g. refl }

  links : (r : Option ℕ) (l : Local) → Carries c l.pairs (link_reached r l) (link_reached r (carried l))
  links None l = arrives l.call (record l { next = None; upper = 0 })
  links (Some r) l = record { local = refl; done = refl; held = λ g. refl }

  walks : (b : Bool) (s : ℕ) (l : Local) (rows told : ℕ) → (is_stop c ≡ false → b ≡ false) → Carries c l.pairs ((walk_transition b s l).next rows told) ((walk_transition b s (carried l)).next rows told)
  walks true s l rows told n = record { local = refl; done = refl; held = λ g. let x : true ≡ false = n g in absurd (cc) }
  walks false s l rows told n = links (row_linked (link_of told)) l

  walks_on : (least built : ℕ) (l : Local) → Carries c l.pairs (walk_least least built l) (walk_least least built (carried l))
  walks_on least built l = either c (nat_le least l.want) l.pairs _ _ _ _ (record { local = refl; done = refl; held = λ g. refl }) (arrives l.call (record l { next = Some l.candidate; upper = least }))

  -- A reader looks at the entries.

  looks : (z : Sizes) (i : ℕ) (l : Local) → Carries c l.pairs (to_look z i l) (to_look z i (carried l))
  looks z i l = either c (nat_lt i z.seats) l.pairs _ _ _ _ (record { local = refl; done = refl; held = λ g. refl }) (record { local = refl; done = refl; held = λ g. refl })

  sees : (z : Sizes) (i : ℕ) (e : Option Pend) (l : Local) → Carries c l.pairs (look_seen z i e l) (look_seen z i e (carried l))
  sees z i (Some pend.Idle) l = looks z (i + 1) l
  sees z i (Some (pend.Pending cell)) l = record { local = refl; done = refl; held = λ g. refl }
  sees z i (Some (pend.Stamped cell version)) l = looks z (i + 1) (remembering cell version l)
  sees z i (Some pend.Frozen) l = looks z (i + 1) l
  sees z i None l = looks z (i + 1) l

  helps : (z : Sizes) (e : Option Pend) (l : Local) → Carries c l.pairs (help_seen z e l) (help_seen z e (carried l))
  helps z (Some pend.Idle) l = looks z (l.looked + 1) l
  helps z (Some (pend.Pending cell)) l = own (cell == l.saw)
    where
      own : (b : Bool) → Carries c l.pairs (to_look z (l.looked + 1) (if b then remembering cell l.helping l else l)) (to_look z (l.looked + 1) (if b then remembering cell l.helping (carried l) else carried l))
      own true = looks z (l.looked + 1) (remembering cell l.helping l)
      own false = looks z (l.looked + 1) l
  helps z (Some (pend.Stamped cell version)) l = looks z (l.looked + 1) (remembering cell version l)
  helps z (Some pend.Frozen) l = looks z (l.looked + 1) l
  helps z None l = looks z (l.looked + 1) l

  -- A put at its row.

  stamps : (e : Option Pend) (l : Local) → Carries c l.pairs (stamp_seen e l) (stamp_seen e (carried l))
  stamps (Some pend.Idle) l = record { local = refl; done = refl; held = λ g. refl }
  stamps (Some (pend.Pending cell)) l = either c (cell == l.cell) l.pairs _ _ _ _ (record { local = refl; done = refl; held = λ g. refl }) (record { local = refl; done = refl; held = λ g. refl })
  stamps (Some (pend.Stamped cell version)) l = either c (cell == l.cell) l.pairs _ _ _ _ (record { local = refl; done = refl; held = λ g. refl }) (record { local = refl; done = refl; held = λ g. refl })
  stamps (Some pend.Frozen) l = record { local = refl; done = refl; held = λ g. refl }
  stamps None l = record { local = refl; done = refl; held = λ g. refl }

  -- the walk of a put along the row's list, and its exchange
  inserts_from : (z : Sizes) (cell : Option ℕ) (l : Local) → Carries c l.pairs (insert_from z cell l) (insert_from z cell (carried l))
  inserts_from z (Some cell) l = record { local = refl; done = refl; held = λ g. refl }
  inserts_from z None l = record { local = refl; done = refl; held = λ g. refl }

  -- where it begins
  inserts_start : (z : Sizes) (guess : Option ℕ) (l : Local) (told : ℕ) → Carries c l.pairs (insert_started z l guess told) (insert_started z (carried l) guess told)
  inserts_start z (Some cell) l told = either c (nat_lt (key_of_word told) (first_key l.call)) l.pairs _ _ _ _ (record { local = refl; done = refl; held = λ g. refl }) (record { local = refl; done = refl; held = λ g. refl })
  inserts_start z None l told = inserts_from z (cell_of_link_word told) l

  inserts_tried : (z : Sizes) (b : Bool) (l : Local) → Carries c l.pairs (insert_tried z b l) (insert_tried z b (carried l))
  inserts_tried z true l = record { local = refl; done = refl; held = λ g. refl }
  inserts_tried z false l = record { local = refl; done = refl; held = λ g. refl }

  -- whatever the seat chooses
  inserts_begin : (z : Sizes) (choice : Choice) (l : Local) (told : ℕ) → Carries c l.pairs (insert_started z l (cell_guess choice l) told) (insert_started z (carried l) (cell_guess choice (carried l)) told)
  inserts_begin z (Begin call) l told = inserts_start z None l told
  inserts_begin z Go l told = inserts_start z None l told
  inserts_begin z (Guess cell) l told = saw (nat_lt cell l.built)
    where
      saw : (b : Bool) → Carries c l.pairs (insert_started z l (if b then Some cell else None) told) (insert_started z (carried l) (if b then Some cell else None) told)
      saw true = inserts_start z (Some cell) l told
      saw false = inserts_start z None l told
  inserts_begin z Stop l told = inserts_start z None l told

  -- a put that is done leaves, or tidies its row
  tidies : (choice : Choice) (rows : ℕ) (l : Local) → Carries c l.pairs (cleared rows choice l) (cleared rows choice (carried l))
  tidies (Begin call) rows l = record { local = refl; done = refl; held = λ g. refl }
  tidies Go rows l = record { local = refl; done = refl; held = λ g. refl }
  tidies (Guess r) rows l = either c (tidies_row rows (Guess r) l) l.pairs _ _ _ _ (record { local = refl; done = refl; held = λ g. refl }) (record { local = refl; done = refl; held = λ g. refl })
  tidies Stop rows l = record { local = refl; done = refl; held = λ g. refl }

-- a walk is stopped by the choice to stop alone
not_stopped : (c : Choice) (l : Local) → is_stop c ≡ false → is_stopped c l ≡ false
not_stopped c l n = ap (λ b. b && (is_scan l.call && l.has_read)) n

-- a scan that is over leaves with its pairs, unless it is stopped
clears : (c : Choice) (answer : Answer) (l : Local) → Carries c l.pairs (leave (answer_or_stopped answer c) l) (leave (answer_or_stopped answer c) (carried l))
clears (Begin call) answer l = record { local = refl; done = refl; held = λ g. refl }
clears Go answer l = record { local = refl; done = refl; held = λ g. refl }
clears (Guess r) answer l = record { local = refl; done = refl; held = λ g. refl }
clears Stop answer l = record { local = refl; done = refl; held = λ g. refl }

-- the seat is in the middle of a call, and reads no cell
abbrev pub IsGoingOn : Activity → Type 0
IsGoingOn Activity.Idle = ⊥
IsGoingOn (Activity.Read _) = ⊥
IsGoingOn (Activity.Leave answer) = ⊥
IsGoingOn _ = Unit {0}

-- what follows from an event there
pub carries : (z : Sizes) (a : Activity) (s : ℕ) (c : Choice) (l : Local) (rows told : ℕ) → IsGoingOn a → Carries c l.pairs ((transition z a s c l).next rows told) ((transition z a s c (carried l)).next rows told)
carries z Activity.Idle s c l rows told u = absurd u
carries z (Activity.Enter Enter.Announce) s c l rows told u = enters c l.call l
carries z (Activity.Draw Draw.Clock) s c l rows told u = either c (nat_le SPENT told) l.pairs _ _ _ _ (record { local = refl; done = refl; held = λ g. refl }) (record { local = refl; done = refl; held = λ g. refl })
carries z (Activity.Draw Draw.Wait) s c l rows told u = record { local = refl; done = refl; held = λ g. refl }
carries z (Activity.Draw Draw.Version) s c l rows told u = record { local = refl; done = refl; held = λ g. refl }
carries z (Activity.Draw Draw.Settle) s c l rows told u = settles c (version_settled (scan_of told) l.drawn) l
carries z (Activity.Draw Draw.Pin) s c l rows told u = record { local = refl; done = refl; held = λ g. refl }
carries z (Activity.Walk Walk.Start) s c l rows told u = starts c c l rows told
carries z (Activity.Walk Walk.First) s c l rows told u = record { local = refl; done = refl; held = λ g. refl }
carries z (Activity.Walk Walk.GuessedLeast) s c l rows told u = either c (nat_le (key_of_word told) l.want) l.pairs _ _ _ _ (record { local = refl; done = refl; held = λ g. refl }) (record { local = refl; done = refl; held = λ g. refl })
carries z (Activity.Walk Walk.Next) s c l rows told u = walks c (is_stopped c l) s l rows told (not_stopped c l)
carries z (Activity.Walk Walk.NextLeast) s c l rows told u = walks_on c (key_of_word told) (built_of_word told) l
carries z (Activity.Look (Look.Entry i)) s c l rows told u = sees c z i (pend_of told) l
carries z (Activity.Look Look.Key) s c l rows told u = either c (is_in_range l.call (key_of_word told)) l.pairs _ _ _ _ (record { local = refl; done = refl; held = λ g. refl }) (looks c z (l.looked + 1) l)
carries z (Activity.Look Look.Clock) s c l rows told u = record { local = refl; done = refl; held = λ g. refl }
carries z (Activity.Look Look.Help) s c l rows told u = helps c z (pend_of told) l
carries z (Activity.Read _) s c l rows told u = absurd u
carries z (Activity.EndScan answer) s c l rows told u = clears c answer l
carries z Activity.ClearPin s c l rows told u = record { local = refl; done = refl; held = λ g. refl }
carries z (Activity.Put Put.Count) s c l rows told u = either c (has_room z (count_of told)) l.pairs _ _ _ _ (record { local = refl; done = refl; held = λ g. refl }) (record { local = refl; done = refl; held = λ g. refl })
carries z (Activity.Put Put.Add) s c l rows told u = either c (has_room z (count_of told)) l.pairs _ _ _ _ (record { local = refl; done = refl; held = λ g. refl }) (record { local = refl; done = refl; held = λ g. refl })
carries z (Activity.Put Put.Announce) s c l rows told u = either c (told == pend_word pend.Idle) l.pairs _ _ _ _ (record { local = refl; done = refl; held = λ g. refl }) (record { local = refl; done = refl; held = λ g. refl })
carries z (Activity.Put Put.Stamp) s c l rows told u = stamps c (pend_of told) l
carries z (Activity.Insert Insert.Start) s c l rows told u = inserts_begin c z c l told
carries z (Activity.Insert Insert.Link) s c l rows told u = inserts_from c z (cell_of_link_word told) l
carries z (Activity.Insert Insert.Key) s c l rows told u = either c (nat_lt (key_of_word told) (first_key l.call)) l.pairs _ _ _ _ (record { local = refl; done = refl; held = λ g. refl }) (either c (key_of_word told == first_key l.call) l.pairs _ _ _ _ (record { local = refl; done = refl; held = λ g. refl }) (record { local = refl; done = refl; held = λ g. refl }))
carries z (Activity.Insert Insert.Version) s c l rows told u = either c (is_newer (unwrap_or (version_of_word told) 0) l.place l) l.pairs _ _ _ _ (record { local = refl; done = refl; held = λ g. refl }) (record { local = refl; done = refl; held = λ g. refl })
carries z (Activity.Insert Insert.Set) s c l rows told u = record { local = refl; done = refl; held = λ g. refl }
carries z (Activity.Insert Insert.Exchange) s c l rows told u = inserts_tried c z (told == cell_link_word l.held) l
carries z (Activity.Put Put.Clear) s c l rows told u = tidies c c rows l
carries z (Activity.Put _) s c l rows told u = record { local = refl; done = refl; held = λ g. refl }
carries z (Activity.Leave answer) s c l rows told u = absurd u
carries z Activity.Retry s c l rows told u = rebalance_carries c z Activity.Retry s l rows told tt
carries z (Activity.Enter Enter.LoadEpoch) s c l rows told u = rebalance_carries c z (Activity.Enter Enter.LoadEpoch) s l rows told tt
carries z (Activity.Rebalance b) s c l rows told u = rebalance_carries c z (Activity.Rebalance b) s l rows told tt

-- so is the first operation of a walk along a list
firsts : (c : Choice) (l : Local) → first_operation (cell_guess c (carried l)) (carried l) ≡ first_operation (cell_guess c l) l
firsts (Begin call) l = refl
firsts Go l = refl
firsts (Guess cell) l = saw (nat_lt cell l.built)
  where
    saw : (b : Bool) → first_operation (if b then Some cell else None) (carried l) ≡ first_operation (if b then Some cell else None) l
    saw true = refl
    saw false = refl
firsts Stop l = refl

-- the operation is the same for code as for the seat, at every activity
pub operates : (z : Sizes) (a : Activity) (s : ℕ) (c : Choice) (l : Local) → (transition z a s c (carried l)).operation ≡ (transition z a s c l).operation
operates z (Activity.Walk Walk.Start) s c l = starting c
  where
    starting : (x : Choice) → (start_transition x (carried l)).operation ≡ (start_transition x l).operation
    starting (Begin call) = refl
    starting Go = refl
    starting (Guess r) = refl
    starting Stop = refl
operates z (Activity.Walk Walk.Next) s c l = walking (is_stopped c l)
  where
    walking : (b : Bool) → (walk_transition b s (carried l)).operation ≡ (walk_transition b s l).operation
    walking true = refl
    walking false = refl
operates z (Activity.Rebalance (Rebalance.Seek Seek.First)) s c l = seeking c
  where
    seeking : (x : Choice) → (seek_first_transition x (carried l)).operation ≡ (seek_first_transition x l).operation
    seeking (Begin call) = refl
    seeking Go = refl
    seeking (Guess r) = refl
    seeking Stop = refl
operates z (Activity.Rebalance (Rebalance.Replace Replace.Start)) s c l = begins c
  where
    begins : (x : Choice) → (before_transition x (carried l)).operation ≡ (before_transition x l).operation
    begins (Begin call) = refl
    begins Go = refl
    begins (Guess r) = refl
    begins Stop = refl
operates z (Activity.Rebalance (Rebalance.Left Left.Start)) s c l = lefts c
  where
    lefts : (x : Choice) → (left_transition x (carried l)).operation ≡ (left_transition x l).operation
    lefts (Begin call) = refl
    lefts Go = refl
    lefts (Guess r) = refl
    lefts Stop = refl
operates z (Activity.Read Read.Start) s c l = firsts c l
operates z (Activity.Insert Insert.Start) s c l = firsts c l
operates z (Activity.Enter Enter.Announce) s c l = refl
operates z (Activity.Draw Draw.Clock) s c l = refl
operates z (Activity.Look Look.Key) s c l = refl
operates z (Activity.Read Read.Link) s c l = refl
operates z (Activity.Put Put.Count) s c l = refl
operates z (Activity.Insert Insert.Link) s c l = refl
operates z (Activity.Rebalance (Rebalance.Engage Engage.Clock)) s c l = refl
operates z (Activity.Rebalance (Rebalance.Claim Claim.Count)) s c l = refl
operates z (Activity.Rebalance (Rebalance.Freeze Freeze.Count)) s c l = refl
operates z (Activity.Rebalance (Rebalance.Gather Gather.Link)) s c l = refl
operates z (Activity.Rebalance (Rebalance.Write Write.Count)) s c l = refl
operates z _ s c l = refl
