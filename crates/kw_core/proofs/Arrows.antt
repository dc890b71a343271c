-- The arrows of the table: from an activity, with the words that are there, to what the seat knows
-- next.
--
-- There is one constructor for each arrow. It carries what the event found, so that a law by cases
-- on the arrow splits no test of the table again; where a law does not matter for most arrows, one
-- catch-all serves them. The words are a function of names. What follows where the end of the
-- looks, or of a row's cells, has no event of its own is an arrow of its own type, `NextLook` and
-- `NextLeftOver`. In a rebalance there are two arrows in its place, so that each says outright what
-- the seat knows next.
use Rattle.std.proofs.Common.{ℕ, ◌≡◌, ◌≢◌, ◌⊎◌, inl, inr, ◌+◌, ◌<◌, ◌≤◌, ◌==◌, Option, Some, None, Bool, true, false, nat_lt, nat_le, [], arith, refl, sym, ◌∙◌, ap, subst, if◌then◌else◌, unwrap_or}
use Rattle.std.proofs.lemmas.Bool.Decides.{nat_tests}
use Rattle.kw_words.specs.declared.layout.Name.TheVariants as name
use Rattle.kw_words.specs.declared.pend.Pend.{Pend}
use Rattle.kw_words.specs.declared.pend.Pend.TheVariants as pend
use Rattle.kw_words.specs.declared.state.State.{State}
use Rattle.kw_words.specs.declared.state.State.TheVariants.{Free, Infant, Normal, Leader, Follower, Retired}
use Rattle.kw_words.specs.declared.sizes.TheConstants.{MOST_GROUP, SPENT}
use Rattle.kw_words.specs.Count.{count_of}
use Rattle.kw_words.specs.Pend.{pend_of, pend_word}
use Rattle.kw_words.specs.declared.scan.ScanWord.{ScanWord}
use Rattle.kw_words.specs.declared.scan.ScanWord.TheVariants as scan
use Rattle.kw_words.specs.Scan.{scan_of}
use Rattle.kw_words.specs.State.{state_of, state_word}
use Rattle.kw_words.specs.Link.{link_of}
use Rattle.kw_words.specs.Plain.{key_of_word, value_of_word, version_of_word, cell_link_word, cell_of_link_word}
use Rattle.kw_cells.specs.Cells.{shown_at}
use Rattle.kw_model.specs.declared.call.Call.{Call}
use Rattle.kw_model.specs.declared.call.Call.TheVariants.{Put, Del, Get, Scan, Pin, ScanAt, Unpin}
use Rattle.kw_world.specs.declared.answer.Answer.{Answer}
use Rattle.kw_world.specs.declared.answer.Answer.TheVariants.{Done, Pairs, Spent, Stopped}
use Rattle.kw_world.specs.Answers.{answer_found}
use Rattle.kw_world.specs.declared.activity.Activity.{Activity}
use Rattle.kw_world.specs.declared.activity.draw.Draw.TheVariants as Draw
use Rattle.kw_world.specs.declared.activity.rebalance.claim.Claim.TheVariants as Claim
use Rattle.kw_world.specs.declared.activity.rebalance.engage.Engage.TheVariants as Engage
use Rattle.kw_world.specs.declared.activity.enter.Enter.TheVariants as Enter
use Rattle.kw_world.specs.declared.activity.rebalance.freeze.Freeze.TheVariants as Freeze
use Rattle.kw_world.specs.declared.activity.rebalance.gather.Gather.TheVariants as Gather
use Rattle.kw_world.specs.declared.activity.rebalance.left.Left.TheVariants as Left
use Rattle.kw_world.specs.declared.activity.insert.Insert.TheVariants as Insert
use Rattle.kw_world.specs.declared.activity.look.Look.TheVariants as Look
use Rattle.kw_world.specs.declared.activity.put.Put.TheVariants as Put
use Rattle.kw_world.specs.declared.activity.read.Read.TheVariants as Read
use Rattle.kw_world.specs.declared.activity.rebalance.Rebalance.TheVariants as Rebalance
use Rattle.kw_world.specs.declared.activity.rebalance.replace.Replace.TheVariants as Replace
use Rattle.kw_world.specs.declared.activity.rebalance.seek.Seek.TheVariants as Seek
use Rattle.kw_world.specs.declared.activity.walk.Walk.TheVariants as Walk
use Rattle.kw_world.specs.declared.activity.rebalance.write.Write.TheVariants as Write
use Rattle.kw_world.specs.declared.local.Local.{Local}
use Rattle.kw_world.specs.declared.limits.TheConstants.{NEWEST}
use Rattle.kw_world.specs.declared.event.Choice.{Choice}
use Rattle.kw_world.specs.declared.event.Choice.TheVariants.{Begin, Go, Guess, Stop}
use Rattle.kw_world.specs.Sizes.{Sizes}
use Rattle.kw_world.specs.Local.{at_rest, without_rows, without_rebalance}
use Rattle.kw_world.specs.Operation.{told_by}
use Rattle.kw_world.proofs.Transitions.{guessed_below}
use Rattle.kw_core.proofs.NextBuilt.{begun_anew, over, refused}
use Rattle.kw_world.specs.Calls.{first_key, last_key, is_in_range, is_scan, is_pin, is_range_empty}
use Rattle.kw_world.specs.Transition.{Outcome, to, leave, row_linked, row_or_first}
use Rattle.kw_world.specs.ScanTransitions.{begun, entered, version_settled, answer_or_stopped}
use Rattle.kw_world.specs.WalkTransitions.{start_transition, guess_seen, arrive, link_reached, walk_transition, is_stopped}
use Rattle.kw_world.specs.declared.marks.Mark.{Mark}
use Rattle.kw_world.specs.Marks.{unmarked, least_mark}
use Rattle.kw_world.specs.ReadTransitions.{to_look, look_seen, help_seen, remembering, reaching, left_over_of, to_left_over, list_started, list_reached, list_past, row_read, get_answered, scan_ended, scan_on, with_pairs, row_scanned, gathering}
use Rattle.kw_world.specs.PutTransitions.{has_room, given_of, stamp_seen, tidies_row}
use Rattle.kw_world.specs.EngageTransitions.{to_rebalance, again, refuse, state_seen, engaged, followed_by, led_by, to_group, counted, undecided, decided}
use Rattle.kw_world.specs.ClaimTransitions.{row_after, goes_along, to_mark_next, claimed, next_marked}
use Rattle.kw_world.specs.LeftTransitions.{to_leader, first_left, left_transition, link_left}
use Rattle.kw_world.specs.ReplaceTransitions.{at_before}
use Rattle.kw_world.specs.GroupPlaces.{place_in_group}
use Rattle.kw_world.specs.FreezeTransitions.{count_frozen, marking, freezing, freeze_seen, entry_tried, to_scan_look, needing, scan_seen, scan_helped}
use Rattle.kw_world.specs.TakeTransitions.{to_take, leaving_over, taking, take_reached, take_version, keeping, take_past}
use Rattle.kw_world.specs.ListTransitions.{link_name, cell_guess, behind_cell, first_operation, meeting, losing, to_insert, insert_started, insert_from, insert_past, is_newer, insert_tried}
use Rattle.kw_world.specs.Table.{transition}
use Rattle.kw_world.specs.Step.{followed, is_skipped}
use Rattle.kw_core.specs.Words.{Words, next_in, least_in, built_in}
use Rattle.kw_core.specs.Stages.{is_put}
use Rattle.kw_core.proofs.Events.{IsBegun}
use Rattle.kw_core.proofs.InRange.{unwrap_or-version_of_word}
use Rattle.kw_core.proofs.Building.{Building, IsBuilding, building}
use Rattle.kw_core.proofs.Grouping.{IsNoneLeft, NextCounted, NextFrozen, NextGathered, next_counted, next_entry, next_left, next_scan}
use Rattle.kw_core.proofs.Pinning.{IsOfPin, NextOfPin, NextPinLook, next_pin, next_pin_look, next_scan_at, next_unpin}

-- what a reader does after the entries below j: the next look, or the row's list
pub data NextLook (z : Sizes) (j : ℕ) : Activity → Type 0 where
  looks : j < z.seats → NextLook z j (Activity.Look (Look.Entry j))
  lists : z.seats ≤ j → NextLook z j (Activity.Read Read.Start)

-- what a reader knows once its walk is over, or a remembered cell is read: it reads the next one
-- that it remembers, or the row is read
pub data NextLeftOver (l : Local) : Local → Type 0 where
  goes_to_left_over : (m : Mark) → least_mark l.remembered ≡ Some m → NextLeftOver l (record l { place = m.cell; place_version = m.version; remembered = unmarked m.cell l.remembered; activity = Activity.Read Read.LeftOverKey })
  answers : least_mark l.remembered ≡ None → is_scan l.call ≡ false → NextLeftOver l (leave (answer_found (shown_at l.gathered NEWEST (first_key l.call))) l).local
  ends_scan : least_mark l.remembered ≡ None → is_scan l.call ≡ true → (l.next ≡ None) ⊎ (last_key l.call < l.upper) → NextLeftOver l (scan_ended (with_pairs (last_key l.call) l)).local
  scans_on : (r : ℕ) → least_mark l.remembered ≡ None → is_scan l.call ≡ true → l.next ≡ Some r → l.upper ≤ last_key l.call →
      NextLeftOver l (record (with_pairs (last_key l.call) l) { row = r; lower = l.upper; built = 0; want = l.upper; next = None; upper = 0; activity = Activity.Walk Walk.Next })

-- the word is neither a pending nor a stamped entry
pub record IsNeither (w : ℕ) : Type 0 where
  pub pending : (c : ℕ) → pend_of w ≢ Some (pend.Pending c)
  pub stamped : (c version : ℕ) → pend_of w ≢ Some (pend.Stamped c version)

-- the word is neither this pending entry nor a stamped one
pub record IsNot (cell w : ℕ) : Type 0 where
  pub pending : pend_of w ≢ Some (pend.Pending cell)
  pub stamped : (c version : ℕ) → pend_of w ≢ Some (pend.Stamped c version)

-- the word is neither this pending entry nor one stamped with this cell
pub record IsNotOwn (cell w : ℕ) : Type 0 where
  pub pending : pend_of w ≢ Some (pend.Pending cell)
  pub stamped : (version : ℕ) → pend_of w ≢ Some (pend.Stamped cell version)

-- the word is neither that of a scan that waits since this clock nor of one that has drawn
pub record IsNoScan (clock w : ℕ) : Type 0 where
  pub waiting : scan_of w ≢ Some (scan.Waiting clock)
  pub drawn : (version : ℕ) → scan_of w ≢ Some (scan.Drawn version)

-- from an activity to what the seat knows next
pub data Arrow (z : Sizes) (v : Words) (s : ℕ) (choice : Choice) (l : Local) : Activity → Local → Type 0 where
  -- a call begins
  begins : (call : Call) → choice ≡ Begin call → IsBegun Activity.Idle (Begin call) → Arrow z v s choice l Activity.Idle (record l { call = Some call; number = l.number + 1; epoch = v name.Epoch; activity = Activity.Enter Enter.Announce })
  enters : is_scan l.call ≡ false → Arrow z v s choice l (Activity.Enter Enter.Announce) (record l { want = first_key l.call; activity = Activity.Walk Walk.Start })
  enters_scan : is_scan l.call ≡ true → Arrow z v s choice l (Activity.Enter Enter.Announce) (record l { activity = Activity.Draw Draw.Clock })
  asks_of_pin : (next : Local) → IsOfPin l.call → NextOfPin l next → Arrow z v s choice l (Activity.Enter Enter.Announce) next
  -- a scan or a pin gets its version
  is_spent : SPENT ≤ v name.Clock → Arrow z v s choice l (Activity.Draw Draw.Clock) (leave Spent l).local
  waits : v name.Clock < SPENT → Arrow z v s choice l (Activity.Draw Draw.Clock) (record l { waiting = v name.Clock; activity = Activity.Draw Draw.Wait })
  stores_waiting : Arrow z v s choice l (Activity.Draw Draw.Wait) (record l { activity = Activity.Draw Draw.Version })
  draws : Arrow z v s choice l (Activity.Draw Draw.Version) (record l { drawn = v name.Clock; activity = Activity.Draw Draw.Settle })
  settles_empty : is_range_empty l.call ≡ true → Arrow z v s choice l (Activity.Draw Draw.Settle) (record l { version = version_settled (scan_of (v (name.Scan s))) l.drawn; activity = Activity.EndScan Pairs })
  settles : is_range_empty l.call ≡ false → Arrow z v s choice l (Activity.Draw Draw.Settle) (record l { version = version_settled (scan_of (v (name.Scan s))) l.drawn; want = first_key l.call; activity = Activity.Walk Walk.Start })
  settles_pin : is_pin l.call ≡ true → Arrow z v s choice l (Activity.Draw Draw.Settle) (record l { version = version_settled (scan_of (v (name.Scan s))) l.drawn; activity = Activity.Draw Draw.Pin })
  stores_pin : Arrow z v s choice l (Activity.Draw Draw.Pin) (record l { pin = Some l.version; activity = Activity.EndScan Done })
  -- the walk
  starts_at_head : Arrow z v s choice l (Activity.Walk Walk.Start) (record l { row = row_or_first (row_linked (link_of (v name.Head))); lower = 0; built = 0; activity = Activity.Walk Walk.Next })
  guesses : (r : ℕ) → choice ≡ Guess r → state_of (v (name.State r)) ≡ Some Normal → Arrow z v s choice l (Activity.Walk Walk.Start) (record l { row = r; activity = Activity.Walk Walk.GuessedLeast })
  guess_fails : Arrow z v s choice l (Activity.Walk Walk.Start) (record l { activity = Activity.Walk Walk.First })
  takes_head : Arrow z v s choice l (Activity.Walk Walk.First) (record l { row = row_or_first (row_linked (link_of (v name.Head))); lower = 0; built = 0; activity = Activity.Walk Walk.Next })
  guess_serves : least_in v l.row ≤ l.want → Arrow z v s choice l (Activity.Walk Walk.GuessedLeast) (record l { lower = least_in v l.row; built = built_in v l.row; activity = Activity.Walk Walk.Next })
  guess_is_above : l.want < least_in v l.row → Arrow z v s choice l (Activity.Walk Walk.GuessedLeast) (record l { activity = Activity.Walk Walk.First })
  stops : is_stopped choice l ≡ true → Arrow z v s choice l (Activity.Walk Walk.Next) (leave Stopped l).local
  puts_in_last : is_put l.call ≡ true → next_in v l.row ≡ None → Arrow z v s choice l (Activity.Walk Walk.Next) (record l { next = None; upper = 0; activity = Activity.Put Put.Count })
  reads_last : is_put l.call ≡ false → next_in v l.row ≡ None → Arrow z v s choice l (Activity.Walk Walk.Next) (record l { next = None; upper = 0; remembered = []; gathered = []; link = None; walked = 0; activity = Activity.Look (Look.Entry 0) })
  reaches_next : (q : ℕ) → next_in v l.row ≡ Some q → Arrow z v s choice l (Activity.Walk Walk.Next) (record l { candidate = q; activity = Activity.Walk Walk.NextLeast })
  walks_on : least_in v l.candidate ≤ l.want → Arrow z v s choice l (Activity.Walk Walk.NextLeast) (record l { row = l.candidate; lower = least_in v l.candidate; built = built_in v l.candidate; activity = Activity.Walk Walk.Next })
  puts_before : is_put l.call ≡ true → l.want < least_in v l.candidate → Arrow z v s choice l (Activity.Walk Walk.NextLeast) (record l { next = Some l.candidate; upper = least_in v l.candidate; activity = Activity.Put Put.Count })
  reads_before : is_put l.call ≡ false → l.want < least_in v l.candidate → Arrow z v s choice l (Activity.Walk Walk.NextLeast) (record l { next = Some l.candidate; upper = least_in v l.candidate; remembered = []; gathered = []; link = None; walked = 0; activity = Activity.Look (Look.Entry 0) })
  -- a reader looks at the entries
  sees_pending : (i c : ℕ) → pend_of (v (name.Pend l.row i)) ≡ Some (pend.Pending c) → Arrow z v s choice l (Activity.Look (Look.Entry i)) (record l { looked = i; saw = c; activity = Activity.Look Look.Key })
  sees_stamped : (i c version : ℕ) (next : Activity) → pend_of (v (name.Pend l.row i)) ≡ Some (pend.Stamped c version) → NextLook z (i + 1) next → Arrow z v s choice l (Activity.Look (Look.Entry i)) (record (remembering c version l) { activity = next })
  sees_neither : (i : ℕ) (next : Activity) → IsNeither (v (name.Pend l.row i)) → NextLook z (i + 1) next → Arrow z v s choice l (Activity.Look (Look.Entry i)) (record l { activity = next })
  is_wanted : is_in_range l.call (key_of_word (v (name.Key l.row l.saw))) ≡ true → Arrow z v s choice l (Activity.Look Look.Key) (record l { activity = Activity.Look Look.Clock })
  is_gone_by : (next : Activity) → is_in_range l.call (key_of_word (v (name.Key l.row l.saw))) ≡ false → NextLook z (l.looked + 1) next → Arrow z v s choice l (Activity.Look Look.Key) (record l { activity = next })
  loads_to_help : Arrow z v s choice l (Activity.Look Look.Clock) (record l { helping = v name.Clock; activity = Activity.Look Look.Help })
  helps : (next : Activity) → pend_of (v (name.Pend l.row l.looked)) ≡ Some (pend.Pending l.saw) → NextLook z (l.looked + 1) next → Arrow z v s choice l (Activity.Look Look.Help) (record (remembering l.saw l.helping l) { activity = next })
  finds_stamped : (c version : ℕ) (next : Activity) → pend_of (v (name.Pend l.row l.looked)) ≡ Some (pend.Stamped c version) → NextLook z (l.looked + 1) next → Arrow z v s choice l (Activity.Look Look.Help) (record (remembering c version l) { activity = next })
  finds_other : (next : Activity) → IsNot l.saw (v (name.Pend l.row l.looked)) → NextLook z (l.looked + 1) next → Arrow z v s choice l (Activity.Look Look.Help) (record l { activity = next })
  -- a reader walks along the row's list, and reads what it remembers and did not reach
  begins_behind : (c : ℕ) → c < l.built → key_of_word (v (name.Key l.row c)) < first_key l.call → Arrow z v s choice l (Activity.Read Read.Start) (record l { link = Some c; activity = Activity.Read Read.Link })
  begins_at_first : (c : ℕ) → first_key l.call ≤ key_of_word (v (name.Key l.row c)) → Arrow z v s choice l (Activity.Read Read.Start) (record l { activity = Activity.Read Read.Link })
  first_leads : (c : ℕ) → cell_of_link_word (v (link_name l.row l.link)) ≡ Some c → Arrow z v s choice l (Activity.Read Read.Start) (record (reaching z c l) { activity = Activity.Read Read.Key })
  first_ends : (next : Local) → cell_of_link_word (v (link_name l.row l.link)) ≡ None → NextLeftOver l next → Arrow z v s choice l (Activity.Read Read.Start) next
  list_leads : (c : ℕ) → cell_of_link_word (v (link_name l.row l.link)) ≡ Some c → Arrow z v s choice l (Activity.Read Read.Link) (record (reaching z c l) { activity = Activity.Read Read.Key })
  list_ends : (next : Local) → cell_of_link_word (v (link_name l.row l.link)) ≡ None → NextLeftOver l next → Arrow z v s choice l (Activity.Read Read.Link) next
  key_below : key_of_word (v (name.Key l.row l.place)) < first_key l.call → Arrow z v s choice l (Activity.Read Read.Key) (list_past l).local
  key_within : first_key l.call ≤ key_of_word (v (name.Key l.row l.place)) → key_of_word (v (name.Key l.row l.place)) ≤ last_key l.call → Arrow z v s choice l (Activity.Read Read.Key) (record l { place_key = key_of_word (v (name.Key l.row l.place)); activity = Activity.Read Read.Version })
  key_above : (next : Local) → last_key l.call < key_of_word (v (name.Key l.row l.place)) → NextLeftOver l next → Arrow z v s choice l (Activity.Read Read.Key) next
  loads_version : Arrow z v s choice l (Activity.Read Read.Version) (record l { place_version = unwrap_or (version_of_word (v (name.Version l.row l.place))) 1; activity = Activity.Read Read.Value })
  gathers_listed : Arrow z v s choice l (Activity.Read Read.Value) (list_past (gathering z (value_of_word (v (name.Value l.row l.place))) l)).local
  left_over_wanted : is_in_range l.call (key_of_word (v (name.Key l.row l.place))) ≡ true → Arrow z v s choice l (Activity.Read Read.LeftOverKey) (record l { place_key = key_of_word (v (name.Key l.row l.place)); activity = Activity.Read Read.LeftOverValue })
  left_over_gone_by : (next : Local) → is_in_range l.call (key_of_word (v (name.Key l.row l.place))) ≡ false → NextLeftOver l next → Arrow z v s choice l (Activity.Read Read.LeftOverKey) next
  gathers_left_over : (next : Local) → NextLeftOver (gathering z (value_of_word (v (name.Value l.row l.place))) l) next → Arrow z v s choice l (Activity.Read Read.LeftOverValue) next
  -- a scan is over
  clears_scan : (answer : Answer) → Arrow z v s choice l (Activity.EndScan answer) (leave (answer_or_stopped answer choice) l).local
  -- a pin is taken back
  clears_pin : Arrow z v s choice l Activity.ClearPin (leave Done (record l { pin = None })).local
  -- a put or a delete
  finds_room : has_room z (count_of (v (name.Count l.row))) ≡ true → Arrow z v s choice l (Activity.Put Put.Count) (record l { activity = Activity.Put Put.Add })
  finds_full : has_room z (count_of (v (name.Count l.row))) ≡ false → Arrow z v s choice l (Activity.Put Put.Count) (to_rebalance l).local
  takes_cell : has_room z (count_of (v (name.Count l.row))) ≡ true → Arrow z v s choice l (Activity.Put Put.Add) (record l { cell = given_of (count_of (v (name.Count l.row))); activity = Activity.Put Put.Key })
  takes_full : has_room z (count_of (v (name.Count l.row))) ≡ false → Arrow z v s choice l (Activity.Put Put.Add) (to_rebalance l).local
  stores_key : Arrow z v s choice l (Activity.Put Put.Key) (record l { activity = Activity.Put Put.Value })
  stores_value : Arrow z v s choice l (Activity.Put Put.Value) (record l { activity = Activity.Put Put.Announce })
  announces : v (name.Pend l.row s) ≡ pend_word pend.Idle → Arrow z v s choice l (Activity.Put Put.Announce) (record l { activity = Activity.Put Put.Clock })
  announces_full : v (name.Pend l.row s) ≢ pend_word pend.Idle → Arrow z v s choice l (Activity.Put Put.Announce) (to_rebalance l).local
  loads_clock : Arrow z v s choice l (Activity.Put Put.Clock) (record l { version = v name.Clock; activity = Activity.Put Put.Stamp })
  stamps : pend_of (v (name.Pend l.row s)) ≡ Some (pend.Pending l.cell) → Arrow z v s choice l (Activity.Put Put.Stamp) (record l { activity = Activity.Put Put.Version })
  is_stamped : (version : ℕ) → pend_of (v (name.Pend l.row s)) ≡ Some (pend.Stamped l.cell version) → Arrow z v s choice l (Activity.Put Put.Stamp) (record l { version = version; activity = Activity.Put Put.Version })
  stamps_full : IsNotOwn l.cell (v (name.Pend l.row s)) → Arrow z v s choice l (Activity.Put Put.Stamp) (to_rebalance l).local
  stores_version : Arrow z v s choice l (Activity.Put Put.Version) (to_insert l).local
  -- its cell is inserted: the walk begins behind a guessed cell, or at the first link
  inserts_behind : (c : ℕ) → c < l.built → key_of_word (v (name.Key l.row c)) < first_key l.call → Arrow z v s choice l (Activity.Insert Insert.Start) (record l { link = Some c; activity = Activity.Insert Insert.Link })
  inserts_at_first : (c : ℕ) → first_key l.call ≤ key_of_word (v (name.Key l.row c)) → Arrow z v s choice l (Activity.Insert Insert.Start) (record l { activity = Activity.Insert Insert.Link })
  first_reaches : (c : ℕ) → cell_of_link_word (v (link_name l.row l.link)) ≡ Some c → Arrow z v s choice l (Activity.Insert Insert.Start) (record (meeting z c l) { activity = Activity.Insert Insert.Key })
  first_sees_none : cell_of_link_word (v (link_name l.row l.link)) ≡ None → Arrow z v s choice l (Activity.Insert Insert.Start) (record l { held = None; activity = Activity.Insert Insert.Set })
  reaches_cell : (c : ℕ) → cell_of_link_word (v (link_name l.row l.link)) ≡ Some c → Arrow z v s choice l (Activity.Insert Insert.Link) (record (meeting z c l) { activity = Activity.Insert Insert.Key })
  sees_none : cell_of_link_word (v (link_name l.row l.link)) ≡ None → Arrow z v s choice l (Activity.Insert Insert.Link) (record l { held = None; activity = Activity.Insert Insert.Set })
  key_before : key_of_word (v (name.Key l.row l.place)) < first_key l.call → Arrow z v s choice l (Activity.Insert Insert.Key) (insert_past l).local
  key_same : key_of_word (v (name.Key l.row l.place)) ≡ first_key l.call → Arrow z v s choice l (Activity.Insert Insert.Key) (record l { activity = Activity.Insert Insert.Version })
  key_after : first_key l.call < key_of_word (v (name.Key l.row l.place)) → Arrow z v s choice l (Activity.Insert Insert.Key) (record l { activity = Activity.Insert Insert.Set })
  version_before : is_newer (v (name.Version l.row l.place)) l.place l ≡ true → Arrow z v s choice l (Activity.Insert Insert.Version) (insert_past l).local
  version_after : is_newer (v (name.Version l.row l.place)) l.place l ≡ false → Arrow z v s choice l (Activity.Insert Insert.Version) (record l { activity = Activity.Insert Insert.Set })
  stores_after : Arrow z v s choice l (Activity.Insert Insert.Set) (record l { activity = Activity.Insert Insert.Exchange })
  inserts : v (link_name l.row l.link) ≡ cell_link_word l.held → Arrow z v s choice l (Activity.Insert Insert.Exchange) (record l { activity = Activity.Put Put.Clear })
  loses : v (link_name l.row l.link) ≢ cell_link_word l.held → Arrow z v s choice l (Activity.Insert Insert.Exchange) (record (losing z l) { activity = Activity.Insert Insert.Start })
  clears : Arrow z v s choice l (Activity.Put Put.Clear) (leave Done l).local
  tidies : (rows : ℕ) → tidies_row rows choice l ≡ true → Arrow z v s choice l (Activity.Put Put.Clear) (to_rebalance (record l { tidies = true })).local
  -- the call ends
  leaves : (answer : Answer) → Arrow z v s choice l (Activity.Leave answer) (at_rest l)
  -- a put tries again
  retries : Arrow z v s choice l Activity.Retry (record l { activity = Activity.Enter Enter.LoadEpoch })
  enters_again : Arrow z v s choice l (Activity.Enter Enter.LoadEpoch) (record l { epoch = v name.Epoch; activity = Activity.Enter Enter.Announce })
  -- a rebalance begins
  clock_is_spent : SPENT ≤ v name.Clock → l.tidies ≡ false → Arrow z v s choice l (Activity.Rebalance (Rebalance.Engage Engage.Clock)) (refused Spent l).local
  ends_at_clock : l.tidies ≡ true → Arrow z v s choice l (Activity.Rebalance (Rebalance.Engage Engage.Clock)) (over l).local
  clock_serves : v name.Clock < SPENT → Arrow z v s choice l (Activity.Rebalance (Rebalance.Engage Engage.Clock)) (record l { activity = Activity.Rebalance (Rebalance.Engage Engage.Epoch) })
  epoch_is_spent : SPENT ≤ v name.Epoch → l.tidies ≡ false → Arrow z v s choice l (Activity.Rebalance (Rebalance.Engage Engage.Epoch)) (refused Spent l).local
  ends_at_epoch : l.tidies ≡ true → Arrow z v s choice l (Activity.Rebalance (Rebalance.Engage Engage.Epoch)) (over l).local
  epoch_serves : v name.Epoch < SPENT → Arrow z v s choice l (Activity.Rebalance (Rebalance.Engage Engage.Epoch)) (record l { activity = Activity.Rebalance (Rebalance.Engage Engage.State) })
  finds_infant : (seat : ℕ) → state_of (v (name.State l.row)) ≡ Some (Infant seat) → Arrow z v s choice l (Activity.Rebalance (Rebalance.Engage Engage.State)) (record l { activity = Activity.Rebalance (Rebalance.Engage (Engage.Normal seat)) })
  finds_normal : state_of (v (name.State l.row)) ≡ Some Normal → Arrow z v s choice l (Activity.Rebalance (Rebalance.Engage Engage.State)) (record l { activity = Activity.Rebalance (Rebalance.Engage Engage.Lead) })
  finds_leader : (count : ℕ) → state_of (v (name.State l.row)) ≡ Some (Leader count) → Arrow z v s choice l (Activity.Rebalance (Rebalance.Engage Engage.State)) (record l { activity = Activity.Rebalance (Rebalance.Engage (Engage.MarkLink count)) })
  finds_follower : (leader : ℕ) → state_of (v (name.State l.row)) ≡ Some (Follower leader) → Arrow z v s choice l (Activity.Rebalance (Rebalance.Engage Engage.State)) (record (led_by leader l) { activity = Activity.Rebalance (Rebalance.Left Left.Start) })
  finds_other_state : l.tidies ≡ false → Arrow z v s choice l (Activity.Rebalance (Rebalance.Engage Engage.State)) (begun_anew l).local
  ends_at_state : l.tidies ≡ true → Arrow z v s choice l (Activity.Rebalance (Rebalance.Engage Engage.State)) (over l).local
  normalises : (seat : ℕ) → Arrow z v s choice l (Activity.Rebalance (Rebalance.Engage (Engage.Normal seat))) (record l { activity = Activity.Rebalance (Rebalance.Engage Engage.State) })
  engages : v (name.State l.row) ≡ state_word Normal → Arrow z v s choice l (Activity.Rebalance (Rebalance.Engage Engage.Lead)) (record l { activity = Activity.Rebalance (Rebalance.Engage (Engage.MarkLink 0)) })
  is_engaged : v (name.State l.row) ≢ state_word Normal → Arrow z v s choice l (Activity.Rebalance (Rebalance.Engage Engage.Lead)) (record l { activity = Activity.Rebalance (Rebalance.Engage Engage.State) })
  marks_link : (count r : ℕ) → count ≡ 0 → next_in v l.row ≡ Some r → Arrow z v s choice l (Activity.Rebalance (Rebalance.Engage (Engage.MarkLink count))) (record (followed_by (next_in v l.row) l) { activity = Activity.Rebalance (Rebalance.Claim Claim.Count) })
  marks_last : (count : ℕ) → count ≡ 0 → next_in v l.row ≡ None → Arrow z v s choice l (Activity.Rebalance (Rebalance.Engage (Engage.MarkLink count))) (record (followed_by (next_in v l.row) l) { activity = Activity.Rebalance (Rebalance.Engage (Engage.Decide 1)) })
  marks_led : (count : ℕ) (next : Local) → count ≢ 0 → NextCounted count (followed_by (next_in v l.row) l) next → Arrow z v s choice l (Activity.Rebalance (Rebalance.Engage (Engage.MarkLink count))) next
  decides : (count n : ℕ) (next : Local) → state_of (v (name.State l.row)) ≡ Some (Leader n) → NextCounted (if n == 0 then count else n) l next → Arrow z v s choice l (Activity.Rebalance (Rebalance.Engage (Engage.Decide count))) next
  decides_not : (count : ℕ) → l.tidies ≡ false → Arrow z v s choice l (Activity.Rebalance (Rebalance.Engage (Engage.Decide count))) (begun_anew l).local
  ends_undecided : (count : ℕ) → l.tidies ≡ true → Arrow z v s choice l (Activity.Rebalance (Rebalance.Engage (Engage.Decide count))) (over l).local
  -- the row after it is taken along
  counts_next : Arrow z v s choice l (Activity.Rebalance (Rebalance.Claim Claim.Count)) (record l { activity = Activity.Rebalance (Rebalance.Engage (Engage.Decide (if goes_along (count_of (v (name.Count (row_after l)))) l then MOST_GROUP else 1))) })
  claims_next : (state_of (v (name.State (row_after l))) ≡ Some Normal) ⊎ (state_of (v (name.State (row_after l))) ≡ Some (Follower l.row)) → Arrow z v s choice l (Activity.Rebalance (Rebalance.Claim Claim.Exchange)) (record l { activity = Activity.Rebalance (Rebalance.Claim Claim.MarkLink) })
  next_is_infant : (seat : ℕ) → state_of (v (name.State (row_after l))) ≡ Some (Infant seat) → Arrow z v s choice l (Activity.Rebalance (Rebalance.Claim Claim.Exchange)) (record l { activity = Activity.Rebalance (Rebalance.Claim (Claim.Normal seat)) })
  next_leads : (count : ℕ) → state_of (v (name.State (row_after l))) ≡ Some (Leader count) → Arrow z v s choice l (Activity.Rebalance (Rebalance.Claim Claim.Exchange)) (to_group l).local
  claims_not : l.tidies ≡ false → Arrow z v s choice l (Activity.Rebalance (Rebalance.Claim Claim.Exchange)) (begun_anew l).local
  ends_unclaimed : l.tidies ≡ true → Arrow z v s choice l (Activity.Rebalance (Rebalance.Claim Claim.Exchange)) (over l).local
  normalises_next : (seat : ℕ) → Arrow z v s choice l (Activity.Rebalance (Rebalance.Claim (Claim.Normal seat))) (record l { activity = Activity.Rebalance (Rebalance.Claim Claim.Exchange) })
  marks_next : Arrow z v s choice l (Activity.Rebalance (Rebalance.Claim Claim.MarkLink)) (next_marked (next_in v (row_after l)) l).local
  -- the seat of a follower goes left
  begins_left : (r : ℕ) → row_or_first (row_linked (link_of (v name.Head))) ≡ r → r ≢ l.row → Arrow z v s choice l (Activity.Rebalance (Rebalance.Left Left.Start)) (record (at_before (Some r) 0 l) { activity = Activity.Rebalance (Rebalance.Left Left.Next) })
  takes_leader : (q : ℕ) → choice ≡ Guess q → Arrow z v s choice l (Activity.Rebalance (Rebalance.Left Left.Start)) (to_leader (at_before l.rebalance.before (least_in v (row_or_first l.rebalance.before)) l)).local
  reaches_leader : next_in v (row_or_first l.rebalance.before) ≡ Some l.row → Arrow z v s choice l (Activity.Rebalance (Rebalance.Left Left.Next)) (to_leader l).local
  leads_left : (q : ℕ) → next_in v (row_or_first l.rebalance.before) ≡ Some q → q ≢ l.row → Arrow z v s choice l (Activity.Rebalance (Rebalance.Left Left.Next)) (record l { candidate = q; activity = Activity.Rebalance (Rebalance.Left Left.NextLeast) })
  walks_left : least_in v l.candidate < l.lower → Arrow z v s choice l (Activity.Rebalance (Rebalance.Left Left.NextLeast)) (record (at_before (Some l.candidate) (least_in v l.candidate) l) { activity = Activity.Rebalance (Rebalance.Left Left.Next) })
  -- it meets no leader: no row is linked there, or only rows that do not stand before the follower
  head_follows : l.tidies ≡ false → row_or_first (row_linked (link_of (v name.Head))) ≡ l.row → Arrow z v s choice l (Activity.Rebalance (Rebalance.Left Left.Start)) (begun_anew l).local
  ends_at_head : l.tidies ≡ true → Arrow z v s choice l (Activity.Rebalance (Rebalance.Left Left.Start)) (over l).local
  none_is_left : l.tidies ≡ false → next_in v (row_or_first l.rebalance.before) ≡ None → Arrow z v s choice l (Activity.Rebalance (Rebalance.Left Left.Next)) (begun_anew l).local
  ends_at_none : l.tidies ≡ true → Arrow z v s choice l (Activity.Rebalance (Rebalance.Left Left.Next)) (over l).local
  passes_left : l.tidies ≡ false → l.lower ≤ least_in v l.candidate → Arrow z v s choice l (Activity.Rebalance (Rebalance.Left Left.NextLeast)) (begun_anew l).local
  ends_past : l.tidies ≡ true → Arrow z v s choice l (Activity.Rebalance (Rebalance.Left Left.NextLeast)) (over l).local
  -- the rows of the group are frozen
  freezes_count : Arrow z v s choice l (Activity.Rebalance (Rebalance.Freeze Freeze.Count)) (count_frozen l).local
  sees_idle : (i : ℕ) → pend_of (v (name.Pend l.rebalance.hand i)) ≡ Some pend.Idle → Arrow z v s choice l (Activity.Rebalance (Rebalance.Freeze (Freeze.Look i))) (freezing i pend.Idle l).local
  sees_unstamped : (i c : ℕ) → pend_of (v (name.Pend l.rebalance.hand i)) ≡ Some (pend.Pending c) → Arrow z v s choice l (Activity.Rebalance (Rebalance.Freeze (Freeze.Look i))) (freezing i (pend.Pending c) l).local
  remembers : (i c version : ℕ) → pend_of (v (name.Pend l.rebalance.hand i)) ≡ Some (pend.Stamped c version) → i + 1 < z.seats → Arrow z v s choice l (Activity.Rebalance (Rebalance.Freeze (Freeze.Look i))) (record (marking z c version l) { activity = Activity.Rebalance (Rebalance.Freeze (Freeze.Look (i + 1))) })
  remembers_last : (i c version : ℕ) (next : Local) → pend_of (v (name.Pend l.rebalance.hand i)) ≡ Some (pend.Stamped c version) → z.seats ≤ i + 1 → NextFrozen (marking z c version l) next → Arrow z v s choice l (Activity.Rebalance (Rebalance.Freeze (Freeze.Look i))) next
  sees_frozen : (i : ℕ) → (pend_of (v (name.Pend l.rebalance.hand i)) ≡ Some pend.Frozen) ⊎ (pend_of (v (name.Pend l.rebalance.hand i)) ≡ None) → i + 1 < z.seats → Arrow z v s choice l (Activity.Rebalance (Rebalance.Freeze (Freeze.Look i))) (record l { activity = Activity.Rebalance (Rebalance.Freeze (Freeze.Look (i + 1))) })
  sees_frozen_last : (i : ℕ) (next : Local) → (pend_of (v (name.Pend l.rebalance.hand i)) ≡ Some pend.Frozen) ⊎ (pend_of (v (name.Pend l.rebalance.hand i)) ≡ None) → z.seats ≤ i + 1 → NextFrozen l next → Arrow z v s choice l (Activity.Rebalance (Rebalance.Freeze (Freeze.Look i))) next
  freezes_entry : (i : ℕ) → v (name.Pend l.rebalance.hand i) ≡ pend_word l.rebalance.entry → i + 1 < z.seats → Arrow z v s choice l (Activity.Rebalance (Rebalance.Freeze (Freeze.Entry i))) (record l { activity = Activity.Rebalance (Rebalance.Freeze (Freeze.Look (i + 1))) })
  freezes_last : (i : ℕ) (next : Local) → v (name.Pend l.rebalance.hand i) ≡ pend_word l.rebalance.entry → z.seats ≤ i + 1 → NextFrozen l next → Arrow z v s choice l (Activity.Rebalance (Rebalance.Freeze (Freeze.Entry i))) next
  looks_again : (i : ℕ) → v (name.Pend l.rebalance.hand i) ≢ pend_word l.rebalance.entry → Arrow z v s choice l (Activity.Rebalance (Rebalance.Freeze (Freeze.Entry i))) (record l { activity = Activity.Rebalance (Rebalance.Freeze (Freeze.Look i)) })
  -- the scans are looked at
  sees_quiet : (i : ℕ) → (scan_of (v (name.Scan i)) ≡ Some scan.Quiet) ⊎ (scan_of (v (name.Scan i)) ≡ None) → i + 1 < z.seats → Arrow z v s choice l (Activity.Rebalance (Rebalance.Freeze (Freeze.Scan i))) (record l { activity = Activity.Rebalance (Rebalance.Freeze (Freeze.Scan (i + 1))) })
  sees_quiet_last : (i : ℕ) → (scan_of (v (name.Scan i)) ≡ Some scan.Quiet) ⊎ (scan_of (v (name.Scan i)) ≡ None) → z.seats ≤ i + 1 → Arrow z v s choice l (Activity.Rebalance (Rebalance.Freeze (Freeze.Scan i))) (to_take l).local
  helps_scan : (i clock : ℕ) → scan_of (v (name.Scan i)) ≡ Some (scan.Waiting clock) → Arrow z v s choice l (Activity.Rebalance (Rebalance.Freeze (Freeze.Scan i))) (record l { rebalance = record l.rebalance { waiting = clock }; activity = Activity.Rebalance (Rebalance.Freeze (Freeze.Draw i)) })
  sees_drawn : (i version : ℕ) → scan_of (v (name.Scan i)) ≡ Some (scan.Drawn version) → i + 1 < z.seats → Arrow z v s choice l (Activity.Rebalance (Rebalance.Freeze (Freeze.Scan i))) (record (needing version l) { activity = Activity.Rebalance (Rebalance.Freeze (Freeze.Scan (i + 1))) })
  sees_drawn_last : (i version : ℕ) → scan_of (v (name.Scan i)) ≡ Some (scan.Drawn version) → z.seats ≤ i + 1 → Arrow z v s choice l (Activity.Rebalance (Rebalance.Freeze (Freeze.Scan i))) (to_take (needing version l)).local
  draws_for : (i : ℕ) → Arrow z v s choice l (Activity.Rebalance (Rebalance.Freeze (Freeze.Draw i))) (record l { rebalance = record l.rebalance { drawn = v name.Clock }; activity = Activity.Rebalance (Rebalance.Freeze (Freeze.Settle i)) })
  settles_scan : (i : ℕ) → scan_of (v (name.Scan i)) ≡ Some (scan.Waiting l.rebalance.waiting) → i + 1 < z.seats → Arrow z v s choice l (Activity.Rebalance (Rebalance.Freeze (Freeze.Settle i))) (record (needing l.rebalance.drawn l) { activity = Activity.Rebalance (Rebalance.Freeze (Freeze.Scan (i + 1))) })
  settles_last : (i : ℕ) → scan_of (v (name.Scan i)) ≡ Some (scan.Waiting l.rebalance.waiting) → z.seats ≤ i + 1 → Arrow z v s choice l (Activity.Rebalance (Rebalance.Freeze (Freeze.Settle i))) (to_take (needing l.rebalance.drawn l)).local
  finds_drawn : (i version : ℕ) → scan_of (v (name.Scan i)) ≡ Some (scan.Drawn version) → i + 1 < z.seats → Arrow z v s choice l (Activity.Rebalance (Rebalance.Freeze (Freeze.Settle i))) (record (needing version l) { activity = Activity.Rebalance (Rebalance.Freeze (Freeze.Scan (i + 1))) })
  finds_drawn_last : (i version : ℕ) → scan_of (v (name.Scan i)) ≡ Some (scan.Drawn version) → z.seats ≤ i + 1 → Arrow z v s choice l (Activity.Rebalance (Rebalance.Freeze (Freeze.Settle i))) (to_take (needing version l)).local
  finds_no_scan : (i : ℕ) → IsNoScan l.rebalance.waiting (v (name.Scan i)) → i + 1 < z.seats → Arrow z v s choice l (Activity.Rebalance (Rebalance.Freeze (Freeze.Settle i))) (record l { activity = Activity.Rebalance (Rebalance.Freeze (Freeze.Scan (i + 1))) })
  finds_no_scan_last : (i : ℕ) → IsNoScan l.rebalance.waiting (v (name.Scan i)) → z.seats ≤ i + 1 → Arrow z v s choice l (Activity.Rebalance (Rebalance.Freeze (Freeze.Settle i))) (to_take l).local
  -- and the pins
  looks_at_pin : (i : ℕ) (next : Local) → NextPinLook z i (v (name.Pin i)) l next → Arrow z v s choice l (Activity.Rebalance (Rebalance.Freeze (Freeze.Pin i))) next
  -- the cells of the group are gathered
  take_leads : (c : ℕ) → cell_of_link_word (v (link_name l.rebalance.hand l.link)) ≡ Some c → Arrow z v s choice l (Activity.Rebalance (Rebalance.Gather Gather.Link)) (record (taking z c l) { activity = Activity.Rebalance (Rebalance.Gather Gather.Key) })
  takes_left : (m : Mark) → cell_of_link_word (v (link_name l.rebalance.hand l.link)) ≡ None → least_mark l.rebalance.marks ≡ Some m → m.cell < place_in_group z l.rebalance z.cells → Arrow z v s choice l (Activity.Rebalance (Rebalance.Gather Gather.Link)) (record (leaving_over z m l) { activity = Activity.Rebalance (Rebalance.Gather Gather.LeftOverKey) })
  takes_no_more : (next : Local) → cell_of_link_word (v (link_name l.rebalance.hand l.link)) ≡ None → IsNoneLeft z l → NextGathered z l next → Arrow z v s choice l (Activity.Rebalance (Rebalance.Gather Gather.Link)) next
  takes_key : Arrow z v s choice l (Activity.Rebalance (Rebalance.Gather Gather.Key)) (record l { place_key = key_of_word (v (name.Key l.rebalance.hand l.place)); activity = Activity.Rebalance (Rebalance.Gather Gather.Version) })
  takes_version : Arrow z v s choice l (Activity.Rebalance (Rebalance.Gather Gather.Version)) (take_version (version_of_word (v (name.Version l.rebalance.hand l.place))) l).local
  keeps_taken : Arrow z v s choice l (Activity.Rebalance (Rebalance.Gather Gather.Value)) (take_past (keeping z (value_of_word (v (name.Value l.rebalance.hand l.place))) l)).local
  takes_left_key : Arrow z v s choice l (Activity.Rebalance (Rebalance.Gather Gather.LeftOverKey)) (record l { place_key = key_of_word (v (name.Key l.rebalance.hand l.place)); activity = Activity.Rebalance (Rebalance.Gather Gather.LeftOverValue) })
  keeps_left : (m : Mark) → least_mark l.rebalance.marks ≡ Some m → m.cell < place_in_group z l.rebalance z.cells → Arrow z v s choice l (Activity.Rebalance (Rebalance.Gather Gather.LeftOverValue)) (record (leaving_over z m (keeping z (value_of_word (v (name.Value l.rebalance.hand l.place))) l)) { activity = Activity.Rebalance (Rebalance.Gather Gather.LeftOverKey) })
  keeps_no_more : (next : Local) → IsNoneLeft z l → NextGathered z (keeping z (value_of_word (v (name.Value l.rebalance.hand l.place))) l) next → Arrow z v s choice l (Activity.Rebalance (Rebalance.Gather Gather.LeftOverValue)) next
  -- new rows are taken, written, linked and made normal, and the rows of the group are retired: a
  -- type of its own has the ways that these may go
  builds : (c : Activity) (next : Local) → IsBuilding c → Building z v choice l c next → Arrow z v s choice l c next

-- Tests of the table.

pub eq_from : (x y : ℕ) → (x == y) ≡ true → x ≡ y
eq_from x y e = grind (arith, nat_tests)

pub eq_not : (x y : ℕ) → (x == y) ≡ false → x ≢ y
eq_not x y f e = grind (arith, nat_tests)

pub below : (x y : ℕ) → nat_lt x y ≡ true → x < y
below x y e = grind (arith, nat_tests)

pub not_below : (x y : ℕ) → nat_lt x y ≡ false → y ≤ x
not_below x y e = grind (arith, nat_tests)

-- a number that is neither smaller nor the same is greater
apart_above : (x y : ℕ) → nat_lt x y ≡ false → (x == y) ≡ false → y < x
apart_above x y e f = grind (arith, nat_tests)

pub at_most : (x y : ℕ) → nat_le x y ≡ true → x ≤ y
at_most x y e = grind (arith, nat_tests)

pub above : (x y : ℕ) → nat_le x y ≡ false → y < x
above x y e = grind (arith, nat_tests)

-- The arrow of each line.

-- the next look, over the test
next_look : (z : Sizes) (j : ℕ) (l : Local) (P : Local → Type 0) → ((next : Activity) → NextLook z j next → P (record l { activity = next })) → P (to_look z j l).local
next_look z j l P f = saw (nat_lt j z.seats) refl
  where
    saw : (b : Bool) → nat_lt j z.seats ≡ b → P (let x : Outcome = if b then to (Activity.Look (Look.Entry j)) l else to (Activity.Read Read.Start) l in x).local
    saw true e = f (Activity.Look (Look.Entry j)) (looks (below j z.seats e))
    saw false e = f (Activity.Read Read.Start) (lists (not_below j z.seats e))

-- what follows the end of a row's cells, for a scan
scan_goes_on : (l : Local) (n : Option ℕ) → least_mark l.remembered ≡ None → is_scan l.call ≡ true → l.next ≡ n → NextLeftOver l (scan_on n (last_key l.call) (with_pairs (last_key l.call) l)).local
scan_goes_on l None c s e = ends_scan c s (inl e)
scan_goes_on l (Some r) c s e = saw (nat_lt (last_key l.call) l.upper) refl
  where
    saw : (b : Bool) → nat_lt (last_key l.call) l.upper ≡ b → NextLeftOver l (let x : Outcome = if b then scan_ended (with_pairs (last_key l.call) l) else to (Activity.Walk Walk.Next) (record (with_pairs (last_key l.call) l) { row = r; lower = l.upper; built = 0; want = l.upper; next = None; upper = 0 }) in x).local
    saw true h = ends_scan c s (inr (below _ _ h))
    saw false h = scans_on r c s e (not_below _ _ h)

-- what follows the end of a row's cells
read_arrow : (l : Local) (call : Option Call) → least_mark l.remembered ≡ None → l.call ≡ call → NextLeftOver l (row_read call l).local
read_arrow l (Some (Put key value)) c e = subst (λ x. NextLeftOver l (get_answered (first_key x) l).local) e (answers c (ap is_scan e))
read_arrow l (Some (Del key)) c e = subst (λ x. NextLeftOver l (get_answered (first_key x) l).local) e (answers c (ap is_scan e))
read_arrow l (Some (Get key)) c e = subst (λ x. NextLeftOver l (get_answered (first_key x) l).local) e (answers c (ap is_scan e))
read_arrow l (Some (Scan from upto)) c e = subst (λ x. NextLeftOver l (row_scanned (last_key x) l).local) e (scan_goes_on l l.next c (ap is_scan e) refl)
read_arrow l (Some Pin) c e = subst (λ x. NextLeftOver l (get_answered (first_key x) l).local) e (answers c (ap is_scan e))
read_arrow l (Some (ScanAt from upto)) c e = subst (λ x. NextLeftOver l (get_answered (first_key x) l).local) e (answers c (ap is_scan e))
read_arrow l (Some Unpin) c e = subst (λ x. NextLeftOver l (get_answered (first_key x) l).local) e (answers c (ap is_scan e))
read_arrow l None c e = subst (λ x. NextLeftOver l (get_answered (first_key x) l).local) e (answers c (ap is_scan e))

-- the next remembered cell, or the end
pub next_left_over : (l : Local) → NextLeftOver l (to_left_over l).local
next_left_over l = saw (least_mark l.remembered) refl
  where
    saw : (o : Option Mark) → least_mark l.remembered ≡ o → NextLeftOver l (left_over_of o l).local
    saw (Some m) e = goes_to_left_over m e
    saw None e = read_arrow l l.call e refl

module _ (z : Sizes) (rows : ℕ) (v : Words) (s : ℕ) (choice : Choice) (l : Local) where
  enter_arrow : (c : Option Call) → l.call ≡ c → Arrow z v s choice l (Activity.Enter Enter.Announce) (entered c l).local
  enter_arrow (Some (Put key value)) e = enters (ap is_scan e)
  enter_arrow (Some (Del key)) e = enters (ap is_scan e)
  enter_arrow (Some (Get key)) e = enters (ap is_scan e)
  enter_arrow (Some (Scan from upto)) e = enters_scan (ap is_scan e)
  enter_arrow (Some Pin) e = asks_of_pin _ (subst IsOfPin (sym e) tt) (next_pin l l.pin e refl)
  enter_arrow (Some (ScanAt from upto)) e = asks_of_pin _ (subst IsOfPin (sym e) tt) (next_scan_at l from upto l.pin e refl)
  enter_arrow (Some Unpin) e = asks_of_pin _ (subst IsOfPin (sym e) tt) (next_unpin l l.pin e refl)
  enter_arrow None e = enters (ap is_scan e)

  begin_arrow : (c : Choice) → choice ≡ c → IsBegun Activity.Idle c → is_skipped Activity.Idle c ≡ false → Arrow z v s choice l Activity.Idle (begun c (v name.Epoch) l).local
  begin_arrow (Begin call) e b m = begins call e b
  begin_arrow Go e b m = let x : true ≡ false = m in absurd (cc)
  begin_arrow (Guess r) e b m = let x : true ≡ false = m in absurd (cc)
  begin_arrow Stop e b m = let x : true ≡ false = m in absurd (cc)

  guess_arrow : (r : ℕ) (x : Option State) → choice ≡ Guess r → state_of (v (name.State r)) ≡ x → Arrow z v s choice l (Activity.Walk Walk.Start) (guess_seen r x l).local
  guess_arrow r (Some Free) c e = guess_fails
  guess_arrow r (Some (Infant seat)) c e = guess_fails
  guess_arrow r (Some Normal) c e = guesses r c e
  guess_arrow r (Some (Leader count)) c e = guess_fails
  guess_arrow r (Some (Follower leader)) c e = guess_fails
  guess_arrow r (Some (Retired number)) c e = guess_fails
  guess_arrow r None c e = guess_fails

  start_arrow : (c : Choice) → choice ≡ c → Arrow z v s choice l (Activity.Walk Walk.Start) (followed rows (start_transition c l) (v (start_transition c l).operation.name)).local
  start_arrow (Begin call) e = starts_at_head
  start_arrow Go e = starts_at_head
  start_arrow (Guess r) e = guess_arrow r (state_of (v (name.State r))) e refl
  start_arrow Stop e = starts_at_head

  -- arriving after the last row, and before a next one
  arrive_last : (c : Option Call) → l.call ≡ c → next_in v l.row ≡ None → Arrow z v s choice l (Activity.Walk Walk.Next) (arrive c (record l { next = None; upper = 0 })).local
  arrive_last (Some (Put key value)) e n = puts_in_last (ap is_put e) n
  arrive_last (Some (Del key)) e n = puts_in_last (ap is_put e) n
  arrive_last (Some (Get key)) e n = reads_last (ap is_put e) n
  arrive_last (Some (Scan from upto)) e n = reads_last (ap is_put e) n
  arrive_last (Some Pin) e n = reads_last (ap is_put e) n
  arrive_last (Some (ScanAt from upto)) e n = reads_last (ap is_put e) n
  arrive_last (Some Unpin) e n = reads_last (ap is_put e) n
  arrive_last None e n = reads_last (ap is_put e) n

  arrive_before : (c : Option Call) → l.call ≡ c → l.want < least_in v l.candidate → Arrow z v s choice l (Activity.Walk Walk.NextLeast) (arrive c (record l { next = Some l.candidate; upper = least_in v l.candidate })).local
  arrive_before (Some (Put key value)) e n = puts_before (ap is_put e) n
  arrive_before (Some (Del key)) e n = puts_before (ap is_put e) n
  arrive_before (Some (Get key)) e n = reads_before (ap is_put e) n
  arrive_before (Some (Scan from upto)) e n = reads_before (ap is_put e) n
  arrive_before (Some Pin) e n = reads_before (ap is_put e) n
  arrive_before (Some (ScanAt from upto)) e n = reads_before (ap is_put e) n
  arrive_before (Some Unpin) e n = reads_before (ap is_put e) n
  arrive_before None e n = reads_before (ap is_put e) n

  link_arrow : (n : Option ℕ) → next_in v l.row ≡ n → Arrow z v s choice l (Activity.Walk Walk.Next) (link_reached n l).local
  link_arrow None e = arrive_last l.call refl e
  link_arrow (Some q) e = reaches_next q e

  walk_arrow : (b : Bool) → is_stopped choice l ≡ b → Arrow z v s choice l (Activity.Walk Walk.Next) (followed rows (walk_transition b s l) (v (walk_transition b s l).operation.name)).local
  walk_arrow true e = stops e
  walk_arrow false e = link_arrow (next_in v l.row) refl

  least_arrow : (b : Bool) → nat_le (least_in v l.candidate) l.want ≡ b → Arrow z v s choice l (Activity.Walk Walk.NextLeast) (let x : Outcome = if b then to (Activity.Walk Walk.Next) (record l { row = l.candidate; lower = least_in v l.candidate; built = built_in v l.candidate }) else arrive l.call (record l { next = Some l.candidate; upper = least_in v l.candidate }) in x).local
  least_arrow true e = walks_on (at_most _ _ e)
  least_arrow false e = arrive_before l.call refl (above _ _ e)

  look_arrow : (i : ℕ) (x : Option Pend) → pend_of (v (name.Pend l.row i)) ≡ x → Arrow z v s choice l (Activity.Look (Look.Entry i)) (look_seen z i x l).local
  look_arrow i (Some pend.Idle) e = next_look z (i + 1) l (Arrow z v s choice l (Activity.Look (Look.Entry i))) (λ a n. sees_neither i a (record { pending = λ c q. let y : Some pend.Idle ≡ Some (pend.Pending c) = sym e ∙ q in cc; stamped = λ c u q. let y : Some pend.Idle ≡ Some (pend.Stamped c u) = sym e ∙ q in cc }) n)
  look_arrow i (Some (pend.Pending cell)) e = sees_pending i cell e
  look_arrow i (Some (pend.Stamped cell version)) e = next_look z (i + 1) (remembering cell version l) (Arrow z v s choice l (Activity.Look (Look.Entry i))) (λ a n. sees_stamped i cell version a e n)
  look_arrow i (Some pend.Frozen) e = next_look z (i + 1) l (Arrow z v s choice l (Activity.Look (Look.Entry i))) (λ a n. sees_neither i a (record { pending = λ c q. let y : Some pend.Frozen ≡ Some (pend.Pending c) = sym e ∙ q in cc; stamped = λ c u q. let y : Some pend.Frozen ≡ Some (pend.Stamped c u) = sym e ∙ q in cc }) n)
  look_arrow i None e = next_look z (i + 1) l (Arrow z v s choice l (Activity.Look (Look.Entry i))) (λ a n. sees_neither i a (record { pending = λ c q. let y : None ≡ Some (pend.Pending c) = sym e ∙ q in cc; stamped = λ c u q. let y : None ≡ Some (pend.Stamped c u) = sym e ∙ q in cc }) n)

  help_arrow : (x : Option Pend) → pend_of (v (name.Pend l.row l.looked)) ≡ x → Arrow z v s choice l (Activity.Look Look.Help) (help_seen z x l).local
  help_arrow (Some pend.Idle) e = next_look z (l.looked + 1) l (Arrow z v s choice l (Activity.Look Look.Help)) (λ a n. finds_other a (record { pending = λ q. let y : Some pend.Idle ≡ Some (pend.Pending l.saw) = sym e ∙ q in cc; stamped = λ c u q. let y : Some pend.Idle ≡ Some (pend.Stamped c u) = sym e ∙ q in cc }) n)
  help_arrow (Some (pend.Pending cell)) e = saw (cell == l.saw) refl
    where
      saw : (b : Bool) → (cell == l.saw) ≡ b → Arrow z v s choice l (Activity.Look Look.Help) (to_look z (l.looked + 1) (let x : Local = if b then remembering cell l.helping l else l in x)).local
      saw true h = next_look z (l.looked + 1) (remembering cell l.helping l) (Arrow z v s choice l (Activity.Look Look.Help))
          (λ a n. subst (λ c. Arrow z v s choice l (Activity.Look Look.Help) (record (remembering c l.helping l) { activity = a })) (sym (eq_from cell l.saw h)) (helps a (e ∙ ap (λ c. Some (pend.Pending c)) (eq_from cell l.saw h)) n))
      saw false h = next_look z (l.looked + 1) l (Arrow z v s choice l (Activity.Look Look.Help)) (λ a n. finds_other a (record { pending = λ q. let y : Some (pend.Pending cell) ≡ Some (pend.Pending l.saw) = sym e ∙ q in eq_not cell l.saw h (cc); stamped = λ c u q. let y : Some (pend.Pending cell) ≡ Some (pend.Stamped c u) = sym e ∙ q in cc }) n)
  help_arrow (Some (pend.Stamped cell version)) e = next_look z (l.looked + 1) (remembering cell version l) (Arrow z v s choice l (Activity.Look Look.Help)) (λ a n. finds_stamped cell version a e n)
  help_arrow (Some pend.Frozen) e = next_look z (l.looked + 1) l (Arrow z v s choice l (Activity.Look Look.Help)) (λ a n. finds_other a (record { pending = λ q. let y : Some pend.Frozen ≡ Some (pend.Pending l.saw) = sym e ∙ q in cc; stamped = λ c u q. let y : Some pend.Frozen ≡ Some (pend.Stamped c u) = sym e ∙ q in cc }) n)
  help_arrow None e = next_look z (l.looked + 1) l (Arrow z v s choice l (Activity.Look Look.Help)) (λ a n. finds_other a (record { pending = λ q. let y : None ≡ Some (pend.Pending l.saw) = sym e ∙ q in cc; stamped = λ c u q. let y : None ≡ Some (pend.Stamped c u) = sym e ∙ q in cc }) n)

  list_arrow : (x : Option ℕ) → cell_of_link_word (v (link_name l.row l.link)) ≡ x → Arrow z v s choice l (Activity.Read Read.Link) (list_reached z x l).local
  list_arrow (Some c) e = list_leads c e
  list_arrow None e = list_ends _ e (next_left_over l)

  first_list_arrow : (x : Option ℕ) → cell_of_link_word (v (link_name l.row l.link)) ≡ x → Arrow z v s choice l (Activity.Read Read.Start) (list_reached z x l).local
  first_list_arrow (Some c) e = first_leads c e
  first_list_arrow None e = first_ends _ e (next_left_over l)

  list_start_arrow : (g : Option ℕ) → cell_guess choice l ≡ g → Arrow z v s choice l (Activity.Read Read.Start) (list_started z l g (told_by (first_operation g l).action (v (first_operation g l).name))).local
  list_start_arrow (Some c) e = saw (nat_lt (key_of_word (v (name.Key l.row c))) (first_key l.call)) refl
    where
      saw : (b : Bool) → nat_lt (key_of_word (v (name.Key l.row c))) (first_key l.call) ≡ b → Arrow z v s choice l (Activity.Read Read.Start) (let x : Outcome = if b then to (Activity.Read Read.Link) (behind_cell c l) else to (Activity.Read Read.Link) l in x).local
      saw true f = begins_behind c (guessed_below choice l c e) (below _ _ f)
      saw false f = begins_at_first c (not_below _ _ f)
  list_start_arrow None e = first_list_arrow (cell_of_link_word (v (link_name l.row l.link))) refl

  stamp_arrow : (x : Option Pend) → pend_of (v (name.Pend l.row s)) ≡ x → Arrow z v s choice l (Activity.Put Put.Stamp) (stamp_seen x l).local
  stamp_arrow (Some pend.Idle) e = stamps_full (record { pending = λ q. let y : Some pend.Idle ≡ Some (pend.Pending l.cell) = sym e ∙ q in cc; stamped = λ u q. let y : Some pend.Idle ≡ Some (pend.Stamped l.cell u) = sym e ∙ q in cc })
  stamp_arrow (Some (pend.Pending cell)) e = saw (cell == l.cell) refl
    where
      saw : (b : Bool) → (cell == l.cell) ≡ b → Arrow z v s choice l (Activity.Put Put.Stamp) (let x : Outcome = if b then to (Activity.Put Put.Version) l else to_rebalance l in x).local
      saw true h = stamps (e ∙ ap (λ c. Some (pend.Pending c)) (eq_from cell l.cell h))
      saw false h = stamps_full (record { pending = λ q. let y : Some (pend.Pending cell) ≡ Some (pend.Pending l.cell) = sym e ∙ q in eq_not cell l.cell h (cc); stamped = λ u q. let y : Some (pend.Pending cell) ≡ Some (pend.Stamped l.cell u) = sym e ∙ q in cc })
  stamp_arrow (Some (pend.Stamped cell version)) e = saw (cell == l.cell) refl
    where
      saw : (b : Bool) → (cell == l.cell) ≡ b → Arrow z v s choice l (Activity.Put Put.Stamp) (let x : Outcome = if b then to (Activity.Put Put.Version) (record l { version = version }) else to_rebalance l in x).local
      saw true h = is_stamped version (e ∙ ap (λ c. Some (pend.Stamped c version)) (eq_from cell l.cell h))
      saw false h = stamps_full (record { pending = λ q. let y : Some (pend.Stamped cell version) ≡ Some (pend.Pending l.cell) = sym e ∙ q in cc; stamped = λ u q. let y : Some (pend.Stamped cell version) ≡ Some (pend.Stamped l.cell u) = sym e ∙ q in eq_not cell l.cell h (cc) })
  stamp_arrow (Some pend.Frozen) e = stamps_full (record { pending = λ q. let y : Some pend.Frozen ≡ Some (pend.Pending l.cell) = sym e ∙ q in cc; stamped = λ u q. let y : Some pend.Frozen ≡ Some (pend.Stamped l.cell u) = sym e ∙ q in cc })
  stamp_arrow None e = stamps_full (record { pending = λ q. let y : None ≡ Some (pend.Pending l.cell) = sym e ∙ q in cc; stamped = λ u q. let y : None ≡ Some (pend.Stamped l.cell u) = sym e ∙ q in cc })

  -- a clock at its end: the put is refused, and leaves as done where it tidied
  refused_clock : (b : Bool) → l.tidies ≡ b → SPENT ≤ v name.Clock → Arrow z v s choice l (Activity.Rebalance (Rebalance.Engage Engage.Clock)) (leave (if b then Done else Spent) (without_rebalance l)).local
  refused_clock true e f = ends_at_clock e
  refused_clock false e f = clock_is_spent f e

  -- an epoch at its end: the same
  refused_epoch : (b : Bool) → l.tidies ≡ b → SPENT ≤ v name.Epoch → Arrow z v s choice l (Activity.Rebalance (Rebalance.Engage Engage.Epoch)) (leave (if b then Done else Spent) (without_rebalance l)).local
  refused_epoch true e f = ends_at_epoch e
  refused_epoch false e f = epoch_is_spent f e

  -- the row leads no more: the put begins anew, and leaves where it tidied
  other_state : (b : Bool) → l.tidies ≡ b → Arrow z v s choice l (Activity.Rebalance (Rebalance.Engage Engage.State)) (to (if b then (Activity.Leave Done) else Activity.Retry) (without_rows (without_rebalance l))).local
  other_state true e = ends_at_state e
  other_state false e = finds_other_state e

  -- the group is not this seat's to decide: the same
  not_decided : (count : ℕ) (b : Bool) → l.tidies ≡ b → Arrow z v s choice l (Activity.Rebalance (Rebalance.Engage (Engage.Decide count))) (to (if b then (Activity.Leave Done) else Activity.Retry) (without_rows (without_rebalance l))).local
  not_decided count true e = ends_undecided count e
  not_decided count false e = decides_not count e

  balance_arrow : (x : Option State) → state_of (v (name.State l.row)) ≡ x → Arrow z v s choice l (Activity.Rebalance (Rebalance.Engage Engage.State)) (state_seen x l).local
  balance_arrow (Some Free) e = other_state l.tidies refl
  balance_arrow (Some (Infant seat)) e = finds_infant seat e
  balance_arrow (Some Normal) e = finds_normal e
  balance_arrow (Some (Leader count)) e = finds_leader count e
  balance_arrow (Some (Follower leader)) e = finds_follower leader e
  balance_arrow (Some (Retired number)) e = other_state l.tidies refl
  balance_arrow None e = other_state l.tidies refl

  decide_arrow : (count : ℕ) (x : Option State) → state_of (v (name.State l.row)) ≡ x → Arrow z v s choice l (Activity.Rebalance (Rebalance.Engage (Engage.Decide count))) (decided count x l).local
  decide_arrow count (Some Free) e = not_decided count l.tidies refl
  decide_arrow count (Some (Infant seat)) e = not_decided count l.tidies refl
  decide_arrow count (Some Normal) e = not_decided count l.tidies refl
  decide_arrow count (Some (Leader n)) e = decides count n _ e (next_counted (if n == 0 then count else n) l)
  decide_arrow count (Some (Follower leader)) e = not_decided count l.tidies refl
  decide_arrow count (Some (Retired number)) e = not_decided count l.tidies refl
  decide_arrow count None e = not_decided count l.tidies refl

  -- the row after the full one is known
  undecided_arrow : (count : ℕ) (x : Option ℕ) → count ≡ 0 → next_in v l.row ≡ x → Arrow z v s choice l (Activity.Rebalance (Rebalance.Engage (Engage.MarkLink count))) (undecided x (followed_by (next_in v l.row) l)).local
  undecided_arrow count (Some r) o e = marks_link count r o e
  undecided_arrow count None o e = marks_last count o e

  -- the row after the full one is not this seat's to claim
  not_claimed : (b : Bool) → l.tidies ≡ b → Arrow z v s choice l (Activity.Rebalance (Rebalance.Claim Claim.Exchange)) (to (if b then (Activity.Leave Done) else Activity.Retry) (without_rows (without_rebalance l))).local
  not_claimed true e = ends_unclaimed e
  not_claimed false e = claims_not e

  claim_arrow : (x : Option State) → state_of (v (name.State (row_after l))) ≡ x → Arrow z v s choice l (Activity.Rebalance (Rebalance.Claim Claim.Exchange)) (claimed x l).local
  claim_arrow (Some Free) e = not_claimed l.tidies refl
  claim_arrow (Some (Infant seat)) e = next_is_infant seat e
  claim_arrow (Some Normal) e = claims_next (inl e)
  claim_arrow (Some (Leader count)) e = next_leads count e
  claim_arrow (Some (Follower leader)) e = saw (leader == l.row) refl
    where
      saw : (b : Bool) → (leader == l.row) ≡ b → Arrow z v s choice l (Activity.Rebalance (Rebalance.Claim Claim.Exchange)) (let x : Outcome = if b then to_mark_next l else again l in x).local
      saw true h = claims_next (inr (e ∙ ap (λ (q : ℕ). Some (Follower q)) (eq_from leader l.row h)))
      saw false h = not_claimed l.tidies refl
  claim_arrow (Some (Retired number)) e = not_claimed l.tidies refl
  claim_arrow None e = not_claimed l.tidies refl

  -- a walk left ends where there is no leader
  no_head : (b : Bool) → l.tidies ≡ b → row_or_first (row_linked (link_of (v name.Head))) ≡ l.row → Arrow z v s choice l (Activity.Rebalance (Rebalance.Left Left.Start)) (to (if b then (Activity.Leave Done) else Activity.Retry) (without_rows (without_rebalance l))).local
  no_head true e h = ends_at_head e
  no_head false e h = head_follows e h

  left_head_arrow : Arrow z v s choice l (Activity.Rebalance (Rebalance.Left Left.Start)) (first_left (row_or_first (row_linked (link_of (v name.Head)))) l).local
  left_head_arrow = saw (row_or_first (row_linked (link_of (v name.Head))) == l.row) refl
    where
      saw : (b : Bool) → (row_or_first (row_linked (link_of (v name.Head))) == l.row) ≡ b → Arrow z v s choice l (Activity.Rebalance (Rebalance.Left Left.Start)) (let x : Outcome = if b then again l else to (Activity.Rebalance (Rebalance.Left Left.Next)) (at_before (Some (row_or_first (row_linked (link_of (v name.Head))))) 0 l) in x).local
      saw true e = no_head l.tidies refl (eq_from _ _ e)
      saw false e = begins_left _ refl (eq_not _ _ e)

  left_arrow : (c : Choice) → choice ≡ c → Arrow z v s choice l (Activity.Rebalance (Rebalance.Left Left.Start)) (followed rows (left_transition c l) (v (left_transition c l).operation.name)).local
  left_arrow (Begin call) e = left_head_arrow
  left_arrow Go e = left_head_arrow
  left_arrow (Guess q) e = takes_leader q e
  left_arrow Stop e = left_head_arrow

  no_link : (b : Bool) → l.tidies ≡ b → next_in v (row_or_first l.rebalance.before) ≡ None → Arrow z v s choice l (Activity.Rebalance (Rebalance.Left Left.Next)) (to (if b then (Activity.Leave Done) else Activity.Retry) (without_rows (without_rebalance l))).local
  no_link true e h = ends_at_none e
  no_link false e h = none_is_left e h

  left_link_arrow : (x : Option ℕ) → next_in v (row_or_first l.rebalance.before) ≡ x → Arrow z v s choice l (Activity.Rebalance (Rebalance.Left Left.Next)) (link_left x l).local
  left_link_arrow (Some q) e = saw (q == l.row) refl
    where
      saw : (b : Bool) → (q == l.row) ≡ b → Arrow z v s choice l (Activity.Rebalance (Rebalance.Left Left.Next)) (let x : Outcome = if b then to_leader l else to (Activity.Rebalance (Rebalance.Left Left.NextLeast)) (record l { candidate = q }) in x).local
      saw true h = reaches_leader (e ∙ ap (λ (r : ℕ). Some r) (eq_from q l.row h))
      saw false h = leads_left q e (eq_not q l.row h)
  left_link_arrow None e = no_link l.tidies refl e

  no_row_left : (b : Bool) → l.tidies ≡ b → l.lower ≤ least_in v l.candidate → Arrow z v s choice l (Activity.Rebalance (Rebalance.Left Left.NextLeast)) (to (if b then (Activity.Leave Done) else Activity.Retry) (without_rows (without_rebalance l))).local
  no_row_left true e h = ends_past e
  no_row_left false e h = passes_left e h

  freeze_arrow : (i : ℕ) (x : Option Pend) → pend_of (v (name.Pend l.rebalance.hand i)) ≡ x → Arrow z v s choice l (Activity.Rebalance (Rebalance.Freeze (Freeze.Look i))) (freeze_seen z i x l).local
  freeze_arrow i (Some pend.Idle) e = sees_idle i e
  freeze_arrow i (Some (pend.Pending cell)) e = sees_unstamped i cell e
  freeze_arrow i (Some (pend.Stamped cell version)) e = next_entry z (i + 1) (marking z cell version l) (Arrow z v s choice l (Activity.Rebalance (Rebalance.Freeze (Freeze.Look i)))) (remembers i cell version e) (λ next. remembers_last i cell version next e)
  freeze_arrow i (Some pend.Frozen) e = next_entry z (i + 1) l (Arrow z v s choice l (Activity.Rebalance (Rebalance.Freeze (Freeze.Look i)))) (sees_frozen i (inl e)) (λ next. sees_frozen_last i next (inl e))
  freeze_arrow i None e = next_entry z (i + 1) l (Arrow z v s choice l (Activity.Rebalance (Rebalance.Freeze (Freeze.Look i)))) (sees_frozen i (inr e)) (λ next. sees_frozen_last i next (inr e))

  scan_arrow : (i : ℕ) (x : Option ScanWord) → scan_of (v (name.Scan i)) ≡ x → Arrow z v s choice l (Activity.Rebalance (Rebalance.Freeze (Freeze.Scan i))) (scan_seen z i x l).local
  scan_arrow i (Some scan.Quiet) e = next_scan z (i + 1) l (Arrow z v s choice l (Activity.Rebalance (Rebalance.Freeze (Freeze.Scan i)))) (sees_quiet i (inl e)) (sees_quiet_last i (inl e))
  scan_arrow i (Some (scan.Waiting clock)) e = helps_scan i clock e
  scan_arrow i (Some (scan.Drawn version)) e = next_scan z (i + 1) (needing version l) (Arrow z v s choice l (Activity.Rebalance (Rebalance.Freeze (Freeze.Scan i)))) (sees_drawn i version e) (sees_drawn_last i version e)
  scan_arrow i None e = next_scan z (i + 1) l (Arrow z v s choice l (Activity.Rebalance (Rebalance.Freeze (Freeze.Scan i)))) (sees_quiet i (inr e)) (sees_quiet_last i (inr e))

  no_scan_arrow : (i : ℕ) → IsNoScan l.rebalance.waiting (v (name.Scan i)) → Arrow z v s choice l (Activity.Rebalance (Rebalance.Freeze (Freeze.Settle i))) (to_scan_look z (i + 1) l).local
  no_scan_arrow i n = next_scan z (i + 1) l (Arrow z v s choice l (Activity.Rebalance (Rebalance.Freeze (Freeze.Settle i)))) (finds_no_scan i n) (finds_no_scan_last i n)

  settle_arrow : (i : ℕ) (x : Option ScanWord) → scan_of (v (name.Scan i)) ≡ x → Arrow z v s choice l (Activity.Rebalance (Rebalance.Freeze (Freeze.Settle i))) (scan_helped z i x l).local
  settle_arrow i (Some scan.Quiet) e = no_scan_arrow i (record { waiting = λ q. let y : Some scan.Quiet ≡ Some (scan.Waiting l.rebalance.waiting) = sym e ∙ q in cc; drawn = λ u q. let y : Some scan.Quiet ≡ Some (scan.Drawn u) = sym e ∙ q in cc })
  settle_arrow i (Some (scan.Waiting clock)) e = saw (clock == l.rebalance.waiting) refl
    where
      saw : (b : Bool) → (clock == l.rebalance.waiting) ≡ b → Arrow z v s choice l (Activity.Rebalance (Rebalance.Freeze (Freeze.Settle i))) (to_scan_look z (i + 1) (let x : Local = if b then needing l.rebalance.drawn l else l in x)).local
      saw true h = let w = e ∙ ap (λ c. Some (scan.Waiting c)) (eq_from clock l.rebalance.waiting h) in next_scan z (i + 1) (needing l.rebalance.drawn l) (Arrow z v s choice l (Activity.Rebalance (Rebalance.Freeze (Freeze.Settle i)))) (settles_scan i w) (settles_last i w)
      saw false h = no_scan_arrow i (record { waiting = λ q. let y : Some (scan.Waiting clock) ≡ Some (scan.Waiting l.rebalance.waiting) = sym e ∙ q in eq_not clock l.rebalance.waiting h (cc); drawn = λ u q. let y : Some (scan.Waiting clock) ≡ Some (scan.Drawn u) = sym e ∙ q in cc })
  settle_arrow i (Some (scan.Drawn version)) e = next_scan z (i + 1) (needing version l) (Arrow z v s choice l (Activity.Rebalance (Rebalance.Freeze (Freeze.Settle i)))) (finds_drawn i version e) (finds_drawn_last i version e)
  settle_arrow i None e = no_scan_arrow i (record { waiting = λ q. let y : None ≡ Some (scan.Waiting l.rebalance.waiting) = sym e ∙ q in cc; drawn = λ u q. let y : None ≡ Some (scan.Drawn u) = sym e ∙ q in cc })

  take_arrow : (x : Option ℕ) → cell_of_link_word (v (link_name l.rebalance.hand l.link)) ≡ x → Arrow z v s choice l (Activity.Rebalance (Rebalance.Gather Gather.Link)) (take_reached z x l).local
  take_arrow (Some c) e = take_leads c e
  take_arrow None e = next_left z l (Arrow z v s choice l (Activity.Rebalance (Rebalance.Gather Gather.Link))) (λ m n o. takes_left m e n o) (λ next. takes_no_more next e)

  first_insert_arrow : (x : Option ℕ) → cell_of_link_word (v (link_name l.row l.link)) ≡ x → Arrow z v s choice l (Activity.Insert Insert.Start) (insert_from z x l).local
  first_insert_arrow (Some c) e = first_reaches c e
  first_insert_arrow None e = first_sees_none e

  insert_start_arrow : (g : Option ℕ) → cell_guess choice l ≡ g → Arrow z v s choice l (Activity.Insert Insert.Start) (insert_started z l g (told_by (first_operation g l).action (v (first_operation g l).name))).local
  insert_start_arrow (Some c) e = saw (nat_lt (key_of_word (v (name.Key l.row c))) (first_key l.call)) refl
    where
      saw : (b : Bool) → nat_lt (key_of_word (v (name.Key l.row c))) (first_key l.call) ≡ b → Arrow z v s choice l (Activity.Insert Insert.Start) (let x : Outcome = if b then to (Activity.Insert Insert.Link) (behind_cell c l) else to (Activity.Insert Insert.Link) l in x).local
      saw true f = inserts_behind c (guessed_below choice l c e) (below _ _ f)
      saw false f = inserts_at_first c (not_below _ _ f)
  insert_start_arrow None e = first_insert_arrow (cell_of_link_word (v (link_name l.row l.link))) refl

  insert_arrow : (x : Option ℕ) → cell_of_link_word (v (link_name l.row l.link)) ≡ x → Arrow z v s choice l (Activity.Insert Insert.Link) (insert_from z x l).local
  insert_arrow (Some c) e = reaches_cell c e
  insert_arrow None e = sees_none e

  -- every event that is not skipped takes an arrow
  pub arrow : (a : Activity) → IsBegun a choice → is_skipped a choice ≡ false → Arrow z v s choice l a (followed rows (transition z a s choice l) (v (transition z a s choice l).operation.name)).local
  arrow Activity.Idle b m = begin_arrow choice refl b m
  arrow (Activity.Enter Enter.Announce) b m = enter_arrow l.call refl
  arrow (Activity.Draw Draw.Clock) b m = saw (nat_le SPENT (v name.Clock)) refl
    where
      saw : (b : Bool) → nat_le SPENT (v name.Clock) ≡ b → Arrow z v s choice l (Activity.Draw Draw.Clock) (let x : Outcome = if b then leave Spent l else to (Activity.Draw Draw.Wait) (record l { waiting = v name.Clock }) in x).local
      saw true e = is_spent (at_most _ _ e)
      saw false e = waits (above _ _ e)
  arrow (Activity.Draw Draw.Wait) b m = stores_waiting
  arrow (Activity.Draw Draw.Version) b m = draws
  arrow (Activity.Draw Draw.Settle) b m = which (is_pin l.call) refl
    where
      saw : (b : Bool) → is_range_empty l.call ≡ b → Arrow z v s choice l (Activity.Draw Draw.Settle) (let x : Outcome = if b then to (Activity.EndScan Pairs) (record l { version = version_settled (scan_of (v (name.Scan s))) l.drawn }) else to (Activity.Walk Walk.Start) (record l { version = version_settled (scan_of (v (name.Scan s))) l.drawn; want = first_key l.call }) in x).local
      saw true e = settles_empty e
      saw false e = settles e

      which : (b : Bool) → is_pin l.call ≡ b → Arrow z v s choice l (Activity.Draw Draw.Settle) (let x : Outcome = if b then to (Activity.Draw Draw.Pin) (record l { version = version_settled (scan_of (v (name.Scan s))) l.drawn }) else if is_range_empty l.call then to (Activity.EndScan Pairs) (record l { version = version_settled (scan_of (v (name.Scan s))) l.drawn }) else to (Activity.Walk Walk.Start) (record l { version = version_settled (scan_of (v (name.Scan s))) l.drawn; want = first_key l.call }) in x).local
      which true e = settles_pin e
      which false e = saw (is_range_empty l.call) refl
  arrow (Activity.Draw Draw.Pin) b m = stores_pin
  arrow (Activity.Walk Walk.Start) b m = start_arrow choice refl
  arrow (Activity.Walk Walk.First) b m = takes_head
  arrow (Activity.Walk Walk.GuessedLeast) b m = saw (nat_le (least_in v l.row) l.want) refl
    where
      saw : (b : Bool) → nat_le (least_in v l.row) l.want ≡ b → Arrow z v s choice l (Activity.Walk Walk.GuessedLeast) (let x : Outcome = if b then to (Activity.Walk Walk.Next) (record l { lower = least_in v l.row; built = built_in v l.row }) else to (Activity.Walk Walk.First) l in x).local
      saw true e = guess_serves (at_most _ _ e)
      saw false e = guess_is_above (above _ _ e)
  arrow (Activity.Walk Walk.Next) b m = walk_arrow (is_stopped choice l) refl
  arrow (Activity.Walk Walk.NextLeast) b m = least_arrow (nat_le (least_in v l.candidate) l.want) refl
  arrow (Activity.Look (Look.Entry i)) b m = look_arrow i (pend_of (v (name.Pend l.row i))) refl
  arrow (Activity.Look Look.Key) b m = saw (is_in_range l.call (key_of_word (v (name.Key l.row l.saw)))) refl
    where
      saw : (b : Bool) → is_in_range l.call (key_of_word (v (name.Key l.row l.saw))) ≡ b → Arrow z v s choice l (Activity.Look Look.Key) (let x : Outcome = if b then to (Activity.Look Look.Clock) l else to_look z (l.looked + 1) l in x).local
      saw true e = is_wanted e
      saw false e = next_look z (l.looked + 1) l (Arrow z v s choice l (Activity.Look Look.Key)) (λ a n. is_gone_by a e n)
  arrow (Activity.Look Look.Clock) b m = loads_to_help
  arrow (Activity.Look Look.Help) b m = help_arrow (pend_of (v (name.Pend l.row l.looked))) refl
  arrow (Activity.Read Read.Start) b m = list_start_arrow (cell_guess choice l) refl
  arrow (Activity.Read Read.Link) b m = list_arrow (cell_of_link_word (v (link_name l.row l.link))) refl
  arrow (Activity.Read Read.Key) b m = saw (nat_lt (key_of_word (v (name.Key l.row l.place))) (first_key l.call)) (nat_le (key_of_word (v (name.Key l.row l.place))) (last_key l.call)) refl refl
    where
      saw : (b c : Bool) → nat_lt (key_of_word (v (name.Key l.row l.place))) (first_key l.call) ≡ b → nat_le (key_of_word (v (name.Key l.row l.place))) (last_key l.call) ≡ c →
          Arrow z v s choice l (Activity.Read Read.Key) (let x : Outcome = if b then list_past l else if c then to (Activity.Read Read.Version) (record l { place_key = key_of_word (v (name.Key l.row l.place)) }) else to_left_over l in x).local
      saw true c e f = key_below (below _ _ e)
      saw false true e f = key_within (not_below _ _ e) (at_most _ _ f)
      saw false false e f = key_above _ (above _ _ f) (next_left_over l)
  arrow (Activity.Read Read.Version) b m = loads_version
  arrow (Activity.Read Read.Value) b m = gathers_listed
  arrow (Activity.Read Read.LeftOverKey) b m = saw (is_in_range l.call (key_of_word (v (name.Key l.row l.place)))) refl
    where
      saw : (b : Bool) → is_in_range l.call (key_of_word (v (name.Key l.row l.place))) ≡ b → Arrow z v s choice l (Activity.Read Read.LeftOverKey) (let x : Outcome = if b then to (Activity.Read Read.LeftOverValue) (record l { place_key = key_of_word (v (name.Key l.row l.place)) }) else to_left_over l in x).local
      saw true e = left_over_wanted e
      saw false e = left_over_gone_by _ e (next_left_over l)
  arrow (Activity.Read Read.LeftOverValue) b m = gathers_left_over _ (next_left_over (gathering z (value_of_word (v (name.Value l.row l.place))) l))
  arrow (Activity.EndScan answer) b m = clears_scan answer
  arrow Activity.ClearPin b m = clears_pin
  arrow (Activity.Put Put.Count) b m = saw (has_room z (count_of (v (name.Count l.row)))) refl
    where
      saw : (b : Bool) → has_room z (count_of (v (name.Count l.row))) ≡ b → Arrow z v s choice l (Activity.Put Put.Count) (let x : Outcome = if b then to (Activity.Put Put.Add) l else to_rebalance l in x).local
      saw true e = finds_room e
      saw false e = finds_full e
  arrow (Activity.Put Put.Add) b m = saw (has_room z (count_of (v (name.Count l.row)))) refl
    where
      saw : (b : Bool) → has_room z (count_of (v (name.Count l.row))) ≡ b → Arrow z v s choice l (Activity.Put Put.Add) (let x : Outcome = if b then to (Activity.Put Put.Key) (record l { cell = given_of (count_of (v (name.Count l.row))) }) else to_rebalance l in x).local
      saw true e = takes_cell e
      saw false e = takes_full e
  arrow (Activity.Put Put.Key) b m = stores_key
  arrow (Activity.Put Put.Value) b m = stores_value
  arrow (Activity.Put Put.Announce) b m = saw (v (name.Pend l.row s) == pend_word pend.Idle) refl
    where
      saw : (b : Bool) → (v (name.Pend l.row s) == pend_word pend.Idle) ≡ b → Arrow z v s choice l (Activity.Put Put.Announce) (let x : Outcome = if b then to (Activity.Put Put.Clock) l else to_rebalance l in x).local
      saw true e = announces (eq_from _ _ e)
      saw false e = announces_full (eq_not _ _ e)
  arrow (Activity.Put Put.Clock) b m = loads_clock
  arrow (Activity.Put Put.Stamp) b m = stamp_arrow (pend_of (v (name.Pend l.row s))) refl
  arrow (Activity.Put Put.Version) b m = stores_version
  arrow (Activity.Insert Insert.Start) b m = insert_start_arrow (cell_guess choice l) refl
  arrow (Activity.Insert Insert.Link) b m = insert_arrow (cell_of_link_word (v (link_name l.row l.link))) refl
  arrow (Activity.Insert Insert.Key) b m = saw (nat_lt (key_of_word (v (name.Key l.row l.place))) (first_key l.call)) (key_of_word (v (name.Key l.row l.place)) == first_key l.call) refl refl
    where
      saw : (b c : Bool) → nat_lt (key_of_word (v (name.Key l.row l.place))) (first_key l.call) ≡ b → (key_of_word (v (name.Key l.row l.place)) == first_key l.call) ≡ c →
          Arrow z v s choice l (Activity.Insert Insert.Key) (let x : Outcome = if b then insert_past l else if c then to (Activity.Insert Insert.Version) l else to (Activity.Insert Insert.Set) l in x).local
      saw true c e f = key_before (below _ _ e)
      saw false true e f = key_same (eq_from _ _ f)
      saw false false e f = key_after (apart_above _ _ e f)
  arrow (Activity.Insert Insert.Version) b m = rw (unwrap_or-version_of_word (v (name.Version l.row l.place))) (saw (is_newer (v (name.Version l.row l.place)) l.place l) refl)
    where
      saw : (b : Bool) → is_newer (v (name.Version l.row l.place)) l.place l ≡ b → Arrow z v s choice l (Activity.Insert Insert.Version) (let x : Outcome = if b then insert_past l else to (Activity.Insert Insert.Set) l in x).local
      saw true e = version_before e
      saw false e = version_after e
  arrow (Activity.Insert Insert.Set) b m = stores_after
  arrow (Activity.Insert Insert.Exchange) b m = saw (v (link_name l.row l.link) == cell_link_word l.held) refl
    where
      saw : (b : Bool) → (v (link_name l.row l.link) == cell_link_word l.held) ≡ b → Arrow z v s choice l (Activity.Insert Insert.Exchange) (insert_tried z b l).local
      saw true e = inserts (eq_from _ _ e)
      saw false e = loses (eq_not _ _ e)
  arrow (Activity.Put Put.Clear) b m = saw (tidies_row rows choice l) refl
    where
      saw : (b : Bool) → tidies_row rows choice l ≡ b → Arrow z v s choice l (Activity.Put Put.Clear) (let x : Outcome = if b then to_rebalance (record l { tidies = true }) else leave Done l in x).local
      saw true e = tidies rows e
      saw false e = clears
  arrow (Activity.Leave answer) b m = leaves answer
  arrow Activity.Retry b m = retries
  arrow (Activity.Enter Enter.LoadEpoch) b m = enters_again
  arrow (Activity.Rebalance (Rebalance.Engage Engage.Clock)) b m = saw (nat_le SPENT (v name.Clock)) refl
    where
      saw : (b : Bool) → nat_le SPENT (v name.Clock) ≡ b → Arrow z v s choice l (Activity.Rebalance (Rebalance.Engage Engage.Clock)) (let x : Outcome = if b then refuse Spent l else to (Activity.Rebalance (Rebalance.Engage Engage.Epoch)) l in x).local
      saw true e = refused_clock l.tidies refl (at_most _ _ e)
      saw false e = clock_serves (above _ _ e)
  arrow (Activity.Rebalance (Rebalance.Engage Engage.Epoch)) b m = saw (nat_le SPENT (v name.Epoch)) refl
    where
      saw : (b : Bool) → nat_le SPENT (v name.Epoch) ≡ b → Arrow z v s choice l (Activity.Rebalance (Rebalance.Engage Engage.Epoch)) (let x : Outcome = if b then refuse Spent l else to (Activity.Rebalance (Rebalance.Engage Engage.State)) l in x).local
      saw true e = refused_epoch l.tidies refl (at_most _ _ e)
      saw false e = epoch_serves (above _ _ e)
  arrow (Activity.Rebalance (Rebalance.Engage Engage.State)) b m = balance_arrow (state_of (v (name.State l.row))) refl
  arrow (Activity.Rebalance (Rebalance.Engage (Engage.Normal seat))) b m = normalises seat
  arrow (Activity.Rebalance (Rebalance.Engage Engage.Lead)) b m = saw (v (name.State l.row) == state_word Normal) refl
    where
      saw : (b : Bool) → (v (name.State l.row) == state_word Normal) ≡ b → Arrow z v s choice l (Activity.Rebalance (Rebalance.Engage Engage.Lead)) (engaged b l).local
      saw true e = engages (eq_from _ _ e)
      saw false e = is_engaged (eq_not _ _ e)
  arrow (Activity.Rebalance (Rebalance.Engage (Engage.MarkLink count))) b m = saw (count == 0) refl
    where
      saw : (b : Bool) → (count == 0) ≡ b → Arrow z v s choice l (Activity.Rebalance (Rebalance.Engage (Engage.MarkLink count))) (let x : Outcome = if b then undecided (next_in v l.row) (followed_by (next_in v l.row) l) else counted count (followed_by (next_in v l.row) l) in x).local
      saw true e = undecided_arrow count (next_in v l.row) (eq_from _ _ e) refl
      saw false e = marks_led count _ (eq_not _ _ e) (next_counted count (followed_by (next_in v l.row) l))
  arrow (Activity.Rebalance (Rebalance.Engage (Engage.Decide count))) b m = decide_arrow count (state_of (v (name.State l.row))) refl
  arrow (Activity.Rebalance (Rebalance.Claim Claim.Count)) b m = counts_next
  arrow (Activity.Rebalance (Rebalance.Claim Claim.Exchange)) b m = claim_arrow (state_of (v (name.State (row_after l)))) refl
  arrow (Activity.Rebalance (Rebalance.Claim (Claim.Normal seat))) b m = normalises_next seat
  arrow (Activity.Rebalance (Rebalance.Claim Claim.MarkLink)) b m = marks_next
  arrow (Activity.Rebalance (Rebalance.Left Left.Start)) b m = left_arrow choice refl
  arrow (Activity.Rebalance (Rebalance.Left Left.Next)) b m = left_link_arrow (next_in v (row_or_first l.rebalance.before)) refl
  arrow (Activity.Rebalance (Rebalance.Left Left.NextLeast)) b m = saw (nat_lt (least_in v l.candidate) l.lower) refl
    where
      saw : (b : Bool) → nat_lt (least_in v l.candidate) l.lower ≡ b → Arrow z v s choice l (Activity.Rebalance (Rebalance.Left Left.NextLeast)) (let x : Outcome = if b then to (Activity.Rebalance (Rebalance.Left Left.Next)) (at_before (Some l.candidate) (least_in v l.candidate) l) else again l in x).local
      saw true e = walks_left (below _ _ e)
      saw false e = no_row_left l.tidies refl (not_below _ _ e)
  arrow (Activity.Rebalance (Rebalance.Freeze Freeze.Count)) b m = freezes_count
  arrow (Activity.Rebalance (Rebalance.Freeze (Freeze.Look i))) b m = freeze_arrow i (pend_of (v (name.Pend l.rebalance.hand i))) refl
  arrow (Activity.Rebalance (Rebalance.Freeze (Freeze.Entry i))) b m = saw (v (name.Pend l.rebalance.hand i) == pend_word l.rebalance.entry) refl
    where
      saw : (b : Bool) → (v (name.Pend l.rebalance.hand i) == pend_word l.rebalance.entry) ≡ b → Arrow z v s choice l (Activity.Rebalance (Rebalance.Freeze (Freeze.Entry i))) (entry_tried z i b l).local
      saw true e = next_entry z (i + 1) l (Arrow z v s choice l (Activity.Rebalance (Rebalance.Freeze (Freeze.Entry i)))) (freezes_entry i (eq_from _ _ e)) (λ next. freezes_last i next (eq_from _ _ e))
      saw false e = looks_again i (eq_not _ _ e)
  arrow (Activity.Rebalance (Rebalance.Freeze (Freeze.Scan i))) b m = scan_arrow i (scan_of (v (name.Scan i))) refl
  arrow (Activity.Rebalance (Rebalance.Freeze (Freeze.Draw i))) b m = draws_for i
  arrow (Activity.Rebalance (Rebalance.Freeze (Freeze.Settle i))) b m = settle_arrow i (scan_of (v (name.Scan i))) refl
  arrow (Activity.Rebalance (Rebalance.Freeze (Freeze.Pin i))) b m = looks_at_pin i _ (next_pin_look z i (v (name.Pin i)) l)
  arrow (Activity.Rebalance (Rebalance.Gather Gather.Link)) b m = take_arrow (cell_of_link_word (v (link_name l.rebalance.hand l.link))) refl
  arrow (Activity.Rebalance (Rebalance.Gather Gather.Key)) b m = takes_key
  arrow (Activity.Rebalance (Rebalance.Gather Gather.Version)) b m = takes_version
  arrow (Activity.Rebalance (Rebalance.Gather Gather.Value)) b m = keeps_taken
  arrow (Activity.Rebalance (Rebalance.Gather Gather.LeftOverKey)) b m = takes_left_key
  arrow (Activity.Rebalance (Rebalance.Gather Gather.LeftOverValue)) b m = next_left z (keeping z (value_of_word (v (name.Value l.rebalance.hand l.place))) l) (Arrow z v s choice l (Activity.Rebalance (Rebalance.Gather Gather.LeftOverValue))) keeps_left keeps_no_more
  arrow (Activity.Rebalance (Rebalance.Seek Seek.First)) b m = builds (Activity.Rebalance (Rebalance.Seek Seek.First)) _ tt (building z rows v s choice l (Activity.Rebalance (Rebalance.Seek Seek.First)) tt)
  arrow (Activity.Rebalance (Rebalance.Seek Seek.Next)) b m = builds (Activity.Rebalance (Rebalance.Seek Seek.Next)) _ tt (building z rows v s choice l (Activity.Rebalance (Rebalance.Seek Seek.Next)) tt)
  arrow (Activity.Rebalance (Rebalance.Seek (Seek.Pass i))) b m = builds (Activity.Rebalance (Rebalance.Seek (Seek.Pass i))) _ tt (building z rows v s choice l (Activity.Rebalance (Rebalance.Seek (Seek.Pass i))) tt)
  arrow (Activity.Rebalance (Rebalance.Seek Seek.Reclaim)) b m = builds (Activity.Rebalance (Rebalance.Seek Seek.Reclaim)) _ tt (building z rows v s choice l (Activity.Rebalance (Rebalance.Seek Seek.Reclaim)) tt)
  arrow (Activity.Rebalance (Rebalance.Seek Seek.Take)) b m = builds (Activity.Rebalance (Rebalance.Seek Seek.Take)) _ tt (building z rows v s choice l (Activity.Rebalance (Rebalance.Seek Seek.Take)) tt)
  arrow (Activity.Rebalance (Rebalance.Seek Seek.GiveBack)) b m = builds (Activity.Rebalance (Rebalance.Seek Seek.GiveBack)) _ tt (building z rows v s choice l (Activity.Rebalance (Rebalance.Seek Seek.GiveBack)) tt)
  arrow (Activity.Rebalance (Rebalance.Write Write.Count)) b m = builds (Activity.Rebalance (Rebalance.Write Write.Count)) _ tt (building z rows v s choice l (Activity.Rebalance (Rebalance.Write Write.Count)) tt)
  arrow (Activity.Rebalance (Rebalance.Write Write.Least)) b m = builds (Activity.Rebalance (Rebalance.Write Write.Least)) _ tt (building z rows v s choice l (Activity.Rebalance (Rebalance.Write Write.Least)) tt)
  arrow (Activity.Rebalance (Rebalance.Write Write.Next)) b m = builds (Activity.Rebalance (Rebalance.Write Write.Next)) _ tt (building z rows v s choice l (Activity.Rebalance (Rebalance.Write Write.Next)) tt)
  arrow (Activity.Rebalance (Rebalance.Write Write.First)) b m = builds (Activity.Rebalance (Rebalance.Write Write.First)) _ tt (building z rows v s choice l (Activity.Rebalance (Rebalance.Write Write.First)) tt)
  arrow (Activity.Rebalance (Rebalance.Write (Write.Entry i))) b m = builds (Activity.Rebalance (Rebalance.Write (Write.Entry i))) _ tt (building z rows v s choice l (Activity.Rebalance (Rebalance.Write (Write.Entry i))) tt)
  arrow (Activity.Rebalance (Rebalance.Write (Write.Key j))) b m = builds (Activity.Rebalance (Rebalance.Write (Write.Key j))) _ tt (building z rows v s choice l (Activity.Rebalance (Rebalance.Write (Write.Key j))) tt)
  arrow (Activity.Rebalance (Rebalance.Write (Write.Value j))) b m = builds (Activity.Rebalance (Rebalance.Write (Write.Value j))) _ tt (building z rows v s choice l (Activity.Rebalance (Rebalance.Write (Write.Value j))) tt)
  arrow (Activity.Rebalance (Rebalance.Write (Write.Version j))) b m = builds (Activity.Rebalance (Rebalance.Write (Write.Version j))) _ tt (building z rows v s choice l (Activity.Rebalance (Rebalance.Write (Write.Version j))) tt)
  arrow (Activity.Rebalance (Rebalance.Write (Write.After j))) b m = builds (Activity.Rebalance (Rebalance.Write (Write.After j))) _ tt (building z rows v s choice l (Activity.Rebalance (Rebalance.Write (Write.After j))) tt)
  arrow (Activity.Rebalance (Rebalance.Replace Replace.Start)) b m = builds (Activity.Rebalance (Rebalance.Replace Replace.Start)) _ tt (building z rows v s choice l (Activity.Rebalance (Rebalance.Replace Replace.Start)) tt)
  arrow (Activity.Rebalance (Rebalance.Replace Replace.GuessedLeast)) b m = builds (Activity.Rebalance (Rebalance.Replace Replace.GuessedLeast)) _ tt (building z rows v s choice l (Activity.Rebalance (Rebalance.Replace Replace.GuessedLeast)) tt)
  arrow (Activity.Rebalance (Rebalance.Replace Replace.First)) b m = builds (Activity.Rebalance (Rebalance.Replace Replace.First)) _ tt (building z rows v s choice l (Activity.Rebalance (Rebalance.Replace Replace.First)) tt)
  arrow (Activity.Rebalance (Rebalance.Replace Replace.Next)) b m = builds (Activity.Rebalance (Rebalance.Replace Replace.Next)) _ tt (building z rows v s choice l (Activity.Rebalance (Rebalance.Replace Replace.Next)) tt)
  arrow (Activity.Rebalance (Rebalance.Replace Replace.NextLeast)) b m = builds (Activity.Rebalance (Rebalance.Replace Replace.NextLeast)) _ tt (building z rows v s choice l (Activity.Rebalance (Rebalance.Replace Replace.NextLeast)) tt)
  arrow (Activity.Rebalance (Rebalance.Replace Replace.Exchange)) b m = builds (Activity.Rebalance (Rebalance.Replace Replace.Exchange)) _ tt (building z rows v s choice l (Activity.Rebalance (Rebalance.Replace Replace.Exchange)) tt)
  arrow (Activity.Rebalance (Rebalance.Replace Replace.Normalise)) b m = builds (Activity.Rebalance (Rebalance.Replace Replace.Normalise)) _ tt (building z rows v s choice l (Activity.Rebalance (Rebalance.Replace Replace.Normalise)) tt)
  arrow (Activity.Rebalance (Rebalance.Replace Replace.Number)) b m = builds (Activity.Rebalance (Rebalance.Replace Replace.Number)) _ tt (building z rows v s choice l (Activity.Rebalance (Rebalance.Replace Replace.Number)) tt)
  arrow (Activity.Rebalance (Rebalance.Replace Replace.Retire)) b m = builds (Activity.Rebalance (Rebalance.Replace Replace.Retire)) _ tt (building z rows v s choice l (Activity.Rebalance (Rebalance.Replace Replace.Retire)) tt)
