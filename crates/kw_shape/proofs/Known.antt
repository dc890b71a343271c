-- What the acting seat knows stays in range, by the arrow that it takes.
use Rattle.std.proofs.Common.{ℕ, ◌≡◌, ◌≢◌, ◌⊎◌, inl, inr, ◌+◌, ◌-◌, ◌*◌, ◌<◌, ◌≤◌, ◌==◌, nat_le, nat_lt, Bool, true, false, if◌then◌else◌, Option, Some, None, List, [], ◌∷◌, ◌++◌, arith, refl, subst, All, drop, length, length-append, slice_index, take}
use Rattle.std.proofs.lemmas.List.{length-take}
use Rattle.std.proofs.lemmas.List.Elements.{All-nil, All-append, All-cons}
use Rattle.std.proofs.Math.Nat.{min-le_right}
use Rattle.kw_words.specs.declared.layout.Name.{Name}
use Rattle.kw_words.specs.declared.layout.Name.TheVariants as name
use Rattle.kw_words.specs.declared.pend.Pend.{Pend}
use Rattle.kw_words.specs.declared.pend.Pend.TheVariants as pend
use Rattle.kw_words.specs.declared.sizes.TheConstants.{KEY_END, MOST_CELLS, MOST_GROUP}
use Rattle.std.proofs.lemmas.Bool.Decides.{nat_tests}
use Rattle.kw_words.proofs.StateWords.{IsState-state_of}
use Rattle.kw_world.specs.ListTransitions.{link_name}
use Rattle.kw_words.specs.Layout.{IsSized, IsWithin}
use Rattle.kw_words.specs.Pend.{pend_of}
use Rattle.kw_words.specs.Count.{count_of}
use Rattle.kw_words.specs.Link.{link_of}
use Rattle.kw_words.specs.Plain.{IsValue, key_of_word, value_of_word, cell_of_link_word}
use Rattle.kw_words.proofs.PlainWords.{key_of_word-below}
use Rattle.kw_cells.specs.declared.cell.Cell as kw_cell
use Rattle.kw_cells.specs.Cells.{pairs_of}
use Rattle.kw_cells.specs.Cuts.{end_of, starts_of}
use Rattle.kw_cells.proofs.Even.{are_cuts, starts_some}
use Rattle.kw_cells.proofs.Few.{few_of_kept, few_within}
use Rattle.kw_cells.specs.Kept.{HasFew, kept_of}
use Rattle.kw_cells.specs.declared.cell.Cell.{Cell}
use Rattle.kw_cells.proofs.KeptOf.{kept_of-all, kept_of-length, kept_of-rising}
use Rattle.kw_words.specs.declared.link.Link.{Link}
use Rattle.kw_world.specs.declared.answer.Answer.{Answer}
use Rattle.kw_world.specs.declared.answer.Answer.TheVariants.{Done, NoRows, Spent}
use Rattle.kw_world.specs.ClaimTransitions.{goes_along, row_after, with_second}
use Rattle.kw_world.specs.EngageTransitions.{followed_by, to_group, to_rebalance}
use Rattle.kw_world.specs.GroupPlaces.{at_last_row, place_in_group}
use Rattle.kw_world.specs.ReplaceTransitions.{at_before}
use Rattle.kw_world.specs.declared.activity.Activity.{Activity}
use Rattle.kw_world.specs.declared.activity.rebalance.engage.Engage.TheVariants as Engage
use Rattle.kw_world.specs.declared.activity.rebalance.freeze.Freeze.TheVariants as Freeze
use Rattle.kw_world.specs.declared.activity.rebalance.gather.Gather.TheVariants as Gather
use Rattle.kw_world.specs.declared.activity.look.Look.TheVariants as Look
use Rattle.kw_world.specs.declared.activity.put.Put.TheVariants as Put
use Rattle.kw_world.specs.declared.activity.rebalance.Rebalance.TheVariants as Rebalance
use Rattle.kw_world.specs.declared.activity.rebalance.seek.Seek.TheVariants as Seek
use Rattle.kw_world.specs.declared.activity.walk.Walk.TheVariants as Walk
use Rattle.kw_world.specs.declared.limits.TheConstants.{NEWEST}
use Rattle.kw_world.specs.declared.local.Local.{Local}
use Rattle.kw_world.specs.declared.marks.Mark.{Mark}
use Rattle.kw_world.specs.declared.rebalance.Afterwards.{Afterwards}
use Rattle.kw_world.specs.declared.rebalance.Rebalancing.{Rebalancing}
use Rattle.kw_world.specs.SeekTransitions.{moved_left, seeking, with_row}
use Rattle.kw_world.specs.declared.event.Choice.{Choice}
use Rattle.kw_world.specs.declared.event.Choice.TheVariants.{Guess}
use Rattle.kw_world.specs.Sizes.{Sizes}
use Rattle.kw_world.specs.Marks.{least_mark, mark_of, unmarked}
use Rattle.kw_world.specs.Calls.{first_key, last_key}
use Rattle.kw_world.specs.Transition.{row_linked, row_or_first, leave}
use Rattle.kw_cells.specs.InOrder.{with_cell}
use Rattle.kw_words.specs.declared.scan.ScanWord.TheVariants as scan
use Rattle.kw_words.proofs.ScanWords.{IsScan-scan_of}
use Rattle.kw_world.specs.FreezeTransitions.{marking, needing, to_scans}
use Rattle.kw_world.specs.TakeTransitions.{cell_of_group, keeping, leaving_over, planned, to_take}
use Rattle.kw_world.specs.ReadTransitions.{with_pairs, gathering, remembering}
use Rattle.kw_world.specs.Sane.{IsVersion, IsNumber, IsEntry, IsWord, IsLed, IsOffered, IsPair, IsAnswer, IsMark, IsGroupMark, IsCopy, IsPlaced, IsActivity, IsRowBelow, IsLinkBelow, IsRowState, IsStateBelow, IsCellBelow, IsLocal, IsLocalBelow, IsKnown, HasRebalanceRoom, entries_before, marks_by, IsPinned}
use Rattle.kw_world.proofs.Opens.{none_below, none_ranges, none_room, rests_known}
use Rattle.kw_core.specs.Words.{Words, built_in, least_in}
use Rattle.kw_core.proofs.Events.{IsBegun}
use Rattle.kw_core.proofs.Grouping.{NextCounted, claims_row, goes_alone, NextFrozen, NextGathered, freezes_ahead, froze_all, gathered_all, gathers_ahead}
use Rattle.kw_core.proofs.RoomBelow.{room_below}
use Rattle.kw_shape.specs.Hands.{Hand}
use Rattle.kw_shape.proofs.Hands.{KnowsGroup, cell_few, entries_ahead, entries_few, place_few}
use Rattle.kw_core.proofs.InRange.{unmarked_in_range, unmarked_few, least_holds, version_in_hand, gathered_in_range, gathered_few, version_of_scan, answer_in_range, pairs_in_range, value_in_range, first_in_range, last_in_range, linked_in_range, stopped_in_range, with_cell_in_range}
use Rattle.kw_cells.proofs.InOrder.{length-with_cell}
use Rattle.kw_core.proofs.Arrows.{Arrow, begins, enters, is_spent, waits, draws, settles_empty, settles, starts_at_head, guesses, takes_head, guess_serves, stops, puts_in_last, reads_last, reaches_next, walks_on, puts_before, reads_before, sees_pending, sees_stamped, sees_neither, is_gone_by, loads_to_help, helps, finds_stamped, finds_other, list_leads, list_ends, key_below, key_within, key_above, loads_version, gathers_listed, left_over_wanted, left_over_gone_by, gathers_left_over, clears_scan, takes_cell, loads_clock, is_stamped, stores_version, reaches_cell, sees_none, key_before, version_before, loses, clears, leaves, enters_again, clock_is_spent, epoch_is_spent, finds_infant, finds_follower, finds_leader, finds_other_state, engages, marks_link, marks_last, marks_led, decides, decides_not, finds_full, takes_full, announces_full, stamps_full, NextLook, looks, lists, NextLeftOver, goes_to_left_over, answers, ends_scan, scans_on, freezes_count, sees_idle, sees_unstamped, remembers, remembers_last, sees_frozen, sees_frozen_last, freezes_entry, freezes_last, looks_again, sees_quiet, sees_quiet_last, helps_scan, sees_drawn, sees_drawn_last, draws_for, settles_scan, settles_last, finds_drawn, finds_drawn_last, finds_no_scan, finds_no_scan_last, take_leads, takes_left, takes_no_more, takes_key, takes_version, keeps_taken, takes_left_key, keeps_left, keeps_no_more, below, builds, ends_at_state, ends_at_clock, ends_at_epoch, ends_undecided, counts_next, claims_next, next_is_infant, next_leads, claims_not, ends_unclaimed, marks_next, begins_left, takes_leader, reaches_leader, leads_left, walks_left, head_follows, ends_at_head, none_is_left, ends_at_none, passes_left, ends_past, tidies, begins_at_first, begins_behind, first_ends, first_sees_none, inserts_at_first, inserts_behind, first_leads, first_reaches, asks_of_pin, settles_pin, stores_pin, clears_pin, looks_at_pin}
use Rattle.kw_core.proofs.Building.{Building, IsBuilding, first_is_free, first_is_taken, sought_is_free, sought_is_taken, first_is_retired, sought_is_retired, pass_is_old, pass_is_young, frees_row, takes_row, loses_row, gives_one_back, gives_last_back, writes_count, writes_least, writes_link, writes_first, writes_entry, writes_key, writes_value, writes_version, writes_no_cell, writes_after, begins_before, guesses_before, guess_before_fails, before_serves, before_is_above, takes_head_before, leads_to_full, leads_on_marked, leads_to_other, leads_nowhere, walks_before, walks_past, replaces_row, is_marked_before, is_replaced, makes_normal, makes_last_normal, draws_number, retires_ahead, retires_row, retires_and_leaves}
use Rattle.kw_core.proofs.NextBuilt as following
use Rattle.kw_core.proofs.NextBuilt.{begun_anew, refused, GivenBack, is_refused_rows, moves_left, NextBack, gives_back, has_none, NextSeek, asks, has_asked, looks_on, has_looked, NextTaken, wants_more, has_enough, NextNewRow, writes_row, has_written, NextNewCell, fills, empties, has_cells, NextNewEntry, writes_idle, has_entries, NextBefore, is_first, is_behind, was_served}
use Rattle.kw_core.proofs.Pinning.{NextPinLook, sees_pin, sees_pin_last, sees_no_pin, sees_no_pin_last}
use Rattle.kw_shape.proofs.AfterBuilding.{asks_of_none}

-- all words of a table are in range
pub record AreSane (z : Sizes) (rows : ℕ) (v : Words) : Type 0 where
  pub sized : IsSized z.seats z.cells rows
  pub each : (n : Name) → IsWithin z.seats z.cells rows n → IsWord z n (v n)
  pub led : (n : Name) → IsWithin z.seats z.cells rows n → IsLed rows n (v n)

-- what a seat at this activity knows is in range
pub record IsKnownAt (z : Sizes) (rows : ℕ) (a : Activity) (l : Local) : Type 0 where
  pub activity : IsActivity z a
  pub ranges : IsLocal z l
  pub below : IsLocalBelow rows l
  pub remembered : length l.remembered ≤ marks_by z a l
  pub gathered : length l.gathered ≤ z.cells
  pub rebalance : HasRebalanceRoom z a l.rebalance
  pub group : KnowsGroup z a l

-- the lists of a rebalance have room at every activity outside of one
abbrev pub HasLists : Sizes → Local → Type 0
HasLists z l = HasRebalanceRoom z Activity.Idle l.rebalance

-- a seat at its activity
pub at_activity : (z : Sizes) (rows : ℕ) (a : Activity) (l : Local) → l.activity ≡ a → IsKnown z rows l → KnowsGroup z a l → IsKnownAt z rows a l
at_activity z rows a l e k g = record {
  activity = subst (IsActivity z) e k.ranges.activity;
  ranges = k.ranges;
  below = k.below;
  remembered = subst (λ q. length l.remembered ≤ marks_by z q l) e k.room.remembered;
  gathered = k.room.gathered;
  rebalance = subst (λ q. HasRebalanceRoom z q l.rebalance) e k.room.rebalance;
  group = g;
}

-- the lists of a rebalance have room at every activity
lists_of : (z : Sizes) (a : Activity) (b : Rebalancing) → IsActivity z a → HasRebalanceRoom z a b → HasRebalanceRoom z Activity.Idle b
lists_of z (Activity.Rebalance (Rebalance.Freeze Freeze.Count)) b y k = record { marks = omega (arith, k.marks, entries_few z b); needed = k.needed; gathered = k.gathered; taken = λ t. absurd t }
lists_of z (Activity.Rebalance (Rebalance.Freeze (Freeze.Look i))) b y k = record { marks = omega (arith, k.marks, y, entries_few z b); needed = k.needed; gathered = k.gathered; taken = λ t. absurd t }
lists_of z (Activity.Rebalance (Rebalance.Freeze (Freeze.Entry i))) b y k = record { marks = omega (arith, k.marks, y, entries_few z b); needed = k.needed; gathered = k.gathered; taken = λ t. absurd t }
lists_of z (Activity.Rebalance (Rebalance.Freeze (Freeze.Scan i))) b y k = record { marks = k.marks; needed = omega (arith, k.needed, y); gathered = k.gathered; taken = λ t. absurd t }
lists_of z (Activity.Rebalance (Rebalance.Freeze (Freeze.Draw i))) b y k = record { marks = k.marks; needed = omega (arith, k.needed, y); gathered = k.gathered; taken = λ t. absurd t }
lists_of z (Activity.Rebalance (Rebalance.Freeze (Freeze.Settle i))) b y k = record { marks = k.marks; needed = omega (arith, k.needed, y); gathered = k.gathered; taken = λ t. absurd t }
lists_of z (Activity.Rebalance (Rebalance.Freeze (Freeze.Pin i))) b y k = record { marks = k.marks; needed = omega (arith, k.needed, y); gathered = k.gathered; taken = λ t. absurd t }
lists_of z _ b y k = record { marks = k.marks; needed = k.needed; gathered = k.gathered; taken = λ t. absurd t }

-- the entry that was seen
entry : (z : Sizes) (rows : ℕ) (v : Words) (q : ℕ) → AreSane z rows v → (i : ℕ) (x : Pend) → q < rows → i < z.seats → pend_of (v (name.Pend q i)) ≡ Some x → IsEntry z (Some x)
entry z rows v q w i x o u e = subst (IsEntry z) e (w.each (name.Pend q i) (o, u))

-- a link between cells leads to one that is in range
pub linked_below : (w c n : ℕ) → cell_of_link_word w ≡ Some c → w ≤ n → c < n
unfolding cell_of_link_word
linked_below w c n e o = saw (w == 0) (nat_le w MOST_CELLS) refl refl e
  where
    saw : (a b : Bool) → (w == 0) ≡ a → nat_le w MOST_CELLS ≡ b → (let x : Option ℕ = if a then None else if b then Some (w - 1) else None in x) ≡ Some c → c < n
    saw true b f g e = let x : None ≡ Some c = e in absurd (cc)
    saw false true f g e = let x : Some (w - 1) ≡ Some c = e in let y : w - 1 ≡ c = cc in grind (arith, nat_tests)
    saw false false f g e = let x : None ≡ Some c = e in absurd (cc)

pub link_below : (z : Sizes) (rows : ℕ) (v : Words) → AreSane z rows v → (r : ℕ) (link : Option ℕ) → IsCellBelow z.cells link → r < rows → v (link_name r link) ≤ z.cells
link_below z rows v w r (Some c) o u = w.each (name.After r c) (u, o)
link_below z rows v w r None o u = w.each (name.First r) u

-- a seat with one more cell
gathered_more : (z : Sizes) (value : Option ℕ) (l : Local) → IsValue value → IsLocal z l → IsLocal z (gathering z value l)
gathered_more z value l u k =
    let a : All IsCopy (gathering z value l).gathered = gathered_in_range z IsCopy value l (k.place_key, k.place_version, u) k.copies in
    assumption (k, a)

-- the marks with one more
marked : (z : Sizes) (marks : List Mark) (c version : ℕ) → All (IsMark z) marks → c < z.cells → IsVersion version → All (IsMark z) (marks ++ mark_of c version ∷ [])
marked z marks c version k o u = All-append (IsMark z) marks (mark_of c version ∷ []) k (All-cons (IsMark z) (mark_of c version) [] (o, u) (All-nil (IsMark z)))

-- so of a group
group_marked : (z : Sizes) (marks : List Mark) (c version : ℕ) → All (IsGroupMark z) marks → c < MOST_GROUP * z.cells → IsVersion version → All (IsGroupMark z) (marks ++ mark_of c version ∷ [])
group_marked z marks c version k o u = All-append (IsGroupMark z) marks (mark_of c version ∷ []) k (All-cons (IsGroupMark z) (mark_of c version) [] (o, u) (All-nil (IsGroupMark z)))

-- the pairs of the row come after those that there are
more_pairs : (z : Sizes) (l : Local) → IsLocal z l → All IsPair (with_pairs (last_key l.call) l).pairs
more_pairs z l k = All-append IsPair l.pairs (pairs_of l.gathered l.want (last_key l.call) l.version) k.pairs (pairs_in_range l.gathered l.want (last_key l.call) l.version k.copies k.want (last_in_range l.call k.call))

module _ (z : Sizes) (rows : ℕ) (l : Local) (sized : IsSized z.seats z.cells rows) where
  -- a seat that is about to leave
  is_leaving : (answer : Answer) → IsAnswer answer → IsLocal z l → IsLocalBelow rows l → length l.remembered ≤ z.seats → length l.gathered ≤ z.cells → HasLists z l → IsKnown z rows (leave answer l).local
  is_leaving answer y k b m g n =
      let o : 0 < rows = omega (arith, sized.some_rows) in
      let zero_key : 0 < KEY_END = omega arith in
      let unbuilt : 0 ≤ z.cells = omega arith in
      assumption (k, b, y, m, g, n, o, zero_key, unbuilt)

  -- a seat that takes the first row
  takes_first : (v : Words) → row_or_first (row_linked (link_of (v name.Head))) < rows → IsLocal z l → IsLocalBelow rows l → length l.remembered ≤ z.seats → length l.gathered ≤ z.cells → HasLists z l → IsKnown z rows (record l { row = row_or_first (row_linked (link_of (v name.Head))); lower = 0; built = 0; activity = Activity.Walk Walk.Next })
  takes_first v o k b m g n =
      let zero_key : 0 < KEY_END = omega arith in
      let unbuilt : 0 ≤ z.cells = omega arith in
      assumption (k, b, m, g, n, o, zero_key, unbuilt)

  -- a put that comes to the last row, and a reader that comes there or to a row before another
  puts_last : IsKnownAt z rows (Activity.Walk Walk.Next) l → IsKnown z rows (record l { next = None; upper = 0; activity = Activity.Put Put.Count })
  puts_last k = let zero_key : 0 < KEY_END = omega arith in assumption (k, zero_key)

  comes_last : IsKnownAt z rows (Activity.Walk Walk.Next) l → IsKnown z rows (record l { next = None; upper = 0; remembered = []; gathered = []; link = None; walked = 0; activity = Activity.Look (Look.Entry 0) })
  comes_last k =
      let zero_key : 0 < KEY_END = omega arith in
      let o : 0 < z.seats = omega (arith, sized.some_seats) in
      let none : 0 ≤ 0 = omega arith in
      let few : 0 ≤ z.cells = omega arith in
      assumption (k, zero_key, o, none, few, All-nil (IsMark z), All-nil IsCopy)

  comes_before : (upper : ℕ) → upper < KEY_END → IsKnownAt z rows (Activity.Walk Walk.NextLeast) l → IsKnown z rows (record l { next = Some l.candidate; upper = upper; remembered = []; gathered = []; link = None; walked = 0; activity = Activity.Look (Look.Entry 0) })
  comes_before upper u k =
      let o : 0 < z.seats = omega (arith, sized.some_seats) in
      let none : 0 ≤ 0 = omega arith in
      let few : 0 ≤ z.cells = omega arith in
      assumption (k, u, o, none, few, All-nil (IsMark z), All-nil IsCopy)

  -- a reader that goes on to an entry or to the count
  next_look : (j : ℕ) (next : Activity) → NextLook z j next → IsLocal z l → IsLocalBelow rows l → length l.remembered ≤ j → length l.remembered ≤ z.seats → length l.gathered ≤ z.cells → HasLists z l → IsKnown z rows (record l { activity = next })
  next_look j next (looks o) k b m n g x = assumption (k, b, m, n, g, x, o)
  next_look j next (lists o) k b m n g x = assumption (k, b, m, n, g, x, o)

  -- it remembers one more cell
  look_marks : (j c version : ℕ) (next : Activity) → NextLook z (j + 1) next → IsLocal z l → IsLocalBelow rows l → length l.remembered ≤ j → j < z.seats → length l.gathered ≤ z.cells → HasLists z l → c < z.cells → IsVersion version → IsKnown z rows (record (remembering c version l) { activity = next })
  look_marks j c version next (looks o) k b m n g x y u =
      let a = marked z l.remembered c version k.marks y u in
      let e : length (l.remembered ++ mark_of c version ∷ []) ≤ j + 1 = omega (arith, length-append l.remembered (mark_of c version ∷ []), m) in
      assumption (k, b, a, e, g, x, o)
  look_marks j c version next (lists o) k b m n g x y u =
      let a = marked z l.remembered c version k.marks y u in
      let e : length (l.remembered ++ mark_of c version ∷ []) ≤ z.seats = omega (arith, length-append l.remembered (mark_of c version ∷ []), m, n) in
      assumption (k, b, a, e, g, x)

  -- it goes on to a cell that it remembers, or is at the end of the row
  next_cell : (next : Local) → NextLeftOver l next → IsLocal z l → IsLocalBelow rows l → length l.remembered ≤ z.seats → length l.gathered ≤ z.cells → HasLists z l → IsKnown z rows next
  next_cell next (goes_to_left_over m o) k b u g x =
      let f = least_holds (IsMark z) l.remembered m o k.marks in
      let marks = unmarked_in_range (IsMark z) m.cell l.remembered k.marks in
      let few : length (unmarked m.cell l.remembered) ≤ z.seats = omega (arith, unmarked_few m.cell l.remembered, u) in
      assumption (k, b, f, marks, few, g, x)
  next_cell next (answers o y) k b u g x = is_leaving _ (answer_in_range l.gathered NEWEST (first_key l.call) k.copies) k b u g x
  next_cell next (ends_scan o y n) k b u g x =
      let p = more_pairs z l k in
      assumption (k, b, u, g, x, p, All-nil IsPair)
  next_cell next (scans_on q o y n e) k b u g x =
      let p = more_pairs z l k in
      let t : q < rows = subst (IsRowBelow rows) n b.next in
      let zero_key : 0 < KEY_END = omega arith in
      let unbuilt : 0 ≤ z.cells = omega arith in
      assumption (k, b, u, g, x, p, t, zero_key, unbuilt)

  -- a seat that forgets what it knew of a rebalance: it is refused, tries again, or begins one
  is_refusing : (answer : Answer) → IsAnswer answer → IsLocal z l → IsLocalBelow rows l → length l.remembered ≤ z.seats → length l.gathered ≤ z.cells → IsKnown z rows (refused answer l).local
  is_refusing answer y k b m g =
      let o : 0 < rows = omega (arith, sized.some_rows) in
      let zero_key : 0 < KEY_END = omega arith in
      let n = none_ranges z in
      let p = none_below rows o in
      let q = none_room z Activity.Idle (λ t. t) in
      let unbuilt : 0 ≤ z.cells = omega arith in
      assumption (k, b, y, m, g, o, zero_key, unbuilt, n, p, q)

  tries_anew : IsLocal z l → IsLocalBelow rows l → length l.remembered ≤ z.seats → length l.gathered ≤ z.cells → IsKnown z rows (begun_anew l).local
  tries_anew k b m g =
      let o : 0 < rows = omega (arith, sized.some_rows) in
      let zero_key : 0 < KEY_END = omega arith in
      let n = none_ranges z in
      let p = none_below rows o in
      let q = none_room z Activity.Retry (λ t. t) in
      let unbuilt : 0 ≤ z.cells = omega arith in
      assumption (k, b, m, g, o, zero_key, unbuilt, n, p, q)

  is_balancing : IsLocal z l → IsLocalBelow rows l → length l.remembered ≤ z.seats → length l.gathered ≤ z.cells → IsKnown z rows (to_rebalance l).local
  is_balancing k b m g =
      let n = none_ranges z in
      let p = none_below rows (omega (arith, sized.some_rows)) in
      let q = none_room z (Activity.Rebalance (Rebalance.Engage Engage.Clock)) (λ t. t) in
      assumption (k, b, m, g, n, p, q)

  -- so it is where the put is done
  is_tidying : IsLocal z l → IsLocalBelow rows l → length l.remembered ≤ z.seats → length l.gathered ≤ z.cells → IsKnown z rows (to_rebalance (record l { tidies = true })).local
  is_tidying k b m g =
      let n = none_ranges z in
      let p = none_below rows (omega (arith, sized.some_rows)) in
      let q = none_room z (Activity.Rebalance (Rebalance.Engage Engage.Clock)) (λ t. t) in
      assumption (k, b, m, g, n, p, q)

-- What a seat knows that freezes and gathers.

-- one more mark
one_more_mark : (z : Sizes) (b : Rebalancing) (j c version : ℕ) → length b.marks ≤ entries_before z b + j → length (b.marks ++ mark_of c version ∷ []) ≤ entries_before z b + (j + 1)
one_more_mark z b j c version o = omega (arith, length-append b.marks (mark_of c version ∷ []), o)

-- a seat that has frozen all entries
looks_at_scans : (z : Sizes) (rows : ℕ) (l : Local) → IsSized z.seats z.cells rows → IsLocal z l → IsLocalBelow rows l → length l.remembered ≤ z.seats → length l.gathered ≤ z.cells → length l.rebalance.gathered ≤ MOST_GROUP * z.cells → length l.rebalance.marks ≤ MOST_GROUP * z.seats → IsKnown z rows (to_scans l).local
looks_at_scans z rows l sized k b m g x y =
    let never : ⊥ → length l.rebalance.taken < length l.rebalance.starts = λ t. absurd t in
    let o : 0 < z.seats = omega (arith, sized.some_seats) in
    let none : 0 ≤ 0 = omega arith in
    assumption (k, b, m, g, x, y, o, none, never, All-nil IsVersion)

-- one that has frozen the row at hand: the row ahead of it is frozen next
froze_row : (z : Sizes) (rows : ℕ) (l next : Local) → NextFrozen l next → IsSized z.seats z.cells rows → IsLocal z l → IsLocalBelow rows l → length l.remembered ≤ z.seats → length l.gathered ≤ z.cells → length l.rebalance.gathered ≤ MOST_GROUP * z.cells → length l.rebalance.needed ≤ 2 * z.seats → length l.rebalance.marks ≤ MOST_GROUP * z.seats →
    ((r : ℕ) → l.rebalance.ahead ≡ Some r → length l.rebalance.marks ≤ entries_before z (at_last_row r l).rebalance) → IsKnown z rows next
froze_row z rows l next (freezes_ahead r e) sized k b m g x n y ahead =
    let never : ⊥ → length l.rebalance.taken < length l.rebalance.starts = λ t. absurd t in
    let o : r < rows = subst (IsRowBelow rows) e b.rebalance.ahead in
    assumption (k, b, m, g, x, n, o, ahead r e, never)
froze_row z rows l next (froze_all e) sized k b m g x n y ahead = looks_at_scans z rows l sized k b m g x y

froze_last : (z : Sizes) (rows : ℕ) (l next : Local) (j : ℕ) → NextFrozen l next → IsSized z.seats z.cells rows → j < z.seats → IsLocal z l → IsLocalBelow rows l → length l.remembered ≤ z.seats → length l.gathered ≤ z.cells → length l.rebalance.gathered ≤ MOST_GROUP * z.cells → length l.rebalance.needed ≤ 2 * z.seats → length l.rebalance.marks ≤ entries_before z l.rebalance + j → Hand l → l.rebalance.second ≢ Some l.row → IsKnown z rows next
froze_last z rows l next j y sized o k b m g x n q hand apart = froze_row z rows l next y sized k b m g x n (omega (arith, q, o, entries_few z l.rebalance)) (λ r e. entries_ahead z l r _ hand apart e (omega (arith, q, o)))

-- one that has looked at all scans
begins_to_take : (z : Sizes) (rows : ℕ) (l : Local) → IsLocal z l → IsLocalBelow rows l → length l.remembered ≤ z.seats → length l.gathered ≤ z.cells → length l.rebalance.marks ≤ MOST_GROUP * z.seats → length l.rebalance.needed ≤ 2 * z.seats → IsKnown z rows (to_take l).local
begins_to_take z rows l k b m g x y =
    let never : ⊥ → length l.rebalance.taken < length l.rebalance.starts = λ t. absurd t in
    let none : 0 ≤ MOST_GROUP * z.cells = omega arith in
    let start : 0 ≤ z.cells = omega arith in
    assumption (k, b, m, g, x, y, none, start, never, All-nil IsCopy, All-nil (IsPlaced z))

-- one more version is needed
needs : (z : Sizes) (l : Local) (version : ℕ) → IsLocal z l → IsVersion version → All IsVersion (l.rebalance.needed ++ version ∷ [])
needs z l version k u = All-append IsVersion l.rebalance.needed (version ∷ []) k.rebalance.needed (All-cons IsVersion version [] u (All-nil IsVersion))

needs_more : (z : Sizes) (rows : ℕ) (l : Local) (j version : ℕ) → j + 1 < z.seats → IsLocal z l → IsLocalBelow rows l → length l.remembered ≤ z.seats → length l.gathered ≤ z.cells → length l.rebalance.marks ≤ MOST_GROUP * z.seats → length l.rebalance.gathered ≤ MOST_GROUP * z.cells → length l.rebalance.needed ≤ j → IsVersion version →
    IsKnown z rows (record (needing version l) { activity = Activity.Rebalance (Rebalance.Freeze (Freeze.Scan (j + 1))) })
needs_more z rows l j version o k b m g x y n u =
    let never : ⊥ → length l.rebalance.taken < length l.rebalance.starts = λ t. absurd t in
    let p = needs z l version k u in
    let q : length (l.rebalance.needed ++ version ∷ []) ≤ j + 1 = omega (arith, length-append l.rebalance.needed (version ∷ []), n) in
    assumption (k, b, m, g, x, y, p, q, o, never)

needs_last : (z : Sizes) (rows : ℕ) (l : Local) (j version : ℕ) → j < 2 * z.seats → IsLocal z l → IsLocalBelow rows l → length l.remembered ≤ z.seats → length l.gathered ≤ z.cells → length l.rebalance.marks ≤ MOST_GROUP * z.seats → length l.rebalance.needed ≤ j → IsVersion version → IsKnown z rows (to_take (needing version l)).local
needs_last z rows l j version o k b m g x n u =
    let never : ⊥ → length l.rebalance.taken < length l.rebalance.starts = λ t. absurd t in
    let p = needs z l version k u in
    let q : length (l.rebalance.needed ++ version ∷ []) ≤ 2 * z.seats = omega (arith, length-append l.rebalance.needed (version ∷ []), n, o) in
    let none : 0 ≤ MOST_GROUP * z.cells = omega arith in
    let start : 0 ≤ z.cells = omega arith in
    assumption (k, b, m, g, x, p, q, none, start, never, All-nil IsCopy, All-nil (IsPlaced z))

-- one that looks at the pins: a pin that stands is needed
pin_known : (z : Sizes) (rows : ℕ) (v : Words) (i : ℕ) (l next : Local) → NextPinLook z i (v (name.Pin i)) l next → IsKnownAt z rows (Activity.Rebalance (Rebalance.Freeze (Freeze.Pin i))) l → IsKnown z rows next
pin_known z rows v i l next (sees_pin version e o) k =
    let never : ⊥ → length l.rebalance.taken < length l.rebalance.starts = λ t. absurd t in
    let p = needs z l version k.ranges (IsScan-scan_of (v (name.Pin i)) (scan.Drawn version) e) in
    let q : length (l.rebalance.needed ++ version ∷ []) ≤ z.seats + (i + 1) = omega (arith, length-append l.rebalance.needed (version ∷ []), k.rebalance.needed) in
    assumption (k, p, q, o, never)
pin_known z rows v i l next (sees_pin_last version e o) k = needs_last z rows l (z.seats + i) version (omega (arith, k.activity)) k.ranges k.below k.remembered k.gathered k.rebalance.marks k.rebalance.needed (IsScan-scan_of (v (name.Pin i)) (scan.Drawn version) e)
pin_known z rows v i l next (sees_no_pin d o) k = let n : length l.rebalance.needed ≤ z.seats + (i + 1) = omega (arith, k.rebalance.needed) in assumption (k, n, o)
pin_known z rows v i l next (sees_no_pin_last d o) k = begins_to_take z rows l k.ranges k.below k.remembered k.gathered k.rebalance.marks (omega (arith, k.rebalance.needed, k.activity))

-- a remembered cell is read
left_known : (z : Sizes) (rows : ℕ) (l : Local) (m : Mark) → least_mark l.rebalance.marks ≡ Some m → IsLocal z l → IsLocalBelow rows l → length l.remembered ≤ z.seats → length l.gathered ≤ z.cells → HasRebalanceRoom z (Activity.Rebalance (Rebalance.Gather Gather.Link)) l.rebalance →
    IsKnown z rows (record (leaving_over z m l) { activity = Activity.Rebalance (Rebalance.Gather Gather.LeftOverKey) })
left_known z rows l m o k b u g x =
    let f = least_holds (IsGroupMark z) l.rebalance.marks m o k.rebalance.marks in
    let c = cell_few z m.cell f.0 in
    let marks = unmarked_in_range (IsGroupMark z) m.cell l.rebalance.marks k.rebalance.marks in
    let few : length (unmarked m.cell l.rebalance.marks) ≤ MOST_GROUP * z.seats = omega (arith, unmarked_few m.cell l.rebalance.marks, x.marks) in
    assumption (k, b, f, c, marks, few, u, g, x)

-- a cell is gathered for the new rows
kept_more : (z : Sizes) (value : Option ℕ) (l : Local) → IsValue value → IsLocal z l → length l.rebalance.gathered ≤ MOST_GROUP * z.cells → IsLocal z (keeping z value l) × (length (keeping z value l).rebalance.gathered ≤ MOST_GROUP * z.cells)
kept_more z value l u k n = (
  let a = more IsCopy (k.place_key, k.place_version, u) k.rebalance.gathered (nat_lt (length l.rebalance.gathered) (MOST_GROUP * z.cells)) in
      let p = more (IsPlaced z) (place_few z l.rebalance l.place k.place) k.rebalance.placed (nat_lt (length l.rebalance.gathered) (MOST_GROUP * z.cells)) in
      assumption (k, a, p),
  few (nat_lt (length l.rebalance.gathered) (MOST_GROUP * z.cells)) refl,
)
  where
    more : (P : kw_cell.Cell → Type 0) → P (cell_of_group z value l) → All P l.rebalance.gathered → (b : Bool) → All P (if b then with_cell (cell_of_group z value l) l.rebalance.gathered else l.rebalance.gathered)
    more P p g true = with_cell_in_range P (cell_of_group z value l) l.rebalance.gathered p g
    more P p g false = g

    few : (b : Bool) → nat_lt (length l.rebalance.gathered) (MOST_GROUP * z.cells) ≡ b → length (if b then with_cell (cell_of_group z value l) l.rebalance.gathered else l.rebalance.gathered) ≤ MOST_GROUP * z.cells
    few true e = let w : length l.rebalance.gathered < MOST_GROUP * z.cells = below _ _ e in omega (arith, w, length-with_cell (cell_of_group z value l) l.rebalance.gathered)
    few false e = n

-- the row to which a link leads is one of the table
row_below : (rows : ℕ) (link : Option Link) → IsLinkBelow rows link → IsRowBelow rows (row_linked link)
row_below rows (Some link) b = b
row_below rows None b = tt

-- a row that is known, or the first one
before_below : (rows : ℕ) (before : Option ℕ) → 0 < rows → IsRowBelow rows before → row_or_first before < rows
before_below rows (Some p) o b = b
before_below rows None o b = o

-- the row after the full one is one of the table, as the first row is
after_below : (rows : ℕ) (l : Local) → 0 < rows → IsLocalBelow rows l → row_after l < rows
after_below rows l o b = before_below rows l.rebalance.after o b.rebalance.after

-- a seat that knows the row after its own
follows_known : (z : Sizes) (rows : ℕ) (after : Option ℕ) (l : Local) → IsRowBelow rows after → IsLocal z l → IsLocalBelow rows l → IsLocal z (followed_by after l) × IsLocalBelow rows (followed_by after l)
follows_known z rows after l o k b = (assumption k, assumption (b, o))

-- the rows of its group are known, and the first one is at hand
to_group_known : (z : Sizes) (rows : ℕ) (l : Local) → IsLocal z l → IsLocalBelow rows l → length l.remembered ≤ z.seats → length l.gathered ≤ z.cells → length l.rebalance.needed ≤ 2 * z.seats → length l.rebalance.gathered ≤ MOST_GROUP * z.cells → IsKnown z rows (to_group l).local
to_group_known z rows l k b m g n x =
    let never : ⊥ → length l.rebalance.taken < length l.rebalance.starts = λ t. absurd t in
    let none : 0 ≤ entries_before z (to_group l).local.rebalance = omega arith in
    assumption (k, b, m, g, n, x, none, never, All-nil (IsGroupMark z))

-- it is known how many rows go: the next one is claimed, or the full row goes alone
counted_known : (z : Sizes) (rows count : ℕ) (l next : Local) → NextCounted count l next → IsLocal z l → IsLocalBelow rows l → length l.remembered ≤ z.seats → length l.gathered ≤ z.cells → length l.rebalance.marks ≤ MOST_GROUP * z.seats → length l.rebalance.needed ≤ 2 * z.seats → length l.rebalance.gathered ≤ MOST_GROUP * z.cells → IsKnown z rows next
counted_known z rows count l next (claims_row q two e) k b m g s n x =
    let never : ⊥ → length l.rebalance.taken < length l.rebalance.starts = λ t. absurd t in
    assumption (k, b, m, g, s, n, x, never)
counted_known z rows count l next (goes_alone d) k b m g s n x = to_group_known z rows l k b m g n x

-- What a seat knows that takes, writes and links new rows.

-- the row that is asked is one of the table, and no more than all were asked
pub record IsSoughtIn (rows : ℕ) (l : Local) : Type 0 where
  pub sought : l.rebalance.sought < rows
  pub asked : l.rebalance.asked ≤ rows

-- a new row has no more cells than a row
new_rows_fit : (z : Sizes) (gathered : List Cell) (needed : List ℕ) → 2 * z.seats < z.built → z.built ≤ z.cells → length needed ≤ 2 * z.seats → (n : ℕ) → n ≤ length (starts_of z.built (kept_of gathered needed)) - 1 →
    length (take (end_of (kept_of gathered needed) (starts_of z.built (kept_of gathered needed)) n - slice_index (starts_of z.built (kept_of gathered needed)) n) (drop (slice_index (starts_of z.built (kept_of gathered needed)) n) (kept_of gathered needed))) ≤ z.cells
new_rows_fit z gathered needed b f m n o =
    let kept = kept_of gathered needed in
    let starts = starts_of z.built kept in
    let few : HasFew z.built kept = few_within (length needed + 1) z.built kept (omega (arith, b, m)) (few_of_kept gathered needed) in
    let cut = (are_cuts z.built kept (kept_of-rising gathered needed) few).most n (omega (arith, o, starts_some z.built kept)) in
    omega (arith, cut, f, length-take (end_of kept starts n - slice_index starts n) (drop (slice_index starts n) kept))

-- all cells are gathered, and the search for new rows begins
seeks_rows : (z : Sizes) (rows : ℕ) (l : Local) → 2 * z.seats < z.built → z.built ≤ z.cells → IsSized z.seats z.cells rows → IsLocal z l → IsLocalBelow rows l → length l.remembered ≤ z.seats → length l.gathered ≤ z.cells → length l.rebalance.marks ≤ MOST_GROUP * z.seats → length l.rebalance.needed ≤ 2 * z.seats → length l.rebalance.gathered ≤ MOST_GROUP * z.cells →
    IsKnown z rows (record (planned z l) { activity = Activity.Rebalance (Rebalance.Seek Seek.First) })
seeks_rows z rows l built fits sized k b m g x y n =
    let kept : All IsCopy (kept_of l.rebalance.gathered l.rebalance.needed) = kept_of-all IsCopy l.rebalance.gathered l.rebalance.needed k.rebalance.gathered in
    let places : All (IsPlaced z) (kept_of l.rebalance.gathered l.rebalance.needed) = kept_of-all (IsPlaced z) l.rebalance.gathered l.rebalance.needed k.rebalance.placed in
    let few : length (kept_of l.rebalance.gathered l.rebalance.needed) ≤ MOST_GROUP * z.cells = omega (arith, n, kept_of-length l.rebalance.gathered l.rebalance.needed) in
    let none : 0 ≤ 0 = omega arith in
    let first : 0 < rows = omega (arith, sized.some_rows) in
    let one : 1 ≤ rows = sized.some_rows in
    let some : Unit {0} → 0 < length (starts_of z.built (kept_of l.rebalance.gathered l.rebalance.needed)) = λ t. starts_some z.built (kept_of l.rebalance.gathered l.rebalance.needed) in
    let rows_fit = new_rows_fit z l.rebalance.gathered l.rebalance.needed built fits y in
    let untaken : 0 ≤ length (starts_of z.built (kept_of l.rebalance.gathered l.rebalance.needed)) = omega arith in
    let first_taken : 0 ≤ 0 - 1 = omega arith in
    assumption (k, b, m, g, x, y, n, kept, places, few, rows_fit, untaken, first_taken, none, first, one, some, All-nil (λ (r : ℕ). r < rows))

-- the row at hand is gathered: the row ahead of it is gathered next, or the plan is made
row_gathered : (z : Sizes) (rows : ℕ) (l next : Local) → NextGathered z l next → 2 * z.seats < z.built → z.built ≤ z.cells → IsSized z.seats z.cells rows → IsLocal z l → IsLocalBelow rows l → length l.remembered ≤ z.seats → length l.gathered ≤ z.cells → length l.rebalance.marks ≤ MOST_GROUP * z.seats → length l.rebalance.needed ≤ 2 * z.seats → length l.rebalance.gathered ≤ MOST_GROUP * z.cells → IsKnown z rows next
row_gathered z rows l next (gathers_ahead r e) built fits sized k b m g x y n =
    let never : ⊥ → length l.rebalance.taken < length l.rebalance.starts = λ t. absurd t in
    let o : r < rows = subst (IsRowBelow rows) e b.rebalance.ahead in
    let none : 0 ≤ z.cells = omega arith in
    assumption (k, b, m, g, x, y, n, o, none, never)
row_gathered z rows l next (gathered_all e) built fits sized k b m g x y n = seeks_rows z rows l built fits sized k b m g x y n

-- a seat that may take one more row has lists as another has
idle_room : (z : Sizes) (b : Rebalancing) → length b.marks ≤ MOST_GROUP * z.seats → length b.needed ≤ 2 * z.seats → length b.gathered ≤ MOST_GROUP * z.cells → HasRebalanceRoom z Activity.Idle b
idle_room z b m n g = record { marks = m; needed = n; gathered = g; taken = λ t. absurd t }

-- a group has a row, or two
counted_few : (b : Bool) → (if b then MOST_GROUP else 1) ≤ MOST_GROUP
counted_few true = omega arith
counted_few false = omega arith

-- a row that is guessed, or was asked before
chosen_below : (rows : ℕ) (choice : Choice) (q r : ℕ) → IsOffered rows choice → r < rows → (choice ≡ Guess q) ⊎ (q ≡ r) → q < rows
chosen_below rows choice q r i o (inl e) = subst (IsOffered rows) e i
chosen_below rows choice q r i o (inr e) = omega (arith, o, e)

module _ (z : Sizes) (rows : ℕ) (sized : IsSized z.seats z.cells rows) where
  -- nothing is taken any more
  given_known : (a : Afterwards) (l next : Local) → GivenBack l a next → IsLocal z l → IsLocalBelow rows l → length l.remembered ≤ z.seats → length l.gathered ≤ z.cells → IsKnown z rows next
  given_known a l next (following.tries_again nd) k b m g = tries_anew z rows l sized k b m g
  given_known a l next (following.was_done dn) k b m g = is_refusing z rows l sized Done tt k b m g
  given_known a l next (is_refused_rows nd) k b m g = is_refusing z rows l sized NoRows tt k b m g
  given_known a l next (was_served dn) k b m g = is_refusing z rows l sized Done tt k b m g
  given_known a l next moves_left k b m g =
      let o : row_or_first l.rebalance.before < rows = before_below rows l.rebalance.before (omega (arith, sized.some_rows)) b.rebalance.before in
      is_balancing z rows (moved_left l) sized (assumption k) (assumption (b, o)) m g

  back_known : (a : Afterwards) (l next : Local) → NextBack a l next → IsLocal z l → IsLocalBelow rows l → length l.remembered ≤ z.seats → length l.gathered ≤ z.cells → HasLists z l → IsKnown z rows next
  back_known a l next (gives_back o) k b m g n = let first : 0 ≤ length l.rebalance.taken - 1 = omega arith in assumption (k, b, m, g, n, first)
  back_known a l next (has_none other o y) k b m g n = given_known a l next y k b m g

  -- the next row is asked
  seek_known : (r : ℕ) (l next : Local) → NextSeek r l next → IsSoughtIn rows next → IsLocal z l → IsLocalBelow rows l → length l.remembered ≤ z.seats → length l.gathered ≤ z.cells → HasLists z l → length l.rebalance.taken < length l.rebalance.starts → IsKnown z rows next
  seek_known r l next (asks o) s k b m g n t = let room : Unit {0} → length l.rebalance.taken < length l.rebalance.starts = λ y. t in assumption (k, b, m, g, n, s, room)
  seek_known r l next (has_asked other o y) s k b m g n t = back_known _ l next y k b m g n

  -- a row is taken
  with_fits : (l : Local) → IsLocal z l → l.rebalance.at ≤ length (l.rebalance.taken ++ l.rebalance.sought ∷ []) - 1
  with_fits l k = omega (arith, k.rebalance.at, length-append l.rebalance.taken (l.rebalance.sought ∷ []))

  with_enough : (l : Local) → length l.rebalance.taken < length l.rebalance.starts → length (l.rebalance.taken ++ l.rebalance.sought ∷ []) ≤ length l.rebalance.starts
  with_enough l o = omega (arith, o, length-append l.rebalance.taken (l.rebalance.sought ∷ []))

  with_below : (l : Local) → IsLocalBelow rows l → All (λ r. r < rows) (l.rebalance.taken ++ l.rebalance.sought ∷ [])
  with_below l b = All-append (λ r. r < rows) l.rebalance.taken (l.rebalance.sought ∷ []) b.rebalance.taken (All-cons (λ r. r < rows) l.rebalance.sought [] b.rebalance.sought (All-nil (λ r. r < rows)))

  taken_known : (r : ℕ) (l next : Local) → NextTaken r (with_row l) next → IsSoughtIn rows next → IsLocal z l → IsLocalBelow rows l → length l.remembered ≤ z.seats → length l.gathered ≤ z.cells → HasLists z l → length l.rebalance.taken < length l.rebalance.starts → IsKnown z rows next
  taken_known r l next (wants_more other o x) s k b m g n t = seek_known r (with_row l) next x s (assumption (k, with_fits l k, with_enough l t)) (assumption (b, with_below l b)) m g (idle_room z (with_row l).rebalance n.marks n.needed n.gathered) o
  taken_known r l next (has_enough o) s k b m g n t = let first : 0 ≤ length (l.rebalance.taken ++ l.rebalance.sought ∷ []) - 1 = omega arith in let enough = with_enough l t in let never : ⊥ → length (l.rebalance.taken ++ l.rebalance.sought ∷ []) < length l.rebalance.starts = λ t. absurd t in let all = with_below l b in assumption (k, b, m, g, n, all, first, enough, never)

  -- the next row, cell or entry is written
  row_known : (l next : Local) → NextNewRow l next → IsLocal z l → IsLocalBelow rows l → length l.remembered ≤ z.seats → length l.gathered ≤ z.cells → HasLists z l → IsKnown z rows next
  row_known l next (writes_row o) k b m g n = let i : l.rebalance.at + 1 ≤ length l.rebalance.taken - 1 = omega (arith, o) in assumption (k, b, m, g, n, i)
  row_known l next (has_written o) k b m g n = assumption (k, b, m, g, n)

  cell_known : (j : ℕ) (l next : Local) → NextNewCell z j l next → IsLocal z l → IsLocalBelow rows l → length l.remembered ≤ z.seats → length l.gathered ≤ z.cells → HasLists z l → IsKnown z rows next
  cell_known j l next (fills o p) k b m g n = assumption (k, b, m, g, n, o)
  cell_known j l next (empties o p) k b m g n = assumption (k, b, m, g, n, o)
  cell_known j l next (has_cells other o y) k b m g n = row_known l next y k b m g n

  entry_known : (j : ℕ) (l next : Local) → NextNewEntry z j l next → IsLocal z l → IsLocalBelow rows l → length l.remembered ≤ z.seats → length l.gathered ≤ z.cells → HasLists z l → IsKnown z rows next
  entry_known j l next (writes_idle o) k b m g n = assumption (k, b, m, g, n, o)
  entry_known j l next (has_entries other o y) k b m g n = cell_known 0 l next y k b m g n

  -- the walk to the row before the full one begins
  before_known : (r : ℕ) (l next : Local) → NextBefore r l next → r < rows → IsLocal z l → IsLocalBelow rows l → length l.remembered ≤ z.seats → length l.gathered ≤ z.cells → HasLists z l → IsKnown z rows next
  before_known r l next (is_first e) o k b m g n = let zero_key : 0 < KEY_END = omega arith in assumption (k, b, m, g, n, zero_key)
  before_known r l next (is_behind d) o k b m g n = let zero_key : 0 < KEY_END = omega arith in assumption (k, b, m, g, n, zero_key, o)

-- by each of these events
built_known : (z : Sizes) (rows : ℕ) (v : Words) (choice : Choice) (l : Local) (a : Activity) (next : Local) → AreSane z rows v → row_or_first (row_linked (link_of (v name.Head))) < rows → IsOffered rows choice → IsKnownAt z rows a l → Building z v choice l a next → IsSoughtIn rows next → IsKnown z rows next
built_known z rows v choice l a next w c i k (first_is_free q e f) s = assumption (k, s)
built_known z rows v choice l a next w c i k (first_is_taken q r other e d y) s =
    let o : q < rows = chosen_below rows choice q l.rebalance.sought i k.below.rebalance.sought e in
    seek_known z rows w.sized r (seeking q l) next y s (assumption k.ranges) (assumption (k.below, o)) k.remembered k.gathered (idle_room z (seeking q l).rebalance k.rebalance.marks k.rebalance.needed k.rebalance.gathered) (k.rebalance.taken tt)
built_known z rows v choice l a next w c i k (sought_is_free e) s = assumption (k, s)
built_known z rows v choice l a next w c i k (sought_is_taken r other d y) s = seek_known z rows w.sized r l next y s k.ranges k.below k.remembered k.gathered (idle_room z l.rebalance k.rebalance.marks k.rebalance.needed k.rebalance.gathered) (k.rebalance.taken tt)
built_known z rows v choice l a next w c i k (first_is_retired q m e f) s =
    let o : q < rows = chosen_below rows choice q l.rebalance.sought i k.below.rebalance.sought e in
    let n : IsNumber m = subst (IsRowState z) f (w.each (name.State q) o) in
    let p : 0 < z.seats = omega (arith, w.sized.some_seats) in
    assumption (k, s, n, p)
built_known z rows v choice l a next w c i k (sought_is_retired m f) s =
    let n : IsNumber m = subst (IsRowState z) f (w.each (name.State l.rebalance.sought) k.below.rebalance.sought) in
    let p : 0 < z.seats = omega (arith, w.sized.some_seats) in
    assumption (k, s, n, p)
built_known z rows v choice l a next w c i k (pass_is_old j epoch r other e o y) s = seek_known z rows w.sized r l next y s k.ranges k.below k.remembered k.gathered (idle_room z l.rebalance k.rebalance.marks k.rebalance.needed k.rebalance.gathered) (k.rebalance.taken tt)
built_known z rows v choice l a next w c i k (pass_is_young j other y (looks_on o)) s = assumption (k, s, o)
built_known z rows v choice l a next w c i k (pass_is_young j other y (has_looked o)) s = assumption (k, s)
built_known z rows v choice l a next w c i k frees_row s = assumption (k, s)
built_known z rows v choice l a next w c i k (takes_row r other e y) s = taken_known z rows w.sized r l next y s k.ranges k.below k.remembered k.gathered (idle_room z l.rebalance k.rebalance.marks k.rebalance.needed k.rebalance.gathered) (k.rebalance.taken tt)
built_known z rows v choice l a next w c i k (loses_row r other d y) s = seek_known z rows w.sized r l next y s k.ranges k.below k.remembered k.gathered (idle_room z l.rebalance k.rebalance.marks k.rebalance.needed k.rebalance.gathered) (k.rebalance.taken tt)
built_known z rows v choice l a next w c i k (gives_one_back o) s = let n : l.rebalance.at + 1 ≤ length l.rebalance.taken - 1 = omega (arith, o) in assumption (k, n)
built_known z rows v choice l a next w c i k (gives_last_back other o y) s = given_known z rows w.sized _ l next y k.ranges k.below k.remembered k.gathered
built_known z rows v choice l a next w c i k writes_count s = assumption k
built_known z rows v choice l a next w c i k writes_least s = assumption k
built_known z rows v choice l a next w c i k writes_link s = assumption k
built_known z rows v choice l a next w c i k (writes_first other y) s = entry_known z rows w.sized 0 l next y k.ranges k.below k.remembered k.gathered (idle_room z l.rebalance k.rebalance.marks k.rebalance.needed k.rebalance.gathered)
built_known z rows v choice l a next w c i k (writes_entry j other y) s = entry_known z rows w.sized _ l next y k.ranges k.below k.remembered k.gathered (idle_room z l.rebalance k.rebalance.marks k.rebalance.needed k.rebalance.gathered)
built_known z rows v choice l a next w c i k (writes_key j) s = assumption k
built_known z rows v choice l a next w c i k (writes_value j) s = assumption k
built_known z rows v choice l a next w c i k (writes_version j o) s = assumption k
built_known z rows v choice l a next w c i k (writes_no_cell j other o y) s = cell_known z rows w.sized _ l next y k.ranges k.below k.remembered k.gathered (idle_room z l.rebalance k.rebalance.marks k.rebalance.needed k.rebalance.gathered)
built_known z rows v choice l a next w c i k (writes_after j other y) s = cell_known z rows w.sized _ l next y k.ranges k.below k.remembered k.gathered (idle_room z l.rebalance k.rebalance.marks k.rebalance.needed k.rebalance.gathered)
built_known z rows v choice l a next w c i k (begins_before other y) s = before_known z rows w.sized _ l next y c k.ranges k.below k.remembered k.gathered (idle_room z l.rebalance k.rebalance.marks k.rebalance.needed k.rebalance.gathered)
built_known z rows v choice l a next w c i k (guesses_before q e f) s = let o : q < rows = subst (IsOffered rows) e i in assumption (k, o)
built_known z rows v choice l a next w c i k guess_before_fails s = assumption k
built_known z rows v choice l a next w c i k (before_serves o) s = let u = key_of_word-below (v (name.Least (row_or_first l.rebalance.before))) in assumption (k, u)
built_known z rows v choice l a next w c i k (before_is_above o) s = assumption k
built_known z rows v choice l a next w c i k (takes_head_before other y) s = before_known z rows w.sized _ l next y c k.ranges k.below k.remembered k.gathered (idle_room z l.rebalance k.rebalance.marks k.rebalance.needed k.rebalance.gathered)
built_known z rows v choice l a next w c i k (leads_to_full e) s = assumption k
built_known z rows v choice l a next w c i k (leads_on_marked other e y) s = back_known z rows w.sized _ l next y k.ranges k.below k.remembered k.gathered (idle_room z l.rebalance k.rebalance.marks k.rebalance.needed k.rebalance.gathered)
built_known z rows v choice l a next w c i k (leads_to_other q e d) s =
    let o : row_or_first l.rebalance.before < rows = before_below rows l.rebalance.before (omega (arith, w.sized.some_rows)) k.below.rebalance.before in
    let u = linked_in_range rows q (link_of (v (name.Next (row_or_first l.rebalance.before)))) (w.led (name.Next (row_or_first l.rebalance.before)) o) e in
    assumption (k, u)
built_known z rows v choice l a next w c i k (leads_nowhere other e y) s = back_known z rows w.sized _ l next y k.ranges k.below k.remembered k.gathered (idle_room z l.rebalance k.rebalance.marks k.rebalance.needed k.rebalance.gathered)
built_known z rows v choice l a next w c i k (walks_before o) s = let u = key_of_word-below (v (name.Least l.candidate)) in assumption (k, u)
built_known z rows v choice l a next w c i k (walks_past other o y) s = back_known z rows w.sized _ l next y k.ranges k.below k.remembered k.gathered (idle_room z l.rebalance k.rebalance.marks k.rebalance.needed k.rebalance.gathered)
built_known z rows v choice l a next w c i k (replaces_row e) s = let first : 0 ≤ length l.rebalance.taken - 1 = omega arith in assumption (k, first)
built_known z rows v choice l a next w c i k (is_marked_before other e y) s = back_known z rows w.sized _ l next y k.ranges k.below k.remembered k.gathered (idle_room z l.rebalance k.rebalance.marks k.rebalance.needed k.rebalance.gathered)
built_known z rows v choice l a next w c i k (is_replaced other d y) s = back_known z rows w.sized _ l next y k.ranges k.below k.remembered k.gathered (idle_room z l.rebalance k.rebalance.marks k.rebalance.needed k.rebalance.gathered)
built_known z rows v choice l a next w c i k (makes_normal o) s = let n : l.rebalance.at + 1 ≤ length l.rebalance.taken - 1 = omega (arith, o) in assumption (k, n)
built_known z rows v choice l a next w c i k (makes_last_normal o) s = assumption k
built_known z rows v choice l a next w c i k draws_number s = let y = w.each name.Epoch tt in assumption (k, y)
built_known z rows v choice l a next w c i k (retires_ahead r e) s = let o : r < rows = subst (IsRowBelow rows) e k.below.rebalance.ahead in assumption (k, o)
built_known z rows v choice l a next w c i k (retires_row n nd) s = tries_anew z rows l w.sized k.ranges k.below k.remembered k.gathered
built_known z rows v choice l a next w c i k (retires_and_leaves n dn) s = is_refusing z rows l w.sized Done tt k.ranges k.below k.remembered k.gathered

-- by the arrow that the seat takes
pub known_by : (z : Sizes) (rows : ℕ) (v : Words) (s : ℕ) (choice : Choice) (l : Local) (a : Activity) (l' : Local) → Arrow z v s choice l a l' → AreSane z rows v → row_or_first (row_linked (link_of (v name.Head))) < rows → s < z.seats → IsBegun a choice → IsOffered rows choice → IsKnownAt z rows a l → (IsBuilding a → IsSoughtIn rows l') → IsKnown z rows l'
known_by z rows v s choice l a l' (builds x next y t) w c u b i k sought = built_known z rows v choice l x next w c i k t (sought y)
known_by z rows v s choice l a l' (begins call e g) w c t b i k sought = let y = w.each name.Epoch tt in assumption (k, y, g)
known_by z rows v s choice l a l' (enters y) w c t b i k sought = let f = first_in_range l.call k.ranges.call in assumption (k, f)
known_by z rows v s choice l a l' (is_spent y) w c t b i k sought = is_leaving z rows l w.sized _ tt k.ranges k.below k.remembered k.gathered (lists_of z _ l.rebalance k.activity k.rebalance)
known_by z rows v s choice l a l' (waits y) w c t b i k sought = let u = w.each name.Clock tt in assumption (k, u)
known_by z rows v s choice l a l' draws w c t b i k sought = let u = w.each name.Clock tt in assumption (k, u)
known_by z rows v s choice l a l' (settles_empty y) w c t b i k sought = let u = version_of_scan (v (name.Scan s)) l.drawn k.ranges.drawn in assumption (k, u)
known_by z rows v s choice l a l' (settles y) w c t b i k sought = let u = version_of_scan (v (name.Scan s)) l.drawn k.ranges.drawn in let f = first_in_range l.call k.ranges.call in assumption (k, u, f)
known_by z rows v s choice l a l' (asks_of_pin next y n) w c t b i k sought = asks_of_none l.call k.ranges.call y
known_by z rows v s choice l a l' (settles_pin y) w c t b i k sought = let u = version_of_scan (v (name.Scan s)) l.drawn k.ranges.drawn in assumption (k, u)
known_by z rows v s choice l a l' stores_pin w c t b i k sought = let u : IsPinned (Some l.version) = k.ranges.version in let d : IsAnswer Done = tt in assumption (k, u, d)
known_by z rows v s choice l a l' starts_at_head w c t b i k sought = takes_first z rows l w.sized v c k.ranges k.below k.remembered k.gathered (lists_of z _ l.rebalance k.activity k.rebalance)
known_by z rows v s choice l a l' (guesses q y n) w c t b i k sought = let o : q < rows = subst (IsOffered rows) y i in assumption (k, o)
known_by z rows v s choice l a l' takes_head w c t b i k sought = takes_first z rows l w.sized v c k.ranges k.below k.remembered k.gathered (lists_of z _ l.rebalance k.activity k.rebalance)
known_by z rows v s choice l a l' (guess_serves o) w c t b i k sought = let u = key_of_word-below (v (name.Least l.row)) in let f : built_in v l.row ≤ z.cells = w.each (name.Least l.row) k.below.row in assumption (k, u, f)
known_by z rows v s choice l a l' (stops y) w c t b i k sought = is_leaving z rows l w.sized _ tt k.ranges k.below k.remembered k.gathered (lists_of z _ l.rebalance k.activity k.rebalance)
known_by z rows v s choice l a l' (puts_in_last y n) w c t b i k sought = puts_last z rows l w.sized k
known_by z rows v s choice l a l' (reads_last y n) w c t b i k sought = comes_last z rows l w.sized k
known_by z rows v s choice l a l' (reaches_next q n) w c t b i k sought = let o = linked_in_range rows q (link_of (v (name.Next l.row))) (w.led (name.Next l.row) k.below.row) n in assumption (k, o)
known_by z rows v s choice l a l' (walks_on o) w c t b i k sought = let u = key_of_word-below (v (name.Least l.candidate)) in let f : built_in v l.candidate ≤ z.cells = w.each (name.Least l.candidate) k.below.candidate in assumption (k, u, f)
known_by z rows v s choice l a l' (puts_before y o) w c t b i k sought = let u = key_of_word-below (v (name.Least l.candidate)) in assumption (k, u)
known_by z rows v s choice l a l' (reads_before y o) w c t b i k sought = comes_before z rows l w.sized (key_of_word (v (name.Least l.candidate))) (key_of_word-below (v (name.Least l.candidate))) k
known_by z rows v s choice l a l' (sees_pending j x y) w c t b i k sought = let u : x < z.cells = entry z rows v l.row w j (pend.Pending x) k.below.row k.activity y in assumption (k, u)
known_by z rows v s choice l a l' (sees_stamped j x version next y n) w c t b i k sought = let u = entry z rows v l.row w j (pend.Stamped x version) k.below.row k.activity y in look_marks z rows l w.sized j x version next n k.ranges k.below k.remembered k.activity k.gathered (lists_of z _ l.rebalance k.activity k.rebalance) u.0 u.1
known_by z rows v s choice l a l' (sees_neither j next y n) w c t b i k sought = next_look z rows l w.sized (j + 1) next n k.ranges k.below (omega (arith, k.remembered)) (omega (arith, k.remembered, k.activity)) k.gathered (lists_of z _ l.rebalance k.activity k.rebalance)
known_by z rows v s choice l a l' (is_gone_by next y n) w c t b i k sought = next_look z rows l w.sized (l.looked + 1) next n k.ranges k.below (omega (arith, k.remembered)) (omega (arith, k.remembered, k.ranges.looked)) k.gathered (lists_of z _ l.rebalance k.activity k.rebalance)
known_by z rows v s choice l a l' loads_to_help w c t b i k sought = let u = w.each name.Clock tt in assumption (k, u)
known_by z rows v s choice l a l' (helps next y n) w c t b i k sought = look_marks z rows l w.sized l.looked l.saw l.helping next n k.ranges k.below k.remembered k.ranges.looked k.gathered (lists_of z _ l.rebalance k.activity k.rebalance) k.ranges.saw k.ranges.helping
known_by z rows v s choice l a l' (finds_stamped x version next y n) w c t b i k sought = let u = entry z rows v l.row w l.looked (pend.Stamped x version) k.below.row k.ranges.looked y in look_marks z rows l w.sized l.looked x version next n k.ranges k.below k.remembered k.ranges.looked k.gathered (lists_of z _ l.rebalance k.activity k.rebalance) u.0 u.1
known_by z rows v s choice l a l' (finds_other next y n) w c t b i k sought = next_look z rows l w.sized (l.looked + 1) next n k.ranges k.below (omega (arith, k.remembered)) (omega (arith, k.remembered, k.ranges.looked)) k.gathered (lists_of z _ l.rebalance k.activity k.rebalance)
known_by z rows v s choice l a l' (first_leads x y) w c t b i k sought =
    let u : x < z.cells = linked_below (v (link_name l.row l.link)) x z.cells y (link_below z rows v w l.row l.link k.ranges.link k.below.row) in
    let o = min-le_right (l.walked + 1) z.cells in
    let marks = unmarked_in_range (IsMark z) x l.remembered k.ranges.marks in
    let few : length (unmarked x l.remembered) ≤ z.seats = omega (arith, unmarked_few x l.remembered, k.remembered) in
    assumption (k, u, o, marks, few)
known_by z rows v s choice l a l' (list_leads x y) w c t b i k sought =
    let u : x < z.cells = linked_below (v (link_name l.row l.link)) x z.cells y (link_below z rows v w l.row l.link k.ranges.link k.below.row) in
    let o = min-le_right (l.walked + 1) z.cells in
    let marks = unmarked_in_range (IsMark z) x l.remembered k.ranges.marks in
    let few : length (unmarked x l.remembered) ≤ z.seats = omega (arith, unmarked_few x l.remembered, k.remembered) in
    assumption (k, u, o, marks, few)
known_by z rows v s choice l a l' (first_ends next y n) w c t b i k sought = next_cell z rows l w.sized next n k.ranges k.below k.remembered k.gathered (lists_of z _ l.rebalance k.activity k.rebalance)
known_by z rows v s choice l a l' (list_ends next y n) w c t b i k sought = next_cell z rows l w.sized next n k.ranges k.below k.remembered k.gathered (lists_of z _ l.rebalance k.activity k.rebalance)
known_by z rows v s choice l a l' (begins_behind guess inside y) w c t b i k sought = let o : guess < z.cells = omega (arith, inside, k.ranges.built) in assumption (k, o)
known_by z rows v s choice l a l' (begins_at_first guess y) w c t b i k sought = assumption k
known_by z rows v s choice l a l' (key_below y) w c t b i k sought = assumption k
known_by z rows v s choice l a l' (key_within y o) w c t b i k sought = let u = key_of_word-below (v (name.Key l.row l.place)) in assumption (k, u)
known_by z rows v s choice l a l' (key_above next y n) w c t b i k sought = next_cell z rows l w.sized next n k.ranges k.below k.remembered k.gathered (lists_of z _ l.rebalance k.activity k.rebalance)
known_by z rows v s choice l a l' loads_version w c t b i k sought = let u = version_in_hand (v (name.Version l.row l.place)) (w.each (name.Version l.row l.place) (k.below.row, k.ranges.place)) in assumption (k, u)
known_by z rows v s choice l a l' gathers_listed w c t b i k sought =
    let u = value_in_range (v (name.Value l.row l.place)) (w.each (name.Value l.row l.place) (k.below.row, k.ranges.place)) in
    let m = gathered_more z (value_of_word (v (name.Value l.row l.place))) l u k.ranges in
    let g = gathered_few z (value_of_word (v (name.Value l.row l.place))) l k.gathered in
    assumption (k, m, g)
known_by z rows v s choice l a l' (left_over_wanted y) w c t b i k sought = let u = key_of_word-below (v (name.Key l.row l.place)) in assumption (k, u)
known_by z rows v s choice l a l' (left_over_gone_by next y n) w c t b i k sought = next_cell z rows l w.sized next n k.ranges k.below k.remembered k.gathered (lists_of z _ l.rebalance k.activity k.rebalance)
known_by z rows v s choice l a l' (gathers_left_over next n) w c t b i k sought =
    let u = value_in_range (v (name.Value l.row l.place)) (w.each (name.Value l.row l.place) (k.below.row, k.ranges.place)) in
    next_cell z rows (gathering z (value_of_word (v (name.Value l.row l.place))) l) w.sized next n (gathered_more z _ l u k.ranges) (assumption k) k.remembered (gathered_few z (value_of_word (v (name.Value l.row l.place))) l k.gathered) (lists_of z _ l.rebalance k.activity k.rebalance)
known_by z rows v s choice l a l' (clears_scan answer) w c t b i k sought = is_leaving z rows l w.sized _ (stopped_in_range answer choice k.activity) k.ranges k.below k.remembered k.gathered (lists_of z _ l.rebalance k.activity k.rebalance)
known_by z rows v s choice l a l' clears_pin w c t b i k sought = let u : IsPinned None = tt in is_leaving z rows (record l { pin = None }) w.sized Done tt (assumption (k, u)) (assumption k) k.remembered k.gathered (lists_of z _ l.rebalance k.activity k.rebalance)
known_by z rows v s choice l a l' (finds_full y) w c t b i k sought = is_balancing z rows l w.sized k.ranges k.below k.remembered k.gathered
known_by z rows v s choice l a l' (takes_cell y) w c t b i k sought = let u = room_below z (count_of (v (name.Count l.row))) y in assumption (k, u)
known_by z rows v s choice l a l' (takes_full y) w c t b i k sought = is_balancing z rows l w.sized k.ranges k.below k.remembered k.gathered
known_by z rows v s choice l a l' (announces_full y) w c t b i k sought = is_balancing z rows l w.sized k.ranges k.below k.remembered k.gathered
known_by z rows v s choice l a l' loads_clock w c t b i k sought = let u = w.each name.Clock tt in assumption (k, u)
known_by z rows v s choice l a l' (is_stamped version y) w c t b i k sought = let u = (entry z rows v l.row w s (pend.Stamped l.cell version) k.below.row t y).1 in assumption (k, u)
known_by z rows v s choice l a l' (stamps_full y) w c t b i k sought = is_balancing z rows l w.sized k.ranges k.below k.remembered k.gathered
known_by z rows v s choice l a l' (tidies own e) w c t b i k sought = is_tidying z rows l w.sized k.ranges k.below k.remembered k.gathered
known_by z rows v s choice l a l' stores_version w c t b i k sought = let o : 0 ≤ z.cells = omega arith in assumption (k, o)
known_by z rows v s choice l a l' (first_reaches x y) w c t b i k sought =
    let u : x < z.cells = linked_below (v (link_name l.row l.link)) x z.cells y (link_below z rows v w l.row l.link k.ranges.link k.below.row) in
    let o = min-le_right (l.walked + 1) z.cells in
    assumption (k, u, o)
known_by z rows v s choice l a l' (reaches_cell x y) w c t b i k sought =
    let u : x < z.cells = linked_below (v (link_name l.row l.link)) x z.cells y (link_below z rows v w l.row l.link k.ranges.link k.below.row) in
    let o = min-le_right (l.walked + 1) z.cells in
    assumption (k, u, o)
known_by z rows v s choice l a l' (first_sees_none y) w c t b i k sought = assumption k
known_by z rows v s choice l a l' (sees_none y) w c t b i k sought = assumption k
known_by z rows v s choice l a l' (inserts_behind guess inside y) w c t b i k sought = let o : guess < z.cells = omega (arith, inside, k.ranges.built) in assumption (k, o)
known_by z rows v s choice l a l' (inserts_at_first guess y) w c t b i k sought = assumption k
known_by z rows v s choice l a l' (key_before y) w c t b i k sought = assumption k
known_by z rows v s choice l a l' (version_before y) w c t b i k sought = assumption k
known_by z rows v s choice l a l' (loses y) w c t b i k sought = let o = min-le_right (l.lost + 1) z.cells in let p : 0 ≤ z.cells = omega arith in assumption (k, o, p)
known_by z rows v s choice l a l' clears w c t b i k sought = is_leaving z rows l w.sized _ tt k.ranges k.below k.remembered k.gathered (lists_of z _ l.rebalance k.activity k.rebalance)
known_by z rows v s choice l a l' (leaves answer) w c t b i k sought = let f = rests_known z rows l.number w.sized in let p = k.ranges.pin in assumption (f, p)
known_by z rows v s choice l a l' enters_again w c t b i k sought = let y = w.each name.Epoch tt in assumption (k, y)
known_by z rows v s choice l a l' (clock_is_spent e nd) w c t b i k sought = is_refusing z rows l w.sized Spent tt k.ranges k.below k.remembered k.gathered
known_by z rows v s choice l a l' (ends_at_clock dn) w c t b i k sought = is_refusing z rows l w.sized Done tt k.ranges k.below k.remembered k.gathered
known_by z rows v s choice l a l' (epoch_is_spent e nd) w c t b i k sought = is_refusing z rows l w.sized Spent tt k.ranges k.below k.remembered k.gathered
known_by z rows v s choice l a l' (ends_at_epoch dn) w c t b i k sought = is_refusing z rows l w.sized Done tt k.ranges k.below k.remembered k.gathered
known_by z rows v s choice l a l' (finds_infant seat e) w c t b i k sought = let o : seat < z.seats = subst (IsRowState z) e (w.each (name.State l.row) k.below.row) in assumption (k, o)
known_by z rows v s choice l a l' (finds_leader count e) w c t b i k sought = let u = IsState-state_of (v (name.State l.row)) _ e in assumption (k, u)
known_by z rows v s choice l a l' (finds_follower leader e) w c t b i k sought = let o : leader < rows = subst (IsStateBelow rows) e (w.led (name.State l.row) k.below.row) in assumption (k, o)
known_by z rows v s choice l a l' (finds_other_state nd) w c t b i k sought = tries_anew z rows l w.sized k.ranges k.below k.remembered k.gathered
known_by z rows v s choice l a l' (ends_at_state dn) w c t b i k sought = is_refusing z rows l w.sized Done tt k.ranges k.below k.remembered k.gathered
known_by z rows v s choice l a l' (engages e) w c t b i k sought = let u : 0 ≤ MOST_GROUP = omega arith in assumption (k, u)
known_by z rows v s choice l a l' (marks_link count q e o) w c t b i k sought =
    let f = follows_known z rows (row_linked (link_of (v (name.Next l.row)))) l (row_below rows (link_of (v (name.Next l.row))) (w.led (name.Next l.row) k.below.row)) k.ranges k.below in
    assumption (f, k)
known_by z rows v s choice l a l' (marks_last count e o) w c t b i k sought =
    let u : 1 ≤ MOST_GROUP = omega arith in
    let f = follows_known z rows (row_linked (link_of (v (name.Next l.row)))) l (row_below rows (link_of (v (name.Next l.row))) (w.led (name.Next l.row) k.below.row)) k.ranges k.below in
    assumption (f, k, u)
known_by z rows v s choice l a l' (marks_led count next d n) w c t b i k sought =
    let f = follows_known z rows (row_linked (link_of (v (name.Next l.row)))) l (row_below rows (link_of (v (name.Next l.row))) (w.led (name.Next l.row) k.below.row)) k.ranges k.below in
    counted_known z rows count (followed_by (row_linked (link_of (v (name.Next l.row)))) l) next n f.0 f.1 k.remembered k.gathered k.rebalance.marks k.rebalance.needed k.rebalance.gathered
known_by z rows v s choice l a l' (decides count m next e n) w c t b i k sought = counted_known z rows _ l next n k.ranges k.below k.remembered k.gathered k.rebalance.marks k.rebalance.needed k.rebalance.gathered
known_by z rows v s choice l a l' (decides_not count nd) w c t b i k sought = tries_anew z rows l w.sized k.ranges k.below k.remembered k.gathered
known_by z rows v s choice l a l' (ends_undecided count dn) w c t b i k sought = is_refusing z rows l w.sized Done tt k.ranges k.below k.remembered k.gathered
known_by z rows v s choice l a l' counts_next w c t b i k sought = let u = counted_few (goes_along (count_of (v (name.Count (row_after l)))) l) in assumption (k, u)
known_by z rows v s choice l a l' (claims_next e) w c t b i k sought = assumption k
known_by z rows v s choice l a l' (next_is_infant seat e) w c t b i k sought = let o : seat < z.seats = subst (IsRowState z) e (w.each (name.State (row_after l)) (after_below rows l (omega (arith, w.sized.some_rows)) k.below)) in assumption (k, o)
known_by z rows v s choice l a l' (next_leads count e) w c t b i k sought = to_group_known z rows l k.ranges k.below k.remembered k.gathered k.rebalance.needed k.rebalance.gathered
known_by z rows v s choice l a l' (claims_not nd) w c t b i k sought = tries_anew z rows l w.sized k.ranges k.below k.remembered k.gathered
known_by z rows v s choice l a l' (ends_unclaimed dn) w c t b i k sought = is_refusing z rows l w.sized Done tt k.ranges k.below k.remembered k.gathered
known_by z rows v s choice l a l' marks_next w c t b i k sought =
    let o = row_below rows (link_of (v (name.Next (row_after l)))) (w.led (name.Next (row_after l)) (after_below rows l (omega (arith, w.sized.some_rows)) k.below)) in
    to_group_known z rows (with_second (row_linked (link_of (v (name.Next (row_after l))))) l) (assumption k) (assumption (k.below, o)) k.remembered k.gathered k.rebalance.needed k.rebalance.gathered
known_by z rows v s choice l a l' (begins_left q e d) w c t b i k sought =
    let zero_key : 0 < KEY_END = omega arith in
    let o : q < rows = omega (arith, c, e) in
    assumption (k, zero_key, o)
known_by z rows v s choice l a l' (takes_leader q e) w c t b i k sought =
    let o = before_below rows l.rebalance.before (omega (arith, w.sized.some_rows)) k.below.rebalance.before in
    let u = key_of_word-below (v (name.Least (row_or_first l.rebalance.before))) in
    is_balancing z rows (moved_left (at_before l.rebalance.before (least_in v (row_or_first l.rebalance.before)) l)) w.sized (assumption (k.ranges, u)) (assumption (k.below, o)) k.remembered k.gathered
known_by z rows v s choice l a l' (reaches_leader e) w c t b i k sought =
    let o = before_below rows l.rebalance.before (omega (arith, w.sized.some_rows)) k.below.rebalance.before in
    is_balancing z rows (moved_left l) w.sized (assumption k.ranges) (assumption (k.below, o)) k.remembered k.gathered
known_by z rows v s choice l a l' (leads_left q e d) w c t b i k sought =
    let o = before_below rows l.rebalance.before (omega (arith, w.sized.some_rows)) k.below.rebalance.before in
    let u = linked_in_range rows q (link_of (v (name.Next (row_or_first l.rebalance.before)))) (w.led (name.Next (row_or_first l.rebalance.before)) o) e in
    assumption (k, u)
known_by z rows v s choice l a l' (walks_left o) w c t b i k sought = let u = key_of_word-below (v (name.Least l.candidate)) in assumption (k, u)
known_by z rows v s choice l a l' (head_follows nd e) w c t b i k sought = tries_anew z rows l w.sized k.ranges k.below k.remembered k.gathered
known_by z rows v s choice l a l' (ends_at_head dn) w c t b i k sought = is_refusing z rows l w.sized Done tt k.ranges k.below k.remembered k.gathered
known_by z rows v s choice l a l' (none_is_left nd e) w c t b i k sought = tries_anew z rows l w.sized k.ranges k.below k.remembered k.gathered
known_by z rows v s choice l a l' (ends_at_none dn) w c t b i k sought = is_refusing z rows l w.sized Done tt k.ranges k.below k.remembered k.gathered
known_by z rows v s choice l a l' (passes_left nd o) w c t b i k sought = tries_anew z rows l w.sized k.ranges k.below k.remembered k.gathered
known_by z rows v s choice l a l' (ends_past dn) w c t b i k sought = is_refusing z rows l w.sized Done tt k.ranges k.below k.remembered k.gathered
known_by z rows v s choice l a l' freezes_count w c t b i k sought =
    let o : 0 < z.seats = omega (arith, w.sized.some_seats) in
    let n : length l.rebalance.marks ≤ entries_before z l.rebalance + 0 = omega (arith, k.rebalance.marks) in
    assumption (k, o, n)
known_by z rows v s choice l a l' (sees_idle j e) w c t b i k sought = let u : IsEntry z (Some pend.Idle) = tt in assumption (k, u)
known_by z rows v s choice l a l' (sees_unstamped j x e) w c t b i k sought = let u : x < z.cells = entry z rows v l.rebalance.hand w j (pend.Pending x) k.below.rebalance.hand k.activity e in assumption (k, u)
known_by z rows v s choice l a l' (remembers j x version e o) w c t b i k sought =
    let u = entry z rows v l.rebalance.hand w j (pend.Stamped x version) k.below.rebalance.hand k.activity e in
    let m = group_marked z l.rebalance.marks (place_in_group z l.rebalance x) version k.ranges.rebalance.marks (place_few z l.rebalance x u.0) u.1 in
    let n = one_more_mark z l.rebalance j (place_in_group z l.rebalance x) version k.rebalance.marks in
    assumption (k, m, n, o)
known_by z rows v s choice l a l' (remembers_last j x version next e o y) w c t b i k sought =
    let u = entry z rows v l.rebalance.hand w j (pend.Stamped x version) k.below.rebalance.hand k.activity e in
    let m = group_marked z l.rebalance.marks (place_in_group z l.rebalance x) version k.ranges.rebalance.marks (place_few z l.rebalance x u.0) u.1 in
    let n : length (marking z x version l).rebalance.marks ≤ entries_before z l.rebalance + z.seats = omega (arith, one_more_mark z l.rebalance j (place_in_group z l.rebalance x) version k.rebalance.marks, k.activity) in
    froze_row z rows (marking z x version l) next y w.sized (assumption (k.ranges, m)) (assumption k.below) k.remembered k.gathered k.rebalance.gathered k.rebalance.needed (omega (arith, n, entries_few z l.rebalance)) (λ r f. entries_ahead z l r _ (k.group.hand tt) (k.group.apart tt) f n)
known_by z rows v s choice l a l' (sees_frozen j e o) w c t b i k sought = let n : length l.rebalance.marks ≤ entries_before z l.rebalance + (j + 1) = omega (arith, k.rebalance.marks) in assumption (k, n, o)
known_by z rows v s choice l a l' (sees_frozen_last j next e o y) w c t b i k sought = froze_last z rows l next j y w.sized k.activity k.ranges k.below k.remembered k.gathered k.rebalance.gathered k.rebalance.needed k.rebalance.marks (k.group.hand tt) (k.group.apart tt)
known_by z rows v s choice l a l' (freezes_entry j e o) w c t b i k sought = let n : length l.rebalance.marks ≤ entries_before z l.rebalance + (j + 1) = omega (arith, k.rebalance.marks) in assumption (k, n, o)
known_by z rows v s choice l a l' (freezes_last j next e o y) w c t b i k sought = froze_last z rows l next j y w.sized k.activity k.ranges k.below k.remembered k.gathered k.rebalance.gathered k.rebalance.needed k.rebalance.marks (k.group.hand tt) (k.group.apart tt)
known_by z rows v s choice l a l' (looks_again j e) w c t b i k sought = assumption k
known_by z rows v s choice l a l' (sees_quiet j e o) w c t b i k sought = let n : length l.rebalance.needed ≤ j + 1 = omega (arith, k.rebalance.needed) in assumption (k, n, o)
known_by z rows v s choice l a l' (sees_quiet_last j e o) w c t b i k sought = begins_to_take z rows l k.ranges k.below k.remembered k.gathered k.rebalance.marks (omega (arith, k.rebalance.needed, k.activity))
known_by z rows v s choice l a l' (helps_scan j clock e) w c t b i k sought = let u : IsVersion clock = IsScan-scan_of (v (name.Scan j)) (scan.Waiting clock) e in assumption (k, u)
known_by z rows v s choice l a l' (sees_drawn j version e o) w c t b i k sought = needs_more z rows l j version o k.ranges k.below k.remembered k.gathered k.rebalance.marks k.rebalance.gathered k.rebalance.needed (IsScan-scan_of (v (name.Scan j)) (scan.Drawn version) e)
known_by z rows v s choice l a l' (sees_drawn_last j version e o) w c t b i k sought = needs_last z rows l j version (omega (arith, k.activity)) k.ranges k.below k.remembered k.gathered k.rebalance.marks k.rebalance.needed (IsScan-scan_of (v (name.Scan j)) (scan.Drawn version) e)
known_by z rows v s choice l a l' (draws_for j) w c t b i k sought = let u = w.each name.Clock tt in assumption (k, u)
known_by z rows v s choice l a l' (settles_scan j e o) w c t b i k sought = needs_more z rows l j l.rebalance.drawn o k.ranges k.below k.remembered k.gathered k.rebalance.marks k.rebalance.gathered k.rebalance.needed k.ranges.rebalance.drawn
known_by z rows v s choice l a l' (settles_last j e o) w c t b i k sought = needs_last z rows l j l.rebalance.drawn (omega (arith, k.activity)) k.ranges k.below k.remembered k.gathered k.rebalance.marks k.rebalance.needed k.ranges.rebalance.drawn
known_by z rows v s choice l a l' (finds_drawn j version e o) w c t b i k sought = needs_more z rows l j version o k.ranges k.below k.remembered k.gathered k.rebalance.marks k.rebalance.gathered k.rebalance.needed (IsScan-scan_of (v (name.Scan j)) (scan.Drawn version) e)
known_by z rows v s choice l a l' (finds_drawn_last j version e o) w c t b i k sought = needs_last z rows l j version (omega (arith, k.activity)) k.ranges k.below k.remembered k.gathered k.rebalance.marks k.rebalance.needed (IsScan-scan_of (v (name.Scan j)) (scan.Drawn version) e)
known_by z rows v s choice l a l' (finds_no_scan j e o) w c t b i k sought = let n : length l.rebalance.needed ≤ j + 1 = omega (arith, k.rebalance.needed) in assumption (k, n, o)
known_by z rows v s choice l a l' (finds_no_scan_last j e o) w c t b i k sought = begins_to_take z rows l k.ranges k.below k.remembered k.gathered k.rebalance.marks (omega (arith, k.rebalance.needed, k.activity))
known_by z rows v s choice l a l' (looks_at_pin j next n) w c t b i k sought = pin_known z rows v j l next n k
known_by z rows v s choice l a l' (take_leads x e) w c t b i k sought =
    let u : x < z.cells = linked_below (v (link_name l.rebalance.hand l.link)) x z.cells e (link_below z rows v w l.rebalance.hand l.link k.ranges.link k.below.rebalance.hand) in
    let o = min-le_right (l.walked + 1) z.cells in
    let m = unmarked_in_range (IsGroupMark z) (place_in_group z l.rebalance x) l.rebalance.marks k.ranges.rebalance.marks in
    let n : length (unmarked (place_in_group z l.rebalance x) l.rebalance.marks) ≤ MOST_GROUP * z.seats = omega (arith, unmarked_few (place_in_group z l.rebalance x) l.rebalance.marks, k.rebalance.marks) in
    assumption (k, u, o, m, n)
known_by z rows v s choice l a l' (takes_left x e y o) w c t b i k sought = left_known z rows l x y k.ranges k.below k.remembered k.gathered k.rebalance
known_by z rows v s choice l a l' (takes_no_more next e y f) w c t b i k sought = row_gathered z rows l next f k.group.built k.group.fits w.sized k.ranges k.below k.remembered k.gathered k.rebalance.marks k.rebalance.needed k.rebalance.gathered
known_by z rows v s choice l a l' takes_key w c t b i k sought = let u = key_of_word-below (v (name.Key l.rebalance.hand l.place)) in assumption (k, u)
known_by z rows v s choice l a l' takes_version w c t b i k sought = let u = version_in_hand (v (name.Version l.rebalance.hand l.place)) (w.each (name.Version l.rebalance.hand l.place) (k.below.rebalance.hand, k.ranges.place)) in assumption (k, u)
known_by z rows v s choice l a l' keeps_taken w c t b i k sought =
    let u = value_in_range (v (name.Value l.rebalance.hand l.place)) (w.each (name.Value l.rebalance.hand l.place) (k.below.rebalance.hand, k.ranges.place)) in
    let m = kept_more z (value_of_word (v (name.Value l.rebalance.hand l.place))) l u k.ranges k.rebalance.gathered in
    assumption (k, m)
known_by z rows v s choice l a l' takes_left_key w c t b i k sought = let u = key_of_word-below (v (name.Key l.rebalance.hand l.place)) in assumption (k, u)
known_by z rows v s choice l a l' (keeps_left x y o) w c t b i k sought =
    let u = value_in_range (v (name.Value l.rebalance.hand l.place)) (w.each (name.Value l.rebalance.hand l.place) (k.below.rebalance.hand, k.ranges.place)) in
    let m = kept_more z (value_of_word (v (name.Value l.rebalance.hand l.place))) l u k.ranges k.rebalance.gathered in
    left_known z rows (keeping z (value_of_word (v (name.Value l.rebalance.hand l.place))) l) x y m.0 (assumption k) k.remembered k.gathered (record { marks = k.rebalance.marks; needed = k.rebalance.needed; gathered = m.1; taken = λ t. absurd t })
known_by z rows v s choice l a l' (keeps_no_more next y f) w c t b i k sought =
    let u = value_in_range (v (name.Value l.rebalance.hand l.place)) (w.each (name.Value l.rebalance.hand l.place) (k.below.rebalance.hand, k.ranges.place)) in
    let n = kept_more z (value_of_word (v (name.Value l.rebalance.hand l.place))) l u k.ranges k.rebalance.gathered in
    row_gathered z rows (keeping z (value_of_word (v (name.Value l.rebalance.hand l.place))) l) next f k.group.built k.group.fits w.sized n.0 (assumption k) k.remembered k.gathered k.rebalance.marks k.rebalance.needed n.1
known_by z rows v s choice l a l' _ w c t b i k sought = assumption k
