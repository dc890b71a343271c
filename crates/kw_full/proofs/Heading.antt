-- How a seat comes to engage a row, and to move to one: to that before its own, or to the leader of
-- its row.
use Rattle.std.proofs.Common.{ℕ, ◌≡◌, ◌≢◌, ◌+◌, true, false, Some, refl, sym, ◌∙◌}
use Rattle.kw_words.specs.declared.layout.Name.TheVariants as name
use Rattle.kw_words.specs.declared.pend.Pend.TheVariants.{Idle}
use Rattle.kw_words.specs.declared.state.State.TheVariants.{Follower}
use Rattle.kw_words.specs.Count.{count_of}
use Rattle.kw_words.specs.Link.{link_of}
use Rattle.kw_words.specs.Pend.{pend_word}
use Rattle.kw_words.specs.State.{state_of}
use Rattle.kw_world.specs.declared.activity.Activity.{Activity}
use Rattle.kw_world.specs.declared.activity.put.Put.TheVariants as Put
use Rattle.kw_world.specs.declared.activity.rebalance.engage.Engage.TheVariants as Engage
use Rattle.kw_world.specs.declared.activity.rebalance.left.Left.TheVariants as Left
use Rattle.kw_world.specs.declared.activity.rebalance.Rebalance.TheVariants as Rebalance
use Rattle.kw_world.specs.declared.activity.rebalance.replace.Replace.TheVariants as Replace
use Rattle.kw_world.specs.declared.activity.rebalance.seek.Seek.TheVariants as Seek
use Rattle.kw_world.specs.declared.event.Choice.{Choice}
use Rattle.kw_world.specs.declared.local.Local.{Local}
use Rattle.kw_world.specs.declared.rebalance.Afterwards.{Afterwards}
use Rattle.kw_world.specs.declared.rebalance.Afterwards.TheVariants.{MoveLeft, Refuse, TryAgain}
use Rattle.kw_world.specs.PutTransitions.{has_room}
use Rattle.kw_world.specs.ReplaceTransitions.{replaced_link}
use Rattle.kw_world.specs.SeekTransitions.{at_infant}
use Rattle.kw_world.specs.Sizes.{Sizes}
use Rattle.kw_world.specs.Transition.{row_or_first}
use Rattle.kw_core.specs.Stages.{IsBalancing}
use Rattle.kw_core.specs.Words.{Words, next_in}
use Rattle.kw_core.proofs.Arrows.{Arrow, IsNotOwn, NextLeftOver, NextLook, announces_full, answers, builds, clock_serves, decides, ends_scan, epoch_serves, finds_follower, finds_full, finds_infant, finds_normal, finds_other, finds_stamped, first_ends, freezes_last, gathers_left_over, goes_to_left_over, helps, is_engaged, is_gone_by, keeps_no_more, key_above, left_over_gone_by, list_ends, lists, looks, marks_led, normalises, reaches_leader, remembers_last, scans_on, sees_frozen_last, sees_neither, sees_stamped, stamps_full, takes_full, takes_leader, takes_no_more, tidies, asks_of_pin, looks_at_pin}
use Rattle.kw_core.proofs.Building.{Building, begins_before, first_is_taken, gives_last_back, gives_one_back, is_marked_before, is_replaced, leads_nowhere, leads_on_marked, loses_row, marked_link, pass_is_old, pass_is_young, sought_is_taken, takes_head_before, takes_row, walks_past, writes_after, writes_entry, writes_first, writes_no_cell}
use Rattle.kw_core.proofs.Grouping.{NextCounted, NextFrozen, NextGathered, claims_row, freezes_ahead, froze_all, gathered_all, gathers_ahead, goes_alone}
use Rattle.kw_core.proofs.NextBuilt.{GivenBack, NextBack, NextBefore, NextNewCell, NextNewEntry, NextNewRow, NextPass, NextSeek, NextTaken, asks, empties, fills, gives_back, has_asked, has_cells, has_enough, has_entries, has_looked, has_none, has_written, is_behind, is_first, is_refused_rows, looks_on, moves_left, tries_again, wants_more, was_done, was_served, writes_idle, writes_row}
use Rattle.kw_core.proofs.Pinning.{NextOfPin, NextPinLook}
use Rattle.kw_shape.specs.Search.{HasBefore, IsSearching}
use Rattle.kw_full.specs.Full.{IsEngaging}
use Rattle.kw_puts.proofs.BuiltStages.{of_pin_is, pin_look_is}

-- Where a seat stands.

-- the seat asks its row for a cell, or whether it has one
abbrev pub IsAsking : Activity → Type 0
IsAsking (Activity.Put Put.Count) = Unit {0}
IsAsking (Activity.Put Put.Add) = Unit {0}
IsAsking _ = ⊥

-- it is about to move to another row that it knows: it gives its new rows back for that, or it is
-- at a follower, whose leader the state named
abbrev pub IsMoving : Activity → Local → Type 0
IsMoving (Activity.Rebalance (Rebalance.Seek Seek.GiveBack)) l = l.rebalance.afterwards ≡ MoveLeft
IsMoving (Activity.Rebalance (Rebalance.Left Left.Start)) l = Unit {0}
IsMoving _ l = ⊥

-- a seat that is about to engage a row rebalances it
pub engaging_balances : (a : Activity) → IsEngaging a → IsBalancing a
engaging_balances (Activity.Rebalance b) x = tt
engaging_balances _ x = absurd x

-- one that is about to move knows the row to which it does
pub moving_searches : (a : Activity) (l : Local) → IsMoving a l → IsSearching a l
moving_searches (Activity.Rebalance (Rebalance.Seek Seek.GiveBack)) l x = x
moving_searches (Activity.Rebalance (Rebalance.Left Left.Start)) l x = tt
moving_searches _ l x = absurd x

pub moving_before : (a : Activity) (l : Local) → IsMoving a l → HasBefore a l
moving_before (Activity.Rebalance (Rebalance.Seek Seek.GiveBack)) l x = x
moving_before (Activity.Rebalance (Rebalance.Left Left.Start)) l x = tt
moving_before _ l x = absurd x

-- it finds the link to its row marked
pub data SeesMark (v : Words) (l : Local) (a : Activity) : Type 0 where
  at_next : a ≡ Activity.Rebalance (Rebalance.Replace Replace.Next) → link_of (v (name.Next (row_or_first l.rebalance.before))) ≡ Some (marked_link (Some l.row)) → SeesMark v l a
  at_exchange : a ≡ Activity.Rebalance (Rebalance.Replace Replace.Exchange) → link_of (v (replaced_link l.rebalance.before)) ≡ Some (marked_link (Some l.row)) → SeesMark v l a

-- How it comes there.

-- the row, the call and whether the seat tidies stay
pub record IsSame (l k : Local) : Type 0 where
  pub row : k.row ≡ l.row
  pub call : k.call ≡ l.call
  pub tidies : k.tidies ≡ l.tidies

-- it comes to engage a row: its row gives no cell; its entry there is not idle, or is none of its
-- own cell; its put is done; it goes on to engage it; it has moved there, or finds the link to its
-- row marked and moves at once; or it reaches the leader of its row
pub data ToEngage (z : Sizes) (v : Words) (s : ℕ) (l : Local) (a : Activity) (k : Local) : Type 0 where
  is_full : IsAsking a → has_room z (count_of (v (name.Count l.row))) ≡ false → IsSame l k → ToEngage z v s l a k
  is_met : a ≡ Activity.Put Put.Announce → v (name.Pend l.row s) ≢ pend_word Idle → IsSame l k → ToEngage z v s l a k
  is_lost : a ≡ Activity.Put Put.Stamp → IsNotOwn l.cell (v (name.Pend l.row s)) → IsSame l k → ToEngage z v s l a k
  is_done : a ≡ Activity.Put Put.Clear → k.row ≡ l.row → k.call ≡ l.call → k.tidies ≡ true → ToEngage z v s l a k
  goes_on : IsEngaging a → IsSame l k → ToEngage z v s l a k
  has_moved : IsMoving a l → k.row ≡ row_or_first l.rebalance.before → ToEngage z v s l a k
  moves_now : SeesMark v l a → k.row ≡ row_or_first l.rebalance.before → ToEngage z v s l a k
  is_led : a ≡ Activity.Rebalance (Rebalance.Left Left.Next) → next_in v (row_or_first l.rebalance.before) ≡ Some l.row → k.row ≡ row_or_first l.rebalance.before → ToEngage z v s l a k

-- it comes to move to one: it finds the link to its row marked, gives one more row back, or finds
-- its row a follower
pub data ToMove (v : Words) (l : Local) (a : Activity) (k : Local) : Type 0 where
  saw_mark : SeesMark v l a → k.rebalance.before ≡ l.rebalance.before → ToMove v l a k
  moves_on : IsMoving a l → k.rebalance.before ≡ l.rebalance.before → ToMove v l a k
  is_named : (leader : ℕ) → a ≡ Activity.Rebalance (Rebalance.Engage Engage.State) → state_of (v (name.State l.row)) ≡ Some (Follower leader) → k.rebalance.before ≡ Some leader → ToMove v l a k

-- one of both, or neither
pub data Heads (z : Sizes) (v : Words) (s : ℕ) (l : Local) (a : Activity) (k : Local) : Type 0 where
  engages : ToEngage z v s l a k → (IsMoving k.activity k → ⊥) → Heads z v s l a k
  moves : ToMove v l a k → (IsEngaging k.activity → ⊥) → Heads z v s l a k
  elsewhere : (IsEngaging k.activity → ⊥) → (IsMoving k.activity k → ⊥) → Heads z v s l a k

-- Where no event stands between.

-- the seat is at neither
abbrev IsOff : Local → Type 0
IsOff k = (IsEngaging k.activity → ⊥) × (IsMoving k.activity k → ⊥)

look_off : (z : Sizes) (j : ℕ) (next : Activity) (k : Local) → NextLook z j next → (IsEngaging next → ⊥) × (IsMoving next k → ⊥)
look_off z j next k (looks o) = (λ x. x, λ x. x)
look_off z j next k (lists o) = (λ x. x, λ x. x)

left_over_off : (l k : Local) → NextLeftOver l k → IsOff k
left_over_off l k (goes_to_left_over m o) = (λ x. x, λ x. x)
left_over_off l k (answers o n) = (λ x. x, λ x. x)
left_over_off l k (ends_scan o y n) = (λ x. x, λ x. x)
left_over_off l k (scans_on q o y n w) = (λ x. x, λ x. x)

counted_off : (count : ℕ) (l k : Local) → NextCounted count l k → IsOff k
counted_off count l k (claims_row q m e) = (λ x. x, λ x. x)
counted_off count l k (goes_alone d) = (λ x. x, λ x. x)

frozen_off : (l k : Local) → NextFrozen l k → IsOff k
frozen_off l k (freezes_ahead q e) = (λ x. x, λ x. x)
frozen_off l k (froze_all e) = (λ x. x, λ x. x)

gathered_off : (z : Sizes) (l k : Local) → NextGathered z l k → IsOff k
gathered_off z l k (gathers_ahead q e) = (λ x. x, λ x. x)
gathered_off z l k (gathered_all e) = (λ x. x, λ x. x)

of_pin_off : (l k : Local) → NextOfPin l k → IsOff k
of_pin_off l k n = of_pin_is (λ b. (IsEngaging b → ⊥) × (IsMoving b k → ⊥)) (λ x. x, λ x. x) (λ x. x, λ x. x) (λ x. x, λ x. x) (λ x. x, λ x. x) (λ x. x, λ x. x) (λ x. x, λ x. x) n

pin_look_off : (z : Sizes) (i w : ℕ) (l k : Local) → NextPinLook z i w l k → IsOff k
pin_look_off z i w l k n = pin_look_is (λ b. (IsEngaging b → ⊥) × (IsMoving b k → ⊥)) (λ j. (λ x. x, λ x. x)) (λ x. x, λ x. x) n

given_off : (c : Afterwards) (l k : Local) → (c ≡ MoveLeft → ⊥) → GivenBack l c k → IsOff k
given_off c l k n (tries_again d) = (λ x. x, λ x. x)
given_off c l k n (was_done d) = (λ x. x, λ x. x)
given_off c l k n (is_refused_rows d) = (λ x. x, λ x. x)
given_off c l k n (was_served d) = (λ x. x, λ x. x)
given_off c l k n moves_left = absurd (n refl)

back_off : (c : Afterwards) (l k : Local) → (c ≡ MoveLeft → ⊥) → NextBack c l k → IsOff k
back_off c l k n (gives_back o) = (λ x. x, n)
back_off c l k n (has_none m o y) = given_off c l k n y

seek_off : (rows : ℕ) (l k : Local) → NextSeek rows l k → IsOff k
seek_off rows l k (asks o) = (λ x. x, λ x. x)
seek_off rows l k (has_asked m o y) = back_off Refuse l k (λ e. cc) y

pass_off : (z : Sizes) (j : ℕ) (l k : Local) → NextPass z j l k → IsOff k
pass_off z j l k (looks_on o) = (λ x. x, λ x. x)
pass_off z j l k (has_looked o) = (λ x. x, λ x. x)

taken_off : (rows : ℕ) (l k : Local) → NextTaken rows l k → IsOff k
taken_off rows l k (wants_more m o y) = seek_off rows l k y
taken_off rows l k (has_enough o) = (λ x. x, λ x. x)

row_off : (l k : Local) → NextNewRow l k → IsOff k
row_off l k (writes_row o) = (λ x. x, λ x. x)
row_off l k (has_written o) = (λ x. x, λ x. x)

cell_off : (z : Sizes) (j : ℕ) (l k : Local) → NextNewCell z j l k → IsOff k
cell_off z j l k (fills o m) = (λ x. x, λ x. x)
cell_off z j l k (empties o m) = (λ x. x, λ x. x)
cell_off z j l k (has_cells m o y) = row_off l k y

entry_off : (z : Sizes) (j : ℕ) (l k : Local) → NextNewEntry z j l k → IsOff k
entry_off z j l k (writes_idle o) = (λ x. x, λ x. x)
entry_off z j l k (has_entries m o y) = cell_off z 0 l k y

before_off : (q : ℕ) (l k : Local) → NextBefore q l k → IsOff k
before_off q l k (is_first e) = (λ x. x, λ x. x)
before_off q l k (is_behind d) = (λ x. x, λ x. x)

-- Each event is one of these.

module _ (z : Sizes) (v : Words) (s : ℕ) (l : Local) where
  off : (a : Activity) (k : Local) → IsOff k → Heads z v s l a k
  off a k o = elsewhere o.0 o.1

  -- the last new row is given back
  given_heads : (c : Afterwards) (k : Local) → l.rebalance.afterwards ≡ c → GivenBack l c k → Heads z v s l (Activity.Rebalance (Rebalance.Seek Seek.GiveBack)) k
  given_heads c k e (tries_again d) = elsewhere (λ x. x) (λ x. x)
  given_heads c k e (was_done d) = elsewhere (λ x. x) (λ x. x)
  given_heads c k e (is_refused_rows d) = elsewhere (λ x. x) (λ x. x)
  given_heads c k e (was_served d) = elsewhere (λ x. x) (λ x. x)
  given_heads c k e moves_left = engages (has_moved e refl) (λ x. x)

  -- the link to the row is found marked
  now_heads : (a : Activity) (c : Afterwards) (k : Local) → SeesMark v l a → GivenBack l c k → Heads z v s l a k
  now_heads a c k y (tries_again d) = elsewhere (λ x. x) (λ x. x)
  now_heads a c k y (was_done d) = elsewhere (λ x. x) (λ x. x)
  now_heads a c k y (is_refused_rows d) = elsewhere (λ x. x) (λ x. x)
  now_heads a c k y (was_served d) = elsewhere (λ x. x) (λ x. x)
  now_heads a c k y moves_left = engages (moves_now y refl) (λ x. x)

  mark_heads : (a : Activity) (k : Local) → SeesMark v l a → NextBack MoveLeft l k → Heads z v s l a k
  mark_heads a k y (gives_back o) = moves (saw_mark y refl) (λ x. x)
  mark_heads a k y (has_none m o g) = now_heads a MoveLeft k y g

  built_heads : (choice : Choice) (a : Activity) (k : Local) → Building z v choice l a k → Heads z v s l a k
  built_heads choice a k (first_is_taken q rows next f n y) = off a k (seek_off rows _ next y)
  built_heads choice a k (sought_is_taken rows next n y) = off a k (seek_off rows _ next y)
  built_heads choice a k (pass_is_old j epoch rows next f o y) = off a k (seek_off rows _ next y)
  built_heads choice a k (pass_is_young j next o y) = off a k (pass_off z _ l next y)
  built_heads choice a k (takes_row rows next f y) = off a k (taken_off rows _ next y)
  built_heads choice a k (loses_row rows next d y) = off a k (seek_off rows _ next y)
  built_heads choice a k (gives_one_back o) = which l.rebalance.afterwards refl
    where
      next : Local
      next = record (at_infant (l.rebalance.at + 1) l) { activity = Activity.Rebalance (Rebalance.Seek Seek.GiveBack) }

      which : (c : Afterwards) → l.rebalance.afterwards ≡ c → Heads z v s l (Activity.Rebalance (Rebalance.Seek Seek.GiveBack)) next
      which MoveLeft e = moves (moves_on e refl) (λ x. x)
      which TryAgain e = elsewhere (λ x. x) (λ x. let y : TryAgain ≡ MoveLeft = sym e ∙ x in cc)
      which Refuse e = elsewhere (λ x. x) (λ x. let y : Refuse ≡ MoveLeft = sym e ∙ x in cc)
  built_heads choice a k (gives_last_back next o y) = given_heads l.rebalance.afterwards next refl y
  built_heads choice a k (writes_first next y) = off a k (entry_off z 0 l next y)
  built_heads choice a k (writes_entry j next y) = off a k (entry_off z _ l next y)
  built_heads choice a k (writes_no_cell j next o y) = off a k (cell_off z _ l next y)
  built_heads choice a k (writes_after j next y) = off a k (cell_off z _ l next y)
  built_heads choice a k (begins_before next y) = off a k (before_off _ l next y)
  built_heads choice a k (takes_head_before next y) = off a k (before_off _ l next y)
  built_heads choice a k (leads_on_marked next e y) = mark_heads a k (at_next refl e) y
  built_heads choice a k (leads_nowhere next e y) = off a k (back_off TryAgain l next (λ c. cc) y)
  built_heads choice a k (walks_past next o y) = off a k (back_off TryAgain l next (λ c. cc) y)
  built_heads choice a k (is_marked_before next e y) = mark_heads a k (at_exchange refl e) y
  built_heads choice a k (is_replaced next d y) = off a k (back_off TryAgain l next (λ c. cc) y)
  built_heads choice a k _ = elsewhere (λ x. x) (λ x. x)

  same : (k : Local) → k.row ≡ l.row → k.call ≡ l.call → k.tidies ≡ l.tidies → IsSame l k
  same k e f g = record { row = e; call = f; tidies = g }

  pub heads : (choice : Choice) (a : Activity) (k : Local) → Arrow z v s choice l a k → Heads z v s l a k
  heads choice a k (builds b next y t) = built_heads choice b next t
  heads choice a k (finds_full e) = engages (is_full tt e (same k refl refl refl)) (λ x. x)
  heads choice a k (takes_full e) = engages (is_full tt e (same k refl refl refl)) (λ x. x)
  heads choice a k (announces_full d) = engages (is_met refl d (same k refl refl refl)) (λ x. x)
  heads choice a k (stamps_full d) = engages (is_lost refl d (same k refl refl refl)) (λ x. x)
  heads choice a k (tidies rows e) = engages (is_done refl refl refl refl) (λ x. x)
  heads choice a k (clock_serves o) = engages (goes_on tt (same k refl refl refl)) (λ x. x)
  heads choice a k (epoch_serves o) = engages (goes_on tt (same k refl refl refl)) (λ x. x)
  heads choice a k (finds_infant seat e) = engages (goes_on tt (same k refl refl refl)) (λ x. x)
  heads choice a k (finds_normal e) = engages (goes_on tt (same k refl refl refl)) (λ x. x)
  heads choice a k (normalises seat) = engages (goes_on tt (same k refl refl refl)) (λ x. x)
  heads choice a k (is_engaged d) = engages (goes_on tt (same k refl refl refl)) (λ x. x)
  heads choice a k (finds_follower leader e) = moves (is_named leader refl e refl) (λ x. x)
  heads choice a k (takes_leader q e) = engages (has_moved tt refl) (λ x. x)
  heads choice a k (reaches_leader e) = engages (is_led refl e refl) (λ x. x)
  heads choice a k (sees_stamped j c version next y n) = off a k (look_off z _ next k n)
  heads choice a k (sees_neither j next y n) = off a k (look_off z _ next k n)
  heads choice a k (is_gone_by next y n) = off a k (look_off z _ next k n)
  heads choice a k (helps next y n) = off a k (look_off z _ next k n)
  heads choice a k (finds_stamped c version next y n) = off a k (look_off z _ next k n)
  heads choice a k (finds_other next y n) = off a k (look_off z _ next k n)
  heads choice a k (first_ends next e n) = off a k (left_over_off _ next n)
  heads choice a k (list_ends next e n) = off a k (left_over_off _ next n)
  heads choice a k (key_above next e n) = off a k (left_over_off _ next n)
  heads choice a k (left_over_gone_by next e n) = off a k (left_over_off _ next n)
  heads choice a k (gathers_left_over next n) = off a k (left_over_off _ next n)
  heads choice a k (remembers_last j c version next e o n) = off a k (frozen_off _ next n)
  heads choice a k (sees_frozen_last j next e o n) = off a k (frozen_off _ next n)
  heads choice a k (freezes_last j next e o n) = off a k (frozen_off _ next n)
  heads choice a k (takes_no_more next e m n) = off a k (gathered_off z _ next n)
  heads choice a k (keeps_no_more next m n) = off a k (gathered_off z _ next n)
  heads choice a k (marks_led count next d n) = off a k (counted_off _ _ next n)
  heads choice a k (decides count m next e n) = off a k (counted_off _ _ next n)
  heads choice a k (asks_of_pin next o n) = off a k (of_pin_off _ next n)
  heads choice a k (looks_at_pin i next n) = off a k (pin_look_off z _ _ _ next n)
  heads choice a k _ = elsewhere (λ x. x) (λ x. x)
