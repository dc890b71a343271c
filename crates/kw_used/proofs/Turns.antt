-- How an event changes the stage of its seat, by cases on what it does: the seat stays where it is,
-- comes to a full row, gives one up, goes on to another one, or is refused.
use Rattle.std.proofs.Common.{ℕ, ◌≡◌, ◌⊎◌, inl, inr, ◌≤◌, true, Option, None, Some, refl, ap, length}
use Rattle.kw_words.specs.declared.layout.Name.TheVariants as name
use Rattle.kw_words.specs.Link.{link_of}
use Rattle.kw_words.specs.Plain.{value_of_word}
use Rattle.kw_windows.specs.Builders.{Asking, Elsewhere}
use Rattle.kw_world.specs.declared.activity.Activity.{Activity}
use Rattle.kw_world.specs.declared.activity.enter.Enter.TheVariants as Enter
use Rattle.kw_world.specs.declared.activity.look.Look.{Look}
use Rattle.kw_world.specs.declared.activity.read.Read.{Read}
use Rattle.kw_world.specs.declared.activity.rebalance.Rebalance.TheVariants as Rebalance
use Rattle.kw_world.specs.declared.activity.rebalance.engage.Engage.{Engage}
use Rattle.kw_world.specs.declared.activity.rebalance.freeze.Freeze.{Freeze}
use Rattle.kw_world.specs.declared.activity.rebalance.freeze.Freeze.TheVariants as Freeze
use Rattle.kw_world.specs.declared.activity.rebalance.gather.Gather.{Gather}
use Rattle.kw_world.specs.declared.activity.rebalance.left.Left.TheVariants as Left
use Rattle.kw_world.specs.declared.answer.Answer.{Answer}
use Rattle.kw_world.specs.declared.answer.Answer.TheVariants.{Spent}
use Rattle.kw_world.specs.declared.event.Choice.{Choice}
use Rattle.kw_world.specs.declared.local.Local.{Local}
use Rattle.kw_world.specs.EngageTransitions.{followed_by}
use Rattle.kw_world.specs.FreezeTransitions.{marking}
use Rattle.kw_world.specs.ReadTransitions.{gathering}
use Rattle.kw_world.specs.ScanTransitions.{answer_or_stopped}
use Rattle.kw_world.specs.TakeTransitions.{keeping}
use Rattle.kw_world.specs.Sizes.{Sizes}
use Rattle.kw_world.specs.Transition.{row_linked, row_or_first}
use Rattle.kw_core.specs.Stages.{IsAtRow, IsBalancing, is_put}
use Rattle.kw_core.specs.Words.{Words, least_in, next_in}
use Rattle.kw_core.proofs.Arrows.{Arrow, NextLeftOver, NextLook, announces_full, answers, builds, claims_not, clears_scan, clock_is_spent, decides, decides_not, ends_at_clock, ends_at_epoch, ends_at_head, ends_at_none, ends_at_state, ends_past, ends_scan, ends_unclaimed, ends_undecided, epoch_is_spent, finds_full, finds_other, finds_other_state, finds_stamped, first_ends, freezes_last, gathers_left_over, goes_to_left_over, head_follows, helps, is_gone_by, is_spent, keeps_no_more, key_above, leaves, left_over_gone_by, list_ends, lists, looks, marks_led, none_is_left, passes_left, reaches_leader, remembers_last, scans_on, sees_frozen_last, sees_neither, sees_stamped, stamps_full, takes_full, takes_leader, takes_no_more, tidies, asks_of_pin, looks_at_pin}
use Rattle.kw_core.proofs.Building.{Building, IsBuilding}
use Rattle.kw_core.proofs.Grouping.{NextCounted, NextFrozen, NextGathered, claims_row, freezes_ahead, froze_all, gathered_all, gathers_ahead, goes_alone}
use Rattle.kw_core.proofs.Pinning.{NextOfPin, NextPinLook, pins, is_held, reads_no_pin, reads_no_key, reads_at_pin, unpins, unpins_none, sees_pin, sees_pin_last, sees_no_pin, sees_no_pin_last}
use Rattle.kw_shape.proofs.Comings.{IsGoingLeft}
use Rattle.kw_laws.specs.Laws.{IsStated}
use Rattle.kw_used.specs.Seats.{held_at, refusing, stage_at}

-- a get or a scan
abbrev pub IsReader : Activity → Type 0
IsReader (Activity.Draw _) = Unit {0}
IsReader (Activity.Look _) = Unit {0}
IsReader (Activity.Read _) = Unit {0}
IsReader (Activity.EndScan _) = Unit {0}
IsReader _ = ⊥

-- in which window the build at hand took a row last, after an event that takes none: for cells that
-- are being gathered none was taken
abbrev pub begun_after : Activity → Option ℕ → Option ℕ
begun_after (Activity.Rebalance (Rebalance.Gather _)) begun = None
begun_after _ begun = begun

-- what becomes of the stage
pub data Turn (z : Sizes) (v : Words) (choice : Choice) (wins : ℕ) (begun : Option ℕ) (l : Local) (a : Activity) (k : Local) : Type 0 where
  -- the seat stays where it is
  stays : stage_at wins (begun_after a begun) k.activity k ≡ stage_at wins begun a l → held_at (stage_at wins (begun_after a begun) k.activity k) (length k.rebalance.taken) ≡ held_at (stage_at wins begun a l) (length l.rebalance.taken) → Turn z v choice wins begun l a k
  -- it is about to engage its row
  comes_to : IsAtRow a → stage_at wins begun a l ≡ Elsewhere → stage_at wins (begun_after a begun) k.activity k ≡ Asking l.row → Turn z v choice wins begun l a k
  -- its put is done, and it tidies its row, or has tidied it
  is_done : (k.tidies ≡ true) ⊎ (l.tidies ≡ true) → Turn z v choice wins begun l a k
  -- a reader leaves
  leaves_reading : (answer : Answer) → IsReader a → stage_at wins begun a l ≡ Elsewhere → k.activity ≡ Activity.Leave answer → k.call ≡ l.call → Turn z v choice wins begun l a k
  -- the call ends
  ends_call : (answer : Answer) → a ≡ Activity.Leave answer → stage_at wins (begun_after a begun) k.activity k ≡ Elsewhere → Turn z v choice wins begun l a k
  -- the clock or the epoch is spent
  finds_spent : IsBalancing a → stage_at wins begun a l ≡ Asking l.row → stage_at wins (begun_after a begun) k.activity k ≡ refusing (is_put l.call) → Turn z v choice wins begun l a k
  -- the row is not as a row of the list may be, or the seat does not find its leader
  finds_gone : IsStated a → stage_at wins begun a l ≡ Asking l.row → k.activity ≡ Activity.Retry → Turn z v choice wins begun l a k
  is_head : a ≡ Activity.Rebalance (Rebalance.Left Left.Start) → row_or_first (row_linked (link_of (v name.Head))) ≡ l.row → k.activity ≡ Activity.Retry → Turn z v choice wins begun l a k
  none_left : a ≡ Activity.Rebalance (Rebalance.Left Left.Next) → next_in v (row_or_first l.rebalance.before) ≡ None → k.activity ≡ Activity.Retry → Turn z v choice wins begun l a k
  goes_past : a ≡ Activity.Rebalance (Rebalance.Left Left.NextLeast) → l.lower ≤ least_in v l.candidate → k.activity ≡ Activity.Retry → Turn z v choice wins begun l a k
  -- it goes on to its leader
  goes_left : IsGoingLeft a → (a ≡ Activity.Rebalance (Rebalance.Left Left.Start)) ⊎ (a ≡ Activity.Rebalance (Rebalance.Left Left.Next)) × (next_in v (row_or_first l.rebalance.before) ≡ Some l.row) → stage_at wins (begun_after a begun) k.activity k ≡ Asking (row_or_first l.rebalance.before) → Turn z v choice wins begun l a k
  -- it takes, writes or links new rows
  goes_on : IsBuilding a → Building z v choice l a k → Turn z v choice wins begun l a k

module _ (z : Sizes) (v : Words) (choice : Choice) (wins : ℕ) (begun : Option ℕ) where
  -- Where a part has no event of its own.

  look_turns : (l k : Local) (e : Look) (j : ℕ) → NextLook z j k.activity → Turn z v choice wins begun l (Activity.Look e) k
  look_turns l k e j n = which k.activity refl n
    where
      which : (b : Activity) → k.activity ≡ b → NextLook z j b → Turn z v choice wins begun l (Activity.Look e) k
      which b q (looks o) = stays (rw q refl) (rw q refl)
      which b q (lists o) = stays (rw q refl) (rw q refl)

  read_turns : (l m next : Local) (e : Read) → m.call ≡ l.call → NextLeftOver m next → Turn z v choice wins begun l (Activity.Read e) next
  read_turns l m next e c (goes_to_left_over n o) = stays refl refl
  read_turns l m next e c (answers o n) = leaves_reading _ tt refl refl c
  read_turns l m next e c (ends_scan o n y) = stays refl refl
  read_turns l m next e c (scans_on q o n y w) = stays refl refl

  frozen_turns : (l m next : Local) (e : Freeze) → m.row ≡ l.row → NextFrozen m next → Turn z v choice wins begun l (Activity.Rebalance (Rebalance.Freeze e)) next
  frozen_turns l m next e c (freezes_ahead r o) = stays (ap Asking c) refl
  frozen_turns l m next e c (froze_all o) = stays (ap Asking c) refl

  gathered_turns : (l m next : Local) (e : Gather) → m.row ≡ l.row → NextGathered z m next → Turn z v choice wins begun l (Activity.Rebalance (Rebalance.Gather e)) next
  gathered_turns l m next e c (gathers_ahead r o) = stays (ap Asking c) refl
  gathered_turns l m next e c (gathered_all o) = stays (ap Asking c) refl

  counted_turns : (l m next : Local) (e : Engage) (count : ℕ) → m.row ≡ l.row → NextCounted count m next → Turn z v choice wins begun l (Activity.Rebalance (Rebalance.Engage e)) next
  counted_turns l m next e count c (claims_row r n o) = stays (ap Asking c) refl
  counted_turns l m next e count c (goes_alone n) = stays (ap Asking c) refl

  of_pin_turns : (l next : Local) → NextOfPin l next → Turn z v choice wins begun l (Activity.Enter Enter.Announce) next
  of_pin_turns l next (pins e f) = stays refl refl
  of_pin_turns l next (is_held version e f) = stays refl refl
  of_pin_turns l next (reads_no_pin from upto e f) = stays refl refl
  of_pin_turns l next (reads_no_key from upto version e f g) = stays refl refl
  of_pin_turns l next (reads_at_pin from upto version e f g) = stays refl refl
  of_pin_turns l next (unpins version e f) = stays refl refl
  of_pin_turns l next (unpins_none e f) = stays refl refl

  pin_look_turns : (i w : ℕ) (l next : Local) → NextPinLook z i w l next → Turn z v choice wins begun l (Activity.Rebalance (Rebalance.Freeze (Freeze.Pin i))) next
  pin_look_turns i w l next (sees_pin version e f) = stays refl refl
  pin_look_turns i w l next (sees_pin_last version e f) = stays refl refl
  pin_look_turns i w l next (sees_no_pin e f) = stays refl refl
  pin_look_turns i w l next (sees_no_pin_last e f) = stays refl refl

  -- Each arrow.
  pub turn : (s : ℕ) (l : Local) (a : Activity) (k : Local) → Arrow z v s choice l a k → Turn z v choice wins begun l a k
  turn s l a k (is_spent o) = leaves_reading Spent tt refl refl refl
  turn s l a k (sees_stamped j c version next y n) = look_turns l _ _ _ n
  turn s l a k (sees_neither j next y n) = look_turns l _ _ _ n
  turn s l a k (is_gone_by next y n) = look_turns l _ _ _ n
  turn s l a k (helps next y n) = look_turns l _ _ _ n
  turn s l a k (finds_stamped c version next y n) = look_turns l _ _ _ n
  turn s l a k (finds_other next y n) = look_turns l _ _ _ n
  turn s l a k (first_ends next y n) = read_turns l l next _ refl n
  turn s l a k (list_ends next y n) = read_turns l l next _ refl n
  turn s l a k (key_above next y n) = read_turns l l next _ refl n
  turn s l a k (left_over_gone_by next y n) = read_turns l l next _ refl n
  turn s l a k (gathers_left_over next n) = read_turns l (gathering z (value_of_word (v (name.Value l.row l.place))) l) next _ refl n
  turn s l a k (clears_scan answer) = leaves_reading (answer_or_stopped answer choice) tt refl refl refl
  turn s l a k (finds_full e) = comes_to tt refl refl
  turn s l a k (takes_full e) = comes_to tt refl refl
  turn s l a k (announces_full d) = comes_to tt refl refl
  turn s l a k (stamps_full n) = comes_to tt refl refl
  turn s l a k (tidies rows e) = is_done (inl refl)
  turn s l a k (leaves answer) = ends_call answer refl refl
  turn s l a k (clock_is_spent o n) = finds_spent tt refl refl
  turn s l a k (epoch_is_spent o n) = finds_spent tt refl refl
  turn s l a k (ends_at_clock e) = is_done (inr e)
  turn s l a k (ends_at_epoch e) = is_done (inr e)
  turn s l a k (finds_other_state n) = finds_gone tt refl refl
  turn s l a k (ends_at_state e) = is_done (inr e)
  turn s l a k (marks_led count next d n) = counted_turns l (followed_by (next_in v l.row) l) next _ count refl n
  turn s l a k (decides count m next e n) = counted_turns l l next _ _ refl n
  turn s l a k (decides_not count n) = finds_gone tt refl refl
  turn s l a k (ends_undecided count e) = is_done (inr e)
  turn s l a k (claims_not n) = finds_gone tt refl refl
  turn s l a k (ends_unclaimed e) = is_done (inr e)
  turn s l a k (takes_leader q e) = goes_left tt (inl refl) refl
  turn s l a k (reaches_leader e) = goes_left tt (inr (refl, e)) refl
  turn s l a k (head_follows n e) = is_head refl e refl
  turn s l a k (ends_at_head e) = is_done (inr e)
  turn s l a k (none_is_left n e) = none_left refl e refl
  turn s l a k (ends_at_none e) = is_done (inr e)
  turn s l a k (passes_left n o) = goes_past refl o refl
  turn s l a k (ends_past e) = is_done (inr e)
  turn s l a k (remembers_last j c version next e o n) = frozen_turns l (marking z c version l) next _ refl n
  turn s l a k (sees_frozen_last j next e o n) = frozen_turns l l next _ refl n
  turn s l a k (freezes_last j next e o n) = frozen_turns l l next _ refl n
  turn s l a k (takes_no_more next e m n) = gathered_turns l l next _ refl n
  turn s l a k (keeps_no_more next m n) = gathered_turns l (keeping z (value_of_word (v (name.Value l.rebalance.hand l.place))) l) next _ refl n
  turn s l a k (builds b next y t) = goes_on y t
  turn s l a k (asks_of_pin next o n) = of_pin_turns l next n
  turn s l a k (looks_at_pin i next n) = pin_look_turns i _ l next n
  turn s l a k _ = stays refl refl
