-- What an arrow leaves of the call that a seat makes.
use Rattle.std.proofs.Common.{ℕ, ◌≡◌, ◌⊎◌, inl, inr, ◌*◌, ◌<◌, ◌==◌, ◌&&◌, Bool, true, false, Some, nat_lt, refl, sym, subst, slice_get, if◌then◌else◌, ◌≤◌, Option, None, arith, ◌∙◌}
use Rattle.kw_world.specs.declared.activity.Activity.{Activity}
use Rattle.kw_world.specs.declared.activity.put.Put.TheVariants as Put
use Rattle.kw_world.specs.declared.answer.Answer.TheVariants.{Absent, Done, NoRows, Pairs, Spent, Stopped, Value, Held, NotPinned}
use Rattle.kw_world.specs.declared.event.Choice.{Choice}
use Rattle.kw_world.specs.declared.event.Choice.TheVariants.{Begin, Go, Guess, Stop}
use Rattle.kw_world.specs.declared.limits.TheConstants.{TIDY_SHARE}
use Rattle.kw_world.specs.declared.local.Local.{Local}
use Rattle.kw_world.specs.EngageTransitions.{to_rebalance}
use Rattle.kw_world.specs.PutTransitions.{tidies_row}
use Rattle.kw_world.specs.Sizes.{Sizes}
use Rattle.kw_world.specs.Step.{word}
use Rattle.kw_world.specs.Transition.{Outcome, leave}
use Rattle.kw_core.specs.Run.{Run}
use Rattle.kw_core.specs.Stages.{IsBalancing, IsDone, IsPublished, IsPutClear, IsUnderway}
use Rattle.kw_core.specs.Words.{Words}
use Rattle.kw_core.proofs.Arrows.{Arrow, IsNotOwn, NextLeftOver, NextLook, answers, begins, begins_left, below, builds, claims_next, claims_not, clears, clears_scan, clock_is_spent, clock_serves, counts_next, decides, decides_not, draws_for, ends_at_clock, ends_at_epoch, ends_at_head, ends_at_none, ends_at_state, ends_past, ends_scan, ends_unclaimed, ends_undecided, engages, enters_again, epoch_is_spent, epoch_serves, finds_drawn, finds_drawn_last, finds_follower, finds_infant, finds_leader, finds_no_scan, finds_no_scan_last, finds_normal, finds_other, finds_other_state, finds_stamped, first_ends, first_reaches, first_sees_none, freezes_count, freezes_entry, freezes_last, gathers_left_over, goes_to_left_over, head_follows, helps, helps_scan, inserts, inserts_at_first, inserts_behind, is_engaged, is_gone_by, is_stamped, keeps_left, keeps_no_more, keeps_taken, key_above, key_after, key_before, key_same, leads_left, leaves, left_over_gone_by, list_ends, lists, loads_clock, looks, looks_again, loses, marks_last, marks_led, marks_link, marks_next, next_is_infant, next_leads, none_is_left, normalises, normalises_next, passes_left, reaches_cell, reaches_leader, remembers, remembers_last, scans_on, sees_drawn, sees_drawn_last, sees_frozen, sees_frozen_last, sees_idle, sees_neither, sees_none, sees_quiet, sees_quiet_last, sees_stamped, sees_unstamped, settles_last, settles_scan, stamps, stamps_full, stores_after, stores_version, take_leads, takes_key, takes_leader, takes_left, takes_left_key, takes_no_more, takes_version, tidies, version_after, version_before, walks_left, asks_of_pin, looks_at_pin, clears_pin, stores_pin}
use Rattle.kw_core.proofs.Grouping.{counted_goes, frozen_goes, gathered_goes, NextCounted, claims_row, goes_alone, NextFrozen, freezes_ahead, froze_all, NextGathered, gathers_ahead, gathered_all}
use Rattle.kw_core.proofs.Building.{IsBuilding, Building, first_is_taken, sought_is_taken, pass_is_old, pass_is_young, takes_row, loses_row, gives_last_back, writes_first, writes_entry, writes_no_cell, writes_after, begins_before, takes_head_before, leads_on_marked, leads_nowhere, walks_past, is_marked_before, is_replaced}
use Rattle.kw_core.proofs.BuiltNext.{built_goes}
use Rattle.kw_core.proofs.Happens.{Happens}
use Rattle.kw_shape.specs.Shape.{IsKind, IsPairs, Shape}
use Rattle.kw_words.specs.declared.layout.Name.TheVariants as name
use Rattle.kw_world.specs.declared.answer.Answer.{Answer}
use Rattle.kw_world.specs.Answers.{answer_found}
use Rattle.kw_world.specs.ScanTransitions.{answer_or_stopped}
use Rattle.kw_shape.proofs.AfterBuilding.{built_unpublished, of_pin_goes, look_goes}
use Rattle.kw_core.proofs.NextBuilt.{GivenBack, tries_again, was_done, is_refused_rows, was_served, moves_left, NextBack, gives_back, has_none, NextSeek, asks, has_asked, NextTaken, wants_more, has_enough, NextPass, looks_on, has_looked, NextNewRow, writes_row, has_written, NextNewCell, fills, empties, has_cells, NextNewEntry, writes_idle, has_entries, NextBefore, is_first, is_behind}
use Rattle.kw_world.specs.declared.rebalance.Afterwards.{Afterwards}

-- the next cell is one of the same call
pub cell_call : (l : Local) (k : Local) → NextLeftOver l k → (k.call ≡ l.call) × (k.number ≡ l.number)
cell_call l k (goes_to_left_over m w) = (refl, refl)
cell_call l k (answers w e) = (refl, refl)
cell_call l k (ends_scan w e f) = (refl, refl)
cell_call l k (scans_on r w e f o) = (refl, refl)

-- a call goes on as it is until it ends
pub arrow_call : (z : Sizes) (v : Words) (s : ℕ) (choice : Choice) (l : Local) (a : Activity) (k : Local) → Arrow z v s choice l a k → IsUnderway a → (k.call ≡ l.call) × (k.number ≡ l.number)
arrow_call z v s choice l a k (builds b next y t) u = let g = built_goes z v choice l b next t in (g.call, g.number)
arrow_call z v s choice l a k (begins call e b) u = absurd u
arrow_call z v s choice l a k (leaves answer) u = absurd u
arrow_call z v s choice l a k (first_ends next e n) u = let x = cell_call _ _ n in (x.0, x.1)
arrow_call z v s choice l a k (list_ends next e n) u = let x = cell_call _ _ n in (x.0, x.1)
arrow_call z v s choice l a k (key_above next e n) u = cell_call _ _ n
arrow_call z v s choice l a k (left_over_gone_by next e n) u = cell_call _ _ n
arrow_call z v s choice l a k (gathers_left_over next n) u = let x = cell_call _ _ n in (x.0, x.1)
arrow_call z v s choice l a k (remembers_last j c version next e o n) u = let g = frozen_goes _ _ n in (g.call, g.number)
arrow_call z v s choice l a k (sees_frozen_last j next e o n) u = let g = frozen_goes _ _ n in (g.call, g.number)
arrow_call z v s choice l a k (freezes_last j next e o n) u = let g = frozen_goes _ _ n in (g.call, g.number)
arrow_call z v s choice l a k (takes_no_more next e f n) u = let g = gathered_goes z _ _ n in (g.call, g.number)
arrow_call z v s choice l a k (keeps_no_more next f n) u = let g = gathered_goes z _ _ n in (g.call, g.number)
arrow_call z v s choice l a k (marks_led count next d n) u = let g = counted_goes _ _ _ n in (g.call, g.number)
arrow_call z v s choice l a k (decides count m next e n) u = let g = counted_goes _ _ _ n in (g.call, g.number)
arrow_call z v s choice l a k (asks_of_pin next c n) u = let g = of_pin_goes _ _ n in (g.call, g.number)
arrow_call z v s choice l a k (looks_at_pin j next n) u = let g = look_goes z _ _ _ _ n in (g.call, g.number)
arrow_call z v s choice l a k _ u = (refl, refl)

-- a seat begins at most one call at an event
pub arrow_number : (z : Sizes) (v : Words) (s : ℕ) (choice : Choice) (l : Local) (a : Activity) (k : Local) → Arrow z v s choice l a k → l.number ≤ k.number
arrow_number z v s choice l a k (builds b next y t) = omega (arith, (built_goes z v choice l b next t).number)
arrow_number z v s choice l a k (first_ends next e n) = let x = cell_call _ _ n in omega (arith, x.1)
arrow_number z v s choice l a k (list_ends next e n) = let x = cell_call _ _ n in omega (arith, x.1)
arrow_number z v s choice l a k (key_above next e n) = let x = cell_call _ _ n in omega (arith, x.1)
arrow_number z v s choice l a k (left_over_gone_by next e n) = let x = cell_call _ _ n in omega (arith, x.1)
arrow_number z v s choice l a k (gathers_left_over next n) = let x = cell_call _ _ n in omega (arith, x.1)
arrow_number z v s choice l a k (remembers_last j c version next e o n) = let g = frozen_goes _ _ n in omega (arith, g.number)
arrow_number z v s choice l a k (sees_frozen_last j next e o n) = let g = frozen_goes _ _ n in omega (arith, g.number)
arrow_number z v s choice l a k (freezes_last j next e o n) = let g = frozen_goes _ _ n in omega (arith, g.number)
arrow_number z v s choice l a k (takes_no_more next e f n) = let g = gathered_goes z _ _ n in omega (arith, g.number)
arrow_number z v s choice l a k (keeps_no_more next f n) = let g = gathered_goes z _ _ n in omega (arith, g.number)
arrow_number z v s choice l a k (marks_led count next d n) = let g = counted_goes _ _ _ n in omega (arith, g.number)
arrow_number z v s choice l a k (decides count m next e n) = let g = counted_goes _ _ _ n in omega (arith, g.number)
arrow_number z v s choice l a k (asks_of_pin next c n) = let g = of_pin_goes _ _ n in omega (arith, g.number)
arrow_number z v s choice l a k (looks_at_pin j next n) = let g = look_goes z _ _ _ _ n in omega (arith, g.number)
arrow_number z v s choice l a k _ = omega arith

-- a put that has announced its cell goes on to its end, where the entry is its own
pub arrow_published : (z : Sizes) (v : Words) (s : ℕ) (choice : Choice) (l : Local) (a : Activity) (k : Local) → Arrow z v s choice l a k → (IsNotOwn l.cell (v (name.Pend l.row s)) → a ≡ Activity.Put Put.Stamp → ⊥) → IsPublished a → IsPublished k.activity ⊎ IsDone k.activity ⊎ IsBalancing k.activity × (k.tidies ≡ true)
arrow_published z v s choice l a k (builds b next y t) f p = absurd (built_unpublished b y p)
arrow_published z v s choice l a k loads_clock f p = inl tt
arrow_published z v s choice l a k (stamps e) f p = inl tt
arrow_published z v s choice l a k (is_stamped version e) f p = inl tt
arrow_published z v s choice l a k (stamps_full n) f p = absurd (f n refl)
arrow_published z v s choice l a k stores_version f p = inl tt
arrow_published z v s choice l a k (first_reaches c e) f p = inl tt
arrow_published z v s choice l a k (reaches_cell c e) f p = inl tt
arrow_published z v s choice l a k (first_sees_none e) f p = inl tt
arrow_published z v s choice l a k (sees_none e) f p = inl tt
arrow_published z v s choice l a k (inserts_behind guess inside e) f p = inl tt
arrow_published z v s choice l a k (inserts_at_first guess e) f p = inl tt
arrow_published z v s choice l a k (key_before e) f p = inl tt
arrow_published z v s choice l a k (key_same e) f p = inl tt
arrow_published z v s choice l a k (key_after e) f p = inl tt
arrow_published z v s choice l a k (version_before e) f p = inl tt
arrow_published z v s choice l a k (version_after e) f p = inl tt
arrow_published z v s choice l a k stores_after f p = inl tt
arrow_published z v s choice l a k (inserts e) f p = inl tt
arrow_published z v s choice l a k (loses e) f p = inl tt
arrow_published z v s choice l a k clears f p = inr (inl tt)
arrow_published z v s choice l a k (tidies rows e) f p = inr (inr (tt, refl))
arrow_published z v s choice l a k _ f p = absurd p

-- what a get found is not the answer of a put
pub found_not_done : (x : Option ℕ) → IsDone (Activity.Leave (answer_found x)) → ⊥
found_not_done (Some v) d = d
found_not_done None d = d

-- a look at the next entry is not the end of a put
next_look_done : (z : Sizes) (j : ℕ) (next : Activity) → NextLook z j next → IsDone next → ⊥
next_look_done z j next (looks w) d = d
next_look_done z j next (lists w) d = d

-- nor is what follows a cell
next_cell_done : (l : Local) (k : Local) → NextLeftOver l k → IsDone k.activity → ⊥
next_cell_done l k (goes_to_left_over m w) d = d
next_cell_done l k (answers w e) d = found_not_done _ d
next_cell_done l k (ends_scan w e f) d = d
next_cell_done l k (scans_on r w e f o) d = d

-- a scan that is over, or stopped, is not done as a put is
pub cleared_not_done : (answer : Answer) (choice : Choice) → IsPairs answer → IsDone (Activity.Leave (answer_or_stopped answer choice)) → ⊥
cleared_not_done Pairs (Begin call) p d = d
cleared_not_done Pairs Go p d = d
cleared_not_done Pairs (Guess q) p d = d
cleared_not_done Pairs Stop p d = d
cleared_not_done Done choice p d = p
cleared_not_done (Value v) choice p d = p
cleared_not_done Absent choice p d = p
cleared_not_done NoRows choice p d = p
cleared_not_done Spent choice p d = p
cleared_not_done Stopped choice p d = p
cleared_not_done Held choice p d = p
cleared_not_done NotPinned choice p d = p

-- a seat that rebalances a row is not done
balancing_not_done : (a : Activity) → IsBalancing a → IsDone a → ⊥
balancing_not_done (Activity.Rebalance b) x d = d
balancing_not_done _ x d = x

-- only a put that has cleared its entry is done
pub arrow_done : (z : Sizes) (v : Words) (s : ℕ) (choice : Choice) (l : Local) (a : Activity) (k : Local) → Arrow z v s choice l a k → IsKind a l → IsDone k.activity → IsPutClear a ⊎ (l.tidies ≡ true)
arrow_done z v s choice l a k (builds b next y t) n d = inr ((built_goes z v choice l b next t).done d)
arrow_done z v s choice l a k clears n d = inl tt
arrow_done z v s choice l a k (ends_at_clock e) n d = inr e
arrow_done z v s choice l a k (ends_at_epoch e) n d = inr e
arrow_done z v s choice l a k (ends_at_state e) n d = inr e
arrow_done z v s choice l a k (ends_undecided count e) n d = inr e
arrow_done z v s choice l a k (ends_unclaimed e) n d = inr e
arrow_done z v s choice l a k (ends_at_head e) n d = inr e
arrow_done z v s choice l a k (ends_at_none e) n d = inr e
arrow_done z v s choice l a k (ends_past e) n d = inr e
arrow_done z v s choice l a k (remembers_last j c version next e o x) n d = absurd (balancing_not_done _ (frozen_goes _ _ x).next d)
arrow_done z v s choice l a k (sees_frozen_last j next e o x) n d = absurd (balancing_not_done _ (frozen_goes _ _ x).next d)
arrow_done z v s choice l a k (freezes_last j next e o x) n d = absurd (balancing_not_done _ (frozen_goes _ _ x).next d)
arrow_done z v s choice l a k (takes_no_more next e f x) n d = absurd (balancing_not_done _ (gathered_goes z _ _ x).next d)
arrow_done z v s choice l a k (keeps_no_more next f x) n d = absurd (balancing_not_done _ (gathered_goes z _ _ x).next d)
arrow_done z v s choice l a k (marks_led count next e x) n d = absurd (balancing_not_done _ (counted_goes _ _ _ x).next d)
arrow_done z v s choice l a k (decides count m next e x) n d = absurd (balancing_not_done _ (counted_goes _ _ _ x).next d)
arrow_done z v s choice l a k (clears_scan answer) n d = absurd (cleared_not_done answer choice n.1 d)
arrow_done z v s choice l a k (first_ends next e x) n d = absurd (next_cell_done _ _ x d)
arrow_done z v s choice l a k (list_ends next e x) n d = absurd (next_cell_done _ _ x d)
arrow_done z v s choice l a k (key_above next e x) n d = absurd (next_cell_done _ _ x d)
arrow_done z v s choice l a k (left_over_gone_by next e x) n d = absurd (next_cell_done _ _ x d)
arrow_done z v s choice l a k (gathers_left_over next x) n d = absurd (next_cell_done _ _ x d)
arrow_done z v s choice l a k (sees_stamped j c version next e x) n d = absurd (next_look_done z _ next x d)
arrow_done z v s choice l a k (sees_neither j next e x) n d = absurd (next_look_done z _ next x d)
arrow_done z v s choice l a k (is_gone_by next e x) n d = absurd (next_look_done z _ next x d)
arrow_done z v s choice l a k (helps next e x) n d = absurd (next_look_done z _ next x d)
arrow_done z v s choice l a k (finds_stamped c version next e x) n d = absurd (next_look_done z _ next x d)
arrow_done z v s choice l a k (finds_other next e x) n d = absurd (next_look_done z _ next x d)
arrow_done z v s choice l a k (asks_of_pin next c x) n d = absurd ((of_pin_goes _ _ x).done d)
arrow_done z v s choice l a k clears_pin n d = absurd n
arrow_done z v s choice l a k (looks_at_pin j next x) n d = absurd n
arrow_done z v s choice l a k _ n d = absurd d

-- a seat that tidies goes on with that, until its put is done
pub arrow_tidies : (z : Sizes) (v : Words) (s : ℕ) (choice : Choice) (l : Local) (a : Activity) (k : Local) → Arrow z v s choice l a k → IsBalancing a → l.tidies ≡ true → IsDone k.activity ⊎ IsBalancing k.activity × (k.tidies ≡ true)
arrow_tidies z v s choice l a k (builds b next y t) x e = let g = built_goes z v choice l b next t in on (g.goes e)
  where
    on : IsBalancing k.activity ⊎ IsDone k.activity → IsDone k.activity ⊎ IsBalancing k.activity × (k.tidies ≡ true)
    on (inl o) = let g = built_goes z v choice l b next t in inr (o, g.tidies ∙ e)
    on (inr d) = inl d
arrow_tidies z v s choice l a k (clock_is_spent f n) x e = let y : true ≡ false = sym e ∙ n in cc
arrow_tidies z v s choice l a k (ends_at_clock f) x e = inl tt
arrow_tidies z v s choice l a k (epoch_is_spent f n) x e = let y : true ≡ false = sym e ∙ n in cc
arrow_tidies z v s choice l a k (ends_at_epoch f) x e = inl tt
arrow_tidies z v s choice l a k (finds_other_state n) x e = let y : true ≡ false = sym e ∙ n in cc
arrow_tidies z v s choice l a k (ends_at_state f) x e = inl tt
arrow_tidies z v s choice l a k (decides_not count n) x e = let y : true ≡ false = sym e ∙ n in cc
arrow_tidies z v s choice l a k (ends_undecided count f) x e = inl tt
arrow_tidies z v s choice l a k (clock_serves q0) x e = inr (tt, e)
arrow_tidies z v s choice l a k (epoch_serves q0) x e = inr (tt, e)
arrow_tidies z v s choice l a k (finds_infant q0 q1) x e = inr (tt, e)
arrow_tidies z v s choice l a k (finds_normal q0) x e = inr (tt, e)
arrow_tidies z v s choice l a k (finds_leader q0 q1) x e = inr (tt, e)
arrow_tidies z v s choice l a k (finds_follower q0 q1) x e = inr (tt, e)
arrow_tidies z v s choice l a k (normalises q0) x e = inr (tt, e)
arrow_tidies z v s choice l a k (engages q0) x e = inr (tt, e)
arrow_tidies z v s choice l a k (is_engaged q0) x e = inr (tt, e)
arrow_tidies z v s choice l a k (marks_link q0 q1 q2 q3) x e = inr (tt, e)
arrow_tidies z v s choice l a k (marks_last q0 q1 q2) x e = inr (tt, e)
arrow_tidies z v s choice l a k (marks_led count next d n) x e = let g = counted_goes _ _ _ n in inr (g.next, g.tidies ∙ e)
arrow_tidies z v s choice l a k (decides count m next o n) x e = let g = counted_goes _ _ _ n in inr (g.next, g.tidies ∙ e)
arrow_tidies z v s choice l a k freezes_count x e = inr (tt, e)
arrow_tidies z v s choice l a k (sees_idle q0 q1) x e = inr (tt, e)
arrow_tidies z v s choice l a k (sees_unstamped q0 q1 q2) x e = inr (tt, e)
arrow_tidies z v s choice l a k (remembers q0 q1 q2 q3 q4) x e = inr (tt, e)
arrow_tidies z v s choice l a k (sees_frozen q0 q1 q2) x e = inr (tt, e)
arrow_tidies z v s choice l a k (freezes_entry q0 q1 q2) x e = inr (tt, e)
arrow_tidies z v s choice l a k (looks_again q0 q1) x e = inr (tt, e)
arrow_tidies z v s choice l a k (sees_quiet q0 q1 q2) x e = inr (tt, e)
arrow_tidies z v s choice l a k (sees_quiet_last q0 q1 q2) x e = inr (tt, e)
arrow_tidies z v s choice l a k (helps_scan q0 q1 q2) x e = inr (tt, e)
arrow_tidies z v s choice l a k (sees_drawn q0 q1 q2 q3) x e = inr (tt, e)
arrow_tidies z v s choice l a k (sees_drawn_last q0 q1 q2 q3) x e = inr (tt, e)
arrow_tidies z v s choice l a k (draws_for q0) x e = inr (tt, e)
arrow_tidies z v s choice l a k (settles_scan q0 q1 q2) x e = inr (tt, e)
arrow_tidies z v s choice l a k (settles_last q0 q1 q2) x e = inr (tt, e)
arrow_tidies z v s choice l a k (finds_drawn q0 q1 q2 q3) x e = inr (tt, e)
arrow_tidies z v s choice l a k (finds_drawn_last q0 q1 q2 q3) x e = inr (tt, e)
arrow_tidies z v s choice l a k (finds_no_scan q0 q1 q2) x e = inr (tt, e)
arrow_tidies z v s choice l a k (finds_no_scan_last q0 q1 q2) x e = inr (tt, e)
arrow_tidies z v s choice l a k (take_leads q0 q1) x e = inr (tt, e)
arrow_tidies z v s choice l a k (takes_left q0 q1 q2 q3) x e = inr (tt, e)
arrow_tidies z v s choice l a k takes_key x e = inr (tt, e)
arrow_tidies z v s choice l a k takes_version x e = inr (tt, e)
arrow_tidies z v s choice l a k keeps_taken x e = inr (tt, e)
arrow_tidies z v s choice l a k takes_left_key x e = inr (tt, e)
arrow_tidies z v s choice l a k (keeps_left q0 q1 q2) x e = inr (tt, e)
arrow_tidies z v s choice l a k (remembers_last j c version next q0 q1 n) x e = let g = frozen_goes _ _ n in inr (g.next, g.tidies ∙ e)
arrow_tidies z v s choice l a k (sees_frozen_last j next q0 q1 n) x e = let g = frozen_goes _ _ n in inr (g.next, g.tidies ∙ e)
arrow_tidies z v s choice l a k (freezes_last j next q0 q1 n) x e = let g = frozen_goes _ _ n in inr (g.next, g.tidies ∙ e)
arrow_tidies z v s choice l a k (takes_no_more next q0 q1 n) x e = let g = gathered_goes z _ _ n in inr (g.next, g.tidies ∙ e)
arrow_tidies z v s choice l a k (keeps_no_more next q0 n) x e = let g = gathered_goes z _ _ n in inr (g.next, g.tidies ∙ e)
arrow_tidies z v s choice l a k counts_next x e = inr (tt, e)
arrow_tidies z v s choice l a k (claims_next q0) x e = inr (tt, e)
arrow_tidies z v s choice l a k (next_is_infant q0 q1) x e = inr (tt, e)
arrow_tidies z v s choice l a k (next_leads q0 q1) x e = inr (tt, e)
arrow_tidies z v s choice l a k (normalises_next q0) x e = inr (tt, e)
arrow_tidies z v s choice l a k marks_next x e = inr (tt, e)
arrow_tidies z v s choice l a k (begins_left q0 q1 q2) x e = inr (tt, e)
arrow_tidies z v s choice l a k (takes_leader q0 q1) x e = inr (tt, e)
arrow_tidies z v s choice l a k (reaches_leader q0) x e = inr (tt, e)
arrow_tidies z v s choice l a k (leads_left q0 q1 q2) x e = inr (tt, e)
arrow_tidies z v s choice l a k (walks_left q0) x e = inr (tt, e)
arrow_tidies z v s choice l a k (claims_not n) x e = let y : true ≡ false = sym e ∙ n in cc
arrow_tidies z v s choice l a k (head_follows n q0) x e = let y : true ≡ false = sym e ∙ n in cc
arrow_tidies z v s choice l a k (none_is_left n q0) x e = let y : true ≡ false = sym e ∙ n in cc
arrow_tidies z v s choice l a k (passes_left n q0) x e = let y : true ≡ false = sym e ∙ n in cc
arrow_tidies z v s choice l a k (ends_unclaimed q0) x e = inl tt
arrow_tidies z v s choice l a k (ends_at_head q0) x e = inl tt
arrow_tidies z v s choice l a k (ends_at_none q0) x e = inl tt
arrow_tidies z v s choice l a k (ends_past q0) x e = inl tt
arrow_tidies z v s choice l a k (looks_at_pin j next n) x e = let g = look_goes z _ _ _ _ n in inr (g.next, g.tidies ∙ e)
arrow_tidies z v s choice l a k _ x e = absurd x

-- what the next cell leaves of the bit
cell_tidies : (l : Local) (k : Local) → NextLeftOver l k → k.tidies ≡ l.tidies
cell_tidies l k (goes_to_left_over m w) = refl
cell_tidies l k (answers w e) = refl
cell_tidies l k (ends_scan w e f) = refl
cell_tidies l k (scans_on r w e f o) = refl

-- where nobody tidies
nobody : (A : Type 0) → ⊥ ⊎ ⊥ → A
nobody A (inl x) = absurd x
nobody A (inr x) = absurd x

-- a seat that tidies rebalances its row, or is done
pub arrow_tidied : (z : Sizes) (v : Words) (s : ℕ) (choice : Choice) (l : Local) (a : Activity) (k : Local) → Arrow z v s choice l a k → (l.tidies ≡ true → IsBalancing a ⊎ IsDone a) → k.tidies ≡ true → IsBalancing k.activity ⊎ IsDone k.activity
arrow_tidied z v s choice l a k (builds b next y t) f e = let g = built_goes z v choice l b next t in g.goes (sym g.tidies ∙ e)
arrow_tidied z v s choice l a k (clock_serves q0) f e = inl tt
arrow_tidied z v s choice l a k (epoch_serves q0) f e = inl tt
arrow_tidied z v s choice l a k (finds_infant q0 q1) f e = inl tt
arrow_tidied z v s choice l a k (finds_normal q0) f e = inl tt
arrow_tidied z v s choice l a k (finds_leader q0 q1) f e = inl tt
arrow_tidied z v s choice l a k (finds_follower q0 q1) f e = inl tt
arrow_tidied z v s choice l a k (normalises q0) f e = inl tt
arrow_tidied z v s choice l a k (engages q0) f e = inl tt
arrow_tidied z v s choice l a k (is_engaged q0) f e = inl tt
arrow_tidied z v s choice l a k (marks_link q0 q1 q2 q3) f e = inl tt
arrow_tidied z v s choice l a k (marks_last q0 q1 q2) f e = inl tt
arrow_tidied z v s choice l a k (marks_led count next d n) f e = inl (counted_goes _ _ _ n).next
arrow_tidied z v s choice l a k (decides count m next o n) f e = inl (counted_goes _ _ _ n).next
arrow_tidied z v s choice l a k freezes_count f e = inl tt
arrow_tidied z v s choice l a k (sees_idle q0 q1) f e = inl tt
arrow_tidied z v s choice l a k (sees_unstamped q0 q1 q2) f e = inl tt
arrow_tidied z v s choice l a k (remembers q0 q1 q2 q3 q4) f e = inl tt
arrow_tidied z v s choice l a k (sees_frozen q0 q1 q2) f e = inl tt
arrow_tidied z v s choice l a k (freezes_entry q0 q1 q2) f e = inl tt
arrow_tidied z v s choice l a k (looks_again q0 q1) f e = inl tt
arrow_tidied z v s choice l a k (sees_quiet q0 q1 q2) f e = inl tt
arrow_tidied z v s choice l a k (sees_quiet_last q0 q1 q2) f e = inl tt
arrow_tidied z v s choice l a k (helps_scan q0 q1 q2) f e = inl tt
arrow_tidied z v s choice l a k (sees_drawn q0 q1 q2 q3) f e = inl tt
arrow_tidied z v s choice l a k (sees_drawn_last q0 q1 q2 q3) f e = inl tt
arrow_tidied z v s choice l a k (draws_for q0) f e = inl tt
arrow_tidied z v s choice l a k (settles_scan q0 q1 q2) f e = inl tt
arrow_tidied z v s choice l a k (settles_last q0 q1 q2) f e = inl tt
arrow_tidied z v s choice l a k (finds_drawn q0 q1 q2 q3) f e = inl tt
arrow_tidied z v s choice l a k (finds_drawn_last q0 q1 q2 q3) f e = inl tt
arrow_tidied z v s choice l a k (finds_no_scan q0 q1 q2) f e = inl tt
arrow_tidied z v s choice l a k (finds_no_scan_last q0 q1 q2) f e = inl tt
arrow_tidied z v s choice l a k (take_leads q0 q1) f e = inl tt
arrow_tidied z v s choice l a k (takes_left q0 q1 q2 q3) f e = inl tt
arrow_tidied z v s choice l a k takes_key f e = inl tt
arrow_tidied z v s choice l a k takes_version f e = inl tt
arrow_tidied z v s choice l a k keeps_taken f e = inl tt
arrow_tidied z v s choice l a k takes_left_key f e = inl tt
arrow_tidied z v s choice l a k (keeps_left q0 q1 q2) f e = inl tt
arrow_tidied z v s choice l a k (remembers_last j c version next q0 q1 n) f e = inl (frozen_goes _ _ n).next
arrow_tidied z v s choice l a k (sees_frozen_last j next q0 q1 n) f e = inl (frozen_goes _ _ n).next
arrow_tidied z v s choice l a k (freezes_last j next q0 q1 n) f e = inl (frozen_goes _ _ n).next
arrow_tidied z v s choice l a k (takes_no_more next x y n) f e = inl (gathered_goes z _ _ n).next
arrow_tidied z v s choice l a k (keeps_no_more next x n) f e = inl (gathered_goes z _ _ n).next
arrow_tidied z v s choice l a k counts_next f e = inl tt
arrow_tidied z v s choice l a k (claims_next q0) f e = inl tt
arrow_tidied z v s choice l a k (next_is_infant q0 q1) f e = inl tt
arrow_tidied z v s choice l a k (next_leads q0 q1) f e = inl tt
arrow_tidied z v s choice l a k (normalises_next q0) f e = inl tt
arrow_tidied z v s choice l a k marks_next f e = inl tt
arrow_tidied z v s choice l a k (begins_left q0 q1 q2) f e = inl tt
arrow_tidied z v s choice l a k (takes_leader q0 q1) f e = inl tt
arrow_tidied z v s choice l a k (reaches_leader q0) f e = inl tt
arrow_tidied z v s choice l a k (leads_left q0 q1 q2) f e = inl tt
arrow_tidied z v s choice l a k (walks_left q0) f e = inl tt
arrow_tidied z v s choice l a k (claims_not n) f e = let y : true ≡ false = sym e ∙ n in cc
arrow_tidied z v s choice l a k (head_follows n q0) f e = let y : true ≡ false = sym e ∙ n in cc
arrow_tidied z v s choice l a k (none_is_left n q0) f e = let y : true ≡ false = sym e ∙ n in cc
arrow_tidied z v s choice l a k (passes_left n q0) f e = let y : true ≡ false = sym e ∙ n in cc
arrow_tidied z v s choice l a k (ends_unclaimed q0) f e = inr tt
arrow_tidied z v s choice l a k (ends_at_head q0) f e = inr tt
arrow_tidied z v s choice l a k (ends_at_none q0) f e = inr tt
arrow_tidied z v s choice l a k (ends_past q0) f e = inr tt
arrow_tidied z v s choice l a k (clock_is_spent o n) f e = let y : true ≡ false = sym e ∙ n in cc
arrow_tidied z v s choice l a k (epoch_is_spent o n) f e = let y : true ≡ false = sym e ∙ n in cc
arrow_tidied z v s choice l a k (finds_other_state n) f e = let y : true ≡ false = sym e ∙ n in cc
arrow_tidied z v s choice l a k (decides_not count n) f e = let y : true ≡ false = sym e ∙ n in cc
arrow_tidied z v s choice l a k (ends_at_clock o) f e = inr tt
arrow_tidied z v s choice l a k (ends_at_epoch o) f e = inr tt
arrow_tidied z v s choice l a k (ends_at_state o) f e = inr tt
arrow_tidied z v s choice l a k (ends_undecided count o) f e = inr tt
arrow_tidied z v s choice l a k clears f e = inr tt
arrow_tidied z v s choice l a k (tidies rows o) f e = inl tt
arrow_tidied z v s choice l a k (leaves answer) f e = let y : false ≡ true = e in cc
arrow_tidied z v s choice l a k (first_ends next o n) f e = nobody _ (f (sym (cell_tidies _ _ n) ∙ e))
arrow_tidied z v s choice l a k (list_ends next o n) f e = nobody _ (f (sym (cell_tidies _ _ n) ∙ e))
arrow_tidied z v s choice l a k (key_above next o n) f e = nobody _ (f (sym (cell_tidies _ _ n) ∙ e))
arrow_tidied z v s choice l a k (left_over_gone_by next o n) f e = nobody _ (f (sym (cell_tidies _ _ n) ∙ e))
arrow_tidied z v s choice l a k (gathers_left_over next n) f e = nobody _ (f (sym (cell_tidies _ _ n) ∙ e))
arrow_tidied z v s choice l a k (asks_of_pin next c n) f e = nobody _ (f (sym (of_pin_goes _ _ n).tidies ∙ e))
arrow_tidied z v s choice l a k (looks_at_pin j next n) f e = inl (look_goes z _ _ _ _ n).next
arrow_tidied z v s choice l a k _ f e = nobody _ (f e)

-- it did so before, or clears its entry now
pub arrow_from : (z : Sizes) (v : Words) (s : ℕ) (choice : Choice) (l : Local) (a : Activity) (k : Local) → Arrow z v s choice l a k → k.tidies ≡ true → IsPutClear a ⊎ (l.tidies ≡ true)
arrow_from z v s choice l a k (builds b next y t) e = let g = built_goes z v choice l b next t in inr (sym g.tidies ∙ e)
arrow_from z v s choice l a k (tidies rows o) e = inl tt
arrow_from z v s choice l a k (leaves answer) e = let y : false ≡ true = e in cc
arrow_from z v s choice l a k (first_ends next o n) e = inr (sym (cell_tidies _ _ n) ∙ e)
arrow_from z v s choice l a k (list_ends next o n) e = inr (sym (cell_tidies _ _ n) ∙ e)
arrow_from z v s choice l a k (key_above next o n) e = inr (sym (cell_tidies _ _ n) ∙ e)
arrow_from z v s choice l a k (left_over_gone_by next o n) e = inr (sym (cell_tidies _ _ n) ∙ e)
arrow_from z v s choice l a k (gathers_left_over next n) e = inr (sym (cell_tidies _ _ n) ∙ e)
arrow_from z v s choice l a k (remembers_last j c version next x o n) e = inr (sym (frozen_goes _ _ n).tidies ∙ e)
arrow_from z v s choice l a k (sees_frozen_last j next x o n) e = inr (sym (frozen_goes _ _ n).tidies ∙ e)
arrow_from z v s choice l a k (freezes_last j next x o n) e = inr (sym (frozen_goes _ _ n).tidies ∙ e)
arrow_from z v s choice l a k (takes_no_more next x f n) e = inr (sym (gathered_goes z _ _ n).tidies ∙ e)
arrow_from z v s choice l a k (keeps_no_more next f n) e = inr (sym (gathered_goes z _ _ n).tidies ∙ e)
arrow_from z v s choice l a k (marks_led count next d n) e = inr (sym (counted_goes _ _ _ n).tidies ∙ e)
arrow_from z v s choice l a k (decides count m next o n) e = inr (sym (counted_goes _ _ _ n).tidies ∙ e)
arrow_from z v s choice l a k (asks_of_pin next c n) e = inr (sym (of_pin_goes _ _ n).tidies ∙ e)
arrow_from z v s choice l a k (looks_at_pin j next n) e = inr (sym (look_goes z _ _ _ _ n).tidies ∙ e)
arrow_from z v s choice l a k _ e = inr e

-- No seat comes to hold a pin.

-- what follows where a part has no event of its own leaves the pin as it is
cell_pin : (l k : Local) → NextLeftOver l k → k.pin ≡ l.pin
cell_pin l k (goes_to_left_over m w) = refl
cell_pin l k (answers w e) = refl
cell_pin l k (ends_scan w e f) = refl
cell_pin l k (scans_on r w e f o) = refl

frozen_pin : (l k : Local) → NextFrozen l k → k.pin ≡ l.pin
frozen_pin l k (freezes_ahead r e) = refl
frozen_pin l k (froze_all e) = refl

gathered_pin : (z : Sizes) (l k : Local) → NextGathered z l k → k.pin ≡ l.pin
gathered_pin z l k (gathers_ahead r e) = refl
gathered_pin z l k (gathered_all e) = refl

counted_pin : (count : ℕ) (l k : Local) → NextCounted count l k → k.pin ≡ l.pin
counted_pin count l k (claims_row r m e) = refl
counted_pin count l k (goes_alone d) = refl

given_pin : (a : Afterwards) (l k : Local) → GivenBack l a k → k.pin ≡ l.pin
given_pin a l k (tries_again n) = refl
given_pin a l k (was_done d) = refl
given_pin a l k (is_refused_rows n) = refl
given_pin a l k (was_served d) = refl
given_pin a l k moves_left = refl

back_pin : (a : Afterwards) (l k : Local) → NextBack a l k → k.pin ≡ l.pin
back_pin a l k (gives_back o) = refl
back_pin a l k (has_none next e n) = given_pin a l next n

seek_pin : (rows : ℕ) (l k : Local) → NextSeek rows l k → k.pin ≡ l.pin
seek_pin rows l k (asks o) = refl
seek_pin rows l k (has_asked next o n) = back_pin _ l next n

taken_pin : (rows : ℕ) (l k : Local) → NextTaken rows l k → k.pin ≡ l.pin
taken_pin rows l k (wants_more next o n) = seek_pin rows l next n
taken_pin rows l k (has_enough o) = refl

pass_pin : (z : Sizes) (i : ℕ) (l k : Local) → NextPass z i l k → k.pin ≡ l.pin
pass_pin z i l k (looks_on o) = refl
pass_pin z i l k (has_looked o) = refl

row_pin : (l k : Local) → NextNewRow l k → k.pin ≡ l.pin
row_pin l k (writes_row o) = refl
row_pin l k (has_written o) = refl

new_cell_pin : (z : Sizes) (j : ℕ) (l k : Local) → NextNewCell z j l k → k.pin ≡ l.pin
new_cell_pin z j l k (fills o m) = refl
new_cell_pin z j l k (empties o m) = refl
new_cell_pin z j l k (has_cells next o n) = row_pin l next n

entry_pin : (z : Sizes) (i : ℕ) (l k : Local) → NextNewEntry z i l k → k.pin ≡ l.pin
entry_pin z i l k (writes_idle o) = refl
entry_pin z i l k (has_entries next o n) = new_cell_pin z 0 l next n

before_pin : (r : ℕ) (l k : Local) → NextBefore r l k → k.pin ≡ l.pin
before_pin r l k (is_first e) = refl
before_pin r l k (is_behind d) = refl

built_pin : (z : Sizes) (v : Words) (choice : Choice) (l : Local) (a : Activity) (k : Local) → Building z v choice l a k → k.pin ≡ l.pin
built_pin z v choice l a k (first_is_taken q rows next c d n) = seek_pin rows _ next n
built_pin z v choice l a k (sought_is_taken rows next d n) = seek_pin rows _ next n
built_pin z v choice l a k (pass_is_old i epoch rows next e o n) = seek_pin rows _ next n
built_pin z v choice l a k (pass_is_young i next y n) = pass_pin z _ _ next n
built_pin z v choice l a k (takes_row rows next e n) = taken_pin rows _ next n
built_pin z v choice l a k (loses_row rows next d n) = seek_pin rows _ next n
built_pin z v choice l a k (gives_last_back next o n) = given_pin _ _ next n
built_pin z v choice l a k (writes_first next n) = entry_pin z 0 _ next n
built_pin z v choice l a k (writes_entry i next n) = entry_pin z _ _ next n
built_pin z v choice l a k (writes_no_cell j next o n) = new_cell_pin z _ _ next n
built_pin z v choice l a k (writes_after j next n) = new_cell_pin z _ _ next n
built_pin z v choice l a k (begins_before next n) = before_pin _ _ next n
built_pin z v choice l a k (takes_head_before next n) = before_pin _ _ next n
built_pin z v choice l a k (leads_on_marked next e n) = back_pin _ _ next n
built_pin z v choice l a k (leads_nowhere next e n) = back_pin _ _ next n
built_pin z v choice l a k (walks_past next o n) = back_pin _ _ next n
built_pin z v choice l a k (is_marked_before next e n) = back_pin _ _ next n
built_pin z v choice l a k (is_replaced next d n) = back_pin _ _ next n
built_pin z v choice l a k _ = refl

-- a seat that holds none holds none after its event
pub arrow_pin : (z : Sizes) (v : Words) (s : ℕ) (choice : Choice) (l : Local) (a : Activity) (k : Local) → Arrow z v s choice l a k → IsKind a l → l.pin ≡ None → k.pin ≡ None
arrow_pin z v s choice l a k (builds b next y t) n e = built_pin z v choice l b next t ∙ e
arrow_pin z v s choice l a k stores_pin n e = absurd n
arrow_pin z v s choice l a k clears_pin n e = refl
arrow_pin z v s choice l a k (asks_of_pin next c x) n e = (of_pin_goes _ _ x).pin ∙ e
arrow_pin z v s choice l a k (looks_at_pin j next x) n e = absurd n
arrow_pin z v s choice l a k (first_ends next f x) n e = cell_pin _ _ x ∙ e
arrow_pin z v s choice l a k (list_ends next f x) n e = cell_pin _ _ x ∙ e
arrow_pin z v s choice l a k (key_above next f x) n e = cell_pin _ _ x ∙ e
arrow_pin z v s choice l a k (left_over_gone_by next f x) n e = cell_pin _ _ x ∙ e
arrow_pin z v s choice l a k (gathers_left_over next x) n e = cell_pin _ _ x ∙ e
arrow_pin z v s choice l a k (remembers_last j c version next f o x) n e = frozen_pin _ _ x ∙ e
arrow_pin z v s choice l a k (sees_frozen_last j next f o x) n e = frozen_pin _ _ x ∙ e
arrow_pin z v s choice l a k (freezes_last j next f o x) n e = frozen_pin _ _ x ∙ e
arrow_pin z v s choice l a k (takes_no_more next f m x) n e = gathered_pin z _ _ x ∙ e
arrow_pin z v s choice l a k (keeps_no_more next f x) n e = gathered_pin z _ _ x ∙ e
arrow_pin z v s choice l a k (marks_led count next d x) n e = counted_pin _ _ _ x ∙ e
arrow_pin z v s choice l a k (decides count m next f x) n e = counted_pin _ _ _ x ∙ e
arrow_pin z v s choice l a k _ n e = e

-- A seat that tidies was offered that: so many rows were retired before its visit that the table
-- has few for each number. It was so at its choice, and neither the rows nor the epoch of its visit
-- change.

-- a seat that rebalances keeps the epoch of its visit
balancing_epoch : (z : Sizes) (v : Words) (s : ℕ) (choice : Choice) (l : Local) (a : Activity) (k : Local) → Arrow z v s choice l a k → IsBalancing a → k.epoch ≡ l.epoch
balancing_epoch z v s choice l a k (builds b next y t) x = (built_goes z v choice l b next t).epoch
balancing_epoch z v s choice l a k (begins call e b) x = absurd x
balancing_epoch z v s choice l a k (leaves answer) x = absurd x
balancing_epoch z v s choice l a k enters_again x = absurd x
balancing_epoch z v s choice l a k (first_ends next e n) x = absurd x
balancing_epoch z v s choice l a k (list_ends next e n) x = absurd x
balancing_epoch z v s choice l a k (key_above next e n) x = absurd x
balancing_epoch z v s choice l a k (left_over_gone_by next e n) x = absurd x
balancing_epoch z v s choice l a k (gathers_left_over next n) x = absurd x
balancing_epoch z v s choice l a k (remembers_last j c version next e o m) x = (frozen_goes _ _ m).epoch
balancing_epoch z v s choice l a k (sees_frozen_last j next e o m) x = (frozen_goes _ _ m).epoch
balancing_epoch z v s choice l a k (freezes_last j next e o m) x = (frozen_goes _ _ m).epoch
balancing_epoch z v s choice l a k (takes_no_more next e f m) x = (gathered_goes z _ _ m).epoch
balancing_epoch z v s choice l a k (keeps_no_more next f m) x = (gathered_goes z _ _ m).epoch
balancing_epoch z v s choice l a k (marks_led count next d m) x = (counted_goes _ _ _ m).epoch
balancing_epoch z v s choice l a k (decides count c next e m) x = (counted_goes _ _ _ m).epoch
balancing_epoch z v s choice l a k (asks_of_pin next c n) x = absurd x
balancing_epoch z v s choice l a k (looks_at_pin j next n) x = (look_goes z _ _ _ _ n).epoch
balancing_epoch z v s choice l a k _ x = refl

-- a seat that leaves tidies no more
done_rests : (z : Sizes) (v : Words) (s : ℕ) (choice : Choice) (l : Local) (a : Activity) (k : Local) → Arrow z v s choice l a k → IsDone a → k.tidies ≡ true → ⊥
done_rests z v s choice l a k (builds b next y t) d e = absurd (no_building b y d)
  where
    no_building : (b : Activity) → IsBuilding b → IsDone b → ⊥
    no_building (Activity.Leave answer) y d = y
    no_building _ y d = d
done_rests z v s choice l a k (leaves answer) d e = let y : false ≡ true = e in cc
done_rests z v s choice l a k _ d e = d

-- a choice that names the put's own row is taken where the epoch of its visit has risen far enough
taken_late : (rows : ℕ) (choice : Choice) (l : Local) → tidies_row rows choice l ≡ true → rows < TIDY_SHARE * l.epoch
taken_late rows (Begin call) l e = let y : false ≡ true = e in cc
taken_late rows Go l e = let y : false ≡ true = e in cc
taken_late rows (Guess r) l e = named (r == l.row) e
  where
    named : (b : Bool) → (b && nat_lt rows (TIDY_SHARE * l.epoch)) ≡ true → rows < TIDY_SHARE * l.epoch
    named true e = below _ _ e
    named false e = let y : false ≡ true = e in cc
taken_late rows Stop l e = let y : false ≡ true = e in cc

module _ {z : Sizes} {r r' : Run} {s : ℕ} {choice : Choice} {l l' : Local} where
  -- a seat that clears its entry and does not leave has made such a choice
  offered_now : (a : Activity) → IsPutClear a → Happens z r r' s choice l l' a → Shape z r → l'.tidies ≡ true → r.world.rows < TIDY_SHARE * l'.epoch
  offered_now (Activity.Put Put.Clear) u h i e = subst (λ (k : Local). r.world.rows < TIDY_SHARE * k.epoch) (sym h.next) (saw (tidies_row r.world.rows choice l) refl (subst (λ (k : Local). k.tidies ≡ true) h.next e))
    where
      tidied : IsBalancing l.activity ⊎ IsDone l.activity → ⊥
      tidied (inl y) = subst IsBalancing h.activity y
      tidied (inr y) = subst IsDone h.activity y

      saw : (b : Bool) → tidies_row r.world.rows choice l ≡ b → (let x : Outcome = if b then to_rebalance (record l { tidies = true }) else leave Done l in x).local.tidies ≡ true →
          r.world.rows < TIDY_SHARE * (let x : Outcome = if b then to_rebalance (record l { tidies = true }) else leave Done l in x).local.epoch
      saw true c e = taken_late r.world.rows choice l c
      saw false c e = absurd (tidied (i.tidies s l h.knows e))
  offered_now _ u h i e = absurd u

  -- a seat that tidied before goes on in the same visit
  offered_before : (a : Activity) → Happens z r r' s choice l l' a → Shape z r → l'.tidies ≡ true → l.tidies ≡ true → r.world.rows < TIDY_SHARE * l'.epoch
  offered_before a h i e f = subst (λ n. r.world.rows < TIDY_SHARE * n) (sym (same (i.tidies s l h.knows f))) (i.offered s l h.knows f)
    where
      same : IsBalancing l.activity ⊎ IsDone l.activity → l'.epoch ≡ l.epoch
      same (inl y) = balancing_epoch z (word z r.world) s choice l a l' h.arrow (subst IsBalancing h.activity y)
      same (inr y) = absurd (done_rests z (word z r.world) s choice l a l' h.arrow (subst IsDone h.activity y) e)

  -- the acting seat
  pub offered_own : (a : Activity) → Happens z r r' s choice l l' a → Shape z r → l'.tidies ≡ true → r'.world.rows < TIDY_SHARE * l'.epoch
  offered_own a h i e = subst (λ n. n < TIDY_SHARE * l'.epoch) (sym h.rows) (which (arrow_from z (word z r.world) s choice l a l' h.arrow e))
    where
      which : IsPutClear a ⊎ (l.tidies ≡ true) → r.world.rows < TIDY_SHARE * l'.epoch
      which (inl u) = offered_now a u h i e
      which (inr f) = offered_before a h i e f

  -- another seat
  pub offered_other : (a : Activity) → Happens z r r' s choice l l' a → Shape z r → (t : ℕ) (k : Local) → slice_get r.world.locals t ≡ Some k → k.tidies ≡ true → r'.world.rows < TIDY_SHARE * k.epoch
  offered_other a h i t k g e = subst (λ n. n < TIDY_SHARE * k.epoch) (sym h.rows) (i.offered t k g e)
