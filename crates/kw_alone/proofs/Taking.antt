-- How many rows a seat has taken, over its own event.
use Rattle.std.proofs.Common.{ℕ, ◌+◌, ◌<◌, ◌≤◌, [], ◌∷◌, ◌++◌, arith, length}
use Rattle.kw_world.specs.declared.activity.Activity.{Activity}
use Rattle.kw_world.specs.declared.event.Choice.{Choice}
use Rattle.kw_world.specs.declared.local.Local.{Local}
use Rattle.kw_world.specs.declared.rebalance.Afterwards.{Afterwards}
use Rattle.kw_world.specs.declared.rebalance.Afterwards.TheVariants.{TryAgain, Refuse, MoveLeft}
use Rattle.kw_world.specs.SeekTransitions.{seeking, with_row}
use Rattle.kw_world.specs.Sizes.{Sizes}
use Rattle.kw_core.specs.Words.{Words}
use Rattle.kw_core.proofs.Arrows.{Arrow, NextLook, looks, lists, NextLeftOver, goes_to_left_over, answers, ends_scan, scans_on, builds, sees_stamped, sees_neither, is_gone_by, helps, finds_stamped, finds_other, first_ends, list_ends, key_above, left_over_gone_by, gathers_left_over, marks_led, decides, remembers_last, sees_frozen_last, freezes_last, takes_no_more, keeps_no_more, asks_of_pin, looks_at_pin}
use Rattle.kw_core.proofs.Building.{Building, first_is_free, first_is_taken, sought_is_free, sought_is_taken, first_is_retired, sought_is_retired, pass_is_old, pass_is_young, frees_row, takes_row, loses_row, gives_one_back, gives_last_back, writes_first, writes_entry, writes_no_cell, writes_after, begins_before, takes_head_before, leads_on_marked, leads_nowhere, walks_past, is_marked_before, is_replaced, makes_last_normal, draws_number, retires_ahead, retires_row, retires_and_leaves}
use Rattle.kw_core.proofs.Grouping.{NextCounted, claims_row, goes_alone, NextFrozen, freezes_ahead, froze_all, NextGathered, gathers_ahead, gathered_all}
use Rattle.kw_core.proofs.NextBuilt.{GivenBack, tries_again, was_done, is_refused_rows, was_served, moves_left, NextBack, gives_back, has_none, NextSeek, asks, has_asked, NextPass, looks_on, has_looked, NextTaken, wants_more, has_enough, NextNewRow, writes_row, has_written, NextNewCell, fills, empties, has_cells, NextNewEntry, writes_idle, has_entries, NextBefore, is_first, is_behind}
use Rattle.kw_core.proofs.Pinning.{NextOfPin, NextPinLook, pins, is_held, reads_no_pin, reads_no_key, reads_at_pin, unpins, unpins_none, sees_pin, sees_pin_last, sees_no_pin, sees_no_pin_last}
use Rattle.kw_alone.specs.Known.{Taken}
use Rattle.kw_alone.proofs.Counting.{one_taken}

-- Where a part of what follows has no event of its own.

given_taken : (b : Afterwards) (m next : Local) → GivenBack m b next → Taken next.activity next
given_taken b m next (tries_again t) = record { most = omega arith; fewer = λ x. absurd x; some = λ x. absurd x }
given_taken b m next (was_done t) = record { most = omega arith; fewer = λ x. absurd x; some = λ x. absurd x }
given_taken b m next (is_refused_rows t) = record { most = omega arith; fewer = λ x. absurd x; some = λ x. absurd x }
given_taken b m next (was_served t) = record { most = omega arith; fewer = λ x. absurd x; some = λ x. absurd x }
given_taken b m next moves_left = record { most = omega arith; fewer = λ x. absurd x; some = λ x. absurd x }

back_taken : (b : Afterwards) (m next : Local) → NextBack b m next → length m.rebalance.taken ≤ m.rebalance.asked → Taken next.activity next
back_taken b m next (gives_back h) k = record { most = k; fewer = λ x. absurd x; some = λ x. omega (arith, h) }
back_taken b m next (has_none n h g) k = given_taken b m next g

seek_taken : (r : ℕ) (m next : Local) → NextSeek r m next → length m.rebalance.taken ≤ m.rebalance.asked → Taken next.activity next
seek_taken r m next (asks h) k = record { most = omega (arith, k); fewer = λ x. omega (arith, k); some = λ x. absurd x }
seek_taken r m next (has_asked n h b) k = back_taken Refuse m next b k

pass_taken : (z : Sizes) (i : ℕ) (m next : Local) → NextPass z i m next → length m.rebalance.taken < m.rebalance.asked → Taken next.activity next
pass_taken z i m next (looks_on h) k = record { most = omega (arith, k); fewer = λ x. k; some = λ x. absurd x }
pass_taken z i m next (has_looked h) k = record { most = omega (arith, k); fewer = λ x. k; some = λ x. absurd x }

one_taken_less : (m : Local) → length m.rebalance.taken < m.rebalance.asked → length (m.rebalance.taken ++ m.rebalance.sought ∷ []) ≤ m.rebalance.asked
one_taken_less m k = omega (arith, k, one_taken m.rebalance.taken m.rebalance.sought)

row_taken : (r : ℕ) (m next : Local) → NextTaken r (with_row m) next → length m.rebalance.taken < m.rebalance.asked → Taken next.activity next
row_taken r m next (wants_more n h s) k = seek_taken r (with_row m) next s (one_taken_less m k)
row_taken r m next (has_enough h) k = record { most = one_taken_less m k; fewer = λ x. absurd x; some = λ x. omega (arith, one_taken m.rebalance.taken m.rebalance.sought) }

-- the rows that were taken are at hand
module _ (m : Local) (most : length m.rebalance.taken ≤ m.rebalance.asked) (some : 1 ≤ length m.rebalance.taken) where
  new_row_taken : (next : Local) → NextNewRow m next → Taken next.activity next
  new_row_taken next (writes_row h) = record { most = most; fewer = λ x. absurd x; some = λ x. some }
  new_row_taken next (has_written h) = record { most = most; fewer = λ x. absurd x; some = λ x. some }

  new_cell_taken : (z : Sizes) (j : ℕ) (next : Local) → NextNewCell z j m next → Taken next.activity next
  new_cell_taken z j next (fills h i) = record { most = most; fewer = λ x. absurd x; some = λ x. some }
  new_cell_taken z j next (empties h i) = record { most = most; fewer = λ x. absurd x; some = λ x. some }
  new_cell_taken z j next (has_cells n h r) = new_row_taken next r

  new_entry_taken : (z : Sizes) (i : ℕ) (next : Local) → NextNewEntry z i m next → Taken next.activity next
  new_entry_taken z i next (writes_idle h) = record { most = most; fewer = λ x. absurd x; some = λ x. some }
  new_entry_taken z i next (has_entries n h c) = new_cell_taken z 0 next c

  before_taken : (r : ℕ) (next : Local) → NextBefore r m next → Taken next.activity next
  before_taken r next (is_first h) = record { most = most; fewer = λ x. absurd x; some = λ x. some }
  before_taken r next (is_behind h) = record { most = most; fewer = λ x. absurd x; some = λ x. some }

look_taken : (z : Sizes) (j : ℕ) (m : Local) (nx : Activity) → NextLook z j nx → length m.rebalance.taken ≤ m.rebalance.asked → Taken nx (record m { activity = nx })
look_taken z j m nx (looks h) k = record { most = k; fewer = λ x. absurd x; some = λ x. absurd x }
look_taken z j m nx (lists h) k = record { most = k; fewer = λ x. absurd x; some = λ x. absurd x }

left_over_taken : (m next : Local) → NextLeftOver m next → length m.rebalance.taken ≤ m.rebalance.asked → Taken next.activity next
left_over_taken m next (goes_to_left_over k e) h = record { most = h; fewer = λ x. absurd x; some = λ x. absurd x }
left_over_taken m next (answers e s) h = record { most = h; fewer = λ x. absurd x; some = λ x. absurd x }
left_over_taken m next (ends_scan e s d) h = record { most = h; fewer = λ x. absurd x; some = λ x. absurd x }
left_over_taken m next (scans_on r e s n d) h = record { most = h; fewer = λ x. absurd x; some = λ x. absurd x }

counted_taken : (count : ℕ) (m next : Local) → NextCounted count m next → length m.rebalance.taken ≤ m.rebalance.asked → Taken next.activity next
counted_taken count m next (claims_row r e o) h = record { most = h; fewer = λ x. absurd x; some = λ x. absurd x }
counted_taken count m next (goes_alone d) h = record { most = h; fewer = λ x. absurd x; some = λ x. absurd x }

frozen_taken : (m next : Local) → NextFrozen m next → length m.rebalance.taken ≤ m.rebalance.asked → Taken next.activity next
frozen_taken m next (freezes_ahead r e) h = record { most = h; fewer = λ x. absurd x; some = λ x. absurd x }
frozen_taken m next (froze_all e) h = record { most = h; fewer = λ x. absurd x; some = λ x. absurd x }

of_pin_taken : (m next : Local) → NextOfPin m next → length m.rebalance.taken ≤ m.rebalance.asked → Taken next.activity next
of_pin_taken m next (pins e f) h = record { most = h; fewer = λ x. absurd x; some = λ x. absurd x }
of_pin_taken m next (is_held version e f) h = record { most = h; fewer = λ x. absurd x; some = λ x. absurd x }
of_pin_taken m next (reads_no_pin from upto e f) h = record { most = h; fewer = λ x. absurd x; some = λ x. absurd x }
of_pin_taken m next (reads_no_key from upto version e f g) h = record { most = h; fewer = λ x. absurd x; some = λ x. absurd x }
of_pin_taken m next (reads_at_pin from upto version e f g) h = record { most = h; fewer = λ x. absurd x; some = λ x. absurd x }
of_pin_taken m next (unpins version e f) h = record { most = h; fewer = λ x. absurd x; some = λ x. absurd x }
of_pin_taken m next (unpins_none e f) h = record { most = h; fewer = λ x. absurd x; some = λ x. absurd x }

pin_look_taken : (z : Sizes) (i w : ℕ) (m next : Local) → NextPinLook z i w m next → length m.rebalance.taken ≤ m.rebalance.asked → Taken next.activity next
pin_look_taken z i w m next (sees_pin version e f) h = record { most = h; fewer = λ x. absurd x; some = λ x. absurd x }
pin_look_taken z i w m next (sees_pin_last version e f) h = record { most = h; fewer = λ x. absurd x; some = λ x. absurd x }
pin_look_taken z i w m next (sees_no_pin e f) h = record { most = h; fewer = λ x. absurd x; some = λ x. absurd x }
pin_look_taken z i w m next (sees_no_pin_last e f) h = record { most = h; fewer = λ x. absurd x; some = λ x. absurd x }

gathered_taken : (z : Sizes) (m next : Local) → NextGathered z m next → length m.rebalance.taken ≤ m.rebalance.asked → Taken next.activity next
gathered_taken z m next (gathers_ahead r e) h = record { most = h; fewer = λ x. absurd x; some = λ x. absurd x }
gathered_taken z m next (gathered_all e) h = record { most = omega arith; fewer = λ x. omega arith; some = λ x. absurd x }

-- Each event.

module _ (z : Sizes) (v : Words) (choice : Choice) where
  building_taken : (a : Activity) (l next : Local) → Building z v choice l a next → Taken a l → Taken next.activity next
  building_taken a l next (first_is_free q o e) h = record { most = h.most; fewer = λ x. h.fewer tt; some = λ x. absurd x }
  building_taken a l next (first_is_taken q r n o e s) h = seek_taken r (seeking q l) next s h.most
  building_taken a l next (sought_is_free e) h = record { most = h.most; fewer = λ x. h.fewer tt; some = λ x. absurd x }
  building_taken a l next (sought_is_taken r n e s) h = seek_taken r l next s h.most
  building_taken a l next (first_is_retired q m o e) h = record { most = h.most; fewer = λ x. h.fewer tt; some = λ x. absurd x }
  building_taken a l next (sought_is_retired m e) h = record { most = h.most; fewer = λ x. h.fewer tt; some = λ x. absurd x }
  building_taken a l next (pass_is_old i epoch r n e o s) h = seek_taken r l next s h.most
  building_taken a l next (pass_is_young i n y s) h = pass_taken z (i + 1) l next s (h.fewer tt)
  building_taken a l next frees_row h = record { most = h.most; fewer = λ x. h.fewer tt; some = λ x. absurd x }
  building_taken a l next (takes_row r n e s) h = row_taken r l next s (h.fewer tt)
  building_taken a l next (loses_row r n e s) h = seek_taken r l next s h.most
  building_taken a l next (gives_one_back o) h = record { most = h.most; fewer = λ x. absurd x; some = λ x. h.some tt }
  building_taken a l next (gives_last_back n o g) h = given_taken l.rebalance.afterwards l next g
  building_taken a l next (writes_first n s) h = new_entry_taken l h.most (h.some tt) z 0 next s
  building_taken a l next (writes_entry i n s) h = new_entry_taken l h.most (h.some tt) z (i + 1) next s
  building_taken a l next (writes_no_cell j n o s) h = new_cell_taken l h.most (h.some tt) z (j + 1) next s
  building_taken a l next (writes_after j n s) h = new_cell_taken l h.most (h.some tt) z (j + 1) next s
  building_taken a l next (begins_before n s) h = before_taken l h.most (h.some tt) _ next s
  building_taken a l next (takes_head_before n s) h = before_taken l h.most (h.some tt) _ next s
  building_taken a l next (leads_on_marked n e s) h = back_taken MoveLeft l next s h.most
  building_taken a l next (leads_nowhere n e s) h = back_taken TryAgain l next s h.most
  building_taken a l next (walks_past n o s) h = back_taken TryAgain l next s h.most
  building_taken a l next (is_marked_before n e s) h = back_taken MoveLeft l next s h.most
  building_taken a l next (is_replaced n e s) h = back_taken TryAgain l next s h.most
  building_taken a l next (makes_last_normal o) h = record { most = h.most; fewer = λ x. absurd x; some = λ x. absurd x }
  building_taken a l next draws_number h = record { most = h.most; fewer = λ x. absurd x; some = λ x. absurd x }
  building_taken a l next (retires_ahead r e) h = record { most = h.most; fewer = λ x. absurd x; some = λ x. absurd x }
  building_taken a l next (retires_row e t) h = record { most = omega arith; fewer = λ x. absurd x; some = λ x. absurd x }
  building_taken a l next (retires_and_leaves e t) h = record { most = omega arith; fewer = λ x. absurd x; some = λ x. absurd x }
  building_taken a l next _ h = record { most = h.most; fewer = λ x. absurd x; some = λ x. h.some tt }

  pub arrow_taken : (s : ℕ) (a : Activity) (l next : Local) → Arrow z v s choice l a next → Taken a l → Taken next.activity next
  arrow_taken s a l next (builds b k y t) h = building_taken b l k t h
  arrow_taken s a l next (sees_stamped i c version nx e n) h = look_taken z (i + 1) next nx n h.most
  arrow_taken s a l next (sees_neither i nx e n) h = look_taken z (i + 1) next nx n h.most
  arrow_taken s a l next (is_gone_by nx e n) h = look_taken z (l.looked + 1) next nx n h.most
  arrow_taken s a l next (helps nx e n) h = look_taken z (l.looked + 1) next nx n h.most
  arrow_taken s a l next (finds_stamped c version nx e n) h = look_taken z (l.looked + 1) next nx n h.most
  arrow_taken s a l next (finds_other nx e n) h = look_taken z (l.looked + 1) next nx n h.most
  arrow_taken s a l next (first_ends k e n) h = left_over_taken l k n h.most
  arrow_taken s a l next (list_ends k e n) h = left_over_taken l k n h.most
  arrow_taken s a l next (key_above k e n) h = left_over_taken l k n h.most
  arrow_taken s a l next (left_over_gone_by k e n) h = left_over_taken l k n h.most
  arrow_taken s a l next (gathers_left_over k n) h = left_over_taken _ k n h.most
  arrow_taken s a l next (marks_led count k d n) h = counted_taken count _ k n h.most
  arrow_taken s a l next (decides count m k e n) h = counted_taken _ l k n h.most
  arrow_taken s a l next (remembers_last i c version k e o n) h = frozen_taken _ k n h.most
  arrow_taken s a l next (sees_frozen_last i k e o n) h = frozen_taken l k n h.most
  arrow_taken s a l next (freezes_last i k e o n) h = frozen_taken l k n h.most
  arrow_taken s a l next (takes_no_more k e m n) h = gathered_taken z l k n h.most
  arrow_taken s a l next (keeps_no_more k m n) h = gathered_taken z _ k n h.most
  arrow_taken s a l next (asks_of_pin k o n) h = of_pin_taken l k n h.most
  arrow_taken s a l next (looks_at_pin i k n) h = pin_look_taken z i _ l k n h.most
  arrow_taken s a l next _ h = record { most = omega (arith, h.most); fewer = λ x. absurd x; some = λ x. absurd x }
