-- The events by which new rows are taken, written and linked in place of the group, and its rows
-- are retired.
use Rattle.std.proofs.Common.{ℕ, inl, inr, ◌+◌, ◌*◌, ◌-◌, ◌<◌, ◌≤◌, arith, ap, length}
use Rattle.kw_world.specs.declared.activity.Activity.{Activity}
use Rattle.kw_world.specs.declared.activity.rebalance.Rebalance.TheVariants as Rebalance
use Rattle.kw_world.specs.declared.activity.rebalance.replace.Replace.TheVariants as Replace
use Rattle.kw_world.specs.declared.activity.rebalance.seek.Seek.TheVariants as Seek
use Rattle.kw_world.specs.declared.activity.rebalance.write.Write.TheVariants as Write
use Rattle.kw_world.specs.declared.event.Choice.{Choice}
use Rattle.kw_world.specs.declared.local.Local.{Local}
use Rattle.kw_world.specs.declared.rebalance.Afterwards.{Afterwards}
use Rattle.kw_world.specs.declared.rebalance.Afterwards.TheVariants.{TryAgain, Refuse, MoveLeft}
use Rattle.kw_world.specs.SeekTransitions.{seeking, with_row}
use Rattle.kw_world.specs.Sizes.{Sizes}
use Rattle.kw_core.specs.Stages.{IsBalancing}
use Rattle.kw_core.specs.Words.{Words, least_in}
use Rattle.kw_core.proofs.NextBuilt.{GivenBack, tries_again, was_done, is_refused_rows, was_served, moves_left, NextBack, gives_back, has_none, NextSeek, asks, has_asked, NextPass, looks_on, has_looked, NextTaken, wants_more, has_enough, NextNewRow, writes_row, has_written, NextNewCell, fills, empties, has_cells, NextNewEntry, writes_idle, has_entries, NextBefore, is_first, is_behind}
use Rattle.kw_core.proofs.Building.{Building, first_is_free, first_is_taken, sought_is_free, sought_is_taken, first_is_retired, sought_is_retired, pass_is_old, pass_is_young, frees_row, takes_row, loses_row, gives_one_back, gives_last_back, writes_count, writes_least, writes_link, writes_first, writes_entry, writes_key, writes_value, writes_version, writes_no_cell, writes_after, begins_before, guesses_before, guess_before_fails, before_serves, before_is_above, takes_head_before, leads_to_full, leads_on_marked, leads_to_other, leads_nowhere, walks_before, walks_past, replaces_row, is_marked_before, is_replaced, makes_normal, makes_last_normal, draws_number, retires_ahead, retires_row, retires_and_leaves}
use Rattle.kw_alone.specs.Facts.{Facts}
use Rattle.kw_alone.specs.Falls.{Falls}
use Rattle.kw_alone.specs.Marks.{wins, moves}
use Rattle.kw_alone.specs.Prices.{before_price, retry_price, row_price, row_words, rows_left, write_price}
use Rattle.kw_alone.specs.Rest.{rest}
use Rattle.kw_alone.proofs.Counting.{all_but_first, less_one, less_up, most_up, one_more, one_taken}
use Rattle.kw_alone.proofs.Prices.{left_most}

module _ (z : Sizes) (rows : ℕ) (v v' : Words) where
  -- the price of all rows that are not asked for, with those that are taken
  abbrev pub open_price : ℕ → ℕ → ℕ
  open_price asked n = (rows - asked) * row_price z + n * row_words z + before_price rows n

  -- Where a part of what follows has no event of its own.

  back_falls : (a : Activity) (b : Afterwards) (l m next : Local) → IsBalancing a → NextBack b l next → retry_price + length l.rebalance.taken < rest z rows v a m → Falls z rows v v' a m next
  back_falls a b l m next at (gives_back h) k = inr (inr (omega (arith, k)))
  back_falls a b l m next at (has_none n h (tries_again t)) k = inr (inr (omega (arith, k)))
  back_falls a b l m next at (has_none n h (was_done t)) k = inr (inr (omega (arith, k)))
  back_falls a b l m next at (has_none n h (is_refused_rows t)) k = inr (inr (omega (arith, k)))
  back_falls a b l m next at (has_none n h (was_served t)) k = inr (inr (omega (arith, k)))
  back_falls a b l m next at (has_none n h moves_left) k = inl (moves a at)

  given_falls : (b : Afterwards) (l next : Local) → l.rebalance.at < length l.rebalance.taken → GivenBack l b next → Falls z rows v v' (Activity.Rebalance (Rebalance.Seek Seek.GiveBack)) l next
  given_falls b l next h (tries_again t) = inr (inr (omega (arith, h)))
  given_falls b l next h (was_done t) = inr (inr (omega (arith, h)))
  given_falls b l next h (is_refused_rows t) = inr (inr (omega (arith, h)))
  given_falls b l next h (was_served t) = inr (inr (omega (arith, h)))
  given_falls b l next h moves_left = inl (moves (Activity.Rebalance (Rebalance.Seek Seek.GiveBack)) tt)

  seek_falls : (a : Activity) (r : ℕ) (l m next : Local) → IsBalancing a → NextSeek r l next → next.rebalance.asked ≤ rows → open_price l.rebalance.asked (length l.rebalance.taken) < rest z rows v a m → Falls z rows v v' a m next
  seek_falls a r l m next at (asks h) w k = inr (inr (omega (arith, k, less_one l.rebalance.asked rows (row_price z) (omega (arith, w)))))
  seek_falls a r l m next at (has_asked n h b) w k = back_falls a Refuse l m next at b (omega (arith, k))

  row_falls : (a : Activity) (l m next : Local) → NextNewRow l next → write_price z rows (length l.rebalance.taken) l.rebalance.at 1 ≤ rest z rows v a m → Falls z rows v v' a m next
  row_falls a l m next (writes_row h) k = inr (inr (omega (arith, k, less_one (l.rebalance.at + 1) (length l.rebalance.taken) (row_words z) h)))
  row_falls a l m next (has_written h) k = inr (inr (omega (arith, k)))

  cell_falls : (a : Activity) (j : ℕ) (l m next : Local) → NextNewCell z j l next → write_price z rows (length l.rebalance.taken) l.rebalance.at (4 * (z.cells - j) + 1) ≤ rest z rows v a m → Falls z rows v v' a m next
  cell_falls a j l m next (fills h i) k = inr (inr (omega (arith, k, h)))
  cell_falls a j l m next (empties h i) k = inr (inr (omega (arith, k, h)))
  cell_falls a j l m next (has_cells n h r) k = row_falls a l m next r (omega (arith, k, h))

  entry_falls : (a : Activity) (i : ℕ) (l m next : Local) → NextNewEntry z i l next → write_price z rows (length l.rebalance.taken) l.rebalance.at (z.seats - i + 4 * z.cells + 1) ≤ rest z rows v a m → Falls z rows v v' a m next
  entry_falls a i l m next (writes_idle h) k = inr (inr (omega (arith, k, h)))
  entry_falls a i l m next (has_entries n h c) k = cell_falls a 0 l m next c (omega (arith, k, h))

  pass_falls : (i : ℕ) (l next : Local) → i < z.seats → NextPass z (i + 1) l next → Falls z rows v v' (Activity.Rebalance (Rebalance.Seek (Seek.Pass i))) l next
  pass_falls i l next w (looks_on h) = inr (inr (omega (arith, h)))
  pass_falls i l next w (has_looked h) = inr (inr (omega (arith, w)))

  before_falls : (a : Activity) (r : ℕ) (l next : Local) → NextBefore r l next → 2 * rows + 2 + length l.rebalance.taken + retry_price < rest z rows v a l → Falls z rows v v' a l next
  before_falls a r l next (is_first h) k = inr (inr (omega (arith, k)))
  before_falls a r l next (is_behind h) k = inr (inr (omega (arith, k, most_up v' rows 0)))

  taken_falls : (r : ℕ) (l next : Local) → NextTaken r (with_row l) next → next.rebalance.asked ≤ rows → Falls z rows v v' (Activity.Rebalance (Rebalance.Seek Seek.Take)) l next
  taken_falls r l next (wants_more n h s) w = seek_falls (Activity.Rebalance (Rebalance.Seek Seek.Take)) r (with_row l) l next tt s w (rw (one_taken l.rebalance.taken l.rebalance.sought) (omega (arith, one_more (length l.rebalance.taken) (row_words z))))
  taken_falls r l next (has_enough h) w = inr (inr (rw (one_taken l.rebalance.taken l.rebalance.sought) (omega (arith, all_but_first (length l.rebalance.taken) (row_words z)))))

  -- Each event.

  pub building_falls : (choice : Choice) (a : Activity) (l next : Local) → Building z v choice l a next → Facts z rows v v' a l next → Falls z rows v v' a l next
  building_falls choice a l next (first_is_free q o e) f = inr (inr (omega arith))
  building_falls choice a l next (first_is_taken q r n o e s) f = seek_falls (Activity.Rebalance (Rebalance.Seek Seek.First)) r (seeking q l) l next tt s f.asked (omega arith)
  building_falls choice a l next (sought_is_free e) f = inr (inr (omega arith))
  building_falls choice a l next (sought_is_taken r n e s) f = seek_falls (Activity.Rebalance (Rebalance.Seek Seek.Next)) r l l next tt s f.asked (omega arith)
  building_falls choice a l next (first_is_retired q m o e) f = inr (inr (omega arith))
  building_falls choice a l next (sought_is_retired m e) f = inr (inr (omega arith))
  building_falls choice a l next (pass_is_old i epoch r n e h s) f = seek_falls (Activity.Rebalance (Rebalance.Seek (Seek.Pass i))) r l l next tt s f.asked (omega arith)
  building_falls choice a l next (pass_is_young i n y s) f = pass_falls i l next f.range s
  building_falls choice a l next frees_row f = inr (inr (omega arith))
  building_falls choice a l next (takes_row r n e s) f = taken_falls r l next s f.asked
  building_falls choice a l next (loses_row r n e s) f = seek_falls (Activity.Rebalance (Rebalance.Seek Seek.Take)) r l l next tt s f.asked (omega arith)
  building_falls choice a l next (gives_one_back h) f = inr (inr (omega (arith, h)))
  building_falls choice a l next (gives_last_back n h g) f = given_falls l.rebalance.afterwards l next (f.taken tt) g
  building_falls choice a l next writes_count f = inr (inr (omega arith))
  building_falls choice a l next writes_least f = inr (inr (omega arith))
  building_falls choice a l next writes_link f = inr (inr (omega arith))
  building_falls choice a l next (writes_first n s) f = entry_falls (Activity.Rebalance (Rebalance.Write Write.First)) 0 l l next s (omega arith)
  building_falls choice a l next (writes_entry i n s) f = entry_falls (Activity.Rebalance (Rebalance.Write (Write.Entry i))) (i + 1) l l next s (omega (arith, f.range))
  building_falls choice a l next (writes_key j) f = inr (inr (omega arith))
  building_falls choice a l next (writes_value j) f = inr (inr (omega arith))
  building_falls choice a l next (writes_version j h) f = inr (inr (omega arith))
  building_falls choice a l next (writes_no_cell j n h s) f = cell_falls (Activity.Rebalance (Rebalance.Write (Write.Version j))) (j + 1) l l next s (omega arith)
  building_falls choice a l next (writes_after j n s) f = cell_falls (Activity.Rebalance (Rebalance.Write (Write.After j))) (j + 1) l l next s (omega arith)
  building_falls choice a l next (begins_before n s) f = before_falls (Activity.Rebalance (Rebalance.Replace Replace.Start)) _ l next s (omega arith)
  building_falls choice a l next (guesses_before q c e) f = inr (inr (omega arith))
  building_falls choice a l next guess_before_fails f = inr (inr (omega arith))
  building_falls choice a l next (before_serves h) f = inr (inr (omega (arith, most_up v' rows next.rebalance.least)))
  building_falls choice a l next (before_is_above h) f = inr (inr (omega arith))
  building_falls choice a l next (takes_head_before n s) f = before_falls (Activity.Rebalance (Rebalance.Replace Replace.First)) _ l next s (omega arith)
  building_falls choice a l next (leads_to_full e) f = inr (inr (omega arith))
  building_falls choice a l next (leads_on_marked n e s) f = back_falls (Activity.Rebalance (Rebalance.Replace Replace.Next)) MoveLeft l l next tt s (omega arith)
  building_falls choice a l next (leads_to_other q e d) f = inr (inr (omega (arith, f.ups tt l.rebalance.least)))
  building_falls choice a l next (leads_nowhere n e s) f = back_falls (Activity.Rebalance (Rebalance.Replace Replace.Next)) TryAgain l l next tt s (omega arith)
  building_falls choice a l next (walks_before h) f = inr (inr (omega (arith, f.ups tt (least_in v l.candidate), less_up v rows l.rebalance.least l.candidate f.candidate (f.climbs_before tt))))
  building_falls choice a l next (walks_past n h s) f = back_falls (Activity.Rebalance (Rebalance.Replace Replace.NextLeast)) TryAgain l l next tt s (omega arith)
  building_falls choice a l next (replaces_row e) f = inl wins
  building_falls choice a l next (is_marked_before n e s) f = back_falls (Activity.Rebalance (Rebalance.Replace Replace.Exchange)) MoveLeft l l next tt s (omega arith)
  building_falls choice a l next (is_replaced n e s) f = back_falls (Activity.Rebalance (Rebalance.Replace Replace.Exchange)) TryAgain l l next tt s (omega arith)
  building_falls choice a l next (makes_normal h) f = inr (inr (omega (arith, h)))
  building_falls choice a l next (makes_last_normal h) f = inr (inr (omega (arith, f.taken tt, left_most l.rebalance.second)))
  building_falls choice a l next draws_number f = inr (inr (omega arith))
  building_falls choice a l next (retires_ahead r e) f = inr (inr (omega (arith, ap rows_left e)))
  building_falls choice a l next (retires_row e t) f = inr (inr (omega arith))
  building_falls choice a l next (retires_and_leaves e t) f = inr (inr (omega arith))
