-- How many events a seat that goes on alone has left, at most, to the next mark or to the beginning
-- of a walk.
--
-- It goes by the activity, family by family as the table of events does, so a new activity is one
-- line here. It is read off the words as they stand, the number of rows and what the seat knows;
-- which seat that is does not matter. Most lines count: so many entries, cells, words or rows are
-- left, each with its price (`Prices`). Three things in it are no counts. A walk along the rows is
-- measured by how many rows have a greater least key. An exchange that will be lost, as the word
-- there is another one than the seat holds, costs what is made again after it. And a state that
-- somebody has to change first costs that change.
use Rattle.std.specs.Prelude.{ℕ, ◌+◌, ◌*◌, ◌-◌, ◌==◌, if◌then◌else◌, nat_lt, length, List, Option, Some}
use Rattle.kw_words.specs.declared.layout.Name.TheVariants as name
use Rattle.kw_words.specs.declared.state.State.{State}
use Rattle.kw_words.specs.declared.state.State.TheVariants as state
use Rattle.kw_words.specs.State.{state_of, state_word}
use Rattle.kw_words.specs.Pend.{pend_word}
use Rattle.kw_words.specs.Plain.{cell_link_word}
use Rattle.kw_cells.specs.declared.cell.Cell.{Cell}
use Rattle.kw_lists.specs.Counts.{count_below}
use Rattle.kw_world.specs.declared.activity.Activity.{Activity}
use Rattle.kw_world.specs.declared.activity.draw.Draw.{Draw}
use Rattle.kw_world.specs.declared.activity.enter.Enter.{Enter}
use Rattle.kw_world.specs.declared.activity.insert.Insert.{Insert}
use Rattle.kw_world.specs.declared.activity.look.Look.{Look}
use Rattle.kw_world.specs.declared.activity.put.Put.{Put}
use Rattle.kw_world.specs.declared.activity.read.Read.{Read}
use Rattle.kw_world.specs.declared.activity.rebalance.Rebalance.{Rebalance}
use Rattle.kw_world.specs.declared.activity.rebalance.claim.Claim.{Claim}
use Rattle.kw_world.specs.declared.activity.rebalance.engage.Engage.{Engage}
use Rattle.kw_world.specs.declared.activity.rebalance.freeze.Freeze.{Freeze}
use Rattle.kw_world.specs.declared.activity.rebalance.gather.Gather.{Gather}
use Rattle.kw_world.specs.declared.activity.rebalance.left.Left.{Left}
use Rattle.kw_world.specs.declared.activity.rebalance.replace.Replace.{Replace}
use Rattle.kw_world.specs.declared.activity.rebalance.seek.Seek.{Seek}
use Rattle.kw_world.specs.declared.activity.rebalance.write.Write.{Write}
use Rattle.kw_world.specs.declared.activity.walk.Walk.{Walk}
use Rattle.kw_world.specs.declared.local.Local.{Local}
use Rattle.kw_world.specs.declared.rebalance.Rebalancing.{Rebalancing}
use Rattle.kw_world.specs.Calls.{is_scan}
use Rattle.kw_world.specs.ClaimTransitions.{row_after}
use Rattle.kw_world.specs.ListTransitions.{link_name}
use Rattle.kw_world.specs.Sizes.{Sizes}
use Rattle.kw_core.specs.Stages.{is_put}
use Rattle.kw_core.specs.Words.{Words, least_in}
use Rattle.kw_puts.specs.Builds.{has_place}
use Rattle.kw_alone.specs.Prices.{retry_price, list_price, look_price, retire_price, normal_price, before_price, seek_price, write_price, first_seek_price, group_cells, rows_left, ahead_price, take_price, scan_price, row_freeze_price, freeze_price, claim_price, mark_price, left_price, base_price, clear_price, insert_price, put_price, start_price}

-- What is counted.

-- how many rows have a least key above this one. All rows of the table count: one that is not in
-- the list does no harm, since its least key stays while a seat walks
abbrev pub up : Words → ℕ → ℕ → ℕ
up v rows b = count_below rows (λ x. nat_lt b (least_in v x))

-- how many places of a group have a gathered cell
abbrev pub gathered_places : Sizes → List Cell → ℕ
gathered_places z cells = count_below (group_cells z) (λ p. has_place p cells)

-- What others left half done.

-- the exchanges to come at a full row whose state this is: an infant is made normal, and a normal
-- row is engaged
abbrev pub state_price : Option State → ℕ
state_price (Some (state.Infant seat)) = 4
state_price (Some state.Normal) = 2
state_price _ = 0

-- those at the row after it, which is to be claimed: an infant is made normal
abbrev pub infant_price : Option State → ℕ
infant_price (Some (state.Infant seat)) = 2
infant_price _ = 0

-- a put's walk along the list is made once more where the link does not hold what was held
abbrev pub lost_price : Sizes → Words → Local → ℕ
lost_price z v l = if v (link_name l.row l.link) == cell_link_word l.held then 0 else insert_price z

-- an entry is looked at once more where it is not the one in hand
abbrev pub entry_price : Words → ℕ → Local → ℕ
entry_price v i l = if v (name.Pend l.rebalance.hand i) == pend_word l.rebalance.entry then 0 else 2

-- what is left after a row is read: one event for a get, and for a scan the rows to the right
abbrev pub after_row : Sizes → ℕ → Words → Local → ℕ
after_row z rows v l = if is_scan l.call then up v rows l.lower * look_price z + 2 else 1

-- what is left on a walk at a row: for a put two events for each row to the right, and its put; a
-- reader may have to read each of these rows
abbrev pub walk_price : Sizes → ℕ → Words → Local → ℕ
walk_price z rows v l = if is_put l.call then 2 * up v rows l.lower + 1 + put_price z rows else up v rows l.lower * look_price z + 1 + look_price z

-- A call outside of a rebalance.

abbrev pub enter_rest : Enter → ℕ
enter_rest Enter.LoadEpoch = 8
enter_rest Enter.Announce = 7

abbrev pub draw_rest : Draw → ℕ
draw_rest Draw.Clock = 6
draw_rest Draw.Wait = 5
draw_rest Draw.Version = 4
draw_rest Draw.Settle = 3
draw_rest Draw.Pin = 2

abbrev pub walk_rest : Sizes → ℕ → Words → Walk → Local → ℕ
walk_rest z rows v Walk.Start l = start_price z rows + 2
walk_rest z rows v Walk.GuessedLeast l = start_price z rows + 1
walk_rest z rows v Walk.First l = start_price z rows
walk_rest z rows v Walk.Next l = walk_price z rows v l + 1
walk_rest z rows v Walk.NextLeast l = walk_price z rows v l

-- at an entry all those from it on are left, and behind it those after the one that is looked at
abbrev pub look_rest : Sizes → ℕ → Words → Look → Local → ℕ
look_rest z rows v (Look.Entry i) l = 4 * (z.seats - i) + list_price z + after_row z rows v l
look_rest z rows v Look.Key l = 4 * (z.seats - (l.looked + 1)) + 3 + list_price z + after_row z rows v l
look_rest z rows v Look.Clock l = 4 * (z.seats - (l.looked + 1)) + 2 + list_price z + after_row z rows v l
look_rest z rows v Look.Help l = 4 * (z.seats - (l.looked + 1)) + 1 + list_price z + after_row z rows v l

-- at a link the cells are left that were not reached, and the remembered ones. A guess is made
-- once, at the beginning
abbrev pub read_rest : Sizes → ℕ → Words → Read → Local → ℕ
read_rest z rows v Read.Start l = 4 * (z.cells - l.walked) + 2 + 2 * length l.remembered + after_row z rows v l
read_rest z rows v Read.Link l = 4 * (z.cells - l.walked) + 1 + 2 * length l.remembered + after_row z rows v l
read_rest z rows v Read.Key l = 4 * (z.cells - l.walked) + 4 + 2 * length l.remembered + after_row z rows v l
read_rest z rows v Read.Version l = 4 * (z.cells - l.walked) + 3 + 2 * length l.remembered + after_row z rows v l
read_rest z rows v Read.Value l = 4 * (z.cells - l.walked) + 2 + 2 * length l.remembered + after_row z rows v l
read_rest z rows v Read.LeftOverKey l = 2 * length l.remembered + 2 + after_row z rows v l
read_rest z rows v Read.LeftOverValue l = 2 * length l.remembered + 1 + after_row z rows v l

abbrev pub put_rest : Sizes → ℕ → Put → ℕ
put_rest z rows Put.Count = put_price z rows
put_rest z rows Put.Add = clear_price z rows + insert_price z + 7
put_rest z rows Put.Key = clear_price z rows + insert_price z + 6
put_rest z rows Put.Value = clear_price z rows + insert_price z + 5
put_rest z rows Put.Announce = clear_price z rows + insert_price z + 4
put_rest z rows Put.Clock = clear_price z rows + insert_price z + 3
put_rest z rows Put.Stamp = clear_price z rows + insert_price z + 2
put_rest z rows Put.Version = clear_price z rows + insert_price z + 1
put_rest z rows Put.Clear = clear_price z rows

abbrev pub insert_rest : Sizes → ℕ → Words → Insert → Local → ℕ
insert_rest z rows v Insert.Start l = clear_price z rows + 3 * (z.cells - l.walked) + 4
insert_rest z rows v Insert.Link l = clear_price z rows + 3 * (z.cells - l.walked) + 3
insert_rest z rows v Insert.Key l = clear_price z rows + 3 * (z.cells - l.walked) + 5 + lost_price z v l
insert_rest z rows v Insert.Version l = clear_price z rows + 3 * (z.cells - l.walked) + 4 + lost_price z v l
insert_rest z rows v Insert.Set l = clear_price z rows + 2 + lost_price z v l
insert_rest z rows v Insert.Exchange l = clear_price z rows + 1 + lost_price z v l

-- A rebalance.

abbrev pub engage_rest : Sizes → ℕ → Words → Engage → Local → ℕ
engage_rest z rows v Engage.Clock l = base_price z rows + 3 + state_price (state_of (v (name.State l.row)))
engage_rest z rows v Engage.Epoch l = base_price z rows + 2 + state_price (state_of (v (name.State l.row)))
engage_rest z rows v Engage.State l = base_price z rows + 1 + state_price (state_of (v (name.State l.row)))
engage_rest z rows v (Engage.Normal seat) l = base_price z rows + (if v (name.State l.row) == state_word (state.Infant seat) then 4 else 2 + state_price (state_of (v (name.State l.row))))
engage_rest z rows v Engage.Lead l = base_price z rows + (if v (name.State l.row) == state_word state.Normal then 1 else 2 + state_price (state_of (v (name.State l.row))))
engage_rest z rows v (Engage.MarkLink count) l = mark_price z rows
engage_rest z rows v (Engage.Decide count) l = claim_price z rows + 3

abbrev pub claim_rest : Sizes → ℕ → Words → Claim → Local → ℕ
claim_rest z rows v Claim.Count l = claim_price z rows + 4
claim_rest z rows v Claim.Exchange l = claim_price z rows + infant_price (state_of (v (name.State (row_after l))))
claim_rest z rows v (Claim.Normal seat) l = claim_price z rows + 1 + (if v (name.State (row_after l)) == state_word (state.Infant seat) then 0 else infant_price (state_of (v (name.State (row_after l)))))
claim_rest z rows v Claim.MarkLink l = freeze_price z rows + 1

-- with a guess there is no walk, and the event is a mark
abbrev pub left_rest : ℕ → Words → Left → Local → ℕ
left_rest rows v Left.Start l = left_price rows
left_rest rows v Left.Next l = 2 * up v rows l.rebalance.least + 2 + retry_price
left_rest rows v Left.NextLeast l = 2 * up v rows l.rebalance.least + 1 + retry_price

abbrev pub freeze_rest : Sizes → ℕ → Words → Freeze → Local → ℕ
freeze_rest z rows v Freeze.Count l = ahead_price z l.rebalance.ahead + row_freeze_price z + scan_price z rows
freeze_rest z rows v (Freeze.Look i) l = ahead_price z l.rebalance.ahead + 2 * (z.seats - i) + scan_price z rows
freeze_rest z rows v (Freeze.Entry i) l = ahead_price z l.rebalance.ahead + 2 * (z.seats - (i + 1)) + 1 + entry_price v i l + scan_price z rows
freeze_rest z rows v (Freeze.Scan i) l = 3 * (z.seats - i) + take_price z rows
freeze_rest z rows v (Freeze.Draw i) l = 3 * (z.seats - (i + 1)) + 2 + take_price z rows
freeze_rest z rows v (Freeze.Settle i) l = 3 * (z.seats - (i + 1)) + 1 + take_price z rows
freeze_rest z rows v (Freeze.Pin i) l = (z.seats - i) + take_price z rows

-- how many places are left to be gathered, each with four events
abbrev pub places_price : Sizes → Rebalancing → ℕ
places_price z b = 4 * (group_cells z - gathered_places z b.gathered) + rows_left b.ahead

abbrev pub gather_rest : Sizes → ℕ → Gather → Local → ℕ
gather_rest z rows Gather.Link l = places_price z l.rebalance + 5 + first_seek_price z rows
gather_rest z rows Gather.Key l = places_price z l.rebalance + 4 + first_seek_price z rows
gather_rest z rows Gather.Version l = places_price z l.rebalance + 3 + first_seek_price z rows
gather_rest z rows Gather.Value l = places_price z l.rebalance + 2 + first_seek_price z rows
gather_rest z rows Gather.LeftOverKey l = places_price z l.rebalance + 3 + first_seek_price z rows
gather_rest z rows Gather.LeftOverValue l = places_price z l.rebalance + 2 + first_seek_price z rows

abbrev pub seek_rest : Sizes → ℕ → Seek → Local → ℕ
seek_rest z rows Seek.First l = seek_price z rows l.rebalance.asked (length l.rebalance.taken) (z.seats + 3)
seek_rest z rows Seek.Next l = seek_price z rows l.rebalance.asked (length l.rebalance.taken) (z.seats + 3)
seek_rest z rows (Seek.Pass i) l = seek_price z rows l.rebalance.asked (length l.rebalance.taken) (z.seats - i + 2)
seek_rest z rows Seek.Reclaim l = seek_price z rows l.rebalance.asked (length l.rebalance.taken) 2
seek_rest z rows Seek.Take l = seek_price z rows l.rebalance.asked (length l.rebalance.taken) 1
seek_rest z rows Seek.GiveBack l = length l.rebalance.taken - l.rebalance.at + retry_price

abbrev pub write_rest : Sizes → ℕ → Write → Local → ℕ
write_rest z rows Write.Count l = write_price z rows (length l.rebalance.taken) l.rebalance.at (4 + z.seats + 4 * z.cells)
write_rest z rows Write.Least l = write_price z rows (length l.rebalance.taken) l.rebalance.at (3 + z.seats + 4 * z.cells)
write_rest z rows Write.Next l = write_price z rows (length l.rebalance.taken) l.rebalance.at (2 + z.seats + 4 * z.cells)
write_rest z rows Write.First l = write_price z rows (length l.rebalance.taken) l.rebalance.at (1 + z.seats + 4 * z.cells)
write_rest z rows (Write.Entry i) l = write_price z rows (length l.rebalance.taken) l.rebalance.at (z.seats - i + 4 * z.cells)
write_rest z rows (Write.Key j) l = write_price z rows (length l.rebalance.taken) l.rebalance.at (4 * (z.cells - (j + 1)) + 4)
write_rest z rows (Write.Value j) l = write_price z rows (length l.rebalance.taken) l.rebalance.at (4 * (z.cells - (j + 1)) + 3)
write_rest z rows (Write.Version j) l = write_price z rows (length l.rebalance.taken) l.rebalance.at (4 * (z.cells - (j + 1)) + 2)
write_rest z rows (Write.After j) l = write_price z rows (length l.rebalance.taken) l.rebalance.at (4 * (z.cells - (j + 1)) + 1)

abbrev pub replace_rest : ℕ → Words → Replace → Local → ℕ
replace_rest rows v Replace.Start l = before_price rows (length l.rebalance.taken)
replace_rest rows v Replace.GuessedLeast l = 2 * rows + 4 + length l.rebalance.taken + retry_price
replace_rest rows v Replace.First l = 2 * rows + 3 + length l.rebalance.taken + retry_price
replace_rest rows v Replace.Next l = 2 * up v rows l.rebalance.least + 2 + length l.rebalance.taken + retry_price
replace_rest rows v Replace.NextLeast l = 2 * up v rows l.rebalance.least + 1 + length l.rebalance.taken + retry_price
replace_rest rows v Replace.Exchange l = 1 + length l.rebalance.taken + retry_price
replace_rest rows v Replace.Normalise l = normal_price (length l.rebalance.taken - l.rebalance.at)
replace_rest rows v Replace.Number l = retire_price (rows_left l.rebalance.ahead)
replace_rest rows v Replace.Retire l = 2 * rows_left l.rebalance.ahead + 1 + retry_price

abbrev pub rebalance_rest : Sizes → ℕ → Words → Rebalance → Local → ℕ
rebalance_rest z rows v (Rebalance.Engage a) l = engage_rest z rows v a l
rebalance_rest z rows v (Rebalance.Claim a) l = claim_rest z rows v a l
rebalance_rest z rows v (Rebalance.Left a) l = left_rest rows v a l
rebalance_rest z rows v (Rebalance.Freeze a) l = freeze_rest z rows v a l
rebalance_rest z rows v (Rebalance.Gather a) l = gather_rest z rows a l
rebalance_rest z rows v (Rebalance.Seek a) l = seek_rest z rows a l
rebalance_rest z rows v (Rebalance.Write a) l = write_rest z rows a l
rebalance_rest z rows v (Rebalance.Replace a) l = replace_rest rows v a l

-- the rest, by activity: none is left at the end of a call, whose event is a mark
abbrev pub rest : Sizes → ℕ → Words → Activity → Local → ℕ
rest z rows v Activity.Idle l = 8
rest z rows v (Activity.Enter a) l = enter_rest a
rest z rows v (Activity.Draw a) l = draw_rest a
rest z rows v (Activity.Walk a) l = walk_rest z rows v a l
rest z rows v (Activity.Look a) l = look_rest z rows v a l
rest z rows v (Activity.Read a) l = read_rest z rows v a l
rest z rows v (Activity.EndScan answer) l = 1
rest z rows v Activity.ClearPin l = 1
rest z rows v (Activity.Put a) l = put_rest z rows a
rest z rows v (Activity.Insert a) l = insert_rest z rows v a l
rest z rows v (Activity.Rebalance a) l = rebalance_rest z rows v a l
rest z rows v Activity.Retry l = retry_price
rest z rows v (Activity.Leave answer) l = 0
