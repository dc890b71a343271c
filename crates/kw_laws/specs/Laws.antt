-- The laws over all valid lists of events.
use Rattle.std.specs.Prelude.{ℕ, ◌≡◌, ◌+◌, ◌<◌, ◌≤◌, true, false, Option, Some, None, List, [], Contains, length, slice_get}
use Rattle.kw_words.specs.declared.layout.Name.TheVariants as name
use Rattle.kw_words.specs.declared.pend.Pend.{Pend}
use Rattle.kw_words.specs.declared.pend.Pend.TheVariants.{Idle, Pending, Stamped, Frozen}
use Rattle.kw_words.specs.declared.scan.ScanWord.{ScanWord}
use Rattle.kw_words.specs.declared.scan.ScanWord.TheVariants.{Quiet, Waiting, Drawn}
use Rattle.kw_words.specs.Pend.{pend_of}
use Rattle.kw_words.specs.Plain.{cell_of_link_word}
use Rattle.kw_words.specs.declared.state.State.{State}
use Rattle.kw_words.specs.declared.state.State.TheVariants as state
use Rattle.kw_words.specs.Link.{link_of}
use Rattle.kw_words.specs.Scan.{scan_of}
use Rattle.kw_words.specs.State.{state_of}
use Rattle.kw_cells.specs.declared.cell.Cell as kw_cell
use Rattle.kw_model.specs.Map.{IsRising}
use Rattle.kw_world.specs.declared.activity.Activity.{Activity}
use Rattle.kw_world.specs.declared.activity.draw.Draw.TheVariants as Draw
use Rattle.kw_world.specs.declared.activity.rebalance.claim.Claim.TheVariants as Claim
use Rattle.kw_world.specs.declared.activity.rebalance.engage.Engage.TheVariants as Engage
use Rattle.kw_world.specs.declared.activity.rebalance.left.Left.TheVariants as Left
use Rattle.kw_world.specs.declared.activity.put.Put.TheVariants as Put
use Rattle.kw_world.specs.declared.activity.rebalance.Rebalance.TheVariants as Rebalance
use Rattle.kw_world.specs.declared.activity.rebalance.replace.Replace.TheVariants as Replace
use Rattle.kw_world.specs.declared.activity.rebalance.seek.Seek.TheVariants as Seek
use Rattle.kw_world.specs.declared.activity.walk.Walk.TheVariants as Walk
use Rattle.kw_world.specs.declared.local.Local.{Local}
use Rattle.kw_world.specs.ClaimTransitions.{row_after}
use Rattle.kw_world.specs.ListTransitions.{link_name}
use Rattle.kw_world.specs.GroupPlaces.{places, source}
use Rattle.kw_world.specs.Sizes.{Sizes}
use Rattle.kw_world.specs.Calls.{first_key, last_key, is_scan}
use Rattle.kw_world.specs.Sane.{IsSane}
use Rattle.kw_world.specs.Step.{word}
use Rattle.kw_world.specs.Transition.{row_linked, row_or_first}
use Rattle.kw_core.specs.History.{History, LoadClock, attempt, called, Stands}
use Rattle.kw_core.specs.HistoryLaws.{HistoryLaws, IsPut}
use Rattle.kw_core.specs.Run.{Run}
use Rattle.kw_core.specs.Stages.{IsAtInsertLink, IsAtReadLink, IsAtRow, IsCovering, IsEarly, IsKeeping, IsAtListed, IsInserting, IsMeeting}
use Rattle.kw_lists.specs.Rows.{IsBehind}
use Rattle.kw_puts.specs.Here.{IsHere}
use Rattle.kw_puts.specs.Lists.{list_in}
use Rattle.kw_core.specs.Words.{next_in, least_in}
use Rattle.kw_rows.specs.Ledger.{Free, IsFresh, IsHeld}
use Rattle.kw_rows.specs.Rows.{WasLinked}
use Rattle.kw_rows.specs.Structure.{Structure}
use Rattle.kw_shape.specs.Infants.{nursing_of}
use Rattle.kw_shape.specs.ReachedRows.{IsReached}
use Rattle.kw_shape.specs.Visits.{Numbers, Visits}
use Rattle.kw_shape.specs.RowsIn.{rows_in}
use Rattle.kw_shape.specs.Shape.{HoldsKey, Walks}
use Rattle.kw_puts.specs.Positions.{IsDrawnAt}
use Rattle.kw_kept.specs.Kept.{Kept}
use Rattle.kw_puts.specs.Builds.{HasPlanned, IsCellOf}
use Rattle.kw_reads.specs.Contents.{InRow, Needed, puts_of}
use Rattle.kw_reads.specs.Readers.{IsDue, IsCopyOf}
use Rattle.kw_reads.specs.Replies.{RisesBelow, Covers}
use Rattle.kw_laws.specs.Cells.{IsOfPut, IsShown, IsShownIn, shown_rows}
use Rattle.kw_world.specs.declared.answer.Answer.TheVariants.{Pairs}

-- the entry is idle or frozen
abbrev pub IsIdleOrFrozen : Option Pend → Type 0
IsIdleOrFrozen (Some Idle) = Unit {0}
IsIdleOrFrozen (Some (Pending cell)) = ⊥
IsIdleOrFrozen (Some (Stamped cell version)) = ⊥
IsIdleOrFrozen (Some Frozen) = Unit {0}
IsIdleOrFrozen None = ⊥

-- the entry is pending or stamped with this cell, or frozen
abbrev pub HasCellOrFrozen : ℕ → Option Pend → Type 0
HasCellOrFrozen own (Some Idle) = ⊥
HasCellOrFrozen own (Some (Pending cell)) = cell ≡ own
HasCellOrFrozen own (Some (Stamped cell version)) = cell ≡ own
HasCellOrFrozen own (Some Frozen) = Unit {0}
HasCellOrFrozen own None = ⊥

-- the scan waits with this clock, or has a version
abbrev pub IsWaitingOrDrawn : ℕ → Option ScanWord → Type 0
IsWaitingOrDrawn own (Some Quiet) = ⊥
IsWaitingOrDrawn own (Some (Waiting clock)) = clock ≡ own
IsWaitingOrDrawn own (Some (Drawn version)) = Unit {0}
IsWaitingOrDrawn own None = ⊥

-- the clock load that gave a put its version found this version, and stands after the announcement
-- of its cell and before the exchange that stamped it
pub record IsStampedInOrder (h : History) (p : ℕ) : Type 0 where
  pub announced : (attempt h p).announced < (attempt h p).load
  pub load : (attempt h p).load < (attempt h p).at
  pub found : Stands h (attempt h p).load LoadClock (attempt h p).version

-- the attempt is stamped, and a cell that is gathered stands for it
pub record IsGathered (r : Run) (q : ℕ) (l : Local) (p : ℕ) : Type 0 where
  pub stamped : (attempt r.history p).is_stamped ≡ true
  pub cell : kw_cell.Cell
  pub among : Contains l.gathered cell
  pub copy : IsCopyOf r.history r.origin q l.call cell p

-- the attempt is stamped, and what a seat that rebalances has gathered of its group holds the cell
-- of this place, which stands for it
pub record IsTaken (r : Run) (l : Local) (at p : ℕ) : Type 0 where
  pub cell : kw_cell.Cell
  pub among : Contains l.rebalance.gathered cell
  pub place : cell.place ≡ at
  pub is : IsCellOf r.history cell p

-- the pairs that a scan has rise and lie below the key that it wants next, which is in its range
pub record IsBelowWanted (l : Local) : Type 0 where
  pub rises : RisesBelow (first_key l.call) l.want l.pairs
  pub from : first_key l.call ≤ l.want
  pub upto : l.want ≤ last_key l.call

-- what a scan has: its version was drawn in its call, by its own seat or by one that helped it, and
-- the pairs are what the map has at this version for the keys of its range below a bound
pub record IsDrawnCover (r : Run) (t : ℕ) (l : Local) (bound : ℕ) (pairs : List (ℕ × ℕ)) : Type 0 where
  pub drawn : IsDrawnAt r.history (r.seats t).drawn l.version
  pub drawn_first : (called r.history (r.seats t).call).first < (r.seats t).drawn
  pub covers : Covers r.history (first_key l.call) l.version (r.seats t).drawn bound pairs

-- here a seat looks at the state of the row that it is about to rebalance, of the one at whose link
-- it has put the mark, or of the row that is to go along
abbrev pub IsStated : Activity → Type 0
IsStated (Activity.Rebalance (Rebalance.Engage Engage.State)) = Unit {0}
IsStated (Activity.Rebalance (Rebalance.Engage (Engage.Decide count))) = Unit {0}
IsStated (Activity.Rebalance (Rebalance.Claim Claim.Exchange)) = Unit {0}
IsStated _ = ⊥

-- that row
abbrev pub stated_row : Activity → Local → ℕ
stated_row (Activity.Rebalance (Rebalance.Claim _)) l = row_after l
stated_row _ l = l.row

-- the states that it may find: at first the row is not free; once its link is marked, it leads, or
-- is retired; and a row that is to go along was linked, and goes along with no other row
abbrev pub IsReachedState : Activity → Local → Option State → Type 0
IsReachedState (Activity.Rebalance (Rebalance.Engage Engage.State)) l (Some (state.Infant seat)) = Unit {0}
IsReachedState (Activity.Rebalance (Rebalance.Engage Engage.State)) l (Some state.Normal) = Unit {0}
IsReachedState (Activity.Rebalance (Rebalance.Engage Engage.State)) l (Some (state.Leader count)) = Unit {0}
IsReachedState (Activity.Rebalance (Rebalance.Engage Engage.State)) l (Some (state.Follower leader)) = Unit {0}
IsReachedState (Activity.Rebalance (Rebalance.Engage Engage.State)) l (Some (state.Retired number)) = Unit {0}
IsReachedState (Activity.Rebalance (Rebalance.Engage (Engage.Decide c))) l (Some (state.Leader count)) = Unit {0}
IsReachedState (Activity.Rebalance (Rebalance.Engage (Engage.Decide c))) l (Some (state.Retired number)) = Unit {0}
IsReachedState (Activity.Rebalance (Rebalance.Claim Claim.Exchange)) l (Some (state.Infant seat)) = Unit {0}
IsReachedState (Activity.Rebalance (Rebalance.Claim Claim.Exchange)) l (Some state.Normal) = Unit {0}
IsReachedState (Activity.Rebalance (Rebalance.Claim Claim.Exchange)) l (Some (state.Leader count)) = Unit {0}
IsReachedState (Activity.Rebalance (Rebalance.Claim Claim.Exchange)) l (Some (state.Follower leader)) = leader ≡ l.row
IsReachedState (Activity.Rebalance (Rebalance.Claim Claim.Exchange)) l (Some (state.Retired number)) = Unit {0}
IsReachedState _ l _ = ⊥

-- the seat loads the link of the row at which its walk to the row before its own one is, or to the
-- leader of its own one; it has reached the row behind that one
abbrev pub IsLeavingBefore : Activity → Type 0
IsLeavingBefore (Activity.Rebalance (Rebalance.Replace Replace.Next)) = Unit {0}
IsLeavingBefore (Activity.Rebalance (Rebalance.Left Left.Next)) = Unit {0}
IsLeavingBefore _ = ⊥

abbrev pub IsReachingNext : Activity → Type 0
IsReachingNext (Activity.Rebalance (Rebalance.Replace Replace.NextLeast)) = Unit {0}
IsReachingNext (Activity.Rebalance (Rebalance.Left Left.NextLeast)) = Unit {0}
IsReachingNext _ = ⊥

-- what every valid list keeps
pub record KeepsLaws (z : Sizes) (r : Run) : Type 0 where
  -- every word is one that may stand under its name, and all that a seat knows is in range
  pub sane : IsSane z r.world
  -- the rows of the list, and those that seats may still name, go with the words: the list rises
  -- from 0, links of such rows lead to such rows, and states and marks say what has become of a
  -- row. A row that the table does not have is free
  pub rows : Structure (rows_in (word z r.world)) r.ledger.rows (length r.history.log)
  pub beyond : (q : ℕ) → r.world.rows ≤ q → (r.ledger.rows.fates q).status ≡ Free
  -- a seat is in a visit as long as its word says so, of an epoch that is not above the present
  -- one; numbers are drawn in order
  pub visits : (t : ℕ) (l : Local) → slice_get r.world.locals t ≡ Some l → Visits (word z r.world) r.ledger.rows t l.activity l
  pub numbers : Numbers (word z r.world) r.ledger.rows
  -- a row that a seat tries to take, and that is retired, was retired in its visit: its number is
  -- not below the epoch of the visit
  pub retakes : (t : ℕ) (l : Local) → slice_get r.world.locals t ≡ Some l → l.activity ≡ Activity.Rebalance (Rebalance.Seek Seek.Take) → (n : ℕ) → state_of (word z r.world (name.State l.rebalance.sought)) ≡ Some (state.Retired n) → l.epoch ≤ n
  -- a seat that is to rebalance a row, or to take it along, finds it in one of few states
  pub stated : (t : ℕ) (l : Local) → slice_get r.world.locals t ≡ Some l → IsStated l.activity → IsReachedState l.activity l (state_of (word z r.world (name.State (stated_row l.activity l))))
  -- where the walk to the row before a full one, or to the leader of a follower, reaches the end of
  -- the list, the seat's own row is in the list no more
  pub ends_before : (t : ℕ) (l : Local) → slice_get r.world.locals t ≡ Some l → IsLeavingBefore l.activity → next_in (word z r.world) (row_or_first l.rebalance.before) ≡ None → IsReached (word z r.world) l.row → ⊥
  -- nor is it where that walk reaches a row whose least key is not below that of the own one
  pub goes_by_full : (t : ℕ) (l : Local) → slice_get r.world.locals t ≡ Some l → IsReachingNext l.activity → l.lower ≤ least_in (word z r.world) l.candidate → IsReached (word z r.world) l.row → ⊥
  -- a follower is never the first row of the list
  pub first_leads : (t : ℕ) (l : Local) → slice_get r.world.locals t ≡ Some l → l.activity ≡ Activity.Rebalance (Rebalance.Left Left.Start) → row_linked (link_of (word z r.world name.Head)) ≡ Some l.row → ⊥
  -- a row that is reached along the link of one that a seat may name has a greater least key than
  -- that one
  pub links : (q n : ℕ) → IsHeld r.ledger.rows q → next_in (word z r.world) q ≡ Some n → least_in (word z r.world) q < least_in (word z r.world) n
  -- each seat is where its call has it: on its walk at a row that is in the list, or was so in its
  -- visit, whose least key it knows, and at the row of its key with the row after it, which begins
  -- where the row's range ends
  pub walks : (t : ℕ) (l : Local) → slice_get r.world.locals t ≡ Some l → Walks (word z r.world) r.ledger.rows t l.activity l
  -- a walk goes up: the row after the one that it is at has a greater least key than the seat knows
  -- of its own, and so has the row after that of its key
  pub climbs : (t : ℕ) (l : Local) → slice_get r.world.locals t ≡ Some l → l.activity ≡ Activity.Walk Walk.NextLeast → l.lower < least_in (word z r.world) l.candidate
  pub climbs_on : (t : ℕ) (l : Local) → slice_get r.world.locals t ≡ Some l → IsAtRow l.activity → (n : ℕ) → l.next ≡ Some n → l.lower < l.upper
  -- the pairs that a scan has added rise by key
  pub pairs : (t : ℕ) (l : Local) → slice_get r.world.locals t ≡ Some l → is_scan l.call ≡ true → IsCovering l.activity → IsRising l.pairs
  -- they are keys of its range below the one that it wants next
  pub below : (t : ℕ) (l : Local) → slice_get r.world.locals t ≡ Some l → is_scan l.call ≡ true → IsCovering l.activity → IsBelowWanted l
  -- and what the map has for the keys of its range below that one, at the version that it drew: so
  -- where it is stopped, its pairs are those of its range at this version, up to the key that it
  -- would have wanted next
  pub covers : (t : ℕ) (l : Local) → slice_get r.world.locals t ≡ Some l → is_scan l.call ≡ true → IsCovering l.activity → IsDrawnCover r t l l.want l.pairs
  -- a scan that is over, and has not been stopped, has those of its whole range
  pub covered : (t : ℕ) (l : Local) → slice_get r.world.locals t ≡ Some l → is_scan l.call ≡ true → l.activity ≡ Activity.EndScan Pairs → IsDrawnCover r t l (last_key l.call + 1) l.pairs
  -- a call that has read no row has no pairs
  pub early : (t : ℕ) (l : Local) → slice_get r.world.locals t ≡ Some l → IsEarly l.activity → l.pairs ≡ []
  -- a seat that is to announce a cell finds its entry idle or frozen
  pub announces : (t : ℕ) (l : Local) → slice_get r.world.locals t ≡ Some l → l.activity ≡ Activity.Put Put.Announce → IsIdleOrFrozen (pend_of (word z r.world (name.Pend l.row t)))
  -- a seat that is to stamp its cell finds its entry pending or stamped with it, or frozen
  pub stamps : (t : ℕ) (l : Local) → slice_get r.world.locals t ≡ Some l → l.activity ≡ Activity.Put Put.Stamp → HasCellOrFrozen l.cell (pend_of (word z r.world (name.Pend l.row t)))
  -- a scan that is to settle finds that it waits, or a version
  pub settles : (t : ℕ) (l : Local) → slice_get r.world.locals t ≡ Some l → l.activity ≡ Activity.Draw Draw.Settle → IsWaitingOrDrawn l.waiting (scan_of (word z r.world (name.Scan t)))
  -- a cell that a put reaches on its walk along the row's list stands behind the cell whose link
  -- led to it, so that the put reaches none twice: it has reached fewer cells than the row has, and
  -- so there is one for it to reach
  pub reaches : (t : ℕ) (l : Local) → slice_get r.world.locals t ≡ Some l → IsMeeting l.activity → IsBehind (list_in (word z r.world) r.listed l.row) l.link l.place
  pub walked : (t : ℕ) (l : Local) → slice_get r.world.locals t ≡ Some l → IsAtInsertLink l.activity → l.walked < z.cells
  -- a put loses fewer of its exchanges to insert a cell than the row has cells
  pub lost : (t : ℕ) (l : Local) → slice_get r.world.locals t ≡ Some l → IsInserting l.activity → l.lost < z.cells
  -- so it is with a get or a scan that walks along the row's list: a cell that it reaches stands
  -- behind the cell whose link led to it, and where the link at which it stands leads to a cell, it
  -- has reached fewer cells than the row has
  pub reader_reaches : (t : ℕ) (l : Local) → slice_get r.world.locals t ≡ Some l → IsAtListed l.activity → IsBehind (list_in (word z r.world) r.listed l.row) l.link l.place
  pub reads_on : (t : ℕ) (l : Local) → slice_get r.world.locals t ≡ Some l → IsAtReadLink l.activity → (c : ℕ) → cell_of_link_word (word z r.world (link_name l.row l.link)) ≡ Some c → l.walked < z.cells
  -- each stamped put loaded its clock between its announcement and its stamp
  pub stamped : (p : ℕ) → IsPut r.history p → IsStampedInOrder r.history p
  -- the cell of each attempt whose row was not used again stands for it
  pub given : (p : ℕ) → p < length r.history.attempts → IsHere r.ledger.rows r.history p → r.origin (attempt r.history p).row (attempt r.history p).cell ≡ Some p
  -- of a row that a seat has read, each attempt for which a cell of the row stands, its own cell or
  -- a copy, and which was announced before the seat looked, and whose key it reads, is lost, or
  -- stamped and gathered
  pub seen : (t : ℕ) (l : Local) → slice_get r.world.locals t ≡ Some l → IsKeeping l.activity → (q : ℕ) → (r.seats t).read ≡ Some q → (c p : ℕ) → IsDue r.history r.origin q l.call (r.seats t).looked c p → IsGathered r q l p
  -- of the group of a seat that seeks, writes or links the rows which are to take its place, each
  -- attempt for which a cell of its rows stands and which was announced is lost, or stamped and
  -- gathered
  pub rebuilds : (t : ℕ) (l : Local) → slice_get r.world.locals t ≡ Some l → HasPlanned (nursing_of l.activity) → (place p : ℕ) → place < places z l.rebalance.second → source z r.origin l place ≡ Some p → (attempt r.history p).is_announced ≡ true → (attempt r.history p).is_lost ≡ false → IsTaken r l place p
  -- the words of each row that is reached from Head show for each key of its range what all stamped
  -- puts show, at the newest version and at each that a scan needs
  pub kept : Kept (puts_of r.history) (shown_rows z r) (Needed z r)
  -- of a row that is or was linked, a cell that stands for a stamped put shows what was put, and
  -- each cell that shows something stands for a stamped put, and shows what was put
  pub shown : (q p : ℕ) → WasLinked r.ledger.rows q → InRow z r q p → IsShownIn z r q p
  pub of_puts : (q c key version : ℕ) (value : Option ℕ) → WasLinked r.ledger.rows q → IsShown z (word z r.world) q c key version value → IsOfPut r q c key version value
  -- a seat that is at the row of its key is at a row that is in the list, or was so in its visit,
  -- and which may hold the key
  pub live : (t : ℕ) (l : Local) → slice_get r.world.locals t ≡ Some l → IsAtRow l.activity → IsFresh r.ledger.rows t l.row
  pub holds : (t : ℕ) (l : Local) → slice_get r.world.locals t ≡ Some l → IsAtRow l.activity → HoldsKey (word z r.world) r.ledger.rows l.row l.want
  -- the record of what happened keeps its laws
  pub history : HistoryLaws r.history
