-- Where a seat stands: the stages of a call, and the activities by what is known of a seat there.
-- Each family is a type that computes at every activity, so that a fact with such a premise says
-- nothing elsewhere. A family of whole stages goes by `stage_of`, the one list of all activities: a
-- new one gets its stage there. A finer family names its activities.
use Rattle.std.specs.Prelude.{◌≤◌, Bool, true, false, Option, Some, None}
use Rattle.kw_model.specs.declared.call.Call.{Call}
use Rattle.kw_model.specs.declared.call.Call.TheVariants.{Put, Del, Get, Scan, Pin, ScanAt, Unpin}
use Rattle.kw_world.specs.declared.answer.Answer.TheVariants.{Done, Pairs}
use Rattle.kw_world.specs.declared.activity.Activity.{Activity}
use Rattle.kw_core.specs.declared.stage.Stage.{Stage}
use Rattle.kw_core.specs.declared.stage.Stage.TheVariants.{Resting, Entering, Drawing, Walking, Looking, Taking, Clearing, Putting, Rebalancing, Retrying, Leaving}
use Rattle.kw_world.specs.declared.activity.draw.Draw.TheVariants as Draw
use Rattle.kw_world.specs.declared.activity.insert.Insert.TheVariants as Insert
use Rattle.kw_world.specs.declared.activity.look.Look.TheVariants as Look
use Rattle.kw_world.specs.declared.activity.put.Put.TheVariants as Put
use Rattle.kw_world.specs.declared.activity.read.Read.TheVariants as Read
use Rattle.kw_world.specs.declared.activity.walk.Walk.TheVariants as Walk

-- Calls.

-- a put or a delete
abbrev pub is_put : Option Call → Bool
is_put (Some (Put key value)) = true
is_put (Some (Del key)) = true
is_put (Some (Get key)) = false
is_put (Some (Scan from upto)) = false
is_put (Some Pin) = false
is_put (Some (ScanAt from upto)) = false
is_put (Some Unpin) = false
is_put None = false

-- The stages of a call.

-- each activity is of one stage
abbrev pub stage_of : Activity → Stage
stage_of Activity.Idle = Resting
stage_of (Activity.Enter _) = Entering
stage_of (Activity.Draw _) = Drawing
stage_of (Activity.Walk _) = Walking
stage_of (Activity.Look _) = Looking
stage_of (Activity.Read _) = Taking
stage_of (Activity.EndScan answer) = Clearing
stage_of Activity.ClearPin = Clearing
stage_of (Activity.Put _) = Putting
stage_of (Activity.Insert _) = Putting
stage_of (Activity.Leave answer) = Leaving
stage_of Activity.Retry = Retrying
stage_of (Activity.Rebalance _) = Rebalancing

-- the call walks to the row of the wanted key, for code that goes on as long as it does
abbrev pub is_walking_stage : Stage → Bool
is_walking_stage Walking = true
is_walking_stage _ = false

abbrev pub is_walking : Activity → Bool
is_walking a = is_walking_stage (stage_of a)

-- a put or a delete is at its row, for code that goes on as long as it is
abbrev pub is_putting_stage : Stage → Bool
is_putting_stage Putting = true
is_putting_stage _ = false

abbrev pub is_putting : Activity → Bool
is_putting a = is_putting_stage (stage_of a)

abbrev IsBusyStage : Stage → Type 0
IsBusyStage Resting = ⊥
IsBusyStage _ = Unit {0}

-- the seat makes a call
abbrev pub IsBusy : Activity → Type 0
IsBusy a = IsBusyStage (stage_of a)

abbrev pub IsVisitingStage : Stage → Type 0
IsVisitingStage Resting = ⊥
IsVisitingStage Entering = ⊥
IsVisitingStage _ = Unit {0}

-- the seat is in a visit: it has stored the epoch of its call, and has not cleared it
abbrev pub IsVisiting : Activity → Type 0
IsVisiting a = IsVisitingStage (stage_of a)

abbrev IsUnderwayStage : Stage → Type 0
IsUnderwayStage Resting = ⊥
IsUnderwayStage Leaving = ⊥
IsUnderwayStage _ = Unit {0}

-- the seat is in a call, and is not about to leave
abbrev pub IsUnderway : Activity → Type 0
IsUnderway a = IsUnderwayStage (stage_of a)

abbrev IsStayingStage : Stage → Type 0
IsStayingStage Leaving = ⊥
IsStayingStage _ = Unit {0}

-- the seat is not about to leave
abbrev pub IsStaying : Activity → Type 0
IsStaying a = IsStayingStage (stage_of a)

abbrev IsEarlyStage : Stage → Type 0
IsEarlyStage Resting = Unit {0}
IsEarlyStage Entering = Unit {0}
IsEarlyStage Drawing = Unit {0}
IsEarlyStage _ = ⊥

-- the call has read no row and has no pairs
abbrev pub IsEarly : Activity → Type 0
IsEarly a = IsEarlyStage (stage_of a)

abbrev IsKeepingStage : Stage → Type 0
IsKeepingStage Resting = ⊥
IsKeepingStage Looking = ⊥
IsKeepingStage _ = Unit {0}

-- the seat is in a call and does not look at entries: what it gathered in the last row that it read
-- is still there
abbrev pub IsKeeping : Activity → Type 0
IsKeeping a = IsKeepingStage (stage_of a)

-- The walk and the row.

-- the walk begins
abbrev pub IsStarting : Activity → Type 0
IsStarting (Activity.Walk Walk.Start) = Unit {0}
IsStarting (Activity.Walk Walk.First) = Unit {0}
IsStarting (Activity.Walk Walk.GuessedLeast) = Unit {0}
IsStarting _ = ⊥

abbrev IsReadStage : Stage → Type 0
IsReadStage Looking = Unit {0}
IsReadStage Taking = Unit {0}
IsReadStage _ = ⊥

-- a get or a scan is at its row
abbrev pub IsAtRead : Activity → Type 0
IsAtRead a = IsReadStage (stage_of a)

abbrev IsRowStage : Stage → Type 0
IsRowStage Looking = Unit {0}
IsRowStage Taking = Unit {0}
IsRowStage Putting = Unit {0}
IsRowStage _ = ⊥

-- the seat is at the row of the wanted key
abbrev pub IsAtRow : Activity → Type 0
IsAtRow a = IsRowStage (stage_of a)

abbrev IsCoveringStage : Stage → Type 0
IsCoveringStage Walking = Unit {0}
IsCoveringStage Looking = Unit {0}
IsCoveringStage Taking = Unit {0}
IsCoveringStage _ = ⊥

-- the seat is on its way, or a get or a scan is at its row
abbrev pub IsCovering : Activity → Type 0
IsCovering a = IsCoveringStage (stage_of a)

abbrev pub IsBalancingStage : Stage → Type 0
IsBalancingStage Rebalancing = Unit {0}
IsBalancingStage _ = ⊥

-- the seat rebalances its row
abbrev pub IsBalancing : Activity → Type 0
IsBalancing a = IsBalancingStage (stage_of a)

abbrev IsLookingStage : Stage → Type 0
IsLookingStage Looking = Unit {0}
IsLookingStage _ = ⊥

-- the reader looks at the entries of the row, or is about to
abbrev pub IsLooking : Activity → Type 0
IsLooking a = IsLookingStage (stage_of a)

abbrev IsTakingStage : Stage → Type 0
IsTakingStage Taking = Unit {0}
IsTakingStage _ = ⊥

-- the reader reads the cells of the row
abbrev pub IsTaking : Activity → Type 0
IsTaking a = IsTakingStage (stage_of a)

-- the seat walks along the rows or is at its row
abbrev pub IsPastStart : Activity → Type 0
IsPastStart (Activity.Walk Walk.Next) = Unit {0}
IsPastStart (Activity.Walk Walk.NextLeast) = Unit {0}
IsPastStart a = IsAtRow a

-- Puts.

-- the put has a cell
abbrev pub IsPutting : Activity → Type 0
IsPutting (Activity.Put Put.Key) = Unit {0}
IsPutting (Activity.Put Put.Value) = Unit {0}
IsPutting (Activity.Put Put.Announce) = Unit {0}
IsPutting (Activity.Put Put.Clock) = Unit {0}
IsPutting (Activity.Put Put.Stamp) = Unit {0}
IsPutting (Activity.Put Put.Version) = Unit {0}
IsPutting (Activity.Insert _) = Unit {0}
IsPutting (Activity.Put Put.Clear) = Unit {0}
IsPutting _ = ⊥

-- it has not announced the cell
abbrev pub IsFresh : Activity → Type 0
IsFresh (Activity.Put Put.Key) = Unit {0}
IsFresh (Activity.Put Put.Value) = Unit {0}
IsFresh (Activity.Put Put.Announce) = Unit {0}
IsFresh _ = ⊥

-- it has not announced the cell, and its key is stored
abbrev pub HasKey : Activity → Type 0
HasKey (Activity.Put Put.Value) = Unit {0}
HasKey (Activity.Put Put.Announce) = Unit {0}
HasKey _ = ⊥

-- it is about to announce the cell: its key and its value are stored
abbrev pub IsAnnounce : Activity → Type 0
IsAnnounce (Activity.Put Put.Announce) = Unit {0}
IsAnnounce _ = ⊥

-- it has announced the cell
abbrev pub IsPublished : Activity → Type 0
IsPublished (Activity.Put Put.Clock) = Unit {0}
IsPublished (Activity.Put Put.Stamp) = Unit {0}
IsPublished (Activity.Put Put.Version) = Unit {0}
IsPublished (Activity.Insert _) = Unit {0}
IsPublished (Activity.Put Put.Clear) = Unit {0}
IsPublished _ = ⊥

-- it has announced the cell and may not be stamped yet
abbrev pub IsUnstamped : Activity → Type 0
IsUnstamped (Activity.Put Put.Clock) = Unit {0}
IsUnstamped (Activity.Put Put.Stamp) = Unit {0}
IsUnstamped _ = ⊥

-- it is about to stamp the cell
abbrev pub IsStamp : Activity → Type 0
IsStamp (Activity.Put Put.Stamp) = Unit {0}
IsStamp _ = ⊥

-- it is stamped
abbrev pub IsStamped : Activity → Type 0
IsStamped (Activity.Put Put.Version) = Unit {0}
IsStamped (Activity.Insert _) = Unit {0}
IsStamped (Activity.Put Put.Clear) = Unit {0}
IsStamped _ = ⊥

-- it is about to store its version
abbrev pub IsPutVersion : Activity → Type 0
IsPutVersion (Activity.Put Put.Version) = Unit {0}
IsPutVersion _ = ⊥

-- its version is stored
abbrev pub IsStored : Activity → Type 0
IsStored (Activity.Insert _) = Unit {0}
IsStored (Activity.Put Put.Clear) = Unit {0}
IsStored _ = ⊥

-- it inserts its cell in the row's list
abbrev pub IsInserting : Activity → Type 0
IsInserting (Activity.Insert _) = Unit {0}
IsInserting _ = ⊥

-- it loads the link at which it stands, unless it begins behind a cell
abbrev pub IsAtInsertLink : Activity → Type 0
IsAtInsertLink (Activity.Insert Insert.Start) = Unit {0}
IsAtInsertLink (Activity.Insert Insert.Link) = Unit {0}
IsAtInsertLink _ = ⊥

-- it has reached a cell on its walk along the list
abbrev pub IsMeeting : Activity → Type 0
IsMeeting (Activity.Insert Insert.Key) = Unit {0}
IsMeeting (Activity.Insert Insert.Version) = Unit {0}
IsMeeting _ = ⊥

-- its cell is not listed yet
abbrev pub IsUnlisted : Activity → Type 0
IsUnlisted (Activity.Put Put.Clear) = ⊥
IsUnlisted a = IsPutting a

-- it is about to store the link after its cell
abbrev pub IsInsSet : Activity → Type 0
IsInsSet (Activity.Insert Insert.Set) = Unit {0}
IsInsSet _ = ⊥

-- it is about to exchange the link before its cell
abbrev pub IsInsert : Activity → Type 0
IsInsert (Activity.Insert Insert.Exchange) = Unit {0}
IsInsert _ = ⊥

-- its cell is listed
abbrev pub IsPutClear : Activity → Type 0
IsPutClear (Activity.Put Put.Clear) = Unit {0}
IsPutClear _ = ⊥

-- it is done, and about to say so
abbrev pub IsDone : Activity → Type 0
IsDone (Activity.Leave Done) = Unit {0}
IsDone _ = ⊥

-- Readers.

-- it has looked at the first entry
abbrev pub HasLooked : Activity → Type 0
HasLooked (Activity.Look (Look.Entry i)) = 1 ≤ i
HasLooked (Activity.Look _) = Unit {0}
HasLooked _ = ⊥

-- it saw a pending entry
abbrev pub HasSeenPending : Activity → Type 0
HasSeenPending (Activity.Look Look.Key) = Unit {0}
HasSeenPending (Activity.Look Look.Clock) = Unit {0}
HasSeenPending (Activity.Look Look.Help) = Unit {0}
HasSeenPending _ = ⊥

-- the key of that entry's cell is one that it reads
abbrev pub IsToHelp : Activity → Type 0
IsToHelp (Activity.Look Look.Clock) = Unit {0}
IsToHelp (Activity.Look Look.Help) = Unit {0}
IsToHelp _ = ⊥

-- it is about to help that entry's put
abbrev pub IsHelp : Activity → Type 0
IsHelp (Activity.Look Look.Help) = Unit {0}
IsHelp _ = ⊥

-- it has reached a cell in the row's list
abbrev pub IsAtListed : Activity → Type 0
IsAtListed (Activity.Read Read.Key) = Unit {0}
IsAtListed (Activity.Read Read.Version) = Unit {0}
IsAtListed (Activity.Read Read.Value) = Unit {0}
IsAtListed _ = ⊥

-- it loads the link at which it stands, unless it begins behind a cell
abbrev pub IsAtReadLink : Activity → Type 0
IsAtReadLink (Activity.Read Read.Start) = Unit {0}
IsAtReadLink (Activity.Read Read.Link) = Unit {0}
IsAtReadLink _ = ⊥

-- it walks along the row's list
abbrev pub IsListing : Activity → Type 0
IsListing (Activity.Read Read.Start) = Unit {0}
IsListing (Activity.Read Read.Link) = Unit {0}
IsListing a = IsAtListed a

-- it reads a remembered cell that it did not reach
abbrev pub IsResting : Activity → Type 0
IsResting (Activity.Read Read.LeftOverKey) = Unit {0}
IsResting (Activity.Read Read.LeftOverValue) = Unit {0}
IsResting _ = ⊥

-- it has a cell in hand
abbrev pub HasPlace : Activity → Type 0
HasPlace (Activity.Read Read.Key) = Unit {0}
HasPlace (Activity.Read Read.Version) = Unit {0}
HasPlace (Activity.Read Read.Value) = Unit {0}
HasPlace (Activity.Read Read.LeftOverKey) = Unit {0}
HasPlace (Activity.Read Read.LeftOverValue) = Unit {0}
HasPlace _ = ⊥

-- it has the version of that cell in hand
abbrev pub HasVersion : Activity → Type 0
HasVersion (Activity.Read Read.Value) = Unit {0}
HasVersion (Activity.Read Read.LeftOverKey) = Unit {0}
HasVersion (Activity.Read Read.LeftOverValue) = Unit {0}
HasVersion _ = ⊥

-- it has the key of that cell in hand, which is in its range
abbrev pub HasCellKey : Activity → Type 0
HasCellKey (Activity.Read Read.Version) = Unit {0}
HasCellKey (Activity.Read Read.Value) = Unit {0}
HasCellKey (Activity.Read Read.LeftOverValue) = Unit {0}
HasCellKey _ = ⊥

-- it has looked at the first entry, or reads the cells
abbrev pub IsReading : Activity → Type 0
IsReading (Activity.Look (Look.Entry i)) = 1 ≤ i
IsReading (Activity.Look _) = Unit {0}
IsReading (Activity.Read _) = Unit {0}
IsReading _ = ⊥

-- Scans.

-- the word of the scan says that it waits
abbrev pub IsWaiting : Activity → Type 0
IsWaiting (Activity.Draw Draw.Version) = Unit {0}
IsWaiting (Activity.Draw Draw.Settle) = Unit {0}
IsWaiting _ = ⊥

-- the scan has drawn, and its word does not say so yet
abbrev pub IsSettling : Activity → Type 0
IsSettling (Activity.Draw Draw.Settle) = Unit {0}
IsSettling _ = ⊥

-- the scan's word says what it drew
abbrev pub IsSettled : Activity → Type 0
IsSettled (Activity.EndScan answer) = Unit {0}
IsSettled a = IsCovering a

-- the scan has its version
abbrev pub HasDrawn : Activity → Type 0
HasDrawn (Activity.EndScan answer) = Unit {0}
HasDrawn (Activity.Leave Pairs) = Unit {0}
HasDrawn a = IsCovering a
