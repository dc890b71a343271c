-- Sane worlds: all that a world holds is in range, so that every event of it is safe.
use Rattle.std.specs.Prelude.{ℕ, ◌≡◌, ◌⊎◌, if◌then◌else◌, ◌+◌, ◌-◌, ◌*◌, ◌<◌, ◌≤◌, false, Option, Some, None, length, All, slice_get}
use Rattle.kw_words.specs.declared.layout.Name.{Name}
use Rattle.kw_words.specs.declared.layout.Name.TheVariants as name
use Rattle.kw_words.specs.declared.pend.Pend.{Pend}
use Rattle.kw_words.specs.declared.pend.Pend.TheVariants as pend
use Rattle.kw_words.specs.declared.state.State.{State}
use Rattle.kw_words.specs.declared.state.State.TheVariants.{Free, Infant, Normal, Leader, Follower, Retired}
use Rattle.kw_words.specs.declared.count.Count as count
use Rattle.kw_words.specs.declared.link.Link.{Link}
use Rattle.kw_words.specs.declared.sizes.TheConstants.{KEY_END, VALUE_END, VERSION_END, NUMBER_END, MOST_GROUP}
use Rattle.kw_words.specs.Layout.{IsSized, IsWithin, words_of}
use Rattle.kw_words.specs.Pend.{pend_of}
use Rattle.kw_words.specs.State.{state_of}
use Rattle.kw_words.specs.Count.{count_of}
use Rattle.kw_words.specs.Link.{link_of}
use Rattle.kw_words.specs.Scan.{scan_of}
use Rattle.kw_words.specs.Plain.{IsValue, built_of_word}
use Rattle.kw_cells.specs.declared.cell.Cell as kw_cell
use Rattle.kw_model.specs.declared.call.Call.{Call}
use Rattle.kw_model.specs.declared.call.Call.TheVariants.{Put, Del, Get, Scan, Pin, ScanAt, Unpin}
use Rattle.kw_world.specs.declared.answer.Answer.{Answer}
use Rattle.kw_world.specs.declared.answer.Answer.TheVariants.{Value}
use Rattle.kw_world.specs.declared.activity.Activity.{Activity}
use Rattle.kw_world.specs.declared.activity.rebalance.claim.Claim.TheVariants as Claim
use Rattle.kw_world.specs.declared.activity.rebalance.engage.Engage.TheVariants as Engage
use Rattle.kw_world.specs.declared.activity.rebalance.freeze.Freeze.TheVariants as Freeze
use Rattle.kw_world.specs.declared.activity.look.Look.TheVariants as Look
use Rattle.kw_world.specs.declared.activity.rebalance.Rebalance.TheVariants as Rebalance
use Rattle.kw_world.specs.declared.activity.rebalance.seek.Seek.TheVariants as Seek
use Rattle.kw_world.specs.declared.activity.rebalance.write.Write.TheVariants as Write
use Rattle.kw_world.specs.declared.local.Local.{Local}
use Rattle.kw_world.specs.declared.marks.Mark.{Mark}
use Rattle.kw_world.specs.declared.rebalance.Rebalancing.{Rebalancing}
use Rattle.kw_world.specs.declared.event.Event.{Event}
use Rattle.kw_world.specs.declared.event.Choice.{Choice}
use Rattle.kw_world.specs.declared.event.Choice.TheVariants.{Begin, Go, Guess, Stop}
use Rattle.kw_world.specs.declared.operation.Action.{Action}
use Rattle.kw_world.specs.declared.operation.Action.TheVariants.{Load, Store, Add, Or, Exchange}
use Rattle.kw_world.specs.declared.limits.TheConstants.{GIVEN_END, MOST_CALLS}
use Rattle.kw_world.specs.GroupPlaces.{is_second}
use Rattle.kw_world.specs.Sizes.{Sizes}
use Rattle.kw_world.specs.WorldView.{WorldView}
use Rattle.kw_world.specs.declared.part.Part.{Part}
use Rattle.kw_world.specs.Parts.{part_of}
use Rattle.kw_world.specs.Step.{word}
use Rattle.kw_world.specs.WriteTransitions.{new_row_cells}

-- The words.

-- a version or a clock
abbrev pub IsVersion : ℕ → Type 0
IsVersion n = (1 ≤ n) × (n < VERSION_END)

-- an epoch or the number of a retired row
abbrev pub IsNumber : ℕ → Type 0
IsNumber n = (1 ≤ n) × (n < NUMBER_END)

-- the entry is one that a word may stand for, and its cell is one of the row's
abbrev pub IsEntry : Sizes → Option Pend → Type 0
IsEntry z (Some pend.Idle) = Unit {0}
IsEntry z (Some (pend.Pending cell)) = cell < z.cells
IsEntry z (Some (pend.Stamped cell version)) = (cell < z.cells) × IsVersion version
IsEntry z (Some pend.Frozen) = Unit {0}
IsEntry z None = ⊥

-- the state is one that a word may stand for, and its seat is one of the seats
abbrev pub IsRowState : Sizes → Option State → Type 0
IsRowState z (Some Free) = Unit {0}
IsRowState z (Some (Infant seat)) = seat < z.seats
IsRowState z (Some Normal) = Unit {0}
IsRowState z (Some (Leader count)) = Unit {0}
IsRowState z (Some (Follower leader)) = Unit {0}
IsRowState z (Some (Retired number)) = IsNumber number
IsRowState z None = ⊥

-- the count is one that a word may stand for, and stays far from its end
abbrev pub IsGiven : Option count.Count → Type 0
IsGiven (Some count) = count.given < GIVEN_END
IsGiven None = ⊥

-- the word stands for something
abbrev pub IsKnownWord : {A : Type 0} → Option A → Type 0
IsKnownWord (Some x) = Unit {0}
IsKnownWord None = ⊥

-- 0, or a number beside the mark of a value
abbrev pub IsValueWord : ℕ → Type 0
IsValueWord w = (w ≡ 0) ⊎ (VALUE_END ≤ w) × (w < VALUE_END + VALUE_END)

-- the word is one that may stand under this name; rows aside
abbrev pub IsWord : Sizes → Name → ℕ → Type 0
IsWord z name.Clock w = IsVersion w
IsWord z name.Epoch w = IsNumber w
IsWord z name.Head w = IsKnownWord (link_of w)
IsWord z name.Turn w = w ≤ z.seats
IsWord z (name.Pass seat) w = w < NUMBER_END
IsWord z (name.Scan seat) w = IsKnownWord (scan_of w)
IsWord z (name.Pin seat) w = IsKnownWord (scan_of w)
IsWord z (name.State r) w = IsRowState z (state_of w)
IsWord z (name.Count r) w = IsGiven (count_of w)
IsWord z (name.Least r) w = built_of_word w ≤ z.cells
IsWord z (name.Next r) w = IsKnownWord (link_of w)
IsWord z (name.First r) w = w ≤ z.cells
IsWord z (name.Pend r seat) w = IsEntry z (pend_of w)
IsWord z (name.Key r cell) w = w < KEY_END
IsWord z (name.Value r cell) w = IsValueWord w
IsWord z (name.Version r cell) w = w < VERSION_END
IsWord z (name.After r cell) w = w ≤ z.cells

-- the row, if there is one, is one of the table's
abbrev pub IsRowBelow : ℕ → Option ℕ → Type 0
IsRowBelow rows (Some r) = r < rows
IsRowBelow rows None = Unit {0}

-- the link, if it is one, leads to a row of the table or ends the list
abbrev pub IsLinkBelow : ℕ → Option Link → Type 0
IsLinkBelow rows (Some link) = IsRowBelow rows link.row
IsLinkBelow rows None = Unit {0}

-- the link leads to a row of the table, and is not marked
abbrev pub IsHead : ℕ → Option Link → Type 0
IsHead rows (Some link) = ((r : ℕ) × (link.row ≡ Some r) × (r < rows)) × (link.marked ≡ false)
IsHead rows None = ⊥

-- the state, if it is that of a follower, names a row of the table
abbrev pub IsStateBelow : ℕ → Option State → Type 0
IsStateBelow rows (Some Free) = Unit {0}
IsStateBelow rows (Some (Infant seat)) = Unit {0}
IsStateBelow rows (Some Normal) = Unit {0}
IsStateBelow rows (Some (Leader count)) = Unit {0}
IsStateBelow rows (Some (Follower leader)) = leader < rows
IsStateBelow rows (Some (Retired number)) = Unit {0}
IsStateBelow rows None = Unit {0}

-- the rows that the word under this name names are those of the table
abbrev pub IsLed : ℕ → Name → ℕ → Type 0
IsLed rows name.Head w = IsHead rows (link_of w)
IsLed rows (name.State r) w = IsStateBelow rows (state_of w)
IsLed rows (name.Next r) w = IsLinkBelow rows (link_of w)
IsLed rows _ w = Unit {0}

-- What a seat knows.

-- the numbers of a call are in range; no seat pins the map, or asks of a pin
abbrev pub IsCall : Option Call → Type 0
IsCall (Some (Put key value)) = (key < KEY_END) × (value < VALUE_END)
IsCall (Some (Del key)) = key < KEY_END
IsCall (Some (Get key)) = key < KEY_END
IsCall (Some (Scan from upto)) = (from < KEY_END) × (upto < KEY_END)
IsCall (Some Pin) = ⊥
IsCall (Some (ScanAt from upto)) = ⊥
IsCall (Some Unpin) = ⊥
IsCall None = Unit {0}

-- a pair of a key and a value in range
abbrev pub IsPair : ℕ × ℕ → Type 0
IsPair p = (p.0 < KEY_END) × (p.1 < VALUE_END)

-- the value of an answer is in range
abbrev pub IsAnswer : Answer → Type 0
IsAnswer (Value value) = value < VALUE_END
IsAnswer _ = Unit {0}

-- the seat, the cell, the value or the number of rows that an activity names is in range
abbrev pub IsActivity : Sizes → Activity → Type 0
IsActivity z (Activity.Look (Look.Entry i)) = i < z.seats
IsActivity z (Activity.EndScan answer) = IsAnswer answer
IsActivity z (Activity.Leave answer) = IsAnswer answer
IsActivity z (Activity.Rebalance (Rebalance.Engage (Engage.Normal seat))) = seat < z.seats
IsActivity z (Activity.Rebalance (Rebalance.Engage (Engage.MarkLink count))) = count ≤ MOST_GROUP
IsActivity z (Activity.Rebalance (Rebalance.Engage (Engage.Decide count))) = count ≤ MOST_GROUP
IsActivity z (Activity.Rebalance (Rebalance.Claim (Claim.Normal seat))) = seat < z.seats
IsActivity z (Activity.Rebalance (Rebalance.Freeze (Freeze.Look i))) = i < z.seats
IsActivity z (Activity.Rebalance (Rebalance.Freeze (Freeze.Entry i))) = i < z.seats
IsActivity z (Activity.Rebalance (Rebalance.Freeze (Freeze.Scan i))) = i < z.seats
IsActivity z (Activity.Rebalance (Rebalance.Freeze (Freeze.Draw i))) = i < z.seats
IsActivity z (Activity.Rebalance (Rebalance.Freeze (Freeze.Settle i))) = i < z.seats
IsActivity z (Activity.Rebalance (Rebalance.Freeze (Freeze.Pin i))) = i < z.seats
IsActivity z (Activity.Rebalance (Rebalance.Seek (Seek.Pass i))) = i < z.seats
IsActivity z (Activity.Rebalance (Rebalance.Write (Write.Entry i))) = i < z.seats
IsActivity z (Activity.Rebalance (Rebalance.Write (Write.Key j))) = j < z.cells
IsActivity z (Activity.Rebalance (Rebalance.Write (Write.Value j))) = j < z.cells
IsActivity z (Activity.Rebalance (Rebalance.Write (Write.Version j))) = j < z.cells
IsActivity z (Activity.Rebalance (Rebalance.Write (Write.After j))) = j < z.cells
IsActivity z _ = Unit {0}

-- the cell, if there is one, is one of the row's
abbrev pub IsCellBelow : ℕ → Option ℕ → Type 0
IsCellBelow cells (Some cell) = cell < cells
IsCellBelow cells None = Unit {0}

-- the version of a pin, if there is one, is in range
abbrev pub IsPinned : Option ℕ → Type 0
IsPinned (Some version) = IsVersion version
IsPinned None = Unit {0}

-- a remembered cell and its version are in range
abbrev pub IsMark : Sizes → Mark → Type 0
IsMark z m = (m.cell < z.cells) × IsVersion m.version

-- a remembered cell of a group has a place there, and its version is in range
abbrev pub IsGroupMark : Sizes → Mark → Type 0
IsGroupMark z m = (m.cell < MOST_GROUP * z.cells) × IsVersion m.version

-- a gathered cell's key, version and value are in range
abbrev pub IsCopy : kw_cell.Cell → Type 0
IsCopy c = (c.key < KEY_END) × IsVersion c.version × IsValue c.value

-- a gathered cell has a place that a group has
abbrev pub IsPlaced : Sizes → kw_cell.Cell → Type 0
IsPlaced z c = c.place < MOST_GROUP * z.cells

-- what a seat knows of its rebalance is in range; rows aside
pub record IsRebalance (z : Sizes) (b : Rebalancing) : Type 0 where
  pub entry : IsEntry z (Some b.entry)
  pub marks : All (IsGroupMark z) b.marks
  pub waiting : IsVersion b.waiting
  pub drawn : IsVersion b.drawn
  pub needed : All IsVersion b.needed
  pub gathered : All IsCopy b.gathered
  pub placed : All (IsPlaced z) b.gathered
  pub kept : All IsCopy b.kept
  pub places : All (IsPlaced z) b.kept
  pub few : length b.kept ≤ MOST_GROUP * z.cells
  -- each new row has no more cells than a row; a row is taken for each, and one of those is at hand
  pub fits : (n : ℕ) → n ≤ length b.starts - 1 → length (new_row_cells b n) ≤ z.cells
  pub taken : length b.taken ≤ length b.starts
  pub at : b.at ≤ length b.taken - 1
  pub least : b.least < KEY_END
  pub number : IsNumber b.number

-- all that a seat knows is in range; rows aside
pub record IsLocal (z : Sizes) (l : Local) : Type 0 where
  pub activity : IsActivity z l.activity
  pub call : IsCall l.call
  pub pin : IsPinned l.pin
  pub epoch : IsNumber l.epoch
  pub want : l.want < KEY_END
  pub lower : l.lower < KEY_END
  pub built : l.built ≤ z.cells
  pub upper : l.upper < KEY_END
  pub waiting : IsVersion l.waiting
  pub drawn : IsVersion l.drawn
  pub version : IsVersion l.version
  pub pairs : All IsPair l.pairs
  pub looked : l.looked < z.seats
  pub saw : l.saw < z.cells
  pub helping : IsVersion l.helping
  pub marks : All (IsMark z) l.remembered
  pub place : l.place < z.cells
  pub place_version : IsVersion l.place_version
  pub place_key : l.place_key < KEY_END
  pub copies : All IsCopy l.gathered
  pub cell : l.cell < z.cells
  pub link : IsCellBelow z.cells l.link
  pub held : IsCellBelow z.cells l.held
  pub walked : l.walked ≤ z.cells
  pub lost : l.lost ≤ z.cells
  pub rebalance : IsRebalance z l.rebalance

-- the rows that a seat knows of its rebalance are those of the table
pub record IsRebalanceBelow (rows : ℕ) (b : Rebalancing) : Type 0 where
  pub after : IsRowBelow rows b.after
  pub second : IsRowBelow rows b.second
  pub hand : b.hand < rows
  pub ahead : IsRowBelow rows b.ahead
  pub taken : All (λ r. r < rows) b.taken
  pub sought : b.sought < rows
  pub asked : b.asked ≤ rows
  pub before : IsRowBelow rows b.before

-- the rows that a seat knows are those of the table
pub record IsLocalBelow (rows : ℕ) (l : Local) : Type 0 where
  pub row : l.row < rows
  pub candidate : l.candidate < rows
  pub next : IsRowBelow rows l.next
  pub rebalance : IsRebalanceBelow rows l.rebalance

-- as many cells may be remembered where a seat does this: one for each entry that it has looked at
abbrev pub marks_by : Sizes → Activity → Local → ℕ
marks_by z (Activity.Look (Look.Entry i)) l = i
marks_by z (Activity.Look _) l = l.looked
marks_by z _ l = z.seats

-- so many entries of the row at hand were looked at where a seat does this
abbrev pub frozen_by : Sizes → Activity → ℕ
frozen_by z (Activity.Rebalance (Rebalance.Freeze (Freeze.Look i))) = i
frozen_by z (Activity.Rebalance (Rebalance.Freeze (Freeze.Entry i))) = i
frozen_by z _ = z.seats

-- so many entries has the row before the one at hand, if there is one
abbrev pub entries_before : Sizes → Rebalancing → ℕ
entries_before z b = if is_second b then z.seats else 0

-- as many cells may be remembered of the group where a seat does this: one for each entry that was
-- looked at
abbrev pub group_marks_by : Sizes → Activity → Rebalancing → ℕ
group_marks_by z (Activity.Rebalance (Rebalance.Freeze Freeze.Count)) b = entries_before z b
group_marks_by z (Activity.Rebalance (Rebalance.Freeze (Freeze.Look i))) b = entries_before z b + i
group_marks_by z (Activity.Rebalance (Rebalance.Freeze (Freeze.Entry i))) b = entries_before z b + i
group_marks_by z _ b = MOST_GROUP * z.seats

-- as many versions may be needed where a seat does this: one for each scan that it has looked at,
-- and then one for each pin
abbrev pub needed_by : Sizes → Activity → ℕ
needed_by z (Activity.Rebalance (Rebalance.Freeze (Freeze.Scan i))) = i
needed_by z (Activity.Rebalance (Rebalance.Freeze (Freeze.Draw i))) = i
needed_by z (Activity.Rebalance (Rebalance.Freeze (Freeze.Settle i))) = i
needed_by z (Activity.Rebalance (Rebalance.Freeze (Freeze.Pin i))) = z.seats + i
needed_by z _ = 2 * z.seats

-- a seat that does this may take one more row
abbrev pub IsTakingRows : Activity → Type 0
IsTakingRows (Activity.Rebalance (Rebalance.Seek Seek.First)) = Unit {0}
IsTakingRows (Activity.Rebalance (Rebalance.Seek Seek.Next)) = Unit {0}
IsTakingRows (Activity.Rebalance (Rebalance.Seek (Seek.Pass i))) = Unit {0}
IsTakingRows (Activity.Rebalance (Rebalance.Seek Seek.Reclaim)) = Unit {0}
IsTakingRows (Activity.Rebalance (Rebalance.Seek Seek.Take)) = Unit {0}
IsTakingRows _ = ⊥

-- the lists of a rebalance have room for what its next event adds, and no more cells are gathered
-- than a group has
pub record HasRebalanceRoom (z : Sizes) (a : Activity) (b : Rebalancing) : Type 0 where
  pub marks : length b.marks ≤ group_marks_by z a b
  pub needed : length b.needed ≤ needed_by z a
  pub gathered : length b.gathered ≤ MOST_GROUP * z.cells
  pub taken : IsTakingRows a → length b.taken < length b.starts

-- a seat's list of remembered cells has room for what its next event adds, and no more cells are
-- gathered than a row has
pub record HasRoom (z : Sizes) (l : Local) : Type 0 where
  pub remembered : length l.remembered ≤ marks_by z l.activity l
  pub gathered : length l.gathered ≤ z.cells
  pub rebalance : HasRebalanceRoom z l.activity l.rebalance

-- all that a seat knows is in range
pub record IsKnown (z : Sizes) (rows : ℕ) (l : Local) : Type 0 where
  pub ranges : IsLocal z l
  pub below : IsLocalBelow rows l
  pub room : HasRoom z l

-- Worlds and events.

-- all that a world holds is in range
pub record IsSane (z : Sizes) (w : WorldView) : Type 0 where
  pub sized : IsSized z.seats z.cells w.rows
  pub words : length w.words ≡ words_of z.seats z.cells w.rows
  pub seats : length w.locals ≤ z.seats
  pub each : (n : Name) → IsWithin z.seats z.cells w.rows n → IsWord z n (word z w n)
  pub led : (n : Name) → IsWithin z.seats z.cells w.rows n → IsLed w.rows n (word z w n)
  pub locals : (s : ℕ) (l : Local) → slice_get w.locals s ≡ Some l → IsKnown z w.rows l

-- a call that a seat begins at this activity has numbers in range, and the seat can count it. An
-- idle seat alone begins one: to any other one the choice to begin counts as `Go`, whatever call it
-- names
abbrev pub CanBeginAt : Activity → Choice → Local → Type 0
CanBeginAt Activity.Idle (Begin call) l = IsCall (Some call) × (l.number < MOST_CALLS)
CanBeginAt _ choice l = Unit {0}

-- the same of a seat that knows l
abbrev pub CanBegin : Choice → Local → Type 0
CanBegin choice l = CanBeginAt l.activity choice l

-- the event may come, as far as it begins a call
abbrev pub CanStep : WorldView → Event → Type 0
CanStep w e = (l : Local) → slice_get w.locals e.seat ≡ Some l → CanBegin e.choice l

-- the event is one of this part of the table
abbrev pub IsOfPart : Part → WorldView → Event → Type 0
IsOfPart part w e = (l : Local) → slice_get w.locals e.seat ≡ Some l → part_of e.choice l ≡ part

-- a guess is at a row of the table
abbrev pub IsOffered : ℕ → Choice → Type 0
IsOffered rows (Begin call) = Unit {0}
IsOffered rows Go = Unit {0}
IsOffered rows (Guess r) = r < rows
IsOffered rows Stop = Unit {0}

-- the action is a store
abbrev pub IsStore : Action → Type 0
IsStore Load = ⊥
IsStore (Store x) = Unit {0}
IsStore (Add x) = ⊥
IsStore (Or x) = ⊥
IsStore (Exchange x y) = ⊥
