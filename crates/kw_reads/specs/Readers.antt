-- What holds of a get or a scan that reads a row: which attempts are due to it, that each of them
-- is stamped and will be gathered, where it is on its walk along the row's list, and what it has
-- gathered.
--
-- A cell of a row stands for the attempt that is its origin: as the attempt's own cell, or as a
-- copy, where the row has taken the place of a group. Of what is due to a reader each is named
-- by the cell and the attempt.
--
-- A row may be frozen while it is read, and then an attempt that was announced there may be lost:
-- it is never stamped, and nothing is due of it any more. So what is said here of each attempt that
-- is due says of each one that was announced before the reader looked that it is lost, or so.
use Rattle.std.specs.Prelude.{ℕ, ◌≡◌, ◌⊎◌, ◌<◌, ◌≤◌, true, false, Option, Some, None, List, [], All, Contains, length, slice_get}
use Rattle.std.specs.List.{AllZip}
use Rattle.kw_cells.specs.declared.cell.Cell as kw_cell
use Rattle.kw_lists.specs.Counts.{count_below}
use Rattle.kw_lists.specs.Rows.{Row, Stands, IsBehind, IsOn}
use Rattle.kw_lists.specs.Walks.{IsGoneBy, IsWalking}
use Rattle.kw_model.specs.declared.call.Call.{Call}
use Rattle.kw_world.specs.declared.activity.Activity.{Activity}
use Rattle.kw_world.specs.declared.activity.look.Look.TheVariants as Look
use Rattle.kw_world.specs.declared.activity.read.Read.TheVariants as Read
use Rattle.kw_world.specs.declared.local.Local.{Local}
use Rattle.kw_world.specs.declared.marks.Mark.{Mark}
use Rattle.kw_world.specs.Sizes.{Sizes}
use Rattle.kw_world.specs.Calls.{is_in_range}
use Rattle.kw_world.specs.Marks.{is_marked}
use Rattle.kw_world.specs.Step.{word}
use Rattle.kw_core.specs.History.{History, attempt}
use Rattle.kw_core.specs.Listed.{Listed}
use Rattle.kw_core.specs.declared.seat_log.SeatLog.{SeatLog}
use Rattle.kw_core.specs.Run.{Origins, Run}
use Rattle.kw_rows.specs.Ledger.{Ledger, IsFresh}
use Rattle.kw_shape.specs.Shape.{IsReadCall}
use Rattle.kw_core.specs.Stages.{IsLooking, HasLooked, HasSeenPending, IsTaking, IsListing, IsResting, HasPlace, HasVersion, HasCellKey, IsReading, IsKeeping, IsVisiting}
use Rattle.kw_puts.specs.Builds.{has_place}
use Rattle.kw_puts.specs.Lists.{list_in}

-- What is due.

-- the attempt for which this cell stands is due to a reader of the row with this call that looked
-- at this position: it was announced before, its key is one that the call reads, and it is not
-- lost. Of a row that is or was linked no later event makes an attempt due, and none takes it away
-- but the one that loses it
pub record IsDue (h : History) (o : Origins) (r : ℕ) (call : Option Call) (looked c p : ℕ) : Type 0 where
  pub origin : o r c ≡ Some p
  pub announced : (attempt h p).is_announced ≡ true
  pub before : (attempt h p).announced < looked
  pub kept : (attempt h p).is_lost ≡ false
  pub key : is_in_range call (attempt h p).key ≡ true

-- the reader will read this cell: it remembers it, or the cell is listed
abbrev pub IsNoted : Listed → Local → ℕ → Type 0
IsNoted f l c = (is_marked c l.remembered ≡ true) ⊎ (f l.row c ≡ true)

-- the attempt for which this cell stands is stamped, and the reader will read the cell
pub record IsReady (f : Listed) (h : History) (l : Local) (c p : ℕ) : Type 0 where
  pub stamped : (attempt h p).is_stamped ≡ true
  pub noted : IsNoted f l c

-- Looking at the entries.

-- a cell that is remembered is that of an attempt that is stamped with the remembered version
pub record IsMarkOf (h : History) (o : Origins) (row : ℕ) (m : Mark) : Type 0 where
  pub put : ℕ
  pub origin : o row m.cell ≡ Some put
  pub stamped : (attempt h put).is_stamped ≡ true
  pub version : (attempt h put).version ≡ m.version

-- how many entries the reader is done with: those of the seats below this one
abbrev pub looked_by : Sizes → Activity → Local → ℕ
looked_by z (Activity.Look (Look.Entry i)) l = i
looked_by z (Activity.Look _) l = l.looked
looked_by z _ l = z.seats

-- each attempt that is due and whose seat's entry the reader is done with is ready; and where it
-- saw a pending entry, so is each one of that seat, but for the one with the cell that it saw
pub record Looks (z : Sizes) (f : Listed) (h : History) (o : Origins) (a : Activity) (l : Local) (g : SeatLog) : Type 0 where
  pub past : (c p : ℕ) → IsDue h o l.row l.call g.looked c p → (attempt h p).seat < looked_by z a l → IsReady f h l c p
  pub here : HasSeenPending a → (c p : ℕ) → IsDue h o l.row l.call g.looked c p → (attempt h p).seat ≡ l.looked → (c ≡ l.saw) ⊎ IsReady f h l c p

-- Walking along the list.

-- a reader, in the list of a row of n cells, has reached the cell in hand: this is listed, and
-- stands behind the link of the list at which the reader is
pub record HasReachedCell (n : ℕ) (r : Row) (l : Local) : Type 0 where
  pub on : IsOn r l.link
  pub behind : IsBehind r l.link l.place
  pub walks : IsWalking n r (Some l.place) l.walked

-- where a reader is in the list of its row: at the first link while it looks at entries and where
-- it begins with the list; then at its link, or at the cell that it has reached. It has counted no
-- more cells than there are listed ones up to there, for it reaches none twice
abbrev pub ReadsList : ℕ → Row → Activity → Local → Type 0
ReadsList n r (Activity.Look _) l = (l.link ≡ None) × (l.walked ≡ 0)
ReadsList n r (Activity.Read Read.Start) l = (l.link ≡ None) × (l.walked ≡ 0)
ReadsList n r (Activity.Read Read.Link) l = IsWalking n r l.link l.walked
ReadsList n r (Activity.Read Read.Key) l = HasReachedCell n r l
ReadsList n r (Activity.Read Read.Version) l = HasReachedCell n r l
ReadsList n r (Activity.Read Read.Value) l = HasReachedCell n r l
ReadsList n r _ l = Unit {0}

-- the cell is the one in hand, or stands behind it in the list
abbrev pub IsFromHand : Row → Local → ℕ → Type 0
IsFromHand r l c = (r.listed c ≡ true) × ((c ≡ l.place) ⊎ Stands r l.place c)

-- the walk will reach the cell, or it is in hand: it is listed behind the reader's link, or from
-- the cell in hand on; of the cells that were not reached it is the one in hand
abbrev pub IsToCome : Row → Activity → Local → ℕ → Type 0
IsToCome r (Activity.Read Read.Start) l c = (r.listed c ≡ true) × IsBehind r l.link c
IsToCome r (Activity.Read Read.Link) l c = (r.listed c ≡ true) × IsBehind r l.link c
IsToCome r (Activity.Read Read.LeftOverKey) l c = c ≡ l.place
IsToCome r (Activity.Read Read.LeftOverValue) l c = c ≡ l.place
IsToCome r (Activity.Read _) l c = IsFromHand r l c
IsToCome r _ l c = ⊥

-- the cell in hand is that of an attempt that is stamped, with the version in hand and with the key
-- in hand, once they are
pub record IsInHand (h : History) (o : Origins) (a : Activity) (l : Local) : Type 0 where
  pub put : ℕ
  pub origin : o l.row l.place ≡ Some put
  pub stamped : (attempt h put).is_stamped ≡ true
  pub version : HasVersion a → (attempt h put).version ≡ l.place_version
  pub key : HasCellKey a → (attempt h put).key ≡ l.place_key
  pub in_range : HasCellKey a → is_in_range l.call l.place_key ≡ true

-- each attempt that is due is stamped: it is gathered, or the cell that stands for it is remembered
-- or still to come
pub record Reads (r : Row) (h : History) (o : Origins) (a : Activity) (l : Local) (g : SeatLog) : Type 0 where
  pub stamped : (c p : ℕ) → IsDue h o l.row l.call g.looked c p → (attempt h p).is_stamped ≡ true
  pub found : (c p : ℕ) → IsDue h o l.row l.call g.looked c p → Contains g.ids p ⊎ (is_marked c l.remembered ≡ true) ⊎ IsToCome r a l c
  pub hand : HasPlace a → IsInHand h o a l

-- What was gathered.

-- a gathered cell stands for this attempt: this is stamped, the row's cell at that place stands for
-- it, with its key, version and value, and its key is one that the call reads
pub record IsCopyOf (h : History) (o : Origins) (r : ℕ) (call : Option Call) (c : kw_cell.Cell) (p : ℕ) : Type 0 where
  pub within : p < length h.attempts
  pub stamped : (attempt h p).is_stamped ≡ true
  pub origin : o r c.place ≡ Some p
  pub key : (attempt h p).key ≡ c.key
  pub version : (attempt h p).version ≡ c.version
  pub value : (attempt h p).value ≡ c.value
  pub in_range : is_in_range call c.key ≡ true

-- beside each gathered cell stands its attempt
abbrev pub AreCopies : History → Origins → ℕ → Option Call → List kw_cell.Cell → List ℕ → Type 0
AreCopies h o row call cells ids = AllZip (IsCopyOf h o row call) cells ids

-- nothing is gathered while the reader looks at entries; while it reads the cells, and after that
-- until the next row, what it gathered are cells of the row that stand for attempts
pub record Gathers (h : History) (o : Origins) (a : Activity) (l : Local) (g : SeatLog) : Type 0 where
  pub empty : IsLooking a → l.gathered ≡ []
  pub no_ids : HasLooked a → g.ids ≡ []
  pub taking : IsTaking a → AreCopies h o l.row l.call l.gathered g.ids
  pub kept : IsKeeping a → (r : ℕ) → g.read ≡ Some r → AreCopies h o r l.call l.gathered g.ids

-- no cell is gathered twice: no more are gathered than places of the row are, none that is still
-- remembered is, and the one in hand is neither; what is gathered on the walk is listed, and the
-- walk has gone by it
pub record Apart (z : Sizes) (r : Row) (a : Activity) (l : Local) : Type 0 where
  pub few : length l.gathered ≤ count_below z.cells (λ c. has_place c l.gathered)
  pub unmarked : (c : ℕ) → is_marked c l.remembered ≡ true → has_place c l.gathered ≡ false
  pub listed : IsListing a → (c : ℕ) → has_place c l.gathered ≡ true → r.listed c ≡ true
  pub gone_by : IsListing a → (c : ℕ) → has_place c l.gathered ≡ true → IsGoneBy r l.link c
  pub fresh : IsResting a → has_place l.place l.gathered ≡ false
  pub hand : HasPlace a → is_marked l.place l.remembered ≡ false

-- no row counts as read while the reader looks at entries or reads cells; of the row that it has
-- read each attempt that was due is stamped and gathered
pub record HasSeen (h : History) (o : Origins) (a : Activity) (l : Local) (g : SeatLog) : Type 0 where
  pub unread : IsReading a → g.read ≡ None
  pub stamped : IsKeeping a → (r : ℕ) → g.read ≡ Some r → (c p : ℕ) → IsDue h o r l.call g.looked c p → (attempt h p).is_stamped ≡ true
  pub taken : IsKeeping a → (r : ℕ) → g.read ≡ Some r → (c p : ℕ) → IsDue h o r l.call g.looked c p → Contains g.ids p

-- The row that was read.

-- a row that counts as read: the call is a get or a scan, its visit is on, and the seat may name
-- the row. So the row is not used again while what was gathered of it is there. A put has read no
-- row: it ends its visit to try again, and would keep the row beyond that
pub record IsReadRow (g : Ledger) (t : ℕ) (a : Activity) (l : Local) (q : ℕ) : Type 0 where
  pub call : IsReadCall l.call
  pub visiting : IsVisiting a
  pub fresh : IsFresh g t q

-- The group.

-- what holds of the readers
pub record Readers (z : Sizes) (r : Run) : Type 0 where
  -- what stands for an attempt is a cell of its row, and a row that was read is one that the seat
  -- may name
  pub within : (q c p : ℕ) → r.origin q c ≡ Some p → c < z.cells
  pub read : (t : ℕ) (l : Local) → slice_get r.world.locals t ≡ Some l → IsKeeping l.activity → (q : ℕ) → (r.seats t).read ≡ Some q → IsReadRow r.ledger.rows t l.activity l q
  pub remembers : (t : ℕ) (l : Local) → slice_get r.world.locals t ≡ Some l → IsLooking l.activity ⊎ IsTaking l.activity → All (IsMarkOf r.history r.origin l.row) l.remembered
  pub looks : (t : ℕ) (l : Local) → slice_get r.world.locals t ≡ Some l → IsLooking l.activity → Looks z r.listed r.history r.origin l.activity l (r.seats t)
  pub walks : (t : ℕ) (l : Local) → slice_get r.world.locals t ≡ Some l → ReadsList z.cells (list_in (word z r.world) r.listed l.row) l.activity l
  pub reads : (t : ℕ) (l : Local) → slice_get r.world.locals t ≡ Some l → IsTaking l.activity → Reads (list_in (word z r.world) r.listed l.row) r.history r.origin l.activity l (r.seats t)
  pub gathers : (t : ℕ) (l : Local) → slice_get r.world.locals t ≡ Some l → Gathers r.history r.origin l.activity l (r.seats t)
  pub apart : (t : ℕ) (l : Local) → slice_get r.world.locals t ≡ Some l → IsTaking l.activity → Apart z (list_in (word z r.world) r.listed l.row) l.activity l
  pub seen : (t : ℕ) (l : Local) → slice_get r.world.locals t ≡ Some l → HasSeen r.history r.origin l.activity l (r.seats t)
