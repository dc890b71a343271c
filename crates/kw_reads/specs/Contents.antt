-- What the rows have kept of the stamped puts, and what a reader of a row may say of them.
use Rattle.std.specs.Prelude.{ℕ, ◌≡◌, ◌⊎◌, ◌<◌, ◌≤◌, true, if◌then◌else◌, Some, Contains, length, slice_get}
use Rattle.kw_words.specs.declared.layout.Name.TheVariants as name
use Rattle.kw_words.specs.declared.scan.ScanWord.TheVariants.{Waiting, Drawn}
use Rattle.kw_words.specs.Scan.{scan_word}
use Rattle.kw_world.specs.declared.activity.Activity.{Activity}
use Rattle.kw_world.specs.declared.activity.draw.Draw.TheVariants as Draw
use Rattle.kw_world.specs.declared.activity.rebalance.freeze.Freeze.TheVariants as Freeze
use Rattle.kw_world.specs.declared.activity.rebalance.Rebalance.TheVariants as Rebalance
use Rattle.kw_world.specs.declared.activity.walk.Walk.TheVariants as Walk
use Rattle.kw_world.specs.declared.limits.TheConstants.{NEWEST}
use Rattle.kw_world.specs.declared.local.Local.{Local}
use Rattle.kw_world.specs.Calls.{is_scan}
use Rattle.kw_world.specs.Sizes.{Sizes}
use Rattle.kw_world.specs.Step.{word}
use Rattle.kw_core.specs.History.{History, attempt, called, Stands}
use Rattle.kw_core.specs.HistoryLaws.{IsPut}
use Rattle.kw_core.specs.Run.{Run}
use Rattle.kw_core.specs.Stages.{IsReading, IsAtRow}
use Rattle.kw_rows.specs.Ledger.{Ledger, IsLive, IsDead}
use Rattle.kw_rows.specs.Rows.{WasLinked}
use Rattle.kw_shape.specs.Shape.{HoldsKey}
use Rattle.kw_puts.specs.Here.{IsHere, IsMadeIn}
use Rattle.kw_puts.specs.Positions.{HelpsScan}
use Rattle.kw_puts.specs.Freezes.{IsAllFrozen, IsOfGroup}
use Rattle.kw_core.specs.History.{Kind}
use Rattle.kw_kept.specs.Puts.{Put, Shows}
use Rattle.kw_kept.specs.Kept.{Rows, Kept}
use Rattle.kw_kept.specs.Needed.{IsNeeded, IsCovered, IsLate}
use Rattle.kw_kept.specs.Readers.{Front}

-- the puts of a history, by the numbers of their attempts
abbrev pub puts_of : History → ℕ → Put
puts_of h p = record { key = (attempt h p).key; version = (attempt h p).version; add = (attempt h p).add; at = (attempt h p).at; value = (attempt h p).value }

-- row q has a cell of the stamped put: its own, or a copy
pub record InRow (z : Sizes) (r : Run) (q p : ℕ) : Type 0 where
  pub cell : ℕ
  pub within : cell < z.cells
  pub origin : r.origin q cell ≡ Some p
  pub is_put : IsPut r.history p

-- the live row q holds the key
pub record IsHolding (z : Sizes) (r : Run) (q k : ℕ) : Type 0 where
  pub live : IsLive r.ledger.rows q
  pub holds : HoldsKey (word z r.world) r.ledger.rows q k

abbrev pub rows_of : Sizes → Run → Rows
rows_of z r = record { in_row = InRow z r; stamped = IsPut r.history; holds = IsHolding z r }

-- u is needed through the scan of seat i: it stands in its word, or somebody holds it for the wait
-- that stands there
pub data Through (z : Sizes) (r : Run) (i u : ℕ) : Type 0 where
  has_drawn : i < z.seats → word z r.world (name.Scan i) ≡ scan_word (Drawn u) → Through z r i u
  is_held : (k : Local) → i < z.seats → slice_get r.world.locals i ≡ Some k → k.activity ≡ Activity.Draw Draw.Settle → k.drawn ≡ u → word z r.world (name.Scan i) ≡ scan_word (Waiting k.waiting) → Through z r i u
  is_helped : (s : ℕ) (k : Local) → i < z.seats → slice_get r.world.locals s ≡ Some k → k.activity ≡ Activity.Rebalance (Rebalance.Freeze (Freeze.Settle i)) → k.rebalance.drawn ≡ u → word z r.world (name.Scan i) ≡ scan_word (Waiting k.rebalance.waiting) → Through z r i u

-- u is needed through the pin of seat i: it stands in its word
abbrev pub ThroughPin : Sizes → Run → ℕ → ℕ → Type 0
ThroughPin z r i u = (i < z.seats) × (word z r.world (name.Pin i) ≡ scan_word (Drawn u))

abbrev pub Needed : Sizes → Run → ℕ → Type 0
Needed z r = IsNeeded (word z r.world name.Clock) (Through z r) (ThroughPin z r)

-- stamped before the row went
abbrev pub WasPut : Run → ℕ → ℕ → Type 0
WasPut r q p = IsPut r.history p × ((attempt r.history p).at < (r.ledger.rows.fates q).gone)

-- the row is live, or it went after the put was stamped
abbrev pub IsStanding : Run → ℕ → ℕ → Type 0
IsStanding r q p = IsLive r.ledger.rows q ⊎ IsDead r.ledger.rows q × ((attempt r.history p).at < (r.ledger.rows.fates q).gone)

-- stamped before the row was linked, with a version that is at most the clock then
pub record IsOlder (r : Run) (q p : ℕ) : Type 0 where
  pub at : (attempt r.history p).at < (r.ledger.rows.fates q).born
  pub version : (attempt r.history p).version ≤ (r.ledger.rows.fates q).clock

-- what a dead row's attempts have become
abbrev pub IsGone : Run → ℕ → Type 0
IsGone r p = ((attempt r.history p).is_lost ≡ true) ⊎ WasPut r (attempt r.history p).row p

-- what an attempt has become whose row was used again: it is lost, or was stamped before each visit
-- that is on
abbrev pub IsPast : Run → ℕ → Type 0
IsPast r p = ((attempt r.history p).is_lost ≡ true) ⊎ IsPut r.history p × ((t since : ℕ) → r.ledger.rows.visits t ≡ Some since → (attempt r.history p).at < since)

-- the row is live, or went after this position
abbrev pub IsSince : Ledger → ℕ → ℕ → Type 0
IsSince g d q = IsLive g q ⊎ IsDead g q × (d < (g.fates q).gone)

-- the event from which on a call knows all that was announced: the draw of a scan, the first event
-- of any other call
abbrev pub floor_of : Run → ℕ → Local → ℕ
floor_of r t l = if is_scan l.call then (r.seats t).drawn else (called r.history (r.seats t).call).first

-- the version at which a call reads
abbrev pub version_of : Local → ℕ
version_of l = if is_scan l.call then l.version else NEWEST

-- what a reader of a row knows, at this version, of the puts that were stamped before it looked, or
-- before the row went where this was before: of all that was announced before the floor and was not
-- made in this row since it was linked, each is lost, or was stamped by then
pub record IsFronted (z : Sizes) (r : Run) (row version floor looked : ℕ) : Type 0 where
  pub since : ℕ
  pub upto : since ≤ looked
  pub stands : IsDead r.ledger.rows row → since ≤ (r.ledger.rows.fates row).gone
  pub born : (r.ledger.rows.fates row).born ≤ since
  pub shows : (k : ℕ) → HoldsKey (word z r.world) r.ledger.rows row k → Front (puts_of r.history) (InRow z r row) (IsPut r.history) since k version
  pub other : (p : ℕ) → (attempt r.history p).is_announced ≡ true → (attempt r.history p).announced < floor → HoldsKey (word z r.world) r.ledger.rows row (attempt r.history p).key → (IsMadeIn r.ledger.rows r.history row p → ⊥) →
      ((attempt r.history p).is_lost ≡ true) ⊎ IsPut r.history p × ((attempt r.history p).at < since)

-- the seat walks, and names its row
abbrev pub HasRow : Activity → Type 0
HasRow (Activity.Walk Walk.GuessedLeast) = Unit {0}
HasRow (Activity.Walk Walk.Next) = Unit {0}
HasRow (Activity.Walk Walk.NextLeast) = Unit {0}
HasRow a = IsAtRow a

abbrev pub HasCandidate : Activity → Type 0
HasCandidate (Activity.Walk Walk.NextLeast) = Unit {0}
HasCandidate _ = ⊥

-- the rows that a walk names were not gone when its call drew, or began
pub record IsLater (g : Ledger) (d : ℕ) (a : Activity) (l : Local) : Type 0 where
  pub row : HasRow a → IsSince g d l.row
  pub saw : HasCandidate a → IsSince g d l.candidate
  pub next : IsAtRow a → (n : ℕ) → l.next ≡ Some n → IsSince g d n

-- how many scans a seat has gone by that has frozen its group
abbrev pub scans_by : Sizes → Activity → ℕ
scans_by z (Activity.Rebalance (Rebalance.Freeze (Freeze.Scan i))) = i
scans_by z (Activity.Rebalance (Rebalance.Freeze (Freeze.Draw i))) = i
scans_by z (Activity.Rebalance (Rebalance.Freeze (Freeze.Settle i))) = i
scans_by z _ = z.seats

-- it looks at the scans, or has looked at all
abbrev pub scans_gone_by : Sizes → Activity → ℕ → Type 0
scans_gone_by z a i = i < scans_by z a

-- how many pins it has gone by: none while it looks at the scans
abbrev pub pins_by : Sizes → Activity → ℕ
pins_by z (Activity.Rebalance (Rebalance.Freeze (Freeze.Scan i))) = 0
pins_by z (Activity.Rebalance (Rebalance.Freeze (Freeze.Draw i))) = 0
pins_by z (Activity.Rebalance (Rebalance.Freeze (Freeze.Settle i))) = 0
pins_by z (Activity.Rebalance (Rebalance.Freeze (Freeze.Pin i))) = i
pins_by z _ = z.seats

-- it has gone by this pin, and so by all scans
abbrev pub pins_gone_by : Sizes → Activity → ℕ → Type 0
pins_gone_by z a i = (i < pins_by z a) × scans_gone_by z a i

-- of what the scans and pins need that the seat has gone by, all is listed, or at least `most`,
-- which no cell of its group is above
pub record Needs (z : Sizes) (r : Run) (a : Activity) (l : Local) : Type 0 where
  pub most : ℕ
  pub since : ℕ
  pub past : since < length r.history.log
  pub bound : (q p : ℕ) → IsOfGroup l q → InRow z r q p → (attempt r.history p).version ≤ most
  pub reached : most ≤ word z r.world name.Clock
  pub late : IsLate since r.ledger.waits (Through z r) most
  pub covered : IsCovered (Through z r) (scans_gone_by z a) (Contains l.rebalance.needed) most
  pub pinned : IsCovered (ThroughPin z r) (pins_gone_by z a) (Contains l.rebalance.needed) most
  pub again : (i clock : ℕ) → HelpsScan i a → word z r.world (name.Scan i) ≡ scan_word (Waiting clock) → (clock ≡ l.rebalance.waiting) ⊎ (since < r.ledger.waits i)

-- what no event takes from a row: it was linked before it went, its clock was that of its link, and
-- no wait is later than now
pub record Borns (z : Sizes) (r : Run) : Type 0 where
  pub gone : (q : ℕ) → IsDead r.ledger.rows q → (r.ledger.rows.fates q).born ≤ (r.ledger.rows.fates q).gone
  pub clock : (q : ℕ) → WasLinked r.ledger.rows q → (r.ledger.rows.fates q).clock ≤ word z r.world name.Clock
  pub after : (q x c : ℕ) (k : Kind) → WasLinked r.ledger.rows q → Stands r.history x k c → (r.ledger.rows.fates q).born ≤ x → (r.ledger.rows.fates q).clock ≤ c
  pub waits : (i : ℕ) → r.ledger.waits i ≤ length r.history.log

-- what the rows have kept of the stamped puts
pub record Contents (z : Sizes) (r : Run) : Type 0 where
  pub borns : Borns z r
  -- the attempts of dead rows, and those whose rows were used again
  pub over : (p : ℕ) → (attempt r.history p).is_announced ≡ true → IsHere r.ledger.rows r.history p → IsDead r.ledger.rows (attempt r.history p).row → IsGone r p
  pub past : (p : ℕ) → (attempt r.history p).is_announced ≡ true → (IsHere r.ledger.rows r.history p → ⊥) → IsPast r p
  pub inside : (q p : ℕ) → IsDead r.ledger.rows q → InRow z r q p → (attempt r.history p).at < (r.ledger.rows.fates q).gone
  pub older : (q p : ℕ) → IsPut r.history p → IsStanding r q p → HoldsKey (word z r.world) r.ledger.rows q (attempt r.history p).key → InRow z r q p ⊎ IsOlder r q p
  -- no seat makes a pin
  pub unpinned : (i u : ℕ) → ThroughPin z r i u → ⊥
  pub kept : Kept (puts_of r.history) (rows_of z r) (Needed z r)
  pub dead : (q k u : ℕ) → IsDead r.ledger.rows q → HoldsKey (word z r.world) r.ledger.rows q k → Needed z r u → Shows (puts_of r.history) (InRow z r q) (WasPut r q) k u
  pub later : (t : ℕ) (l : Local) → slice_get r.world.locals t ≡ Some l → IsLater r.ledger.rows (floor_of r t l) l.activity l
  pub needs : (t : ℕ) (l : Local) → slice_get r.world.locals t ≡ Some l → IsAllFrozen l.activity → Needs z r l.activity l
  pub front : (t : ℕ) (l : Local) → slice_get r.world.locals t ≡ Some l → IsReading l.activity → IsFronted z r l.row (version_of l) (floor_of r t l) (r.seats t).looked
