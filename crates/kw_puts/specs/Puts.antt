-- What holds of the attempts, their cells and their entries.
--
-- An attempt is a put or a delete that was given a cell; it is named by its place in the record. An
-- attempt is current while its seat is at work on it. Of the others each is stamped and its version
-- stored, or it never gets a version: its row was frozen before it was announced or before it was
-- stamped, and its seat has gone on.
--
-- A row may be used again once no seat can name it. Of an attempt that was made in an earlier use
-- of its row nothing is said here but what it is of: its cell may be another attempt's now, or a
-- copy, even one of its own. A seat that is at work on an attempt is in its visit, so its row is
-- not used again before it has done.
use Rattle.std.specs.Prelude.{ℕ, ◌≡◌, ◌≢◌, ◌⊎◌, ◌<◌, ◌≤◌, true, false, if◌then◌else◌, Option, Some, None, length, slice_get}
use Rattle.kw_words.specs.declared.layout.Name.TheVariants as name
use Rattle.kw_words.specs.declared.pend.Pend.TheVariants.{Idle, Pending, Stamped, Frozen}
use Rattle.kw_words.specs.Pend.{pend_word}
use Rattle.kw_words.specs.Plain.{key_of_word, value_of_word}
use Rattle.kw_world.specs.declared.activity.Activity.{Activity}
use Rattle.kw_world.specs.declared.local.Local.{Local}
use Rattle.kw_world.specs.Sizes.{Sizes}
use Rattle.kw_world.specs.Calls.{first_key, put_value, is_in_range}
use Rattle.kw_world.specs.Step.{word}
use Rattle.kw_core.specs.History.{History, LoadClock, attempt, Stands}
use Rattle.kw_core.specs.declared.history.Attempt.{Attempt}
use Rattle.kw_core.specs.declared.seat_log.SeatLog.{SeatLog}
use Rattle.kw_core.specs.Run.{Origins, Run}
use Rattle.kw_core.specs.Words.{Words, given_in}
use Rattle.kw_lists.specs.Words.{row_in}
use Rattle.kw_rows.specs.Ledger.{Ledger, IsDead}
use Rattle.kw_rows.specs.Rows.{WasLinked}
use Rattle.kw_shape.specs.Shape.{HoldsKey}
use Rattle.kw_puts.specs.Freezes.{IsFrozen, IsToFreeze, IsSettled, Freezes, Remembers}
use Rattle.kw_puts.specs.Builds.{Builds}
-- an attempt whose row was not used again, and one that was made in this row since it was linked
pub use Rattle.kw_puts.specs.Here.{IsHere, IsMadeIn}
use Rattle.kw_core.specs.Stages.{IsPutting, IsFresh, HasKey, IsAnnounce, IsPublished, IsStamp, IsStamped, IsStored, HasSeenPending, IsToHelp, IsHelp}

-- The cells of attempts.

-- an attempt is of a seat, a row and a cell of the table, whatever the row is now
pub record IsPlaced (z : Sizes) (rows : ℕ) (h : History) (p : ℕ) : Type 0 where
  pub seat : (attempt h p).seat < z.seats
  pub below : (attempt h p).row < rows
  pub cell : (attempt h p).cell < z.cells

-- the cell of an attempt is one that its row has given, to this attempt, and the row may hold the
-- key
pub record IsGivenCell (v : Words) (g : Ledger) (h : History) (o : Origins) (p : ℕ) : Type 0 where
  pub given : (attempt h p).cell < given_in v (attempt h p).row
  pub origin : o (attempt h p).row (attempt h p).cell ≡ Some p
  pub holds : HoldsKey v g (attempt h p).row (attempt h p).key

-- the attempt has this cell of the row, which is or was linked, and was given it since
pub record HasCell (g : Ledger) (h : History) (r c p : ℕ) : Type 0 where
  pub within : p < length h.attempts
  pub row : (attempt h p).row ≡ r
  pub cell : (attempt h p).cell ≡ c
  pub linked : WasLinked g r
  pub born : (g.fates r).born ≤ (attempt h p).add

-- of two attempts of one row, which was not used again, the later one has the greater cell
abbrev pub Rises : Ledger → History → Type 0
Rises g h = (p q : ℕ) → p < q → q < length h.attempts → (attempt h p).row ≡ (attempt h q).row → IsHere g h p → (attempt h p).cell < (attempt h q).cell

-- the key and the value that stand in a cell
abbrev pub key_in : Words → ℕ → ℕ → ℕ
key_in v r c = key_of_word (v (name.Key r c))

abbrev pub value_in : Words → ℕ → ℕ → Option ℕ
value_in v r c = value_of_word (v (name.Value r c))

-- the cell is a copy of that of an attempt which was made and stamped before this row was linked.
-- The attempt may have been one of this row, in an earlier use of it
pub record IsCopyAt (v : Words) (g : Ledger) (h : History) (r c p : ℕ) : Type 0 where
  pub within : p < length h.attempts
  pub earlier : (attempt h p).add < (g.fates r).born
  pub stamped : (attempt h p).is_stamped ≡ true
  pub before : (attempt h p).at < (g.fates r).born
  pub key : key_in v r c ≡ (attempt h p).key
  pub value : value_in v r c ≡ (attempt h p).value
  pub version : v (name.Version r c) ≡ (attempt h p).version

-- the first stands before the second by key, then by version
abbrev pub RisesTo : History → ℕ → ℕ → Type 0
RisesTo h p q = ((attempt h p).key < (attempt h q).key) ⊎ ((attempt h p).key ≡ (attempt h q).key) × ((attempt h p).version < (attempt h q).version)

-- each cell of a row that is or was linked is that of an attempt, which was made since, or a copy;
-- the copies are the first, and rise
pub record Places (z : Sizes) (v : Words) (g : Ledger) (h : History) (o : Origins) : Type 0 where
  pub owner : (r c p : ℕ) → WasLinked g r → c < z.cells → o r c ≡ Some p → HasCell g h r c p ⊎ IsCopyAt v g h r c p
  pub given : (r c : ℕ) → WasLinked g r → c < z.cells → c < given_in v r → ((p : ℕ) × (o r c ≡ Some p)) ⊎ IsFrozen v r
  pub nobody : (r c : ℕ) → WasLinked g r → c < z.cells → given_in v r ≤ c → o r c ≡ None
  pub unstored : (r c : ℕ) → WasLinked g r → c < z.cells → o r c ≡ None → v (name.Version r c) ≡ 0
  pub above : (r c d p q : ℕ) → WasLinked g r → c < z.cells → d < z.cells → o r c ≡ Some p → (attempt h p).add < (g.fates r).born → o r d ≡ Some q → (g.fates r).born ≤ (attempt h q).add → c < d
  pub rank : (r c d p q : ℕ) → WasLinked g r → c < d → d < z.cells → o r c ≡ Some p → (attempt h p).add < (g.fates r).born → o r d ≡ Some q → (attempt h q).add < (g.fates r).born → RisesTo h p q

-- the words of an attempt's cell: once it is announced its key and its value stand there, and a
-- version that stands there is its own
pub record HasBody (v : Words) (h : History) (p : ℕ) : Type 0 where
  pub key : (attempt h p).is_announced ≡ true → key_in v (attempt h p).row (attempt h p).cell ≡ (attempt h p).key
  pub value : (attempt h p).is_announced ≡ true → value_in v (attempt h p).row (attempt h p).cell ≡ (attempt h p).value
  pub stamped : v (name.Version (attempt h p).row (attempt h p).cell) ≢ 0 → (attempt h p).is_stamped ≡ true
  pub version : v (name.Version (attempt h p).row (attempt h p).cell) ≢ 0 → v (name.Version (attempt h p).row (attempt h p).cell) ≡ (attempt h p).version

-- The attempt of a seat that puts.

-- the entry of an announced attempt: pending until it is stamped, or frozen once it is lost
abbrev pub entry_of : Attempt → ℕ
entry_of p = if p.is_lost then pend_word Frozen else if p.is_stamped then pend_word (Stamped p.cell p.version) else pend_word (Pending p.cell)

-- the seat's own attempt is one of this seat, this call, and the local's row, cell, key and value.
-- It is not lost before it is announced, nor once it is stamped. Until it is announced what the
-- seat has stored of it stands in the cell; then the seat's entry says how it is; a seat that is to
-- stamp has loaded the clock after the announcement; then it is stamped with the seat's version,
-- and this is stored
pub record OwnsAttempt (v : Words) (h : History) (t : ℕ) (a : Activity) (l : Local) (g : SeatLog) : Type 0 where
  pub within : g.own < length h.attempts
  pub seat : (attempt h g.own).seat ≡ t
  pub call : (attempt h g.own).call ≡ g.call
  pub row : (attempt h g.own).row ≡ l.row
  pub cell : (attempt h g.own).cell ≡ l.cell
  pub key : (attempt h g.own).key ≡ first_key l.call
  pub value : (attempt h g.own).value ≡ put_value l.call
  pub kept_fresh : IsFresh a → (attempt h g.own).is_lost ≡ false
  pub kept : IsStamped a → (attempt h g.own).is_lost ≡ false
  pub unannounced : IsFresh a → (attempt h g.own).is_announced ≡ false
  pub unstamped : IsFresh a → (attempt h g.own).is_stamped ≡ false
  pub has_key : HasKey a → key_in v l.row l.cell ≡ (attempt h g.own).key
  pub has_value : IsAnnounce a → value_in v l.row l.cell ≡ (attempt h g.own).value
  pub announced : IsPublished a → (attempt h g.own).is_announced ≡ true
  pub entry : IsPublished a → v (name.Pend l.row t) ≡ entry_of (attempt h g.own)
  pub after : IsStamp a → (attempt h g.own).announced < g.loaded
  pub loaded : IsStamp a → Stands h g.loaded LoadClock l.version
  pub stamped : IsStamped a → (attempt h g.own).is_stamped ≡ true
  pub version : IsStamped a → (attempt h g.own).version ≡ l.version
  pub stored : IsStored a → v (name.Version l.row l.cell) ≡ (attempt h g.own).version

-- the attempt is the one that its seat is at work on
pub record IsCurrent (locals : ℕ → Option Local) (seats : ℕ → SeatLog) (h : History) (p : ℕ) : Type 0 where
  pub local : Local
  pub knows : locals (attempt h p).seat ≡ Some local
  pub putting : IsPutting local.activity
  pub own : (seats (attempt h p).seat).own ≡ p

-- the attempt is stamped, and its version is stored, unless its row was used again
pub record IsOld (v : Words) (g : Ledger) (h : History) (p : ℕ) : Type 0 where
  pub stamped : (attempt h p).is_stamped ≡ true
  pub version : IsHere g h p → v (name.Version (attempt h p).row (attempt h p).cell) ≡ (attempt h p).version

-- the attempt never gets a version: it is lost, or its seat saw a frozen entry before it was
-- announced
pub record IsOver (h : History) (p : ℕ) : Type 0 where
  pub unstamped : (attempt h p).is_stamped ≡ false
  pub over : ((attempt h p).is_lost ≡ true) ⊎ ((attempt h p).is_announced ≡ false)

-- the seat has announced a cell of this row
pub record IsPublishedAt (locals : ℕ → Option Local) (r i : ℕ) : Type 0 where
  pub local : Local
  pub knows : locals i ≡ Some local
  pub published : IsPublished local.activity
  pub row : local.row ≡ r

-- The attempt that a reader helps.

-- the entry that the reader saw is that of an announced attempt of the seat looked at; once the
-- reader is to help it, its key is one that the reader reads, and the reader has loaded the clock
-- after the announcement
pub record Helps (h : History) (o : Origins) (a : Activity) (l : Local) (g : SeatLog) : Type 0 where
  pub put : ℕ
  pub origin : o l.row l.saw ≡ Some put
  pub seat : (attempt h put).seat ≡ l.looked
  pub announced : (attempt h put).is_announced ≡ true
  pub key : IsToHelp a → is_in_range l.call (attempt h put).key ≡ true
  pub after : IsHelp a → (attempt h put).announced < g.loaded
  pub loaded : IsHelp a → Stands h g.loaded LoadClock l.helping

-- The group.

-- what holds of the attempts, the cells, the entries, and the seats that put, freeze or help
pub record Puts (z : Sizes) (r : Run) : Type 0 where
  pub placed : (p : ℕ) → p < length r.history.attempts → IsPlaced z r.world.rows r.history p
  pub given : (p : ℕ) → p < length r.history.attempts → IsHere r.ledger.rows r.history p → IsGivenCell (word z r.world) r.ledger.rows r.history r.origin p
  pub places : Places z (word z r.world) r.ledger.rows r.history r.origin
  pub rises : Rises r.ledger.rows r.history
  pub body : (p : ℕ) → p < length r.history.attempts → IsHere r.ledger.rows r.history p → HasBody (word z r.world) r.history p
  pub owns : (t : ℕ) (l : Local) → slice_get r.world.locals t ≡ Some l → IsPutting l.activity → OwnsAttempt (word z r.world) r.history t l.activity l (r.seats t)
  -- the row of an attempt that a seat is at work on was not used again
  pub present : (t : ℕ) (l : Local) → slice_get r.world.locals t ≡ Some l → IsPutting l.activity → IsHere r.ledger.rows r.history (r.seats t).own
  pub old : (p : ℕ) → p < length r.history.attempts → IsCurrent (slice_get r.world.locals) r.seats r.history p ⊎ IsOld (word z r.world) r.ledger.rows r.history p ⊎ IsOver r.history p
  pub entry : (q i : ℕ) → q < r.world.rows → i < z.seats → (word z r.world (name.Pend q i) ≡ pend_word Idle) ⊎ (word z r.world (name.Pend q i) ≡ pend_word Frozen) ⊎ IsPublishedAt (slice_get r.world.locals) q i
  pub tries : (t : ℕ) (l : Local) → slice_get r.world.locals t ≡ Some l → IsToFreeze l.activity l
  pub freezes : (t : ℕ) (l : Local) → slice_get r.world.locals t ≡ Some l → Freezes z (word z r.world) (slice_get r.world.locals) l.activity l
  pub remembers : (t : ℕ) (l : Local) → slice_get r.world.locals t ≡ Some l → Remembers z r.ledger.rows r.history r.origin r.listed l.activity l
  pub helps : (t : ℕ) (l : Local) → slice_get r.world.locals t ≡ Some l → HasSeenPending l.activity → Helps r.history r.origin l.activity l (r.seats t)
  pub born : (q : ℕ) → WasLinked r.ledger.rows q → (r.ledger.rows.fates q).born ≤ length r.history.log
  pub dead : (q j : ℕ) → IsDead r.ledger.rows q → j < z.seats → IsSettled (word z r.world) (slice_get r.world.locals) q j
  pub gone : (p : ℕ) → p < length r.history.attempts → IsHere r.ledger.rows r.history p → IsDead r.ledger.rows (attempt r.history p).row → (attempt r.history p).is_stamped ≡ true → (attempt r.history p).at < (r.ledger.rows.fates (attempt r.history p).row).gone
  pub builds : (t : ℕ) (l : Local) → slice_get r.world.locals t ≡ Some l → Builds z (row_in (word z r.world) l.rebalance.hand (r.listed l.rebalance.hand)) r.history r.origin r.listed l.activity l
