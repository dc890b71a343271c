-- What holds of the lists of the rows: of the cells that are listed, of the links between them, and
-- of the puts that insert a cell.
--
-- A cell is listed by the exchange that inserts it, after its version was stored and before its
-- entry is cleared. So an attempt that no seat is at work on any more is listed, and a walk along
-- the list of its row reaches it, unless it never gets a version, or its row was used again.
use Rattle.std.specs.Prelude.{ℕ, ◌≡◌, ◌⊎◌, ◌<◌, true, false, Some, length, slice_get}
use Rattle.kw_words.specs.declared.layout.Name.TheVariants as name
use Rattle.kw_lists.specs.Rows.{Row, IsBehind, IsSound}
use Rattle.kw_lists.specs.Changes.{IsAhead}
use Rattle.kw_lists.specs.Puts.{IsFrom, IsAt, IsSet}
use Rattle.kw_lists.specs.Walks.{IsWalking}
use Rattle.kw_lists.specs.Words.{row_in}
use Rattle.kw_world.specs.declared.activity.Activity.{Activity}
use Rattle.kw_world.specs.declared.activity.insert.Insert.TheVariants as Insert
use Rattle.kw_world.specs.declared.local.Local.{Local}
use Rattle.kw_world.specs.Sizes.{Sizes}
use Rattle.kw_world.specs.Step.{word}
use Rattle.kw_core.specs.History.{History, attempt}
use Rattle.kw_core.specs.Listed.{Listed}
use Rattle.kw_core.specs.Run.{Origins, Run}
use Rattle.kw_core.specs.Stages.{IsUnlisted, IsPutClear}
use Rattle.kw_core.specs.Words.{Words, built_in}
use Rattle.kw_rows.specs.Rows.{WasLinked}
use Rattle.kw_puts.specs.Here.{IsHere}
use Rattle.kw_puts.specs.Puts.{IsCurrent, IsOver, key_in}

-- The cells that are listed.

-- row q in these words: its cells, its links, and which of its cells are listed
abbrev pub list_in : Words → Listed → ℕ → Row
list_in v f q = row_in v q (f q)

-- a listed cell is that of a stamped attempt, whose key and version stand there
pub record IsListedCell (v : Words) (h : History) (o : Origins) (q c : ℕ) : Type 0 where
  pub put : ℕ
  pub origin : o q c ≡ Some put
  pub stamped : (attempt h put).is_stamped ≡ true
  pub key : key_in v q c ≡ (attempt h put).key
  pub version : v (name.Version q c) ≡ (attempt h put).version

-- The puts that insert a cell.

-- the own cell is not listed before it is inserted, and it is when the entry is about to be cleared
pub record IsOwnListed (f : Listed) (a : Activity) (l : Local) : Type 0 where
  pub unlisted : IsUnlisted a → f l.row l.cell ≡ false
  pub listed : IsPutClear a → f l.row l.cell ≡ true

-- what a put knows of the row's list, in a row of n cells. It stands at a link of the list before
-- its own cell, which held nothing or a listed cell when it was loaded; since then it holds the
-- same, or fewer exchanges were lost than cells are listed. The cell of which it asks the version
-- has the own key. What it stores in its own link stands behind its own cell
abbrev pub Inserts : ℕ → Row → Activity → Local → Type 0
Inserts n r (Activity.Insert Insert.Start) l = IsFrom n r l.cell l.lost l.link
Inserts n r (Activity.Insert Insert.Link) l = IsFrom n r l.cell l.lost l.link
Inserts n r (Activity.Insert Insert.Key) l = IsAt n r l.cell l.lost l.link l.held × (l.held ≡ Some l.place)
Inserts n r (Activity.Insert Insert.Version) l = IsAt n r l.cell l.lost l.link l.held × (l.held ≡ Some l.place) × (r.key l.place ≡ r.key l.cell)
Inserts n r (Activity.Insert Insert.Set) l = IsAt n r l.cell l.lost l.link l.held × IsAhead r l.cell l.held
Inserts n r (Activity.Insert Insert.Exchange) l = IsSet n r l.cell l.lost l.link l.held
Inserts n r _ l = Unit {0}

-- where a put's walk is: at its link, or at the cell that it has reached, which is listed and
-- stands behind the link. It has counted no more cells than there are listed ones up to there, for
-- it reaches none twice; where it begins it has reached none
abbrev pub WalksList : ℕ → Row → Activity → Local → Type 0
WalksList n r (Activity.Insert Insert.Start) l = IsWalking n r l.link l.walked × (l.walked ≡ 0)
WalksList n r (Activity.Insert Insert.Link) l = IsWalking n r l.link l.walked
WalksList n r (Activity.Insert Insert.Key) l = IsBehind r l.link l.place × IsWalking n r (Some l.place) l.walked
WalksList n r (Activity.Insert Insert.Version) l = IsBehind r l.link l.place × IsWalking n r (Some l.place) l.walked
WalksList n r _ l = Unit {0}

-- The group.

-- what holds of the listed cells, of the list of each row that is or was linked, and of the puts
-- that are about to insert a cell; an attempt that no seat is at work on is listed, unless its row
-- was used again, or never gets a version
pub record Lists (z : Sizes) (r : Run) : Type 0 where
  pub cells : (q c : ℕ) → WasLinked r.ledger.rows q → r.listed q c ≡ true → IsListedCell (word z r.world) r.history r.origin q c
  pub leads : (q : ℕ) → WasLinked r.ledger.rows q → IsSound z.cells (list_in (word z r.world) r.listed q)
  pub copied : (q c p : ℕ) → WasLinked r.ledger.rows q → c < z.cells → r.origin q c ≡ Some p → (attempt r.history p).add < (r.ledger.rows.fates q).born → r.listed q c ≡ true
  -- and so is each cell with which the word of its least key says that the row was built
  pub built : (q c : ℕ) → WasLinked r.ledger.rows q → c < built_in (word z r.world) q → r.listed q c ≡ true
  pub own : (t : ℕ) (l : Local) → slice_get r.world.locals t ≡ Some l → IsOwnListed r.listed l.activity l
  pub old : (p : ℕ) → p < length r.history.attempts → IsCurrent (slice_get r.world.locals) r.seats r.history p ⊎ (IsHere r.ledger.rows r.history p → r.listed (attempt r.history p).row (attempt r.history p).cell ≡ true) ⊎ IsOver r.history p
  pub inserts : (t : ℕ) (l : Local) → slice_get r.world.locals t ≡ Some l → Inserts z.cells (list_in (word z r.world) r.listed l.row) l.activity l
  pub walks : (t : ℕ) (l : Local) → slice_get r.world.locals t ≡ Some l → WalksList z.cells (list_in (word z r.world) r.listed l.row) l.activity l
