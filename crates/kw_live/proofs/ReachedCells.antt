-- What stands in a cell that a reader has reached in the list of its row: a key that the row may
-- hold, and a version.
use Rattle.std.proofs.Common.{ℕ, ◌≡◌, ◌<◌, ◌≤◌, Some, arith, sym, subst, slice_get}
use Rattle.kw_words.specs.Plain.{key_of_word}
use Rattle.kw_words.specs.declared.layout.Name.TheVariants as name
use Rattle.kw_world.specs.declared.activity.Activity.TheVariants as Activity
use Rattle.kw_world.specs.declared.activity.read.Read.TheVariants as Read
use Rattle.kw_world.specs.declared.local.Local.{Local}
use Rattle.kw_world.specs.Sizes.{Sizes}
use Rattle.kw_world.specs.Step.{word}
use Rattle.kw_core.specs.History.{attempt}
use Rattle.kw_core.specs.Run.{Run}
use Rattle.kw_core.specs.Stages.{IsAtListed, IsAtRow, IsPastStart}
use Rattle.kw_rows.specs.Rows.{WasLinked}
use Rattle.kw_shape.specs.Shape.{HoldsKey, IsAtItsRow, Walks}
use Rattle.kw_shape.proofs.LinkedRows.{fresh_linked}
use Rattle.kw_puts.specs.Lists.{IsListedCell, list_in}
use Rattle.kw_puts.proofs.OwnAttempts.{positive}
use Rattle.kw_reads.specs.Inv.{Inv, lower}
use Rattle.kw_reads.specs.Readers.{HasReachedCell}
use Rattle.kw_reads.proofs.KeyedCells.{keyed}
use Rattle.kw_reads.proofs.WalksKeep.{has_reached}

-- the key is not below the row's least key, and below that of the row after it
pub reached_within : (z : Sizes) (r : Run) → Inv z r → (t : ℕ) (l : Local) → slice_get r.world.locals t ≡ Some l → l.activity ≡ Activity.Read Read.Key → (n : ℕ) → l.next ≡ Some n →
    (l.lower ≤ key_of_word (word z r.world (name.Key l.row l.place))) × (key_of_word (word z r.world (name.Key l.row l.place)) < l.upper)
reached_within z r i t l g a n after =
    let x : IsListedCell (word z r.world) r.history r.origin l.row l.place = i.lists.cells l.row l.place linked saw.walks.on in
    let h : HoldsKey (word z r.world) r.ledger.rows l.row (attempt r.history x.put).key = keyed z r (lower i) l.row l.place x.put linked ((i.lists.leads l.row linked).below l.place saw.walks.on) x.origin in
    let least = walks.lower (subst IsPastStart (sym a) tt) in
    let same = x.key in
    let from = h.from in
    let below = h.below l.upper (at.next n after).ends in
    (omega (arith, least, same, from), omega (arith, same, below))
  where
    walks : Walks (word z r.world) r.ledger.rows t l.activity l
    walks = i.shape.walks t l g

    at : IsAtItsRow (word z r.world) r.ledger.rows t l
    at = walks.at (subst IsAtRow (sym a) tt)

    linked : WasLinked r.ledger.rows l.row
    linked = fresh_linked r.ledger.rows t l.row at.fresh

    saw : HasReachedCell z.cells (list_in (word z r.world) r.listed l.row) l
    saw = has_reached z.cells (list_in (word z r.world) r.listed l.row) l.activity l (subst IsAtListed (sym a) tt) (i.readers.walks t l g)

-- its version is that of a stamped attempt
pub reached_version : (z : Sizes) (r : Run) → Inv z r → (t : ℕ) (l : Local) → slice_get r.world.locals t ≡ Some l → l.activity ≡ Activity.Read Read.Version → 1 ≤ word z r.world (name.Version l.row l.place)
reached_version z r i t l g a =
    let x : IsListedCell (word z r.world) r.history r.origin l.row l.place = i.lists.cells l.row l.place linked saw.walks.on in
    let same = x.version in
    let from = positive z r (lower i) x.put x.stamped in
    omega (arith, same, from)
  where
    linked : WasLinked r.ledger.rows l.row
    linked = fresh_linked r.ledger.rows t l.row ((i.shape.walks t l g).at (subst IsAtRow (sym a) tt)).fresh

    saw : HasReachedCell z.cells (list_in (word z r.world) r.listed l.row) l
    saw = has_reached z.cells (list_in (word z r.world) r.listed l.row) l.activity l (subst IsAtListed (sym a) tt) (i.readers.walks t l g)
