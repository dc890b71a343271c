-- Which rows a seat engages: those that have given all their cells, and hold the key of its call.
--
-- A put or a delete goes on to engage its row where that gives it no cell, or where its entry there
-- was found frozen. In the second case the row was engaged before, and so it was where the seat has
-- moved to it from the row on its right: then its link is marked. A put that is done and tidies its
-- row may do so however few cells that has given.
use Rattle.std.specs.Prelude.{ℕ, ◌≡◌, ◌<◌, ◌≤◌, true, false, Some, length, slice_get}
use Rattle.kw_world.specs.declared.activity.Activity.{Activity}
use Rattle.kw_world.specs.declared.activity.rebalance.engage.Engage.TheVariants as Engage
use Rattle.kw_world.specs.declared.activity.rebalance.Rebalance.TheVariants as Rebalance
use Rattle.kw_world.specs.declared.activity.rebalance.seek.Seek.TheVariants as Seek
use Rattle.kw_world.specs.declared.local.Local.{Local}
use Rattle.kw_world.specs.declared.rebalance.Afterwards.TheVariants.{MoveLeft}
use Rattle.kw_world.specs.Calls.{first_key}
use Rattle.kw_world.specs.Sizes.{Sizes}
use Rattle.kw_world.specs.Step.{word}
use Rattle.kw_core.specs.History.{attempt}
use Rattle.kw_core.specs.Run.{Run}
use Rattle.kw_core.specs.Words.{given_in}
use Rattle.kw_rows.specs.Ledger.{IsLive}
use Rattle.kw_rows.specs.RowState as row
use Rattle.kw_rows.specs.Rows.{HoldsKey}
use Rattle.kw_puts.specs.Here.{IsMadeIn}
use Rattle.kw_shape.specs.RowsIn.{rows_in}

-- the seat is about to engage its row: it has not seen the row's link
abbrev pub IsEngaging : Activity → Type 0
IsEngaging (Activity.Rebalance (Rebalance.Engage Engage.Clock)) = Unit {0}
IsEngaging (Activity.Rebalance (Rebalance.Engage Engage.Epoch)) = Unit {0}
IsEngaging (Activity.Rebalance (Rebalance.Engage Engage.State)) = Unit {0}
IsEngaging (Activity.Rebalance (Rebalance.Engage (Engage.Normal seat))) = Unit {0}
IsEngaging (Activity.Rebalance (Rebalance.Engage Engage.Lead)) = Unit {0}
IsEngaging _ = ⊥

-- nobody has engaged the row: it is in the normal state, or is to be made so
abbrev pub IsUnled : row.State → Type 0
IsUnled (row.Infant seat) = Unit {0}
IsUnled row.Normal = Unit {0}
IsUnled _ = ⊥

-- the seat's last attempt is one of its call, was made in this row, and is stamped
pub record HasStamped (r : Run) (t q : ℕ) : Type 0 where
  pub within : (r.seats t).own < length r.history.attempts
  pub seat : (attempt r.history (r.seats t).own).seat ≡ t
  pub call : (attempt r.history (r.seats t).own).call ≡ (r.seats t).call
  pub made : IsMadeIn r.ledger.rows r.history q (r.seats t).own
  pub stamped : (attempt r.history (r.seats t).own).is_stamped ≡ true

-- the row that a seat is about to engage is in the list, and holds the key of the seat's call. It
-- has given all its cells; or the seat tidies, and its cell there is stamped
pub record IsFullRow (z : Sizes) (r : Run) (t : ℕ) (l : Local) : Type 0 where
  pub live : IsLive r.ledger.rows l.row
  pub holds : HoldsKey (rows_in (word z r.world)) r.ledger.rows l.row (first_key l.call)
  pub given : l.tidies ≡ false → z.cells ≤ given_in (word z r.world) l.row
  pub tidied : l.tidies ≡ true → HasStamped r t l.row

-- what every valid list keeps
pub record KeepsFull (z : Sizes) (r : Run) : Type 0 where
  -- where a seat is about to engage a row that nobody has engaged, that is such a row
  pub rows : (t : ℕ) (l : Local) → slice_get r.world.locals t ≡ Some l → IsEngaging l.activity → IsUnled ((rows_in (word z r.world)).state l.row) → IsFullRow z r t l
  -- a seat that gives its new rows back to move left moves to a row with a marked link
  pub moves : (t : ℕ) (l : Local) → slice_get r.world.locals t ≡ Some l → l.activity ≡ Activity.Rebalance (Rebalance.Seek Seek.GiveBack) → l.rebalance.afterwards ≡ MoveLeft → (p : ℕ) → l.rebalance.before ≡ Some p → (rows_in (word z r.world)).marked p ≡ true
