-- Where the cursor of a reader or a put is, and which local a cursor and the local that stays
-- behind it stand for.
use Rattle.std.specs.Prelude.{◌≡◌, ℕ, Option, Some, None}
use Rattle.kw_cells.specs.declared.cell.Cell.{Cell}
use Rattle.kw_world.specs.declared.activity.Activity.{Activity}
use Rattle.kw_world.specs.declared.activity.read.Read.TheVariants as Read
use Rattle.kw_world.specs.declared.event.Choice.TheVariants.{Go}
use Rattle.kw_world.specs.declared.local.Local.{Local}
use Rattle.kw_world.specs.ListTransitions.{one_more}
use Rattle.kw_world.specs.Marks.{unmarked}
use Rattle.kw_world.specs.ReadTransitions.{gathering}
use Rattle.kw_world.specs.Sizes.{product}
use Rattle.kw_world.specs.Step.{next_of}
use Rattle.kw_table.specs.declared.pass.Pass.{Pass}
use Rattle.kw_table.specs.declared.shared.Shared.{Shared}
use Rattle.kw_table.specs.Passes.{view, Makes}
use Rattle.kw_table.specs.Views.{local_in}
use Rattle.kw_follow.specs.declared.cursor.Cursor.{Cursor}
use Rattle.kw_follow.specs.Calling.{KeepsCalls}
use Rattle.kw_follow.specs.Following.{Follows, GoesTo}
use Rattle.kw_follow.specs.OwnEvents.{SawAs}

-- the local of a reader or a put at this activity whose cursor is here
abbrev pub with_cursor : Activity → Cursor → Local → Local
with_cursor a c l = record l { activity = a; row = c.row; link = c.link; place = c.place; walked = c.walked; place_key = c.key; place_version = c.version }

-- the cursor of a reader at the first link of this row's list
abbrev pub first_of : ℕ → Cursor
first_of row = record { row = row; link = None; place = 0; walked = 0; key = 0; version = 1 }

-- the link led to this cell
abbrev pub reached : ℕ → Cursor → Cursor
reached cell c = record c { place = cell; walked = one_more product c.walked }

-- the cursor is at the link after the cell at hand
abbrev pub past : Cursor → Cursor
past c = record c { link = Some c.place }

-- the cell need not be remembered any more
abbrev pub forgetting : ℕ → Local → Local
forgetting cell l = record l { remembered = unmarked cell l.remembered }

-- the put holds what its link held, which is this cell
abbrev pub holding : ℕ → Local → Local
holding cell l = record l { held = Some cell }

-- the cell at hand, with this value
abbrev pub cell_at : Cursor → Option ℕ → Cell
cell_at c value = record { key = c.key; place = c.place; version = c.version; value = value }

-- the cell at hand is gathered, with this value
abbrev pub gathering_at : Cursor → Option ℕ → Local → Local
gathering_at c value l = record l { gathered = (gathering product value (with_cursor (Activity.Read Read.Value) c l)).gathered }

-- the pass made one event, which is the first one of its own since, and was told this: code
-- followed it so
pub record ReadsWord (s : Shared) (p : Pass) (l : Local) (told : ℕ) (q : Pass) : Type 0 where
  pub makes : Makes s p Go told q
  pub goes : GoesTo s p q
  pub seat : local_in (view q) ≡ (next_of product (view p).opening.rows Go (local_in (view p)) told).local
  pub saw : SawAs p q l Go told
  pub calls : KeepsCalls p q

-- the same at a cell that a reader remembers and did not reach in the list, and the local follows
-- the pass still
pub record ReadsLeftOver (s : Shared) (p : Pass) (l : Local) (q : Pass) (m : Local) : Type 0 where
  pub told : ℕ
  pub reads : ReadsWord s p l told q
  pub follows : Follows s q m
