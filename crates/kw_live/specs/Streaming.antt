-- A scan that hands on the cells of its row one by one, and of which code gathers none.
use Rattle.std.specs.Prelude.{◌≡◌, ℕ, ◌<◌, ◌≤◌, ◌++◌, ◌∷◌, [], true, Some, List, All, length}
use Rattle.kw_words.specs.Plain.{IsValue}
use Rattle.kw_words.specs.declared.sizes.TheConstants.{CELLS}
use Rattle.kw_cells.specs.Cells.{pairs_of}
use Rattle.kw_cells.specs.InOrder.{AreInOrder, stands_before}
use Rattle.kw_cells.specs.declared.cell.Cell.{Cell}
use Rattle.kw_world.specs.Calls.{first_key, is_scan, last_key}
use Rattle.kw_world.specs.declared.activity.Activity.{Activity}
use Rattle.kw_world.specs.declared.local.Local.{Local}
use Rattle.kw_table.specs.declared.pass.Pass.{Pass}
use Rattle.kw_table.specs.declared.shared.Shared.{Shared}
use Rattle.kw_follow.specs.Calling.{KeepsCalls}
use Rattle.kw_follow.specs.Cursors.{with_cursor}
use Rattle.kw_follow.specs.Following.{Follows, GoesTo, held}
use Rattle.kw_follow.specs.declared.cursor.Cursor.{Cursor}
use Rattle.kw_core.specs.Stages.{IsAtReadLink}
use Rattle.kw_live.specs.Reading.{GoesOn}

-- the local of a scan at this activity whose cursor is here and that has gathered these cells, of
-- which code holds none
abbrev pub streaming : Activity → Cursor → List Cell → Local → Local
streaming a w cells l = with_cursor a w (record l { gathered = cells })

-- nothing is remembered of the entries of a scan's row, and all keys that the row may hold are in
-- the scan's range: it begins in that, and so does the row after it
pub record LeadsOn (l : Local) : Type 0 where
  pub scan : is_scan l.call ≡ true
  pub unmarked : l.remembered ≡ []
  pub next : ℕ
  pub after : l.next ≡ Some next
  pub from : first_key l.call ≤ l.lower
  pub within : l.upper ≤ last_key l.call

-- the scan has come so far in the list, and has gathered these cells
pub record Streams (s : Shared) (p : Pass) (l : Local) (w : Cursor) (cells : List Cell) : Type 0 where
  pub activity : Activity
  pub loads : IsAtReadLink activity
  pub follows : Follows s p (streaming activity w cells l)
  pub in_order : AreInOrder cells
  -- no more than it has reached, which are no more than there are
  pub few : length cells ≤ w.walked
  pub within : w.walked ≤ CELLS

-- it went on to this cell, which stands behind all of these, and its cursor is now there
pub record ReadsCell (s : Shared) (p : Pass) (l : Local) (w : Cursor) (cells : List Cell) (q : Pass) (c : Cell) (x : Cursor) : Type 0 where
  pub goes : GoesTo s p q
  pub calls : KeepsCalls p q
  pub held : held q ≡ held p
  pub streams : Streams s q l x (cells ++ c ∷ [])
  pub behind : All (λ d. stands_before d c ≡ true) cells
  pub from : first_key l.call ≤ c.key
  pub upto : c.key ≤ last_key l.call
  pub value : IsValue c.value
  pub further : w.walked < x.walked

-- it has read the row: it has the pairs that these cells show beside those that it had, and goes on
-- with the next row
pub record EndsRow (s : Shared) (p : Pass) (l : Local) (cells : List Cell) (q : Pass) (m : Local) : Type 0 where
  pub goes : GoesTo s p q
  pub calls : KeepsCalls p q
  pub follows : Follows s q (record m { gathered = cells })
  pub call : m.call ≡ l.call
  pub version : m.version ≡ l.version
  pub held : held q ≡ held p ++ pairs_of cells l.want (last_key l.call) l.version
  pub goes_on : GoesOn l.want (last_key l.call) l.version (record m { gathered = cells })
