-- What `rollup` asks of the map: the updates of its lines, and one scan of all keys.
use Rattle.std.specs.Prelude.{ℕ, suc, ◌+◌, ◌-◌, ◌%◌, ◌≡◌, IsTrue, List, [], ◌∷◌, ◌++◌, map, take, drop, replicate, slice_get, Some}
use Rattle.kw_model.specs.declared.call.Call.TheVariants as call
use Rattle.kw_line.specs.declared.item.Form.TheVariants as form
use Rattle.kw_line.specs.declared.item.Item.{Item}
use Rattle.kw_line.specs.declared.item.Item.TheVariants as item
use Rattle.kw_line.specs.Answered.{is_range}
use Rattle.kw_rollup.specs.declared.item.RollItem.{RollItem}
use Rattle.kw_rollup.specs.declared.item.RollItem.TheVariants as roll
use Rattle.kw_work.specs.declared.line.Line.{Line}
use Rattle.kw_work.specs.Dealing.{lines_of, worker_of}
use Rattle.kw_work.specs.LineOrder.{greatest_key}

-- what a line asks of the map: an update its call; a table nothing, but it ends a block
abbrev pub item_of : RollItem → Item
item_of (roll.Put k v) = item.Call (call.Put k v) form.Put
item_of (roll.Del k) = item.Call (call.Del k) form.Del
item_of roll.Table = item.Wait

-- how many updates stand above the first table
abbrev pub updates_above : List RollItem → ℕ
updates_above [] = 0
updates_above (roll.Table ∷ is) = 0
updates_above (roll.Put k v ∷ is) = suc (updates_above is)
updates_above (roll.Del k ∷ is) = suc (updates_above is)

-- so many waits stand before the scan that follows this many items: a range is dealt by its number,
-- counted from 1, and that of the scan is then a multiple of the number of workers
abbrev pub waits_before : ℕ → ℕ → ℕ
waits_before workers items = workers - 1 - items % workers

-- a scan of all keys in a block of its own, behind this many items
abbrev pub scan_items : ℕ → ℕ → List Item
scan_items workers items = replicate (waits_before workers items) item.Wait ++ item.Call (call.Scan 0 greatest_key) form.List ∷ item.Wait ∷ []

-- the first table and what stands below it, behind this many items: the scan follows the table
abbrev pub from_table : ℕ → ℕ → List RollItem → List Item
from_table workers items [] = []
from_table workers items (i ∷ is) = item_of i ∷ (scan_items workers (items + 1) ++ map item_of is)

-- what the workers are asked: the updates, dealt as those of `replay` are, and between the first
-- table and what stands below it a scan of all keys, by the first worker
abbrev pub asked_items : ℕ → List RollItem → List Item
asked_items workers items = map item_of (take (updates_above items) items) ++ from_table workers (updates_above items) (drop (updates_above items) items)

-- a line that asks for a range of keys, which is the scan alone, is the first worker's
abbrev pub IsFirstWorkers : ℕ → List Item → Type 0
IsFirstWorkers workers items = (i : ℕ) (l : Line) → slice_get (lines_of 1 items) i ≡ Some l → IsTrue (is_range l.form) → worker_of workers l ≡ 0
