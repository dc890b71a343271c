-- When the updates of an input are few enough for its map.
use Rattle.std.specs.Prelude.{ℕ, ◌+◌, ◌*◌, ◌≤◌, List, [], ◌∷◌}
use Rattle.kw_model.specs.declared.call.Call.{Call}
use Rattle.kw_counts.specs.Bank.{update_one}
use Rattle.kw_line.specs.declared.item.Item.{Item}
use Rattle.kw_line.specs.Line.{calls}
use Rattle.kw_used.specs.Few.{update_price}
use Rattle.kw_world.specs.declared.limits.TheConstants.{TIDY_SHARE}

-- how many of these calls set a value or take a key away
abbrev pub updates_asked : List Call → ℕ
updates_asked [] = 0
updates_asked (c ∷ cs) = update_one c + updates_asked cs

-- how many lines of an input do
abbrev pub update_lines : List Item → ℕ
update_lines items = updates_asked (calls items)

-- a new map of so many rows has enough of them for so many updates, whatever their keys and however
-- so many workers meet
abbrev pub IsEnough : ℕ → ℕ → ℕ → Type 0
IsEnough workers rows updates = workers * (update_price * updates) + TIDY_SHARE ≤ rows

-- it has for those of these items
abbrev pub AreFew : ℕ → ℕ → List Item → Type 0
AreFew workers rows items = IsEnough workers rows (update_lines items)
