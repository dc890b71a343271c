-- Which log may stand in the slot of an index. What stands there when a turn is taken no clause
-- can name: so what entries become is said where they are brought up by a log that is given, and
-- of a call that takes the turn itself it is said what it leaves as it was.
use Rattle.std.specs.Prelude.{ℕ, ◌≡◌}
use Rattle.kw_index.specs.Logs.{Account}

-- a log whose base is of a map of this many rows
abbrev pub IsLogOf : ℕ → Account → Type 0
IsLogOf rows account = account.base.rows ≡ rows
