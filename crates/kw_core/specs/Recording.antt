-- What a recorder holds, as contracts see it: lists, for a function is no value that code may hold.
use Rattle.std.specs.Prelude.{ℕ, ◌+◌, ◌*◌, Option, None, List, get_or}
use Rattle.kw_world.specs.Sizes.{Sizes}
use Rattle.kw_core.specs.History.{Record}
use Rattle.kw_core.specs.declared.seat_log.SeatLog.{SeatLog}

-- the history, the log of each seat, where the version in each seat's scan was drawn, and to which
-- attempt each cell was given, row by row
pub record Recording : Type 0 where
  pub history : Record
  pub logs : List SeatLog
  pub settled : List ℕ
  pub origins : List (Option ℕ)

-- the attempt to which a cell of a row was given
abbrev pub origin_in : Sizes → List (Option ℕ) → ℕ → ℕ → Option ℕ
origin_in z origins row cell = get_or origins (row * z.cells + cell) None
