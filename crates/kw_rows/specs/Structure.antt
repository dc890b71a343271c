-- All that every event keeps of the rows.
use Rattle.std.specs.Prelude.{ℕ}
use Rattle.kw_rows.specs.Ledger.{Ledger, Past}
use Rattle.kw_rows.specs.Rows.{Rows, Chain, Closed, Follows}
use Rattle.kw_rows.specs.States.{States, Marks}
use Rattle.kw_rows.specs.Group.{Pairs}

pub record Structure (w : Rows) (g : Ledger) (now : ℕ) : Type 0 where
  pub chain : Chain w g
  pub closed : Closed w g
  pub states : States w g
  pub marks : (x : ℕ) → Marks w g x
  pub pairs : (x : ℕ) → Pairs w g x
  pub follows : Follows w g
  pub past : Past g now
