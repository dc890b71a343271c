-- A row that was retired may be taken and linked again. Positions tell its uses apart: an attempt
-- that was added since the row was linked last is one of this use. The event that links a row alone
-- says since when that is, so of a row that is free, or taken and not yet linked, this says
-- nothing: there `born` is still that of the use before.
use Rattle.std.specs.Prelude.{ℕ, ◌≡◌, ◌≤◌}
use Rattle.kw_core.specs.History.{History, attempt}
use Rattle.kw_rows.specs.Ledger.{Ledger}
use Rattle.kw_rows.specs.Rows.{WasLinked}

-- the row of the attempt was not used again: it is in the list, or was, and the attempt was given
-- its cell since it was linked last
pub record IsHere (g : Ledger) (h : History) (p : ℕ) : Type 0 where
  pub linked : WasLinked g (attempt h p).row
  pub born : (g.fates (attempt h p).row).born ≤ (attempt h p).add

-- it was given its cell in this row, since the row was linked last
pub record IsMadeIn (g : Ledger) (h : History) (q p : ℕ) : Type 0 where
  pub row : (attempt h p).row ≡ q
  pub born : (g.fates q).born ≤ (attempt h p).add
