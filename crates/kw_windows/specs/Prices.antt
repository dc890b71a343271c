-- What an update costs: the rows that were taken are paid for by updates, of which each window that
-- is over had its share, and this one has once a row leads.
use Rattle.std.specs.Prelude.{ℕ, ◌≡◌, ◌+◌, ◌*◌, ◌<◌, ◌≤◌, true}
use Rattle.kw_windows.specs.Windows.{Windows, Limits}

-- so many updates were made at least, where each window is paid by a share
pub record HavePaid (z : Limits) (w : Windows) (share updates : ℕ) : Type 0 where
  pub over : w.wins * share ≤ updates
  pub now : (x : ℕ) → x < z.rows → w.leads x ≡ true → (w.wins + 1) * share ≤ updates

-- at this price a share pays for the most rows that one seat takes in a window, and for one more
-- build
abbrev pub IsPrice : Limits → ℕ → ℕ → Type 0
IsPrice z share price = z.build * (z.leaders + 2) ≤ price * share
