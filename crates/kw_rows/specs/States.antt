-- The state and the marks of a row, by what has become of it.
use Rattle.std.specs.Prelude.{ℕ, ◌≡◌, ◌≤◌, ◌<◌, true, Option, Some}
use Rattle.kw_rows.specs.Ledger.{Ledger, Status, Free, Infant, Live, Dead, IsLive, IsDead}
use Rattle.kw_rows.specs.RowState as row
use Rattle.kw_rows.specs.RowState.{State, Normal, Leader, Follower, Retired, IsEngaged, IsDecided}
use Rattle.kw_rows.specs.Rows.{Rows}

-- the link of the row is marked and leads there
pub record LinksOn (w : Rows) (x : ℕ) (y : Option ℕ) : Type 0 where
  pub marked : w.marked x ≡ true
  pub next : w.next x ≡ y

-- the row p, live, leads a group of two with x
pub record HasLeader (w : Rows) (g : Ledger) (x p : ℕ) : Type 0 where
  pub live : IsLive g p
  pub two : w.state p ≡ Leader 2
  pub link : LinksOn w p (Some x)

-- number m was drawn after the row went
pub record IsNumbered (g : Ledger) (x m : ℕ) : Type 0 where
  pub at : ℕ
  pub drawn : g.numbered m ≡ Some at
  pub after : (g.fates x).gone < at

-- what a live row's state may be, and says
abbrev pub IsLiveState : Rows → Ledger → ℕ → State → Type 0
IsLiveState w g x (row.Infant s) = s ≡ (g.fates x).owner
IsLiveState w g x Normal = Unit {0}
IsLiveState w g x (Leader m) = Unit {0}
IsLiveState w g x (Follower p) = HasLeader w g x p
IsLiveState w g x _ = ⊥

-- what a dead row's may be
abbrev pub IsDeadState : Ledger → ℕ → State → Type 0
IsDeadState g x (Leader m) = 1 ≤ m
IsDeadState g x (Follower p) = Unit {0}
IsDeadState g x (Retired m) = IsNumbered g x m
IsDeadState g x _ = ⊥

-- the state goes with what has become of the row
abbrev pub HasState : Rows → Ledger → ℕ → Status → Type 0
HasState w g x Free = w.state x ≡ row.Free
HasState w g x Infant = w.state x ≡ row.Infant (g.fates x).owner
HasState w g x Live = IsLiveState w g x (w.state x)
HasState w g x Dead = IsDeadState g x (w.state x)

-- each row has such a state
abbrev pub States : Rows → Ledger → Type 0
States w g = (x : ℕ) → HasState w g x (g.fates x).status

-- which links are marked, and which rows give no more cells
pub record Marks (w : Rows) (g : Ledger) (x : ℕ) : Type 0 where
  pub engaged : IsLive g x → w.marked x ≡ true → IsEngaged (w.state x)
  pub decided : (m : ℕ) → IsLive g x → 1 ≤ m → w.state x ≡ Leader m → w.marked x ≡ true
  pub frozen : IsLive g x → w.frozen x ≡ true → (w.marked x ≡ true) × IsDecided (w.state x)
  pub buried : IsDead g x → (w.marked x ≡ true) × (w.frozen x ≡ true)
