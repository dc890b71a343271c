-- What a row's state and marks say stays true of a row that is as it was, whatever becomes of
-- another.
use Rattle.std.proofs.Common.{ℕ, ◌≡◌, ◌⊎◌, inl, inr, ◌<◌, Some, sym, ◌∙◌, ap, subst}
use Rattle.kw_rows.specs.Ledger.{Ledger, Fate, Status, Free, Infant, Live, Dead, IsLive, IsDead}
use Rattle.kw_rows.specs.RowState as row
use Rattle.kw_rows.specs.RowState.{State, Normal, Leader, Follower, Retired, IsEngaged, IsDecided}
use Rattle.kw_rows.specs.Rows.{Rows}
use Rattle.kw_rows.specs.States.{HasLeader, IsLiveState, IsDeadState, HasState, States, Marks}

-- live leaders of two still lead, by the same marked links, and drawn numbers stay drawn
pub record Leads (w w' : Rows) (ledger ledger' : Ledger) : Type 0 where
  pub leader : (p x : ℕ) → HasLeader w ledger x p → HasLeader w' ledger' x p
  pub numbered : (m at : ℕ) → ledger.numbered m ≡ Some at → ledger'.numbered m ≡ Some at

-- the row's state and fate are as they were
pub record SameRow (w w' : Rows) (ledger ledger' : Ledger) (x : ℕ) : Type 0 where
  pub state : w'.state x ≡ w.state x
  pub fate : ledger'.fates x ≡ ledger.fates x

module _ (w w' : Rows) (ledger ledger' : Ledger) (l : Leads w w' ledger ledger') where
  -- a live row with the fate that it had has the state of one
  live_state : (x : ℕ) (s : State) → ledger'.fates x ≡ ledger.fates x → IsLiveState w ledger x s → IsLiveState w' ledger' x s
  live_state x (row.Infant m) f h = h ∙ ap (λ (k : Fate). k.owner) (sym f)
  live_state x Normal f h = tt
  live_state x (Leader m) f h = tt
  live_state x (Follower p) f h = l.leader p x h
  live_state x row.Free f h = absurd h
  live_state x (Retired m) f h = absurd h

  -- so has a dead row
  dead_state : (x : ℕ) (s : State) → ledger'.fates x ≡ ledger.fates x → IsDeadState ledger x s → IsDeadState ledger' x s
  dead_state x (Leader m) f h = h
  dead_state x (Follower p) f h = tt
  dead_state x (Retired m) f h = record { at = h.at; drawn = l.numbered m h.at h.drawn; after = subst (λ (k : Fate). k.gone < h.at) (sym f) h.after }
  dead_state x (row.Infant m) f h = absurd h
  dead_state x Normal f h = absurd h
  dead_state x row.Free f h = absurd h

  -- so has a row of any status
  has_state : (x : ℕ) (s : Status) → SameRow w w' ledger ledger' x → HasState w ledger x s → HasState w' ledger' x s
  has_state x Free e h = e.state ∙ h
  has_state x Infant e h = e.state ∙ h ∙ ap (λ (k : Fate). row.Infant k.owner) (sym e.fate)
  has_state x Live e h = subst (IsLiveState w' ledger' x) (sym e.state) (live_state x (w.state x) e.fate h)
  has_state x Dead e h = subst (IsDeadState ledger' x) (sym e.state) (dead_state x (w.state x) e.fate h)

  -- each row is as it was, or has the state that goes with its fate
  pub states_kept : ((x : ℕ) → SameRow w w' ledger ledger' x ⊎ HasState w' ledger' x (ledger'.fates x).status) → States w ledger → States w' ledger'
  states_kept f s x = which (f x)
    where
      which : SameRow w w' ledger ledger' x ⊎ HasState w' ledger' x (ledger'.fates x).status → HasState w' ledger' x (ledger'.fates x).status
      which (inl e) = subst (λ (k : Fate). HasState w' ledger' x k.status) (sym e.fate) (has_state x (ledger.fates x).status e (s x))
      which (inr h) = h

-- the row's marks are as they were too
pub record SameMarks (w w' : Rows) (x : ℕ) : Type 0 where
  pub marked : w'.marked x ≡ w.marked x
  pub frozen : w'.frozen x ≡ w.frozen x

module _ (w w' : Rows) (ledger ledger' : Ledger) (x : ℕ) where
  -- the row is as it was
  pub marks_same : SameRow w w' ledger ledger' x → SameMarks w w' x → Marks w ledger x → Marks w' ledger' x
  marks_same e k m = record {
    engaged = λ a b. subst IsEngaged (sym e.state) (m.engaged (live a) (sym k.marked ∙ b));
    decided = λ n a o b. k.marked ∙ m.decided n (live a) o (sym e.state ∙ b);
    frozen = λ a b. let t = m.frozen (live a) (sym k.frozen ∙ b) in (k.marked ∙ t.0, subst IsDecided (sym e.state) t.1);
    buried = λ a. let t = m.buried (ap (λ (f : Fate). f.status) (sym e.fate) ∙ a) in (k.marked ∙ t.0, k.frozen ∙ t.1);
  }
    where
      live : IsLive ledger' x → IsLive ledger x
      live a = ap (λ (f : Fate). f.status) (sym e.fate) ∙ a

  -- the row is neither live nor dead
  pub marks_none : (IsLive ledger' x → ⊥) → (IsDead ledger' x → ⊥) → Marks w' ledger' x
  marks_none f g = record {
    engaged = λ a b. absurd (f a);
    decided = λ n a o b. absurd (f a);
    frozen = λ a b. absurd (f a);
    buried = λ a. absurd (g a);
  }
