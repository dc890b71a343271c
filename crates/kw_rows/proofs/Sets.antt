-- The exchanges of one state: each leaves the states and the marks of all rows right, and what
-- seats know of their groups.
use Rattle.std.proofs.Common.{ℕ, ◌≡◌, ◌⊎◌, inl, inr, ◌≤◌, ◌<◌, true, Some, arith, refl, sym, ◌∙◌, ap, subst}
use Rattle.std.proofs.lemmas.Bool.{cases_eq}
use Rattle.kw_rows.specs.Ledger.{Ledger, Fate, IsLive, IsDead, IsHeld}
use Rattle.kw_rows.specs.RowState as row
use Rattle.kw_rows.specs.RowState.{State, Normal, Leader, Follower, Retired, IsTwo, IsEngaged, IsDecided, IsClaimed}
use Rattle.kw_rows.specs.Rows.{Rows, Chain}
use Rattle.kw_rows.specs.States.{IsLiveState, IsDeadState, HasState, States, Marks}
use Rattle.kw_rows.specs.Group.{View, Claiming, Group, Pairs}
use Rattle.kw_rows.specs.Events.{SameLedger, SetsState, Engages, Decides, EngagesNext, Normalises, Retires}
use Rattle.kw_rows.proofs.Statuses.{not_dead}
use Rattle.kw_rows.proofs.Chains.{one_link}
use Rattle.kw_rows.proofs.StatesKeep.{Leads, SameRow, states_kept, marks_same}
use Rattle.kw_rows.proofs.Framed.{dead_state}
use Rattle.kw_rows.proofs.Exchanges.{claimed_next, went_with, Keeps, group_sets, leads_on, from_normal, from_infant, from_open, to_retired, no_zero, no_normal, no_leader_follower}

-- a held row whose state no dead row has is live
held_live : (w : Rows) (ledger : Ledger) (x : ℕ) (s : State) → States w ledger → IsHeld ledger x → w.state x ≡ s → (IsDeadState ledger x s → ⊥) → IsLive ledger x
held_live w ledger x s h (inl a) e f = a
held_live w ledger x s h (inr a) e f = absurd (f (subst (IsDeadState ledger x) e (dead_state w ledger x h a.1.dead)))

-- a row that leads two, or has led one, leads two or is retired
two_of : (s : State) → IsTwo s → (s ≡ Leader 2) ⊎ ((m : ℕ) × (s ≡ Retired m))
two_of (Leader m) h = inl (ap Leader h)
two_of (Retired m) h = inr (m, refl)
two_of row.Free h = absurd h
two_of (row.Infant s) h = absurd h
two_of Normal h = absurd h
two_of (Follower p) h = absurd h

-- a live row has the state of one
pub live_state : (w : Rows) (ledger : Ledger) (x : ℕ) → States w ledger → IsLive ledger x → IsLiveState w ledger x (w.state x)
live_state w ledger x s a = subst (HasState w ledger x) a (s x)

-- a live row that leads two, or has led two, leads two
pub live_two : (w : Rows) (ledger : Ledger) (r : ℕ) → States w ledger → IsLive ledger r → IsTwo (w.state r) → w.state r ≡ Leader 2
live_two w ledger r s a h = which (two_of (w.state r) h)
  where
    which : (w.state r ≡ Leader 2) ⊎ ((m : ℕ) × (w.state r ≡ Retired m)) → w.state r ≡ Leader 2
    which (inl e) = e
    which (inr e) = absurd (subst (IsLiveState w ledger r) e.1 (live_state w ledger r s a))

-- one live row leads to a row
pub one : (w : Rows) (ledger : Ledger) (p q y : ℕ) → Chain w ledger → IsLive ledger p → IsLive ledger q → w.next p ≡ Some y → w.next q ≡ Some y → p ≡ q
one w ledger p q y c a b f g = same_row (one_link w ledger c (Some p) (Some q) y a b f g)
  where
    same_row : Some p ≡ Some q → p ≡ q
    same_row e = cc

-- the row that takes a normal one along is live
claimer_live : (w : Rows) (ledger : Ledger) (r c : ℕ) → IsHeld ledger r → Group w ledger (Claiming r c) → w.state c ≡ Normal → IsLive ledger r
claimer_live w ledger r c (inl a) g e = a
claimer_live w ledger r c (inr d) g e = absurd (subst (IsClaimed r) e (g.3 d.1.dead))

-- what an event keeps of states, marks and groups
pub record Kept (w w' : Rows) (ledger ledger' : Ledger) : Type 0 where
  pub states : States w' ledger'
  pub marks : (x : ℕ) → Marks w' ledger' x
  pub pairs : (x : ℕ) → Pairs w' ledger' x
  pub group : (v : View) → Group w ledger v → Group w' ledger' v

-- the state s of row x is exchanged for s'
module _ (w w' : Rows) (ledger ledger' : Ledger) (x : ℕ) (s s' : State) (found : w.state x ≡ s) (e : SetsState w w' x s') (same : SameLedger ledger ledger') (k : Keeps w ledger x s s') (h : States w ledger) (m : (y : ℕ) → Marks w ledger y) (pairs : (y : ℕ) → Pairs w ledger y) where
  -- no status changes
  status : (y : ℕ) → (ledger'.fates y).status ≡ (ledger.fates y).status
  status y = ap (λ (f : Fate). f.status) (same.fates y)

  -- the new state goes with what has become of the row
  new_live : IsLive ledger x → IsLiveState w' ledger' x s' → HasState w' ledger' x (ledger'.fates x).status
  new_live a h = subst (HasState w' ledger' x) (sym (status x ∙ a)) (subst (IsLiveState w' ledger' x) (sym e.state) h)

  -- or is dead
  new_dead : IsDead ledger x → IsDeadState ledger' x s' → HasState w' ledger' x (ledger'.fates x).status
  new_dead a h = subst (HasState w' ledger' x) (sym (status x ∙ a)) (subst (IsDeadState ledger' x) (sym e.state) h)

  -- live leaders of two still lead
  leads : Leads w w' ledger ledger'
  leads = leads_on w w' ledger ledger' x s s' found e same k

  -- all states go with fates
  states_set : HasState w' ledger' x (ledger'.fates x).status → States w' ledger'
  states_set new = states_kept w w' ledger ledger' leads (λ y. which y (cases_eq y x)) h
    where
      which : (y : ℕ) → (y ≡ x) ⊎ (y ≡ x → ⊥) → SameRow w w' ledger ledger' y ⊎ HasState w' ledger' y (ledger'.fates y).status
      which y (inl q) = inr (subst (λ z. HasState w' ledger' z (ledger'.fates z).status) (sym q) new)
      which y (inr d) = inl (record { state = e.others y d; fate = same.fates y })

  -- and marks
  marks_set : Marks w' ledger' x → (y : ℕ) → Marks w' ledger' y
  marks_set new y = which (cases_eq y x)
    where
      which : (y ≡ x) ⊎ (y ≡ x → ⊥) → Marks w' ledger' y
      which (inl q) = subst (Marks w' ledger') (sym q) new
      which (inr d) = marks_same w w' ledger ledger' y (record { state = e.others y d; fate = same.fates y }) (record { marked = e.links.marked y; frozen = e.links.frozen y }) (m y)

  -- the marks of a live row whose new state allows them
  new_marks : IsLive ledger x → (w.marked x ≡ true → IsEngaged s') → ((m : ℕ) → 1 ≤ m → s' ≡ Leader m → w.marked x ≡ true) → (w.frozen x ≡ true → (w.marked x ≡ true) × IsDecided s') → Marks w' ledger' x
  new_marks a engaged decided frozen = record {
    engaged = λ b m. subst IsEngaged (sym e.state) (engaged (sym (e.links.marked x) ∙ m));
    decided = λ m b o q. e.links.marked x ∙ decided m o (sym e.state ∙ q);
    frozen = λ b f. let t = frozen (sym (e.links.frozen x) ∙ f) in (e.links.marked x ∙ t.0, subst IsDecided (sym e.state) t.1);
    buried = λ b. not_dead (ledger.fates x).status a (sym (status x) ∙ b);
  }

  -- no more rows are held
  held_was : (y : ℕ) → IsHeld ledger' y → IsHeld ledger y
  held_was y (inl a) = inl (sym (status y) ∙ a)
  held_was y (inr t) = inr (t.0, record { since = t.1.since; dead = sym (status y) ∙ t.1.dead; visits = sym (same.others.visits t.0) ∙ t.1.visits; before = subst (λ (f : Fate). t.1.since < f.gone) (same.fates y) t.1.before })

  -- what pairs of rows say stays
  pairs_set : (IsLive ledger x → s' ≡ Leader 2 → (c : ℕ) × (w.next x ≡ Some c)) → (IsDead ledger x → s' ≡ Leader 2 → ⊥) → ((p : ℕ) → IsDead ledger x → s' ≡ Follower p → ⊥) → (y : ℕ) → Pairs w' ledger' y
  pairs_set two gone follows y = which (cases_eq y x)
    where
      which : (y ≡ x) ⊎ (y ≡ x → ⊥) → Pairs w' ledger' y
      which (inl q) = subst (Pairs w' ledger') (sym q) (record {
        next = λ a f. let t = two (sym (status x) ∙ a) (sym e.state ∙ f) in (t.0, e.links.next x ∙ t.1);
        claimed = λ a d f. absurd (gone (sym (status x) ∙ d) (sym e.state ∙ f));
        together = λ p a d f. absurd (follows p (sym (status x) ∙ d) (sym e.state ∙ f));
      })
      which (inr d) = record {
        next = λ a f. let t = (pairs y).next (sym (status y) ∙ a) (sym (e.others y d) ∙ f) in (t.0, e.links.next y ∙ t.1);
        claimed = λ a b f. claimed_next w w' ledger ledger' x s s' found e same k y ((pairs y).claimed (held_was y a) (sym (status y) ∙ b) (sym (e.others y d) ∙ f));
        together = λ p a b f. went_with w w' ledger ledger' x s s' found e same k y p ((pairs y).together p (held_was y a) (sym (status y) ∙ b) (sym (e.others y d) ∙ f));
      }

  -- the row is live
  pub live_set : IsLive ledger x → (Leads w w' ledger ledger' → IsLiveState w' ledger' x s') → (w.marked x ≡ true → IsEngaged s') → ((n : ℕ) → 1 ≤ n → s' ≡ Leader n → w.marked x ≡ true) → (w.frozen x ≡ true → (w.marked x ≡ true) × IsDecided s') → (s' ≡ Leader 2 → (c : ℕ) × (w.next x ≡ Some c)) → Kept w w' ledger ledger'
  live_set a new engaged decided frozen two = record {
    states = states_set (new_live a (new leads));
    marks = marks_set (new_marks a engaged decided frozen);
    pairs = pairs_set (λ b. two) (λ d. not_dead (ledger.fates x).status a d) (λ p d. not_dead (ledger.fates x).status a d);
    group = group_sets w w' ledger ledger' x s s' found e same k;
  }

  -- the row is dead
  pub dead_set : IsDead ledger x → IsDeadState ledger' x s' → (s' ≡ Leader 2 → ⊥) → ((p : ℕ) → s' ≡ Follower p → ⊥) → Kept w w' ledger ledger'
  dead_set d new two follows = record {
    states = states_set (new_dead d new);
    marks = marks_set (record {
      engaged = λ b q. not_dead (ledger'.fates x).status b dead;
      decided = λ i b o q. not_dead (ledger'.fates x).status b dead;
      frozen = λ b q. not_dead (ledger'.fates x).status b dead;
      buried = λ b. let t = (m x).buried d in (e.links.marked x ∙ t.0, e.links.frozen x ∙ t.1);
    });
    pairs = pairs_set (λ a. not_dead (ledger.fates x).status a d) (λ b. two) (λ p b. follows p);
    group = group_sets w w' ledger ledger' x s s' found e same k;
  }
    where
      dead : IsDead ledger' x
      dead = status x ∙ d

-- states that differ
leader_is : (m n : ℕ) → Leader m ≡ Leader n → m ≡ n
leader_is m n e = cc

-- a retired row leads nothing
no_retired_leader : (m : ℕ) → Retired m ≡ Leader 2 → ⊥
no_retired_leader m e = cc

-- nor follows any
no_retired_follower : (m p : ℕ) → Retired m ≡ Follower p → ⊥
no_retired_follower m p e = cc

-- a row whose state no engaged row has is not marked
no_mark : (w : Rows) (ledger : Ledger) (x : ℕ) (s : State) → w.state x ≡ s → Marks w ledger x → IsLive ledger x → (IsEngaged s → ⊥) → w.marked x ≡ true → ⊥
no_mark w ledger x s found m a d b = d (subst IsEngaged found (m.engaged a b))

-- a row that is engaged was not marked, and so not frozen
from_quiet : (w w' : Rows) (ledger ledger' : Ledger) (x : ℕ) (s' : State) → w.state x ≡ Normal → SetsState w w' x s' → SameLedger ledger ledger' → Keeps w ledger x Normal s' → States w ledger → ((y : ℕ) → Marks w ledger y) → ((y : ℕ) → Pairs w ledger y) → IsLive ledger x → (Leads w w' ledger ledger' → IsLiveState w' ledger' x s') → IsEngaged s' → ((n : ℕ) → 1 ≤ n → s' ≡ Leader n → w.marked x ≡ true) → (s' ≡ Leader 2 → ⊥) → Kept w w' ledger ledger'
from_quiet w w' ledger ledger' x s' f e same k h m pairs a new engaged decided two = live_set w w' ledger ledger' x Normal s' f e same k h m pairs a new (λ b. engaged) decided (λ z. absurd (no_mark w ledger x Normal f (m x) a (λ b. b) ((m x).frozen a z).0)) (λ q. absurd (two q))

module _ (w w' : Rows) (ledger ledger' : Ledger) (c : Chain w ledger) (h : States w ledger) (m : (x : ℕ) → Marks w ledger x) (pairs : (x : ℕ) → Pairs w ledger x) where
  -- a rebalance begins at a row
  pub engaged : (x : ℕ) → Engages w w' ledger ledger' x → Kept w w' ledger ledger'
  engaged x e = from_quiet w w' ledger ledger' x (Leader 0) e.normal e.sets e.ledger (from_normal w ledger x (Leader 0) (λ r b f. tt)) h m pairs (held_live w ledger x Normal h e.held e.normal (λ f. f)) (λ l. tt) tt (λ n o q. absurd (no_zero n o q)) (λ q. no_zero 2 (omega arith) q)

  -- the number of rows that go is decided
  pub decided : (r n : ℕ) → Decides w w' ledger ledger' r n → Kept w w' ledger ledger'
  decided r n e = live_set w w' ledger ledger' r (Leader 0) (Leader n) e.undecided e.sets e.ledger (from_open w ledger r n e.some) h m pairs (held_live w ledger r (Leader 0) h e.held e.undecided (λ f. omega (arith, f))) (λ l. tt) (λ b. tt) (λ i o q. e.marked) (λ f. (e.marked, e.some)) (λ q. e.followed (leader_is n 2 q))

  -- the next row goes along
  pub followed : (r x : ℕ) → EngagesNext w w' ledger ledger' r x → Kept w w' ledger ledger'
  followed r x e = from_quiet w w' ledger ledger' x (Follower r) e.normal e.sets e.ledger (from_normal w ledger x (Follower r) (λ q b f. one w ledger r q x c a b e.claims.0.next f)) h m pairs (c.linked r x a e.claims.0.next) (λ l. l.leader r x (record { live = a; two = live_two w ledger r h a e.claims.1; link = e.claims.0 })) tt (λ n o q. absurd (no_leader_follower n r (sym q))) (λ q. no_leader_follower 2 r (sym q))
    where
      a : IsLive ledger r
      a = claimer_live w ledger r x e.held e.claims e.normal

  -- a row that was linked is normal
  pub normalised : (x s : ℕ) → Normalises w w' ledger ledger' x s → Kept w w' ledger ledger'
  normalised x s e = live_set w w' ledger ledger' x (row.Infant s) Normal e.infant e.sets e.ledger (from_infant w ledger x s) h m pairs a (λ l. tt) (λ b. absurd (none b)) (λ n o q. absurd (no_normal n q)) (λ f. absurd (none ((m x).frozen a f).0)) (λ q. absurd (no_normal 2 q))
    where
      a : IsLive ledger x
      a = held_live w ledger x (row.Infant s) h e.held e.infant (λ f. f)

      none : w.marked x ≡ true → ⊥
      none = no_mark w ledger x (row.Infant s) e.infant (m x) a (λ b. b)

  -- a dead row has its number
  pub retired : (x n : ℕ) → Retires w w' ledger ledger' x n → Kept w w' ledger ledger'
  retired x n e = dead_set w w' ledger ledger' x (w.state x) (Retired n) refl e.sets e.ledger (to_retired w ledger x n (w.state x) c e.dead) h m pairs e.dead (record {
    at = e.number.at;
    drawn = e.ledger.others.numbered n ∙ e.number.drawn;
    after = subst (λ (f : Fate). f.gone < e.number.at) (sym (e.ledger.fates x)) e.number.after;
  }) (λ q. no_retired_leader n q) (λ p q. no_retired_follower n p q)
