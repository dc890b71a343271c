-- An exchange of one row's state for another keeps what every seat knows of its group.
use Rattle.std.proofs.Common.{ℕ, ◌≡◌, ◌⊎◌, inl, inr, ◌≤◌, Option, Some, arith, sym, ◌∙◌, ap, subst}
use Rattle.std.proofs.lemmas.Bool.{cases_eq}
use Rattle.kw_rows.specs.Ledger.{Ledger, Fate, IsLive, IsDead}
use Rattle.kw_rows.specs.RowState as row
use Rattle.kw_rows.specs.RowState.{State, Normal, Leader, Follower, Retired, IsLed, IsTwo, IsLeader, IsClaimable, IsClaimed, IsFollowing, IsTaken}
use Rattle.kw_rows.specs.Rows.{Rows, Chain}
use Rattle.kw_rows.specs.States.{LinksOn}
use Rattle.kw_rows.specs.Group.{View, Elsewhere, Marking, Opened, Claiming, MarkingNext, Alone, Pair, Following, IsAlone, IsPair, IsClaimedNext, WentWith, Group}
use Rattle.kw_rows.specs.Events.{SameLedger, SetsState}
use Rattle.kw_rows.proofs.Statuses.{not_dead}
use Rattle.kw_rows.proofs.StatesKeep.{Leads}

-- what an exchange of one state for another must keep of what seats know
pub record Keeps (w : Rows) (ledger : Ledger) (x : ℕ) (s s' : State) : Type 0 where
  pub led : (n : ℕ) → IsLed n s → IsLed n s'
  pub two : IsTwo s → IsTwo s'
  pub claimable : (r : ℕ) → IsLive ledger r → w.next r ≡ Some x → IsClaimable r s → IsClaimable r s'
  pub claimed : (r : ℕ) → IsClaimed r s → IsClaimed r s'
  pub taken : (r : ℕ) → IsTaken r s → IsTaken r s'
  pub following : IsFollowing s → IsFollowing s'
  pub leader : (r : ℕ) → IsLive ledger r → w.next r ≡ Some x → IsLeader s → IsLeader s'
  pub same : (n : ℕ) → IsLive ledger x → 1 ≤ n → s ≡ Leader n → s' ≡ Leader n
  pub follower : (r : ℕ) → IsLive ledger r → w.next r ≡ Some x → s ≡ Follower r → s' ≡ Follower r

-- an exchange of the state of x for s', which keeps what seats know
module _ (w w' : Rows) (ledger ledger' : Ledger) (x : ℕ) (s s' : State) (found : w.state x ≡ s) (e : SetsState w w' x s') (same : SameLedger ledger ledger') (k : Keeps w ledger x s s') where
  -- no status changes
  status : (y : ℕ) → (ledger'.fates y).status ≡ (ledger.fates y).status
  status y = ap (λ (f : Fate). f.status) (same.fates y)

  -- nor when a row went
  gone : (y : ℕ) → (ledger'.fates y).gone ≡ (ledger.fates y).gone
  gone y = ap (λ (f : Fate). f.gone) (same.fates y)

  -- a family of states that the exchange keeps, at any row
  at : (F : State → Type 0) (y : ℕ) → (y ≡ x → F s → F s') → F (w.state y) → F (w'.state y)
  at F y f h = which (cases_eq y x)
    where
      which : (y ≡ x) ⊎ (y ≡ x → ⊥) → F (w'.state y)
      which (inl q) = subst (λ z. F (w'.state z)) (sym q) (subst F (sym e.state) (f q (subst F (ap w.state q ∙ found) h)))
      which (inr d) = subst F (sym (e.others y d)) h

  -- marked links are as they were
  link : (y : ℕ) (z : Option ℕ) → LinksOn w y z → LinksOn w' y z
  link y z l = record { marked = e.links.marked y ∙ l.marked; next = e.links.next y ∙ l.next }

  -- a row that is live was so
  live_was : (y : ℕ) → IsLive ledger' y → IsLive ledger y
  live_was y a = sym (status y) ∙ a

  -- and one that is dead
  dead_was : (y : ℕ) → IsDead ledger' y → IsDead ledger y
  dead_was y a = sym (status y) ∙ a

  -- a live leader of a decided group leads it still
  same_leader : (y n : ℕ) → IsLive ledger y → 1 ≤ n → w.state y ≡ Leader n → w'.state y ≡ Leader n
  same_leader y n a o = at (λ s. s ≡ Leader n) y (λ q. k.same n (subst (IsLive ledger) q a) o)

  -- a link to a row is one to x if the row is
  to : (r y : ℕ) → y ≡ x → w.next r ≡ Some y → w.next r ≡ Some x
  to r y q f = f ∙ ap Some q

  -- a row that goes alone does so still
  alone : (r : ℕ) (after : Option ℕ) → IsLive ledger r → w.next r ≡ after → IsAlone w r after → IsAlone w' r after
  alone r after a f h = record { either = which h.either }
    where
      which : (w.state r ≡ Leader 1) ⊎ (w.state r ≡ Leader 2) × ((c : ℕ) × (after ≡ Some c) × IsLeader (w.state c)) → (w'.state r ≡ Leader 1) ⊎ (w'.state r ≡ Leader 2) × ((c : ℕ) × (after ≡ Some c) × IsLeader (w'.state c))
      which (inl q) = inl (same_leader r 1 a (omega arith) q)
      which (inr q) = inr (same_leader r 2 a (omega arith) q.0, (q.1.0, q.1.1, at IsLeader q.1.0 (λ u. k.leader r a (to r q.1.0 u (f ∙ q.1.1))) q.1.2))

  -- two rows that go together do so still
  pair : (r c : ℕ) → IsLive ledger r → w.next r ≡ Some c → IsPair w r c → IsPair w' r c
  pair r c a f h = record { leads = same_leader r 2 a (omega arith) h.leads; follows = at (λ s. s ≡ Follower r) c (λ u. k.follower r a (to r c u f)) h.follows }

  -- the row after r is claimed still
  pub claimed_next : (r : ℕ) → IsClaimedNext w r → IsClaimedNext w' r
  claimed_next r h = (h.0, e.links.next r ∙ h.1, at (IsClaimed r) h.0 (λ q. k.claimed r) h.2)

  -- rows that went together did so still
  pub went_with : (r c : ℕ) → WentWith ledger r c → WentWith ledger' r c
  went_with r c d = (status c ∙ d.0, gone c ∙ d.1 ∙ sym (gone r))

  -- what a seat knows of its group stays
  pub group_sets : (v : View) → Group w ledger v → Group w' ledger' v
  group_sets Elsewhere g = tt
  group_sets (Marking r n) g = (at (IsLed n) r (λ q. k.led n) g.0, λ o a. claimed_next r (g.1 o (dead_was r a)))
  group_sets (Opened r after) g = (link r after g.0, at (IsLed 0) r (λ q. k.led 0) g.1)
  group_sets (Claiming r c) g = (link r (Some c) g.0, at IsTwo r (λ q. k.two) g.1, λ a. at (IsClaimable r) c (λ q. k.claimable r (live_was r a) (to r c q g.0.next)) (g.2 (live_was r a)), λ a. at (IsClaimed r) c (λ q. k.claimed r) (g.3 (dead_was r a)))
  group_sets (MarkingNext r c) g = (link r (Some c) g.0, at IsTwo r (λ q. k.two) g.1, at (IsTaken r) c (λ q. k.taken r) g.2, λ a. went_with r c (g.3 (dead_was r a)))
  group_sets (Alone r after) g = (link r after g.0, λ a. alone r after (live_was r a) g.0.next (g.1 (live_was r a)))
  group_sets (Pair r c after) g = (
    link r (Some c) g.0,
    link c after g.1,
    λ a. pair r c (live_was r a) g.0.next (g.2 (live_was r a)),
    λ a. went_with r c (g.3 (dead_was r a)),
  )
  group_sets (Following r) g = at IsFollowing r (λ q. k.following) g

  -- live leaders of two still lead
  pub leads_on : Leads w w' ledger ledger'
  leads_on = record {
    leader = λ p y h. record { live = status p ∙ h.live; two = same_leader p 2 h.live (omega arith) h.two; link = link p (Some y) h.link };
    numbered = λ m t h. same.others.numbered m ∙ h;
  }

-- a normal row leads nothing
pub no_normal : (n : ℕ) → Normal ≡ Leader n → ⊥
no_normal n e = cc

-- nor follows any
no_normal_follower : (n : ℕ) → Normal ≡ Follower n → ⊥
no_normal_follower n e = cc

-- a normal row may become what its live neighbour may find
pub from_normal : (w : Rows) (ledger : Ledger) (x : ℕ) (s' : State) → ((r : ℕ) → IsLive ledger r → w.next r ≡ Some x → IsClaimable r s') → Keeps w ledger x Normal s'
from_normal w ledger x s' f = record {
  led = λ n h. absurd h;
  two = λ h. absurd h;
  claimable = λ r a b h. f r a b;
  claimed = λ r h. absurd h;
  taken = λ r h. absurd h;
  following = λ h. absurd h;
  leader = λ r a b h. absurd h;
  same = λ n a o q. absurd (no_normal n q);
  follower = λ r a b q. absurd (no_normal_follower r q);
}

-- an infant leads nothing
no_infant : (s n : ℕ) → row.Infant s ≡ Leader n → ⊥
no_infant s n e = cc

-- nor follows any
no_infant_follower : (s n : ℕ) → row.Infant s ≡ Follower n → ⊥
no_infant_follower s n e = cc

-- an infant may become normal
pub from_infant : (w : Rows) (ledger : Ledger) (x s : ℕ) → Keeps w ledger x (row.Infant s) Normal
from_infant w ledger x s = record {
  led = λ n h. absurd h;
  two = λ h. absurd h;
  claimable = λ r a b h. tt;
  claimed = λ r h. absurd h;
  taken = λ r h. absurd h;
  following = λ h. absurd h;
  leader = λ r a b h. absurd h;
  same = λ n a o q. absurd (no_infant s n q);
  follower = λ r a b q. absurd (no_infant_follower s r q);
}

-- a group that is not decided has no number
pub no_zero : (n : ℕ) → 1 ≤ n → Leader 0 ≡ Leader n → ⊥
no_zero n o e = let x : 0 ≡ n = cc in omega (arith, x, o)

-- a leader follows no row
pub no_leader_follower : (m n : ℕ) → Leader m ≡ Follower n → ⊥
no_leader_follower m n e = cc

-- a group that is not decided may be decided
pub from_open : (w : Rows) (ledger : Ledger) (x n : ℕ) → 1 ≤ n → Keeps w ledger x (Leader 0) (Leader n)
from_open w ledger x n o = record {
  led = λ m h u. absurd (omega (arith, h u, u));
  two = λ h. absurd (omega (arith, h));
  claimable = λ r a b h. tt;
  claimed = λ r h. tt;
  taken = λ r h. absurd h;
  following = λ h. absurd h;
  leader = λ r a b h. tt;
  same = λ m a u q. absurd (no_zero m u q);
  follower = λ r a b q. absurd (no_leader_follower 0 r q);
}

-- a dead row may be retired
pub to_retired : (w : Rows) (ledger : Ledger) (x m : ℕ) (s : State) → Chain w ledger → IsDead ledger x → Keeps w ledger x s (Retired m)
to_retired w ledger x m s c d = record {
  led = λ n h. tt;
  two = λ h. tt;
  claimable = λ r a b h. not_dead (ledger.fates x).status (c.linked r x a b) d;
  claimed = λ r h. tt;
  taken = λ r h. tt;
  following = λ h. tt;
  leader = λ r a b h. not_dead (ledger.fates x).status (c.linked r x a b) d;
  same = λ n a o q. not_dead (ledger.fates x).status a d;
  follower = λ r a b q. not_dead (ledger.fates x).status (c.linked r x a b) d;
}
