-- A group is replaced: its rows are dead, the new ones are live, and what other seats know of their
-- groups still holds.
use Rattle.std.proofs.Common.{ℕ, ◌≡◌, ◌≢◌, ◌⊎◌, inl, inr, ◌<◌, true, false, Option, Some, None, List, arith, refl, sym, ◌∙◌, ap, subst}
use Rattle.std.proofs.lemmas.Bool.{cases_eq}
use Rattle.std.proofs.lemmas.Option.{same_Some}
use Rattle.kw_rows.specs.Ledger.{Ledger, Fate, Status, Free, Infant, Live, Dead, IsLive, IsDead, IsFresh, IsHeld}
use Rattle.kw_rows.specs.RowState as row
use Rattle.kw_rows.specs.RowState.{State, Normal, Leader, Follower, Retired, IsLed, IsTwo, IsLeader, IsEngaged, IsDecided, IsClaimable, IsClaimed, IsFollowing, IsTaken}
use Rattle.kw_rows.specs.Rows.{Rows, Chain, WasLinked}
use Rattle.kw_rows.specs.States.{LinksOn, HasLeader, IsLiveState, IsDeadState, HasState, States, Marks}
use Rattle.kw_rows.specs.Group.{View, Elsewhere, Marking, Opened, Claiming, MarkingNext, Alone, Pair, Following, IsAlone, IsPair, IsClaimedNext, WentWith, Group, Named, Pairs}
use Rattle.kw_rows.specs.Events.{Holds, IsIn}
use Rattle.kw_rows.proofs.Lists.{in_or_not, link_or_not}
use Rattle.kw_rows.proofs.Statuses.{not_dead, not_infant, dead_infant}
use Rattle.kw_rows.proofs.StatesKeep.{marks_same}
use Rattle.kw_rows.proofs.Sets.{live_two}

-- the row is one of the group
abbrev pub IsOf : ℕ → Option ℕ → ℕ → Type 0
IsOf r None x = x ≡ r
IsOf r (Some c) x = (x ≡ r) ⊎ (x ≡ c)

-- the link is the head's, or a live row's, unmarked, to r
abbrev pub IsUnmarked : Rows → Ledger → Option ℕ → ℕ → Type 0
IsUnmarked w ledger None r = Unit {0}
IsUnmarked w ledger (Some p) r = IsLive ledger p × (w.marked p ≡ false) × (w.next p ≡ Some r)

-- what states and groups see of a group that is replaced
pub record Wins (w w' : Rows) (ledger ledger' : Ledger) (now : ℕ) (p : Option ℕ) (r : ℕ) (c after : Option ℕ) (new : List ℕ) : Type 0 where
  pub live : IsLive ledger r
  pub holds : Holds w ledger r c after
  pub link : IsUnmarked w ledger p r
  pub full : (x : ℕ) → IsOf r c x → w.frozen x ≡ true
  pub infants : (x : ℕ) → IsIn new x → (ledger.fates x).status ≡ Infant
  pub unmarked : (x : ℕ) → IsIn new x → w.marked x ≡ false
  pub unfrozen : (x : ℕ) → IsIn new x → w.frozen x ≡ false
  pub state : (y : ℕ) → w'.state y ≡ w.state y
  pub marked : (y : ℕ) → w'.marked y ≡ w.marked y
  pub frozen : (y : ℕ) → w'.frozen y ≡ w.frozen y
  pub next : (y : ℕ) → Some y ≢ p → w'.next y ≡ w.next y
  pub leads_on : (y : ℕ) → Some y ≡ p → (k : ℕ) × (w'.next y ≡ Some k)
  pub visits : (t : ℕ) → ledger'.visits t ≡ ledger.visits t
  pub numbered : (m : ℕ) → ledger'.numbered m ≡ ledger.numbered m
  pub went : (x : ℕ) → IsOf r c x → IsDead ledger' x × ((ledger'.fates x).gone ≡ now)
  pub come : (x : ℕ) → IsIn new x → IsLive ledger' x
  pub owner : (x : ℕ) → IsIn new x → (ledger'.fates x).owner ≡ (ledger.fates x).owner
  pub fates : (x : ℕ) → (IsOf r c x → ⊥) → (IsIn new x → ⊥) → ledger'.fates x ≡ ledger.fates x

-- whether a row is one of the group
of_or_not : (r : ℕ) (c : Option ℕ) (x : ℕ) → IsOf r c x ⊎ (IsOf r c x → ⊥)
of_or_not r None x = cases_eq x r
of_or_not r (Some c) x = which (cases_eq x r) (cases_eq x c)
  where
    neither : (x ≡ r → ⊥) → (x ≡ c → ⊥) → IsOf r (Some c) x → ⊥
    neither d f (inl e) = d e
    neither d f (inr e) = f e

    which : (x ≡ r) ⊎ (x ≡ r → ⊥) → (x ≡ c) ⊎ (x ≡ c → ⊥) → IsOf r (Some c) x ⊎ (IsOf r (Some c) x → ⊥)
    which (inl e) g = inl (inl e)
    which (inr d) (inl e) = inl (inr e)
    which (inr d) (inr f) = inr (neither d f)

-- two leaders of so many rows lead as many
leader_is : (m n : ℕ) → Leader m ≡ Leader n → m ≡ n
leader_is m n e = cc

-- a link is not both marked and unmarked
no_marks : {A : Type 0} (w : Rows) (x : ℕ) → w.marked x ≡ false → w.marked x ≡ true → A
no_marks w x e f = let x : true ≡ false = sym f ∙ e in absurd (cc)

-- a row is not both frozen and not
no_frozen : {A : Type 0} (w : Rows) (x : ℕ) → w.frozen x ≡ false → w.frozen x ≡ true → A
no_frozen w x e f = let x : true ≡ false = sym f ∙ e in absurd (cc)

-- a leader follows no row
no_leader_follower : (m n : ℕ) → Leader m ≡ Follower n → ⊥
no_leader_follower m n e = cc

-- a follower follows one row
follower_is : (m n : ℕ) → Follower m ≡ Follower n → m ≡ n
follower_is m n e = cc

-- an infant leads nothing
no_leader_infant : {A : Type 0} (s m : ℕ) → row.Infant s ≡ Leader m → A
no_leader_infant s m q = absurd (cc)

module _ (w w' : Rows) (ledger ledger' : Ledger) (now : ℕ) (p : Option ℕ) (r : ℕ) (c after : Option ℕ) (new : List ℕ) (chain : Chain w ledger) (states : States w ledger) (marks : (x : ℕ) → Marks w ledger x) (pairs : (x : ℕ) → Pairs w ledger x) (e : Wins w w' ledger ledger' now p r c after new) where
  -- a row that was linked and is none of the group has the fate that it had
  stayed : (x : ℕ) → (IsOf r c x → ⊥) → WasLinked ledger x → ((ledger'.fates x).status ≡ (ledger.fates x).status) × ((ledger'.fates x).gone ≡ (ledger.fates x).gone)
  stayed x d h = let f = e.fates x d (λ i. old (e.infants x i) h) in (ap (λ (k : Fate). k.status) f, ap (λ (k : Fate). k.gone) f)
    where
      old : (ledger.fates x).status ≡ Infant → WasLinked ledger x → ⊥
      old f (inl a) = not_infant (ledger.fates x).status a f
      old f (inr a) = dead_infant (ledger.fates x).status a f

  -- What the winner's group says.

  -- its rows are live, r leads, and r's link is marked
  r_group : (d : Option ℕ) → Holds w ledger r d after → LinksOn w r (w.next r) × ((w.state r ≡ Leader 1) ⊎ (w.state r ≡ Leader 2))
  r_group None h = (record { marked = h.0.marked; next = refl }, which (h.1 e.live).either)
    where
      which : (w.state r ≡ Leader 1) ⊎ (w.state r ≡ Leader 2) × ((k : ℕ) × (after ≡ Some k) × IsLeader (w.state k)) → (w.state r ≡ Leader 1) ⊎ (w.state r ≡ Leader 2)
      which (inl q) = inl q
      which (inr q) = inr q.0
  r_group (Some k) h = (record { marked = h.0.marked; next = refl }, inr (h.2 e.live).leads)

  -- a row of the group is live, and is r, or follows r
  of_group : (d : Option ℕ) → Holds w ledger r d after → (x : ℕ) → IsOf r d x → IsLive ledger x × (w.marked x ≡ true) × ((x ≡ r) ⊎ (w.next r ≡ Some x) × (w.state x ≡ Follower r))
  of_group None h x q = (subst (IsLive ledger) (sym q) e.live, subst (λ y. w.marked y ≡ true) (sym q) h.0.marked, inl q)
  of_group (Some k) h x (inl q) = (subst (IsLive ledger) (sym q) e.live, subst (λ y. w.marked y ≡ true) (sym q) h.0.marked, inl q)
  of_group (Some k) h x (inr q) =
      (subst (IsLive ledger) (sym q) (chain.linked r k e.live h.0.next), subst (λ y. w.marked y ≡ true) (sym q) h.1.marked, inr (h.0.next ∙ ap Some (sym q), ap w.state q ∙ (h.2 e.live).follows))

  -- the row after r is a leader, or follows r and goes along
  next_group : (d : Option ℕ) → Holds w ledger r d after → (x : ℕ) → w.next r ≡ Some x → w.state r ≡ Leader 2 → IsLeader (w.state x) ⊎ (w.state x ≡ Follower r) × IsOf r d x
  next_group None h x f two = which (h.1 e.live).either
    where
      which : (w.state r ≡ Leader 1) ⊎ (w.state r ≡ Leader 2) × ((k : ℕ) × (after ≡ Some k) × IsLeader (w.state k)) → IsLeader (w.state x) ⊎ (w.state x ≡ Follower r) × IsOf r None x
      which (inl q) = let u : 1 ≡ 2 = leader_is 1 2 (sym q ∙ two) in absurd (omega (arith, u))
      which (inr q) = inl (subst (λ y. IsLeader (w.state y)) (same_Some q.1.0 x (sym q.1.1 ∙ sym h.0.next ∙ f)) q.1.2)
  next_group (Some k) h x f two = let q : k ≡ x = same_Some k x (sym h.0.next ∙ f) in inr (ap w.state (sym q) ∙ (h.2 e.live).follows, inr (sym q))

  -- a marked link is not the one that was exchanged
  other : (x : ℕ) → w.marked x ≡ true → Some x ≢ p
  other x m q = which p e.link q
    where
      which : (d : Option ℕ) → IsUnmarked w ledger d r → Some x ≡ d → ⊥
      which None h f = let y : Some x ≡ None = f in cc
      which (Some y) h f = no_marks w x (ap w.marked (same_Some x y f) ∙ h.1) m

  -- marked links are as they were
  link : (x : ℕ) (y : Option ℕ) → LinksOn w x y → LinksOn w' x y
  link x y h = record { marked = e.marked x ∙ h.marked; next = e.next x (other x h.marked) ∙ h.next }

  -- what a state says it says still
  same : (F : State → Type 0) (y : ℕ) → F (w.state y) → F (w'.state y)
  same F y k = subst F (sym (e.state y)) k

  -- Which rows are what.

  -- a live row that was linked before was live, and is none of the group
  live_was : (x : ℕ) → WasLinked ledger x → IsLive ledger' x → IsLive ledger x × (IsOf r c x → ⊥)
  live_was x h a = which (of_or_not r c x)
    where
      which : IsOf r c x ⊎ (IsOf r c x → ⊥) → IsLive ledger x × (IsOf r c x → ⊥)
      which (inl i) = not_dead (ledger'.fates x).status a (e.went x i).0
      which (inr d) = (sym (stayed x d h).0 ∙ a, d)

  -- a live row that is none of the group is so still
  live_on : (x : ℕ) → IsLive ledger x → (IsOf r c x → ⊥) → IsLive ledger' x
  live_on x a d = (stayed x d (inl a)).0 ∙ a

  -- a dead row was so, or is one of the group
  dead_was : (x : ℕ) → WasLinked ledger x → IsDead ledger' x → IsDead ledger x ⊎ IsOf r c x
  dead_was x h a = which (of_or_not r c x)
    where
      which : IsOf r c x ⊎ (IsOf r c x → ⊥) → IsDead ledger x ⊎ IsOf r c x
      which (inl i) = inr i
      which (inr d) = inl (sym (stayed x d h).0 ∙ a)

  -- the rows of the group were live
  of_live : (x : ℕ) → IsOf r c x → IsLive ledger x
  of_live x i = (of_group c e.holds x i).0

  -- a dead row is none of the group, and is as it was
  dead_on : (x : ℕ) → IsDead ledger x → (IsOf r c x → ⊥) × IsDead ledger' x × ((ledger'.fates x).gone ≡ (ledger.fates x).gone)
  dead_on x a =
      let d = λ (i : IsOf r c x). not_dead {A = ⊥} (ledger.fates x).status (of_live x i) a in
      (d, (stayed x d (inr a)).0 ∙ a, (stayed x d (inr a)).1)

  -- the leader of a group that a seat claims for: if it went now, it is r
  leads_is : (x : ℕ) → IsOf r c x → IsTwo (w.state x) → x ≡ r
  leads_is x i two = which (of_group c e.holds x i).2
    where
      which : (x ≡ r) ⊎ (w.next r ≡ Some x) × (w.state x ≡ Follower r) → x ≡ r
      which (inl q) = q
      which (inr q) = absurd (subst IsTwo q.1 two)

  -- Other seats.

  -- if the leader of two went now, the row after it is claimed
  claimed_went : (q k : ℕ) → LinksOn w q (Some k) → IsTwo (w.state q) → IsOf r c q → IsClaimed q (w.state k)
  claimed_went q k h two i = subst (λ y. IsClaimed y (w.state k)) (sym eq) (which (next_group c e.holds k (ap w.next (sym eq) ∙ h.next) (live_two w ledger r states e.live (subst (λ y. IsTwo (w.state y)) eq two))))
    where
      eq : q ≡ r
      eq = leads_is q i two

      leader_claimed : (s : State) → IsLeader s → IsClaimed r s
      leader_claimed (Leader m) u = tt
      leader_claimed row.Free u = absurd u
      leader_claimed (row.Infant m) u = absurd u
      leader_claimed Normal u = absurd u
      leader_claimed (Follower m) u = absurd u
      leader_claimed (Retired m) u = absurd u

      which : IsLeader (w.state k) ⊎ (w.state k ≡ Follower r) × IsOf r c k → IsClaimed r (w.state k)
      which (inl u) = leader_claimed (w.state k) u
      which (inr u) = subst (IsClaimed r) (sym u.0) refl

  -- a row that goes alone does so still
  alone : (q : ℕ) (z : Option ℕ) → IsAlone w q z → IsAlone w' q z
  alone q z h = record { either = which h.either }
    where
      which : (w.state q ≡ Leader 1) ⊎ (w.state q ≡ Leader 2) × ((k : ℕ) × (z ≡ Some k) × IsLeader (w.state k)) → (w'.state q ≡ Leader 1) ⊎ (w'.state q ≡ Leader 2) × ((k : ℕ) × (z ≡ Some k) × IsLeader (w'.state k))
      which (inl u) = inl (e.state q ∙ u)
      which (inr u) = inr (e.state q ∙ u.0, (u.1.0, u.1.1, same IsLeader u.1.0 u.1.2))

  -- a pair of which the first row went is the winner's
  pair_went : (q k : ℕ) → LinksOn w q (Some k) → (IsLive ledger q → IsPair w q k) → IsOf r c q → IsDead ledger' k × ((ledger'.fates k).gone ≡ (ledger'.fates q).gone)
  pair_went q k h f i = which (next_group c e.holds k (ap w.next (sym eq) ∙ h.next) (ap w.state (sym eq) ∙ both.leads))
    where
      both : IsPair w q k
      both = f (of_live q i)

      eq : q ≡ r
      eq = leads_is q i (subst IsTwo (sym both.leads) refl)

      no_leader : IsLeader (w.state k) → ⊥
      no_leader u = subst IsLeader both.follows u

      which : IsLeader (w.state k) ⊎ (w.state k ≡ Follower r) × IsOf r c k → IsDead ledger' k × ((ledger'.fates k).gone ≡ (ledger'.fates q).gone)
      which (inl u) = absurd (no_leader u)
      which (inr u) = ((e.went k u.1).0, (e.went k u.1).1 ∙ sym (e.went q i).1)

  -- a row that a seat may name was linked
  linked : (t x : ℕ) → IsFresh ledger t x → WasLinked ledger x
  linked t x (inl a) = inl a
  linked t x (inr h) = inr h.dead

  -- a row that leads a decided group of two leads two
  led_two : (m : ℕ) (s : State) → m ≡ 2 → IsLed m s → IsTwo s
  led_two m (Leader n) o h = let q : n ≡ m = h (omega (arith, o)) in q ∙ o
  led_two m (Retired n) o h = tt
  led_two m row.Free o h = absurd h
  led_two m (row.Infant n) o h = absurd h
  led_two m Normal o h = absurd h
  led_two m (Follower n) o h = absurd h

  -- the row after a dead one is claimed still
  claimed_next : (q : ℕ) → IsDead ledger q → IsClaimedNext w q → IsClaimedNext w' q
  claimed_next q d h = (h.0, e.next q (other q ((marks q).buried d).0) ∙ h.1, same (IsClaimed q) h.0 h.2)

  -- the row after a leader of two that went now is claimed
  went_claimed : (q : ℕ) → IsOf r c q → IsTwo (w.state q) → IsClaimedNext w' q
  went_claimed q i two = which ((pairs r).next e.live (live_two w ledger r states e.live (subst (λ y. IsTwo (w.state y)) eq two)))
    where
      eq : q ≡ r
      eq = leads_is q i two

      which : (k : ℕ) × (w.next r ≡ Some k) → IsClaimedNext w' q
      which k =
          let l : LinksOn w q (Some k.0) = record { marked = subst (λ y. w.marked y ≡ true) (sym eq) (r_group c e.holds).0.marked; next = ap w.next eq ∙ k.1 } in
          (k.0, e.next q (other q l.marked) ∙ l.next, same (IsClaimed q) k.0 (claimed_went q k.0 l two i))

  -- rows that went together did so still
  went_with : (q k : ℕ) → IsDead ledger q → WentWith ledger q k → WentWith ledger' q k
  went_with q k d t = let x = dead_on k t.0 in (x.1, x.2 ∙ t.1 ∙ sym (dead_on q d).2)

  -- a row that goes along with one that went now went with it
  taken_went : (q k : ℕ) → LinksOn w q (Some k) → IsTwo (w.state q) → IsTaken q (w.state k) → IsOf r c q → WentWith ledger' q k
  taken_went q k h two f i = which (next_group c e.holds k (ap w.next (sym eq) ∙ h.next) (live_two w ledger r states e.live (subst (λ y. IsTwo (w.state y)) eq two)))
    where
      eq : q ≡ r
      eq = leads_is q i two

      no_leader : (s : State) → IsTaken q s → IsLeader s → ⊥
      no_leader (Leader m) t u = t
      no_leader row.Free t u = t
      no_leader (row.Infant m) t u = t
      no_leader Normal t u = t
      no_leader (Follower m) t u = u
      no_leader (Retired m) t u = u

      which : IsLeader (w.state k) ⊎ (w.state k ≡ Follower r) × IsOf r c k → WentWith ledger' q k
      which (inl u) = absurd (no_leader (w.state k) f u)
      which (inr u) = ((e.went k u.1).0, (e.went k u.1).1 ∙ sym (e.went q i).1)

  -- what other seats know of their groups stays
  pub group_won : (t : ℕ) (v : View) → Named ledger t v → Group w ledger v → Group w' ledger' v
  group_won t Elsewhere i h = tt
  group_won t (Marking q m) i h = (same (IsLed m) q h.0, λ o a. which o (dead_was q (linked t q i) a))
    where
      which : m ≡ 2 → IsDead ledger q ⊎ IsOf r c q → IsClaimedNext w' q
      which o (inl d) = claimed_next q d (h.1 o d)
      which o (inr u) = went_claimed q u (subst IsTwo refl (led_two m (w.state q) o h.0))
  group_won t (Opened q after) i h = (link q after h.0, same (IsLed 0) q h.1)
  group_won t (Claiming q k) i h =
      (link q (Some k) h.0, same IsTwo q h.1, λ a. same (IsClaimable q) k (h.2 (live_was q (linked t q i.0) a).0), λ a. same (IsClaimed q) k (which (dead_was q (linked t q i.0) a)))
    where
      which : IsDead ledger q ⊎ IsOf r c q → IsClaimed q (w.state k)
      which (inl d) = h.3 d
      which (inr o) = claimed_went q k h.0 h.1 o
  group_won t (MarkingNext q k) i h = (link q (Some k) h.0, same IsTwo q h.1, same (IsTaken q) k h.2, λ a. which (dead_was q (linked t q i.0) a))
    where
      which : IsDead ledger q ⊎ IsOf r c q → WentWith ledger' q k
      which (inl d) = went_with q k d (h.3 d)
      which (inr o) = taken_went q k h.0 h.1 h.2 o
  group_won t (Alone q z) i h = (link q z h.0, λ a. alone q z (h.1 (live_was q (linked t q i) a).0))
  group_won t (Pair q k z) i h =
      (link q (Some k) h.0, link k z h.1, λ a. let b = h.2 (live_was q (linked t q i.0) a).0 in record { leads = e.state q ∙ b.leads; follows = e.state k ∙ b.follows }, λ a. which (dead_was q (linked t q i.0) a))
    where
      which : IsDead ledger q ⊎ IsOf r c q → WentWith ledger' q k
      which (inl d) = went_with q k d (h.3 d)
      which (inr o) = pair_went q k h.0 h.2 o
  group_won t (Following q) i h = same IsFollowing q h

  -- Rows.

  -- a follower that stays has its leader still
  leads_on : (x q : ℕ) → IsLive ledger x → (IsOf r c x → ⊥) → w.state x ≡ Follower q → HasLeader w ledger x q → HasLeader w' ledger' x q
  leads_on x q a d s h = record { live = live_on q h.live (λ i. gone i); two = e.state q ∙ h.two; link = link q (Some x) h.link }
    where
      gone : IsOf r c q → ⊥
      gone i = which (next_group c e.holds x (ap w.next (sym eq) ∙ h.link.next) (ap w.state (sym eq) ∙ h.two))
        where
          eq : q ≡ r
          eq = leads_is q i (subst IsTwo (sym h.two) refl)

          which : IsLeader (w.state x) ⊎ (w.state x ≡ Follower r) × IsOf r c x → ⊥
          which (inl u) = subst IsLeader s u
          which (inr u) = d u.1

  -- a live row that is none of the group has the state of one
  live_on_state : (x : ℕ) (s : State) → w.state x ≡ s → IsLive ledger x → (IsOf r c x → ⊥) → ledger'.fates x ≡ ledger.fates x → IsLiveState w ledger x s → IsLiveState w' ledger' x s
  live_on_state x (row.Infant m) q a d f h = h ∙ ap (λ (k : Fate). k.owner) (sym f)
  live_on_state x Normal q a d f h = tt
  live_on_state x (Leader m) q a d f h = tt
  live_on_state x (Follower k) q a d f h = leads_on x k a d q h
  live_on_state x row.Free q a d f h = absurd h
  live_on_state x (Retired m) q a d f h = absurd h

  -- so has a dead row
  dead_on_state : (x : ℕ) (s : State) → ledger'.fates x ≡ ledger.fates x → IsDeadState ledger x s → IsDeadState ledger' x s
  dead_on_state x (Leader m) f h = h
  dead_on_state x (Follower q) f h = tt
  dead_on_state x (Retired m) f h = record { at = h.at; drawn = e.numbered m ∙ h.drawn; after = subst (λ (k : Fate). k.gone < h.at) (sym f) h.after }
  dead_on_state x (row.Infant m) f h = absurd h
  dead_on_state x Normal f h = absurd h
  dead_on_state x row.Free f h = absurd h

  -- a row that is no row of the group and no new one
  other_state : (x : ℕ) → (IsOf r c x → ⊥) → ledger'.fates x ≡ ledger.fates x → (s : Status) → (ledger.fates x).status ≡ s → HasState w ledger x s → HasState w' ledger' x s
  other_state x d f Free q h = e.state x ∙ h
  other_state x d f Infant q h = e.state x ∙ h ∙ ap (λ (k : Fate). row.Infant k.owner) (sym f)
  other_state x d f Live q h = subst (IsLiveState w' ledger' x) (sym (e.state x)) (live_on_state x (w.state x) refl q d f h)
  other_state x d f Dead q h = subst (IsDeadState ledger' x) (sym (e.state x)) (dead_on_state x (w.state x) f h)

  -- a row of the group
  went_state : (x : ℕ) → IsOf r c x → IsDeadState ledger' x (w.state x)
  went_state x i = which (of_group c e.holds x i).2 (r_group c e.holds).1
    where
      which : (x ≡ r) ⊎ (w.next r ≡ Some x) × (w.state x ≡ Follower r) → (w.state r ≡ Leader 1) ⊎ (w.state r ≡ Leader 2) → IsDeadState ledger' x (w.state x)
      which (inl q) (inl u) = subst (IsDeadState ledger' x) (sym (ap w.state q ∙ u)) (omega arith)
      which (inl q) (inr u) = subst (IsDeadState ledger' x) (sym (ap w.state q ∙ u)) (omega arith)
      which (inr q) u = subst (IsDeadState ledger' x) (sym q.1) tt

  -- a new row
  came_state : (x : ℕ) → IsIn new x → w'.state x ≡ row.Infant (ledger'.fates x).owner
  came_state x i = e.state x ∙ subst (HasState w ledger x) (e.infants x i) (states x) ∙ ap row.Infant (sym (e.owner x i))

  -- all states go with fates
  pub states_won : States w' ledger'
  states_won x = which (of_or_not r c x) (in_or_not new x)
    where
      which : IsOf r c x ⊎ (IsOf r c x → ⊥) → IsIn new x ⊎ (IsIn new x → ⊥) → HasState w' ledger' x (ledger'.fates x).status
      which (inl i) f = subst (HasState w' ledger' x) (sym (e.went x i).0) (subst (IsDeadState ledger' x) (sym (e.state x)) (went_state x i))
      which (inr d) (inl i) = subst (HasState w' ledger' x) (sym (e.come x i)) (subst (IsLiveState w' ledger' x) (sym (came_state x i)) refl)
      which (inr d) (inr f) = let k = e.fates x d f in subst (HasState w' ledger' x) (ap (λ (t : Fate). t.status) (sym k)) (other_state x d k (ledger.fates x).status refl (states x))

  -- and marks
  pub marks_won : (x : ℕ) → Marks w' ledger' x
  marks_won x = which (of_or_not r c x) (in_or_not new x)
    where
      -- of a row of the group
      went_marks : IsOf r c x → Marks w' ledger' x
      went_marks i = let d = (e.went x i).0 in record {
        engaged = λ a m. not_dead (ledger'.fates x).status a d;
        decided = λ m a o q. not_dead (ledger'.fates x).status a d;
        frozen = λ a m. not_dead (ledger'.fates x).status a d;
        buried = λ a. (e.marked x ∙ (of_group c e.holds x i).1, e.frozen x ∙ e.full x i);
      }

      -- of a new row
      came_marks : IsIn new x → Marks w' ledger' x
      came_marks i = record {
        engaged = λ a m. no_marks w x (e.unmarked x i) (sym (e.marked x) ∙ m);
        decided = λ m a o q. no_leader_infant (ledger'.fates x).owner m (sym (came_state x i) ∙ q);
        frozen = λ a f. no_frozen w x (e.unfrozen x i) (sym (e.frozen x) ∙ f);
        buried = λ a. not_dead (ledger'.fates x).status (e.come x i) a;
      }

      which : IsOf r c x ⊎ (IsOf r c x → ⊥) → IsIn new x ⊎ (IsIn new x → ⊥) → Marks w' ledger' x
      which (inl i) f = went_marks i
      which (inr d) (inl i) = came_marks i
      which (inr d) (inr f) = marks_same w w' ledger ledger' x (record { state = e.state x; fate = e.fates x d f }) (record { marked = e.marked x; frozen = e.frozen x }) (marks x)

  -- Pairs of rows.

  -- a link that led on leads on
  next_on : (x : ℕ) → (k : ℕ) × (w.next x ≡ Some k) → (k : ℕ) × (w'.next x ≡ Some k)
  next_on x h = which (link_or_not p x)
    where
      which : (Some x ≡ p) ⊎ (Some x ≡ p → ⊥) → (k : ℕ) × (w'.next x ≡ Some k)
      which (inl q) = e.leads_on x q
      which (inr d) = (h.0, e.next x d ∙ h.1)

  -- a dead row that is none of the group was held before
  held_was : (x : ℕ) → (IsOf r c x → ⊥) → IsDead ledger x → IsHeld ledger' x → IsHeld ledger x
  held_was x d a (inl b) = not_dead (ledger.fates x).status (sym (stayed x d (inr a)).0 ∙ b) a
  held_was x d a (inr t) = inr (t.0, record { since = t.1.since; dead = a; visits = sym (e.visits t.0) ∙ t.1.visits; before = subst (λ g. t.1.since < g) (stayed x d (inr a)).1 t.1.before })

  -- a follower of the group went with its leader
  went_together : (x q : ℕ) → IsOf r c x → w.state x ≡ Follower q → WentWith ledger' x q
  went_together x q i f = which (of_group c e.holds x i).2 (r_group c e.holds).1
    where
      head : IsOf r c r
      head = is_head c
        where
          is_head : (d : Option ℕ) → IsOf r d r
          is_head None = refl
          is_head (Some k) = inl refl

      which : (x ≡ r) ⊎ (w.next r ≡ Some x) × (w.state x ≡ Follower r) → (w.state r ≡ Leader 1) ⊎ (w.state r ≡ Leader 2) → WentWith ledger' x q
      which (inl y) (inl u) = absurd (no_leader_follower 1 q (sym u ∙ ap w.state (sym y) ∙ f))
      which (inl y) (inr u) = absurd (no_leader_follower 2 q (sym u ∙ ap w.state (sym y) ∙ f))
      which (inr y) u = subst (WentWith ledger' x) (follower_is r q (sym y.1 ∙ f)) ((e.went r head).0, (e.went r head).1 ∙ sym (e.went x i).1)

  -- and what pairs of rows say
  pub pairs_won : (x : ℕ) → Pairs w' ledger' x
  pairs_won x = which (of_or_not r c x) (in_or_not new x)
    where
      two : w'.state x ≡ Leader 2 → IsTwo (w.state x)
      two q = subst IsTwo (sym (sym (e.state x) ∙ q)) refl

      went_pairs : IsOf r c x → Pairs w' ledger' x
      went_pairs i = record {
        next = λ a q. not_dead (ledger'.fates x).status a (e.went x i).0;
        claimed = λ a d q. went_claimed x i (two q);
        together = λ y a d q. went_together x y i (sym (e.state x) ∙ q);
      }

      came_pairs : IsIn new x → Pairs w' ledger' x
      came_pairs i = record {
        next = λ a q. no_leader_infant (ledger'.fates x).owner 2 (sym (came_state x i) ∙ q);
        claimed = λ a d q. not_dead (ledger'.fates x).status (e.come x i) d;
        together = λ y a d q. not_dead (ledger'.fates x).status (e.come x i) d;
      }

      other_pairs : (IsOf r c x → ⊥) → (IsIn new x → ⊥) → Pairs w' ledger' x
      other_pairs d f = record {
        next = λ a q. next_on x ((pairs x).next (status ∙ a) (sym (e.state x) ∙ q));
        claimed = λ a b q. let o = status ∙ b in claimed_next x o ((pairs x).claimed (held_was x d o a) o (sym (e.state x) ∙ q));
        together = λ y a b q. let o = status ∙ b in went_with x y o ((pairs x).together y (held_was x d o a) o (sym (e.state x) ∙ q));
      }
        where
          status : (ledger.fates x).status ≡ (ledger'.fates x).status
          status = ap (λ (k : Fate). k.status) (sym (e.fates x d f))

      which : IsOf r c x ⊎ (IsOf r c x → ⊥) → IsIn new x ⊎ (IsIn new x → ⊥) → Pairs w' ledger' x
      which (inl i) f = went_pairs i
      which (inr d) (inl i) = came_pairs i
      which (inr d) (inr f) = other_pairs d f
