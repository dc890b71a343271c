-- What a seat comes to know of its group, from what it knew and what it finds.
use Rattle.std.proofs.Common.{ℕ, ◌≡◌, ◌≢◌, ◌⊎◌, inl, inr, ◌<◌, ◌≤◌, true, Option, Some, None, ◌∷◌, arith, refl, sym, ◌∙◌, ap, subst}
use Rattle.kw_rows.specs.Ledger.{Ledger, IsLive, IsDead, IsFresh, IsHeld}
use Rattle.kw_rows.specs.RowState as row
use Rattle.kw_rows.specs.RowState.{State, Normal, Leader, Follower, Retired, IsLed, IsTwo, IsLeader, IsEngaged, IsDecided, IsClaimable, IsClaimed, IsFollowing, IsTaken}
use Rattle.kw_rows.specs.Rows.{Rows}
use Rattle.kw_rows.specs.States.{HasLeader, LinksOn, IsLiveState}
use Rattle.kw_rows.specs.Group.{Marking, Opened, Claiming, MarkingNext, Alone, Pair, Following, WentWith, Group}
use Rattle.kw_rows.specs.Events.{Holds, IsIn, rest_of}
use Rattle.kw_rows.specs.Structure.{Structure}
use Rattle.kw_rows.proofs.Statuses.{not_dead}
use Rattle.kw_rows.proofs.Sets.{live_state, live_two, one}

-- a link that is marked leads where it leads
here : (w : Rows) (x : ℕ) → w.marked x ≡ true → LinksOn w x (w.next x)
here w x m = record { marked = m; next = refl }

-- of a row whose link was to be marked, the seat knows where it leads
pub opens : (w : Rows) (ledger : Ledger) (r : ℕ) → Group w ledger (Marking r 0) → w.marked r ≡ true → Group w ledger (Opened r (w.next r))
opens w ledger r h m = (here w r m, h.0)

module _ (w : Rows) (ledger : Ledger) (now : ℕ) (s : Structure w ledger now) where
  -- a live row has the state of one
  state_of : (x : ℕ) → IsLive ledger x → IsLiveState w ledger x (w.state x)
  state_of x a = live_state w ledger x s.states a

  -- a live row that leads, or has led, a decided group leads it
  led_live : (x n : ℕ) (t : State) → 1 ≤ n → IsLed n t → IsLiveState w ledger x t → t ≡ Leader n
  led_live x n (Leader m) o h l = ap Leader (h o)
  led_live x n (Retired m) o h l = absurd l
  led_live x n row.Free o h l = absurd h
  led_live x n (row.Infant m) o h l = absurd h
  led_live x n Normal o h l = absurd h
  led_live x n (Follower m) o h l = absurd h

  -- and is engaged
  led_engaged : (x n : ℕ) (t : State) → IsLed n t → IsLiveState w ledger x t → IsEngaged t
  led_engaged x n (Leader m) h l = tt
  led_engaged x n (Retired m) h l = absurd l
  led_engaged x n row.Free h l = absurd h
  led_engaged x n (row.Infant m) h l = absurd h
  led_engaged x n Normal h l = absurd h
  led_engaged x n (Follower m) h l = absurd h

  -- a live row that goes along with r, or has gone, follows it
  taken_live : (r x : ℕ) (t : State) → IsTaken r t → IsLiveState w ledger x t → t ≡ Follower r
  taken_live r x (Follower p) h l = ap Follower h
  taken_live r x (Retired m) h l = absurd l
  taken_live r x (Leader m) h l = absurd h
  taken_live r x row.Free h l = absurd h
  taken_live r x (row.Infant m) h l = absurd h
  taken_live r x Normal h l = absurd h

  -- the row after a live one may be taken along, or says why not
  claimable : (r x : ℕ) (t : State) → IsLive ledger r → w.next r ≡ Some x → IsLiveState w ledger x t → IsClaimable r t
  claimable r x (row.Infant m) a f l = tt
  claimable r x Normal a f l = tt
  claimable r x (Leader m) a f l = tt
  claimable r x (Follower p) a f l = one w ledger p r x s.chain l.live a l.link.next f
  claimable r x row.Free a f l = absurd l
  claimable r x (Retired m) a f l = absurd l

  -- a row that is found a leader
  pub leads : (r n : ℕ) → IsHeld ledger r → w.state r ≡ Leader n → Group w ledger (Marking r n)
  leads r n h e = (subst (IsLed n) (sym e) (λ o. refl), λ o d. (s.pairs r).claimed h d (e ∙ ap Leader o))

  -- a leader of one, whose link is marked
  pub alone : (r : ℕ) → Group w ledger (Marking r 1) → w.marked r ≡ true → Group w ledger (Alone r (w.next r))
  alone r h m = (here w r m, λ a. record { either = inl (led_live r 1 (w.state r) (omega arith) h.0 (state_of r a)) })

  -- a row that leads a decided group of two leads two
  led_two : (m : ℕ) (t : State) → m ≡ 2 → IsLed m t → IsTwo t
  led_two m (Leader n) o h = let q : n ≡ m = h (omega (arith, o)) in q ∙ o
  led_two m (Retired n) o h = tt
  led_two m row.Free o h = absurd h
  led_two m (row.Infant n) o h = absurd h
  led_two m Normal o h = absurd h
  led_two m (Follower n) o h = absurd h

  -- a leader of two
  pub claims : (r : ℕ) → IsHeld ledger r → Group w ledger (Marking r 2) → w.marked r ≡ true → (c : ℕ) × (w.next r ≡ Some c) × Group w ledger (Claiming r c)
  claims r h g m = which h
    where
      two : IsTwo (w.state r)
      two = led_two 2 (w.state r) refl g.0

      link : (c : ℕ) → w.next r ≡ Some c → LinksOn w r (Some c)
      link c f = record { marked = m; next = f }

      which : IsHeld ledger r → (c : ℕ) × (w.next r ≡ Some c) × Group w ledger (Claiming r c)
      which (inl a) =
          let t = (s.pairs r).next a (led_live r 2 (w.state r) (omega arith) g.0 (state_of r a)) in
          (t.0, t.1, (link t.0 t.1, two, λ b. claimable r t.0 (w.state t.0) a t.1 (state_of t.0 (s.chain.linked r t.0 a t.1)), λ d. not_dead (ledger.fates r).status a d))
      which (inr b) =
          let t = g.1 refl b.1.dead in
          (t.0, t.1, (link t.0 t.1, two, λ a. not_dead (ledger.fates r).status a b.1.dead, λ d. t.2))

  -- the next row is found to go along
  pub takes_along : (r c : ℕ) → IsHeld ledger c → Group w ledger (Claiming r c) → w.state c ≡ Follower r → Group w ledger (MarkingNext r c)
  takes_along r c h g e = (g.0, g.1, subst (IsTaken r) (sym e) refl, λ d. which d h)
    where
      leader : (t : State) → t ≡ Follower r → IsLiveState w ledger c t → IsLive ledger r
      leader t q l = (subst (IsLiveState w ledger c) q l).live

      which : IsDead ledger r → IsHeld ledger c → WentWith ledger r c
      which d (inl a) = not_dead (ledger.fates r).status (leader (w.state c) e (state_of c a)) d
      which d (inr b) = let t = (s.pairs c).together r h b.1.dead e in (b.1.dead, sym t.1)

  -- or to lead a group of its own
  pub leaves : (r c : ℕ) → Group w ledger (Claiming r c) → IsLeader (w.state c) → Group w ledger (Alone r (Some c))
  leaves r c g l = (g.0, λ a. record { either = inr (live_two w ledger r s.states a g.1, (c, refl, l)) })

  -- and its link is marked too
  pub pair : (r c : ℕ) → Group w ledger (MarkingNext r c) → w.marked c ≡ true → Group w ledger (Pair r c (w.next c))
  pair r c g m = (g.0, here w c m, λ a. record { leads = live_two w ledger r s.states a g.1; follows = taken_live r c (w.state c) g.2 (state_of c (s.chain.linked r c a g.0.next)) }, g.3)

  -- which links a seat may mark
  pub may_mark : (r n : ℕ) → Group w ledger (Marking r n) → IsLive ledger r → IsEngaged (w.state r)
  may_mark r n g a = led_engaged r n (w.state r) g.0 (state_of r a)

  -- that of the row that goes along
  pub may_mark_next : (r c : ℕ) → Group w ledger (MarkingNext r c) → IsLive ledger c → IsEngaged (w.state c)
  may_mark_next r c g a = subst IsEngaged (sym (taken_live r c (w.state c) g.2 (state_of c a))) tt

  -- a leader of some is decided
  decided_is : (x n : ℕ) → 1 ≤ n → w.state x ≡ Leader n → IsDecided (w.state x)
  decided_is x n o e = subst IsDecided (sym e) o

  -- and which rows it may freeze
  pub may_freeze : (r : ℕ) (c after : Option ℕ) → IsHeld ledger r → Holds w ledger r c after → (x : ℕ) → IsIn (r ∷ rest_of c) x → IsLive ledger x → (w.marked x ≡ true) × IsDecided (w.state x)
  may_freeze r None after h g x (inl e) a = subst (λ y. (w.marked y ≡ true) × IsDecided (w.state y)) (sym e) (g.0.marked, which (g.1 (subst (IsLive ledger) e a)).either)
    where
      which : (w.state r ≡ Leader 1) ⊎ (w.state r ≡ Leader 2) × ((k : ℕ) × (after ≡ Some k) × IsLeader (w.state k)) → IsDecided (w.state r)
      which (inl q) = decided_is r 1 (omega arith) q
      which (inr q) = decided_is r 2 (omega arith) q.0
  may_freeze r None after h g x (inr e) a = absurd e
  may_freeze r (Some c) after h g x (inl e) a = subst (λ y. (w.marked y ≡ true) × IsDecided (w.state y)) (sym e) (g.0.marked, decided_is r 2 (omega arith) (g.2 (subst (IsLive ledger) e a)).leads)
  may_freeze r (Some c) after h g x (inr (inl e)) a = subst (λ y. (w.marked y ≡ true) × IsDecided (w.state y)) (sym e) (g.1.marked, which h)
    where
      which : IsHeld ledger r → IsDecided (w.state c)
      which (inl b) = subst IsDecided (sym (g.2 b).follows) tt
      which (inr b) = not_dead (ledger.fates c).status (subst (IsLive ledger) e a) (g.3 b.1.dead).0
  may_freeze r (Some c) after h g x (inr (inr e)) a = absurd e

-- of a row that was found a follower, the seat knows so
pub follows : (w : Rows) (ledger : Ledger) (r p : ℕ) → w.state r ≡ Follower p → Group w ledger (Following r)
follows w ledger r p e = subst IsFollowing (sym e) tt

-- the leader that its state names is a row that the seat may name too
pub leader_named : (w : Rows) (ledger : Ledger) (now : ℕ) → Structure w ledger now → (t r p : ℕ) → IsFresh ledger t r → w.state r ≡ Follower p → IsFresh ledger t p
leader_named w ledger now s t r p (inl a) e =
    let h : HasLeader w ledger r p = subst (IsLiveState w ledger r) e (live_state w ledger r s.states a) in
    inl h.live
leader_named w ledger now s t r p (inr f) e =
    let g : WentWith ledger r p = (s.pairs r).together p (inr (t, f)) f.dead e in
    inr (record { dead = g.0; since = f.since; visits = f.visits; before = subst (λ n. f.since < n) (sym g.1) f.before })

-- the first row follows none: a leader has a lesser least key, and that of the first row is 0
pub not_first : (w : Rows) (ledger : Ledger) (now : ℕ) → Structure w ledger now → (r : ℕ) → Group w ledger (Following r) → w.head ≢ Some r
not_first w ledger now s r g e = which (w.state r) g (live_state w ledger r s.states live)
  where
    same : s.chain.first ≡ r
    same = let x : Some s.chain.first ≡ Some r = sym s.chain.leads ∙ e in cc

    live : IsLive ledger r
    live = subst (IsLive ledger) same s.chain.first_live

    least : w.least r ≡ 0
    least = subst (λ x. w.least x ≡ 0) same s.chain.first_least

    which : (t : State) → IsFollowing t → IsLiveState w ledger r t → ⊥
    which (Follower p) f h = let x : w.least p < w.least r = s.chain.rises p r h.live h.link.next in omega (arith, x, least)
    which (Retired n) f h = h
    which row.Free f h = f
    which (row.Infant n) f h = f
    which Normal f h = f
    which (Leader n) f h = f
