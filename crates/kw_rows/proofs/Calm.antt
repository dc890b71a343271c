-- Events that change no state of a held row: free rows taken, infants given back or written,
-- retired rows free again, marks, frozen rows, numbers and visits. States, marks and what seats
-- know of their groups stay right.
use Rattle.std.proofs.Common.{ℕ, ◌≡◌, ◌≢◌, ◌⊎◌, inl, inr, true, Option, Some, None, sym, ◌∙◌, ap, subst, ◌<◌}
use Rattle.std.proofs.lemmas.Bool.{cases_eq}
use Rattle.kw_rows.specs.Ledger.{Ledger, Fate, Status, Free, Infant, Live, Dead, IsLive, IsDead, IsFresh, IsHeld}
use Rattle.kw_rows.specs.RowState as row
use Rattle.kw_rows.specs.RowState.{State, Leader, IsLed, IsTwo, IsLeader, IsEngaged, IsDecided, IsClaimable, IsClaimed, IsFollowing, IsTaken}
use Rattle.kw_rows.specs.Rows.{Rows, Chain, Closed}
use Rattle.kw_rows.specs.States.{LinksOn, HasState, States, Marks}
use Rattle.kw_rows.specs.Group.{View, Elsewhere, Marking, Opened, Claiming, MarkingNext, Alone, Pair, Following, IsAlone, IsClaimedNext, WentWith, Group, Named, Pairs}
use Rattle.kw_rows.specs.Events.{SameLinks, SameStates, SameFates, Turns, Takes, GivesBack, Fills, Reclaims, MarksLink, Freezes, Numbers, Visits, Rests}
use Rattle.kw_rows.proofs.Statuses.{not_infant, not_free, dead_infant, dead_free, not_dead}
use Rattle.kw_rows.proofs.StatesKeep.{Leads, SameRow, states_kept, marks_same, marks_none}
use Rattle.kw_rows.proofs.Framed.{held_no, retired_no}

-- a held row has the state, the link and the fate that it had, and a marked link stays marked
pub record Calm (w w' : Rows) (ledger ledger' : Ledger) : Type 0 where
  pub state : (x : ℕ) → IsHeld ledger x → w'.state x ≡ w.state x
  pub next : (x : ℕ) → IsHeld ledger x → w'.next x ≡ w.next x
  pub marked : (x : ℕ) → IsHeld ledger x → w.marked x ≡ true → w'.marked x ≡ true
  pub fate : (x : ℕ) → IsHeld ledger x → ledger'.fates x ≡ ledger.fates x

-- a row that a seat may name is held
fresh_held : (ledger : Ledger) (t x : ℕ) → IsFresh ledger t x → IsHeld ledger x
fresh_held ledger t x (inl a) = inl a
fresh_held ledger t x (inr h) = inr (t, h)

module _ (w w' : Rows) (ledger ledger' : Ledger) (k : Calm w w' ledger ledger') where
  -- a marked link of a held row is as it was
  link : (x : ℕ) (y : Option ℕ) → IsHeld ledger x → LinksOn w x y → LinksOn w' x y
  link x y h l = record { marked = k.marked x h l.marked; next = k.next x h ∙ l.next }

  -- a held row that is live was so
  live_was : (x : ℕ) → IsHeld ledger x → IsLive ledger' x → IsLive ledger x
  live_was x h a = ap (λ (f : Fate). f.status) (sym (k.fate x h)) ∙ a

  -- and one that is dead
  dead_was : (x : ℕ) → IsHeld ledger x → IsDead ledger' x → IsDead ledger x
  dead_was x h a = ap (λ (f : Fate). f.status) (sym (k.fate x h)) ∙ a

  -- what the state of a held row says holds still
  same : (F : State → Type 0) (x : ℕ) → IsHeld ledger x → F (w.state x) → F (w'.state x)
  same F x h f = subst F (sym (k.state x h)) f

  -- live leaders of two still lead
  pub leads_calm : ((m at : ℕ) → ledger.numbered m ≡ Some at → ledger'.numbered m ≡ Some at) → Leads w w' ledger ledger'
  leads_calm n = record {
    leader = λ p x h. record { live = ap (λ (f : Fate). f.status) (k.fate p (inl h.live)) ∙ h.live; two = k.state p (inl h.live) ∙ h.two; link = link p (Some x) (inl h.live) h.link };
    numbered = n;
  }

  -- rows that went together did so still
  went_with : (r x : ℕ) → IsHeld ledger r → IsHeld ledger x → WentWith ledger r x → WentWith ledger' r x
  went_with r x hr hx d = (ap (λ (f : Fate). f.status) (k.fate x hx) ∙ d.0, ap (λ (f : Fate). f.gone) (k.fate x hx) ∙ d.1 ∙ ap (λ (f : Fate). f.gone) (sym (k.fate r hr)))

  module _ (c : Chain w ledger) (o : Closed w ledger) (t : ℕ) where
    -- the row after a held one is claimed still
    pub claimed_next : (r : ℕ) → IsHeld ledger r → IsDead ledger r → IsClaimedNext w r → IsClaimedNext w' r
    claimed_next r a d h = (h.0, k.next r a ∙ h.1, same (IsClaimed r) h.0 (o.linked r h.0 a h.1) h.2)

    -- what the seat may name is held
    held : (x : ℕ) → IsFresh ledger t x → IsHeld ledger x
    held x f = fresh_held ledger t x f

    -- a row that goes alone does so still
    alone : (r : ℕ) (after : Option ℕ) → IsLive ledger r → w.next r ≡ after → IsAlone w r after → IsAlone w' r after
    alone r after a f h = record { either = which h.either }
      where
        which : (w.state r ≡ Leader 1) ⊎ (w.state r ≡ Leader 2) × ((c : ℕ) × (after ≡ Some c) × IsLeader (w.state c)) → (w'.state r ≡ Leader 1) ⊎ (w'.state r ≡ Leader 2) × ((c : ℕ) × (after ≡ Some c) × IsLeader (w'.state c))
        which (inl q) = inl (k.state r (inl a) ∙ q)
        which (inr q) = inr (k.state r (inl a) ∙ q.0, (q.1.0, q.1.1, same IsLeader q.1.0 (inl (c.linked r q.1.0 a (f ∙ q.1.1))) q.1.2))

    -- what a seat knows of its group stays
    pub group_calm : (v : View) → Named ledger t v → Group w ledger v → Group w' ledger' v
    group_calm Elsewhere n g = tt
    group_calm (Marking r i) n g = (same (IsLed i) r (held r n) g.0, λ o a. let d = dead_was r (held r n) a in claimed_next r (held r n) d (g.1 o d))
    group_calm (Opened r after) n g = (link r after (held r n) g.0, same (IsLed 0) r (held r n) g.1)
    group_calm (Claiming r x) n g = (
      link r (Some x) (held r n.0) g.0,
      same IsTwo r (held r n.0) g.1,
      λ a. same (IsClaimable r) x (held x n.1) (g.2 (live_was r (held r n.0) a)),
      λ a. same (IsClaimed r) x (held x n.1) (g.3 (dead_was r (held r n.0) a)),
    )
    group_calm (MarkingNext r x) n g = (link r (Some x) (held r n.0) g.0, same IsTwo r (held r n.0) g.1, same (IsTaken r) x (held x n.1) g.2, λ a. went_with r x (held r n.0) (held x n.1) (g.3 (dead_was r (held r n.0) a)))
    group_calm (Alone r after) n g = (link r after (held r n) g.0, λ a. let b = live_was r (held r n) a in alone r after b g.0.next (g.1 b))
    group_calm (Pair r x after) n g = (
      link r (Some x) (held r n.0) g.0,
      link x after (held x n.1) g.1,
      λ a. let p = g.2 (live_was r (held r n.0) a) in record { leads = k.state r (held r n.0) ∙ p.leads; follows = k.state x (held x n.1) ∙ p.follows },
      λ a. went_with r x (held r n.0) (held x n.1) (g.3 (dead_was r (held r n.0) a)),
    )
    group_calm (Following r) n g = same IsFollowing r (held r n) g

  -- what pairs of rows say stays, where no more rows are held
  pub pairs_calm : Chain w ledger → Closed w ledger → ((x : ℕ) → IsHeld ledger' x → IsHeld ledger x) → ((x : ℕ) → Pairs w ledger x) → (x : ℕ) → Pairs w' ledger' x
  pairs_calm c o was m x = record {
    next = λ a q. let h = was x (inl a) in let t = (m x).next (live_was x h a) (sym (k.state x h) ∙ q) in (t.0, k.next x h ∙ t.1);
    claimed = λ a d q. let h = was x a in let b = dead_was x h d in claimed_next c o 0 x h b ((m x).claimed h b (sym (k.state x h) ∙ q));
    together = λ p a d q. let h = was x a in let b = dead_was x h d in let t = (m x).together p h b (sym (k.state x h) ∙ q) in went_with x p h (with_held p h b t) t;
  }
    where
      -- a row that went with a held one is held
      with_held : (p : ℕ) → IsHeld ledger x → IsDead ledger x → WentWith ledger x p → IsHeld ledger p
      with_held p (inl a) d t = not_dead (ledger.fates x).status a d
      with_held p (inr h) d t = inr (h.0, record { since = h.1.since; dead = t.0; visits = h.1.visits; before = subst (λ g. h.1.since < g) (sym t.1) h.1.before })

-- what such an event keeps of states, marks and groups
pub record Stays (w w' : Rows) (ledger ledger' : Ledger) : Type 0 where
  pub states : States w' ledger'
  pub marks : (x : ℕ) → Marks w' ledger' x
  pub calm : Calm w w' ledger ledger'

module _ (w w' : Rows) (ledger ledger' : Ledger) (h : States w ledger) (m : (x : ℕ) → Marks w ledger x) where
  -- a row that is not held is turned, to a state that goes with its new fate, and is not linked
  turns_stay : (x : ℕ) (s : State) → Turns w w' ledger ledger' x s → (IsHeld ledger x → ⊥) → HasState w' ledger' x (ledger'.fates x).status → (IsLive ledger' x → ⊥) → (IsDead ledger' x → ⊥) → Stays w w' ledger ledger'
  turns_stay x s e apart new live dead = record {
    states = states_kept w w' ledger ledger' (leads_calm w w' ledger ledger' calm (λ k at d. e.others.numbered k ∙ d)) (λ y. state y (cases_eq y x)) h;
    marks = λ y. mark y (cases_eq y x);
    calm = calm;
  }
    where
      other : (y : ℕ) → IsHeld ledger y → y ≢ x
      other y a q = apart (subst (IsHeld ledger) q a)

      calm : Calm w w' ledger ledger'
      calm = record {
        state = λ y a. e.sets.others y (other y a);
        next = λ y a. e.sets.links.next y;
        marked = λ y a b. e.sets.links.marked y ∙ b;
        fate = λ y a. e.fates y (other y a);
      }

      row_same : (y : ℕ) → y ≢ x → SameRow w w' ledger ledger' y
      row_same y d = record { state = e.sets.others y d; fate = e.fates y d }

      state : (y : ℕ) → (y ≡ x) ⊎ (y ≡ x → ⊥) → SameRow w w' ledger ledger' y ⊎ HasState w' ledger' y (ledger'.fates y).status
      state y (inl q) = inr (subst (λ z. HasState w' ledger' z (ledger'.fates z).status) (sym q) new)
      state y (inr d) = inl (row_same y d)

      mark : (y : ℕ) → (y ≡ x) ⊎ (y ≡ x → ⊥) → Marks w' ledger' y
      mark y (inl q) = subst (Marks w' ledger') (sym q) (marks_none w w' ledger ledger' x live dead)
      mark y (inr d) = marks_same w w' ledger ledger' y (row_same y d) (record { marked = e.sets.links.marked y; frozen = e.sets.links.frozen y }) (m y)

  -- a free row is not held
  free_no_live : (x : ℕ) → (ledger.fates x).status ≡ Free → IsHeld ledger x → ⊥
  free_no_live x f = held_no ledger x apart
    where
      apart : IsLive ledger x ⊎ IsDead ledger x → ⊥
      apart (inl a) = not_free (ledger.fates x).status a f
      apart (inr a) = dead_free (ledger.fates x).status a f

  -- nor is an infant
  infant_no : (x : ℕ) → (ledger.fates x).status ≡ Infant → IsHeld ledger x → ⊥
  infant_no x f = held_no ledger x apart
    where
      apart : IsLive ledger x ⊎ IsDead ledger x → ⊥
      apart (inl a) = not_infant (ledger.fates x).status a f
      apart (inr a) = dead_infant (ledger.fates x).status a f

  -- a free row is taken
  pub takes_stay : (x s : ℕ) → Takes w w' ledger ledger' x s → Stays w w' ledger ledger'
  takes_stay x s e = turns_stay x (row.Infant s) e.turns (free_no_live x e.free) (subst (HasState w' ledger' x) (sym e.status) (e.turns.sets.state ∙ ap row.Infant (sym e.owner))) (λ a. not_infant (ledger'.fates x).status a e.status) (λ a. dead_infant (ledger'.fates x).status a e.status)

  -- a row that is not held is free from now on
  free_stay : (x : ℕ) → Turns w w' ledger ledger' x row.Free → (IsHeld ledger x → ⊥) → (ledger'.fates x).status ≡ Free → Stays w w' ledger ledger'
  free_stay x e apart f = turns_stay x row.Free e apart (subst (HasState w' ledger' x) (sym f) e.sets.state) (λ a. not_free (ledger'.fates x).status a f) (λ a. dead_free (ledger'.fates x).status a f)

  -- an infant is given back
  pub gives_back_stay : (x : ℕ) → GivesBack w w' ledger ledger' x → Stays w w' ledger ledger'
  gives_back_stay x e = free_stay x e.turns (infant_no x e.infant) e.status

  -- a retired row is free again
  pub reclaims_stay : (x n : ℕ) → Reclaims w w' ledger ledger' x n → Stays w w' ledger ledger'
  reclaims_stay x n e = free_stay x e.turns (retired_no w ledger x n h e.dead e.retired e.young) e.status

  -- no state changes, and no fate
  still_stay : SameStates w w' → SameFates ledger ledger' → ((n at : ℕ) → ledger.numbered n ≡ Some at → ledger'.numbered n ≡ Some at) → ((x : ℕ) → IsHeld ledger x → w'.next x ≡ w.next x) → ((x : ℕ) → IsHeld ledger x → w.marked x ≡ true → w'.marked x ≡ true) → ((x : ℕ) → Marks w' ledger' x) → Stays w w' ledger ledger'
  still_stay s f n next marked marks = record {
    states = states_kept w w' ledger ledger' (leads_calm w w' ledger ledger' calm n) (λ y. inl (record { state = s y; fate = f y })) h;
    marks = marks;
    calm = calm;
  }
    where
      calm : Calm w w' ledger ledger'
      calm = record { state = λ y a. s y; next = next; marked = marked; fate = λ y a. f y }

  -- and no word of a link
  links_stay : SameLinks w w' → SameStates w w' → SameFates ledger ledger' → ((n at : ℕ) → ledger.numbered n ≡ Some at → ledger'.numbered n ≡ Some at) → Stays w w' ledger ledger'
  links_stay l s f n = still_stay s f n (λ y a. l.next y) (λ y a b. l.marked y ∙ b) (λ y. marks_same w w' ledger ledger' y (record { state = s y; fate = f y }) (record { marked = l.marked y; frozen = l.frozen y }) (m y))

  -- nothing of the rows changes
  pub rests_stay : Rests w w' ledger ledger' → Stays w w' ledger ledger'
  rests_stay e = links_stay e.links e.states e.ledger.fates (λ n at d. e.ledger.others.numbered n ∙ d)

  -- a visit begins or ends
  pub visits_stay : (t : ℕ) (start : Option ℕ) → Visits w w' ledger ledger' t start → Stays w w' ledger ledger'
  visits_stay t start e = links_stay e.links e.states e.fates (λ n at d. e.numbered n ∙ d)

  -- a number is drawn, and those that were drawn stay
  pub numbers_stay : (now n : ℕ) → Numbers w w' ledger ledger' now n → Stays w w' ledger ledger'
  numbers_stay now n e = links_stay e.links e.states e.fates (λ i at d. which i at d (cases_eq i n))
    where
      no_none : {A : Type 0} (at : ℕ) → None ≡ Some at → A
      no_none at q = absurd (cc)

      which : (i at : ℕ) → ledger.numbered i ≡ Some at → (i ≡ n) ⊎ (i ≡ n → ⊥) → ledger'.numbered i ≡ Some at
      which i at d (inl q) = no_none at (sym e.new ∙ subst (λ j. ledger.numbered j ≡ Some at) q d)
      which i at d (inr q) = e.others i q ∙ d

  -- words of an infant are written
  pub fills_stay : (x : ℕ) → Fills w w' ledger ledger' x → Stays w w' ledger ledger'
  fills_stay x e = still_stay e.states e.ledger.fates (λ n at d. e.ledger.others.numbered n ∙ d) (λ y a. e.next y (other y a)) (λ y a b. e.marked y (other y a) ∙ b) (λ y. which y (cases_eq y x))
    where
      other : (y : ℕ) → IsHeld ledger y → y ≢ x
      other y a q = infant_no x e.infant (subst (IsHeld ledger) q a)

      infant : (ledger'.fates x).status ≡ Infant
      infant = ap (λ (f : Fate). f.status) (e.ledger.fates x) ∙ e.infant

      which : (y : ℕ) → (y ≡ x) ⊎ (y ≡ x → ⊥) → Marks w' ledger' y
      which y (inl q) = subst (Marks w' ledger') (sym q) (marks_none w w' ledger ledger' x (λ a. not_infant (ledger'.fates x).status a infant) (λ a. dead_infant (ledger'.fates x).status a infant))
      which y (inr d) = marks_same w w' ledger ledger' y (record { state = e.states y; fate = e.ledger.fates y }) (record { marked = e.marked y d; frozen = e.frozen y d }) (m y)

  -- a link is marked
  pub marks_stay : (x : ℕ) → MarksLink w w' ledger ledger' x → Stays w w' ledger ledger'
  marks_stay x e = still_stay e.states e.ledger.fates (λ n at d. e.ledger.others.numbered n ∙ d) (λ y a. e.next y) (λ y a b. marked y b (cases_eq y x)) (λ y. which y (cases_eq y x))
    where
      marked : (y : ℕ) → w.marked y ≡ true → (y ≡ x) ⊎ (y ≡ x → ⊥) → w'.marked y ≡ true
      marked y b (inl q) = subst (λ z. w'.marked z ≡ true) (sym q) e.marked
      marked y b (inr d) = e.others y d ∙ b

      was : (a : Status) → (ledger'.fates x).status ≡ a → (ledger.fates x).status ≡ a
      was a q = ap (λ (f : Fate). f.status) (sym (e.ledger.fates x)) ∙ q

      here : Marks w' ledger' x
      here = record {
        engaged = λ a b. subst IsEngaged (sym (e.states x)) (e.engaged (was Live a));
        decided = λ n a o b. e.marked;
        frozen = λ a b. (e.marked, subst IsDecided (sym (e.states x)) ((m x).frozen (was Live a) (sym (e.frozen x) ∙ b)).1);
        buried = λ a. (e.marked, e.frozen x ∙ ((m x).buried (was Dead a)).1);
      }

      which : (y : ℕ) → (y ≡ x) ⊎ (y ≡ x → ⊥) → Marks w' ledger' y
      which y (inl q) = subst (Marks w' ledger') (sym q) here
      which y (inr d) = marks_same w w' ledger ledger' y (record { state = e.states y; fate = e.ledger.fates y }) (record { marked = e.others y d; frozen = e.frozen y }) (m y)

  -- a row gives no more cells
  pub freezes_stay : (x : ℕ) → Freezes w w' ledger ledger' x → Stays w w' ledger ledger'
  freezes_stay x e = still_stay e.states e.ledger.fates (λ n at d. e.ledger.others.numbered n ∙ d) (λ y a. e.next y) (λ y a b. e.marked y ∙ b) (λ y. which y (cases_eq y x))
    where
      was : (a : Status) → (ledger'.fates x).status ≡ a → (ledger.fates x).status ≡ a
      was a q = ap (λ (f : Fate). f.status) (sym (e.ledger.fates x)) ∙ q

      here : Marks w' ledger' x
      here = record {
        engaged = λ a b. subst IsEngaged (sym (e.states x)) ((m x).engaged (was Live a) (sym (e.marked x) ∙ b));
        decided = λ n a o b. e.marked x ∙ (m x).decided n (was Live a) o (sym (e.states x) ∙ b);
        frozen = λ a b. let t = e.decided (was Live a) in (e.marked x ∙ t.0, subst IsDecided (sym (e.states x)) t.1);
        buried = λ a. (e.marked x ∙ ((m x).buried (was Dead a)).0, e.frozen);
      }

      which : (y : ℕ) → (y ≡ x) ⊎ (y ≡ x → ⊥) → Marks w' ledger' y
      which y (inl q) = subst (Marks w' ledger') (sym q) here
      which y (inr d) = marks_same w w' ledger ledger' y (record { state = e.states y; fate = e.ledger.fates y }) (record { marked = e.marked y; frozen = e.others y d }) (m y)
