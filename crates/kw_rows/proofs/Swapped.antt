-- A part of the list is exchanged for another: the live rows stay one list, held rows lead to held
-- rows, and rows that share a key follow one another.
use Rattle.std.proofs.Common.{ℕ, ◌≡◌, ◌⊎◌, inl, inr, ◌<◌, ◌≤◌, Option, Some, None, List, ◌∷◌, arith, refl, sym, ◌∙◌, ap, subst}
use Rattle.std.proofs.lemmas.Option.{same_Some}
use Rattle.kw_rows.specs.Ledger.{Ledger, Dead, IsLive, IsFresh, IsHeld, WasHeld}
use Rattle.kw_rows.specs.Rows.{Rows, Chain, Closed, Follows, HoldsKey, IsBefore, leads, bound}
use Rattle.kw_rows.specs.Events.{IsIn}
use Rattle.kw_rows.proofs.Lists.{in_or_not, link_or_not, to_next, from_last, rise_next, first_rises}
use Rattle.kw_rows.proofs.Chains.{IsLink, one_link, leads_live, links_live, after_live, beyond, rise_apart}
use Rattle.kw_rows.proofs.Statuses.{not_infant, not_dead, dead_infant}
use Rattle.kw_rows.proofs.Swaps.{Swaps}

module _ (w w' : Rows) (ledger ledger' : Ledger) (now : ℕ) (p : Option ℕ) (r : ℕ) (rest : List ℕ) (after : Option ℕ) (n : ℕ) (more : List ℕ) (c : Chain w ledger) (e : Swaps w w' ledger ledger' now p r rest after n more) where
  abbrev Went : ℕ → Type 0
  Went x = IsIn (r ∷ rest) x

  abbrev Came : ℕ → Type 0
  Came x = IsIn (n ∷ more) x

  -- Before the event.

  -- the rows that go are live, and the first has their least key
  r_live : IsLive ledger r
  r_live = leads_live w ledger c p r e.link e.found

  -- each is live
  went_live : (x : ℕ) → Went x → IsLive ledger x
  went_live x i = (links_live w ledger c r rest after e.group r_live x i).0

  -- and has at least the least key of the first
  went_least : (x : ℕ) → Went x → w.least r ≤ w.least x
  went_least x i = (links_live w ledger c r rest after e.group r_live x i).1

  -- so has each new row
  came_least : (x : ℕ) → Came x → w.least r ≤ w.least x
  came_least x i = omega (arith, e.least, first_rises w.least n more e.rises x i)

  -- what stands after the group
  after_is : (b : ℕ) → after ≡ Some b → IsLive ledger b × ((y : ℕ) → Went y → w.least y < w.least b)
  after_is b f = after_live w ledger c r rest after e.group r_live b f

  -- what stands after the group does not go
  after_stays : (b : ℕ) → after ≡ Some b → Went b → ⊥
  after_stays b f i = omega (arith, (after_is b f).1 b i)

  -- p is no row of the group and no new one
  p_before : (q : ℕ) → Some q ≡ p → IsLive ledger q × (w.next q ≡ Some r)
  p_before q f = (subst (IsLink ledger) (sym f) e.link, subst (λ x. leads w x ≡ Some r) (sym f) e.found)

  -- p does not go
  p_stays : (q : ℕ) → Some q ≡ p → Went q → ⊥
  p_stays q f i = let t = p_before q f in omega (arith, c.rises q r t.0 t.1, went_least q i)

  -- nor is it new
  p_old : (q : ℕ) → Some q ≡ p → Came q → ⊥
  p_old q f i = not_infant (ledger.fates q).status (p_before q f).0 (e.infants q i)

  -- a live row that stays leads into the group only if it is p
  stays_out : (x y : ℕ) → IsLive ledger x → (Went x → ⊥) → (Some x ≡ p → ⊥) → w.next x ≡ Some y → Went y → ⊥
  stays_out x y a d f g (inl i) = f (one_link w ledger c (Some x) p r a e.link (g ∙ ap Some i) e.found)
  stays_out x y a d f g (inr i) =
      let t = from_last w.next r rest after e.group y i in
      let q : Some x ≡ Some t.0 = one_link w ledger c (Some x) (Some t.0) y a (went_live t.0 t.1) g t.2 in
      d (subst Went (sym (same_Some x t.0 q)) t.1)

  -- a live row that stays is before the group, or at or after what stands after it
  side : (y : ℕ) → IsLive ledger y → (Went y → ⊥) → IsBefore w y r ⊎ ((b : ℕ) × (after ≡ Some b) × (w.least b ≤ w.least y))
  side y a d = which (c.apart y r a r_live)
    where
      which : (y ≡ r) ⊎ IsBefore w y r ⊎ IsBefore w r y → IsBefore w y r ⊎ ((b : ℕ) × (after ≡ Some b) × (w.least b ≤ w.least y))
      which (inl x) = absurd (d (inl x))
      which (inr (inl k)) = inl k
      which (inr (inr k)) = inr (beyond w ledger c r rest after e.group r_live y a d k)

  -- After it.

  -- p leads to the first new row
  next_p : (x : ℕ) → Some x ≡ p → w'.next x ≡ Some n
  next_p x f = subst (λ q. leads w' q ≡ Some n) (sym f) e.leads_on

  -- all other links are as they were
  next_same : (x : ℕ) → (Some x ≡ p → ⊥) → w'.next x ≡ w.next x
  next_same x f = e.others (Some x) f

  -- those of new rows
  came_same : (x : ℕ) → Came x → w'.next x ≡ w.next x
  came_same x i = next_same x (λ f. p_old x f i)

  -- and of rows that go
  went_same : (x : ℕ) → Went x → w'.next x ≡ w.next x
  went_same x i = next_same x (λ f. p_stays x f i)

  -- which rows are live
  live_old : (x : ℕ) → IsLive ledger x → (Went x → ⊥) → IsLive ledger' x
  live_old x a d = e.status x d (λ i. not_infant (ledger.fates x).status a (e.infants x i)) ∙ a

  -- a live row is new, or was live and did not go
  live_split : (x : ℕ) → IsLive ledger' x → Came x ⊎ (IsLive ledger x × (Went x → ⊥))
  live_split x a = which (in_or_not (n ∷ more) x) (in_or_not (r ∷ rest) x)
    where
      which : Came x ⊎ (Came x → ⊥) → Went x ⊎ (Went x → ⊥) → Came x ⊎ (IsLive ledger x × (Went x → ⊥))
      which (inl i) q = inl i
      which (inr f) (inl i) = (not_dead (ledger'.fates x).status a (e.gone_dead x i))
      which (inr f) (inr d) = inr (sym (e.status x d f) ∙ a, d)

  -- what stands after the group is live
  after_on : (b : ℕ) → after ≡ Some b → IsLive ledger' b
  after_on b f = live_old b (after_is b f).0 (after_stays b f)

  -- what a live row leads to
  came_leads : (x y : ℕ) → Came x → w'.next x ≡ Some y → IsLive ledger' y × (w.least x < w.least y)
  came_leads x y i f = which (rise_next w.next w.least n more after e.new e.rises x i)
    where
      which : ((m : ℕ) × (w.next x ≡ Some m) × IsIn more m × (w.least x < w.least m)) ⊎ (w.next x ≡ after) → IsLive ledger' y × (w.least x < w.least y)
      which (inl k) =
          let q : k.0 ≡ y = same_Some k.0 y (sym k.1 ∙ sym (came_same x i) ∙ f) in
          (subst (IsLive ledger') q (e.come k.0 (inr k.2)), omega (arith, k.3, ap w.least q))
      which (inr k) = let g : after ≡ Some y = sym k ∙ sym (came_same x i) ∙ f in (after_on y g, e.below x y i g)

  -- a live row that stayed leads to a live row with a greater least key
  old_leads : (x y : ℕ) → IsLive ledger x → (Went x → ⊥) → w'.next x ≡ Some y → IsLive ledger' y × (w.least x < w.least y)
  old_leads x y a d f = which (link_or_not p x)
    where
      which : (Some x ≡ p) ⊎ (Some x ≡ p → ⊥) → IsLive ledger' y × (w.least x < w.least y)
      which (inl g) =
          let q : n ≡ y = same_Some n y (sym (next_p x g) ∙ f) in
          let t = p_before x g in
          (subst (IsLive ledger') q (e.come n (inl refl)), omega (arith, c.rises x r t.0 t.1, e.least, ap w.least q))
      which (inr g) =
          let k : w.next x ≡ Some y = sym (next_same x g) ∙ f in
          (live_old y (c.linked x y a k) (stays_out x y a d g k), c.rises x y a k)

  -- so does each live row
  live_leads : (x y : ℕ) → IsLive ledger' x → w'.next x ≡ Some y → IsLive ledger' y × (w.least x < w.least y)
  live_leads x y a f = which (live_split x a)
    where
      which : Came x ⊎ (IsLive ledger x × (Went x → ⊥)) → IsLive ledger' y × (w.least x < w.least y)
      which (inl i) = came_leads x y i f
      which (inr o) = old_leads x y o.0 o.1 f

  -- which rows stand before which
  before : (x y : ℕ) → IsBefore w x y → IsBefore w' x y
  before x y o = which (link_or_not p x)
    where
      which : (Some x ≡ p) ⊎ (Some x ≡ p → ⊥) → IsBefore w' x y
      which (inl g) =
          let q : r ≡ o.next = same_Some r o.next (sym (p_before x g).1 ∙ o.follows) in
          record { next = n; follows = next_p x g; above = omega (arith, e.leasts n, e.leasts y, e.least, ap w.least q, o.above) }
      which (inr g) = record { next = o.next; follows = next_same x g ∙ o.follows; above = omega (arith, e.leasts o.next, e.leasts y, o.above) }

  -- a new row and one that stayed stand one before the other
  mixed : (x y : ℕ) → Came x → IsLive ledger y → (Went y → ⊥) → IsBefore w' x y ⊎ IsBefore w' y x
  mixed x y i a d = which (side y a d)
    where
      step : (b : ℕ) → after ≡ Some b → w.least b ≤ w.least y → ((m : ℕ) × (w.next x ≡ Some m) × IsIn more m × (w.least x < w.least m)) ⊎ (w.next x ≡ after) → IsBefore w' x y
      step b f g (inl k) = record { next = k.0; follows = came_same x i ∙ k.1; above = omega (arith, e.leasts k.0, e.leasts y, e.below k.0 b (inr k.2) f, g) }
      step b f g (inr q) = record { next = b; follows = came_same x i ∙ q ∙ f; above = omega (arith, e.leasts b, e.leasts y, g) }

      which : IsBefore w y r ⊎ ((b : ℕ) × (after ≡ Some b) × (w.least b ≤ w.least y)) → IsBefore w' x y ⊎ IsBefore w' y x
      which (inl k) = let o = before y r k in inr (record { next = o.next; follows = o.follows; above = omega (arith, o.above, e.leasts r, e.leasts x, came_least x i) })
      which (inr k) = inl (step k.0 k.1 k.2 (rise_next w.next w.least n more after e.new e.rises x i))

  -- so do any two live rows
  apart_on : (x y : ℕ) → IsLive ledger' x → IsLive ledger' y → (x ≡ y) ⊎ IsBefore w' x y ⊎ IsBefore w' y x
  apart_on x y a b = which (live_split x a) (live_split y b)
    where
      old : (x ≡ y) ⊎ IsBefore w x y ⊎ IsBefore w y x → (x ≡ y) ⊎ IsBefore w' x y ⊎ IsBefore w' y x
      old (inl q) = inl q
      old (inr (inl k)) = inr (inl (before x y k))
      old (inr (inr k)) = inr (inr (before y x k))

      swap : IsBefore w' y x ⊎ IsBefore w' x y → (x ≡ y) ⊎ IsBefore w' x y ⊎ IsBefore w' y x
      swap (inl k) = inr (inr k)
      swap (inr k) = inr (inl k)

      which : Came x ⊎ (IsLive ledger x × (Went x → ⊥)) → Came y ⊎ (IsLive ledger y × (Went y → ⊥)) → (x ≡ y) ⊎ IsBefore w' x y ⊎ IsBefore w' y x
      which (inl i) (inl j) = old (rise_apart w n more after e.new e.rises x y i j)
      which (inl i) (inr o) = inr (mixed x y i o.0 o.1)
      which (inr o) (inl j) = swap (mixed y x j o.0 o.1)
      which (inr o) (inr q) = old (c.apart x y o.0 q.0)

  -- the first row is live and has the least key 0
  first_on : (m : ℕ) × (w'.head ≡ Some m) × IsLive ledger' m × (w.least m ≡ 0)
  first_on = which p refl
    where
      which : (q : Option ℕ) → p ≡ q → (m : ℕ) × (w'.head ≡ Some m) × IsLive ledger' m × (w.least m ≡ 0)
      which None f =
          let q : c.first ≡ r = same_Some c.first r (sym c.leads ∙ subst (λ x. leads w x ≡ Some r) f e.found) in
          (n, subst (λ x. leads w' x ≡ Some n) f e.leads_on, e.come n (inl refl), e.least ∙ ap w.least (sym q) ∙ c.first_least)
      which (Some q) f =
          let t = p_before q (sym f) in
          (c.first, e.others None (λ g. let x : None ≡ Some q = g ∙ f in cc) ∙ c.leads, live_old c.first c.first_live (λ i. omega (arith, went_least c.first i, c.first_least, c.rises q r t.0 t.1)), c.first_least)

  -- the live rows are one list still
  pub chain_kept : Chain w' ledger'
  chain_kept = record {
    first = first_on.0;
    leads = first_on.1;
    first_live = first_on.2;
    first_least = e.leasts first_on.0 ∙ first_on.3;
    linked = λ x y a f. (live_leads x y a f).0;
    rises = λ x y a f. omega (arith, e.leasts x, e.leasts y, (live_leads x y a f).1);
    apart = apart_on;
  }

  -- Rows that a seat may name.

  -- a row that went now is held by each visit that is on
  went_held : (x : ℕ) → Went x → (s since : ℕ) → ledger.visits s ≡ Some since → WasHeld ledger' s x
  went_held x i s since f = record { since = since; dead = e.gone_dead x i; visits = e.visits s ∙ f; before = subst (λ g. since < g) (sym (e.gone_now x i)) (e.begun s since f) }

  -- a dead row stays so
  dead_old : (x : ℕ) → (ledger.fates x).status ≡ Dead → (Went x → ⊥) × (Came x → ⊥)
  dead_old x d = (λ i. not_dead (ledger.fates x).status (went_live x i) d, λ i. dead_infant (ledger.fates x).status d (e.infants x i))

  -- a dead row that was held is so still
  held_old : (s x : ℕ) → WasHeld ledger s x → WasHeld ledger' s x
  held_old s x h =
      let t = dead_old x h.dead in
      record { since = h.since; dead = e.status x t.0 t.1 ∙ h.dead; visits = e.visits s ∙ h.visits; before = subst (λ g. h.since < g) (sym (e.gone x t.0 t.1)) h.before }

  -- what a seat may name it may name still
  pub fresh_kept : (s x since : ℕ) → ledger.visits s ≡ Some since → IsFresh ledger s x → IsFresh ledger' s x
  fresh_kept s x since f (inl a) = which (in_or_not (r ∷ rest) x)
    where
      which : Went x ⊎ (Went x → ⊥) → IsFresh ledger' s x
      which (inl i) = inr (went_held x i s since f)
      which (inr d) = inl (live_old x a d)
  fresh_kept s x since f (inr h) = inr (held_old s x h)

  -- of a row that is held after the event: it is live, or it went now, or it was dead before
  record WasDead (s x : ℕ) : Type 0 where
    dead : (ledger.fates x).status ≡ Dead
    held : WasHeld ledger s x

  -- a dead row that is held went now, or was held before
  dead_split : (s x : ℕ) → WasHeld ledger' s x → Went x ⊎ WasDead s x
  dead_split s x h = which (in_or_not (r ∷ rest) x) (in_or_not (n ∷ more) x)
    where
      which : Went x ⊎ (Went x → ⊥) → Came x ⊎ (Came x → ⊥) → Went x ⊎ WasDead s x
      which (inl i) q = inl i
      which (inr d) (inl i) = (not_dead (ledger'.fates x).status (e.come x i) h.dead)
      which (inr d) (inr f) =
          let k : (ledger.fates x).status ≡ Dead = sym (e.status x d f) ∙ h.dead in
          inr (record { dead = k; held = record { since = h.since; dead = k; visits = sym (e.visits s) ∙ h.visits; before = subst (λ g. h.since < g) (e.gone x d f) h.before } })

  -- what is said of a held row and the one that it leads to
  record Good (x y : ℕ) : Type 0 where
    held : IsHeld ledger' y
    later : (ledger'.fates y).status ≡ Dead → ((ledger'.fates x).status ≡ Dead) × ((ledger'.fates x).gone ≤ (ledger'.fates y).gone)
    rises : w.least x < w.least y

  -- a live row is as good as is asked
  to_live : (x y : ℕ) → IsLive ledger' y → w.least x < w.least y → Good x y
  to_live x y a l = record { held = inl a; later = λ d. (not_dead (ledger'.fates y).status a d); rises = l }

  -- a row that went now leads to a row that went too, or to a live one
  went_good : (s x y : ℕ) → Went x → (since : ℕ) → ledger.visits s ≡ Some since → w'.next x ≡ Some y → Good x y
  went_good s x y i since f g = which (to_next w.next r rest after e.group x i)
    where
      k : w.next x ≡ Some y
      k = sym (went_same x i) ∙ g

      which : ((m : ℕ) × (w.next x ≡ Some m) × IsIn rest m) ⊎ (w.next x ≡ after) → Good x y
      which (inl m) =
          let j : Went y = inr (subst (IsIn rest) (same_Some m.0 y (sym m.1 ∙ k)) m.2) in
          record { held = inr (s, went_held y j s since f); later = λ d. (e.gone_dead x i, omega (arith, e.gone_now x i, e.gone_now y j)); rises = c.rises x y (went_live x i) k }
      which (inr q) = to_live x y (after_on y (sym q ∙ k)) (c.rises x y (went_live x i) k)

  module _ (o : Closed w ledger) where
    -- a row that was dead leads to a held row
    dead_good : (s x y : ℕ) → WasDead s x → w'.next x ≡ Some y → Good x y
    dead_good s x y d g = which (o.linked x y h k) (in_or_not (r ∷ rest) y)
      where
        h : IsHeld ledger x
        h = inr (s, d.held)

        old : (Went x → ⊥) × (Came x → ⊥)
        old = dead_old x d.dead

        same : w'.next x ≡ w.next x
        same = next_same x (λ f. not_dead (ledger.fates x).status (p_before x f).0 d.dead)

        k : w.next x ≡ Some y
        k = sym same ∙ g

        dead : (ledger'.fates x).status ≡ Dead
        dead = e.status x old.0 old.1 ∙ d.dead

        which : IsHeld ledger y → Went y ⊎ (Went y → ⊥) → Good x y
        which q (inl i) = record {
          held = inr (s, went_held y i s d.held.since d.held.visits);
          later = λ f. (dead, omega (arith, e.gone x old.0 old.1, e.gone_now y i, e.past x d.dead));
          rises = o.rises x y h k;
        }
        which (inl a) (inr f) = to_live x y (live_old y a f) (o.rises x y h k)
        which (inr q) (inr f) =
            let l = o.later x y h k q.1.dead in
            record {
              held = inr (q.0, held_old q.0 y q.1);
              later = λ u. (dead, omega (arith, l.1, e.gone x old.0 old.1, e.gone y f (dead_old y q.1.dead).1));
              rises = o.rises x y h k;
            }

    -- so does each held row
    good : (x y : ℕ) → IsHeld ledger' x → w'.next x ≡ Some y → Good x y
    good x y (inl a) f = let t = live_leads x y a f in to_live x y t.0 t.1
    good x y (inr h) f = which (dead_split h.0 x h.1)
      where
        which : Went x ⊎ WasDead h.0 x → Good x y
        which (inl i) = went_good h.0 x y i h.1.since (sym (e.visits h.0) ∙ h.1.visits) f
        which (inr d) = dead_good h.0 x y d f

    -- the end of a row's range
    bound_same : (q : Option ℕ) → bound w' q ≡ bound w q
    bound_same None = refl
    bound_same (Some y) = ap Some (e.leasts y)

    -- the range of a row that is not new ends where it did
    stays_bound : (x : ℕ) → IsHeld ledger x → (Came x → ⊥) → (ledger'.fates x).upper ≡ bound w' (w'.next x)
    stays_bound x h f = e.upper x f ∙ o.upper x h ∙ sym (bound_same (w.next x)) ∙ which (link_or_not p x)
      where
        which : (Some x ≡ p) ⊎ (Some x ≡ p → ⊥) → bound w' (w.next x) ≡ bound w' (w'.next x)
        which (inl g) = ap (bound w') (p_before x g).1 ∙ ap Some (e.leasts r ∙ sym e.least ∙ sym (e.leasts n)) ∙ ap (bound w') (sym (next_p x g))
        which (inr g) = ap (bound w') (sym (next_same x g))

    -- the range of each held row ends where the next one begins
    upper_on : (x : ℕ) → IsHeld ledger' x → (ledger'.fates x).upper ≡ bound w' (w'.next x)
    upper_on x (inl a) = which (live_split x a)
      where
        which : Came x ⊎ (IsLive ledger x × (Went x → ⊥)) → (ledger'.fates x).upper ≡ bound w' (w'.next x)
        which (inl i) = e.come_upper x i ∙ sym (bound_same (w.next x)) ∙ ap (bound w') (sym (came_same x i))
        which (inr q) = stays_bound x (inl q.0) (λ i. not_infant (ledger.fates x).status q.0 (e.infants x i))
    upper_on x (inr h) = which (dead_split h.0 x h.1)
      where
        which : Went x ⊎ WasDead h.0 x → (ledger'.fates x).upper ≡ bound w' (w'.next x)
        which (inl i) = stays_bound x (inl (went_live x i)) (λ j. not_infant (ledger.fates x).status (went_live x i) (e.infants x j))
        which (inr d) = stays_bound x (inr (h.0, d.held)) (dead_old x d.dead).1

    -- held rows lead to held rows still
    pub closed_kept : Closed w' ledger'
    closed_kept = record {
      linked = λ x y h f. (good x y h f).held;
      later = λ x y h f d. (good x y h f).later d;
      rises = λ x y h f. omega (arith, e.leasts x, e.leasts y, (good x y h f).rises);
      upper = upper_on;
    }

    -- Rows that hold a key.

    -- two live rows that hold a key are one
    one_row : (x y k : ℕ) → IsLive ledger x → IsLive ledger y → HoldsKey w ledger x k → HoldsKey w ledger y k → x ≡ y
    one_row x y k a b h j = which (c.apart x y a b)
      where
        early : (u v : ℕ) → IsLive ledger u → IsBefore w u v → HoldsKey w ledger u k → HoldsKey w ledger v k → ⊥
        early u v l s f g = omega (arith, f.below (w.least s.next) (o.upper u (inl l) ∙ ap (bound w) s.follows), s.above, g.from)

        which : (x ≡ y) ⊎ IsBefore w x y ⊎ IsBefore w y x → x ≡ y
        which (inl q) = q
        which (inr (inl s)) = absurd (early x y a s h j)
        which (inr (inr s)) = absurd (early y x b s j h)

    -- a key of a row that is not new was one before
    held_was : (x k : ℕ) → (Came x → ⊥) → HoldsKey w' ledger' x k → HoldsKey w ledger x k
    held_was x k d h = record { from = omega (arith, e.leasts x, h.from); below = λ u f. h.below u (e.upper x d ∙ f) }

    -- what a row was that is live or dead now, and is no new one
    was : (x : ℕ) → (Came x → ⊥) → IsLive ledger' x ⊎ ((ledger'.fates x).status ≡ Dead) → IsLive ledger x ⊎ ((ledger.fates x).status ≡ Dead)
    was x d s = which (in_or_not (r ∷ rest) x) s
      where
        which : Went x ⊎ (Went x → ⊥) → IsLive ledger' x ⊎ ((ledger'.fates x).status ≡ Dead) → IsLive ledger x ⊎ ((ledger.fates x).status ≡ Dead)
        which (inl i) q = inl (went_live x i)
        which (inr f) (inl a) = inl (sym (e.status x f d) ∙ a)
        which (inr f) (inr a) = inr (sym (e.status x f d) ∙ a)

    -- rows that share a key follow one another still
    pub follow_kept : Follows w ledger → Follows w' ledger'
    follow_kept f x y k dx sy hx hy d = go (in_or_not (n ∷ more) y)
      where
        new_x : Came x → ⊥
        new_x i = not_dead (ledger'.fates x).status (e.come x i) dx

        jx : HoldsKey w ledger x k
        jx = held_was x k new_x hx

        -- the row went now
        went : Went x → (Came y → ⊥) → IsLive ledger y ⊎ ((ledger.fates y).status ≡ Dead) → HoldsKey w ledger y k → ((ledger'.fates x).gone < (ledger'.fates y).born) ⊎ (((ledger'.fates y).status ≡ Dead) × ((ledger'.fates y).gone < (ledger'.fates x).born))
        went i g (inl a) h = absurd (d (one_row x y k (went_live x i) a jx h))
        went i g (inr a) h =
            let t = dead_old y a in
            let q : ((ledger.fates y).gone < (ledger.fates x).born) ⊎ (((ledger.fates x).status ≡ Dead) × ((ledger.fates x).gone < (ledger.fates y).born)) = f y x k a (inl (went_live x i)) h jx (λ u. d (sym u)) in
            inr (e.status y t.0 t.1 ∙ a, earlier q t.0)
          where
            earlier : ((ledger.fates y).gone < (ledger.fates x).born) ⊎ (((ledger.fates x).status ≡ Dead) × ((ledger.fates x).gone < (ledger.fates y).born)) → (Went y → ⊥) → (ledger'.fates y).gone < (ledger'.fates x).born
            earlier (inl u) t = omega (arith, u, e.gone y t g, e.born x new_x)
            earlier (inr u) t = (not_dead (ledger.fates x).status (went_live x i) u.0)

        -- the row went before
        gone : (Went x → ⊥) → (Came y → ⊥) → IsLive ledger y ⊎ ((ledger.fates y).status ≡ Dead) → HoldsKey w ledger y k → ((ledger'.fates x).gone < (ledger'.fates y).born) ⊎ (((ledger'.fates y).status ≡ Dead) × ((ledger'.fates y).gone < (ledger'.fates x).born))
        gone i g s h = which (f x y k (sym (e.status x i new_x) ∙ dx) s jx h d)
          where
            which : ((ledger.fates x).gone < (ledger.fates y).born) ⊎ (((ledger.fates y).status ≡ Dead) × ((ledger.fates y).gone < (ledger.fates x).born)) → ((ledger'.fates x).gone < (ledger'.fates y).born) ⊎ (((ledger'.fates y).status ≡ Dead) × ((ledger'.fates y).gone < (ledger'.fates x).born))
            which (inl u) = inl (omega (arith, u, e.gone x i new_x, e.born y g))
            which (inr u) = let t = dead_old y u.0 in inr (e.status y t.0 t.1 ∙ u.0, omega (arith, u.1, e.gone y t.0 t.1, e.born x new_x))

        -- when the row went that is dead now
        went_by : Went x ⊎ (Went x → ⊥) → (ledger'.fates x).gone ≤ now
        went_by (inl i) = omega (arith, e.gone_now x i)
        went_by (inr i) = omega (arith, e.gone x i new_x, e.past x (sym (e.status x i new_x) ∙ dx))

        other : (Came y → ⊥) → Went x ⊎ (Went x → ⊥) → ((ledger'.fates x).gone < (ledger'.fates y).born) ⊎ (((ledger'.fates y).status ≡ Dead) × ((ledger'.fates y).gone < (ledger'.fates x).born))
        other g (inl i) = went i g (was y g sy) (held_was y k g hy)
        other g (inr i) = gone i g (was y g sy) (held_was y k g hy)

        go : Came y ⊎ (Came y → ⊥) → ((ledger'.fates x).gone < (ledger'.fates y).born) ⊎ (((ledger'.fates y).status ≡ Dead) × ((ledger'.fates y).gone < (ledger'.fates x).born))
        go (inl i) = inl (omega (arith, e.come_born y i, went_by (in_or_not (r ∷ rest) x)))
        go (inr g) = other g (in_or_not (r ∷ rest) x)
