-- An event that leaves what a seat may name as it was keeps the list of rows, and what held rows
-- lead to.
use Rattle.std.proofs.Common.{ℕ, suc, ◌≡◌, ◌⊎◌, inl, inr, ◌<◌, ◌≤◌, Option, Some, None, arith, refl, sym, ◌∙◌, ap, subst}
use Rattle.kw_rows.specs.Ledger.{Ledger, Fate, IsLive, IsDead, IsFresh, IsHeld, WasHeld, Past}
use Rattle.kw_rows.specs.Rows.{Rows, Chain, Closed, Follows, HoldsKey, IsBefore, WasLinked, bound}
use Rattle.kw_rows.proofs.Statuses.{not_dead}

-- a row that was held, or is linked or dead after the event, has the words that the list reads and
-- the fate that it had
pub record Frames (w w' : Rows) (ledger ledger' : Ledger) : Type 0 where
  pub head : w'.head ≡ w.head
  pub next : (x : ℕ) → WasLinked ledger x → w'.next x ≡ w.next x
  pub least : (x : ℕ) → WasLinked ledger x → w'.least x ≡ w.least x
  pub was : (x : ℕ) → WasLinked ledger' x → ledger'.fates x ≡ ledger.fates x
  pub stays : (x : ℕ) → IsHeld ledger x → ledger'.fates x ≡ ledger.fates x
  -- a visit that is on after it was on before it, or holds no dead row
  pub visits : (t since x : ℕ) → ledger'.visits t ≡ Some since → IsDead ledger x → since < (ledger.fates x).gone → ledger.visits t ≡ Some since

module _ (w w' : Rows) (ledger ledger' : Ledger) (e : Frames w w' ledger ledger') where
  -- a row that is held was linked once
  held_linked : (x : ℕ) → IsHeld ledger x → WasLinked ledger x
  held_linked x (inl a) = inl a
  held_linked x (inr h) = inr h.1.dead

  -- a live row is so still
  live_on : (x : ℕ) → IsLive ledger x → IsLive ledger' x
  live_on x a = ap (λ (f : Fate). f.status) (e.stays x (inl a)) ∙ a

  -- a row that is live was so
  live_was : (x : ℕ) → IsLive ledger' x → IsLive ledger x
  live_was x a = ap (λ (f : Fate). f.status) (sym (e.was x (inl a))) ∙ a

  -- and one that is dead
  dead_was : (x : ℕ) → IsDead ledger' x → IsDead ledger x
  dead_was x a = ap (λ (f : Fate). f.status) (sym (e.was x (inr a))) ∙ a

  -- and one that was linked
  linked_was : (x : ℕ) → WasLinked ledger' x → WasLinked ledger x
  linked_was x (inl a) = inl (live_was x a)
  linked_was x (inr a) = inr (dead_was x a)

  -- a dead row that a seat may name is one that it could name before
  held_was : (t x : ℕ) → WasHeld ledger' t x → WasHeld ledger t x
  held_was t x h =
      let f = e.was x (inr h.dead) in
      let d : IsDead ledger x = dead_was x h.dead in
      let b : h.since < (ledger.fates x).gone = subst (λ (k : Fate). h.since < k.gone) f h.before in
      record { since = h.since; dead = d; visits = e.visits t h.since x h.visits d b; before = b }

  -- no more rows are held
  pub was : (x : ℕ) → IsHeld ledger' x → IsHeld ledger x
  was x (inl a) = inl (live_was x a)
  was x (inr h) = inr (h.0, held_was h.0 x h.1)

  -- the list is as it was
  pub chain_framed : Chain w ledger → Chain w' ledger'
  chain_framed c = record {
    first = c.first;
    leads = e.head ∙ c.leads;
    first_live = live_on c.first c.first_live;
    first_least = e.least c.first (inl c.first_live) ∙ c.first_least;
    linked = λ x y a f. live_on y (c.linked x y (live_was x a) (to x y (live_was x a) f));
    rises = λ x y a f.
        let b = live_was x a in
        let k = to x y b f in
        omega (arith, e.least x (inl b), e.least y (inl (c.linked x y b k)), c.rises x y b k);
    apart = λ x y a b. which x y (live_was x a) (live_was y b) (c.apart x y (live_was x a) (live_was y b));
  }
    where
      to : (x y : ℕ) → IsLive ledger x → w'.next x ≡ Some y → w.next x ≡ Some y
      to x y a f = sym (e.next x (inl a)) ∙ f

      before : (x y : ℕ) → IsLive ledger x → IsLive ledger y → IsBefore w x y → IsBefore w' x y
      before x y a b o = record { next = o.next; follows = e.next x (inl a) ∙ o.follows; above = omega (arith, o.above, e.least y (inl b), e.least o.next (inl (c.linked x o.next a o.follows))) }

      which : (x y : ℕ) → IsLive ledger x → IsLive ledger y → (x ≡ y) ⊎ IsBefore w x y ⊎ IsBefore w y x → (x ≡ y) ⊎ IsBefore w' x y ⊎ IsBefore w' y x
      which x y a b (inl q) = inl q
      which x y a b (inr (inl o)) = inr (inl (before x y a b o))
      which x y a b (inr (inr o)) = inr (inr (before y x b a o))

  -- held rows lead to held rows still
  pub closed_framed : Closed w ledger → Closed w' ledger'
  closed_framed c = record {
    linked = linked;
    later = later;
    rises = λ x y h f.
        let b = was x h in
        let k = to x y b f in
        omega (arith, e.least x (held_linked x b), e.least y (held_linked y (c.linked x y b k)), c.rises x y b k);
    upper = upper;
  }
    where
      to : (x y : ℕ) → IsHeld ledger x → w'.next x ≡ Some y → w.next x ≡ Some y
      to x y a f = sym (e.next x (held_linked x a)) ∙ f

      -- what a held row leads to is held by the same seat
      linked : (x y : ℕ) → IsHeld ledger' x → w'.next x ≡ Some y → IsHeld ledger' y
      linked x y h f = which (c.linked x y (was x h) k) h
        where
          k : w.next x ≡ Some y
          k = to x y (was x h) f

          dead : IsHeld ledger y → IsDead ledger y → IsHeld ledger' x → IsHeld ledger' y
          dead b d (inl a) = not_dead (ledger.fates x).status (live_was x a) (c.later x y (was x h) k d).0
          dead b d (inr u) =
              let s = e.stays y b in
              let l = (c.later x y (was x h) k d).1 in
              inr (
                u.0,
                record {
                  since = u.1.since;
                  dead = ap (λ (t : Fate). t.status) s ∙ d;
                  visits = u.1.visits;
                  before = omega (arith, (held_was u.0 x u.1).before, l, ap (λ (t : Fate). t.gone) s, u.1.before, ap (λ (t : Fate). t.gone) (e.was x (inr u.1.dead)));
                },
              )

          which : IsHeld ledger y → IsHeld ledger' x → IsHeld ledger' y
          which (inl a) u = inl (live_on y a)
          which (inr b) u = dead (inr b) b.1.dead u

      later : (x y : ℕ) → IsHeld ledger' x → w'.next x ≡ Some y → IsDead ledger' y → IsDead ledger' x × ((ledger'.fates x).gone ≤ (ledger'.fates y).gone)
      later x y h f d =
          let b = was x h in
          let l = c.later x y b (to x y b f) (dead_was y d) in
          let s = e.stays x b in
          let q = ap (λ (t : Fate). t.gone) s in
          let v = ap (λ (t : Fate). t.gone) (e.was y (inr d)) in
          (ap (λ (t : Fate). t.status) s ∙ l.0, omega (arith, l.1, q, v))

      bound_same : (x : ℕ) → IsHeld ledger x → (n : Option ℕ) → w.next x ≡ n → bound w' n ≡ bound w n
      bound_same x h None f = refl
      bound_same x h (Some y) f = ap Some (e.least y (held_linked y (c.linked x y h f)))

      upper : (x : ℕ) → IsHeld ledger' x → (ledger'.fates x).upper ≡ bound w' (w'.next x)
      upper x h =
          let b = was x h in
          ap (λ (t : Fate). t.upper) (e.stays x b) ∙ c.upper x b ∙ sym (bound_same x b (w.next x) refl) ∙ ap (bound w') (sym (e.next x (held_linked x b)))

  -- rows that share a key follow one another still
  pub follows_framed : Follows w ledger → Follows w' ledger'
  follows_framed f x y key d l h j n = which (f x y key (dead_was x d) (linked_was y l) (holds x (inr d) h) (holds y l j) n)
    where
      fx : ledger'.fates x ≡ ledger.fates x
      fx = e.was x (inr d)

      fy : ledger'.fates y ≡ ledger.fates y
      fy = e.was y l

      holds : (z : ℕ) → WasLinked ledger' z → HoldsKey w' ledger' z key → HoldsKey w ledger z key
      holds z a k = record { from = omega (arith, e.least z (linked_was z a), k.from); below = λ u v. k.below u (ap (λ (t : Fate). t.upper) (e.was z a) ∙ v) }

      gone : (z : ℕ) → ledger'.fates z ≡ ledger.fates z → (ledger'.fates z).gone ≡ (ledger.fates z).gone
      gone z q = ap (λ (t : Fate). t.gone) q

      born : (z : ℕ) → ledger'.fates z ≡ ledger.fates z → (ledger'.fates z).born ≡ (ledger.fates z).born
      born z q = ap (λ (t : Fate). t.born) q

      which : ((ledger.fates x).gone < (ledger.fates y).born) ⊎ IsDead ledger y × ((ledger.fates y).gone < (ledger.fates x).born) → ((ledger'.fates x).gone < (ledger'.fates y).born) ⊎ IsDead ledger' y × ((ledger'.fates y).gone < (ledger'.fates x).born)
      which (inl k) = inl (omega (arith, k, gone x fx, born y fy))
      which (inr k) = inr (ap (λ (t : Fate). t.status) fy ∙ k.0, omega (arith, k.1, gone y fy, born x fx))

  -- a row stays fresh to a seat while its visit goes on
  pub fresh_framed : (t since x : ℕ) → ledger.visits t ≡ Some since → ledger'.visits t ≡ Some since → IsFresh ledger t x → IsFresh ledger' t x
  fresh_framed t since x p q (inl a) = inl (live_on x a)
  fresh_framed t since x p q (inr h) =
      let s = e.stays x (inr (t, h)) in
      inr (record { since = h.since; dead = ap (λ (k : Fate). k.status) s ∙ h.dead; visits = q ∙ sym p ∙ h.visits; before = subst (λ (k : Fate). h.since < k.gone) (sym s) h.before })

  -- what is recorded stays past, where no more is recorded
  pub past_framed : (now : ℕ) → Past ledger now → ((t since : ℕ) → ledger'.visits t ≡ Some since → since < suc now) → ((m at : ℕ) → ledger'.numbered m ≡ Some at → at < suc now) → Past ledger' (suc now)
  past_framed now b begun drawn = record {
    gone = λ x d. omega (arith, ap (λ (k : Fate). k.gone) (e.was x (inr d)), b.gone x (dead_was x d));
    begun = begun;
    drawn = drawn;
  }
