-- The gap of a get that found nothing, from the lists of all puts and of all deletes, split at the
-- get's first event.
use Rattle.std.proofs.Common.{ℕ, ◌≡◌, ◌-◌, ◌<◌, ◌≤◌, ◌⊎◌, inl, inr, List, Option, Some, None, arith, sym, ◌∙◌, ap, subst, length, get_or, refl, true, false, is_some}
use Rattle.std.proofs.lemmas.Bool.{cases_lt, cases_eq}
use Rattle.std.proofs.lemmas.Option.{same_Some}
use Rattle.kw_core.specs.History.{History, attempt}
use Rattle.kw_core.specs.HistoryLaws.{HistoryLaws, IsPutOf, StandsBefore}
use Rattle.kw_order.specs.Order.{IsPoint, Serves, GapBefore, IsFirstGap}
use Rattle.kw_order.specs.declared.puts.StampedPut.{StampedPut}
use Rattle.kw_order.specs.Puts.{put_at, AreAllPuts, AreAllDeletes, IsListed, HavePoints, IsSplit, HasGap}
use Rattle.kw_order.proofs.PutPoints.{point_order, point_unique}
use Rattle.kw_order.proofs.Keys.{not_upto, IsAfter, past_gap}
use Rattle.kw_order.proofs.Gaps.{Clears, serves_from, serves_clears, first_gap}
use Rattle.kw_order.proofs.PutLists.{list_before, keys_rise}

-- what a test of a value says
pub none_of : (o : Option ℕ) → is_some o ≡ false → o ≡ None
none_of None e = refl
none_of (Some v) e = let z : true ≡ false = e in cc

-- the other way
pub some_of : (o : Option ℕ) → is_some o ≡ true → (v : ℕ) × (o ≡ Some v)
some_of None e = let z : false ≡ true = e in cc
some_of (Some v) e = (v, refl)

module _ (h : History) (l : HistoryLaws h) (puts : List StampedPut) (points : List ℕ) (a : AreAllPuts h puts) (b : HavePoints h points) (key f n : ℕ) (s : IsSplit puts points key f n) where
  -- the point of a listed put
  has_point : (i : ℕ) → i < length puts → IsPoint h (put_at puts i).place (get_or points (put_at puts i).place 0)
  has_point i w = b.each (put_at puts i).place (a.are.each i w).is_put

  -- a put of the key past the split has its point after f
  past_point : (i c : ℕ) → n ≤ i → i < length puts → (put_at puts i).key ≡ key → IsPoint h (put_at puts i).place c → f < c
  past_point i c w v k p = which (cases_lt f c)
    where
      which : (f < c) ⊎ (c ≤ f) → f < c
      which (inl x) = x
      which (inr x) = let e = point_unique h (put_at puts i).place c _ p (has_point i v) in absurd (s.past i w v (inr (k, omega (arith, e, x))))

  -- where all puts of the key after a gap are past the split, the gap's puts are after f
  past_clears : (o : Option ℕ) → ((i : ℕ) → i < length puts → i < n → (put_at puts i).key ≡ key → IsAfter h key o (put_at puts i).place → ⊥) → Clears h key f o
  past_clears o none q c t p = at (a.every q t.put.is_put)
    where
      at : IsListed puts q → f < c
      at (i, w, e) = which (cases_lt i n)
        where
          k : (put_at puts i).key ≡ key
          k = (a.are.each i w).key ∙ ap (λ u. (attempt h u).key) e ∙ t.put.key

          which : (i < n) ⊎ (n ≤ i) → f < c
          which (inl x) = absurd (none i w x k (subst (IsAfter h key o) (sym e) t))
          which (inr x) = past_point i c x w k (subst (λ u. IsPoint h u c) (sym e) p)

  -- no put of the key is reached: the get stands before all of them
  pub none_reached : ((i : ℕ) → i < n → (put_at puts i).key ≡ key → ⊥) → HasGap h key f None
  none_reached none = (None, record { serves = serves_from h key f None tt refl (past_clears None (λ i w v k t. none i v k)); first = λ other m z. z }, λ p c e. let z : None ≡ Some p = e in absurd (cc))

  -- where the last put before the split is of another key, none is
  pub other_key : 0 < n → ((put_at puts (n - 1)).key ≡ key → ⊥) → HasGap h key f None
  other_key w m = none_reached (λ i v k. at i v k (s.until (n - 1) (omega arith)))
    where
      at : (i : ℕ) → i < n → (put_at puts i).key ≡ key → ((put_at puts (n - 1)).key < key) ⊎ (((put_at puts (n - 1)).key ≡ key) × (get_or points (put_at puts (n - 1)).place 0 ≤ f)) → ⊥
      at i v k (inl x) = omega (arith, x, k, keys_rise h puts a.are i (n - 1) (omega arith) (omega (arith, s.within)))
      at i v k (inr x) = m x.0

  -- the last put that is reached
  record IsLastReached (p : ℕ) : Type 0 where
    some : 0 < n
    is : (put_at puts (n - 1)).place ≡ p
    key_is : (put_at puts (n - 1)).key ≡ key

  -- it is in the list
  last_within : (p : ℕ) → IsLastReached p → n - 1 < length puts
  last_within p r = omega (arith, r.some, s.within)

  -- it is a put of the key
  last_put : (p : ℕ) → IsLastReached p → IsPutOf h key p
  last_put p r = let e = a.are.each (n - 1) (last_within p r) in subst (IsPutOf h key) r.is (record { is_put = e.is_put; key = sym e.key ∙ r.key_is })

  -- its point is not after f
  last_reached : (p c : ℕ) → IsLastReached p → IsPoint h p c → c ≤ f
  last_reached p c r i = at (s.until (n - 1) (omega (arith, r.some)))
    where
      at : ((put_at puts (n - 1)).key < key) ⊎ (((put_at puts (n - 1)).key ≡ key) × (get_or points (put_at puts (n - 1)).place 0 ≤ f)) → c ≤ f
      at (inl x) = absurd (omega (arith, x, r.key_is))
      at (inr x) = let e = point_unique h p c _ i (subst (λ u. IsPoint h u (get_or points (put_at puts (n - 1)).place 0)) r.is (has_point (n - 1) (last_within p r))) in omega (arith, e, x.1)

  -- no gap before it serves
  no_earlier : (p : ℕ) → IsLastReached p → (other : Option ℕ) → Serves h key f other → GapBefore h other (Some p) → ⊥
  no_earlier p r other m z = omega (arith, last_reached p _ r (b.each p (last_put p r).is_put), serves_clears h l key f other m p _ (after other z) (b.each p (last_put p r).is_put))
    where
      after : (other : Option ℕ) → GapBefore h other (Some p) → IsAfter h key other p
      after None z = record { put = last_put p r; after = λ x. x }
      after (Some q) z = record { put = last_put p r; after = not_upto h q p z }

  -- what is listed before the split, and of the key, is it or stands before it
  upto_last : (p : ℕ) → IsLastReached p → (i : ℕ) → i < n → (put_at puts i).key ≡ key → ((put_at puts i).place ≡ p) ⊎ StandsBefore h (put_at puts i).place p
  upto_last p r i v k = which (cases_lt i (n - 1))
    where
      which : (i < n - 1) ⊎ (n - 1 ≤ i) → ((put_at puts i).place ≡ p) ⊎ StandsBefore h (put_at puts i).place p
      which (inl x) = inr (subst (λ u. StandsBefore h (put_at puts i).place u) r.is (list_before h puts a.are i (n - 1) x (last_within p r) (k ∙ sym r.key_is)))
      which (inr x) = let e : i ≡ n - 1 = omega arith in inl (ap (λ u. (put_at puts u).place) e ∙ r.is)

  -- it is a delete: the get stands behind it, at its own first event
  delete_reached : (p : ℕ) → IsLastReached p → (attempt h p).value ≡ None → HasGap h key f None
  delete_reached p r v = (Some p, record { serves = serves_from h key f (Some p) (last_put p r) v (past_clears (Some p) (λ i w x k t. t.after (upto_last p r i x k))); first = no_earlier p r }, λ q c e i. last_reached q c (subst IsLastReached (same_Some p q e) r) i)

  -- in the words of the code
  pub after_delete : 0 < n → (put_at puts (n - 1)).key ≡ key → is_some (attempt h (put_at puts (n - 1)).place).value ≡ false → HasGap h key f None
  after_delete w k v = delete_reached (put_at puts (n - 1)).place (record { some = w; is = refl; key_is = k }) (none_of (attempt h (put_at puts (n - 1)).place).value v)

  -- the first gap is behind a delete past the split
  record IsPastDelete (g : ℕ) : Type 0 where
    gap : IsFirstGap h key f (Some g)
    place : ℕ
    within : place < length puts
    is : (put_at puts place).place ≡ g
    past : n ≤ place

  -- where the last put that is reached shows a value
  first_past : (p v : ℕ) → IsLastReached p → (attempt h p).value ≡ Some v → (o : Option ℕ) × Serves h key f o → (g : ℕ) × IsPastDelete g
  first_past p v r e (o, m) = which (first_gap h l key f o m)
    where
      which : (g : Option ℕ) × IsFirstGap h key f g → (g : ℕ) × IsPastDelete g
      which (None, i) = absurd (no_earlier p r None i.serves tt)
      which (Some g, i) = at (a.every g i.serves.gap.is_put)
        where
          at : IsListed puts g → (g : ℕ) × IsPastDelete g
          at (j, w, q) = side (cases_lt j n)
            where
              k : (put_at puts j).key ≡ key
              k = (a.are.each j w).key ∙ ap (λ u. (attempt h u).key) q ∙ i.serves.gap.key

              not_it : (g ≡ p) ⊎ StandsBefore h g p → ⊥
              not_it (inl x) = let y : None ≡ Some v = sym i.serves.shows ∙ ap (λ u. (attempt h u).value) x ∙ e in cc
              not_it (inr x) = no_earlier p r (Some g) i.serves x

              side : (j < n) ⊎ (n ≤ j) → (g : ℕ) × IsPastDelete g
              side (inl x) = absurd (not_it (subst (λ u. (u ≡ p) ⊎ StandsBefore h u p) q (upto_last p r j x k)))
              side (inr x) = (g, record { gap = i; place = j; within = w; is = q; past = x })

  -- a delete whose point is after f serves
  later_serves : (d : ℕ) → IsPutOf h key d → (attempt h d).value ≡ None → (c : ℕ) → IsPoint h d c → f < c → Serves h key f (Some d)
  later_serves d t v c i w = serves_from h key f (Some d) t v (λ q e u j. let o = point_order h l d q c e t.is_put u.put.is_put (t.key ∙ sym u.put.key) (past_gap h l d q t.is_put u.put.is_put u.after) i j in omega (arith, o.0, w))

  module _ (deletes : List StampedPut) (d : AreAllDeletes h deletes) (m : ℕ) (t : IsSplit deletes points key f m) where
    -- a delete of the key with its point after f is listed past the split of the deletes
    delete_listed : (g : ℕ) → IsPastDelete g → (j : ℕ) × (m ≤ j) × (j < length deletes) × ((put_at deletes j).place ≡ g)
    delete_listed g x = at (d.every g x.gap.serves.gap.is_put x.gap.serves.shows)
      where
        at : IsListed deletes g → (j : ℕ) × (m ≤ j) × (j < length deletes) × ((put_at deletes j).place ≡ g)
        at (j, w, e) = which (cases_lt j m)
          where
            k : (put_at deletes j).key ≡ key
            k = (d.are.each j w).key ∙ ap (λ u. (attempt h u).key) e ∙ x.gap.serves.gap.key

            late : f < get_or points g 0
            late = past_point x.place _ x.past x.within ((a.are.each x.place x.within).key ∙ ap (λ u. (attempt h u).key) x.is ∙ x.gap.serves.gap.key) (subst (λ u. IsPoint h u (get_or points g 0)) (sym x.is) (b.each g x.gap.serves.gap.is_put))

            not_until : ((put_at deletes j).key < key) ⊎ (((put_at deletes j).key ≡ key) × (get_or points (put_at deletes j).place 0 ≤ f)) → ⊥
            not_until (inl y) = omega (arith, y, k)
            not_until (inr y) = omega (arith, y.1, late, ap (λ u. get_or points u 0) e)

            which : (j < m) ⊎ (m ≤ j) → (j : ℕ) × (m ≤ j) × (j < length deletes) × ((put_at deletes j).place ≡ g)
            which (inl y) = absurd (not_until (t.until j y))
            which (inr y) = (j, y, w, e)

    -- so the first delete past that split is there, and the gap is behind it
    record IsFirstDelete (g : ℕ) : Type 0 where
      within : m < length deletes
      is : (put_at deletes m).place ≡ g
      late : f < get_or points g 0

    first_delete : (g : ℕ) → IsPastDelete g → IsFirstDelete g
    first_delete g x = at (delete_listed g x)
      where
        at : (j : ℕ) × (m ≤ j) × (j < length deletes) × ((put_at deletes j).place ≡ g) → IsFirstDelete g
        at (j, y, w, e) = which (cases_lt m j)
          where
            within : m < length deletes
            within = omega arith

            k : (put_at deletes j).key ≡ key
            k = (d.are.each j w).key ∙ ap (λ u. (attempt h u).key) e ∙ x.gap.serves.gap.key

            up : (put_at deletes m).key ≤ key
            up = omega (arith, keys_rise h deletes d.are m j y w, k)

            -- the first one past the split is of the key, and its point is after f
            same : (put_at deletes m).key ≡ key
            same = in_key (cases_eq (put_at deletes m).key key)
              where
                in_key : ((put_at deletes m).key ≡ key) ⊎ ((put_at deletes m).key ≡ key → ⊥) → (put_at deletes m).key ≡ key
                in_key (inl z) = z
                in_key (inr z) = absurd (t.past m (omega arith) within (inl (omega (arith, up, z))))

            late : f < get_or points (put_at deletes m).place 0
            late = in_time (cases_lt f (get_or points (put_at deletes m).place 0))
              where
                in_time : (f < get_or points (put_at deletes m).place 0) ⊎ (get_or points (put_at deletes m).place 0 ≤ f) → f < get_or points (put_at deletes m).place 0
                in_time (inl z) = z
                in_time (inr z) = absurd (t.past m (omega arith) within (inr (same, z)))

            its : IsPutOf h key (put_at deletes m).place
            its = record { is_put = (d.are.each m within).is_put; key = sym (d.are.each m within).key ∙ same }

            which : (m < j) ⊎ (j ≤ m) → IsFirstDelete g
            which (inl z) = absurd (x.gap.first (Some (put_at deletes m).place) (later_serves (put_at deletes m).place its (d.delete m within) _ (b.each _ its.is_put) late) (subst (λ u. StandsBefore h (put_at deletes m).place u) e (list_before h deletes d.are m j z w (same ∙ sym k))))
            which (inr z) = let q : m ≡ j = omega arith in let r : (put_at deletes m).place ≡ g = ap (λ u. (put_at deletes u).place) q ∙ e in
                record { within = within; is = r; late = omega (arith, late, ap (λ u. get_or points u 0) r) }

    -- the last put that is reached shows a value: the get stands behind the first later delete
    value_reached : (p v : ℕ) → IsLastReached p → (attempt h p).value ≡ Some v → (o : Option ℕ) × Serves h key f o → (m < length deletes) × HasGap h key f (Some (put_at deletes m).place)
    value_reached p v r e o = let g = first_past p v r e o in let x = first_delete g.0 g.1 in
        (x.within, subst (λ u. HasGap h key f (Some u)) (sym x.is) (g.1.gap, λ c i. omega (arith, x.late, point_unique h g.0 c _ i (b.each g.0 g.1.gap.serves.gap.is_put))))

    -- in the words of the code
    pub after_value : 0 < n → (put_at puts (n - 1)).key ≡ key → is_some (attempt h (put_at puts (n - 1)).place).value ≡ true → (o : Option ℕ) × Serves h key f o → (m < length deletes) × HasGap h key f (Some (put_at deletes m).place)
    after_value w k v o = let x = some_of (attempt h (put_at puts (n - 1)).place).value v in value_reached (put_at puts (n - 1)).place x.0 (record { some = w; is = refl; key_is = k }) x.1 o
