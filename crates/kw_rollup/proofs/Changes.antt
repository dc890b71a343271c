-- What is kept after a change, and that a bucket's points are few.
use Rattle.std.proofs.Common.{ℕ, suc, Bool, true, false, ◌≡◌, ◌≢◌, ◌<◌, ◌≤◌, ◌+◌, ◌-◌, ◌*◌, ◌^◌, cond, eqb, ltb, not, ◌==◌, List, [], ◌∷◌, length, sum, Option, Some, None, Result, Ok, Err, OnOk, OnErr, max, refl, sym, ap, ◌∙◌, inl, inr, subst, arith}
use Rattle.std.proofs.lemmas.Bool.{cases_eq, eq-eqb, ne_eqb, eqb-true, false≢true}
use Rattle.std.specs.List.{filter, sum_by}
use Rattle.std.specs.Ordering.{nat_cmp}
use Rattle.std.specs.BTreeMap.{BTreeMap, get, insert_entry, is_at}
use Rattle.std.specs.Map.{lookup, remove_entry}
use Rattle.std.specs.Option.{IsSome}
use Rattle.kw_model.proofs.Tree.{lookup_is, insert_is, remove_is}
use Rattle.std.proofs.lemmas.List.Sums.{sum_by-cons}
use Rattle.kw_model.specs.Map.{Pairs, RisesFrom, IsRising, value_of, put, without}
use Rattle.kw_model.specs.Values.{values}
use Rattle.kw_model.proofs.Pairs.{rises-put, rises-without, value-put, value-without, same_from_values}
use Rattle.kw_rollup.specs.declared.bucket.Bucket.{Bucket}
use Rattle.kw_rollup.specs.Kept.{first_of, values_at, IsKeptFor, IsKept, IsSmall, AreInRange, restored, with_old}
use Rattle.kw_rollup.proofs.Bags.{IsSameBag, kept_same, kept_along, small_same}
use Rattle.kw_rollup.proofs.Points.{bag-put_new, bag-put_over, bag-without, filter-put_other, filter-without_other}

-- the test for the keys of a bucket
abbrev pub in_bucket : ℕ → ℕ → ℕ → Bool
in_bucket width b key = first_of width key == b

-- the keys of a bucket lie within its width
pub first_le : (width key : ℕ) → first_of width key ≤ key
first_le width key = omega arith

pub first_near : (width key : ℕ) → 0 < width → key < first_of width key + width
first_near width key h = omega arith

-- so it has no more points than that
few : (width b low : ℕ) (m : Pairs) → 0 < width → RisesFrom low m → length (values_at width b m) ≤ (b + width) - max low b
few width b low [] h r = omega arith
few width b low (p ∷ m) h r = go (in_bucket width b p.0) refl (few width b (suc p.0) m h r.1)
  where
    go : (t : Bool) → in_bucket width b p.0 ≡ t → length (values_at width b m) ≤ (b + width) - max (suc p.0) b → length (values (cond t (p ∷ filter (λ q. in_bucket width b q.0) m) (filter (λ q. in_bucket width b q.0) m))) ≤ (b + width) - max low b
    go true e i =
        let b_is : first_of width p.0 ≡ b = eqb-true (first_of width p.0) b e in
        let near = first_near width p.0 h in
        let le = first_le width p.0 in
        let near' : p.0 < b + width = omega (arith, near, b_is) in
        let le' : b ≤ p.0 = omega (arith, le, b_is) in
        let low_le = r.0 in
        omega (arith, i, near', le', low_le)
    go false e i = let low_le = r.0 in omega (arith, i, low_le)

pub length-values_at-le : (width b : ℕ) (m : Pairs) → 0 < width → IsRising m → length (values_at width b m) ≤ width
length-values_at-le width b m h r = omega (arith, few width b 0 m h r)

-- and their sum is small
sum_low : (width b : ℕ) (m : Pairs) → AreInRange m → sum (values_at width b m) ≤ length (values_at width b m) * 2 ^ 64
sum_low width b [] a = omega arith
sum_low width b (p ∷ m) a = go (in_bucket width b p.0) (sum_low width b m a.1)
  where
    go : (t : Bool) → sum (values_at width b m) ≤ length (values_at width b m) * 2 ^ 64 → sum (values (cond t (p ∷ filter (λ q. in_bucket width b q.0) m) (filter (λ q. in_bucket width b q.0) m))) ≤ length (values (cond t (p ∷ filter (λ q. in_bucket width b q.0) m) (filter (λ q. in_bucket width b q.0) m))) * 2 ^ 64
    go true i =
        let s = sum_by-cons (λ (x : ℕ). x) p.1 (values_at width b m) in
        let low = a.0.1 in
        omega (arith, i, s, low)
    go false i = i

pub small_at : (width b : ℕ) (m : Pairs) (kept : BTreeMap ℕ Bucket) → IsKept width m kept → IsSmall (values_at width b m)
small_at width b m kept h =
    let l = length-values_at-le width b m h.some h.rising in
    let s = sum_low width b m h.in_range in
    let w = h.most in
    record { few = omega (arith, l, w); low = omega (arith, l, s, w) }

-- changes keep the ranges
pub range-put : (k v : ℕ) (m : Pairs) → k < 2 ^ 32 → v < 2 ^ 64 → AreInRange m → AreInRange (put k v m)
range-put k v [] h g a = ((h, g), tt)
range-put k v (p ∷ m) h g a = go (ltb k p.0) (eqb k p.0) (range-put k v m h g a.1)
  where
    go : (b c : Bool) → AreInRange (put k v m) → AreInRange (cond b ((k, v) ∷ p ∷ m) (cond c ((k, v) ∷ m) (p ∷ put k v m)))
    go true c i = ((h, g), a)
    go false true i = ((h, g), a.1)
    go false false i = (a.0, i)

pub range-without : (k : ℕ) (m : Pairs) → AreInRange m → AreInRange (without k m)
range-without k [] a = tt
range-without k (p ∷ m) a = go (not (eqb k p.0)) (range-without k m a.1)
  where
    go : (b : Bool) → AreInRange (without k m) → AreInRange (cond b (p ∷ without k m) (without k m))
    go true i = (a.0, i)
    go false i = i

-- no other bucket changes
pub record KeepsOthers (first : ℕ) (old new : BTreeMap ℕ Bucket) : Type 0 where
  pub others : (b : ℕ) → b ≢ first → get nat_cmp new b ≡ get nat_cmp old b

own : (width k : ℕ) → in_bucket width (first_of width k) k ≡ true
own width k = eq-eqb (first_of width k) (first_of width k) refl

others-put : (width k v b : ℕ) (m : Pairs) (old new : BTreeMap ℕ Bucket) → IsKept width m old → KeepsOthers (first_of width k) old new → b ≢ first_of width k → IsKeptFor (values_at width b (put k v m)) (get nat_cmp new b)
others-put width k v b m old new h o ne =
    let apart : in_bucket width b k ≡ false = ne_eqb (first_of width k) b (λ e. ne (sym e)) in
    kept_along _ _ _ _ (ap values (sym (filter-put_other (in_bucket width b) k v m apart))) (sym (o.others b ne)) (h.each b)

-- a put, whose bucket has the points' values again
kept-put : (width k v : ℕ) (m : Pairs) (old new : BTreeMap ℕ Bucket) → k < 2 ^ 32 → v < 2 ^ 64 → IsKept width m old → KeepsOthers (first_of width k) old new → IsKeptFor (values_at width (first_of width k) (put k v m)) (get nat_cmp new (first_of width k)) → IsKept width (put k v m) new
kept-put width k v m old new kl vl h o here = record {
  some = h.some;
  most = h.most;
  rising = rises-put 0 k v m (omega arith) h.rising;
  in_range = range-put k v m kl vl h.in_range;
  each = λ b. elim (cases_eq b (first_of width k)) [
    | inl e ↦ (let P : ℕ → Type 0 = λ c. IsKeptFor (values_at width c (put k v m)) (get nat_cmp new c) in subst P (sym e) here)
    | inr ne ↦ others-put width k v b m old new h o ne
  ];
}

-- a delete of a key that had a value
pub before-delete : (width k was : ℕ) (m : Pairs) (o : Option Bucket) → IsRising m → value_of k m ≡ Some was → IsKeptFor (values_at width (first_of width k) m) o → IsKeptFor (was ∷ values_at width (first_of width k) (without k m)) o
before-delete width k was m o r s h = kept_same _ _ o (bag-without (in_bucket width (first_of width k)) k was m (own width k) r s) h

pub kept-without : (width k : ℕ) (m : Pairs) (old new : BTreeMap ℕ Bucket) → IsKept width m old → KeepsOthers (first_of width k) old new → IsKeptFor (values_at width (first_of width k) (without k m)) (get nat_cmp new (first_of width k)) → IsKept width (without k m) new
kept-without width k m old new h o here = record {
  some = h.some;
  most = h.most;
  rising = rises-without 0 k m h.rising;
  in_range = range-without k m h.in_range;
  each = λ b. elim (cases_eq b (first_of width k)) [
    | inl e ↦ (let P : ℕ → Type 0 = λ c. IsKeptFor (values_at width c (without k m)) (get nat_cmp new c) in subst P (sym e) here)
    | inr ne ↦ (let apart : in_bucket width b k ≡ false = ne_eqb (first_of width k) b (λ e. ne (sym e)) in
        kept_along _ _ _ _ (ap values (sym (filter-without_other (in_bucket width b) k m apart))) (sym (o.others b ne)) (h.each b))
  ];
}

-- where the points are as they were and each bucket is still that of its points
pub kept-still : (width k : ℕ) (m : Pairs) (old new : BTreeMap ℕ Bucket) → IsKept width m old → KeepsOthers (first_of width k) old new → IsKeptFor (values_at width (first_of width k) m) (get nat_cmp new (first_of width k)) → IsKept width m new
kept-still width k m old new h o here = record {
  some = h.some;
  most = h.most;
  rising = h.rising;
  in_range = h.in_range;
  each = λ b. elim (cases_eq b (first_of width k)) [
    | inl e ↦ (let P : ℕ → Type 0 = λ c. IsKeptFor (values_at width c m) (get nat_cmp new c) in subst P (sym e) here)
    | inr ne ↦ kept_along (values_at width b m) (values_at width b m) _ _ refl (sym (o.others b ne)) (h.each b)
  ];
}

-- a delete of a key that has no value changes nothing
pub without_none : (k : ℕ) (m : Pairs) → value_of k m ≡ None → without k m ≡ m
without_none k [] n = refl
without_none k (p ∷ m) n = go (eqb k p.0) refl (without_none k m)
  where
    go : (c : Bool) → eqb k p.0 ≡ c → (value_of k m ≡ None → without k m ≡ m) → cond (not c) (p ∷ without k m) (without k m) ≡ p ∷ m
    go true f i = let x : Some p.1 ≡ None = rw f at n in cc
    go false f i = let x : value_of k m ≡ None = rw f at n in ap (λ r. p ∷ r) (i x)

-- a put undone
pub restored_is : (k v : ℕ) (was : Option ℕ) (m : Pairs) → IsRising m → was ≡ value_of k m → restored k was (put k v m) ≡ m
restored_is k v None m r s = same_from_values 0 0 (without k (put k v m)) m (rises-without 0 k (put k v m) (rises-put 0 k v m (omega arith) r)) r (λ q.
    let a = value-without q k (put k v m) in
    let b = value-put q k v m in
    elim (cases_eq q k) [
      | inl e ↦ (let f : eqb q k ≡ true = eq-eqb q k e in (rw f at a) ∙ s ∙ ap (λ x. value_of x m) (sym e))
      | inr ne ↦ (let f : eqb q k ≡ false = ne_eqb q k ne in (rw f at a) ∙ (rw f at b))
    ])
restored_is k v (Some o) m r s = same_from_values 0 0 (put k o (put k v m)) m (rises-put 0 k o (put k v m) (omega arith) (rises-put 0 k v m (omega arith) r)) r (λ q.
    let a = value-put q k o (put k v m) in
    let b = value-put q k v m in
    elim (cases_eq q k) [
      | inl e ↦ (let f : eqb q k ≡ true = eq-eqb q k e in (rw f at a) ∙ s ∙ ap (λ x. value_of x m) (sym e))
      | inr ne ↦ (let f : eqb q k ≡ false = ne_eqb q k ne in (rw f at a) ∙ (rw f at b))
    ])

-- ---- the same in the words of the calls

-- what a search finds is the value of the key
found_value : (k was : ℕ) (m : Pairs) → Some was ≡ lookup (is_at (nat_cmp k)) m → value_of k m ≡ Some was
found_value k was m e = sym (lookup_is k m) ∙ sym e

-- before a delete, the bucket has the value that goes
pub can_delete : (width k first was : ℕ) (m : Pairs) (kept : BTreeMap ℕ Bucket) → IsKept width m kept → first ≡ first_of width k → Some was ≡ lookup (is_at (nat_cmp k)) m → (vs : List ℕ) × IsKeptFor (was ∷ vs) (get nat_cmp kept first)
can_delete width k first was m kept h e s =
    let P : ℕ → Type 0 = λ b. IsKeptFor (was ∷ values_at width (first_of width k) (without k m)) (get nat_cmp kept b) in
    (values_at width (first_of width k) (without k m), subst P (sym e) (before-delete width k was m (get nat_cmp kept (first_of width k)) h.rising (found_value k was m s) (h.each (first_of width k))))

-- after it, all is kept
pub deleted : (width k first was : ℕ) (m m' : Pairs) (old new : BTreeMap ℕ Bucket) → IsKept width m old → first ≡ first_of width k → Some was ≡ lookup (is_at (nat_cmp k)) m → m' ≡ remove_entry (is_at (nat_cmp k)) m → ((vs : List ℕ) → IsKeptFor (was ∷ vs) (get nat_cmp old first) → IsKeptFor vs (get nat_cmp new first)) → ((b : ℕ) → b ≢ first → get nat_cmp new b ≡ get nat_cmp old b) → IsKept width m' new
deleted width k first was m m' old new h e s gone took others =
    let P : ℕ → Type 0 = λ b. ((vs : List ℕ) → IsKeptFor (was ∷ vs) (get nat_cmp old b) → IsKeptFor vs (get nat_cmp new b)) × ((c : ℕ) → c ≢ b → get nat_cmp new c ≡ get nat_cmp old c) in
    let here = subst P e (took, others) in
    let before = before-delete width k was m (get nat_cmp old (first_of width k)) h.rising (found_value k was m s) (h.each (first_of width k)) in
    let Q : Pairs → Type 0 = λ n. IsKept width n new in
    subst Q (sym (gone ∙ remove_is k 0 m h.rising)) (kept-without width k m old new h (record { others = here.1 }) (here.0 (values_at width (first_of width k) (without k m)) before))

-- the values of a bucket are the one that a key had, if any, and those of the other keys
old_among : (width k : ℕ) (was : Option ℕ) (m : Pairs) → IsRising m → value_of k m ≡ was → IsSameBag (values_at width (first_of width k) m) (with_old was (values_at width (first_of width k) (without k m)))
old_among width k None m r s = record { sums = λ f. ap (λ (n : Pairs). sum_by f (values_at width (first_of width k) n)) (sym (without_none k m s)) }
old_among width k (Some o) m r s = bag-without (in_bucket width (first_of width k)) k o m (own width k) r s

-- after a put they are the new one and those of the other keys
new_among : (width k v : ℕ) (was : Option ℕ) (m : Pairs) → IsRising m → value_of k m ≡ was → IsSameBag (v ∷ values_at width (first_of width k) (without k m)) (values_at width (first_of width k) (put k v m))
new_among width k v None m r s =
    let P : Pairs → Type 0 = λ n. IsSameBag (v ∷ values_at width (first_of width k) n) (values_at width (first_of width k) (put k v m)) in
    subst P (sym (without_none k m s)) (bag-put_new (in_bucket width (first_of width k)) k v m (own width k) s)
new_among width k v (Some o) m r s =
    let over = bag-put_over (in_bucket width (first_of width k)) k v o m (own width k) r s in
    let gone = bag-without (in_bucket width (first_of width k)) k o m (own width k) r s in
    let all = values_at width (first_of width k) m in
    let left = values_at width (first_of width k) (without k m) in
    let made = values_at width (first_of width k) (put k v m) in
    record { sums = λ f. omega (arith, over.sums f, gone.sums f, sum_by-cons f v all, sum_by-cons f o made, sum_by-cons f o left, sum_by-cons f v left) }

-- before a put, the bucket has the value that the key had, if any
pub can_put : (width k first : ℕ) (was : Option ℕ) (m : Pairs) (kept : BTreeMap ℕ Bucket) → IsKept width m kept → first ≡ first_of width k → was ≡ lookup (is_at (nat_cmp k)) m → (vs : List ℕ) × IsSmall (with_old was vs) × IsKeptFor (with_old was vs) (get nat_cmp kept first)
can_put width k first was m kept h e s =
    let left = values_at width (first_of width k) (without k m) in
    let same = old_among width k was m h.rising (sym (lookup_is k m) ∙ sym s) in
    let P : ℕ → Type 0 = λ b. IsKeptFor (with_old was left) (get nat_cmp kept b) in
    (left, small_same _ _ same (small_at width (first_of width k) m kept h), subst P (sym e) (kept_same _ _ (get nat_cmp kept (first_of width k)) same (h.each (first_of width k))))

-- after it, all is kept
pub put_made : (width k v first : ℕ) (was : Option ℕ) (m m' : Pairs) (old new : BTreeMap ℕ Bucket) → k < 2 ^ 32 → v < 2 ^ 64 → IsKept width m old → first ≡ first_of width k → was ≡ lookup (is_at (nat_cmp k)) m → m' ≡ insert_entry nat_cmp m k v → ((vs : List ℕ) → IsKeptFor (with_old was vs) (get nat_cmp old first) → IsKeptFor (v ∷ vs) (get nat_cmp new first)) → ((b : ℕ) → b ≢ first → get nat_cmp new b ≡ get nat_cmp old b) → IsKept width m' new
put_made width k v first was m m' old new kl vl h e s made came others =
    let P : ℕ → Type 0 = λ b. ((vs : List ℕ) → IsKeptFor (with_old was vs) (get nat_cmp old b) → IsKeptFor (v ∷ vs) (get nat_cmp new b)) × ((c : ℕ) → c ≢ b → get nat_cmp new c ≡ get nat_cmp old c) in
    let here = subst P e (came, others) in
    let value = sym (lookup_is k m) ∙ sym s in
    let before = kept_same _ _ (get nat_cmp old (first_of width k)) (old_among width k was m h.rising value) (h.each (first_of width k)) in
    let after = kept_same _ _ (get nat_cmp new (first_of width k)) (new_among width k v was m h.rising value) (here.0 (values_at width (first_of width k) (without k m)) before) in
    let Q : Pairs → Type 0 = λ n. IsKept width n new in
    subst Q (sym (made ∙ insert_is k v m)) (kept-put width k v m old new kl vl h (record { others = here.1 }) after)

-- a put that is undone
pub undone : (width k v first : ℕ) (was : Option ℕ) (m m' m'' : Pairs) (old new : BTreeMap ℕ Bucket) → IsKept width m old → first ≡ first_of width k → was ≡ lookup (is_at (nat_cmp k)) m → m' ≡ insert_entry nat_cmp m k v → m'' ≡ restored k was m' → m'' ≡ m
undone width k v first was m m' m'' old new h e s made back =
    back ∙ (ap (restored k was) (made ∙ insert_is k v m) ∙ restored_is k v was m h.rising (s ∙ lookup_is k m))

pub kept_undone : (width first k : ℕ) (m m'' : Pairs) (old new : BTreeMap ℕ Bucket) → IsKept width m old → first ≡ first_of width k → m'' ≡ m → ((vs : List ℕ) → IsKeptFor vs (get nat_cmp old first) → IsKeptFor vs (get nat_cmp new first)) → ((b : ℕ) → b ≢ first → get nat_cmp new b ≡ get nat_cmp old b) → IsKept width m'' new
kept_undone width first k m m'' old new h e back stays others =
    let P : ℕ → Type 0 = λ b. ((vs : List ℕ) → IsKeptFor vs (get nat_cmp old b) → IsKeptFor vs (get nat_cmp new b)) × ((c : ℕ) → c ≢ b → get nat_cmp new c ≡ get nat_cmp old c) in
    let here = subst P e (stays, others) in
    let Q : Pairs → Type 0 = λ n. IsKept width n new in
    subst Q (sym back) (kept-still width k m old new h (record { others = here.1 }) (here.0 (values_at width (first_of width k) m) (h.each (first_of width k))))

-- the points while a put is half done
pub rises_inserted : (width k v : ℕ) (m m' : Pairs) (old : BTreeMap ℕ Bucket) → IsKept width m old → m' ≡ insert_entry nat_cmp m k v → IsRising m'
rises_inserted width k v m m' old h made =
    let P : Pairs → Type 0 = λ n. IsRising n in
    subst P (sym (made ∙ insert_is k v m)) (rises-put 0 k v m (omega arith) h.rising)

-- an insert at a key that is there does not fail
pub there : {X E : Type 0} (r : Result X E) (G : Type 0) (o : Option ℕ) → IsSome o → OnErr r (o ≡ None) → OnOk r G → G
there (Ok x) G o s a g = g
there (Err e) G o s a g = let P : Option ℕ → Type 0 = λ p. IsSome p in absurd (false≢true (subst P a s))
