-- The buckets of points are those that are kept, in the order of their first keys.
use Rattle.std.proofs.Common.{ℕ, zero, suc, Bool, true, false, ◌≡◌, ◌<◌, ◌≤◌, ◌+◌, ◌-◌, ◌*◌, ◌/◌, ◌^◌, cond, ltb, leb, ◌&&◌, ◌==◌, List, [], ◌∷◌, ◌++◌, length, map, inl, inr, Option, Some, None, refl, sym, ap, subst, ◌∙◌, arith}
use Rattle.std.proofs.lemmas.Bool.{cases_lt, and_parts, and_from, le-leb, lt-ltb, leb-true, ltb-true, eqb-true, eq-eqb}
use Rattle.std.proofs.lemmas.Bool.Decides.{nat_tests}
use Rattle.std.proofs.lemmas.List.Concat.{flat_map-append}
use Rattle.std.proofs.Math.Nat.{div-add-mod, div-eq_of_lt-le, div-lt_iff_lt-mul}
use Rattle.std.specs.List.{filter, flat_map, range_with_len}
use Rattle.std.specs.Map.{lookup, keys_of}
use Rattle.std.specs.Ordering.{nat_cmp}
use Rattle.std.specs.BTreeMap.{BTreeMap, get, keys, is_at, IsOrdered}
use Rattle.kw_model.specs.Map.{Pairs}
use Rattle.kw_model.specs.Values.{values}
use Rattle.kw_rollup.specs.declared.bucket.Bucket.{Bucket}
use Rattle.kw_rollup.specs.declared.summary.Summary.{Summary}
use Rattle.kw_rollup.specs.declared.item.TheConstants.{MINUTES, SERIES}
use Rattle.kw_rollup.specs.Buckets.{series_of, minute_of, numbers_below, stretches, points_in, summary_of, buckets}
use Rattle.kw_rollup.specs.Kept.{first_of, values_at, IsKeptFor, IsKept, AreInRange}
use Rattle.kw_rollup.proofs.Rising.{Rises, IsIn, lower, skip, rises_append, in_flat_map, in_map, from_map, in_range, from_range, rises_sorted}

-- the bucket that begins at a key, where it has points
abbrev pub bucket_at : ℕ → Pairs → ℕ → List Summary
bucket_at width m b = summary_of (series_of b) (minute_of b) (values_at width b m)

-- ---- the numbers of stretches
numbers_in : (limit x : ℕ) → x < limit → IsIn x (numbers_below limit)
unfolding numbers_below
numbers_in limit x h = in_range 0 limit x (omega arith) (omega (arith, h))

numbers_from : (limit x : ℕ) → IsIn x (numbers_below limit) → x < limit
unfolding numbers_below
numbers_from limit x i = let r = (from_range 0 limit x i).1 in omega (arith, r)

-- a stretch begins within the series exactly where it is one of those counted
stretch_begins : (width n : ℕ) → 0 < width → n < stretches width → n * width < MINUTES
stretch_begins width n w h = elim (cases_lt (n * width) MINUTES) [
  | inl l ↦ l
  | inr l ↦ (let less : (MINUTES - 1) / width < n = (div-lt_iff_lt-mul w).1 (omega (arith, l)) in absurd (omega (arith, less, h)))
]

stretch_counts : (width n : ℕ) → 0 < width → n * width < MINUTES → n < stretches width
stretch_counts width n w h = elim (cases_lt ((MINUTES - 1) / width) n) [
  | inl l ↦ (let more : MINUTES - 1 < n * width = (div-lt_iff_lt-mul w).0 l in absurd (omega (arith, more, h)))
  | inr l ↦ omega (arith, l)
]

-- ---- where a stretch of a series begins
abbrev place : ℕ → ℕ → ℕ → ℕ
place width s n = s * MINUTES + n * width

place_series : (width s n : ℕ) → n * width < MINUTES → series_of (place width s n) ≡ s
place_series width s n h = omega (arith, h)

place_minute : (width s n : ℕ) → n * width < MINUTES → minute_of (place width s n) ≡ n * width
place_minute width s n h = omega (arith, h)

-- a key is of this series and stretch exactly where its bucket begins at their place
first_parts : (width k : ℕ) → 0 < width → first_of width k ≡ series_of k * MINUTES + minute_of k / width * width
first_parts width k w = let d = div-add-mod (minute_of k) width in omega (arith, d)

place_from : (width s n k : ℕ) → 0 < width → series_of k ≡ s → n * width ≤ minute_of k → minute_of k < n * width + width → first_of width k ≡ place width s n
place_from width s n k w e l h =
    let d : minute_of k / width ≡ n = div-eq_of_lt-le width l (omega (arith, h)) in
    first_parts width k w ∙ (ap (λ q. q * MINUTES + minute_of k / width * width) e ∙ ap (λ q. s * MINUTES + q * width) d)

record IsFrom (width s n k : ℕ) : Type 0 where
  series : series_of k ≡ s
  from : n * width ≤ minute_of k
  to : minute_of k < n * width + width

from_place : (width s n k : ℕ) → 0 < width → n * width < MINUTES → first_of width k ≡ place width s n → IsFrom width s n k
from_place width s n k w h e =
    let p = first_parts width k w in
    let d = div-add-mod (minute_of k) width in
    let begins : minute_of k / width * width ≡ n * width = omega (arith, p, d, e, h) in
    record { series = omega (arith, p, d, e, h); from = omega (arith, begins, d); to = omega (arith, begins, d) }

bool_same : (a b : Bool) → (a ≡ true → b ≡ true) → (b ≡ true → a ≡ true) → a ≡ b
bool_same true b f g = sym (f refl)
bool_same false true f g = g refl
bool_same false false f g = refl

abbrev in_stretch : ℕ → ℕ → ℕ → ℕ → Bool
in_stretch width s n k = series_of k == s && (leb (n * width) (minute_of k) && ltb (minute_of k) (n * width + width))

test_same : (width s n k : ℕ) → 0 < width → n * width < MINUTES → in_stretch width s n k ≡ (first_of width k == place width s n)
test_same width s n k w h = bool_same (in_stretch width s n k) (first_of width k == place width s n)
    (λ t. let a = and_parts (series_of k == s) (leb (n * width) (minute_of k) && ltb (minute_of k) (n * width + width)) t in
    let b = and_parts (leb (n * width) (minute_of k)) (ltb (minute_of k) (n * width + width)) a.1 in
    eq-eqb (first_of width k) (place width s n) (place_from width s n k w (eqb-true (series_of k) s a.0) (leb-true (n * width) (minute_of k) b.0) (ltb-true (minute_of k) (n * width + width) b.1)))
    (λ t. let f = from_place width s n k w h (eqb-true (first_of width k) (place width s n) t) in
    and_from (series_of k == s) (leb (n * width) (minute_of k) && ltb (minute_of k) (n * width + width)) (eq-eqb (series_of k) s f.series) (and_from (leb (n * width) (minute_of k)) (ltb (minute_of k) (n * width + width)) (le-leb (n * width) (minute_of k) f.from) (lt-ltb (minute_of k) (n * width + width) f.to)))

filter_same : (t u : ℕ → Bool) → ((k : ℕ) → t k ≡ u k) → (m : Pairs) → filter (λ p. t p.0) m ≡ filter (λ p. u p.0) m
filter_same t u e [] = refl
filter_same t u e (p ∷ m) = ap (λ b. cond b (p ∷ filter (λ q. t q.0) m) (filter (λ q. t q.0) m)) (e p.0) ∙ ap (λ r. cond (u p.0) (p ∷ r) r) (filter_same t u e m)

-- what the definition says of a stretch is what it says of the bucket at its place
stretch_same : (width s n : ℕ) (m : Pairs) → 0 < width → n * width < MINUTES → summary_of s (n * width) (values (points_in width s (n * width) m)) ≡ bucket_at width m (place width s n)
stretch_same width s n m w h =
    let vs = values_at width (place width s n) m in
    ap (λ ps. summary_of s (n * width) (values ps)) (filter_same (in_stretch width s n) (λ k. first_of width k == place width s n) (λ k. test_same width s n k w h) m)
    ∙ (ap (λ q. summary_of q (n * width) vs) (sym (place_series width s n h)) ∙ ap (λ q. summary_of (series_of (place width s n)) q vs) (sym (place_minute width s n h)))

-- ---- all places
abbrev block : ℕ → ℕ → List ℕ
block width s = map (λ n. place width s n) (numbers_below (stretches width))

abbrev places : ℕ → List ℕ → List ℕ
places width ss = flat_map (λ s. block width s) ss

block_same : (width s : ℕ) (m : Pairs) (ns : List ℕ) → 0 < width → ((n : ℕ) → IsIn n ns → n * width < MINUTES) → flat_map (λ n. summary_of s (n * width) (values (points_in width s (n * width) m))) ns ≡ flat_map (bucket_at width m) (map (λ n. place width s n) ns)
block_same width s m [] w h = refl
block_same width s m (n ∷ ns) w h =
    let first = stretch_same width s n m w (h n (inl refl)) in
    let rest = block_same width s m ns w (λ x i. h x (inr i)) in
    ap (λ t. t ++ flat_map (λ x. summary_of s (x * width) (values (points_in width s (x * width) m))) ns) first ∙ ap (λ t. bucket_at width m (place width s n) ++ t) rest

places_same : (width : ℕ) (m : Pairs) (ss : List ℕ) → 0 < width → flat_map (λ s. flat_map (λ n. summary_of s (n * width) (values (points_in width s (n * width) m))) (numbers_below (stretches width))) ss ≡ flat_map (bucket_at width m) (places width ss)
places_same width m [] w = refl
places_same width m (s ∷ ss) w =
    let first = block_same width s m (numbers_below (stretches width)) w (λ n i. stretch_begins width n w (numbers_from (stretches width) n i)) in
    let rest = places_same width m ss w in
    ap (λ t. t ++ flat_map (λ x. flat_map (λ n. summary_of x (n * width) (values (points_in width x (n * width) m))) (numbers_below (stretches width))) ss) first
    ∙ (ap (λ t. flat_map (bucket_at width m) (block width s) ++ t) rest ∙ sym (flat_map-append (bucket_at width m) (block width s) (places width ss)))

-- they rise
line_rises : (width a i len : ℕ) → 0 < width → Rises (a + i * width) (map (λ n. a + n * width) (range_with_len i len))
line_rises width a i zero w = tt
line_rises width a i (suc len) w = (omega arith, lower_line (line_rises width a (i + 1) len w))
  where
    lower_line : Rises (a + (i + 1) * width) (map (λ n. a + n * width) (range_with_len (i + 1) len)) → Rises (suc (a + i * width)) (map (λ n. a + n * width) (range_with_len (i + 1) len))
    lower_line r = lower (suc (a + i * width)) (a + (i + 1) * width) (map (λ n. a + n * width) (range_with_len (i + 1) len)) (omega (arith, w)) r

block_rises : (width s : ℕ) → 0 < width → Rises (s * MINUTES) (block width s)
unfolding numbers_below
block_rises width s w = lower (s * MINUTES) (s * MINUTES + 0 * width) (block width s) (omega arith) (line_rises width (s * MINUTES) 0 (stretches width) w)

block_below : (width s x : ℕ) → 0 < width → IsIn x (block width s) → x < (s + 1) * MINUTES
block_below width s x w i =
    let r = from_map (λ n. place width s n) x (numbers_below (stretches width)) i in
    let b = stretch_begins width r.0 w (numbers_from (stretches width) r.0 r.1) in
    let e = r.2 in
    omega (arith, b, e)

rows_rise : (width i len : ℕ) → 0 < width → Rises (i * MINUTES) (places width (range_with_len i len))
rows_rise width i zero w = tt
rows_rise width i (suc len) w = rises_append (i * MINUTES) ((i + 1) * MINUTES) (block width i) (places width (range_with_len (i + 1) len)) (block_rises width i w) (λ x j. block_below width i x w j) (omega arith) (rows_rise width (i + 1) len w)

places_rise : (width limit : ℕ) → 0 < width → Rises 0 (places width (numbers_below limit))
unfolding numbers_below
places_rise width limit w = lower 0 (0 * MINUTES) (places width (numbers_below limit)) (omega arith) (rows_rise width 0 limit w)

-- and the first key of each bucket is one
first_is_place : (width k : ℕ) → 0 < width → k < 2 ^ 32 → IsIn (first_of width k) (places width (numbers_below SERIES))
first_is_place width k w h =
    let s = series_of k in
    let n = minute_of k / width in
    let d = div-add-mod (minute_of k) width in
    let below : s < SERIES = omega (arith, h) in
    let begins : n * width < MINUTES = omega (arith, d) in
    let here : IsIn (place width s n) (block width s) = in_map (λ x. place width s x) n (numbers_below (stretches width)) (numbers_in (stretches width) n (stretch_counts width n w begins)) in
    let P : ℕ → Type 0 = λ x. IsIn x (places width (numbers_below SERIES)) in
    subst P (sym (first_parts width k w)) (in_flat_map (λ x. block width x) s (place width s n) (numbers_below SERIES) (numbers_in SERIES s below) here)

-- ---- the buckets that are kept
has_key : (width x : ℕ) (m : Pairs) → AreInRange m → 0 < length (values_at width x m) → (k : ℕ) × (k < 2 ^ 32) × (first_of width k ≡ x)
has_key width x [] a l = absurd (omega (arith, l))
has_key width x (p ∷ m) a l = go (first_of width p.0 == x) refl (has_key width x m a.1) l
  where
    go : (t : Bool) → (first_of width p.0 == x) ≡ t → (0 < length (values_at width x m) → (k : ℕ) × (k < 2 ^ 32) × (first_of width k ≡ x)) → 0 < length (values (cond t (p ∷ filter (λ q. first_of width q.0 == x) m) (filter (λ q. first_of width q.0 == x) m))) → (k : ℕ) × (k < 2 ^ 32) × (first_of width k ≡ x)
    go true e i l' = (p.0, a.0.0, eqb-true (first_of width p.0) x e)
    go false e i l' = i l'

looked_up : (x : ℕ) (es : List (ℕ × Bucket)) → IsIn x (keys_of es) → (k : Bucket) × (lookup (is_at (nat_cmp x)) es ≡ Some k)
looked_up x [] i = absurd i
looked_up x (e ∷ es) i = go (looked_up x es) (is_at (nat_cmp x) e.0) refl i
  where
    go : (IsIn x (keys_of es) → (k : Bucket) × (lookup (is_at (nat_cmp x)) es ≡ Some k)) → (t : Bool) → is_at (nat_cmp x) e.0 ≡ t → IsIn x (keys_of (e ∷ es)) → (k : Bucket) × (cond t (Some e.1) (lookup (is_at (nat_cmp x)) es) ≡ Some k)
    go rest true f j = (e.1, refl)
    go rest false f (inl g) = let bad : ⊥ = grind (arith, nat_tests) in absurd bad
    go rest false f (inr j) = rest j

not_looked_up : (x : ℕ) (es : List (ℕ × Bucket)) → (IsIn x (keys_of es) → ⊥) → lookup (is_at (nat_cmp x)) es ≡ None
not_looked_up x [] n = refl
not_looked_up x (e ∷ es) n =
    let i = not_looked_up x es (λ j. n (inr j)) in
    let apart : x ≡ e.0 → ⊥ = λ g. n (inl g) in
    grind (arith, nat_tests)

kept_some : (vs : List ℕ) (o : Option Bucket) (k : Bucket) → o ≡ Some k → IsKeptFor vs o → 0 < length vs
kept_some vs None k e h = cc
kept_some vs (Some j) k e h = h.0

kept_none : (vs : List ℕ) (o : Option Bucket) → o ≡ None → IsKeptFor vs o → vs ≡ []
kept_none vs None e h = h
kept_none vs (Some j) e h = cc

pub buckets_are : (width : ℕ) (m : Pairs) (kept : BTreeMap ℕ Bucket) → IsKept width m kept → IsOrdered nat_cmp kept → buckets width m ≡ flat_map (bucket_at width m) (keys kept)
unfolding buckets
buckets_are width m kept h o =
    places_same width m (numbers_below SERIES) h.some
    ∙ skip (bucket_at width m) 0 (places width (numbers_below SERIES)) (keys kept) (places_rise width SERIES h.some) (rises_sorted (keys kept) o)
    (λ x i. let f = looked_up x kept.entries i in
    let k = has_key width x m h.in_range (kept_some (values_at width x m) (get nat_cmp kept x) f.0 f.1 (h.each x)) in
    let P : ℕ → Type 0 = λ y. IsIn y (places width (numbers_below SERIES)) in
    subst P k.2 (first_is_place width k.0 h.some k.1))
    (λ x l n. ap (summary_of (series_of x) (minute_of x)) (kept_none (values_at width x m) (get nat_cmp kept x) (not_looked_up x kept.entries n) (h.each x)))
