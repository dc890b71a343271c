-- The least and the greatest value of a bucket, of those that are listed and the ends of its tree,
-- and what is printed of a bucket.
use Rattle.std.proofs.Common.{ℕ, ◌≡◌, ◌≢◌, ◌<◌, ◌≤◌, cond, ◌==◌, min, max, List, [], ◌∷◌, ◌++◌, length, fold, sum, ◌↔◌, inl, inr, ◌⊎◌, subst, Option, Some, None, unwrap_or, refl, sym, ap, ◌∙◌, arith}
use Rattle.std.proofs.lemmas.Bool.{cases_lt, cases_eq, eq-eqb, ne_eqb, false≢true}
use Rattle.std.proofs.lemmas.List.{append_assoc}
use Rattle.std.proofs.lemmas.List.Sums.{sum_by-cons}
use Rattle.std.proofs.lemmas.Map.Keys.{le_from_not_gt, ge_from_not_lt}
use Rattle.std.specs.List.{count_by, flat_map, slice_get}
use Rattle.std.specs.Borrow.{Bor}
use Rattle.std.specs.Option.{IsSome, IfSome, MatchOption}
use Rattle.std.specs.Map.{lookup}
use Rattle.std.specs.Ordering.{nat_cmp}
use Rattle.std.specs.BTreeMap.{BTreeMap, get, is_at, btree_map_len, IsLowerBound, IsUpperBound}
use Rattle.kw_line.specs.declared.words.TheConstants.{LINE_FEED}
use Rattle.kw_rollup.specs.declared.bucket.Bucket.{Bucket}
use Rattle.kw_rollup.specs.declared.values.Values.{Values}
use Rattle.kw_rollup.specs.declared.summary.Summary.{Summary}
use Rattle.kw_rollup.specs.Buckets.{summary_of}
use Rattle.kw_rollup.specs.Texts.{summary_text, summaries_text}
use Rattle.kw_rollup.specs.Kept.{AreValues, IsBucketOf}
use Rattle.kw_rollup.proofs.Rising.{IsIn}

-- the least of numbers is one of them, and none is below it
min_in : (a : ℕ) (xs : List ℕ) → IsIn (fold min a xs) (a ∷ xs)
min_in a [] = inl refl
min_in a (x ∷ xs) = elim (min_in (min a x) xs) [
  | inl e ↦ elim (cases_lt a x) [ inl l ↦ inl (omega (arith, e, l)) | inr l ↦ inr (inl (omega (arith, e, l))) ]
  | inr i ↦ inr (inr i)
]

min_le : (a y : ℕ) (xs : List ℕ) → IsIn y (a ∷ xs) → fold min a xs ≤ y
min_le a y [] (inl e) = omega (arith, e)
min_le a y [] (inr i) = absurd i
min_le a y (x ∷ xs) (inl e) = let h = min_le (min a x) (min a x) xs (inl refl) in omega (arith, h, e)
min_le a y (x ∷ xs) (inr (inl e)) = let h = min_le (min a x) (min a x) xs (inl refl) in omega (arith, h, e)
min_le a y (x ∷ xs) (inr (inr i)) = min_le (min a x) y xs (inr i)

max_in : (a : ℕ) (xs : List ℕ) → IsIn (fold max a xs) (a ∷ xs)
max_in a [] = inl refl
max_in a (x ∷ xs) = elim (max_in (max a x) xs) [
  | inl e ↦ elim (cases_lt a x) [ inl l ↦ inr (inl (omega (arith, e, l))) | inr l ↦ inl (omega (arith, e, l)) ]
  | inr i ↦ inr (inr i)
]

max_ge : (a y : ℕ) (xs : List ℕ) → IsIn y (a ∷ xs) → y ≤ fold max a xs
max_ge a y [] (inl e) = omega (arith, e)
max_ge a y [] (inr i) = absurd i
max_ge a y (x ∷ xs) (inl e) = let h = max_ge (max a x) (max a x) xs (inl refl) in omega (arith, h, e)
max_ge a y (x ∷ xs) (inr (inl e)) = let h = max_ge (max a x) (max a x) xs (inl refl) in omega (arith, h, e)
max_ge a y (x ∷ xs) (inr (inr i)) = max_ge (max a x) y xs (inr i)

-- a value is counted exactly where it is one of them
counted : (x : ℕ) (vs : List ℕ) → IsIn x vs → 0 < count_by (λ y. y == x) vs
counted x [] i = absurd i
counted x (v ∷ vs) (inl e) =
    let here : ◌≡◌ {A = ℕ} (cond (v == x) 1 0) 1 = rw (eq-eqb v x (sym e)) refl in
    let s = sum_by-cons (λ (y : ℕ). cond (y == x) 1 0) v vs in
    omega (arith, here, s)
counted x (v ∷ vs) (inr i) =
    let more = counted x vs i in
    let s = sum_by-cons (λ (y : ℕ). cond (y == x) 1 0) v vs in
    omega (arith, more, s)

pub from_counted : (x : ℕ) (vs : List ℕ) → 0 < count_by (λ y. y == x) vs → IsIn x vs
from_counted x [] l = absurd (omega (arith, l))
from_counted x (v ∷ vs) l = elim (cases_eq x v) [
  | inl e ↦ inl e
  | inr ne ↦ (let here : ◌≡◌ {A = ℕ} (cond (v == x) 1 0) 0 = rw (ne_eqb v x (λ e. ne (sym e))) refl in
      let s = sum_by-cons (λ (y : ℕ). cond (y == x) 1 0) v vs in
      inr (from_counted x vs (omega (arith, l, here, s))))
]

-- a value of the tree is one of them
some_from : (o : Option ℕ) → 0 < unwrap_or o 0 → IsSome o
some_from None l = absurd (omega (arith, l))
some_from (Some n) l = refl

count_from : (o : Option ℕ) → IsSome o → o ≢ Some 0 → 0 < unwrap_or o 0
count_from None s n = absurd (false≢true s)
count_from (Some n) s h = elim (cases_eq n 0) [ inl e ↦ absurd (h (ap Some e)) | inr ne ↦ omega (arith, ne) ]

from_tree : (vs : List ℕ) (k : Values) (x : ℕ) → AreValues vs k → IsSome (get nat_cmp k.counted x) → IsIn x vs
from_tree vs k x h s = let c = count_from (get nat_cmp k.counted x) s (h.some x) in let t = h.times x in from_counted x vs (omega (arith, c, t))

-- so is one that is listed
from_listed : (vs : List ℕ) (k : Values) (x : ℕ) → AreValues vs k → IsIn x k.listed.items → IsIn x vs
from_listed vs k x h i = let c = counted x k.listed.items i in let t = h.times x in from_counted x vs (omega (arith, c, t))

-- and each of them is listed or in the tree
kept_in : (vs : List ℕ) (k : Values) (x : ℕ) → AreValues vs k → IsIn x vs → IsIn x k.listed.items ⊎ IsSome (get nat_cmp k.counted x)
kept_in vs k x h i =
    let c = counted x vs i in
    let t = h.times x in
    elim (cases_lt 0 (count_by (λ y. y == x) k.listed.items)) [
      | inl l ↦ inl (from_counted x k.listed.items l)
      | inr z ↦ inr (some_from (get nat_cmp k.counted x) (omega (arith, c, t, z)))
    ]

-- the least of one of them, which is below those of the tree, and of those that are listed is the
-- least of all; so it is with the greatest
least_is : (v : ℕ) (vs : List ℕ) (k : Values) (start : ℕ) → AreValues (v ∷ vs) k → IsIn start (v ∷ vs) → ((x : ℕ) → IsSome (get nat_cmp k.counted x) → start ≤ x) → fold min start k.listed.items ≡ fold min v vs
least_is v vs k start h i low =
    let some : IsIn (fold min start k.listed.items) (v ∷ vs) = elim (min_in start k.listed.items) [
      | inl e ↦ (let P : ℕ → Type 0 = λ x. IsIn x (v ∷ vs) in subst P (sym e) i)
      | inr j ↦ from_listed (v ∷ vs) k (fold min start k.listed.items) h j
    ] in
    let a = min_le v (fold min start k.listed.items) vs some in
    let first = min_le start start k.listed.items (inl refl) in
    let b : fold min start k.listed.items ≤ fold min v vs = elim (kept_in (v ∷ vs) k (fold min v vs) h (min_in v vs)) [
      | inl j ↦ min_le start (fold min v vs) k.listed.items (inr j)
      | inr s ↦ (let l = low (fold min v vs) s in omega (arith, l, first))
    ] in
    omega (arith, a, b)

greatest_is : (v : ℕ) (vs : List ℕ) (k : Values) (start : ℕ) → AreValues (v ∷ vs) k → IsIn start (v ∷ vs) → ((x : ℕ) → IsSome (get nat_cmp k.counted x) → x ≤ start) → fold max start k.listed.items ≡ fold max v vs
greatest_is v vs k start h i high =
    let some : IsIn (fold max start k.listed.items) (v ∷ vs) = elim (max_in start k.listed.items) [
      | inl e ↦ (let P : ℕ → Type 0 = λ x. IsIn x (v ∷ vs) in subst P (sym e) i)
      | inr j ↦ from_listed (v ∷ vs) k (fold max start k.listed.items) h j
    ] in
    let a = max_ge v (fold max start k.listed.items) vs some in
    let first = max_ge start start k.listed.items (inl refl) in
    let b : fold max v vs ≤ fold max start k.listed.items = elim (kept_in (v ∷ vs) k (fold max v vs) h (max_in v vs)) [
      | inl j ↦ max_ge start (fold max v vs) k.listed.items (inr j)
      | inr s ↦ (let l = high (fold max v vs) s in omega (arith, l, first))
    ] in
    omega (arith, a, b)

-- a tree with a value in it has a least and a greatest one
not_empty : (m : BTreeMap ℕ ℕ) (x : ℕ) → IsSome (get nat_cmp m x) → 0 < btree_map_len m
not_empty m x s = go m.entries s
  where
    go : (es : List (ℕ × ℕ)) → IsSome (lookup (is_at (nat_cmp x)) es) → 0 < length es
    go [] i = absurd (false≢true i)
    go (e ∷ es) i = omega arith

some_of : (o : Option ℕ) (n : ℕ) → o ≡ Some n → IsSome o
some_of None n e = cc
some_of (Some k) n e = refl

-- where one value is listed, the first that is listed is one of them
first_in : (f x : ℕ) (xs : List ℕ) → MatchOption (slice_get xs 0) (f ≡ 0) (λ y. f ≡ y) → IsIn x xs → IsIn f xs
first_in f x [] e i = absurd i
first_in f x (y ∷ ys) e i = inl e

-- what the search begins with is one of them: an end of the tree, or the first that is listed
start_in : (v : ℕ) (vs : List ℕ) (k : Values) (f start : ℕ) (end : Option (Bor ℕ × Bor ℕ)) → AreValues (v ∷ vs) k → MatchOption (slice_get k.listed.items 0) (f ≡ 0) (λ y. f ≡ y) → IsSome end ↔ (0 < btree_map_len k.counted) → IfSome end (λ p. get nat_cmp k.counted p.0.now ≡ Some p.1.now) → MatchOption end (start ≡ f) (λ p. start ≡ p.0.now) → IsIn start (v ∷ vs)
start_in v vs k f start None h o s g e = elim (kept_in (v ∷ vs) k v h (inl refl)) [
  | inl i ↦ (let P : ℕ → Type 0 = λ x. IsIn x (v ∷ vs) in subst P (sym e) (from_listed (v ∷ vs) k f h (first_in f v k.listed.items o i)))
  | inr t ↦ absurd (false≢true (s.1 (not_empty k.counted v t)))
]
start_in v vs k f start (Some p) h o s g e = let P : ℕ → Type 0 = λ x. IsIn x (v ∷ vs) in subst P (sym e) (from_tree (v ∷ vs) k p.0.now h (some_of _ p.1.now g))

-- and it bounds those of the tree
below_tree : (k : Values) (f start x : ℕ) (lo : Option (Bor ℕ × Bor ℕ)) → IsSome lo ↔ (0 < btree_map_len k.counted) → IfSome lo (λ p. IsLowerBound nat_cmp k.counted p.0.now) → MatchOption lo (start ≡ f) (λ p. start ≡ p.0.now) → IsSome (get nat_cmp k.counted x) → start ≤ x
below_tree k f start x None s b e t = absurd (false≢true (s.1 (not_empty k.counted x t)))
below_tree k f start x (Some p) s b e t = let l = le_from_not_gt p.0.now x (b x t) in omega (arith, l, e)

above_tree : (k : Values) (f start x : ℕ) (hi : Option (Bor ℕ × Bor ℕ)) → IsSome hi ↔ (0 < btree_map_len k.counted) → IfSome hi (λ p. IsUpperBound nat_cmp k.counted p.0.now) → MatchOption hi (start ≡ f) (λ p. start ≡ p.0.now) → IsSome (get nat_cmp k.counted x) → x ≤ start
above_tree k f start x None s b e t = absurd (false≢true (s.1 (not_empty k.counted x t)))
above_tree k f start x (Some p) s b e t = let l = ge_from_not_lt p.0.now x (b x t) in omega (arith, l, e)

-- the least and the greatest value, as they are looked for
pub least_found : (v : ℕ) (vs : List ℕ) (k : Values) (f start : ℕ) (lo : Option (Bor ℕ × Bor ℕ)) → AreValues (v ∷ vs) k → MatchOption (slice_get k.listed.items 0) (f ≡ 0) (λ y. f ≡ y) → IsSome lo ↔ (0 < btree_map_len k.counted) → IfSome lo (λ p. get nat_cmp k.counted p.0.now ≡ Some p.1.now) → IfSome lo (λ p. IsLowerBound nat_cmp k.counted p.0.now) → MatchOption lo (start ≡ f) (λ p. start ≡ p.0.now) → fold min start k.listed.items ≡ fold min v vs
least_found v vs k f start lo h o s g b e = least_is v vs k start h (start_in v vs k f start lo h o s g e) (λ x t. below_tree k f start x lo s b e t)

pub greatest_found : (v : ℕ) (vs : List ℕ) (k : Values) (f start : ℕ) (hi : Option (Bor ℕ × Bor ℕ)) → AreValues (v ∷ vs) k → MatchOption (slice_get k.listed.items 0) (f ≡ 0) (λ y. f ≡ y) → IsSome hi ↔ (0 < btree_map_len k.counted) → IfSome hi (λ p. get nat_cmp k.counted p.0.now ≡ Some p.1.now) → IfSome hi (λ p. IsUpperBound nat_cmp k.counted p.0.now) → MatchOption hi (start ≡ f) (λ p. start ≡ p.0.now) → fold max start k.listed.items ≡ fold max v vs
greatest_found v vs k f start hi h o s g b e = greatest_is v vs k start h (start_in v vs k f start hi h o s g e) (λ x t. above_tree k f start x hi s b e t)

-- ---- text
joined : (out text feed rest : List ℕ) → ((out ++ text) ++ feed) ++ rest ≡ out ++ ((text ++ feed) ++ rest)
joined out text feed rest = simp append_assoc

-- one more line of a table
pub line_more : (at : ℕ → List Summary) (b : ℕ) (bs : List ℕ) (s : Summary) (out new all : List ℕ) → at b ≡ s ∷ [] → new ≡ (out ++ summary_text s) ++ LINE_FEED ∷ [] → out ++ summaries_text (flat_map at (b ∷ bs)) ≡ all → new ++ summaries_text (flat_map at bs) ≡ all
line_more at b bs s out new all e n h =
    let rest = summaries_text (flat_map at bs) in
    let x : summaries_text (flat_map at (b ∷ bs)) ≡ (summary_text s ++ LINE_FEED ∷ []) ++ rest = ap (λ t. summaries_text (t ++ flat_map at bs)) e in
    ap (λ t. t ++ rest) n ∙ (joined out (summary_text s) (LINE_FEED ∷ []) rest ∙ (ap (λ t. out ++ t) (sym x) ∙ h))

-- a line of a table, piece by piece
pub line_is : (o0 o1 o2 o3 o4 o5 o6 o7 a b n c m s k l w g f : List ℕ) → o1 ≡ o0 ++ a → o2 ≡ o1 ++ b → o3 ≡ (o2 ++ n) ++ c → o4 ≡ (o3 ++ m) ++ s → o5 ≡ (o4 ++ k) ++ l → o6 ≡ (o5 ++ w) ++ g → o7 ≡ o6 ++ f → o7 ≡ (o0 ++ (a ++ (b ++ (n ++ (c ++ (m ++ (s ++ (k ++ (l ++ (w ++ g)))))))))) ++ f
line_is o0 o1 o2 o3 o4 o5 o6 o7 a b n c m s k l w g f e1 e2 e3 e4 e5 e6 e7 = rw (e7, e6, e5, e4, e3, e2, e1) (simp append_assoc)

-- what a table says of a bucket
pub summary_is : (vs : List ℕ) (k : Bucket) (series start a b : ℕ) → ((v : ℕ) (ws : List ℕ) → AreValues (v ∷ ws) k.values → a ≡ fold min v ws) → ((v : ℕ) (ws : List ℕ) → AreValues (v ∷ ws) k.values → b ≡ fold max v ws) → 0 < length vs → IsBucketOf vs k → summary_of series start vs ≡ record { series = series; start = start; count = k.count; sum = k.sum; least = a; greatest = b } ∷ []
summary_is [] k series start a b least greatest l h = absurd (omega (arith, l))
summary_is (v ∷ vs) k series start a b least greatest l h =
    let x = least v vs h.values in
    let y = greatest v vs h.values in
    let c = sym h.count in
    let t = sym h.sum in
    let whole : (record { series = series; start = start; count = length (v ∷ vs); sum = sum (v ∷ vs); least = fold min v vs; greatest = fold max v vs } ∷ []) ≡ record { series = series; start = start; count = k.count; sum = k.sum; least = a; greatest = b } ∷ [] = cc in
    whole
