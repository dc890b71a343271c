-- Numbers that rise strictly: two such lists give one result where one has all numbers of the
-- other, and nothing comes of the numbers that it has beyond these.
use Rattle.std.proofs.Common.{ℕ, zero, suc, ◌≡◌, ◌<◌, ◌≤◌, ◌+◌, List, [], ◌∷◌, ◌++◌, map, ◌⊎◌, inl, inr, refl, ap, subst, ◌∙◌, arith}
use Rattle.std.proofs.lemmas.Bool.{cases_lt}
use Rattle.std.proofs.lemmas.Bool.Decides.{nat_tests}
use Rattle.std.specs.List.{flat_map, range_with_len, AllByRecursion}
use Rattle.std.specs.List.Sorted.{IsStrictlySortedBy}
use Rattle.std.specs.Ordering.{nat_cmp}
use Rattle.std.specs.declared.cmp.Ordering.TheVariants.{Less}

-- the numbers rise strictly, and none is below `low`
abbrev pub Rises : ℕ → List ℕ → Type 0
Rises low [] = Unit {0}
Rises low (x ∷ xs) = (low ≤ x) × Rises (suc x) xs

-- the number is one of these
abbrev pub IsIn : ℕ → List ℕ → Type 0
IsIn x [] = ⊥
IsIn x (y ∷ ys) = (x ≡ y) ⊎ IsIn x ys

above : (low x : ℕ) (xs : List ℕ) → Rises low xs → IsIn x xs → low ≤ x
above low x [] r i = absurd i
above low x (y ∷ ys) r (inl e) = let l = r.0 in omega (arith, e, l)
above low x (y ∷ ys) r (inr i) = let a = above (suc y) x ys r.1 i in let l = r.0 in omega (arith, a, l)

pub lower : (low high : ℕ) (xs : List ℕ) → low ≤ high → Rises high xs → Rises low xs
lower low high [] h r = tt
lower low high (x ∷ xs) h r = let l = r.0 in (omega (arith, h, l), r.1)

-- what is made of the numbers is the same
pub skip : {X : Type 0} (f : ℕ → List X) (low : ℕ) (cs ks : List ℕ) → Rises low cs → Rises low ks → ((x : ℕ) → IsIn x ks → IsIn x cs) → ((x : ℕ) → low ≤ x → (IsIn x ks → ⊥) → f x ≡ []) → flat_map f cs ≡ flat_map f ks
skip f low [] [] r s sub none = refl
skip f low [] (k ∷ ks) r s sub none = absurd (sub k (inl refl))
skip f low (c ∷ cs) [] r s sub none =
    let here : f c ≡ [] = none c r.0 (λ i. i) in
    let rest : flat_map f cs ≡ [] = skip f (suc c) cs [] r.1 tt (λ x i. absurd i) (λ x l n. let a = r.0 in none x (omega (arith, l, a)) n) in
    ap (λ t. t ++ flat_map f cs) here ∙ rest
skip f low (c ∷ cs) (k ∷ ks) r s sub none =
    let a = r.0 in
    elim (cases_lt c k) [
      | inl l ↦
          (let here : f c ≡ [] = none c r.0 (λ i. let b = above k c (k ∷ ks) (omega arith, s.1) i in absurd (omega (arith, b, l))) in
          let rest : flat_map f cs ≡ flat_map f (k ∷ ks) = skip f (suc c) cs (k ∷ ks) r.1 (omega (arith, l), s.1)
          (λ x i. let b = above k x (k ∷ ks) (omega arith, s.1) i in elim (sub x i) [ inl e ↦ absurd (omega (arith, b, l, e)) | inr j ↦ j ])
          (λ x m n. none x (omega (arith, m, a)) n) in
          ap (λ t. t ++ flat_map f cs) here ∙ rest)
      | inr l ↦
          (let b = above c k (c ∷ cs) (omega arith, r.1) (sub k (inl refl)) in
          let e : c ≡ k = omega (arith, l, b) in
          let rest : flat_map f cs ≡ flat_map f ks = skip f (suc c) cs ks r.1 (lower (suc c) (suc k) ks (omega (arith, e)) s.1)
          (λ x i. let d = above (suc k) x ks s.1 i in elim (sub x (inr i)) [ inl g ↦ absurd (omega (arith, d, e, g)) | inr j ↦ j ])
          (λ x m n. none x (omega (arith, m, a)) (λ i. elim i [ inl g ↦ absurd (omega (arith, m, e, g)) | inr j ↦ n j ])) in
          ap (λ x. f x ++ flat_map f cs) e ∙ ap (λ t. f k ++ t) rest)
    ]

-- lists one after the other
pub rises_append : (low high : ℕ) (xs ys : List ℕ) → Rises low xs → ((x : ℕ) → IsIn x xs → x < high) → low ≤ high → Rises high ys → Rises low (xs ++ ys)
rises_append low high [] ys r b h s = lower low high ys h s
rises_append low high (x ∷ xs) ys r b h s = let l = b x (inl refl) in (r.0, rises_append (suc x) high xs ys r.1 (λ y i. b y (inr i)) (omega (arith, l)) s)

in_left : (x : ℕ) (xs ys : List ℕ) → IsIn x xs → IsIn x (xs ++ ys)
in_left x [] ys i = absurd i
in_left x (y ∷ xs) ys (inl e) = inl e
in_left x (y ∷ xs) ys (inr i) = inr (in_left x xs ys i)

in_right : (x : ℕ) (xs ys : List ℕ) → IsIn x ys → IsIn x (xs ++ ys)
in_right x [] ys i = i
in_right x (y ∷ xs) ys i = inr (in_right x xs ys i)

pub in_flat_map : (f : ℕ → List ℕ) (s x : ℕ) (ss : List ℕ) → IsIn s ss → IsIn x (f s) → IsIn x (flat_map f ss)
in_flat_map f s x [] i j = absurd i
in_flat_map f s x (y ∷ ss) (inl e) j =
    let P : ℕ → Type 0 = λ q. IsIn x (f q) in
    in_left x (f y) (flat_map f ss) (subst P e j)
in_flat_map f s x (y ∷ ss) (inr i) j = in_right x (f y) (flat_map f ss) (in_flat_map f s x ss i j)

pub in_map : (f : ℕ → ℕ) (n : ℕ) (ns : List ℕ) → IsIn n ns → IsIn (f n) (map f ns)
in_map f n [] i = absurd i
in_map f n (y ∷ ns) (inl e) = inl (ap f e)
in_map f n (y ∷ ns) (inr i) = inr (in_map f n ns i)

pub from_map : (f : ℕ → ℕ) (x : ℕ) (ns : List ℕ) → IsIn x (map f ns) → (n : ℕ) × IsIn n ns × (x ≡ f n)
from_map f x [] i = absurd i
from_map f x (y ∷ ns) (inl e) = (y, inl refl, e)
from_map f x (y ∷ ns) (inr i) = let r = from_map f x ns i in (r.0, inr r.1, r.2)

pub in_range : (i len x : ℕ) → i ≤ x → x < i + len → IsIn x (range_with_len i len)
in_range i zero x h l = absurd (omega (arith, h, l))
in_range i (suc len) x h l = elim (cases_lt i x) [ inl m ↦ inr (in_range (i + 1) len x (omega (arith, m)) (omega (arith, l))) | inr m ↦ inl (omega (arith, h, m)) ]

pub from_range : (i len x : ℕ) → IsIn x (range_with_len i len) → (i ≤ x) × (x < i + len)
from_range i zero x h = absurd h
from_range i (suc len) x (inl e) = (omega (arith, e), omega (arith, e))
from_range i (suc len) x (inr h) = let r = from_range (i + 1) len x h in let a = r.0 in let b = r.1 in (omega (arith, a), omega (arith, b))

-- keys that std calls sorted rise
behind : (k : ℕ) (ks : List ℕ) → AllByRecursion (λ y. nat_cmp k y ≡ Less) ks → AllByRecursion (λ y. suc k ≤ y) ks
behind k [] a = tt
behind k (y ∷ ks) a = let e = a.0 in (grind (arith, nat_tests), behind k ks a.1)

rises_from : (low : ℕ) (ks : List ℕ) → IsStrictlySortedBy nat_cmp ks → AllByRecursion (λ k. low ≤ k) ks → Rises low ks
unfolding IsStrictlySortedBy
rises_from low [] s a = tt
rises_from low (k ∷ ks) s a = (a.0, rises_from (suc k) ks s.1 (behind k ks s.0))

pub rises_sorted : (ks : List ℕ) → IsStrictlySortedBy nat_cmp ks → Rises 0 ks
rises_sorted ks s = rises_from 0 ks s (all ks)
  where
    all : (ns : List ℕ) → AllByRecursion (λ k. 0 ≤ k) ns
    all [] = tt
    all (n ∷ ns) = (omega arith, all ns)
