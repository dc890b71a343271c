-- Lists of values whose order does not matter: which bucket is that of such a list, and how a value
-- comes in and goes out.
use Rattle.std.proofs.Common.{ℕ, ◌≡◌, cond, ◌==◌, List, [], ◌∷◌, length, sum, Option, Some, None, refl, sym, ap, subst, ◌∙◌, arith}
use Rattle.std.specs.List.{sum_by}
use Rattle.std.proofs.lemmas.List.{nil_from_length}
use Rattle.std.proofs.lemmas.List.Sums.{sum_by-cons}
use Rattle.kw_rollup.specs.declared.bucket.Bucket.{Bucket}
use Rattle.kw_rollup.specs.Kept.{IsBucketOf, IsKeptFor, IsSmall, with_old}

-- both have the same values, each as often
pub record IsSameBag (vs ws : List ℕ) : Type 0 where
  pub sums : (f : ℕ → ℕ) → sum_by f vs ≡ sum_by f ws

-- how many values there are is a sum
length_sum : (vs : List ℕ) → sum_by (λ (x : ℕ). 1) vs ≡ length vs
length_sum [] = refl
length_sum (v ∷ vs) = let i = length_sum vs in let s = sum_by-cons (λ (x : ℕ). 1) v vs in omega (arith, i, s)

pub same_length : (vs ws : List ℕ) → IsSameBag vs ws → length vs ≡ length ws
same_length vs ws s = sym (length_sum vs) ∙ (s.sums (λ x. 1) ∙ length_sum ws)

-- a bucket is that of its values in any order
pub bucket_same : (vs ws : List ℕ) (k : Bucket) → IsSameBag vs ws → IsBucketOf vs k → IsBucketOf ws k
bucket_same vs ws k s h = record {
  count = h.count ∙ same_length vs ws s;
  sum = h.sum ∙ s.sums (λ x. x);
  values = record { times = λ v. h.values.times v ∙ s.sums (λ x. cond (x == v) 1 0); some = h.values.some };
}

pub kept_same : (vs ws : List ℕ) (o : Option Bucket) → IsSameBag vs ws → IsKeptFor vs o → IsKeptFor ws o
kept_same vs ws None s h = nil_from_length ws (sym (same_length vs ws s) ∙ ap length h)
kept_same vs ws (Some k) s h = let l = same_length vs ws s in (omega (arith, h.0, l), bucket_same vs ws k s h.1)

-- what is kept for equal lists
pub kept_along : (vs ws : List ℕ) (o u : Option Bucket) → vs ≡ ws → o ≡ u → IsKeptFor vs o → IsKeptFor ws u
kept_along vs ws o u e f h =
    let P : List ℕ → Type 0 = λ xs. IsKeptFor xs o in
    let Q : Option Bucket → Type 0 = λ p. IsKeptFor ws p in
    subst Q f (subst P e h)

-- two values change places
pub swapped : (a b : ℕ) (vs : List ℕ) (k : Bucket) → IsBucketOf (a ∷ b ∷ vs) k → IsBucketOf (b ∷ a ∷ vs) k
swapped a b vs k h = bucket_same (a ∷ b ∷ vs) (b ∷ a ∷ vs) k (record { sums = λ f. omega (arith, sum_by-cons f a (b ∷ vs), sum_by-cons f b vs, sum_by-cons f b (a ∷ vs), sum_by-cons f a vs) }) h

-- once the new value is added, the old one can be taken
pub both_there : (value : ℕ) (given : Option ℕ) (old : ℕ) (k new : Bucket) → given ≡ Some old → ((vs : List ℕ) → IsBucketOf vs k → IsBucketOf (value ∷ vs) new) → (vs : List ℕ) → IsBucketOf (with_old given vs) k → IsBucketOf (old ∷ value ∷ vs) new
both_there value given old k new e added vs h =
    let P : Option ℕ → Type 0 = λ g. IsBucketOf (with_old g vs) k in
    swapped value old vs new (added (old ∷ vs) (subst P e h))

-- as many values of the same sum
pub small_same : (vs ws : List ℕ) → IsSameBag vs ws → IsSmall vs → IsSmall ws
small_same vs ws s h =
    let l = same_length vs ws s in
    let t : sum vs ≡ sum ws = s.sums (λ x. x) in
    let few = h.few in
    let low = h.low in
    record { few = omega (arith, l, few); low = omega (arith, t, low) }
