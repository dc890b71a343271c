-- What a rollup is seen as, and what ties the buckets that it keeps to its points.
use Rattle.std.specs.Prelude.{ℕ, ◌≡◌, ◌≢◌, ◌+◌, ◌-◌, ◌%◌, ◌<◌, ◌≤◌, ◌^◌, ◌==◌, List, [], ◌∷◌, length, sum, count_by, Option, Some, None, unwrap_or}
use Rattle.std.specs.List.{filter}
use Rattle.std.specs.Ordering.{nat_cmp}
use Rattle.std.specs.BTreeMap.{BTreeMap, get}
use Rattle.kw_model.specs.Map.{Pairs, IsRising, put, without}
use Rattle.kw_model.specs.Values.{values}
use Rattle.kw_rollup.specs.Buckets.{minute_of}
use Rattle.kw_rollup.specs.declared.bucket.Bucket.{Bucket}
use Rattle.kw_rollup.specs.declared.values.Values.{Values}
use Rattle.kw_rollup.specs.declared.item.TheConstants.{MINUTES}

-- a rollup as its callers see it: how many minutes a bucket has, and the points by strictly rising
-- key
pub record Rolled : Type 0 where
  pub width : ℕ
  pub pairs : Pairs

-- the first key of the bucket that a key is in
abbrev pub first_of : ℕ → ℕ → ℕ
first_of width key = key - minute_of key % width

-- the values of the points in the bucket that begins at key b
abbrev pub values_at : ℕ → ℕ → Pairs → List ℕ
values_at width b pairs = values (filter (λ p. first_of width p.0 == b) pairs)

-- the values kept are these, in any order: each is listed and counted as often as it is among them
pub record AreValues (vs : List ℕ) (kept : Values) : Type 0 where
  pub times : (v : ℕ) → count_by (λ x. x == v) kept.listed.items + unwrap_or (get nat_cmp kept.counted v) 0 ≡ count_by (λ x. x == v) vs
  pub some : (v : ℕ) → get nat_cmp kept.counted v ≢ Some 0

-- the bucket is that of points with these values, in any order
pub record IsBucketOf (vs : List ℕ) (bucket : Bucket) : Type 0 where
  pub count : bucket.count ≡ length vs
  pub sum : bucket.sum ≡ sum vs
  pub values : AreValues vs bucket.values

-- these values and, where one is given, the value that goes
abbrev pub with_old : Option ℕ → List ℕ → List ℕ
with_old None vs = vs
with_old (Some old) vs = old ∷ vs

-- what is kept for points with these values: a bucket where there are any
abbrev pub IsKeptFor : List ℕ → Option Bucket → Type 0
IsKeptFor vs None = vs ≡ []
IsKeptFor vs (Some bucket) = (0 < length vs) × IsBucketOf vs bucket

-- each key has 32 bits, and each value 64
abbrev pub AreInRange : Pairs → Type 0
AreInRange [] = Unit {0}
AreInRange (p ∷ pairs) = ((p.0 < 2 ^ 32) × (p.1 < 2 ^ 64)) × AreInRange pairs

-- the width is one that a bucket may have, the keys of the points rise, and for each key the bucket
-- that begins there is kept
pub record IsKept (width : ℕ) (pairs : Pairs) (kept : BTreeMap ℕ Bucket) : Type 0 where
  pub some : 0 < width
  pub most : width ≤ MINUTES
  pub rising : IsRising pairs
  pub in_range : AreInRange pairs
  pub each : (b : ℕ) → IsKeptFor (values_at width b pairs) (get nat_cmp kept b)

-- so few values, each of 64 bits, that one more can be counted and summed
pub record IsSmall (vs : List ℕ) : Type 0 where
  pub few : length vs < 2 ^ 31
  pub low : sum vs < 2 ^ 127

-- points in which a key has the value that it had before, or none
abbrev pub restored : ℕ → Option ℕ → Pairs → Pairs
restored key None pairs = without key pairs
restored key (Some old) pairs = put key old pairs
