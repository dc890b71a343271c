-- Which buckets a list of points has, and what a table says of each: the definition that every
-- printed table is measured by. It looks through all points for every series and every stretch of
-- minutes.
use Rattle.std.specs.Prelude.{ℕ, ◌+◌, ◌-◌, ◌*◌, ◌/◌, ◌%◌, ◌&&◌, ◌==◌, nat_le, nat_lt, min, max, List, [], ◌∷◌, length, sum, fold}
use Rattle.std.specs.List.{filter, flat_map, range_with_len}
use Rattle.kw_model.specs.Map.{Pairs}
use Rattle.kw_model.specs.Values.{values}
use Rattle.kw_rollup.specs.declared.summary.Summary.{Summary}
use Rattle.kw_rollup.specs.declared.item.TheConstants.{MINUTES, SERIES}

-- the series of a key, and its minute
abbrev pub series_of : ℕ → ℕ
series_of key = key / MINUTES

abbrev pub minute_of : ℕ → ℕ
minute_of key = key % MINUTES

-- the numbers below a limit, in order
unfoldable pub numbers_below : ℕ → List ℕ
numbers_below limit = range_with_len 0 limit

-- how many stretches of this width the minutes of a series have; the last one may be cut short
abbrev pub stretches : ℕ → ℕ
stretches width = (MINUTES - 1) / width + 1

-- the points of a series in the minutes from `start` to `start + width - 1`
abbrev pub points_in : ℕ → ℕ → ℕ → Pairs → Pairs
points_in width series start pairs = filter (λ p. series_of p.0 == series && (nat_le start (minute_of p.0) && nat_lt (minute_of p.0) (start + width))) pairs

-- the bucket of points with these values, where there are any
abbrev pub summary_of : ℕ → ℕ → List ℕ → List Summary
summary_of series start [] = []
summary_of series start (v ∷ vs) = record {
  series = series;
  start = start;
  count = length (v ∷ vs);
  sum = sum (v ∷ vs);
  least = fold min v vs;
  greatest = fold max v vs;
} ∷ []

-- the buckets of points: for each series and each n, in order, that of the points in the minutes
-- from n * width on
unfoldable pub buckets : ℕ → Pairs → List Summary
buckets width pairs =
    flat_map (λ s. flat_map (λ n. summary_of s (n * width) (values (points_in width s (n * width) pairs))) (numbers_below (stretches width))) (numbers_below SERIES)
