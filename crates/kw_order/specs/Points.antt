-- The points of the calls in their order, as the code gives them.
use Rattle.std.specs.Prelude.{ℕ, ◌≡◌, ◌+◌, ◌<◌, ◌≤◌, ◌⊎◌, Option, Some, None, List, map, All, length, get_or}
use Rattle.std.specs.List.{AllZip}
use Rattle.kw_core.specs.History.{History, Call, Scan, Pin, Reply, Done, Pairs, attempt, called}
use Rattle.kw_core.specs.declared.history.Drawn.{Drawn}
use Rattle.kw_order.specs.declared.points.CallName.{CallName}
use Rattle.kw_order.specs.declared.points.Point.{Point}
use Rattle.kw_order.specs.declared.rank.RankedCall.{RankedCall}
use Rattle.kw_order.specs.Order.{Rank, HasRank, IsPlaced, IsOrder, IsPoint}

-- the name of the call x
abbrev pub name_of : History → ℕ → CallName
name_of h x = record { seat = (called h x).seat; number = (called h x).number }

-- the name of the call x, and the position of its rank
pub record IsPointOf (h : History) (x : ℕ) (point : Point) : Type 0 where
  pub named : point.call ≡ name_of h x
  pub rank : Rank
  pub has_rank : HasRank h x rank
  pub position : point.at ≡ rank.at

-- the points of all calls that have a place, in their order
pub record ArePoints (h : History) (points : List Point) : Type 0 where
  pub order : List ℕ
  pub is_order : IsOrder h order
  pub each : AllZip (IsPointOf h) order points

-- the names of all calls that have a place, in their order
pub record AreNames (h : History) (names : List CallName) : Type 0 where
  pub order : List ℕ
  pub is_order : IsOrder h order
  pub each : names ≡ map (name_of h) order

-- the places of these calls
abbrev pub places : List RankedCall → List ℕ
places = map (λ one. one.call)

-- all calls that have a place, with their ranks, in their order
pub record AreRanked (h : History) (ranked : List RankedCall) : Type 0 where
  pub is_order : IsOrder h (places ranked)
  pub ranks : All (λ one. HasRank h one.call one.rank) ranked

-- the rank of a call that stands at its first event
abbrev pub rank_at : ℕ → Rank
rank_at f = record { at = f; add = 0; tail = f + 1 }

-- the draw at which a call stands that ended with this reply, if it stands at its draw: a scan that
-- gave pairs, and a pin that was accepted
abbrev pub drawn_by : Call → Reply → Option Drawn → Option Drawn
drawn_by (Scan from to) (Pairs pairs) draw = draw
drawn_by Pin Done draw = draw
drawn_by _ _ draw = None

-- the rank of a call that began at f and stands at this draw, if any
abbrev pub rank_at_draw : ℕ → Option Drawn → Rank
rank_at_draw f None = rank_at f
rank_at_draw f (Some d) = record { at = d.at; add = 0; tail = f + 1 }

-- the rank of a get that began at f and stands behind this put, if any
abbrev pub IsRankBehind : History → ℕ → Option ℕ → Rank → Type 0
IsRankBehind h f None rank = rank ≡ rank_at f
IsRankBehind h f (Some p) rank = (a : ℕ) → IsPoint h p a → ((f < a) × (rank ≡ record { at = a; add = (attempt h p).add; tail = f + 1 })) ⊎ ((a ≤ f) × (rank ≡ rank_at f))

-- one of the ranked calls
abbrev pub ranked_at : List RankedCall → ℕ → RankedCall
ranked_at ranked i = get_or ranked i (record { rank = record { at = 0; add = 0; tail = 0 }; call = 0 })

-- the call has its rank in the list
abbrev pub IsRanked : List RankedCall → ℕ → Type 0
IsRanked ranked x = (i : ℕ) × (i < length ranked) × ((ranked_at ranked i).call ≡ x)

-- the calls below n that have a place, with their ranks
pub record AreRankedBelow (h : History) (ranked : List RankedCall) (n : ℕ) : Type 0 where
  pub ranks : (i : ℕ) → i < length ranked → HasRank h (ranked_at ranked i).call (ranked_at ranked i).rank
  pub below : (i : ℕ) → i < length ranked → (ranked_at ranked i).call < n
  pub rises : (i j : ℕ) → i < j → j < length ranked → (ranked_at ranked i).call < (ranked_at ranked j).call
  pub every : (x : ℕ) → x < n → IsPlaced h x → IsRanked ranked x

-- the point of a ranked call
abbrev pub point_from : History → RankedCall → Point
point_from h one = record { call = name_of h one.call; at = one.rank.at }
