-- The families of activities of a rebalance, as the code tells them apart: a full row is engaged,
-- its neighbour is claimed, or its seat goes left; the rows are frozen, and gathered; then new rows
-- are sought, taken and written; and then they are linked in their place.
use Rattle.kw_world.specs.declared.activity.Activity.{Activity}
use Rattle.kw_world.specs.declared.activity.rebalance.Rebalance.TheVariants as Rebalance

-- the new rows are linked
abbrev pub IsLinking : Activity → Type 0
IsLinking (Activity.Rebalance (Rebalance.Replace _)) = Unit {0}
IsLinking _ = ⊥

-- they are sought, taken and written, or linked
abbrev pub IsBuilding : Activity → Type 0
IsBuilding (Activity.Rebalance (Rebalance.Seek _)) = Unit {0}
IsBuilding (Activity.Rebalance (Rebalance.Write _)) = Unit {0}
IsBuilding a = IsLinking a

-- the row after the full one is claimed
abbrev pub IsClaiming : Activity → Type 0
IsClaiming (Activity.Rebalance (Rebalance.Claim _)) = Unit {0}
IsClaiming _ = ⊥

-- the seat of a follower goes left
abbrev pub IsGoingLeft : Activity → Type 0
IsGoingLeft (Activity.Rebalance (Rebalance.Left _)) = Unit {0}
IsGoingLeft _ = ⊥

-- the rows of the group are frozen
abbrev pub IsFreezing : Activity → Type 0
IsFreezing (Activity.Rebalance (Rebalance.Freeze _)) = Unit {0}
IsFreezing _ = ⊥

-- their cells are gathered
abbrev pub IsGathering : Activity → Type 0
IsGathering (Activity.Rebalance (Rebalance.Gather _)) = Unit {0}
IsGathering _ = ⊥
