use Rattle.std.proofs.Common.{◌≡◌, map, take}
use Rattle.kw_order.specs.Points.{point_from}
use Rattle.kw_order.proofs.points.points.Given as goal

abbrev pub invariant-loop-one : goal.invariant-loop-one
invariant-loop-one l = l.points.items ≡ map (point_from l.history) (take l.one-index l.one-items)
