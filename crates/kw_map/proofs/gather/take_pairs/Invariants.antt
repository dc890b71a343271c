-- The pairs below the key that is looked at next were taken, and those from it on are left.
use Rattle.std.proofs.Common.{◌+◌, ◌-◌, ◌≤◌, max}
use Rattle.kw_cells.specs.Cells.{pairs_of}
use Rattle.kw_cells.specs.InOrder.{AreBelow}
use Rattle.kw_map.specs.Gather.{IsBelow}
use Rattle.kw_map.proofs.TakeLemmas.{IsHanding}
use Rattle.kw_map.proofs.gather.take_pairs.Given as goal

abbrev pub invariant-loop-key : goal.invariant-loop-key
invariant-loop-key g l = record {
  handing : IsHanding g.G.Gather.last g.G.Gather.stands l.fn.into l.into (pairs_of l.cells l.from l.upto l.version) (pairs_of l.cells l.low l.upto l.version);
  reached : AreBelow l.list l.at l.low;
  below : IsBelow (g.G.Gather.last l.into) l.low;
  in_range : l.low ≤ max l.from l.upto;
  never_falls : g.G.Gather.stops l.fn.into ≤ g.G.Gather.stops l.into;
}

abbrev pub decreases-loop-key : goal.decreases-loop-key
decreases-loop-key g l = l.upto + 1 - l.low
