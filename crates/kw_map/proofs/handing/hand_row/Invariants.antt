use Rattle.std.proofs.Common.{◌-◌}
use Rattle.kw_words.specs.declared.sizes.TheConstants.{CELLS}
use Rattle.kw_map.proofs.HandedRows.{IsHandingOn}
use Rattle.kw_map.proofs.handing.hand_row.Given as goal

abbrev pub invariant-loop-cell : goal.invariant-loop-cell
invariant-loop-cell g l = IsHandingOn (record { last = g.G.Gather.last; stands = g.G.Gather.stands; stops = g.G.Gather.stops }) l.shared l.fn.pass l.fn.local l.fn.into l.pass l.local l.cursor l.low l.ended l.into

abbrev pub decreases-loop-cell : goal.decreases-loop-cell
decreases-loop-cell g l = CELLS - l.cursor.walked
