-- What the rows so far gave stands behind one another; each row begins further on, in the range.
use Rattle.std.proofs.Common.{◌-◌, suc}
use Rattle.kw_map.proofs.ReadRows.{IsHandingRows}
use Rattle.kw_map.proofs.handing.hand_rows.Given as goal

abbrev pub invariant-loop-local : goal.invariant-loop-local
invariant-loop-local g l = IsHandingRows (record { last = g.G.Gather.last; stands = g.G.Gather.stands; stops = g.G.Gather.stops }) l.shared l.initial.pass l.initial.local l.initial.into l.pass l.local l.into l.ended

abbrev pub decreases-loop-local : goal.decreases-loop-local
decreases-loop-local g l = suc l.upto - l.local.want
