use Rattle.kw_core.specs.Stages.{is_walking}
use Rattle.kw_map.proofs.RowStages.{IsGathering, rows_ahead}
use Rattle.kw_map.proofs.scanning.gather_rows.Given as goal

abbrev pub invariant-loop-guess : goal.invariant-loop-guess
invariant-loop-guess g l = IsGathering (record { last = g.G.Gather.last; stands = g.G.Gather.stands; stops = g.G.Gather.stops }) l.shared l.initial.pass l.pass l.initial.local l.local l.initial.into l.into

abbrev pub decreases-loop-guess : goal.decreases-loop-guess
decreases-loop-guess g l = rows_ahead (is_walking l.local.activity) l.local.want l.upto
