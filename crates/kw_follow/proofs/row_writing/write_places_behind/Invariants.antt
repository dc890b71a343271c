use Rattle.kw_follow.specs.BuildsOn.{at_cell}
use Rattle.kw_follow.specs.Reaching.{Advances}
use Rattle.kw_follow.proofs.row_writing.write_places_behind.Given as goal

abbrev pub invariant-loop-place : goal.invariant-loop-place
invariant-loop-place l = Advances l.shared l.fn.pass l.pass (at_cell l.place l.local)
