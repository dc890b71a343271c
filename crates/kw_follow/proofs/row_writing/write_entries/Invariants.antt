use Rattle.kw_follow.specs.BuildsOn.{at_entry}
use Rattle.kw_follow.specs.Reaching.{Advances}
use Rattle.kw_follow.proofs.row_writing.write_entries.Given as goal

abbrev pub invariant-loop-seat : goal.invariant-loop-seat
invariant-loop-seat l = Advances l.shared l.fn.pass l.pass (at_entry l.seat l.local)
