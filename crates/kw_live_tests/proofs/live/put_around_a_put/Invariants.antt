use Rattle.kw_follow.specs.Following.{Follows}
use Rattle.kw_live_tests.proofs.live.put_around_a_put.Given as goal

abbrev pub invariant-loop : goal.invariant-loop
invariant-loop l = Follows l.shared l.first l.local
