use Rattle.kw_follow.specs.Following.{Follows}
use Rattle.kw_live_tests.proofs.live_guess.kinds_after_guess.Given as goal

abbrev pub invariant-loop : goal.invariant-loop
invariant-loop l = Follows l.shared l.pass l.local
