use Rattle.kw_follow.proofs.OneEvent.{follows_ranges}
use Rattle.kw_live_tests.proofs.live_guess.kinds_after_guess.Goals as goal

pub operation-requires : goal.operation-requires
operation-requires c = follows_ranges c.args.shared.now c.loop.pass c.loop.local c.loop.invariant
