use Rattle.kw_live_tests.proofs.Starting.{update_starts}
use Rattle.kw_live_tests.proofs.live.update.Goals as goal

pub locate-requires-clause-going : goal.locate-requires-clause-going
locate-requires-clause-going c = update_starts c.args.call _ c.requires.update c.enter.ensures.entered
