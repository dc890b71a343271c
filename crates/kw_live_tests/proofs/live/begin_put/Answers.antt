use Rattle.std.proofs.Common.{refl}
use Rattle.kw_model.specs.declared.call.Call.TheVariants.{Put}
use Rattle.kw_live_tests.proofs.Starting.{update_starts}
use Rattle.kw_live_tests.proofs.live.begin_put.Goals as goal

pub locate-requires-clause-going : goal.locate-requires-clause-going
locate-requires-clause-going c = update_starts (Put c.args.key c.args.value) _ refl c.enter.ensures.entered
