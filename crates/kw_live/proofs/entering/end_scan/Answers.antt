use Rattle.std.proofs.Common.{refl}
use Rattle.kw_follow.proofs.Reaching.{advances_on}
use Rattle.kw_live.proofs.entering.end_scan.Goals as goal

pub returns-clause-on : goal.returns-clause-on
returns-clause-on c = advances_on c.clear.ensures.went refl
