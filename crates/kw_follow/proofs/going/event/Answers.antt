use Rattle.std.proofs.Common.{rules}
use Rattle.kw_follow.proofs.Moving.{moves}
use Rattle.kw_follow.proofs.going.event.Goals as goal

pub returns : goal.returns
returns c = moves c.ask-told.ensures (search rules)
