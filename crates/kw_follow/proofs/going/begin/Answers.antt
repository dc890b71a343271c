use Rattle.std.proofs.Common.{ap}
use Rattle.kw_world.specs.declared.local.Local.{Local}
use Rattle.kw_follow.proofs.Ends.{begin_is}
use Rattle.kw_follow.proofs.Moving.{begins_by}
use Rattle.kw_follow.proofs.OwnEvents.{only_event}
use Rattle.kw_follow.proofs.going.begin.Goals as goal

pub returns-clause-begins : goal.returns-clause-begins
returns-clause-begins c = begins_by c.requires.idle c.requires.rested c.load_own_epoch.ensures

pub returns-clause-activity : goal.returns-clause-activity
returns-clause-activity c = ap (λ (k : Local). k.activity) (begin_is _ c.requires.rested c.load_own_epoch.ensures.line)

pub returns-clause-only : goal.returns-clause-only
returns-clause-only c = (c.load_own_epoch.ensures.told, only_event c.load_own_epoch.ensures.makes)
