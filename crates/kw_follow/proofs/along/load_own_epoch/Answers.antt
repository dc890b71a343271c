use Rattle.std.proofs.Common.{◌∙◌}
use Rattle.kw_follow.proofs.WayEvents.{asks_epoch, begins_at}
use Rattle.kw_follow.proofs.Moving.{moves}
use Rattle.kw_follow.proofs.along.load_own_epoch.Goals as goal

pub load_epoch-told-requires : goal.load_epoch-told-requires
load_epoch-told-requires c = asks_epoch _ _ _ c.requires.table c.requires.idle c.requires.range

pub returns : goal.returns
returns c = moves c.load_epoch-told.ensures (c.begin.ensures ∙ begins_at _ c.args.call c.args.local.now _ c.requires.rested)
