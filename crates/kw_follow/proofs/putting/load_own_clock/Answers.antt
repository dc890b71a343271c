use Rattle.kw_world.specs.declared.activity.Activity.TheVariants as Activity
use Rattle.kw_world.specs.declared.activity.put.Put.TheVariants as Put
use Rattle.kw_follow.proofs.PutEvents.{asks_at}
use Rattle.kw_follow.proofs.Moving.{moves_at}
use Rattle.kw_follow.proofs.putting.load_own_clock.Goals as goal

pub load_clock-told-requires : goal.load_clock-told-requires
load_clock-told-requires c = asks_at _ _ c.args.local.now (Activity.Put Put.Clock) c.requires.follows c.requires.activity tt

pub returns : goal.returns
returns c = moves_at (Activity.Put Put.Clock) c.requires c.load_clock-told.ensures c.to.ensures
