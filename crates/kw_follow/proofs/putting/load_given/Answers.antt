use Rattle.kw_world.specs.declared.activity.Activity.TheVariants as Activity
use Rattle.kw_world.specs.declared.activity.put.Put.TheVariants as Put
use Rattle.kw_follow.proofs.PutEvents.{asks_at}
use Rattle.kw_follow.proofs.Moving.{moves_at}
use Rattle.kw_follow.proofs.putting.load_given.Goals as goal

pub load_count-told-requires : goal.load_count-told-requires
load_count-told-requires c = asks_at _ _ c.args.local.now (Activity.Put Put.Count) c.requires.follows c.requires.activity tt

pub returns : goal.returns
returns c = moves_at (Activity.Put Put.Count) c.requires c.load_count-told.ensures c.count.ensures
