use Rattle.kw_world.specs.declared.activity.Activity.TheVariants as Activity
use Rattle.kw_world.specs.declared.activity.insert.Insert.TheVariants as Insert
use Rattle.kw_follow.proofs.PutEvents.{asks_at}
use Rattle.kw_follow.proofs.Moving.{moves_at}
use Rattle.kw_follow.proofs.putting.load_reached_key.Goals as goal

pub load_key-told-requires : goal.load_key-told-requires
load_key-told-requires c = asks_at _ _ c.args.local.now (Activity.Insert Insert.Key) c.requires.follows c.requires.activity tt

pub returns : goal.returns
returns c = moves_at (Activity.Insert Insert.Key) c.requires c.load_key-told.ensures c.insert_key.ensures
