use Rattle.kw_world.specs.declared.activity.Activity.TheVariants as Activity
use Rattle.kw_world.specs.declared.activity.insert.Insert.TheVariants as Insert
use Rattle.kw_follow.proofs.PutEvents.{asks_at}
use Rattle.kw_follow.proofs.Moving.{moves_at}
use Rattle.kw_follow.proofs.putting.load_reached_version.Goals as goal

pub load_version-told-requires : goal.load_version-told-requires
load_version-told-requires c = asks_at _ _ c.args.local.now (Activity.Insert Insert.Version) c.requires.follows c.requires.activity tt

pub returns : goal.returns
returns c = moves_at (Activity.Insert Insert.Version) c.requires c.load_version-told.ensures c.insert_version.ensures
