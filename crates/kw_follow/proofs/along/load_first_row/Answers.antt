use Rattle.kw_world.specs.declared.activity.Activity.TheVariants as Activity
use Rattle.kw_world.specs.declared.activity.walk.Walk.TheVariants as Walk
use Rattle.kw_follow.proofs.PutEvents.{asks_at}
use Rattle.kw_follow.proofs.Moving.{moves_at}
use Rattle.kw_follow.proofs.along.load_first_row.Goals as goal

pub load_head-told-requires : goal.load_head-told-requires
load_head-told-requires c = asks_at _ _ c.args.local.now (Activity.Walk Walk.Start) c.requires.follows c.requires.activity tt

pub returns : goal.returns
returns c = moves_at (Activity.Walk Walk.Start) c.requires c.load_head-told.ensures c.first.ensures
