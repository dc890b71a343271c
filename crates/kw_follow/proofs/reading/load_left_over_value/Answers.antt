use Rattle.kw_world.specs.declared.activity.Activity.TheVariants as Activity
use Rattle.kw_world.specs.declared.activity.read.Read.TheVariants as Read
use Rattle.kw_follow.proofs.PutEvents.{asks_at}
use Rattle.kw_follow.proofs.ReadEvents.{reads_left_over}
use Rattle.kw_follow.proofs.reading.load_left_over_value.Goals as goal

pub load_value-told-requires : goal.load_value-told-requires
load_value-told-requires c = asks_at _ _ c.args.local.now (Activity.Read Read.LeftOverValue) c.requires.follows c.requires.activity tt

pub returns : goal.returns
returns c = reads_left_over c.args.local.now (Activity.Read Read.LeftOverValue) c.requires tt c.load_value-told.ensures c.left_value.ensures
