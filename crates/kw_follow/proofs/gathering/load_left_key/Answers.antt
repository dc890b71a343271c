use Rattle.kw_world.specs.declared.activity.Activity.TheVariants as Activity
use Rattle.kw_world.specs.declared.activity.rebalance.gather.Gather.TheVariants as Gather
use Rattle.kw_world.specs.declared.activity.rebalance.Rebalance.TheVariants as Rebalance
use Rattle.kw_follow.proofs.PutEvents.{asks_at}
use Rattle.kw_follow.proofs.Moving.{moves_at}
use Rattle.kw_follow.proofs.gathering.load_left_key.Goals as goal

pub load_key-told-requires : goal.load_key-told-requires
load_key-told-requires c = asks_at _ _ c.args.local.now (Activity.Rebalance (Rebalance.Gather Gather.LeftOverKey)) c.requires.follows c.requires.activity tt

pub returns : goal.returns
returns c = moves_at (Activity.Rebalance (Rebalance.Gather Gather.LeftOverKey)) c.requires c.load_key-told.ensures c.take_left_over_key.ensures
