use Rattle.std.proofs.Common.{refl}
use Rattle.kw_world.specs.declared.activity.Activity.TheVariants as Activity
use Rattle.kw_world.specs.declared.activity.enter.Enter.TheVariants as Enter
use Rattle.kw_follow.proofs.PutEvents.{asks_at}
use Rattle.kw_follow.proofs.OneEvent.{follows_ranges, follows_room}
use Rattle.kw_follow.proofs.EngageEvents.{anew_part}
use Rattle.kw_follow.proofs.Moving.{moves}
use Rattle.kw_follow.proofs.replacing.load_epoch_anew.Goals as goal

pub load_epoch-told-requires : goal.load_epoch-told-requires
load_epoch-told-requires c = asks_at _ _ c.args.local.now (Activity.Enter Enter.LoadEpoch) c.requires.follows c.requires.activity tt

pub rebalance_on-requires-clause-ranges : goal.rebalance_on-requires-clause-ranges
rebalance_on-requires-clause-ranges c = follows_ranges _ _ _ c.requires.follows

pub rebalance_on-requires-clause-room : goal.rebalance_on-requires-clause-room
rebalance_on-requires-clause-room c = follows_room _ _ _ c.requires.follows

pub rebalance_on-requires-clause-part : goal.rebalance_on-requires-clause-part
rebalance_on-requires-clause-part c = anew_part c.args.local.now (Activity.Enter Enter.LoadEpoch) c.requires.activity refl

pub returns : goal.returns
returns c = moves c.load_epoch-told.ensures c.rebalance_on.ensures
