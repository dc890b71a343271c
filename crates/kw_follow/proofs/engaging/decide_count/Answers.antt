use Rattle.std.proofs.Common.{refl}
use Rattle.kw_follow.proofs.BuildEvents.{named_below}
use Rattle.kw_world.specs.declared.activity.Activity.TheVariants as Activity
use Rattle.kw_world.specs.declared.activity.rebalance.Rebalance.TheVariants as Rebalance
use Rattle.kw_world.specs.declared.activity.rebalance.engage.Engage.TheVariants as Engage
use Rattle.kw_follow.proofs.PutEvents.{asks_exchanged}
use Rattle.kw_follow.proofs.OneEvent.{follows_ranges, follows_room}
use Rattle.kw_follow.proofs.EngageEvents.{balance_part}
use Rattle.kw_follow.proofs.Moving.{moves}
use Rattle.kw_follow.proofs.engaging.decide_count.Goals as goal

pub pack-decided-requires : goal.pack-decided-requires
pack-decided-requires c = named_below _ _ c.args.local.now c.requires.follows (Activity.Rebalance (Rebalance.Engage (Engage.Decide c.args.count))) c.requires.activity

pub decide-told-requires : goal.decide-told-requires
decide-told-requires c = asks_exchanged _ _ c.args.local.now (Activity.Rebalance (Rebalance.Engage (Engage.Decide c.args.count))) _ _ _ _ _ _ _ c.requires.follows c.requires.activity tt refl c.pack-undecided.ensures.value c.pack-decided.ensures.value refl

pub rebalance_on-requires-clause-ranges : goal.rebalance_on-requires-clause-ranges
rebalance_on-requires-clause-ranges c = follows_ranges _ _ _ c.requires.follows

pub rebalance_on-requires-clause-room : goal.rebalance_on-requires-clause-room
rebalance_on-requires-clause-room c = follows_room _ _ _ c.requires.follows

pub rebalance_on-requires-clause-part : goal.rebalance_on-requires-clause-part
rebalance_on-requires-clause-part c = balance_part c.args.local.now (Rebalance.Engage (Engage.Decide c.args.count)) c.requires.activity

pub returns : goal.returns
returns c = moves c.decide-told.ensures c.rebalance_on.ensures
