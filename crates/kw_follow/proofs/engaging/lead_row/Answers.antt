use Rattle.std.proofs.Common.{refl}
use Rattle.kw_world.specs.declared.activity.Activity.TheVariants as Activity
use Rattle.kw_world.specs.declared.activity.rebalance.Rebalance.TheVariants as Rebalance
use Rattle.kw_world.specs.declared.activity.rebalance.engage.Engage.TheVariants as Engage
use Rattle.kw_follow.proofs.PutEvents.{asks_exchanged}
use Rattle.kw_follow.proofs.OneEvent.{follows_ranges, follows_room}
use Rattle.kw_follow.proofs.EngageEvents.{balance_part}
use Rattle.kw_follow.proofs.Moving.{moves}
use Rattle.kw_follow.proofs.engaging.lead_row.Goals as goal

pub engage-told-requires : goal.engage-told-requires
engage-told-requires c = asks_exchanged _ _ c.args.local.now (Activity.Rebalance (Rebalance.Engage Engage.Lead)) _ _ _ _ _ _ _ c.requires.follows c.requires.activity tt refl c.pack-normal.ensures.value c.pack-leader.ensures.value refl

pub rebalance_on-requires-clause-ranges : goal.rebalance_on-requires-clause-ranges
rebalance_on-requires-clause-ranges c = follows_ranges _ _ _ c.requires.follows

pub rebalance_on-requires-clause-room : goal.rebalance_on-requires-clause-room
rebalance_on-requires-clause-room c = follows_room _ _ _ c.requires.follows

pub rebalance_on-requires-clause-part : goal.rebalance_on-requires-clause-part
rebalance_on-requires-clause-part c = balance_part c.args.local.now (Rebalance.Engage Engage.Lead) c.requires.activity

pub returns : goal.returns
returns c = moves c.engage-told.ensures c.rebalance_on.ensures
