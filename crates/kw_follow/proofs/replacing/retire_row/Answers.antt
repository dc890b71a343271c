use Rattle.std.proofs.Common.{refl}
use Rattle.kw_world.specs.declared.activity.Activity.TheVariants as Activity
use Rattle.kw_world.specs.declared.activity.rebalance.Rebalance.TheVariants as Rebalance
use Rattle.kw_world.specs.declared.activity.rebalance.replace.Replace.TheVariants as Replace
use Rattle.kw_follow.proofs.PutEvents.{asks_stored}
use Rattle.kw_follow.proofs.OneEvent.{follows_ranges, follows_room}
use Rattle.kw_follow.proofs.EngageEvents.{balance_part}
use Rattle.kw_follow.proofs.Moving.{moves}
use Rattle.kw_follow.proofs.replacing.retire_row.Goals as goal

pub pack-retired-requires : goal.pack-retired-requires
pack-retired-requires c = (follows_ranges _ _ _ c.requires.follows).rebalance.number

pub retire-told-requires : goal.retire-told-requires
retire-told-requires c = asks_stored _ _ c.args.local.now (Activity.Rebalance (Rebalance.Replace Replace.Retire)) _ _ _ _ c.requires.follows c.requires.activity tt c.pack-retired.ensures.value refl

pub rebalance_on-requires-clause-ranges : goal.rebalance_on-requires-clause-ranges
rebalance_on-requires-clause-ranges c = follows_ranges _ _ _ c.requires.follows

pub rebalance_on-requires-clause-room : goal.rebalance_on-requires-clause-room
rebalance_on-requires-clause-room c = follows_room _ _ _ c.requires.follows

pub rebalance_on-requires-clause-part : goal.rebalance_on-requires-clause-part
rebalance_on-requires-clause-part c = balance_part c.args.local.now (Rebalance.Replace Replace.Retire) c.requires.activity

pub returns : goal.returns
returns c = moves c.retire-told.ensures c.rebalance_on.ensures
