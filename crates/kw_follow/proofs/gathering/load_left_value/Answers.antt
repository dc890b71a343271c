use Rattle.std.proofs.Common.{refl}
use Rattle.kw_world.specs.declared.activity.Activity.TheVariants as Activity
use Rattle.kw_world.specs.declared.activity.rebalance.gather.Gather.TheVariants as Gather
use Rattle.kw_world.specs.declared.activity.rebalance.Rebalance.TheVariants as Rebalance
use Rattle.kw_follow.proofs.PutEvents.{asks_at}
use Rattle.kw_follow.proofs.BuildEvents.{needed_few}
use Rattle.kw_follow.proofs.OneEvent.{follows_ranges, follows_room}
use Rattle.kw_follow.proofs.Moving.{moves_at}
use Rattle.kw_follow.proofs.gathering.load_left_value.Goals as goal

pub load_value-told-requires : goal.load_value-told-requires
load_value-told-requires c = asks_at _ _ c.args.local.now (Activity.Rebalance (Rebalance.Gather Gather.LeftOverValue)) c.requires.follows c.requires.activity tt

pub left_over_value-requires-clause-place : goal.left_over_value-requires-clause-place
left_over_value-requires-clause-place c = (follows_ranges _ _ _ c.requires.follows).place

pub left_over_value-requires-clause-gathered : goal.left_over_value-requires-clause-gathered
left_over_value-requires-clause-gathered c = (follows_room _ _ _ c.requires.follows).rebalance.gathered

pub left_over_value-requires-clause-needed : goal.left_over_value-requires-clause-needed
left_over_value-requires-clause-needed c = needed_few _ _ c.args.local.now c.requires.follows (Activity.Rebalance (Rebalance.Gather Gather.LeftOverValue)) c.requires.activity refl

pub returns : goal.returns
returns c = moves_at (Activity.Rebalance (Rebalance.Gather Gather.LeftOverValue)) c.requires c.load_value-told.ensures c.left_over_value.ensures
