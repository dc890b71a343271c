use Rattle.kw_world.specs.declared.activity.Activity.TheVariants as Activity
use Rattle.kw_world.specs.declared.activity.rebalance.freeze.Freeze.TheVariants as Freeze
use Rattle.kw_world.specs.declared.activity.rebalance.Rebalance.TheVariants as Rebalance
use Rattle.kw_follow.proofs.PutEvents.{asks_at}
use Rattle.kw_follow.proofs.BuildEvents.{marks_room, named_below}
use Rattle.kw_follow.proofs.Moving.{moves_at}
use Rattle.kw_follow.proofs.gathering.look_at_entry.Goals as goal

pub load_pend-told-requires : goal.load_pend-told-requires
load_pend-told-requires c = asks_at _ _ c.args.local.now (Activity.Rebalance (Rebalance.Freeze (Freeze.Look c.args.entry))) c.requires.follows c.requires.activity tt

pub look-requires-clause-entry : goal.look-requires-clause-entry
look-requires-clause-entry c = named_below _ _ c.args.local.now c.requires.follows (Activity.Rebalance (Rebalance.Freeze (Freeze.Look c.args.entry))) c.requires.activity

pub look-requires-clause-room : goal.look-requires-clause-room
look-requires-clause-room c = marks_room _ _ c.args.local.now c.requires.follows _ c.requires.activity

pub returns : goal.returns
returns c = moves_at (Activity.Rebalance (Rebalance.Freeze (Freeze.Look c.args.entry))) c.requires c.load_pend-told.ensures c.look.ensures
