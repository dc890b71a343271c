use Rattle.kw_world.specs.declared.activity.Activity.TheVariants as Activity
use Rattle.kw_world.specs.declared.activity.rebalance.freeze.Freeze.TheVariants as Freeze
use Rattle.kw_world.specs.declared.activity.rebalance.Rebalance.TheVariants as Rebalance
use Rattle.kw_follow.proofs.PutEvents.{asks_at}
use Rattle.kw_follow.proofs.BuildEvents.{named_below, needed_room}
use Rattle.kw_follow.proofs.Moving.{moves_at}
use Rattle.kw_follow.proofs.gathering.look_at_scan.Goals as goal

pub load_scan-told-requires : goal.load_scan-told-requires
load_scan-told-requires c = asks_at _ _ c.args.local.now (Activity.Rebalance (Rebalance.Freeze (Freeze.Scan c.args.seat))) c.requires.follows c.requires.activity tt

pub scan-requires-clause-seat : goal.scan-requires-clause-seat
scan-requires-clause-seat c = named_below _ _ c.args.local.now c.requires.follows (Activity.Rebalance (Rebalance.Freeze (Freeze.Scan c.args.seat))) c.requires.activity

pub scan-requires-clause-room : goal.scan-requires-clause-room
scan-requires-clause-room c = needed_room _ _ c.args.local.now c.requires.follows _ c.requires.activity

pub returns : goal.returns
returns c = moves_at (Activity.Rebalance (Rebalance.Freeze (Freeze.Scan c.args.seat))) c.requires c.load_scan-told.ensures c.scan.ensures
