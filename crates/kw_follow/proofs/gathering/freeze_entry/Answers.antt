use Rattle.std.proofs.Common.{refl}
use Rattle.kw_world.specs.declared.activity.Activity.TheVariants as Activity
use Rattle.kw_world.specs.declared.activity.rebalance.freeze.Freeze.TheVariants as Freeze
use Rattle.kw_world.specs.declared.activity.rebalance.Rebalance.TheVariants as Rebalance
use Rattle.kw_follow.proofs.BuildEvents.{entry_fits, named_below}
use Rattle.kw_follow.proofs.OneEvent.{follows_ranges}
use Rattle.kw_follow.proofs.PutEvents.{asks_exchanged}
use Rattle.kw_follow.proofs.Moving.{moves_at}
use Rattle.kw_follow.proofs.gathering.freeze_entry.Goals as goal

pub pack-found-requires : goal.pack-found-requires
pack-found-requires c = entry_fits _ (follows_ranges _ _ _ c.requires.follows).rebalance.entry

pub freeze_pend-told-requires : goal.freeze_pend-told-requires
freeze_pend-told-requires c = asks_exchanged _ _ c.args.local.now (Activity.Rebalance (Rebalance.Freeze (Freeze.Entry c.args.entry))) _ _ _ _ _ _ _ c.requires.follows c.requires.activity tt refl c.pack-found.ensures.value c.pack-frozen.ensures.value refl

pub entry_tried-requires-clause-entry : goal.entry_tried-requires-clause-entry
entry_tried-requires-clause-entry c = named_below _ _ c.args.local.now c.requires.follows (Activity.Rebalance (Rebalance.Freeze (Freeze.Entry c.args.entry))) c.requires.activity

pub entry_tried-requires-clause-held : goal.entry_tried-requires-clause-held
entry_tried-requires-clause-held c = (follows_ranges _ _ _ c.requires.follows).rebalance.entry

pub returns : goal.returns
returns c = moves_at (Activity.Rebalance (Rebalance.Freeze (Freeze.Entry c.args.entry))) c.requires c.freeze_pend-told.ensures c.entry_tried.ensures
