use Rattle.std.proofs.Common.{refl, ap}
use Rattle.kw_words.specs.declared.layout.Name.TheVariants.{Pass}
use Rattle.kw_world.specs.declared.activity.Activity.TheVariants as Activity
use Rattle.kw_follow.proofs.PutEvents.{asks_stored_at}
use Rattle.kw_follow.proofs.OneEvent.{follows_ranges, follows_room}
use Rattle.kw_follow.proofs.EngageEvents.{anew_part}
use Rattle.kw_follow.proofs.Moving.{moves}
use Rattle.kw_follow.proofs.replacing.take_epoch_back.Goals as goal

pub clear_pass-told-requires : goal.clear_pass-told-requires
clear_pass-told-requires c = asks_stored_at _ _ c.args.local.now Activity.Retry _ _ _ _ _ c.requires.follows c.requires.activity tt (ap Pass c.number.ensures) c.pack_pass-none.ensures.value refl

pub rebalance_on-requires-clause-ranges : goal.rebalance_on-requires-clause-ranges
rebalance_on-requires-clause-ranges c = follows_ranges _ _ _ c.requires.follows

pub rebalance_on-requires-clause-room : goal.rebalance_on-requires-clause-room
rebalance_on-requires-clause-room c = follows_room _ _ _ c.requires.follows

pub rebalance_on-requires-clause-part : goal.rebalance_on-requires-clause-part
rebalance_on-requires-clause-part c = anew_part c.args.local.now Activity.Retry c.requires.activity refl

pub returns : goal.returns
returns c = moves c.clear_pass-told.ensures c.rebalance_on.ensures
