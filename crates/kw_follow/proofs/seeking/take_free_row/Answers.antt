use Rattle.std.proofs.Common.{◌∙◌, ap, refl}
use Rattle.kw_words.specs.declared.state.State.TheVariants.{Infant}
use Rattle.kw_words.specs.State.{state_word}
use Rattle.kw_world.specs.declared.activity.Activity.TheVariants as Activity
use Rattle.kw_world.specs.declared.activity.rebalance.Rebalance.TheVariants as Rebalance
use Rattle.kw_world.specs.declared.activity.rebalance.seek.Seek.TheVariants as Seek
use Rattle.kw_follow.proofs.Moving.{moves}
use Rattle.kw_follow.proofs.OneEvent.{follows_ranges, follows_room}
use Rattle.kw_follow.proofs.PutEvents.{asks_exchanged}
use Rattle.kw_follow.proofs.SeekEvents.{seat_fits}
use Rattle.kw_follow.proofs.EngageEvents.{balance_part}
use Rattle.kw_follow.proofs.seeking.take_free_row.Goals as goal

pub pack-infant-requires : goal.pack-infant-requires
pack-infant-requires c = seat_fits c.args.pass.now _ c.number.ensures

pub take_row-told-requires : goal.take_row-told-requires
take_row-told-requires c = asks_exchanged _ _ c.args.local.now (Activity.Rebalance (Rebalance.Seek Seek.Take)) _ _ _ _ _ _ _ c.requires.follows c.requires.activity tt refl c.pack-free.ensures.value (c.pack-infant.ensures.value ∙ ap (λ n. state_word (Infant n)) c.number.ensures) refl

pub rebalance_on-requires-clause-ranges : goal.rebalance_on-requires-clause-ranges
rebalance_on-requires-clause-ranges c = follows_ranges _ _ _ c.requires.follows

pub rebalance_on-requires-clause-room : goal.rebalance_on-requires-clause-room
rebalance_on-requires-clause-room c = follows_room _ _ _ c.requires.follows

pub rebalance_on-requires-clause-part : goal.rebalance_on-requires-clause-part
rebalance_on-requires-clause-part c = balance_part c.args.local.now (Rebalance.Seek Seek.Take) c.requires.activity

pub returns : goal.returns
returns c = moves c.take_row-told.ensures c.rebalance_on.ensures
