use Rattle.std.proofs.Common.{◌∙◌, Some, ap, refl}
use Rattle.kw_words.specs.Link.{link_word}
use Rattle.kw_world.specs.WriteTransitions.{unmarked_link}
use Rattle.kw_world.specs.declared.activity.Activity.TheVariants as Activity
use Rattle.kw_world.specs.declared.activity.rebalance.Rebalance.TheVariants as Rebalance
use Rattle.kw_world.specs.declared.activity.rebalance.replace.Replace.TheVariants as Replace
use Rattle.kw_follow.proofs.PutEvents.{asks_exchanged}
use Rattle.kw_follow.proofs.OneEvent.{follows_ranges, follows_room}
use Rattle.kw_follow.proofs.EngageEvents.{balance_part}
use Rattle.kw_follow.proofs.Moving.{moves}
use Rattle.kw_follow.proofs.replacing.link_new_rows.Goals as goal

pub replace-told-requires : goal.replace-told-requires
replace-told-requires c = asks_exchanged _ _ c.args.local.now (Activity.Rebalance (Rebalance.Replace Replace.Exchange)) _ _ _ _ _ _ _ c.requires.follows c.requires.activity tt c.link_before-link.ensures (c.link_to-full.ensures) (c.link_to-new.ensures ∙ ap (λ n. link_word (unmarked_link (Some n))) c.first_new.ensures) refl

pub rebalance_on-requires-clause-ranges : goal.rebalance_on-requires-clause-ranges
rebalance_on-requires-clause-ranges c = follows_ranges _ _ _ c.requires.follows

pub rebalance_on-requires-clause-room : goal.rebalance_on-requires-clause-room
rebalance_on-requires-clause-room c = follows_room _ _ _ c.requires.follows

pub rebalance_on-requires-clause-part : goal.rebalance_on-requires-clause-part
rebalance_on-requires-clause-part c = balance_part c.args.local.now (Rebalance.Replace Replace.Exchange) c.requires.activity

pub returns : goal.returns
returns c = moves c.replace-told.ensures c.rebalance_on.ensures
