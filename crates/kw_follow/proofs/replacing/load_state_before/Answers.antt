use Rattle.std.proofs.Common.{◌∙◌}
use Rattle.kw_world.specs.declared.activity.rebalance.Rebalance.TheVariants as Rebalance
use Rattle.kw_world.specs.declared.activity.rebalance.replace.Replace.TheVariants as Replace
use Rattle.kw_follow.proofs.OneEvent.{follows_ranges, follows_room}
use Rattle.kw_follow.proofs.EngageEvents.{asks_guessed_row, balance_part_guess, offers_row}
use Rattle.kw_follow.proofs.Moving.{moves}
use Rattle.kw_follow.proofs.replacing.load_state_before.Goals as goal

pub load_state-told-requires : goal.load_state-told-requires
load_state-told-requires c = asks_guessed_row _ _ c.args.local.now c.args.row (Rebalance.Replace Replace.Start) c.requires.at.follows c.requires.at.activity tt c.requires.in_range

pub rebalance_on-requires-clause-ranges : goal.rebalance_on-requires-clause-ranges
rebalance_on-requires-clause-ranges c = follows_ranges _ _ _ c.requires.at.follows

pub rebalance_on-requires-clause-room : goal.rebalance_on-requires-clause-room
rebalance_on-requires-clause-room c = follows_room _ _ _ c.requires.at.follows

pub rebalance_on-requires-clause-part : goal.rebalance_on-requires-clause-part
rebalance_on-requires-clause-part c = balance_part_guess c.args.local.now c.args.row (Rebalance.Replace Replace.Start) c.requires.at.activity

pub returns : goal.returns
returns c = moves c.load_state-told.ensures (c.rebalance_on.ensures ∙ offers_row _ c.args.row c.args.local.now _ c.requires.in_range)
