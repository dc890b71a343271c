use Rattle.std.proofs.Common.{ap, refl}
use Rattle.kw_words.specs.declared.layout.Name.TheVariants.{Least}
use Rattle.kw_world.specs.declared.activity.Activity.TheVariants as Activity
use Rattle.kw_world.specs.declared.activity.rebalance.Rebalance.TheVariants as Rebalance
use Rattle.kw_world.specs.declared.activity.rebalance.replace.Replace.TheVariants as Replace
use Rattle.kw_follow.proofs.OneEvent.{follows_ranges, follows_room}
use Rattle.kw_follow.proofs.EngageEvents.{asks_loaded_at, balance_part}
use Rattle.kw_follow.proofs.Moving.{moves}
use Rattle.kw_follow.proofs.replacing.load_least_before.Goals as goal

pub load_least-told-requires : goal.load_least-told-requires
load_least-told-requires c = asks_loaded_at _ _ c.args.local.now (Activity.Rebalance (Rebalance.Replace Replace.GuessedLeast)) _ _ _ c.requires.follows c.requires.activity tt (ap Least c.row_before.ensures) refl

pub rebalance_on-requires-clause-ranges : goal.rebalance_on-requires-clause-ranges
rebalance_on-requires-clause-ranges c = follows_ranges _ _ _ c.requires.follows

pub rebalance_on-requires-clause-room : goal.rebalance_on-requires-clause-room
rebalance_on-requires-clause-room c = follows_room _ _ _ c.requires.follows

pub rebalance_on-requires-clause-part : goal.rebalance_on-requires-clause-part
rebalance_on-requires-clause-part c = balance_part c.args.local.now (Rebalance.Replace Replace.GuessedLeast) c.requires.activity

pub returns : goal.returns
returns c = moves c.load_least-told.ensures c.rebalance_on.ensures
