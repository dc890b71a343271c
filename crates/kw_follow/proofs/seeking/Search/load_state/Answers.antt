use Rattle.std.proofs.Common.{refl}
use Rattle.kw_world.specs.declared.activity.Activity.TheVariants as Activity
use Rattle.kw_world.specs.declared.activity.rebalance.Rebalance.TheVariants as Rebalance
use Rattle.kw_world.specs.declared.activity.rebalance.seek.Seek.TheVariants as Seek
use Rattle.kw_follow.specs.Searches.{seeking_at}
use Rattle.kw_follow.proofs.PutEvents.{asks_at}
use Rattle.kw_follow.proofs.seeking.Search.load_state.Goals as goal

pub load_state-requires : goal.load_state-requires
load_state-requires c = asks_at _ _ (seeking_at c.args.self c.requires.0) (Activity.Rebalance (Rebalance.Seek Seek.Next)) c.requires.1 refl tt
