use Rattle.std.proofs.Common.{refl}
use Rattle.kw_world.specs.declared.activity.Activity.TheVariants as Activity
use Rattle.kw_world.specs.declared.activity.walk.Walk.TheVariants as Walk
use Rattle.kw_follow.specs.Ways.{on_way}
use Rattle.kw_follow.proofs.PutEvents.{asks_at}
use Rattle.kw_follow.proofs.way.Way.load_least.Goals as goal

pub load_least-requires : goal.load_least-requires
load_least-requires c = asks_at _ _ (on_way (Activity.Walk Walk.GuessedLeast) c.args.self) (Activity.Walk Walk.GuessedLeast) c.requires refl tt
