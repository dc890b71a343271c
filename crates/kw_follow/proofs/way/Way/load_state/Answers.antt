use Rattle.std.proofs.Common.{refl}
use Rattle.kw_world.specs.declared.activity.Activity.TheVariants as Activity
use Rattle.kw_world.specs.declared.activity.walk.Walk.TheVariants as Walk
use Rattle.kw_follow.specs.Ways.{on_way}
use Rattle.kw_follow.proofs.WayEvents.{asks_guess}
use Rattle.kw_follow.proofs.way.Way.load_state.Goals as goal

pub load_state-requires : goal.load_state-requires
load_state-requires c = asks_guess _ _ (on_way (Activity.Walk Walk.Start) c.args.self) c.args.row c.requires.follows refl c.requires.in_range
