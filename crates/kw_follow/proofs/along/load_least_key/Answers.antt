use Rattle.std.proofs.Common.{refl, subst}
use Rattle.kw_world.specs.declared.activity.Activity.TheVariants as Activity
use Rattle.kw_world.specs.declared.activity.walk.Walk.TheVariants as Walk
use Rattle.kw_follow.specs.Following.{Follows}
use Rattle.kw_follow.specs.Within.{walking}
use Rattle.kw_follow.proofs.Moving.{moves_at}
use Rattle.kw_follow.proofs.along.load_least_key.Goals as goal

pub load_row_least-told-requires : goal.load_row_least-told-requires
load_row_least-told-requires c = (c.args.local.now, subst (λ a. Follows c.args.shared.now c.args.pass.now (walking a c.args.local.now)) c.requires.activity c.requires.follows, refl)

pub returns : goal.returns
returns c = moves_at (Activity.Walk Walk.NextLeast) c.requires c.load_row_least-told.ensures c.see_row_least.ensures
