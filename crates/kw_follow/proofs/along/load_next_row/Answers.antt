use Rattle.std.proofs.Common.{refl, subst}
use Rattle.kw_world.specs.declared.activity.Activity.TheVariants as Activity
use Rattle.kw_world.specs.declared.activity.walk.Walk.TheVariants as Walk
use Rattle.kw_follow.specs.Following.{Follows}
use Rattle.kw_follow.specs.Within.{walking}
use Rattle.kw_follow.proofs.Moving.{moves_at}
use Rattle.kw_follow.proofs.along.load_next_row.Goals as goal

pub load_row_link-told-requires : goal.load_row_link-told-requires
load_row_link-told-requires c = (c.args.local.now, subst (λ a. Follows c.args.shared.now c.args.pass.now (walking a c.args.local.now)) c.requires.activity c.requires.follows, refl)

pub returns : goal.returns
returns c = moves_at (Activity.Walk Walk.Next) c.requires c.load_row_link-told.ensures c.see_row_link.ensures
