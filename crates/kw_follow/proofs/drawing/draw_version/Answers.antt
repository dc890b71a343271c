use Rattle.kw_world.specs.declared.activity.Activity.TheVariants as Activity
use Rattle.kw_world.specs.declared.activity.draw.Draw.TheVariants as Draw
use Rattle.kw_follow.proofs.PutEvents.{asks_at}
use Rattle.kw_follow.proofs.Moving.{moves_at}
use Rattle.kw_follow.proofs.drawing.draw_version.Goals as goal

pub draw-told-requires : goal.draw-told-requires
draw-told-requires c = asks_at _ _ c.args.local.now (Activity.Draw Draw.Version) c.requires.follows c.requires.activity tt

pub returns : goal.returns
returns c = moves_at (Activity.Draw Draw.Version) c.requires c.draw-told.ensures c.to.ensures
