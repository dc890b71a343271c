use Rattle.std.proofs.Common.{refl, ap}
use Rattle.kw_world.specs.declared.activity.Activity.TheVariants as Activity
use Rattle.kw_world.specs.declared.activity.draw.Draw.TheVariants as Draw
use Rattle.kw_words.specs.declared.layout.Name.TheVariants.{Scan}
use Rattle.kw_follow.proofs.DrawEvents.{waiting_fits, drawn_fits}
use Rattle.kw_follow.proofs.OneEvent.{follows_ranges}
use Rattle.kw_follow.proofs.PutEvents.{asks_exchanged}
use Rattle.kw_follow.proofs.Moving.{moves_at}
use Rattle.kw_follow.proofs.drawing.settle_version.Goals as goal

pub pack-waiting-requires : goal.pack-waiting-requires
pack-waiting-requires c = waiting_fits c.args.local.now (follows_ranges _ _ _ c.requires.follows)

pub pack-drawn-requires : goal.pack-drawn-requires
pack-drawn-requires c = drawn_fits c.args.local.now (follows_ranges _ _ _ c.requires.follows)

pub settle-told-requires : goal.settle-told-requires
settle-told-requires c = asks_exchanged _ _ c.args.local.now (Activity.Draw Draw.Settle) _ _ _ _ _ _ _ c.requires.follows c.requires.activity tt (ap Scan c.number.ensures) c.pack-waiting.ensures.value c.pack-drawn.ensures.value refl

pub returns : goal.returns
returns c = moves_at (Activity.Draw Draw.Settle) c.requires c.settle-told.ensures c.settle.ensures
