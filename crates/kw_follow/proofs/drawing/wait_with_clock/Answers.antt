use Rattle.std.proofs.Common.{refl, ap}
use Rattle.kw_world.specs.declared.activity.Activity.TheVariants as Activity
use Rattle.kw_world.specs.declared.activity.draw.Draw.TheVariants as Draw
use Rattle.kw_words.specs.declared.layout.Name.TheVariants.{Scan}
use Rattle.kw_follow.proofs.DrawEvents.{waiting_fits}
use Rattle.kw_follow.proofs.OneEvent.{follows_ranges}
use Rattle.kw_follow.proofs.PutEvents.{asks_stored_at}
use Rattle.kw_follow.proofs.Moving.{moves_at}
use Rattle.kw_follow.proofs.drawing.wait_with_clock.Goals as goal

pub pack-waiting-requires : goal.pack-waiting-requires
pack-waiting-requires c = waiting_fits c.args.local.now (follows_ranges _ _ _ c.requires.follows)

pub store_waiting-requires : goal.store_waiting-requires
store_waiting-requires c = asks_stored_at _ _ c.args.local.now (Activity.Draw Draw.Wait) _ _ _ _ _ c.requires.follows c.requires.activity tt (ap Scan c.number.ensures) c.pack-waiting.ensures.value refl

pub returns : goal.returns
returns c = moves_at (Activity.Draw Draw.Wait) c.requires c.store_waiting.ensures c.to.ensures
