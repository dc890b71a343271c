use Rattle.kw_world.specs.declared.activity.Activity.TheVariants as Activity
use Rattle.kw_world.specs.declared.activity.walk.Walk.TheVariants as Walk
use Rattle.kw_follow.proofs.PutEvents.{asks_at}
use Rattle.kw_follow.proofs.Moving.{moves_at}
use Rattle.kw_follow.proofs.along.load_guessed_least.Goals as goal

pub load_least-told-requires : goal.load_least-told-requires
load_least-told-requires c = asks_at _ _ c.args.local.now (Activity.Walk Walk.GuessedLeast) c.requires.follows c.requires.activity tt

pub returns : goal.returns
returns c = moves_at (Activity.Walk Walk.GuessedLeast) c.requires c.load_least-told.ensures c.guessed_least.ensures
