use Rattle.kw_world.specs.declared.activity.Activity.TheVariants as Activity
use Rattle.kw_world.specs.declared.activity.put.Put.TheVariants as Put
use Rattle.kw_follow.proofs.PutEvents.{asks_at}
use Rattle.kw_follow.proofs.Moving.{moves_at}
use Rattle.kw_follow.proofs.putting.ask_for_cell.Goals as goal

pub add_count-told-requires : goal.add_count-told-requires
add_count-told-requires c = asks_at _ _ c.args.local.now (Activity.Put Put.Add) c.requires.follows c.requires.activity tt

pub returns : goal.returns
returns c = moves_at (Activity.Put Put.Add) c.requires c.add_count-told.ensures c.add.ensures
