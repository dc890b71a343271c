use Rattle.std.proofs.Common.{refl}
use Rattle.kw_world.specs.declared.activity.Activity.TheVariants as Activity
use Rattle.kw_world.specs.declared.activity.insert.Insert.TheVariants as Insert
use Rattle.kw_follow.proofs.PutEvents.{asks_stored, cell_below}
use Rattle.kw_follow.proofs.OneEvent.{follows_ranges}
use Rattle.kw_follow.proofs.Moving.{moves_at}
use Rattle.kw_follow.proofs.putting.store_link.Goals as goal

pub pack_cell_link-held-requires : goal.pack_cell_link-held-requires
pack_cell_link-held-requires c = cell_below _ (follows_ranges _ _ _ c.requires.follows).held

pub store_after-requires : goal.store_after-requires
store_after-requires c = asks_stored _ _ c.args.local.now (Activity.Insert Insert.Set) _ _ _ _ c.requires.follows c.requires.activity tt c.pack_cell_link-held.ensures.value refl

pub returns : goal.returns
returns c = moves_at (Activity.Insert Insert.Set) c.requires c.store_after.ensures c.to.ensures
