use Rattle.std.proofs.Common.{refl, ◌∙◌}
use Rattle.kw_world.specs.declared.activity.Activity.TheVariants as Activity
use Rattle.kw_world.specs.declared.activity.put.Put.TheVariants as Put
use Rattle.kw_follow.proofs.PutEvents.{asks_stored}
use Rattle.kw_follow.proofs.Moving.{moves_at}
use Rattle.kw_follow.proofs.putting.write_key.Goals as goal

pub store_key-requires : goal.store_key-requires
store_key-requires c = asks_stored _ _ c.args.local.now (Activity.Put Put.Key) _ _ _ _ c.requires.follows c.requires.activity tt (c.pack_key-key.ensures.value ∙ c.first_key.ensures) refl

pub returns : goal.returns
returns c = moves_at (Activity.Put Put.Key) c.requires c.store_key.ensures c.to.ensures
