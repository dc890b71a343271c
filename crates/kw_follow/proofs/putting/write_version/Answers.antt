use Rattle.std.proofs.Common.{refl}
use Rattle.kw_world.specs.declared.activity.Activity.TheVariants as Activity
use Rattle.kw_world.specs.declared.activity.put.Put.TheVariants as Put
use Rattle.kw_follow.proofs.PutEvents.{asks_stored}
use Rattle.kw_follow.proofs.OneEvent.{follows_ranges}
use Rattle.kw_follow.proofs.Moving.{moves_at}
use Rattle.kw_follow.proofs.putting.write_version.Goals as goal

pub pack_version-version-requires : goal.pack_version-version-requires
pack_version-version-requires c = (follows_ranges _ _ _ c.requires.follows).version.0

pub store_version-requires : goal.store_version-requires
store_version-requires c = asks_stored _ _ c.args.local.now (Activity.Put Put.Version) _ _ _ _ c.requires.follows c.requires.activity tt c.pack_version-version.ensures.value refl

pub returns : goal.returns
returns c = moves_at (Activity.Put Put.Version) c.requires c.store_version.ensures c.start_insert.ensures
