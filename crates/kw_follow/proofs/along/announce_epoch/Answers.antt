use Rattle.std.proofs.Common.{refl, ap}
use Rattle.kw_world.specs.declared.activity.Activity.TheVariants as Activity
use Rattle.kw_world.specs.declared.activity.enter.Enter.TheVariants as Enter
use Rattle.kw_words.specs.declared.layout.Name.TheVariants.{Pass}
use Rattle.kw_follow.proofs.OneEvent.{follows_ranges}
use Rattle.kw_follow.proofs.PutEvents.{asks_stored_at}
use Rattle.kw_follow.proofs.Moving.{moves_at}
use Rattle.kw_follow.proofs.along.announce_epoch.Goals as goal

pub pack_pass-epoch-requires : goal.pack_pass-epoch-requires
pack_pass-epoch-requires c = (follows_ranges _ _ _ c.requires.follows).epoch.0

pub store_pass-requires : goal.store_pass-requires
store_pass-requires c = asks_stored_at _ _ c.args.local.now (Activity.Enter Enter.Announce) _ _ _ _ _ c.requires.follows c.requires.activity tt (ap Pass c.number.ensures) c.pack_pass-epoch.ensures.value refl

pub returns : goal.returns
returns c = moves_at (Activity.Enter Enter.Announce) c.requires c.store_pass.ensures c.enter.ensures
