use Rattle.std.proofs.Common.{ap, refl}
use Rattle.kw_words.specs.declared.layout.Name.TheVariants.{Pass}
use Rattle.kw_world.specs.declared.activity.Activity.TheVariants as Activity
use Rattle.kw_world.specs.declared.activity.enter.Enter.TheVariants as Enter
use Rattle.kw_follow.specs.Ways.{entering}
use Rattle.kw_follow.proofs.OneEvent.{follows_ranges}
use Rattle.kw_follow.proofs.PutEvents.{asks_stored_at}
use Rattle.kw_follow.proofs.Reaching.{reaches_by}
use Rattle.kw_follow.proofs.RestingCall.{announces}
use Rattle.kw_follow.proofs.way.store_call_epoch.Goals as goal

pub pack_pass-requires : goal.pack_pass-requires
pack_pass-requires c = (follows_ranges _ _ _ c.requires).epoch.0

pub store_pass-requires : goal.store_pass-requires
store_pass-requires c = asks_stored_at _ _ (entering c.args.key c.args.epoch) (Activity.Enter Enter.Announce) _ _ _ _ _ c.requires refl tt (ap Pass c.number.ensures) c.pack_pass.ensures.value refl

pub returns : goal.returns
returns c = reaches_by (announces c.args.key c.args.epoch c.requires c.store_pass.ensures) tt
