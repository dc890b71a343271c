use Rattle.std.proofs.Common.{refl, ap}
use Rattle.kw_world.specs.declared.activity.Activity.TheVariants as Activity
use Rattle.kw_words.specs.declared.layout.Name.TheVariants.{Pass}
use Rattle.kw_follow.proofs.PutEvents.{asks_stored_at}
use Rattle.kw_follow.proofs.Moving.{moves_at}
use Rattle.kw_follow.proofs.along.clear_epoch.Goals as goal

pub clear_pass-requires : goal.clear_pass-requires
clear_pass-requires c = asks_stored_at _ _ c.args.local.now (Activity.Leave c.args.answer) _ _ _ _ _ c.requires.follows c.requires.activity tt (ap Pass c.number.ensures) c.pack_pass-none.ensures.value refl

pub returns : goal.returns
returns c = moves_at (Activity.Leave c.args.answer) c.requires c.clear_pass.ensures c.end_call.ensures
