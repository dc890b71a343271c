use Rattle.std.proofs.Common.{refl, ap, ◌∙◌}
use Rattle.kw_world.specs.declared.activity.Activity.TheVariants as Activity
use Rattle.kw_world.specs.declared.activity.put.Put.TheVariants as Put
use Rattle.kw_words.specs.Plain.{value_word}
use Rattle.kw_follow.proofs.PutEvents.{asks_stored}
use Rattle.kw_follow.proofs.OneEvent.{follows_ranges}
use Rattle.kw_follow.proofs.Moving.{moves_at}
use Rattle.kw_follow.proofs.putting.write_value.Goals as goal

pub put_value-requires : goal.put_value-requires
put_value-requires c = (follows_ranges _ _ _ c.requires.follows).call

pub store_value-requires : goal.store_value-requires
store_value-requires c = asks_stored _ _ c.args.local.now (Activity.Put Put.Value) _ _ _ _ c.requires.follows c.requires.activity tt (c.pack_value-value.ensures.value ∙ ap value_word c.put_value.ensures.value) refl

pub returns : goal.returns
returns c = moves_at (Activity.Put Put.Value) c.requires c.store_value.ensures c.to.ensures
