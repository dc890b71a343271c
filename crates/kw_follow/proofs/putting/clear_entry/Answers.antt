use Rattle.std.proofs.Common.{refl, ap}
use Rattle.kw_world.specs.declared.activity.Activity.TheVariants as Activity
use Rattle.kw_world.specs.declared.activity.put.Put.TheVariants as Put
use Rattle.kw_words.specs.declared.layout.Name.TheVariants.{Pend}
use Rattle.kw_follow.proofs.PutEvents.{asks_stored_at}
use Rattle.kw_follow.proofs.Moving.{moves_at}
use Rattle.kw_follow.proofs.putting.clear_entry.Goals as goal

pub clear_pend-requires : goal.clear_pend-requires
clear_pend-requires c = asks_stored_at _ _ c.args.local.now (Activity.Put Put.Clear) _ _ _ _ _ c.requires.follows c.requires.activity tt (ap (Pend c.args.local.now.row) c.number.ensures) c.pack-idle.ensures.value refl

pub returns : goal.returns
returns c = moves_at (Activity.Put Put.Clear) c.requires c.clear_pend.ensures c.leave.ensures
