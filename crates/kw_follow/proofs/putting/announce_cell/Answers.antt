use Rattle.std.proofs.Common.{refl, ap}
use Rattle.kw_world.specs.declared.activity.Activity.TheVariants as Activity
use Rattle.kw_world.specs.declared.activity.put.Put.TheVariants as Put
use Rattle.kw_words.specs.declared.layout.Name.TheVariants.{Pend}
use Rattle.kw_follow.proofs.PutEvents.{asks_exchanged, pending_fits}
use Rattle.kw_follow.proofs.OneEvent.{follows_ranges}
use Rattle.kw_follow.proofs.Moving.{moves_at}
use Rattle.kw_follow.proofs.putting.announce_cell.Goals as goal

pub pack-pending-requires : goal.pack-pending-requires
pack-pending-requires c = pending_fits c.args.local.now (follows_ranges _ _ _ c.requires.follows)

pub announce-told-requires : goal.announce-told-requires
announce-told-requires c = asks_exchanged _ _ c.args.local.now (Activity.Put Put.Announce) _ _ _ _ _ _ _ c.requires.follows c.requires.activity tt (ap (Pend c.args.local.now.row) c.number.ensures) c.pack-idle.ensures.value c.pack-pending.ensures.value refl

pub returns : goal.returns
returns c = moves_at (Activity.Put Put.Announce) c.requires c.announce-told.ensures c.announce.ensures
