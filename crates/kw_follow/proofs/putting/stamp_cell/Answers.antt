use Rattle.std.proofs.Common.{refl, ap}
use Rattle.kw_world.specs.declared.activity.Activity.TheVariants as Activity
use Rattle.kw_world.specs.declared.activity.put.Put.TheVariants as Put
use Rattle.kw_words.specs.declared.layout.Name.TheVariants.{Pend}
use Rattle.kw_follow.proofs.PutEvents.{asks_exchanged, pending_fits, stamped_fits}
use Rattle.kw_follow.proofs.OneEvent.{follows_ranges}
use Rattle.kw_follow.proofs.Moving.{moves_at}
use Rattle.kw_follow.proofs.putting.stamp_cell.Goals as goal

pub pack-pending-requires : goal.pack-pending-requires
pack-pending-requires c = pending_fits c.args.local.now (follows_ranges _ _ _ c.requires.follows)

pub pack-stamped-requires : goal.pack-stamped-requires
pack-stamped-requires c = stamped_fits c.args.local.now (follows_ranges _ _ _ c.requires.follows)

pub stamp-told-requires : goal.stamp-told-requires
stamp-told-requires c = asks_exchanged _ _ c.args.local.now (Activity.Put Put.Stamp) _ _ _ _ _ _ _ c.requires.follows c.requires.activity tt (ap (Pend c.args.local.now.row) c.number.ensures) c.pack-pending.ensures.value c.pack-stamped.ensures.value refl

pub returns : goal.returns
returns c = moves_at (Activity.Put Put.Stamp) c.requires c.stamp-told.ensures c.stamp.ensures
