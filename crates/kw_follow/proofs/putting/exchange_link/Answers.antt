use Rattle.std.proofs.Common.{Some, refl}
use Rattle.kw_world.specs.declared.activity.Activity.TheVariants as Activity
use Rattle.kw_world.specs.declared.activity.insert.Insert.TheVariants as Insert
use Rattle.kw_follow.proofs.PutEvents.{asks_exchanged, cell_below}
use Rattle.kw_follow.proofs.OneEvent.{follows_ranges}
use Rattle.kw_follow.proofs.Moving.{moves_at}
use Rattle.kw_follow.proofs.putting.exchange_link.Goals as goal

pub pack_cell_link-held-requires : goal.pack_cell_link-held-requires
pack_cell_link-held-requires c = cell_below _ (follows_ranges _ _ _ c.requires.follows).held

pub pack_cell_link-own-requires : goal.pack_cell_link-own-requires
pack_cell_link-own-requires c = cell_below (Some c.args.local.now.cell) (follows_ranges _ _ _ c.requires.follows).cell

pub insert-told-requires : goal.insert-told-requires
insert-told-requires c = asks_exchanged _ _ c.args.local.now (Activity.Insert Insert.Exchange) _ _ _ _ _ _ _ c.requires.follows c.requires.activity tt c.link_name-link.ensures c.pack_cell_link-held.ensures.value c.pack_cell_link-own.ensures.value refl

pub insert-requires-clause-held : goal.insert-requires-clause-held
insert-requires-clause-held c = (follows_ranges _ _ _ c.requires.follows).held

pub insert-requires-clause-lost : goal.insert-requires-clause-lost
insert-requires-clause-lost c = (follows_ranges _ _ _ c.requires.follows).lost

pub returns : goal.returns
returns c = moves_at (Activity.Insert Insert.Exchange) c.requires c.insert-told.ensures c.insert.ensures
