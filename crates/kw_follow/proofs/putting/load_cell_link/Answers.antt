use Rattle.std.proofs.Common.{sym, subst}
use Rattle.kw_world.specs.declared.activity.Activity.TheVariants as Activity
use Rattle.kw_world.specs.declared.activity.insert.Insert.TheVariants as Insert
use Rattle.kw_core.specs.Stages.{IsAtInsertLink}
use Rattle.kw_follow.proofs.PutEvents.{asks_link}
use Rattle.kw_follow.proofs.OneEvent.{follows_ranges}
use Rattle.kw_follow.proofs.Moving.{moves_at}
use Rattle.kw_follow.proofs.putting.load_cell_link.Goals as goal

pub load_after-told-requires : goal.load_after-told-requires
load_after-told-requires c = asks_link _ _ c.args.local.now _ c.requires.follows (subst IsAtInsertLink (sym c.requires.activity) tt) c.link_name-link.ensures

pub insert_from-requires : goal.insert_from-requires
insert_from-requires c = (follows_ranges _ _ _ c.requires.follows).walked

pub returns : goal.returns
returns c = moves_at (Activity.Insert Insert.Link) c.requires c.load_after-told.ensures c.insert_from.ensures
