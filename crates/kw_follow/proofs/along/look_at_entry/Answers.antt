use Rattle.std.proofs.Common.{refl, subst}
use Rattle.kw_world.specs.declared.activity.Activity.TheVariants as Activity
use Rattle.kw_world.specs.declared.activity.look.Look.TheVariants as Look
use Rattle.kw_follow.specs.Following.{Follows}
use Rattle.kw_follow.proofs.WayEvents.{entry_below, entry_room}
use Rattle.kw_follow.proofs.Moving.{moves_at}
use Rattle.kw_follow.proofs.along.look_at_entry.Goals as goal

pub load_entry-told-requires : goal.load_entry-told-requires
load_entry-told-requires c = (c.args.local.now, subst (λ a. Follows c.args.shared.now c.args.pass.now (record c.args.local.now { activity = a })) c.requires.activity c.requires.follows, refl)

pub see_entry-requires-clause-entry : goal.see_entry-requires-clause-entry
see_entry-requires-clause-entry c = entry_below _ _ c.args.local.now _ c.requires.follows c.requires.activity

pub see_entry-requires-clause-room : goal.see_entry-requires-clause-room
see_entry-requires-clause-room c = entry_room _ _ c.args.local.now _ c.requires.follows c.requires.activity

pub returns : goal.returns
returns c = moves_at (Activity.Look (Look.Entry c.args.entry)) c.requires c.load_entry-told.ensures c.see_entry.ensures
