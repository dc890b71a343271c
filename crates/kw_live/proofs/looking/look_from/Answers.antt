use Rattle.std.proofs.Common.{refl}
use Rattle.kw_follow.specs.Within.{looking}
use Rattle.kw_follow.proofs.WayEvents.{entry_below, entry_room}
use Rattle.kw_live.proofs.LookStages.{looked_from, looks_here}
use Rattle.kw_live.proofs.looking.look_from.Goals as goal

pub look_along-seen-requires : goal.look_along-seen-requires
look_along-seen-requires c = (c.args.local.now, looks_here _ _ c.args.local.now _ c.requires.follows c.requires.activity, refl)

pub see_entry-requires-clause-entry : goal.see_entry-requires-clause-entry
see_entry-requires-clause-entry c =
    let up = c.look_along-seen.ensures c.args.local.now (looks_here _ _ c.args.local.now _ c.requires.follows c.requires.activity) refl in
    entry_below _ _ (looking c.look_along-seen.result.entry c.args.local.now) _ up.on.follows refl

pub see_entry-requires-clause-room : goal.see_entry-requires-clause-room
see_entry-requires-clause-room c =
    let up = c.look_along-seen.ensures c.args.local.now (looks_here _ _ c.args.local.now _ c.requires.follows c.requires.activity) refl in
    entry_room _ _ (looking c.look_along-seen.result.entry c.args.local.now) _ up.on.follows refl

pub returns : goal.returns
returns c =
    let up = c.look_along-seen.ensures c.args.local.now (looks_here _ _ c.args.local.now _ c.requires.follows c.requires.activity) refl in
    looked_from c.requires.activity up c.see_entry.ensures
