use Rattle.std.proofs.Common.{arith, ◌∙◌, ◌<◌, ap, length, refl, subst, sym}
use Rattle.kw_words.specs.declared.sizes.TheConstants.{SEATS}
use Rattle.kw_words.specs.Pend.{pend_of}
use Rattle.kw_world.specs.declared.activity.Activity.TheVariants as Activity
use Rattle.kw_world.specs.declared.activity.look.Look.TheVariants as Look
use Rattle.kw_world.specs.declared.local.Local.{Local}
use Rattle.kw_world.specs.ReadTransitions.{look_seen}
use Rattle.kw_world.specs.Sizes.{product}
use Rattle.kw_follow.specs.Ways.{on_way}
use Rattle.kw_follow.specs.Within.{looking}
use Rattle.kw_follow.proofs.WayEvents.{entry_below, entry_room}
use Rattle.kw_follow.proofs.Reaching.{reaches_trans}
use Rattle.kw_live.proofs.Gets.{get_closes, got_after, leaves_with, looks_done}
use Rattle.kw_live.proofs.LookStages.{last_line, looked_from}
use Rattle.kw_live.proofs.getting.get_there.Goals as goal

pub look_along-seen-requires : goal.look_along-seen-requires
look_along-seen-requires c = (on_way (Activity.Look (Look.Entry 0)) c.args.way, c.requires.follows, refl)

pub overflow_add-seen : goal.overflow_add-seen
overflow_add-seen c =
    let up = c.look_along-seen.ensures (on_way (Activity.Look (Look.Entry 0)) c.args.way) c.requires.follows refl in
    grind (arith, entry_below _ _ (looking c.look_along-seen.result.entry (on_way (Activity.Look (Look.Entry 0)) c.args.way)) _ up.on.follows refl)

pub read_newest-value-requires : goal.read_newest-value-requires
read_newest-value-requires c =
    let up = c.look_along-seen.ensures (on_way (Activity.Look (Look.Entry 0)) c.args.way) c.requires.follows refl in
    (looked_from refl up (last_line (on_way (Activity.Look (Look.Entry 0)) c.args.way) _ _ (sym c.is_idle.ensures ∙ c.if-is_idle.true) c.if-seen-ge-SEAT_COUNT.true)).follows

pub returns-then-is_idle : goal.returns-then-is_idle
returns-then-is_idle c =
    let up = c.look_along-seen.ensures (on_way (Activity.Look (Look.Entry 0)) c.args.way) c.requires.follows refl in
    let looked = looked_from refl up (last_line (on_way (Activity.Look (Look.Entry 0)) c.args.way) _ _ (sym c.is_idle.ensures ∙ c.if-is_idle.true) c.if-seen-ge-SEAT_COUNT.true) in
    let read = c.read_newest-value.ensures in
    got_after (reaches_trans (looks_done looked) read.gets) (record {
      goes = c.end_resting.ensures.goes;
      idle = c.end_resting.ensures.idle;
      rests = c.requires.rested;
      before = c.read_newest-value.new.pass;
      calls = refl;
      closes = get_closes c.read_newest-value.result _ (c.end_resting.ensures.closes _ (leaves_with _ read.gets.follows read.leaves));
    })

pub see_entry-requires-clause-entry : goal.see_entry-requires-clause-entry
see_entry-requires-clause-entry c =
    let up = c.look_along-seen.ensures (on_way (Activity.Look (Look.Entry 0)) c.args.way) c.requires.follows refl in
    entry_below _ _ (looking c.look_along-seen.result.entry (on_way (Activity.Look (Look.Entry 0)) c.args.way)) _ up.on.follows refl

pub see_entry-requires-clause-room : goal.see_entry-requires-clause-room
see_entry-requires-clause-room c =
    let up = c.look_along-seen.ensures (on_way (Activity.Look (Look.Entry 0)) c.args.way) c.requires.follows refl in
    subst (λ (l : Local). length l.remembered < SEATS) (sym c.write.ensures)
    (entry_room _ _ (looking c.look_along-seen.result.entry (on_way (Activity.Look (Look.Entry 0)) c.args.way)) _ up.on.follows refl)

pub get_slowly-requires-clause-follows : goal.get_slowly-requires-clause-follows
get_slowly-requires-clause-follows c =
    let up = c.look_along-seen.ensures (on_way (Activity.Look (Look.Entry 0)) c.args.way) c.requires.follows refl in
    (looked_from refl up (c.see_entry.ensures ∙ ap (look_seen product c.look_along-seen.result.entry (pend_of c.look_along-seen.result.found)) c.write.ensures)).follows

pub get_slowly-requires-clause-stage : goal.get_slowly-requires-clause-stage
get_slowly-requires-clause-stage c =
    let up = c.look_along-seen.ensures (on_way (Activity.Look (Look.Entry 0)) c.args.way) c.requires.follows refl in
    (looked_from refl up (c.see_entry.ensures ∙ ap (look_seen product c.look_along-seen.result.entry (pend_of c.look_along-seen.result.found)) c.write.ensures)).looks.stage

pub get_slowly-requires-clause-call : goal.get_slowly-requires-clause-call
get_slowly-requires-clause-call c =
    let up = c.look_along-seen.ensures (on_way (Activity.Look (Look.Entry 0)) c.args.way) c.requires.follows refl in
    (looked_from refl up (c.see_entry.ensures ∙ ap (look_seen product c.look_along-seen.result.entry (pend_of c.look_along-seen.result.found)) c.write.ensures)).looks.call

pub returns : goal.returns
returns c =
    let up = c.look_along-seen.ensures (on_way (Activity.Look (Look.Entry 0)) c.args.way) c.requires.follows refl in
    let looked = looked_from refl up (c.see_entry.ensures ∙ ap (look_seen product c.look_along-seen.result.entry (pend_of c.look_along-seen.result.found)) c.write.ensures) in
    got_after (looks_done looked) c.get_slowly.ensures
