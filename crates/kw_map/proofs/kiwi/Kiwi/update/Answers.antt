use Rattle.std.proofs.Common.{[], ◌≡◌, ◌∙◌, rules, subst, sym, true}
use Rattle.kw_world.specs.declared.answer.Answer.TheVariants.{Done}
use Rattle.kw_core.specs.Stages.{is_put}
use Rattle.kw_follow.specs.Calling.{Closes}
use Rattle.kw_follow.specs.Following.{held}
use Rattle.kw_follow.proofs.OwnEvents.{goes_trans}
use Rattle.kw_live.proofs.Gets.{leaves_with, whole}
use Rattle.kw_follow.proofs.RestingCall.{opens_on}
use Rattle.kw_map.proofs.WholeCalls.{begins_anew, ends_with, put_starts}
use Rattle.kw_map.proofs.kiwi.Kiwi.update.Goals as goal

pub enter-requires-clause-table : goal.enter-requires-clause-table
enter-requires-clause-table g c = rw (c.self.view_is, c.pass.view_is) c.requires.idle.of_map

pub enter-requires-clause-idle : goal.enter-requires-clause-idle
enter-requires-clause-idle g c = rw c.pass.view_is c.requires.idle.idle

pub loop-init : goal.loop-init
loop-init g c = record {
  can_next = search rules;
  is_finite = search rules;
  goes = rw (← c.pass.view_is) c.enter.ensures.begins.goes;
  follows = c.enter.ensures.begins.follows;
  activity = put_starts c.args.call _ c.requires.update c.enter.ensures.entered;
  call = c.enter.ensures.begins.asks;
  opens = rw (← c.pass.view_is) c.enter.ensures.begins.opens;
}

pub returns-in-Done-clause-idle : goal.returns-in-Done-clause-idle
returns-in-Done-clause-idle g c = rw (← c.self.view_is) record { of_map = c.leave.ensures.goes.of_table; idle = c.leave.ensures.idle }

pub returns-in-Done-clause-goes : goal.returns-in-Done-clause-goes
returns-in-Done-clause-goes g c = rw (← c.self.view_is) (goes_trans _ _ _ _ (goes_trans _ _ _ _ c.loop.invariant.goes c.locate.ensures.on.goes) (goes_trans _ _ _ _ c.try_put.ensures.on.goes c.leave.ensures.goes))

pub returns-in-Done-clause-calls : goal.returns-in-Done-clause-calls
returns-in-Done-clause-calls g c =
    let leaves = leaves_with Done c.try_put.ensures.on.follows c.in-Done.ensures.stands in
    whole c.loop.invariant.opens (c.try_put.ensures.on.calls ∙ c.locate.ensures.on.calls) (c.leave.ensures.closes Done leaves).0

pub tidy-requires-clause-activity : goal.tidy-requires-clause-activity
tidy-requires-clause-activity g c = c.in-Tidies.ensures.stands

pub tidy-requires-clause-tidies : goal.tidy-requires-clause-tidies
tidy-requires-clause-tidies g c = c.in-Tidies.ensures.tidies

pub returns-in-Tidies-clause-idle : goal.returns-in-Tidies-clause-idle
returns-in-Tidies-clause-idle g c = rw (← c.self.view_is) record { of_map = c.leave-in-Tidies.ensures.goes.of_table; idle = c.leave-in-Tidies.ensures.idle }

pub returns-in-Tidies-clause-goes : goal.returns-in-Tidies-clause-goes
returns-in-Tidies-clause-goes g c =
    let before = goes_trans _ _ _ _ (goes_trans _ _ _ _ c.loop.invariant.goes c.locate.ensures.on.goes) c.try_put.ensures.on.goes in
    rw (← c.self.view_is) (goes_trans _ _ _ _ before (goes_trans _ _ _ _ c.tidy.ensures.on.goes c.leave-in-Tidies.ensures.goes))

pub returns-in-Tidies-clause-calls : goal.returns-in-Tidies-clause-calls
returns-in-Tidies-clause-calls g c =
    let leaves = leaves_with Done c.tidy.ensures.on.follows c.tidy.ensures.done in
    whole c.loop.invariant.opens (c.tidy.ensures.on.calls ∙ (c.try_put.ensures.on.calls ∙ c.locate.ensures.on.calls)) (c.leave-in-Tidies.ensures.closes Done leaves).0

pub make_room-requires-clause-activity : goal.make_room-requires-clause-activity
make_room-requires-clause-activity g c = c.in-RowFull.ensures.stands

pub make_room-requires-clause-untidied : goal.make_room-requires-clause-untidied
make_room-requires-clause-untidied g c = c.in-RowFull.ensures.tidies

pub make_room-requires-clause-update : goal.make_room-requires-clause-update
make_room-requires-clause-update g c = subst (λ call. is_put call ≡ true) (sym (c.try_put.ensures.call ∙ (c.locate.ensures.walks.call ∙ c.loop.invariant.call))) c.requires.update

pub leave-requires-in-Some-make_room-clause-leaving : goal.leave-requires-in-Some-make_room-clause-leaving
leave-requires-in-Some-make_room-clause-leaving g c = let ends = ends_with c.in-Some-make_room.end c.make_room.new.local.activity [] c.in-Some-make_room.ensures.stands in (ends.0, ends.1)

pub returns-in-Some-make_room-clause-idle : goal.returns-in-Some-make_room-clause-idle
returns-in-Some-make_room-clause-idle g c = rw (← c.self.view_is) record { of_map = c.leave-in-Some-make_room.ensures.goes.of_table; idle = c.leave-in-Some-make_room.ensures.idle }

pub returns-in-Some-make_room-clause-goes : goal.returns-in-Some-make_room-clause-goes
returns-in-Some-make_room-clause-goes g c =
    let before = goes_trans _ _ _ _ (goes_trans _ _ _ _ c.loop.invariant.goes c.locate.ensures.on.goes) c.try_put.ensures.on.goes in
    rw (← c.self.view_is) (goes_trans _ _ _ _ before (goes_trans _ _ _ _ c.make_room.ensures.on.goes c.leave-in-Some-make_room.ensures.goes))

pub returns-in-Some-make_room-clause-calls : goal.returns-in-Some-make_room-clause-calls
returns-in-Some-make_room-clause-calls g c =
    let ends = ends_with c.in-Some-make_room.end c.make_room.new.local.activity (held c.make_room.new.pass) c.in-Some-make_room.ensures.stands in
    let closes = (c.leave-in-Some-make_room.ensures.closes ends.0 (leaves_with ends.0 c.make_room.ensures.on.follows ends.1)).0 in
    whole c.loop.invariant.opens (c.make_room.ensures.on.calls ∙ (c.try_put.ensures.on.calls ∙ c.locate.ensures.on.calls)) (subst (Closes c.make_room.new.pass c.leave-in-Some-make_room.new.pass) ends.2 closes)

pub loop-preserved : goal.loop-preserved
loop-preserved g c =
    let before = goes_trans _ _ _ _ (goes_trans _ _ _ _ c.loop.invariant.goes c.locate.ensures.on.goes) c.try_put.ensures.on.goes in
    record {
      can_next = search rules;
      is_finite = search rules;
      goes = goes_trans _ _ _ _ before c.make_room.ensures.on.goes;
      follows = c.make_room.ensures.on.follows;
      activity = begins_anew c.make_room.result c.make_room.new.local.activity c.in_default.not-Some c.make_room.ensures.stands;
      call = c.make_room.ensures.call ∙ (c.try_put.ensures.call ∙ (c.locate.ensures.walks.call ∙ c.loop.invariant.call));
      opens = opens_on c.loop.invariant.opens (c.make_room.ensures.on.calls ∙ (c.try_put.ensures.on.calls ∙ c.locate.ensures.on.calls));
    }
