use Rattle.std.proofs.Common.{◌∙◌, subst, sym}
use Rattle.kw_world.specs.declared.activity.Activity.{Activity}
use Rattle.kw_core.specs.Stages.{IsBusy}
use Rattle.kw_follow.proofs.CallStays.{call_stays}
use Rattle.kw_follow.proofs.Reaching.{advances_trans}
use Rattle.kw_live_rebal.specs.Standing.{HasSeenCause}
use Rattle.kw_live_rebal.proofs.Sightings.{ends_refused, won_on}
use Rattle.kw_live_rebal.proofs.Standings.{ends_won, undone_again}
use Rattle.kw_live_rebal.proofs.rebalancing.rebalance.Goals as goal

pub returns-in-Retry-clause-cause : goal.returns-in-Retry-clause-cause
returns-in-Retry-clause-cause g c = subst (λ (a : Activity). HasSeenCause c.args.pass.now c.rebuild.new.pass a c.rebuild.new.local) c.in-Retry.is (c.rebuild.ensures.saw c.requires.untidied)

pub returns-in-Retry-clause-call : goal.returns-in-Retry-clause-call
returns-in-Retry-clause-call g c = call_stays _ _ _ _ _ c.requires.follows c.rebuild.ensures.on.follows c.rebuild.ensures.on.calls (subst IsBusy (sym c.requires.activity) tt) (subst IsBusy (sym c.in-Retry.is) tt)

pub returns-in-Leave-clause-stands : goal.returns-in-Leave-clause-stands
returns-in-Leave-clause-stands g c =
    (ends_refused c.rebuild.ensures.on.goes c.rebuild.ensures.on.follows c.in-Leave.answer c.in-Leave.is (subst (λ (a : Activity). HasSeenCause c.args.pass.now c.rebuild.new.pass a c.rebuild.new.local) c.in-Leave.is (c.rebuild.ensures.saw c.requires.untidied)) c.refused.result c.refused.ensures.no_rows c.refused.ensures.spent).stands

pub returns-in-Leave-clause-cause : goal.returns-in-Leave-clause-cause
returns-in-Leave-clause-cause g c =
    (ends_refused c.rebuild.ensures.on.goes c.rebuild.ensures.on.follows c.in-Leave.answer c.in-Leave.is (subst (λ (a : Activity). HasSeenCause c.args.pass.now c.rebuild.new.pass a c.rebuild.new.local) c.in-Leave.is (c.rebuild.ensures.saw c.requires.untidied)) c.refused.result c.refused.ensures.no_rows c.refused.ensures.spent).cause

pub returns-in-Leave-clause-call : goal.returns-in-Leave-clause-call
returns-in-Leave-clause-call g c = call_stays _ _ _ _ _ c.requires.follows c.rebuild.ensures.on.follows c.rebuild.ensures.on.calls (subst IsBusy (sym c.requires.activity) tt) (subst IsBusy (sym c.in-Leave.is) tt)

pub finish-requires-clause-won : goal.finish-requires-clause-won
finish-requires-clause-won g c = ends_won _ c.rebuild.ensures.ends c.in_default.not-Retry c.in_default.not-Leave

pub returns-in_default-clause-on : goal.returns-in_default-clause-on
returns-in_default-clause-on g c = advances_trans c.rebuild.ensures.on c.finish.ensures.on

pub returns-in_default-clause-stands : goal.returns-in_default-clause-stands
returns-in_default-clause-stands g c = c.finish.ensures.ends ∙ undone_again c.rebuild.new.local (c.rebuild.ensures.tidies ∙ c.requires.untidied)

pub returns-in_default-clause-call : goal.returns-in_default-clause-call
returns-in_default-clause-call g c =
    let again = c.finish.ensures.ends ∙ undone_again c.rebuild.new.local (c.rebuild.ensures.tidies ∙ c.requires.untidied) in
    call_stays _ _ _ _ _ c.requires.follows c.finish.ensures.on.follows (c.finish.ensures.on.calls ∙ c.rebuild.ensures.on.calls) (subst IsBusy (sym c.requires.activity) tt) (subst IsBusy (sym again) tt)

pub returns-in_default-clause-cause : goal.returns-in_default-clause-cause
returns-in_default-clause-cause g c =
    let won = ends_won _ c.rebuild.ensures.ends c.in_default.not-Retry c.in_default.not-Leave in
    won_on c.args.pass.now c.finish.ensures.on.goes (subst (λ (a : Activity). HasSeenCause c.args.pass.now c.rebuild.new.pass a c.rebuild.new.local) won (c.rebuild.ensures.saw c.requires.untidied))
