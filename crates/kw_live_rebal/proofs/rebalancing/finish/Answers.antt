use Rattle.std.proofs.Common.{rules, ◌∙◌, refl, subst, sym}
use Rattle.kw_world.specs.declared.activity.Activity.{Activity}
use Rattle.kw_follow.proofs.OwnEvents.{goes_trans}
use Rattle.kw_follow.proofs.Reaching.{reaches_none}
use Rattle.kw_live_rebal.proofs.Finishing.{IsFinishing, finished_again, finished_done, finishes_on, finishes_tidies, finishing_balances}
use Rattle.kw_live_rebal.proofs.Standings.{balancing_within, leads_as}
use Rattle.kw_live_rebal.proofs.rebalancing.finish.Goals as goal

pub loop-init : goal.loop-init
loop-init g c = record {
  can_next = search rules;
  is_finite = search rules;
  on = record {
    goes = (reaches_none c.requires.follows).goes;
    follows = c.requires.follows;
    calls = refl;
    held = refl;
    tidies = refl;
    stands = subst (λ (a : Activity). IsFinishing a c.args.local.now.tidies) (sym c.requires.won) tt;
  };
}

pub go_finish-requires-clause-within : goal.go_finish-requires-clause-within
go_finish-requires-clause-within g c = balancing_within _ (finishing_balances _ _ c.loop.invariant.on.stands c.in_default.not-Retry c.in_default.not-Leave)

pub loop-preserved : goal.loop-preserved
loop-preserved g c =
    let here = finishing_balances _ _ c.loop.invariant.on.stands c.in_default.not-Retry c.in_default.not-Leave in
    record {
      can_next = search rules;
      is_finite = search rules;
      on = record {
        goes = goes_trans _ _ _ _ c.loop.invariant.on.goes c.go_finish.ensures.goes;
        follows = c.go_finish.ensures.follows;
        calls = c.go_finish.ensures.calls ∙ c.loop.invariant.on.calls;
        held = c.go_finish.ensures.held refl ∙ c.loop.invariant.on.held;
        tidies = finishes_tidies _ _ _ _ c.go_finish.ensures.line here ∙ c.loop.invariant.on.tidies;
        stands = finishes_on _ _ _ _ c.go_finish.ensures.line c.loop.invariant.on.stands here;
      };
    }

pub returns-in-Retry-clause-ends : goal.returns-in-Retry-clause-ends
returns-in-Retry-clause-ends g c =
    c.in-Retry.is ∙ (finished_again c.loop.local (subst (λ (a : Activity). IsFinishing a c.loop.local.tidies) c.in-Retry.is c.loop.invariant.on.stands) ∙ leads_as c.loop.local c.args.local.now c.loop.invariant.on.tidies)

pub returns-in-Leave-clause-ends : goal.returns-in-Leave-clause-ends
returns-in-Leave-clause-ends g c =
    c.in-Leave.is ∙ (finished_done _ c.loop.local (subst (λ (a : Activity). IsFinishing a c.loop.local.tidies) c.in-Leave.is c.loop.invariant.on.stands) ∙ leads_as c.loop.local c.args.local.now c.loop.invariant.on.tidies)
