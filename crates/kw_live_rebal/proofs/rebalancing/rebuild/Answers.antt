use Rattle.std.proofs.Common.{rules, false, ◌≡◌, ◌∙◌, refl, subst, sym}
use Rattle.kw_world.specs.declared.activity.Activity.{Activity}
use Rattle.kw_table.specs.Passes.{view}
use Rattle.kw_follow.proofs.OwnEvents.{goes_trans}
use Rattle.kw_follow.proofs.Reaching.{reaches_none}
use Rattle.kw_follow.proofs.Untidied.{balancing_works}
use Rattle.kw_live_rebal.specs.Standing.{HasSeenCause}
use Rattle.kw_live_rebal.proofs.Stages.{keeps_seen, work_on}
use Rattle.kw_live_rebal.proofs.Standings.{balances, balancing_within}
use Rattle.kw_live_rebal.proofs.rebalancing.rebuild.Goals as goal

pub loop-init : goal.loop-init
loop-init g c = record {
  can_next = search rules;
  is_finite = search rules;
  on = record {
    goes = (reaches_none c.requires.follows).goes;
    follows = c.requires.follows;
    calls = refl;
    held = refl;
    saw = λ undone. subst (λ (a : Activity). HasSeenCause c.args.pass.now c.args.pass.now a c.args.local.now) (sym c.requires.activity) tt;
  };
  tidies = refl;
}

pub go_on-requires-clause-within : goal.go_on-requires-clause-within
go_on-requires-clause-within g c = balancing_within _ (balances c.loop.invariant.on (sym c.ends_rebuild.ensures ∙ c.if-ends_rebuild.false))

pub loop-preserved : goal.loop-preserved
loop-preserved g c =
    let here = sym c.ends_rebuild.ensures ∙ c.if-ends_rebuild.false in
    let same = work_on c.loop.local c.go_on.new.local c.choice_at-choice.result (view c.loop.pass).opening.rows _ c.go_on.ensures.line (balancing_works _ (balances c.loop.invariant.on here)) in
    record {
      can_next = search rules;
      is_finite = search rules;
      on = record {
        goes = goes_trans _ _ _ _ c.loop.invariant.on.goes c.go_on.ensures.goes;
        follows = c.go_on.ensures.follows;
        calls = c.go_on.ensures.calls ∙ c.loop.invariant.on.calls;
        held = c.go_on.ensures.held c.choice_at-choice.ensures ∙ c.loop.invariant.on.held;
        saw = λ undone.
            let put : c.loop.local.tidies ≡ false = sym same ∙ undone in
            keeps_seen _ _ _ _ _ _ _ _ _ c.loop.invariant.on.goes c.go_on.ensures.goes c.go_on.ensures.saw c.go_on.ensures.line refl put (c.loop.invariant.on.saw put) here;
      };
      tidies = same ∙ c.loop.invariant.tidies;
    }
