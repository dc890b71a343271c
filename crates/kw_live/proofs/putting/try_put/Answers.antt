use Rattle.std.proofs.Common.{ap, if◌then◌else◌, ◌∙◌, refl, subst, sym}
use Rattle.kw_core.specs.Stages.{IsBusy}
use Rattle.kw_follow.proofs.CallStays.{call_stays}
use Rattle.kw_live.specs.declared.putting.TryPut.TheVariants.{Done, Tidies}
use Rattle.kw_live.specs.Putting.{stands_after}
use Rattle.kw_live.proofs.PutStages.{is_cleared, stands_full, tried_on, tries_first, tries_further, tries_on, trying_puts}
use Rattle.kw_live.proofs.putting.try_put.Goals as goal

pub go_put-requires-clause-putting : goal.go_put-requires-clause-putting
go_put-requires-clause-putting c = trying_puts _ (sym c.is_trying.ensures ∙ c.loop-pass-test.true)

pub loop-pass-init : goal.loop-pass-init
loop-pass-init c = tries_first _ _ _ c.requires.follows c.requires.activity

pub loop-pass-preserved-in-Insert-1 : goal.loop-pass-preserved-in-Insert-1
loop-pass-preserved-in-Insert-1 c = (tries_further _ _ _ _ _ _ c.loop-pass.invariant c.go_by_lesser.ensures).trying

pub loop-pass-smaller : goal.loop-pass-smaller
loop-pass-smaller c =
    (tries_on c.loop-pass.invariant (sym c.is_trying.ensures ∙ c.loop-pass-test.true) c.go_put.ensures).fewer

pub loop-pass-preserved : goal.loop-pass-preserved
loop-pass-preserved c =
    (tries_on c.loop-pass.invariant (sym c.is_trying.ensures ∙ c.loop-pass-test.true) c.go_put.ensures).trying

pub returns-in-Rebalance-clause-call : goal.returns-in-Rebalance-clause-call
returns-in-Rebalance-clause-call c = call_stays _ _ _ _ _ c.requires.follows c.loop-pass.invariant.follows c.loop-pass.invariant.calls (subst IsBusy (sym c.requires.activity) tt) (subst IsBusy (sym c.in-Rebalance.is) tt)

pub returns-in-Rebalance-clause-stands : goal.returns-in-Rebalance-clause-stands
returns-in-Rebalance-clause-stands c = (stands_full _ _ _ _ c.loop-pass.invariant.found c.in-Rebalance.is).0

pub returns-in-Rebalance-clause-cause : goal.returns-in-Rebalance-clause-cause
returns-in-Rebalance-clause-cause c = (refl, (stands_full _ _ _ _ c.loop-pass.invariant.found c.in-Rebalance.is).1)

pub clear-requires-clause-activity : goal.clear-requires-clause-activity
clear-requires-clause-activity c = is_cleared _ _ _ c.loop-pass.invariant.found (sym c.is_trying.ensures ∙ c.loop-pass-test.false) c.in_default-activity.not-Rebalance

pub returns-then-clear : goal.returns-then-clear
returns-then-clear c =
    let on = tried_on c.loop-pass.invariant c.clear.ensures.on in
    let stands = c.clear.ensures.stands ∙ ap (λ b. stands_after (if b then Tidies else Done)) c.if-clear.true in
    record {
      on = on;
      stands = stands;
      call = call_stays _ _ _ _ _ c.requires.follows on.follows on.calls (subst IsBusy (sym c.requires.activity) tt) (subst IsBusy (sym stands) tt);
      tidies = c.clear.ensures.tidies ∙ c.if-clear.true;
      cause = tt;
    }

pub returns-else-clear : goal.returns-else-clear
returns-else-clear c =
    let on = tried_on c.loop-pass.invariant c.clear.ensures.on in
    let stands = c.clear.ensures.stands ∙ ap (λ b. stands_after (if b then Tidies else Done)) c.if-clear.false in
    record {
      on = on;
      stands = stands;
      call = call_stays _ _ _ _ _ c.requires.follows on.follows on.calls (subst IsBusy (sym c.requires.activity) tt) (subst IsBusy (sym stands) tt);
      tidies = c.clear.ensures.tidies ∙ c.if-clear.false;
      cause = tt;
    }
