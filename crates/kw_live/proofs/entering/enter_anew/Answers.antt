use Rattle.std.proofs.Common.{◌∙◌, ap, refl, subst, sym}
use Rattle.kw_world.specs.declared.local.Local.{Local}
use Rattle.kw_core.specs.Stages.{IsBusy, is_put}
use Rattle.kw_follow.specs.Within.{IsWithinCall}
use Rattle.kw_follow.proofs.CallStays.{call_stays}
use Rattle.kw_follow.proofs.Reaching.{advances_on, advances_trans}
use Rattle.kw_live.proofs.Anew.{takes_back, loads_anew, starts_anew}
use Rattle.kw_live.proofs.entering.enter_anew.Goals as goal

pub go_anew-requires-2-clause-within : goal.go_anew-requires-2-clause-within
go_anew-requires-2-clause-within c = subst (λ (k : Local). IsWithinCall k.activity) (sym (takes_back _ _ _ _ c.requires.again c.go_anew.ensures.line)) tt

pub go_along-requires-clause-within : goal.go_along-requires-clause-within
go_along-requires-clause-within c =
    let back = takes_back _ _ _ _ c.requires.again c.go_anew.ensures.line in
    subst (λ (k : Local). IsWithinCall k.activity) (sym (loads_anew _ _ _ _ (ap (λ (k : Local). k.activity) back) c.go_anew-2.ensures.line)) tt

pub returns-clause-on : goal.returns-clause-on
returns-clause-on c = advances_trans (advances_trans (advances_on c.go_anew.ensures refl) (advances_on c.go_anew-2.ensures refl)) (advances_on c.go_along.ensures refl)

pub returns-clause-starts : goal.returns-clause-starts
returns-clause-starts c =
    let back = takes_back _ _ _ _ c.requires.again c.go_anew.ensures.line in
    let anew = loads_anew _ _ _ _ (ap (λ (k : Local). k.activity) back) c.go_anew-2.ensures.line in
    let call = ap (λ (k : Local). k.call) anew ∙ ap (λ (k : Local). k.call) back in
    starts_anew _ _ _ _ (ap (λ (k : Local). k.activity) anew) (ap is_put call ∙ c.requires.update) c.go_along.ensures.line

pub returns-clause-call : goal.returns-clause-call
returns-clause-call c =
    let back = takes_back _ _ _ _ c.requires.again c.go_anew.ensures.line in
    let anew = loads_anew _ _ _ _ (ap (λ (k : Local). k.activity) back) c.go_anew-2.ensures.line in
    let call = ap (λ (k : Local). k.call) anew ∙ ap (λ (k : Local). k.call) back in
    let starts = starts_anew _ _ _ _ (ap (λ (k : Local). k.activity) anew) (ap is_put call ∙ c.requires.update) c.go_along.ensures.line in
    call_stays _ _ _ _ _ c.requires.follows c.go_along.ensures.follows (c.go_along.ensures.calls ∙ (c.go_anew-2.ensures.calls ∙ c.go_anew.ensures.calls)) (subst IsBusy (sym c.requires.again) tt) (subst IsBusy (sym starts) tt)
