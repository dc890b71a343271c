use Rattle.std.proofs.Common.{rules, ◌∙◌, subst, sym}
use Rattle.kw_core.specs.Stages.{IsBusy}
use Rattle.kw_follow.proofs.CallStays.{call_stays}
use Rattle.kw_live_rebal.proofs.Standings.{done_leaves, ends_done}
use Rattle.kw_live_rebal.proofs.tidying.tidy.Goals as goal

pub returns-then-has_won-clause-done : goal.returns-then-has_won-clause-done
returns-then-has_won-clause-done g c = c.finish.ensures.ends ∙ done_leaves c.rebuild.new.local (c.rebuild.ensures.tidies ∙ c.requires.tidies)

pub returns-then-has_won-clause-call : goal.returns-then-has_won-clause-call
returns-then-has_won-clause-call g c =
    let leaves = c.finish.ensures.ends ∙ done_leaves c.rebuild.new.local (c.rebuild.ensures.tidies ∙ c.requires.tidies) in
    call_stays _ _ _ _ _ c.requires.follows c.finish.ensures.on.follows (c.finish.ensures.on.calls ∙ c.rebuild.ensures.on.calls) (subst IsBusy (sym c.requires.activity) tt) (subst IsBusy (sym leaves) tt)

pub returns-else-has_won-clause-done : goal.returns-else-has_won-clause-done
returns-else-has_won-clause-done g c = ends_done c.rebuild.ensures.on.follows (c.rebuild.ensures.tidies ∙ c.requires.tidies) c.rebuild.ensures.ends (c.has_won.ensures.other (search rules))

pub returns-else-has_won-clause-call : goal.returns-else-has_won-clause-call
returns-else-has_won-clause-call g c =
    let leaves = ends_done c.rebuild.ensures.on.follows (c.rebuild.ensures.tidies ∙ c.requires.tidies) c.rebuild.ensures.ends (c.has_won.ensures.other (search rules)) in
    call_stays _ _ _ _ _ c.requires.follows c.rebuild.ensures.on.follows c.rebuild.ensures.on.calls (subst IsBusy (sym c.requires.activity) tt) (subst IsBusy (sym leaves) tt)
