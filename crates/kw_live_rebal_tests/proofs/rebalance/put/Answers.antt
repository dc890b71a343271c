use Rattle.std.proofs.Common.{◌∙◌, ap}
use Rattle.kw_world.specs.declared.answer.Answer.TheVariants.{Done}
use Rattle.kw_core.specs.Stages.{is_put}
use Rattle.kw_live_rebal_tests.proofs.Arriving.{put_arrives}
use Rattle.kw_live_rebal_tests.proofs.rebalance.put.Goals as goal

pub enter_anew-requires-clause-update : goal.enter_anew-requires-clause-update
enter_anew-requires-clause-update g c = ap is_put c.in-Done.ensures.call ∙ c.in-Some.ensures.full.2

pub try_put-requires-clause-activity : goal.try_put-requires-clause-activity
try_put-requires-clause-activity g c =
    let call = c.enter_anew.ensures.call ∙ c.in-Done.ensures.call in
    c.locate.ensures.arrived ∙ put_arrives _ (ap is_put call ∙ c.in-Some.ensures.full.2)

pub leave-requires-clause-leaving : goal.leave-requires-clause-leaving
leave-requires-clause-leaving g c = (Done, c.in-Done-try_put.ensures.stands)
