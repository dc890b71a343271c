use Rattle.kw_world.specs.declared.answer.Answer.TheVariants.{NoRows, Spent}
use Rattle.kw_live_rebal_tests.proofs.rebalance.refusal.Goals as goal

pub leave-requires-clause-leaving : goal.leave-requires-clause-leaving
leave-requires-clause-leaving g c = (NoRows, c.in-NoRows.ensures.stands)

pub leave-requires-in-Spent-clause-leaving : goal.leave-requires-in-Spent-clause-leaving
leave-requires-in-Spent-clause-leaving g c = (Spent, c.in-Spent.ensures.stands)
