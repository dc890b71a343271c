use Rattle.std.proofs.Common.{refl, ap, ◌∙◌}
use Rattle.kw_line.specs.Answered.{number_or_nothing}
use Rattle.kw_ask.proofs.Gathered.{gathered}
use Rattle.kw_ask.proofs.asking.least.Goals as goal

pub returns-in-Ok-clause-answers : goal.returns-in-Ok-clause-answers
returns-in-Ok-clause-answers c = gathered _ _ _ _ _ _ _ _ _ _ _ _ refl c.in-Ok.ensures.answers c.new-into.ensures.stands (λ list stands. c.number_or_nothing.ensures ∙ ap number_or_nothing (c.least.ensures.least list stands))
