use Rattle.std.proofs.Common.{refl, ap, ◌∙◌}
use Rattle.kw_line.specs.declared.answer.Answer.TheVariants.{Number}
use Rattle.kw_ask.proofs.Gathered.{gathered}
use Rattle.kw_ask.proofs.asking.count.Goals as goal

pub returns-in-Ok-clause-answers : goal.returns-in-Ok-clause-answers
returns-in-Ok-clause-answers c = gathered _ _ _ _ _ _ _ _ _ _ _ _ refl c.in-Ok.ensures.answers c.new-into.ensures.stands (λ list stands. c.number.ensures ∙ ap Number (c.total.ensures.count list stands))
