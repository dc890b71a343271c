use Rattle.std.proofs.Common.{◌≡◌, take}
use Rattle.kw_line.specs.Answered.{text}
use Rattle.kw_line.proofs.print.print.Given as goal

abbrev pub invariant-loop-answer : goal.invariant-loop-answer
invariant-loop-answer l = l.out.items ≡ text (take l.answer-index l.answers)
