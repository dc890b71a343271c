use Rattle.std.proofs.Common.{◌≡◌, length}
use Rattle.kw_work.proofs.tests.answer_lines.Given as goal

abbrev pub invariant-loop-line : goal.invariant-loop-line
invariant-loop-line l = length l.answers.items ≡ l.line-index
