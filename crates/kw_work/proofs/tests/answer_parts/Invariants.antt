use Rattle.std.proofs.Common.{◌≡◌, vec_len}
use Rattle.kw_work.proofs.Answering.{AnswersFirst}
use Rattle.kw_work.proofs.tests.answer_parts.Given as goal

abbrev pub invariant-loop-worker : goal.invariant-loop-worker
invariant-loop-worker l = record {
  len : vec_len l.parts ≡ l.worker;
  each : AnswersFirst l.worker l.block.workers l.block.lines l.parts.items;
}
