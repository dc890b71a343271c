use Rattle.std.proofs.Common.{◌≡◌, ℕ, ◌<◌, ◌≤◌, [], take, length, get_or, vec_len}
use Rattle.kw_work.specs.Dealing.{part}
use Rattle.kw_work.specs.Collecting.{answers_of, no_answer, merge, SameLengths}
use Rattle.kw_work.proofs.collect.merged.Given as goal

abbrev pub invariant-loop-at : goal.invariant-loop-at
invariant-loop-at l = record {
  len : vec_len l.next ≡ l.workers;
  parts_len : vec_len l.parts ≡ l.workers;
  lengths : SameLengths l.fn.parts.items l.parts.items;
  rest : (w k : ℕ) → w < l.workers → get_or l.next.items w 0 ≤ k → get_or (answers_of l.parts.items w) k no_answer ≡ get_or (answers_of l.fn.parts.items w) k no_answer;
  next : (w : ℕ) → w < l.workers → get_or l.next.items w 0 ≡ length (part l.workers w (take l.at l.block.lines));
  answers : l.answers.items ≡ merge l.workers (answers_of l.fn.parts.items) no_answer [] (take l.at l.block.lines);
}
