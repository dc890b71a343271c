use Rattle.std.proofs.Common.{◌≡◌, ◌+◌, List, length, subst, sym, ap, ◌∙◌, arith, Vec}
use Rattle.std.specs.declared.alloc.Global.{Global}
use Rattle.kw_line.specs.declared.answer.Answer.{Answer}
use Rattle.kw_work.proofs.Answering.{AnswersFirst, answers_first_more}
use Rattle.kw_work.proofs.tests.answer_parts.Goals as goal

pub loop-worker-preserved : goal.loop-worker-preserved
loop-worker-preserved c =
    let inv = c.loop-worker.invariant in
    let p = c.loop-worker.parts in
    let len : length c.loop-worker.parts.items ≡ c.loop-worker.worker = omega (arith, inv.len) in
    record {
      len = c.in_ok-push.ensures.len ∙ ap (λ k. k + 1) inv.len;
      each = subst (λ (x : List (Vec Answer Global)). AnswersFirst (c.loop-worker.worker + 1) c.args.block.now.workers c.args.block.now.lines x) (sym c.in_ok-push.ensures.items)
          (answers_first_more _ _ _ _ _ _ len (c.deref.ensures.value ∙ c.in_ok-lines.ensures) c.in_ok-answer_lines.ensures inv.each);
    }
