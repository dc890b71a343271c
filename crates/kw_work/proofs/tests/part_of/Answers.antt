use Rattle.std.proofs.Common.{◌≤◌, Vec, sym, ap, ◌∙◌, subst}
use Rattle.std.specs.declared.alloc.Global.{Global}
use Rattle.std.proofs.lemmas.List.{take_all}
use Rattle.kw_work.specs.declared.line.Line.{Line}
use Rattle.kw_work.specs.Dealing.{part}
use Rattle.kw_work.proofs.Shares.{part-nil, line_in, line_out}
use Rattle.kw_work.proofs.tests.part_of.Goals.{then-worker+in_ok-push, else-worker}
use Rattle.kw_work.proofs.tests.part_of.Goals as goal

pub loop-at-init : goal.loop-at-init
loop-at-init c = c.new-lines.ensures.items ∙ sym (part-nil _ _)

pub loop-at-preserved : goal.loop-at-preserved
loop-at-preserved c =
    elim c.if-worker.branch [
      | then-worker+in_ok-push w ↦
          ap (λ (v : Vec Line Global). v.items) w.lines-is ∙ (w.in_ok-push.ensures.items ∙ line_in _ _ c.args.block.now.lines _ _ _ c.line-line.ensures (sym c.worker.ensures.worker ∙ w.if-worker.true) c.loop-at.invariant)
      | else-worker w ↦
          ap (λ (v : Vec Line Global). v.items) w.lines-is ∙ line_out _ _ c.args.block.now.lines _ _ _ c.line-line.ensures (λ is. w.if-worker.false (c.worker.ensures.worker ∙ is)) c.loop-at.invariant
    ]

pub returns : goal.returns
returns c =
    c.loop-at.invariant
    ∙ (ap (part c.workers-workers.result c.args.worker) (take_all c.loop-at.at c.args.block.now.lines (subst (λ n. n ≤ c.loop-at.at) c.len-at-end.ensures c.loop-at-test.false))
    ∙ ap (λ n. part n c.args.worker c.args.block.now.lines) c.workers-workers.ensures.workers)
