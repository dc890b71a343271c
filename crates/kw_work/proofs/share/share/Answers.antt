use Rattle.std.proofs.Common.{◌≤◌, List, length, take, refl, sym, ap, ◌∙◌, subst, arith}
use Rattle.std.proofs.lemmas.List.{length_push, take_all}
use Rattle.kw_work.specs.declared.line.Line.{Line}
use Rattle.kw_work.specs.Dealing.{part}
use Rattle.kw_work.proofs.Shares.{part-nil, line_in, line_out}
use Rattle.kw_work.proofs.share.share.Goals.{then-worker, else-worker}
use Rattle.kw_work.proofs.share.share.Goals as goal

pub loop-at-init : goal.loop-at-init
loop-at-init c = record { few = omega arith; counted = ap length (sym (part-nil c.workers-workers.result c.args.worker)) }

pub loop-at-preserved : goal.loop-at-preserved
loop-at-preserved c =
    let inv = c.loop-at.invariant in
    let lines : List Line = c.args.block.now.lines in
    let before : List Line = part c.workers-workers.result c.args.worker (take c.loop-at.at lines) in
    elim c.if-worker.branch [
      | then-worker w ↦
          let one = line_in _ _ lines before _ _ c.line-line.ensures (sym c.worker.ensures.worker ∙ w.if-worker.true) refl in
          record { few = omega (arith, w.share-is); counted = omega (arith, w.share-is, inv.counted, length_push before c.line-line.result, ap length one) }
      | else-worker w ↦
          let none = line_out _ _ lines before _ _ c.line-line.ensures (λ is. w.if-worker.false (c.worker.ensures.worker ∙ is)) refl in
          record { few = omega (arith, w.share-is); counted = omega (arith, w.share-is, inv.counted, ap length none) }
    ]

pub returns : goal.returns
returns c =
    c.loop-at.invariant.counted
    ∙ (ap (λ (ls : List Line). length (part c.workers-workers.result c.args.worker ls)) (take_all c.loop-at.at c.args.block.now.lines (subst (λ n. n ≤ c.loop-at.at) c.len-at-end.ensures c.loop-at-test.false))
    ∙ ap (λ n. length (part n c.args.worker c.args.block.now.lines)) c.workers-workers.ensures.workers)
