use Rattle.std.proofs.Common.{ap, ◌∙◌, arith}
use Rattle.kw_line.proofs.Joins.{kept_through, first_pair, later_pair}
use Rattle.kw_line.proofs.print.push_each.Goals as goal
use Rattle.kw_line.proofs.print.push_each.Goals.{then-index-gt0+in_ok-push, else-index-gt0}
use Rattle.std.proofs.lemmas.List.{append_assoc}

pub returns-in_err-push_pair-clause-kept : goal.returns-in_err-push_pair-clause-kept
returns-in_err-push_pair-clause-kept c =
    let old = c.args.out.now in
    elim c.if-index-gt0.branch [
      | then-index-gt0+in_ok-push w ↦
          (let pushed = w.in_ok-push.ensures {u = tt} in
          kept_through old.items c.if-index-gt0.out.items c.push_pair.new.out.items _ _ _ (omega arith) (omega arith)
          (ap (λ v. v.items) w.out-is ∙ (rw c.loop-index.invariant at pushed.items) ∙ append_assoc old.items _ _) c.push_pair.ensures.kept)
      | else-index-gt0 w ↦
          kept_through old.items c.if-index-gt0.out.items c.push_pair.new.out.items _ _ _ (omega arith) (omega arith)
          (ap (λ v. v.items) w.out-is ∙ c.loop-index.invariant) c.push_pair.ensures.kept
    ]

pub loop-index-preserved : goal.loop-index-preserved
loop-index-preserved c =
    let old = c.args.out.now.items in
    let pushed_pair = c.in_ok-push_pair.ensures {u = tt} in
    elim c.if-index-gt0.branch [
      | then-index-gt0+in_ok-push w ↦
          (let pushed = w.in_ok-push.ensures {u = tt} in
          later_pair old c.loop-index.out.items c.if-index-gt0.out.items c.push_pair.new.out.items c.args.pairs.now c.loop-index.index _ (omega arith) (omega arith)
          c.loop-index.invariant (ap (λ v. v.items) w.out-is ∙ pushed.items) pushed_pair.ok)
      | else-index-gt0 w ↦
          first_pair old c.if-index-gt0.out.items c.push_pair.new.out.items c.args.pairs.now c.loop-index.index _ (omega arith) (omega arith)
          (ap (λ v. v.items) w.out-is ∙ c.loop-index.invariant) pushed_pair.ok
    ]
