use Rattle.std.proofs.Common.{◌∙◌, ◌+◌, ◌≤◌, [], List, Vec, ap, refl, subst, sym, take}
use Rattle.std.proofs.lemmas.List.{take_all}
use Rattle.std.proofs.lemmas.Option.{get_or_from_slice_get, slice_get_within}
use Rattle.std.specs.declared.alloc.Global.{Global}
use Rattle.kw_follow.specs.Following.{GoesTo}
use Rattle.kw_follow.proofs.OwnEvents.{goes_trans}
use Rattle.kw_map.specs.Kiwi.{IsIdle}
use Rattle.kw_table.proofs.Prefixes.{prefix_self}
use Rattle.kw_work.specs.declared.line.Line.{Line}
use Rattle.kw_line.specs.declared.answer.Answer.{Answer}
use Rattle.kw_work.specs.Dealing.{IsLine, part}
use Rattle.kw_app.specs.Working.{Works}
use Rattle.kw_app.proofs.Works.{works_at_first, works_passed, works_taken, prefix_length}
use Rattle.kw_app.proofs.working.work.Goals.{then-worker+in_ok-answer+in_ok-push, else-worker}
use Rattle.kw_app.proofs.working.work.Goals as goal

pub loop-at-init : goal.loop-at-init
loop-at-init g c = record {
  idle = c.requires.idle;
  goes = record { of_table = c.requires.idle.of_map; number = refl; opening = refl; seen = prefix_self _ };
  works = subst (λ x. Works c.args.pass.now c.args.pass.now (part c.workers-workers.result c.number-worker.result []) x) (sym c.in_ok-answers.ensures.items) (works_at_first c.args.pass.now c.workers-workers.result c.number-worker.result);
}

pub ask-requires-clause-line : goal.ask-requires-clause-line
ask-requires-clause-line g c =
    let lines : List Line = c.args.block.now.lines in
    let at = c.line-line.ensures in
    subst IsLine (get_or_from_slice_get lines _ _ c.line-line.result at) (c.requires.lines _ c.line-line.result (slice_get_within lines _ _ at))

pub returns-in_err-push-clause-goes : goal.returns-in_err-push-clause-goes
returns-in_err-push-clause-goes g c = goes_trans _ _ _ _ c.loop-at.invariant.goes c.ask.ensures.goes

pub loop-at-preserved : goal.loop-at-preserved
loop-at-preserved g c =
    let inv = c.loop-at.invariant in
    let lines : List Line = c.args.block.now.lines in
    let ls : List Line = part c.workers-workers.result c.number-worker.result (take (c.loop-at.at + 1) lines) in
    elim c.if-worker.branch [
      | then-worker+in_ok-answer+in_ok-push w ↦
          let own = sym c.worker.ensures.worker ∙ w.if-worker.true in
          let works : Works c.args.pass.now w.ask.new.pass ls c.if-worker.answers.items =
          works_taken _ _ _ _ _ lines _ _ _ _ _ c.line-line.ensures own (prefix_length _ _ inv.goes.seen) (prefix_length _ _ w.ask.ensures.goes.seen) inv.works w.in_ok-answer.ensures.answers (ap (λ (v : Vec Answer Global). v.items) w.answers-is ∙ w.in_ok-push.ensures.items) in
          record {
            idle = subst (λ q. IsIdle c.args.kiwi.now q) (sym w.pass-is) w.ask.ensures.idle;
            goes = subst (λ q. GoesTo c.args.kiwi.now c.args.pass.now q) (sym w.pass-is) (goes_trans _ _ _ _ inv.goes w.ask.ensures.goes);
            works = subst (λ q. Works c.args.pass.now q ls c.if-worker.answers.items) (sym w.pass-is) works;
          }
      | else-worker w ↦
          let works : Works c.args.pass.now c.loop-at.pass ls c.if-worker.answers.items =
          subst (λ x. Works c.args.pass.now c.loop-at.pass ls x) (sym (ap (λ (v : Vec Answer Global). v.items) w.answers-is)) (works_passed _ _ _ _ lines _ _ _ c.line-line.ensures (λ is. w.if-worker.false (c.worker.ensures.worker ∙ is)) inv.works) in
          record {
            idle = subst (λ q. IsIdle c.args.kiwi.now q) (sym w.pass-is) inv.idle;
            goes = subst (λ q. GoesTo c.args.kiwi.now c.args.pass.now q) (sym w.pass-is) inv.goes;
            works = subst (λ q. Works c.args.pass.now q ls c.if-worker.answers.items) (sym w.pass-is) works;
          }
    ]

pub returns : goal.returns
returns g c =
    let inv = c.loop-at.invariant in
    let lines : List Line = c.args.block.now.lines in
    let end = take_all c.loop-at.at lines (subst (λ n. n ≤ c.loop-at.at) c.len-at-end.ensures c.loop-at-test.false) in
    let same = ap (part c.workers-workers.result c.number-worker.result) end ∙ (ap (λ n. part n c.number-worker.result lines) c.workers-workers.ensures.workers ∙ ap (λ w. part c.args.block.now.workers w lines) c.number-worker.ensures) in
    record {
      idle = inv.idle;
      goes = inv.goes;
      works = subst (λ ls. Works c.args.pass.now c.loop-at.pass ls c.loop-at.answers.items) same inv.works;
    }
