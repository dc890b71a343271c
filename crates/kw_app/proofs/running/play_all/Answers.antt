use Rattle.std.proofs.Common.{◌≡◌, ◌<◌, ◌≤◌, [], List, length, map, sym, ap, ◌∙◌, subst, arith}
use Rattle.std.proofs.lemmas.List.{take_all}
use Rattle.kw_line.specs.declared.answer.Answer.{Answer}
use Rattle.kw_world.specs.declared.event.Event.{Event}
use Rattle.kw_map.specs.Meetings.{front_seen}
use Rattle.kw_work.specs.Dealing.{Dealt}
use Rattle.kw_app.specs.Rounds.{AreTogether}
use Rattle.kw_app.specs.Running.{Ran}
use Rattle.kw_app.proofs.Blocks.{front_is}
use Rattle.kw_app.proofs.Runs.{ran_none, ran_step}
use Rattle.kw_app.proofs.running.play_all.Goals as goal

pub loop-block-init : goal.loop-block-init
loop-block-init g c =
    let m = c.args.kiwi.now in
    let n = c.args.crew.now.workers in
    let front : front_seen c.args.passes.items ≡ [] = front_is _ _ _ _ c.requires.together in record {
      together = subst (λ (E : List Event). AreTogether m n E c.args.passes.items) (sym front) c.requires.together;
      ran = subst (λ (E : List Event). Ran m.opening n [] E c.in_ok-answers.answers.items) (sym front)
          (subst (λ (a : List Answer). Ran m.opening n [] [] a) (sym c.in_ok-answers.ensures) (ran_none m.opening n));
    }

pub loop-block-preserved : goal.loop-block-preserved
loop-block-preserved g c =
    let inv = c.loop-block.invariant in
    let lt : c.loop-block.block-index < length c.args.blocks.now = omega arith in
    let b : Dealt = c.block-item.result in
    let workers : b.workers ≡ c.args.crew.now.workers = ap (λ (x : Dealt). x.workers) c.block-item.is ∙ c.requires.workers c.loop-block.block-index b lt in
    record {
      together = subst (λ n. AreTogether c.args.kiwi.now n (front_seen c.in_ok-next.next.items) c.in_ok-next.next.items) workers c.in_ok-next.ensures.together;
      ran = ran_step _ _ _ _ b _ _ _ _ _ inv.together.some lt c.block-item.is workers c.in_ok-answers-2.ensures inv.ran c.in_ok-next.ensures.grew;
    }

pub returns-clause-ran : goal.returns-clause-ran
returns-clause-ran g c =
    let past : length c.args.blocks.now ≤ c.loop-block.block-index = omega arith in
    subst (λ (bs : List Dealt). Ran c.args.kiwi.now.opening c.args.crew.now.workers (map (λ (b : Dealt). b.lines) bs) (front_seen c.loop-block.passes.items) c.loop-block.answers.items)
    (take_all c.loop-block.block-index c.args.blocks.now past) c.loop-block.invariant.ran
