use Rattle.std.proofs.Common.{◌≡◌, ◌<◌, ◌+◌, ◌++◌, drop, length, ap, refl, sym, ◌∙◌, Vec, arith, subst}
use Rattle.std.specs.declared.alloc.Global.{Global}
use Rattle.std.specs.List.{AllWithin}
use Rattle.std.proofs.lemmas.List.Elements.{All-same, All-push, AllWithin-none, AllWithin-upto}
use Rattle.kw_work.specs.Dealing.{Dealt, IsCall, blocks_of}
use Rattle.kw_work.proofs.Cuts.{lists, lists-push, all_between, more_calls, deal_wait, deal_end, AreLines-dealt}
use Rattle.kw_work.proofs.deal.deal.Goals.{in-Wait+in_ok-push, in_default}
use Rattle.kw_work.proofs.deal.deal.Goals as goal

pub loop-at-preserved : goal.loop-at-preserved
loop-at-preserved c =
    let inv = c.loop-at.invariant in
    let lt : c.loop-at.at < length c.args.items.now = omega arith in
    elim c.match-item.branch [
      | in-Wait+in_ok-push w ↦
          let pushed = ap (λ (x : Vec Dealt Global). x.items) w.blocks-is ∙ w.in_ok-push.ensures.items in
          record {
            begun = omega (arith, w.start-is);
            calls = subst (λ k. AllWithin IsCall c.args.items.now k (c.loop-at.at + 1)) (sym w.start-is) (AllWithin-none IsCall c.args.items.now (c.loop-at.at + 1));
            blocks = subst (λ k. lists c.match-item.blocks.items ++ blocks_of (k + 1) (drop k c.args.items.now) ≡ blocks_of 1 c.args.items.now) (sym w.start-is)
                (deal_wait _ _ _ _ _ _ _ _ lt inv.begun (all_between IsCall c.args.items.now c.loop-at.start c.loop-at.at inv.calls (omega arith)) w.in-Wait.is (ap lists pushed ∙ lists-push _ _ _ refl) w.new.ensures.lines inv.blocks);
            workers = All-same (λ (b : Dealt). b.workers ≡ c.args.workers) _ _ pushed (All-push (λ (b : Dealt). b.workers ≡ c.args.workers) _ _ inv.workers w.new.ensures.workers);
          }
      | in_default w ↦ record {
        begun = omega (arith, w.start-is, inv.begun);
        calls = subst (λ k. AllWithin IsCall c.args.items.now k (c.loop-at.at + 1)) (sym w.start-is) (more_calls _ _ _ _ lt w.in_default.not-Wait inv.calls);
        blocks = subst (λ k. lists c.match-item.blocks.items ++ blocks_of (k + 1) (drop k c.args.items.now) ≡ blocks_of 1 c.args.items.now) (sym w.start-is)
            (ap (λ (x : Vec Dealt Global). lists x.items ++ blocks_of (c.loop-at.start + 1) (drop c.loop-at.start c.args.items.now)) w.blocks-is ∙ inv.blocks);
        workers = All-same (λ (b : Dealt). b.workers ≡ c.args.workers) _ _ (ap (λ (x : Vec Dealt Global). x.items) w.blocks-is) inv.workers;
      }
    ]

pub returns-clause-blocks : goal.returns-clause-blocks
returns-clause-blocks c =
    let calls = AllWithin-upto IsCall c.args.items.now c.loop-at.start c.loop-at.at (length c.args.items.now) c.loop-at-test.false c.loop-at.invariant.calls in
    deal_end _ _ _ _ _ _ (all_between IsCall c.args.items.now c.loop-at.start (length c.args.items.now) calls (omega arith)) (ap lists c.in_ok-push-2.ensures.items ∙ lists-push _ _ _ refl) c.new-2.ensures.lines c.loop-at.invariant.blocks

pub returns-clause-lines : goal.returns-clause-lines
returns-clause-lines c = λ all. AreLines-dealt _ 1 c.args.items.now (returns-clause-blocks c) all
