use Rattle.std.proofs.Common.{arith, rules, ap, ◌∙◌, List}
use Rattle.kw_world.specs.declared.opening.Opening.{Opening}
use Rattle.kw_table.specs.Passes.{view}
use Rattle.kw_work.proofs.Cuts.{lists}
use Rattle.kw_line.specs.declared.answer.Answer.{Answer}
use Rattle.kw_app.specs.Answering.{IsRun, opening}
use Rattle.kw_app.specs.Running.{Shows}
use Rattle.kw_app.proofs.Shown.{IfFirst, shows}
use Rattle.kw_app.proofs.Headlines.{run_first}
use Rattle.kw_app.proofs.running.run_on_map.Goals as goal

pub returns : goal.returns
returns g c =
    let o : Opening = opening c.args.crew.now.workers c.args.crew.now.rows in
    let answers : List Answer = c.in_ok-passes.answers.items in
    let h : IfFirst c.in_ok-passes.passes.items (λ p. Shows o c.args.items.now answers (view p)) =
    shows c.in_ok-kiwi.kiwi o c.args.items.now c.in_ok-passes.passes.items answers _ c.in_ok-kiwi.ensures.opening (ap lists c.as_slice.ensures.value ∙ c.in_ok-blocks.ensures.blocks) c.in_ok-passes.ensures.together c.in_ok-passes.ensures.ran in
    let k : IfFirst c.in_ok-passes.passes.items (IsRun o c.args.items.now answers) = run_first o c.args.items.now answers c.in_ok-passes.passes.items c.args.crew.now.opens c.requires.items h in
    search rules

pub play_all-requires-clause-together : goal.play_all-requires-clause-together
play_all-requires-clause-together g c lives outlives =
    let v = c.in_ok-kiwi.passes in
    let len = c.in_ok-kiwi.ensures.len in
    record {
      some = search rules;
      len = search rules;
      each = λ i d lt. record {
        idle = c.in_ok-kiwi.ensures.idle i d (omega (arith, len));
        number = (c.in_ok-kiwi.ensures.each i d (omega (arith, len))).number;
        seen = (c.in_ok-kiwi.ensures.each i d (omega (arith, len))).seen;
      };
    }
