use Rattle.std.proofs.Common.{◌≡◌, ◌∙◌, ◌+◌, ◌++◌, ◌∷◌, [], List, Vec, length, sym, ap, arith}
use Rattle.std.proofs.lemmas.List.{length_push, nil_from_length}
use Rattle.std.specs.declared.alloc.Global.{Global}
use Rattle.kw_line.specs.declared.answer.Answer.{Answer}
use Rattle.kw_work.specs.declared.line.Line.{Line}
use Rattle.kw_work.specs.Dealing.{part}
use Rattle.kw_work.specs.Collecting.{answers_of, merge, no_answer}
use Rattle.kw_work.proofs.Collected.{merge-one_worker, part-one_worker}
use Rattle.kw_work.proofs.collect.collect.Goals as goal

pub returns-in-Some : goal.returns-in-Some
returns-in-Some c =
    let parts : List (Vec Answer Global) = c.args.parts.items in
    let lines : List Line = c.args.block.now.lines in
    let one : c.args.block.now.workers ≡ 1 = sym c.workers.ensures.workers ∙ c.if-workers-eq1.true in
    let each : length (answers_of parts 0) ≡ length (part c.args.block.now.workers 0 lines) = c.requires.each 0 (omega arith) in
    let len : length (answers_of parts 0) ≡ length lines = each ∙ (ap (λ n. length (part n 0 lines)) one ∙ ap length (part-one_worker lines)) in
    let left : List (Vec Answer Global) = c.pop.new.self.items in
    let long : length left + 1 ≡ length parts = sym (length_push left c.in-Some.answers) ∙ ap length (sym c.in-Some.ensures.items) in
    let none : left ≡ [] = nil_from_length left (omega (arith, c.requires.len)) in
    let own : answers_of parts 0 ≡ c.in-Some.answers.items = ap (λ ps. answers_of ps 0) (c.in-Some.ensures.items ∙ ap (λ x. x ++ c.in-Some.answers ∷ []) none) in
    sym own ∙ (sym (merge-one_worker (answers_of parts) no_answer lines len) ∙ ap (λ n. merge n (answers_of parts) no_answer [] lines) (sym one))
