-- One line more, and the last ones.
use Rattle.std.proofs.Common.{◌≡◌, ◌%◌, List, ◌++◌, sym, ◌∙◌, ap, subst, arith}
use Rattle.std.specs.List.{AllByRecursion}
use Rattle.kw_line.specs.declared.item.Item.{Item}
use Rattle.kw_line.specs.Line.{IsItem}
use Rattle.kw_app.specs.declared.generate.TheConstants.{MODULUS}
use Rattle.kw_app.specs.Generated.{lines_after, last_lines, generated}
use Rattle.kw_app.proofs.Lines.{one_more, generated_are_items}
use Rattle.kw_app.proofs.generate.generate.Goals as goal

pub loop-preserved : goal.loop-preserved
loop-preserved c =
    let more = one_more c.loop.counter (c.args.start % MODULUS) c.loop.lines.items c.push.new.self.items c.line.result c.loop.generator.number c.line.new.self.number
    c.loop.invariant.1 c.loop.invariant.2 c.in_ok-push.ensures.items c.line.ensures.line c.line.ensures.number in
    (omega arith, more.0, more.1)

pub returns-clause-lines : goal.returns-clause-lines
returns-clause-lines c =
    let all : c.loop.counter ≡ c.args.count = omega arith in
    c.in_ok-extend_from_slice.ensures.items ∙ ap (λ (l : List Item). l ++ last_lines) (c.loop.invariant.1 ∙ ap (lines_after (c.args.start % MODULUS)) all)

pub returns-clause-items : goal.returns-clause-items
returns-clause-items c =
    let all : c.loop.counter ≡ c.args.count = omega arith in
    let are : c.extend_from_slice.new.self.items ≡ generated c.args.start c.args.count = c.in_ok-extend_from_slice.ensures.items ∙ ap (λ (l : List Item). l ++ last_lines) (c.loop.invariant.1 ∙ ap (lines_after (c.args.start % MODULUS)) all) in
    subst (AllByRecursion IsItem) (sym are) (generated_are_items c.args.start c.args.count)
