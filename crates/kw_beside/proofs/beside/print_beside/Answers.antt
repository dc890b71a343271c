use Rattle.std.proofs.Common.{◌≡◌, IfOk, arith, rules}
use Rattle.kw_line.specs.Answered.{text}
use Rattle.kw_beside.proofs.Chunks.{at_each_chunk, printed}
use Rattle.kw_beside.proofs.beside.print_beside.Goals as goal

pub returns : goal.returns
returns g c =
    let parts = c.in_ok-parts.parts in
    let each = at_each_chunk _ _ c.max-size.result c.args.answers.now parts.items (λ chunk part. IfOk part (λ bytes. bytes.items ≡ text chunk)) c.in_ok-parts.ensures.each (λ start chunk part post. search rules) in
    printed c.args.answers.now c.max-size.result parts.items c.in_order.result (omega arith) (omega (arith, c.in_ok-parts.ensures.len)) each c.in_order.ensures.made c.in_order.ensures.joined
