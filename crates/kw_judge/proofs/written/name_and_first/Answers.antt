use Rattle.kw_judge.proofs.Lines.{no_position}
use Rattle.kw_judge.proofs.written.name_and_first.Goals as goal

pub returns-in_err-value : goal.returns-in_err-value
returns-in_err-value c =
    let first = c.in_ok-next.ensures {u = tt} in
    let second = c.in_ok-next-2.ensures {u = tt} in
    rw c.from_residual-in_err-value.ensures (no_position c.args.words.now c.next.new.self c.next-2.new.self c.args.word.now _ _ first.steps second.steps (c.in_err-value.ensures {u = tt}))
