use Rattle.kw_line.proofs.Texts.{no_end, range_forms}
use Rattle.kw_line.proofs.parse.call.Goals as goal

pub returns-in_err-key-in-Sum : goal.returns-in_err-key-in-Sum
returns-in_err-key-in-Sum c =
    let read = c.in_ok-from-in-Sum.ensures {u = tt} in
    rw c.from_residual-in_err-key-in-Sum.ensures (no_end c.args.form c.in_ok-from-in-Sum.from c.args.words.now c.key-in-Sum.new.self (range_forms c.args.form c.in-Sum.is) read.1 (c.in_err-key-in-Sum.ensures {u = tt}))
