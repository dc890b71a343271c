use Rattle.kw_judge.proofs.LineTexts.{open_is, no_line}
use Rattle.kw_judge.proofs.written.written.Goals as goal

pub returns-in-Some-open_call : goal.returns-in-Some-open_call
returns-in-Some-open_call c =
    let read = c.in-Some-open_call.ensures {u = tt} in
    (read.0, open_is c.args.line.now c.in-Some-open_call.call read.1)

pub returns-in_default-2 : goal.returns-in_default-2
returns-in_default-2 c = no_line c.args.line.now (rw c.in_default.is at (c.in_ok-call.ensures {u = tt})) (c.in_default-open_call.ensures {u = tt}) (rw c.in_default-2.is at (c.in_ok-names.ensures {u = tt}))
