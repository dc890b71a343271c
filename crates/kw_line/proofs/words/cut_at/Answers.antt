use Rattle.kw_line.proofs.Parts.{has_none, cut_at_first}
use Rattle.kw_line.proofs.words.cut_at.Goals as goal

pub returns-in_err-end : goal.returns-in_err-end
returns-in_err-end c = rw c.from_residual.ensures (has_none c.args.mark c.args.bytes.now (c.in_err-end.ensures {u = tt}))

pub returns : goal.returns
returns c = let first = c.in_ok-end.ensures {u = tt} in cut_at_first c.args.mark c.args.bytes.now c.in_ok-end.end first.0.high first.0.before first.1
