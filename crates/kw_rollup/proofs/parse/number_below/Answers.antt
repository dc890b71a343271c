use Rattle.std.proofs.Common.{arith}
use Rattle.kw_line.proofs.Decimals.{below_limit}
use Rattle.kw_rollup.proofs.Lines.{from_limit}
use Rattle.kw_rollup.proofs.parse.number_below.Goals as goal

pub returns : goal.returns
returns c =
    let read = c.in_ok-number.ensures {u = tt} in
    rw c.then_some.ensures (below_limit c.args.limit c.in_ok-number.number c.args.words.now _ _ (omega arith) (omega (arith, read.0)) read.1 (from_limit c.args.limit c.in_ok-number.number))
