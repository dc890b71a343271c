use Rattle.std.proofs.Common.{◌^◌, arith}
use Rattle.kw_line.specs.declared.words.TheConstants.{MOST_VALUE}
use Rattle.kw_line.proofs.Decimals.{below_limit, from_test}
use Rattle.kw_line.proofs.words.Words.value.Goals as goal

pub returns : goal.returns
returns c =
    let read = c.in_ok-value.ensures {u = tt} in
    rw c.then_some.ensures (below_limit (2 ^ 63) c.in_ok-value.value c.args.self.now _ _ (omega arith) read.0 read.1 (from_test MOST_VALUE c.in_ok-value.value))
