use Rattle.std.proofs.Common.{◌^◌, arith}
use Rattle.kw_line.proofs.Decimals.{below_limit, from_try}
use Rattle.kw_line.proofs.words.Words.key.Goals as goal

pub returns : goal.returns
returns c =
    let read = c.in_ok-number.ensures {u = tt} in
    rw c.ok.ensures.value (below_limit (2 ^ 32) c.in_ok-number.field-0 c.args.self.now _ _ (omega arith) read.0 read.1 (from_try (2 ^ 32) _ _ c.try_from.ensures))
