use Rattle.std.proofs.Common.{◌*◌}
use Rattle.kw_line.proofs.Decimals.{IsRead}
use Rattle.kw_line.proofs.number.leading_digits.Given as goal

abbrev pub invariant-loop-pair : goal.invariant-loop-pair
invariant-loop-pair l = IsRead l.bytes (2 * l.pair) l.value
