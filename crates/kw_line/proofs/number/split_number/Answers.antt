use Rattle.std.proofs.Common.{arith}
use Rattle.kw_line.proofs.Decimals.{split_decimal}
use Rattle.kw_line.proofs.number.split_number.Goals as goal

pub returns : goal.returns
returns c =
    let read = c.leading_digits-value.ensures in
    (read.fits, split_decimal c.args.bytes.now _ c.leading_digits-value.result.1 c.leading_digits-value.result.0 read.digits read.value read.within (omega (arith, c.min-most.ensures)) read.fits (c.is_plain.ensures c.if-not-is_plain.false))
