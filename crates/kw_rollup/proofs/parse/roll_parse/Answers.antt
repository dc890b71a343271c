use Rattle.std.proofs.Common.{arith}
use Rattle.kw_rollup.proofs.Lines.{few_items}
use Rattle.kw_rollup.proofs.parse.roll_parse.Goals as goal

pub overflow_cast-line : goal.overflow_cast-line
overflow_cast-line c = omega (arith, few_items c.args.bytes.now c.loop-line.items.items c.loop-line.line-iterator c.loop-line.invariant.texts)

pub overflow_add-line : goal.overflow_add-line
overflow_add-line c = omega (arith, few_items c.args.bytes.now c.loop-line.items.items c.loop-line.line-iterator c.loop-line.invariant.texts)

pub returns-clause-few : goal.returns-clause-few
returns-clause-few c = omega (arith, few_items c.args.bytes.now c.loop-line.items.items c.loop-line.line-iterator c.loop-line.invariant.texts)
