use Rattle.std.proofs.Common.{arith, refl}
use Rattle.kw_follow.proofs.RowGathering.{base_few}
use Rattle.kw_follow.proofs.row_gathering.Hand.of.Goals as goal

pub returns : goal.returns
returns c = record {
  row = refl;
  base = omega (arith, c.place_in_group.ensures);
  within = omega (arith, c.place_in_group.ensures, base_few c.args.local.now.rebalance);
}
