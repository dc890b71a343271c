use Rattle.kw_windows.proofs.Summing.{sum_most, sum_grows, sum_same, sum_one_changed}
use Rattle.kw_windows.proofs.laws.sum_laws.Goals as goal

pub returns : goal.returns
returns c = record {
  most = sum_most;
  grows = sum_grows;
  same = sum_same;
  one_changed = sum_one_changed;
}
