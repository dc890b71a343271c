use Rattle.kw_windows.proofs.Counting.{count_named, count_all_but_few, count_one_more, count_left_out, count_picked_out}
use Rattle.kw_windows.proofs.laws.count_laws.Goals as goal

pub returns : goal.returns
returns c = record {
  named = count_named;
  all_but_few = count_all_but_few;
  one_more = count_one_more;
  left_out = count_left_out;
  picked_out = count_picked_out;
}
