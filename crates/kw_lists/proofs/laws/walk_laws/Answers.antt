use Rattle.kw_lists.proofs.Walking.{not_behind, gone_by_next, walk_begins, walk_goes_on, walk_stays, walked_most, walked_fewer}
use Rattle.kw_lists.proofs.laws.walk_laws.Goals as goal

pub returns : goal.returns
returns c = record {
  begins = walk_begins;
  goes_on = walk_goes_on;
  stays = walk_stays;
  most = walked_most;
  fewer = walked_fewer;
  once = not_behind;
  gone_by = gone_by_next;
}
