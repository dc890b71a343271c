use Rattle.kw_rows.proofs.Views.{opens, leads, alone, claims, takes_along, leaves, pair, may_mark, may_mark_next, may_freeze, follows, leader_named, not_first}
use Rattle.kw_rows.proofs.laws.view_laws.Goals as goal

pub returns : goal.returns
returns c = record {
  leads = leads;
  opens = opens;
  alone = alone;
  claims = claims;
  takes_along = takes_along;
  leaves = leaves;
  pair = pair;
  may_mark = may_mark;
  may_mark_next = may_mark_next;
  may_freeze = may_freeze;
  follows = follows;
  leader_named = leader_named;
  not_first = not_first;
}
