use Rattle.kw_lists.proofs.Putting.{put_begins, put_loads, put_goes_by, put_stops, put_inserts, put_loses, put_lost, from_stays, at_stays, ahead_stays, set_stays}
use Rattle.kw_lists.proofs.laws.put_laws.Goals as goal

pub returns : goal.returns
returns c = record {
  begins = put_begins;
  loads = put_loads;
  goes_by = put_goes_by;
  stops = put_stops;
  inserts = put_inserts;
  loses = put_loses;
  lost = put_lost;
  from_stays = λ n r after own lost at w o k. from_stays n r after own w o lost at k;
  at_stays = λ n r after own lost at held w o k. at_stays n r after own w o lost at held k;
  ahead_stays = λ n r after own held w o h a. ahead_stays n r after own w o held h a;
  set_stays = λ n r after own lost at held w o k. set_stays n r after own w o lost at held k;
}
