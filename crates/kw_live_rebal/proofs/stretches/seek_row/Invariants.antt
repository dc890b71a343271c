use Rattle.std.proofs.Common.{◌≡◌, ◌-◌}
use Rattle.kw_follow.specs.Searches.{seeking_at}
use Rattle.kw_follow.specs.Reaching.{Advances}
use Rattle.kw_live_rebal.proofs.stretches.seek_row.Given as goal

abbrev pub invariant-loop-search : goal.invariant-loop-search
invariant-loop-search l = record {
  on : Advances l.shared l.fn.pass l.pass (seeking_at l.search l.local);
  same : l.local ≡ l.fn.local;
}

abbrev pub decreases-loop-search : goal.decreases-loop-search
decreases-loop-search l = l.rows - l.search.asked
