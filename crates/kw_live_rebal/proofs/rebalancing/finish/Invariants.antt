use Rattle.kw_live_rebal.proofs.Finishing.{Finishes}
use Rattle.kw_live_rebal.proofs.rebalancing.finish.Given as goal

abbrev pub invariant-loop : goal.invariant-loop
invariant-loop g l = record {
  can_next : (goal.iterator-loop g).can_next l.iterator';
  is_finite : (goal.iterator-loop g).is_finite l.iterator';
  on : Finishes l.shared l.fn.pass l.pass l.fn.local l.local;
}
