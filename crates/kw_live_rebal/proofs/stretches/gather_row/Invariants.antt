use Rattle.std.proofs.Common.{◌≡◌}
use Rattle.kw_world.specs.declared.activity.rebalance.gather.Gather.TheVariants as Gather
use Rattle.kw_follow.specs.BuildsOn.{IsHand, taking_at}
use Rattle.kw_follow.specs.Reaching.{Advances}
use Rattle.kw_live_rebal.proofs.stretches.gather_row.Given as goal

abbrev pub invariant-loop : goal.invariant-loop
invariant-loop g l = record {
  can_next : (goal.iterator-loop g).can_next l.iterator';
  is_finite : (goal.iterator-loop g).is_finite l.iterator';
  on : Advances l.shared l.fn.pass l.pass (taking_at Gather.Link l.cursor l.local);
  hand : IsHand l.hand l.local.rebalance;
  tidies : l.local.tidies ≡ l.fn.local.tidies;
}
