use Rattle.std.proofs.Common.{◌≡◌}
use Rattle.kw_live_rebal.specs.Standing.{Rebalances}
use Rattle.kw_live_rebal.proofs.rebalancing.rebuild.Given as goal

abbrev pub invariant-loop : goal.invariant-loop
invariant-loop g l = record {
  can_next : (goal.iterator-loop g).can_next l.iterator';
  is_finite : (goal.iterator-loop g).is_finite l.iterator';
  on : Rebalances l.shared l.fn.pass l.pass l.local;
  tidies : l.local.tidies ≡ l.fn.local.tidies;
}
