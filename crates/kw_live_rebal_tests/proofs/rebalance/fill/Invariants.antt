use Rattle.std.proofs.Common.{◌≡◌}
use Rattle.kw_world.specs.declared.activity.Activity.TheVariants as Activity
use Rattle.kw_world.specs.Local.{resting}
use Rattle.kw_table.specs.Passes.{IsPassOf}
use Rattle.kw_follow.specs.Following.{activity_in}
use Rattle.kw_live_rebal_tests.proofs.rebalance.fill.Given as goal

abbrev pub invariant-loop : goal.invariant-loop
invariant-loop g l = IsPassOf l.shared l.pass × (activity_in l.pass ≡ Activity.Idle) × (l.local ≡ resting 0)
