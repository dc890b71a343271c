use Rattle.std.proofs.Common.{◌≡◌}
use Rattle.kw_world.specs.declared.activity.Activity.TheVariants as Activity
use Rattle.kw_world.specs.Local.{resting}
use Rattle.kw_table.specs.Passes.{IsPassOf}
use Rattle.kw_follow.specs.Following.{activity_in}
use Rattle.kw_live_rebal_tests.proofs.rebalance.put_until_replaced.Given as goal

abbrev pub invariant-loop-value : goal.invariant-loop-value
invariant-loop-value g l = IsPassOf l.shared l.pass × (activity_in l.pass ≡ Activity.Idle) × (l.local ≡ resting 0)
