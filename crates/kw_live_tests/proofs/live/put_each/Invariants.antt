use Rattle.std.proofs.Common.{◌≡◌}
use Rattle.kw_world.specs.declared.activity.Activity.TheVariants as Activity
use Rattle.kw_follow.specs.Following.{activity_in}
use Rattle.kw_table.specs.Passes.{IsPassOf}
use Rattle.kw_live_tests.proofs.live.put_each.Given as goal

abbrev pub invariant-loop-key : goal.invariant-loop-key
invariant-loop-key l = IsPassOf l.shared l.pass × (activity_in l.pass ≡ Activity.Idle)
