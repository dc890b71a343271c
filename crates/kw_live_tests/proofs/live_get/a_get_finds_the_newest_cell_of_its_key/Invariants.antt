use Rattle.std.proofs.Common.{◌≡◌}
use Rattle.kw_world.specs.declared.activity.Activity.TheVariants as Activity
use Rattle.kw_follow.specs.Following.{activity_in}
use Rattle.kw_table.specs.Passes.{IsPassOf}
use Rattle.kw_live_tests.proofs.live_get.a_get_finds_the_newest_cell_of_its_key.Given as goal

abbrev pub invariant-loop-key : goal.invariant-loop-key
invariant-loop-key g l = IsPassOf l.shared l.pass × (activity_in l.pass ≡ Activity.Idle)
