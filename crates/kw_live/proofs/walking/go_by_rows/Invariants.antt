use Rattle.kw_world.specs.declared.activity.Activity.TheVariants as Activity
use Rattle.kw_world.specs.declared.activity.walk.Walk.TheVariants as Walk
use Rattle.kw_follow.specs.Within.{walking}
use Rattle.kw_live.specs.Walking.{walks_ahead}
use Rattle.kw_live.proofs.WalkStages.{IsGoingBy}
use Rattle.kw_live.proofs.walking.go_by_rows.Given as goal

abbrev pub invariant-loop-row : goal.invariant-loop-row
invariant-loop-row l = IsGoingBy l.shared l.initial.pass l.initial.local l.pass l.local

abbrev pub decreases-loop-row : goal.decreases-loop-row
decreases-loop-row l = walks_ahead (walking (Activity.Walk Walk.Next) l.local)
