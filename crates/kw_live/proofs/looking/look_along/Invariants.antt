use Rattle.kw_world.specs.declared.activity.Activity.TheVariants as Activity
use Rattle.kw_world.specs.declared.activity.look.Look.TheVariants as Look
use Rattle.kw_world.specs.declared.local.Local.{Local}
use Rattle.kw_world.specs.Sizes.{product}
use Rattle.kw_follow.specs.Following.{Follows}
use Rattle.kw_follow.specs.Within.{looking}
use Rattle.kw_live.specs.Reading.{IsLookingOn, look_ahead}
use Rattle.kw_live.proofs.looking.look_along.Given as goal

abbrev pub invariant-loop-at : goal.invariant-loop-at
invariant-loop-at l = (k : Local) → Follows l.shared l.initial.pass (looking l.entry k) → IsLookingOn l.shared l.initial.pass (looking l.entry k) l.pass (looking l.at k)

abbrev pub decreases-loop-at : goal.decreases-loop-at
decreases-loop-at l = look_ahead product (Activity.Look (Look.Entry l.at)) 0
