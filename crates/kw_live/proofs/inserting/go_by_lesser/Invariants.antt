use Rattle.kw_world.specs.declared.activity.Activity.TheVariants as Activity
use Rattle.kw_world.specs.declared.activity.insert.Insert.TheVariants as Insert
use Rattle.kw_live.specs.Putting.{put_ahead}
use Rattle.kw_live.proofs.InsertStages.{IsInsertingAlong}
use Rattle.kw_live.proofs.inserting.go_by_lesser.Given as goal

abbrev pub invariant-loop-cell : goal.invariant-loop-cell
invariant-loop-cell l = IsInsertingAlong l.shared l.fn.pass l.fn.local l.pass l.cursor l.local

abbrev pub decreases-loop-cell : goal.decreases-loop-cell
decreases-loop-cell l = put_ahead (Activity.Insert Insert.Link) l.cursor.walked l.local.lost
