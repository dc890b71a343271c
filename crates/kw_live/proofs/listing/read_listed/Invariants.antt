use Rattle.kw_world.specs.declared.activity.Activity.TheVariants as Activity
use Rattle.kw_world.specs.declared.activity.read.Read.TheVariants as Read
use Rattle.kw_follow.specs.Cursors.{with_cursor}
use Rattle.kw_live.specs.Reading.{reads_ahead}
use Rattle.kw_live.proofs.CursorEvents.{IsAlong}
use Rattle.kw_live.proofs.listing.read_listed.Given as goal

abbrev pub invariant-loop-cell : goal.invariant-loop-cell
invariant-loop-cell l = IsAlong l.shared l.fn.pass l.fn.local l.pass l.cursor l.local

abbrev pub decreases-loop-cell : goal.decreases-loop-cell
decreases-loop-cell l = reads_ahead (with_cursor (Activity.Read Read.Link) l.cursor l.local)
