use Rattle.std.proofs.Common.{[]}
use Rattle.kw_world.specs.declared.activity.Activity.TheVariants as Activity
use Rattle.kw_world.specs.declared.activity.read.Read.TheVariants as Read
use Rattle.kw_follow.specs.Cursors.{with_cursor}
use Rattle.kw_live.specs.Reading.{reads_ahead}
use Rattle.kw_live.proofs.NewestCell.{KeepsNewest, reading}
use Rattle.kw_live.proofs.newest.read_newest.Given as goal

abbrev pub invariant-loop-cell : goal.invariant-loop-cell
invariant-loop-cell l = KeepsNewest l.shared l.fn.pass l.way l.pass l.cursor l.newest

abbrev pub decreases-loop-cell : goal.decreases-loop-cell
decreases-loop-cell l = reads_ahead (with_cursor (Activity.Read Read.Link) l.cursor (reading l.way []))
