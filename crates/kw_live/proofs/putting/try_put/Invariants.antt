use Rattle.kw_live.specs.Putting.{put_ahead}
use Rattle.kw_live.proofs.PutStages.{IsTrying}
use Rattle.kw_live.proofs.putting.try_put.Given as goal

abbrev pub invariant-loop-pass : goal.invariant-loop-pass
invariant-loop-pass l = IsTrying l.shared l.initial.pass l.pass l.local

abbrev pub decreases-loop-pass : goal.decreases-loop-pass
decreases-loop-pass l = put_ahead l.local.activity l.local.walked l.local.lost
