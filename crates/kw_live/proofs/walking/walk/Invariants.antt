use Rattle.kw_live.specs.Walking.{walks_ahead}
use Rattle.kw_live.proofs.WalkStages.{IsWalkingOn}
use Rattle.kw_live.proofs.walking.walk.Given as goal

abbrev pub invariant-loop-pass : goal.invariant-loop-pass
invariant-loop-pass l = IsWalkingOn l.shared l.initial.pass l.initial.local l.pass l.local

abbrev pub decreases-loop-pass : goal.decreases-loop-pass
decreases-loop-pass l = walks_ahead l.local
