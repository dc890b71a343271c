use Rattle.kw_live.specs.Reading.{looks_ahead}
use Rattle.kw_live.specs.Reading.{IsLookingOn}
use Rattle.kw_live.proofs.looking.look_at_entries.Given as goal

abbrev pub invariant-loop-pass : goal.invariant-loop-pass
invariant-loop-pass l = IsLookingOn l.shared l.initial.pass l.initial.local l.pass l.local

abbrev pub decreases-loop-pass : goal.decreases-loop-pass
decreases-loop-pass l = looks_ahead l.local
