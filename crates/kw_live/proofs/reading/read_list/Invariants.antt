use Rattle.kw_live.specs.Reading.{reads_ahead}
use Rattle.kw_live.proofs.AfterList.{IsOver}
use Rattle.kw_live.proofs.reading.read_list.Given as goal

abbrev pub invariant-loop-pass : goal.invariant-loop-pass
invariant-loop-pass l = IsOver l.shared l.fn.pass l.fn.local l.pass l.local

abbrev pub decreases-loop-pass : goal.decreases-loop-pass
decreases-loop-pass l = reads_ahead l.local
