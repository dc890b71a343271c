use Rattle.std.proofs.Common.{◌≡◌}
use Rattle.std.specs.Prelude.{replicate}
use Rattle.kw_core.specs.Run.{no_log}
use Rattle.kw_laws.proofs.recorder.Recorder.new.Given as goal

abbrev pub invariant-loop-seat : goal.invariant-loop-seat
invariant-loop-seat l = l.logs.items ≡ replicate l._seat no_log
