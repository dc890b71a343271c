-- The names of the answered calls, and of the others so far.
use Rattle.std.proofs.Common.{◌≡◌, ◌++◌, map, take}
use Rattle.kw_judge.specs.declared.record.DoneCall.{DoneCall}
use Rattle.kw_judge.specs.declared.record.OpenCall.{OpenCall}
use Rattle.kw_judge.proofs.judge.names.Given as goal

abbrev pub invariant-loop-call : goal.invariant-loop-call
invariant-loop-call l = l.names.items ≡ map (λ (d : DoneCall). d.name) l.fn.written.done ++ map (λ (o : OpenCall). o.name) (take l.call-index l.call-items)
