use Rattle.std.proofs.Common.{◌≡◌, take}
use Rattle.kw_work.specs.Dealing.{part}
use Rattle.kw_work.proofs.tests.part_of.Given as goal

abbrev pub invariant-loop-at : goal.invariant-loop-at
invariant-loop-at l = l.lines.items ≡ part l.workers l.worker (take l.at l.block.lines)
