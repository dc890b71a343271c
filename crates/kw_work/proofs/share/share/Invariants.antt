use Rattle.std.proofs.Common.{◌≡◌, ◌≤◌, length, take}
use Rattle.kw_work.specs.Dealing.{part}
use Rattle.kw_work.proofs.share.share.Given as goal

abbrev pub invariant-loop-at : goal.invariant-loop-at
invariant-loop-at l = record { few : l.share ≤ l.at; counted : l.share ≡ length (part l.workers l.worker (take l.at l.block.lines)) }
