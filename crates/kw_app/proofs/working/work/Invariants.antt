use Rattle.std.proofs.Common.{take}
use Rattle.kw_follow.specs.Following.{GoesTo}
use Rattle.kw_map.specs.Kiwi.{IsIdle}
use Rattle.kw_work.specs.Dealing.{part}
use Rattle.kw_app.specs.Working.{Works}
use Rattle.kw_app.proofs.working.work.Given as goal

abbrev pub invariant-loop-at : goal.invariant-loop-at
invariant-loop-at g l = record {
  idle : IsIdle l.kiwi l.pass;
  goes : GoesTo l.kiwi l.initial.pass l.pass;
  works : Works l.initial.pass l.pass (part l.workers l.worker (take l.at l.block.lines)) l.answers.items;
}
