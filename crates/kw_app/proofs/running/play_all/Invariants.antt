use Rattle.std.proofs.Common.{take, map}
use Rattle.kw_map.specs.Meetings.{front_seen}
use Rattle.kw_work.specs.Dealing.{Dealt}
use Rattle.kw_app.specs.Rounds.{AreTogether}
use Rattle.kw_app.specs.Running.{Ran}
use Rattle.kw_app.proofs.running.play_all.Given as goal

abbrev pub invariant-loop-block : goal.invariant-loop-block
invariant-loop-block g l = record {
  together : AreTogether l.kiwi l.crew.workers (front_seen l.passes.items) l.passes.items;
  ran : Ran l.kiwi.opening l.crew.workers (map (λ (b : Dealt). b.lines) (take l.block-index l.blocks)) (front_seen l.passes.items) l.answers.items;
}
