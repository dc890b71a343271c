use Rattle.std.proofs.Common.{◌≤◌, ◌-◌, length, drop}
use Rattle.kw_follow.specs.Calling.{calls_in}
use Rattle.kiwid.specs.Lines.{StaysIdle, Took}
use Rattle.kiwid.specs.declared.request.TheConstants.{MOST_LINES}
use Rattle.kiwid.proofs.session.whole_lines.Given as goal

abbrev pub invariant-loop-at : goal.invariant-loop-at
invariant-loop-at g l = record {
  stays : StaysIdle l.kiwi l.fn.pass l.pass;
  within : l.at ≤ length l.held;
  few : l.replies.count ≤ MOST_LINES;
  took : Took l.held (drop l.at l.held) (calls_in l.fn.pass) (calls_in l.pass) (g.K.Sink.written l.fn.sink) (g.K.Sink.written l.sink) l.fn.replies.count l.replies.count;
  never_falls : g.K.Sink.faults l.fn.sink ≤ g.K.Sink.faults l.sink;
}

abbrev pub decreases-loop-at : goal.decreases-loop-at
decreases-loop-at g l = length l.held - l.at
