use Rattle.std.proofs.Common.{◌≡◌, ◌≤◌, [], length}
use Rattle.kw_follow.specs.Calling.{calls_in}
use Rattle.kw_line.proofs.Parts.{HasNo}
use Rattle.kw_line.specs.declared.words.TheConstants.{LINE_FEED}
use Rattle.kiwid.specs.Lines.{StaysIdle}
use Rattle.kiwid.specs.declared.request.TheConstants.{MOST_BYTES, MOST_LINES}
use Rattle.kiwid.proofs.Coming.{Sofar}
use Rattle.kiwid.proofs.session.answer_reads.Given as goal

abbrev pub invariant-loop : goal.invariant-loop
invariant-loop g l = record {
  can_next : (goal.iterator-loop g).can_next l.iterator';
  is_finite : (goal.iterator-loop g).is_finite l.iterator';
  stays : StaysIdle l.kiwi l.fn.pass l.pass;
  sofar : Sofar (g.S.Source.left l.fn.source) (g.S.Source.left l.source) l.held.items (calls_in l.fn.pass) (calls_in l.pass) (g.K.Sink.written l.fn.sink) (g.K.Sink.written l.sink) l.replies.count;
  clean : HasNo LINE_FEED l.held.items;
  short : length l.held.items ≤ MOST_BYTES;
  few : l.replies.count ≤ MOST_LINES;
  room : l.replies.count ≡ MOST_LINES → l.held.items ≡ [];
  sources : g.S.Source.faults l.fn.source ≤ g.S.Source.faults l.source;
  sinks : g.K.Sink.faults l.fn.sink ≤ g.K.Sink.faults l.sink;
}
