use Rattle.std.proofs.Common.{◌≡◌, ◌≤◌, length}
use Rattle.kiwid.specs.Serving.{Serves}
use Rattle.kiwid.proofs.serving.serve_seat.Given as goal

abbrev pub invariant-loop : goal.invariant-loop
invariant-loop g l = record {
  serves : Serves l.kiwi l.fn.seat.pass l.pass (g.L.Listener.state l.fn.seat.listener) (g.L.Listener.state l.listener) l.ends;
  none_out : (g.L.Listener.state l.listener).out ≡ 0;
  many : length l.ends ≡ l.counter;
  most : l.counter ≤ l.sessions;
}
