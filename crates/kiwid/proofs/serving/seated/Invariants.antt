use Rattle.std.proofs.Common.{◌≡◌, ◌++◌, map}
use Rattle.kiwid.specs.declared.serving.Seat.{Seat}
use Rattle.kiwid.proofs.serving.seated.Given as goal

abbrev pub invariant-loop-pass : goal.invariant-loop-pass
invariant-loop-pass g l = record {
  passes : map (λ (s : Seat g.row.L.Denot). s.pass) l.seats.items ≡ l.yielded;
  listeners : map (λ (s : Seat g.row.L.Denot). s.listener) l.seats.items ++ l.left.rest.items ≡ l.fn.listeners.items;
  whole : l.yielded ++ l.pass-iterator.rest.items ≡ l.fn.passes.items;
}
