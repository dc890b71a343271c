use Rattle.std.proofs.Common.{◌≡◌, ◌++◌}
use Rattle.kiwid.specs.Seats.{passes_of, rests_of}
use Rattle.kiwid.proofs.serving.put_together.Given as goal

abbrev pub invariant-loop-pass : goal.invariant-loop-pass
invariant-loop-pass g l = record {
  passes : passes_of {L = g.row.L.Denot} l.served.items ≡ l.yielded;
  rests : rests_of {L = g.row.L.Denot} l.served.items ++ l.left.rest.items ≡ l.fn.rests.items;
  whole : l.yielded ++ l.pass-iterator.rest.items ≡ l.fn.passes.items;
}
