use Rattle.std.proofs.Common.{◌≡◌, ◌++◌}
use Rattle.kiwid.specs.Seats.{AreParted}
use Rattle.kiwid.proofs.serving.parted.Given as goal

abbrev pub invariant-loop-part : goal.invariant-loop-part
invariant-loop-part g l = record {
  parted : AreParted {L = g.row.L.Denot} l.yielded l.passes.items l.rests.items;
  whole : l.yielded ++ l.part-iterator.rest.items ≡ l.fn.parts.items;
}
