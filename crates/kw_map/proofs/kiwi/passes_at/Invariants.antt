use Rattle.std.proofs.Common.{◌≡◌}
use Rattle.kw_map.proofs.kiwi.passes_at.Given as goal

abbrev pub invariant-loop-seat : goal.invariant-loop-seat
invariant-loop-seat l = l.passes.items ≡ l.yielded
