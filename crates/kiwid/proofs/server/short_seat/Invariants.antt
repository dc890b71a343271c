use Rattle.std.proofs.Common.{ℕ, ◌<◌, ◌≤◌, length, slice_index_or}
use Rattle.kiwid.specs.declared.serving.Served.{Served}
use Rattle.kiwid.proofs.server.short_seat.Given as goal

abbrev pub invariant-loop-at : goal.invariant-loop-at
invariant-loop-at g l = (k : ℕ) (d : Served g.row.L.Denot) → k < l.at → l.sessions ≤ length (slice_index_or l.served k d).ends
