use Rattle.std.proofs.Common.{◌≡◌, ◌<◌, ◌≤◌, ◌+◌, ◌*◌, ◌++◌, length, All, List, ℕ}
use Rattle.std.specs.Borrow.{Bor}
use Rattle.std.specs.List.{flat_map}
use Rattle.kw_line.specs.Cut.{lines}
use Rattle.kw_beside.proofs.pieces.pieces.Given as goal

abbrev pub invariant-loop-rest : goal.invariant-loop-rest
invariant-loop-rest l = record {
  lines : lines l.bytes ≡ flat_map (λ (piece : Bor (List ℕ)). lines piece.now) l.pieces.items ++ lines l.rest;
  short : All (λ (piece : Bor (List ℕ)). length piece.now ≤ length l.bytes) l.pieces.items;
  long : length l.pieces.items * l.size + length l.rest ≤ length l.bytes;
  few : length l.pieces.items < l.fn.count;
}

abbrev pub decreases-loop-rest : goal.decreases-loop-rest
decreases-loop-rest l = length l.rest
