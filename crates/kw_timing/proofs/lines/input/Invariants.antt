-- The input has never more bytes than it may.
use Rattle.std.proofs.Common.{◌≤◌, length}
use Rattle.kw_line.specs.declared.parse.TheConstants.{MOST_BYTES}
use Rattle.kw_timing.proofs.lines.input.Given as goal

abbrev pub invariant-loop-line : goal.invariant-loop-line
invariant-loop-line l = length l.bytes.items ≤ MOST_BYTES
