-- The lines so far were taken, and those that are left follow.
use Rattle.std.proofs.Common.{◌≡◌, ◌++◌}
use Rattle.kw_line.specs.Cut.{lines}
use Rattle.kw_judge.specs.Reader.{IsReading, lines_taken}
use Rattle.kw_judge.proofs.read.read_record.Given as goal

abbrev pub invariant-loop-line : goal.invariant-loop-line
invariant-loop-line l = record { reading : IsReading l.reader; taken : lines l.bytes ≡ lines_taken l.reader ++ l.line-iterator }
