use Rattle.std.proofs.Common.{◌≡◌, ◌++◌, map}
use Rattle.std.specs.List.{AllByRecursion}
use Rattle.kw_line.specs.Cut.{lines}
use Rattle.kw_rollup.specs.Lines.{IsRollItem, roll_text}
use Rattle.kw_rollup.proofs.parse.roll_parse.Given as goal

abbrev pub invariant-loop-line : goal.invariant-loop-line
invariant-loop-line l = record { each : AllByRecursion IsRollItem l.items.items; texts : lines l.bytes ≡ map roll_text l.items.items ++ l.line-iterator }
