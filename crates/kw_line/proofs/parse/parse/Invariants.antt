use Rattle.std.proofs.Common.{◌≡◌, ◌++◌, map}
use Rattle.std.specs.List.{AllByRecursion}
use Rattle.kw_line.specs.Cut.{lines}
use Rattle.kw_line.specs.Line.{IsItem, item_text}
use Rattle.kw_line.proofs.parse.parse.Given as goal

abbrev pub invariant-loop-line : goal.invariant-loop-line
invariant-loop-line l = record { each : AllByRecursion IsItem l.items.items; texts : lines l.bytes ≡ map item_text l.items.items ++ l.line-iterator }
