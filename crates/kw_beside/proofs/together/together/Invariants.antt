use Rattle.std.proofs.Common.{ℕ, List}
use Rattle.std.specs.List.{AllByRecursion}
use Rattle.kw_line.specs.Line.{IsItem}
use Rattle.kw_beside.specs.Pieces.{AreReadOf}
use Rattle.kw_beside.proofs.ReadParts.{IsLeft}
use Rattle.kw_beside.proofs.together.together.Given as goal

abbrev pub invariant-loop-part : goal.invariant-loop-part
invariant-loop-part l = record {
  each : AllByRecursion IsItem l.all.items;
  left : (bytes : List ℕ) → AreReadOf bytes l.fn.parts.items → IsLeft bytes l.all.items l.part-iterator.rest.items;
}
