-- The words so far are the texts of the names so far, and those that are left follow.
use Rattle.std.proofs.Common.{◌≡◌, ◌++◌, ◌∷◌, map, codes}
use Rattle.std.specs.List.{AllByRecursion}
use Rattle.kw_line.specs.Cut.{words}
use Rattle.kw_judge.specs.Record.{IsName}
use Rattle.kw_judge.specs.Texts.{name_text}
use Rattle.kw_judge.proofs.written.order.Given as goal

abbrev pub invariant-loop-word : goal.invariant-loop-word
invariant-loop-word l = record { each : AllByRecursion IsName l.names.items; texts : words l.fn.line ≡ codes "order" ∷ (map name_text l.names.items ++ l.word-iterator) }
