-- The words so far are the texts of the pairs so far, and those that are left follow.
use Rattle.std.proofs.Common.{◌≡◌, ◌++◌, map}
use Rattle.std.specs.List.{AllByRecursion}
use Rattle.kw_line.specs.Cut.{words}
use Rattle.kw_line.specs.Answered.{pair_text}
use Rattle.kw_judge.specs.Record.{IsPair}
use Rattle.kw_judge.proofs.written.pairs.Given as goal

abbrev pub invariant-loop-word : goal.invariant-loop-word
invariant-loop-word l = record { each : AllByRecursion IsPair l.pairs; texts : words l.text ≡ map pair_text l.pairs ++ l.word-iterator }
