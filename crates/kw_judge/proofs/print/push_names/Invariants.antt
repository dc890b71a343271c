-- The names so far are there.
use Rattle.std.proofs.Common.{◌≡◌, ◌++◌, ◌∷◌, take}
use Rattle.std.specs.List.{flat_map}
use Rattle.kw_line.specs.declared.words.TheConstants.{SPACE}
use Rattle.kw_judge.specs.Texts.{name_text}
use Rattle.kw_judge.proofs.print.push_names.Given as goal

abbrev pub invariant-loop-name : goal.invariant-loop-name
invariant-loop-name l = l.out.items ≡ l.fn.out.items ++ flat_map (λ name. SPACE ∷ name_text name) (take l.name-index l.names)
