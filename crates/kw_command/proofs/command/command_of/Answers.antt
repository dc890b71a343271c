-- The first word, and what is read of the rest.
use Rattle.std.proofs.Common.{◌≡◌, Bool, false, true, Option, Some, None, List, ℕ, sym, ◌∙◌}
use Rattle.std.specs.Prelude.{IfSome}
use Rattle.kw_command.specs.declared.command.Command.{Command}
use Rattle.kw_command.specs.Words.{AreInRange}
use Rattle.kw_command.proofs.Commands.{told, meaning, meaning_by, no_meaning_by}
use Rattle.kw_command.proofs.Means.{means_known}
use Rattle.kw_command.proofs.Ranges.{meant_in_range}
use Rattle.kw_command.proofs.command.command_of.Goals as goal

not_both : (b : Bool) → b ≡ true → b ≡ false → ⊥
not_both true e f = cc
not_both false e f = cc

in_range : (ws : List (List ℕ)) (r : Option Command) → meaning ws ≡ r → IfSome r AreInRange
in_range ws None e = tt
in_range ws (Some c) e = meant_in_range ws c (told ws (Some c) e)

pub returns-then-not-are_known-clause-meant : goal.returns-then-not-are_known-clause-meant
returns-then-not-are_known-clause-meant c = λ other means.
    not_both c.are_known.result (c.are_known.ensures ∙ means_known c.args.words.now other means) c.if-not-are_known.true

pub returns-in-Some-2-clause-meant : goal.returns-in-Some-2-clause-meant
returns-in-Some-2-clause-meant c =
    told c.args.words.now c.picked.result (meaning_by c.args.words.now c.in-Some.name c.in-Some-2.arguments (sym c.in-Some.ensures) (sym c.in_ok-arguments.ensures ∙ c.in-Some-2.is) ∙ sym c.picked.ensures)

pub returns-in-Some-2-clause-range : goal.returns-in-Some-2-clause-range
returns-in-Some-2-clause-range c =
    in_range c.args.words.now c.picked.result (meaning_by c.args.words.now c.in-Some.name c.in-Some-2.arguments (sym c.in-Some.ensures) (sym c.in_ok-arguments.ensures ∙ c.in-Some-2.is) ∙ sym c.picked.ensures)

pub returns-in-None-clause-meant : goal.returns-in-None-clause-meant
returns-in-None-clause-meant c = told c.args.words.now None (no_meaning_by c.args.words.now (sym c.in_ok-arguments.ensures ∙ c.in-None.is))
