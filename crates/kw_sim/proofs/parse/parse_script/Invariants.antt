-- The lines so far are the texts of the commands so far, and those of the lines that are left
-- follow.
use Rattle.std.proofs.Common.{◌≡◌, ◌++◌, ◌≤◌, map, length}
use Rattle.std.specs.List.{AllByRecursion}
use Rattle.kw_line.specs.Cut.{lines}
use Rattle.kw_sim.specs.declared.parse.TheConstants.{MOST_LINES}
use Rattle.kw_sim.specs.Script.{IsCommand, command_text}
use Rattle.kw_sim.proofs.parse.parse_script.Given as goal

abbrev pub invariant-loop-line : goal.invariant-loop-line
invariant-loop-line l = record { each : AllByRecursion (IsCommand l.rows) l.commands.items; few : length l.commands.items ≤ MOST_LINES; texts : lines l.script ≡ map command_text l.commands.items ++ l.line-iterator }
