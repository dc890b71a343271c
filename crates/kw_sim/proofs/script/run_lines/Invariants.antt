-- What the lines that are left do leads to where all lines lead.
use Rattle.kw_sim.proofs.Runs.{SoFar}
use Rattle.kw_sim.proofs.script.run_lines.Given as goal

abbrev pub invariant-loop-command : goal.invariant-loop-command
invariant-loop-command l = SoFar l.rows l.command-items l.command-index l.simulator
