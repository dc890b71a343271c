use Rattle.std.proofs.Common.{ap, ◌∙◌, arith, rules, List}
use Rattle.kw_sim.specs.declared.command.Command.{Command}
use Rattle.kw_sim.specs.Meaning.{script_state}
use Rattle.kw_sim.proofs.Runs.{so_far_next, so_far_all}
use Rattle.kw_sim.proofs.script.run_lines.Goals as goal

pub loop-command-preserved : goal.loop-command-preserved
loop-command-preserved c = so_far_next c.args.rows c.deref-command-items.result.now c.loop-command.command-index c.loop-command.simulator c.run.new.self _ c.loop-command.invariant (omega arith) (search rules) c.in_ok-run.ensures

pub returns-clause-state : goal.returns-clause-state
returns-clause-state c = record {
  commands = c.in_ok-commands.commands.items;
  lines = c.in_ok-commands.ensures.commands;
  is = so_far_all c.args.rows c.deref-command-items.result.now c.loop-command.command-index c.loop-command.simulator c.loop-command.invariant (omega arith) ∙ ap (λ (cs : List Command). script_state c.args.rows cs) c.deref-command-items.ensures.value;
}

pub returns-clause-made : goal.returns-clause-made
returns-clause-made c = omega (arith, c.loop-command.invariant.made, c.loop-command.invariant.few)
