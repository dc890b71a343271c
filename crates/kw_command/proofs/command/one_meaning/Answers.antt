-- Words mean one command at most.
use Rattle.kw_command.proofs.Commands.{same_command}
use Rattle.kw_command.proofs.command.one_meaning.Goals as goal

pub returns : goal.returns
returns c = same_command
