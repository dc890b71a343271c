use Rattle.kw_lists.proofs.ReadOff.{keeping_agrees, linking_agrees}
use Rattle.kw_lists.proofs.laws.word_laws.Goals as goal

pub returns : goal.returns
returns c = record { keeps = keeping_agrees; links = linking_agrees }
