use Rattle.kw_work.proofs.MadeCalls.{lines_in_order, lines_legal, lines_before_by}
use Rattle.kw_work.proofs.laws.made_calls_laws.Goals as goal

pub returns : goal.returns
returns c = record { order = lines_in_order; legal = lines_legal; before = lines_before_by }
