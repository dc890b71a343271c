use Rattle.kw_windows.proofs.Falling.{weighs_less, weighs_most}
use Rattle.kw_windows.proofs.laws.triple_laws.Goals as goal

pub returns : goal.returns
returns c = record { lighter = weighs_less; most = λ wins moves rest. weighs_most moves rest wins }
