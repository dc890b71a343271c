use Rattle.kw_windows.proofs.Ending.{number_ends, triple_ends, begun_ends}
use Rattle.kw_windows.proofs.laws.end_laws.Goals as goal

pub returns : goal.returns
returns c = record { number = number_ends; triple = triple_ends; begun = begun_ends }
