use Rattle.kw_lists.proofs.Building.{built_list}
use Rattle.kw_lists.proofs.laws.write_laws.Goals as goal

pub returns : goal.returns
returns c = built_list
