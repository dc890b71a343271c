use Rattle.kw_world.proofs.Transitions.{store_blind}
use Rattle.kw_world.proofs.laws.stores_are_blind.Goals as goal

pub returns : goal.returns
returns c = store_blind
