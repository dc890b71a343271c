use Rattle.kw_laws.proofs.ReachHolds.{reach_holds}
use Rattle.kw_laws.proofs.laws.reach_laws.Goals as goal

pub returns : goal.returns
returns c = record { rows = λ z o es i v. reach_holds z o i es v }
