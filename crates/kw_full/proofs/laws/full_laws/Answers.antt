use Rattle.kw_full.proofs.FullHold.{frozen_holds, full_holds}
use Rattle.kw_full.proofs.laws.full_laws.Goals as goal

pub returns : goal.returns
returns c = record { frozen = λ z o es i v. frozen_holds z o i es v; full = λ z o es i v. full_holds z o i es v }
