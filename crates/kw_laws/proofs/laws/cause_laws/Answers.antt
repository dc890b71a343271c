use Rattle.kw_laws.proofs.CausesHold.{causes_hold, standing_holds}
use Rattle.kw_laws.proofs.laws.cause_laws.Goals as goal

pub returns : goal.returns
returns c = record { causes = λ z o es i v. causes_hold z o i es v; standing = λ z o es i v. standing_holds z o i es v }
