use Rattle.kw_counts.proofs.BankHold.{bank_holds}
use Rattle.kw_counts.proofs.EngagersHold.{engagers_hold}
use Rattle.kw_counts.proofs.laws.bank_laws.Goals as goal

pub returns : goal.returns
returns c = record { bank = λ z o es i v. bank_holds z o i es v; engagers = λ z o es i v. engagers_hold z o i es v }
