use Rattle.kw_counts.proofs.CountsHold.{draws_hold, ever_holds, numbers_hold, scans_hold, stamps_hold, walks_hold}
use Rattle.kw_counts.proofs.laws.counts_laws.Goals as goal

pub returns : goal.returns
returns c = record { draws = λ z o es i v. draws_hold z o i es v; scans = λ z o es i v. scans_hold z o i es v; numbers = λ z o es i v. numbers_hold z o i es v; ever = λ z o es i v. ever_holds z o i es v; stamps = λ z o es i v. stamps_hold z o i es v; walks = λ z o es i v. walks_hold z o i es v }
