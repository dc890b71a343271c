use Rattle.kw_counts.proofs.NoRowsHold.{no_rows_hold}
use Rattle.kw_counts.proofs.SpentHold.{spent_holds}
use Rattle.kw_counts.proofs.laws.refusal_laws.Goals as goal

pub returns : goal.returns
returns c = record { spent = λ z o es i v. spent_holds z o i es v; no_rows = λ z o es i v. no_rows_hold z o i es v }
