use Rattle.kw_laws.proofs.LawProofs.{laws_hold}
use Rattle.kw_laws.proofs.LiveRows.{lives}
use Rattle.kw_core.proofs.Runs.{history-world}
use Rattle.kw_laws.proofs.laws.list_laws.Goals as goal

pub returns : goal.returns
returns c = record { laws = λ z o es i v. laws_hold z o i es v; world = history-world; live = λ z o es i v. lives z o i es v }
