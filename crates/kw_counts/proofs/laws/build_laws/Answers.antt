use Rattle.kw_counts.proofs.BuildRows.{builds_hold}
use Rattle.kw_counts.proofs.LinksKeep.{links_hold}
use Rattle.kw_counts.proofs.laws.build_laws.Goals as goal

pub returns : goal.returns
returns c = record { rows = λ z o es i v. builds_hold z o i es v; links = λ z o es i v. links_hold z o i es v }
