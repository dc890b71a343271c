use Rattle.kw_core.proofs.NotedLaws.{noted_keeps, nothing_keeps}
use Rattle.kw_laws.proofs.laws.history_laws.Goals as goal

pub returns : goal.returns
returns c = record { start = nothing_keeps; step = λ h e k m n. noted_keeps h e k m n }
