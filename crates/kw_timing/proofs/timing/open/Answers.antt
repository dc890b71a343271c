-- What is left of the passes and the one that was taken are idle, as all were; they are one fewer.
use Rattle.std.proofs.Common.{Some, arith}
use Rattle.std.proofs.lemmas.List.Elements.{All-pop}
use Rattle.kw_map.specs.Kiwi.{IsIdle}
use Rattle.kw_timing.proofs.timing.open.Goals as goal

pub returns-clause-len : goal.returns-clause-len
returns-clause-len c = omega (arith, c.in-Some.ensures.cases, c.in_ok-kiwi.ensures.len)

pub returns-clause-idle : goal.returns-clause-idle
returns-clause-idle c = (All-pop (IsIdle c.in_ok-kiwi.kiwi) _ _ (Some c.in-Some.filling) c.in-Some.ensures.items c.in_ok-kiwi.ensures.idle).0

pub returns-clause-filling : goal.returns-clause-filling
returns-clause-filling c = (All-pop (IsIdle c.in_ok-kiwi.kiwi) _ _ (Some c.in-Some.filling) c.in-Some.ensures.items c.in_ok-kiwi.ensures.idle).1
