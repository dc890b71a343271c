use Rattle.std.proofs.Common.{rules}
use Rattle.kw_map.proofs.WholeCalls.{fresh_idle}
use Rattle.kw_map.proofs.kiwi.Kiwi.open_at.Goals as goal

pub returns-clause-each : goal.returns-clause-each
returns-clause-each c = λ i d lt. rw c.in_ok-passes.ensures (c.in_ok-shared.ensures.each i d (search rules))

pub returns-clause-idle : goal.returns-clause-idle
returns-clause-idle c = λ k d lt. rw c.in_ok-passes.ensures (fresh_idle _ k _ (c.in_ok-shared.ensures.each k d (search rules)))
