-- The bytes left are those copied into the buffer, and those behind them.
use Rattle.std.proofs.Common.{ap}
use Rattle.kw_io.proofs.Pieces.{rest-piece}
use Rattle.kw_io.proofs.mem_source.MemSourceSource.read.Goals as goal

pub returns-clause-taken : goal.returns-clause-taken
returns-clause-taken c =
    rest-piece _ c.deref-2.result.now c.self.inside.bytes.items _ _ c.self.inside.at _ _
    (ap (λ s. s.left) c.self.view_is) c.deref-2.ensures.value c.copy_from_slice.ensures.after c.min-count.ensures
