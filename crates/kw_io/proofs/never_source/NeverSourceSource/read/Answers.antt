-- The bytes left are those copied into the buffer, and those behind them.
use Rattle.kw_io.proofs.Pieces.{rest-piece}
use Rattle.kw_io.proofs.never_source.NeverSourceSource.read.Goals as goal

pub returns-clause-taken : goal.returns-clause-taken
returns-clause-taken c =
    rest-piece _ c.deref.result.now c.self.inside.bytes.items _ _ c.self.inside.at _ _
    c.self.view_is c.deref.ensures.value c.copy_from_slice.ensures.after c.min-count.ensures
