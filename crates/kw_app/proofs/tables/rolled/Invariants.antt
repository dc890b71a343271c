-- The lines so far were gone through.
use Rattle.std.proofs.Common.{◌+◌}
use Rattle.kw_app.specs.Rolled.{StandsBelow}
use Rattle.kw_app.proofs.tables.rolled.Given as goal

abbrev pub invariant-loop-item : goal.invariant-loop-item
invariant-loop-item l = StandsBelow l.fn.rolling.rollup.width l.items l.answers (l.first + l.item-index) l.rolling
