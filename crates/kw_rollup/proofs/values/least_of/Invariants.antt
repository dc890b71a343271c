use Rattle.std.proofs.Common.{◌≡◌, fold, min, take}
use Rattle.kw_rollup.proofs.values.least_of.Given as goal

abbrev pub invariant-loop-value : goal.invariant-loop-value
invariant-loop-value l = l.least ≡ fold min l.start (take l.value-index l.values)
