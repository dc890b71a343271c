use Rattle.std.proofs.Common.{◌≡◌, fold, max, take}
use Rattle.kw_rollup.proofs.values.greatest_of.Given as goal

abbrev pub invariant-loop-value : goal.invariant-loop-value
invariant-loop-value l = l.greatest ≡ fold max l.start (take l.value-index l.values)
