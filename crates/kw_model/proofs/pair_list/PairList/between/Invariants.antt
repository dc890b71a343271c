-- The pairs pushed so far are those of the range among the pairs seen so far.
use Rattle.std.proofs.Common.{◌≡◌, take}
use Rattle.kw_model.specs.Map.{between}
use Rattle.kw_model.proofs.pair_list.PairList.between.Given as goal

abbrev pub invariant-loop-key : goal.invariant-loop-key
invariant-loop-key l = l.pairs ≡ between l.from l.to (take l.key-index l.key-items)
