use Rattle.std.proofs.Common.{◌≡◌, take}
use Rattle.kw_rollup.proofs.rollup.Rollup.from_pairs.Given as goal

abbrev pub invariant-loop-key : goal.invariant-loop-key
invariant-loop-key l = record { width : l.rollup.width ≡ l.width; pairs : l.rollup.pairs ≡ take l.key-index l.list }
