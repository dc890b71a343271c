-- The keys of the first range lie below the second.
use Rattle.std.proofs.Common.{arith}
use Rattle.kw_map_tests.proofs.gatherers.hands_over_one_range_after_another.Goals as goal

pub take_pairs-requires-2-clause-above : goal.take_pairs-requires-2-clause-above
take_pairs-requires-2-clause-above g c = c.take_pairs.ensures.later 7 (omega arith) (omega arith)
