-- The pairs pushed so far, and those that the map has left, are those that it began with.
use Rattle.std.proofs.Common.{◌≡◌, ◌++◌}
use Rattle.kw_model.proofs.map_state.MapState.copied.Given as goal

abbrev pub invariant-loop-key : goal.invariant-loop-key
invariant-loop-key l = l.pairs ++ l.key-iterator ≡ l.initial.key-iterator
