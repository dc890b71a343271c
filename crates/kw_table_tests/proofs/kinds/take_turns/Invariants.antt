use Rattle.std.proofs.Common.{◌≡◌}
use Rattle.kw_table.specs.Passes.{view, IsPassOf}
use Rattle.kw_table.specs.Views.{local_in}
use Rattle.kw_table_tests.proofs.kinds.take_turns.Given as goal

abbrev pub invariant-loop-turn : goal.invariant-loop-turn
invariant-loop-turn l =
    (IsPassOf l.shared l.first.pass × (l.first.local ≡ local_in (view l.first.pass)))
    × (IsPassOf l.shared l.second.pass × (l.second.local ≡ local_in (view l.second.pass)))
