use Rattle.std.proofs.Common.{◌≡◌}
use Rattle.kw_table.specs.Passes.{view, IsPassOf}
use Rattle.kw_table.specs.Views.{local_in}
use Rattle.kw_table_tests.proofs.kinds.play.Given as goal

abbrev pub invariant-loop : goal.invariant-loop
invariant-loop l = IsPassOf l.shared l.player.pass × (l.player.local ≡ local_in (view l.player.pass))
