-- How a call goes on in its middle.
use Rattle.std.specs.Prelude.{◌≡◌}
use Rattle.kw_world.specs.declared.local.Local.{Local}
use Rattle.kw_table.specs.declared.pass.Pass.{Pass}
use Rattle.kw_table.specs.declared.shared.Shared.{Shared}
use Rattle.kw_follow.specs.Calling.{KeepsCalls}
use Rattle.kw_follow.specs.Following.{Follows, GoesTo, held}

-- the call went on by events in its middle, or by none: its seat then knows this, as far as code
-- knows it, and the calls of its pass are as they were
pub record Reaches (s : Shared) (p q : Pass) (m : Local) : Type 0 where
  pub goes : GoesTo s p q
  pub follows : Follows s q m
  pub calls : KeepsCalls p q

-- the same, and the pairs that its seat has are as they were
pub record Advances (s : Shared) (p q : Pass) (m : Local) : Type 0 where
  pub goes : GoesTo s p q
  pub follows : Follows s q m
  pub calls : KeepsCalls p q
  pub held : held q ≡ held p
