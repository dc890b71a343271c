-- A world as contracts see it: the number of rows, the words by place, and what each seat knows.
use Rattle.std.specs.Prelude.{ℕ, List}
use Rattle.kw_world.specs.declared.local.Local.{Local}

pub record WorldView : Type 0 where
  pub rows : ℕ
  pub words : List ℕ
  pub locals : List Local
