-- How a get goes on that leaves its local at rest, and how it ends.
use Rattle.std.specs.Prelude.{◌≡◌, ℕ, Bool, true, false, Option, Some, None, if◌then◌else◌}
use Rattle.kw_words.specs.declared.state.State.{State}
use Rattle.kw_words.specs.declared.state.State.TheVariants.{Normal}
use Rattle.kw_cells.specs.declared.cell.Cell.{Cell}
use Rattle.kw_cells.specs.InOrder.{stands_before}
use Rattle.kw_model.specs.Map.{found}
use Rattle.kw_world.specs.Answers.{answer_found}
use Rattle.kw_world.specs.declared.activity.Activity.TheVariants as Activity
use Rattle.kw_world.specs.declared.local.Local.{Local}
use Rattle.kw_world.specs.Local.{resting}
use Rattle.kw_table.specs.declared.pass.Pass.{Pass}
use Rattle.kw_table.specs.declared.shared.Shared.{Shared}
use Rattle.kw_follow.specs.Calling.{Closes, KeepsCalls}
use Rattle.kw_follow.specs.Following.{GoesTo, activity_in}
use Rattle.kw_follow.specs.Reaching.{Reaches}

-- the row is in use
abbrev pub is_normal : Option State → Bool
is_normal (Some Normal) = true
is_normal _ = false

-- of a cell and the newest of those before it, none where there was none, the newer
abbrev pub newer_of : Cell → Option Cell → Cell
newer_of c None = c
newer_of c (Some d) = if stands_before c d then c else d

-- a get has read its row: it is about to leave with this value, or with none
pub record HasFound (s : Shared) (p q : Pass) (value : Option ℕ) : Type 0 where
  pub local : Local
  pub gets : Reaches s p q local
  pub leaves : local.activity ≡ Activity.Leave (answer_found value)

-- the get has ended with this value, or with none: its pass is idle, and its local at rest
pub record HasGot (s : Shared) (p q : Pass) (value : Option ℕ) (m : Local) : Type 0 where
  pub goes : GoesTo s p q
  pub idle : activity_in q ≡ Activity.Idle
  pub rests : m ≡ resting 0
  -- the pass before its last event
  pub before : Pass
  pub calls : KeepsCalls p before
  pub closes : Closes before q (found value)
