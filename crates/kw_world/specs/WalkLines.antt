-- The lines of the walk to the row of the wanted key.
use Rattle.std.specs.Prelude.{ℕ}
use Rattle.kw_words.specs.declared.layout.Name.TheVariants.{Least}
use Rattle.kw_words.specs.declared.kind.Kind.TheVariants as kind
use Rattle.kw_words.specs.Plain.{key_of_word, built_of_word}
use Rattle.kw_world.specs.declared.local.Local.{Local}
use Rattle.kw_world.specs.declared.event.Choice.{Choice}
use Rattle.kw_world.specs.declared.operation.Action.TheVariants.{Load}
use Rattle.kw_world.specs.Sizes.{Sizes}
use Rattle.kw_world.specs.Transition.{Transition, at}
use Rattle.kw_world.specs.WalkTransitions.{start_transition, head_transition, guessed_least, walk_transition, is_stopped, walk_least}
use Rattle.kw_world.specs.declared.activity.walk.Walk.{Walk}

-- the lines of the walk
abbrev pub walk_lines : Sizes → Walk → ℕ → Choice → Local → Transition
walk_lines z Walk.Start s choice l = start_transition choice l
walk_lines z Walk.First s choice l = head_transition l
walk_lines z Walk.GuessedLeast s choice l = at kind.LoadLeast (Least l.row) Load (λ w. guessed_least (key_of_word w) (built_of_word w) l)
walk_lines z Walk.Next s choice l = walk_transition (is_stopped choice l) s l
walk_lines z Walk.NextLeast s choice l = at kind.LoadLeast (Least l.candidate) Load (λ w. walk_least (key_of_word w) (built_of_word w) l)
