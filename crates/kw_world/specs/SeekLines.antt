-- The lines by which free rows are sought and taken.
use Rattle.std.specs.Prelude.{ℕ, ◌==◌}
use Rattle.kw_words.specs.declared.layout.Name.TheVariants.{Pass, State}
use Rattle.kw_words.specs.declared.kind.Kind.TheVariants as kind
use Rattle.kw_words.specs.declared.state.State.TheVariants as state
use Rattle.kw_words.specs.State.{state_word}
use Rattle.kw_words.specs.Plain.{pass_of_word}
use Rattle.kw_world.specs.declared.activity.Activity.{Activity}
use Rattle.kw_world.specs.declared.activity.rebalance.Rebalance.TheVariants as Rebalance
use Rattle.kw_world.specs.declared.local.Local.{Local}
use Rattle.kw_world.specs.declared.event.Choice.{Choice}
use Rattle.kw_world.specs.declared.operation.Action.TheVariants.{Load, Store, Exchange}
use Rattle.kw_world.specs.Sizes.{Sizes}
use Rattle.kw_world.specs.Transition.{Transition, at, at_rows, to}
use Rattle.kw_world.specs.SeekTransitions.{infant, gave_back, seek_transition, seek_first_transition, pass_seen, take_row}
use Rattle.kw_world.specs.declared.activity.rebalance.seek.Seek.{Seek}

-- the lines of seeking
abbrev pub seek_lines : Sizes → Seek → ℕ → Choice → Local → Transition
seek_lines z Seek.First s choice l = seek_first_transition choice l
seek_lines z Seek.Next s choice l = seek_transition l.rebalance.sought l
seek_lines z (Seek.Pass i) s choice l = at_rows kind.LoadPass (Pass i) Load (λ rows w. pass_seen z i rows (pass_of_word w) l)
seek_lines z Seek.Reclaim s choice l = at kind.Reclaim (State l.rebalance.sought) (Exchange (state_word (state.Retired l.rebalance.number)) (state_word state.Free)) (λ _. to (Activity.Rebalance (Rebalance.Seek Seek.Take)) l)
seek_lines z Seek.Take s choice l = at_rows kind.TakeRow (State l.rebalance.sought) (Exchange (state_word state.Free) (state_word (state.Infant s))) (λ rows w. take_row rows (w == state_word state.Free) l)
seek_lines z Seek.GiveBack s choice l = at kind.GiveBack (State (infant l)) (Store (state_word state.Free)) (λ _. gave_back l)
