-- The lines by which the new rows are linked in place of the group, and its rows are retired.
use Rattle.std.specs.Prelude.{ℕ, Some}
use Rattle.kw_words.specs.declared.layout.Name.TheVariants.{Epoch, State, Least, Next}
use Rattle.kw_words.specs.declared.kind.Kind.TheVariants as kind
use Rattle.kw_words.specs.declared.state.State.TheVariants as state
use Rattle.kw_words.specs.Link.{link_of, link_word}
use Rattle.kw_words.specs.State.{state_word}
use Rattle.kw_words.specs.Plain.{key_of_word}
use Rattle.kw_world.specs.declared.activity.Activity.{Activity}
use Rattle.kw_world.specs.declared.activity.rebalance.Rebalance.TheVariants as Rebalance
use Rattle.kw_world.specs.declared.local.Local.{Local}
use Rattle.kw_world.specs.declared.event.Choice.{Choice}
use Rattle.kw_world.specs.declared.operation.Action.TheVariants.{Load, Store, Add, Exchange}
use Rattle.kw_world.specs.Sizes.{Sizes}
use Rattle.kw_world.specs.Transition.{Transition, at, to, row_or_first}
use Rattle.kw_world.specs.SeekTransitions.{infant}
use Rattle.kw_world.specs.WriteTransitions.{unmarked_link}
use Rattle.kw_world.specs.ReplaceTransitions.{before_transition, before_head_transition, guess_least, link_before, least_before, replaced_link, first_infant, replaced, normalised, retired}
use Rattle.kw_world.specs.declared.activity.rebalance.replace.Replace.{Replace}

-- the lines of replacing
abbrev pub replace_lines : Sizes → Replace → ℕ → Choice → Local → Transition
replace_lines z Replace.Start s choice l = before_transition choice l
replace_lines z Replace.GuessedLeast s choice l = at kind.LoadLeast (Least (row_or_first l.rebalance.before)) Load (λ w. guess_least (key_of_word w) l)
replace_lines z Replace.First s choice l = before_head_transition l
replace_lines z Replace.Next s choice l = at kind.LoadLink (Next (row_or_first l.rebalance.before)) Load (λ w. link_before (link_of w) l)
replace_lines z Replace.NextLeast s choice l = at kind.LoadLeast (Least l.candidate) Load (λ w. least_before (key_of_word w) l)
replace_lines z Replace.Exchange s choice l = at kind.Replace (replaced_link l.rebalance.before) (Exchange (link_word (unmarked_link (Some l.row))) (link_word (unmarked_link (Some (first_infant l))))) (λ w. replaced (link_of w) l)
replace_lines z Replace.Normalise s choice l = at kind.Normalise (State (infant l)) (Exchange (state_word (state.Infant s)) (state_word state.Normal)) (λ _. normalised l)
replace_lines z Replace.Number s choice l = at kind.Number Epoch (Add 1) (λ e. to (Activity.Rebalance (Rebalance.Replace Replace.Retire)) (record l { rebalance = record l.rebalance { number = e } }))
replace_lines z Replace.Retire s choice l = at kind.StoreRetired (State l.rebalance.hand) (Store (state_word (state.Retired l.rebalance.number))) (λ _. retired l.rebalance.ahead l)
