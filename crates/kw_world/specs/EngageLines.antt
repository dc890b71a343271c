-- The lines by which a full row gets its leader, and the row after it is taken along; and those by
-- which the seat of a follower goes left to its leader.
use Rattle.std.specs.Prelude.{ℕ, ◌==◌}
use Rattle.kw_words.specs.declared.layout.Name.TheVariants.{Clock, Epoch, State, Next, Count, Least}
use Rattle.kw_words.specs.declared.kind.Kind.TheVariants as kind
use Rattle.kw_words.specs.declared.state.State.TheVariants as state
use Rattle.kw_words.specs.declared.sizes.TheConstants.{MARK_BIT}
use Rattle.kw_words.specs.Link.{link_of}
use Rattle.kw_words.specs.State.{state_of, state_word}
use Rattle.kw_world.specs.declared.activity.Activity.{Activity}
use Rattle.kw_world.specs.declared.activity.rebalance.Rebalance.TheVariants as Rebalance
use Rattle.kw_world.specs.declared.local.Local.{Local}
use Rattle.kw_world.specs.declared.event.Choice.{Choice}
use Rattle.kw_world.specs.declared.operation.Action.TheVariants.{Load, Or, Exchange}
use Rattle.kw_world.specs.Sizes.{Sizes}
use Rattle.kw_world.specs.Transition.{Transition, at, to, row_linked, row_or_first}
use Rattle.kw_world.specs.EngageTransitions.{balance_clock, balance_epoch, state_seen, engaged, link_marked, decided}
use Rattle.kw_world.specs.declared.activity.rebalance.engage.Engage.{Engage}
use Rattle.kw_words.specs.Count.{count_of}
use Rattle.kw_world.specs.ClaimTransitions.{row_after, next_counted, claimed, next_marked}
use Rattle.kw_world.specs.declared.activity.rebalance.claim.Claim.{Claim}
use Rattle.kw_words.specs.Plain.{key_of_word}
use Rattle.kw_world.specs.LeftTransitions.{left_transition, link_left, least_left}
use Rattle.kw_world.specs.declared.activity.rebalance.left.Left.{Left}

-- the lines of engaging
abbrev pub engage_lines : Sizes → Engage → ℕ → Choice → Local → Transition
engage_lines z Engage.Clock s choice l = at kind.LoadClock Clock Load (λ c. balance_clock c l)
engage_lines z Engage.Epoch s choice l = at kind.LoadEpoch Epoch Load (λ e. balance_epoch e l)
engage_lines z Engage.State s choice l = at kind.LoadState (State l.row) Load (λ w. state_seen (state_of w) l)
engage_lines z (Engage.Normal seat) s choice l = at kind.Normalise (State l.row) (Exchange (state_word (state.Infant seat)) (state_word state.Normal)) (λ _. to (Activity.Rebalance (Rebalance.Engage Engage.State)) l)
engage_lines z Engage.Lead s choice l = at kind.Engage (State l.row) (Exchange (state_word state.Normal) (state_word (state.Leader 0))) (λ w. engaged (w == state_word state.Normal) l)
engage_lines z (Engage.MarkLink count) s choice l = at kind.MarkLink (Next l.row) (Or MARK_BIT) (λ w. link_marked count (row_linked (link_of w)) l)
engage_lines z (Engage.Decide count) s choice l = at kind.Decide (State l.row) (Exchange (state_word (state.Leader 0)) (state_word (state.Leader count))) (λ w. decided count (state_of w) l)

-- the lines of claiming
abbrev pub claim_lines : Sizes → Claim → ℕ → Choice → Local → Transition
claim_lines z Claim.Count s choice l = at kind.LoadNextCount (Count (row_after l)) Load (λ w. next_counted (count_of w) l)
claim_lines z Claim.Exchange s choice l = at kind.EngageNext (State (row_after l)) (Exchange (state_word state.Normal) (state_word (state.Follower l.row))) (λ w. claimed (state_of w) l)
claim_lines z (Claim.Normal seat) s choice l = at kind.Normalise (State (row_after l)) (Exchange (state_word (state.Infant seat)) (state_word state.Normal)) (λ _. to (Activity.Rebalance (Rebalance.Claim Claim.Exchange)) l)
claim_lines z Claim.MarkLink s choice l = at kind.MarkLink (Next (row_after l)) (Or MARK_BIT) (λ w. next_marked (row_linked (link_of w)) l)

-- the lines of going left
abbrev pub left_lines : Sizes → Left → ℕ → Choice → Local → Transition
left_lines z Left.Start s choice l = left_transition choice l
left_lines z Left.Next s choice l = at kind.LoadLink (Next (row_or_first l.rebalance.before)) Load (λ w. link_left (row_linked (link_of w)) l)
left_lines z Left.NextLeast s choice l = at kind.LoadLeast (Least l.candidate) Load (λ w. least_left (key_of_word w) l)
