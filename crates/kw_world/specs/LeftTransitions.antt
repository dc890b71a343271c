-- What follows from the events by which the seat of a follower goes left to its leader, whose
-- rebalance it helps with.
--
-- The walk goes from the first row to the one whose link leads to the follower, marked or not.
-- Where it sees a row whose least key is not below that of the follower, or no row, the follower
-- was replaced with its leader. With a guess no walk is made: the leader is the row that the
-- follower's state named, and its least key is all that is wanting.
use Rattle.std.specs.Prelude.{ℕ, nat_lt, ◌==◌, if◌then◌else◌, Option, Some, None}
use Rattle.kw_words.specs.declared.layout.Name.TheVariants as name
use Rattle.kw_words.specs.declared.kind.Kind.TheVariants as kind
use Rattle.kw_words.specs.Link.{link_of}
use Rattle.kw_words.specs.Plain.{key_of_word}
use Rattle.kw_world.specs.declared.activity.Activity.TheVariants as Activity
use Rattle.kw_world.specs.declared.activity.rebalance.Rebalance.TheVariants as Rebalance
use Rattle.kw_world.specs.declared.activity.rebalance.left.Left.TheVariants as Left
use Rattle.kw_world.specs.declared.local.Local.{Local}
use Rattle.kw_world.specs.declared.event.Choice.{Choice}
use Rattle.kw_world.specs.declared.event.Choice.TheVariants.{Begin, Go, Guess, Stop}
use Rattle.kw_world.specs.declared.operation.Action.TheVariants.{Load}
use Rattle.kw_world.specs.EngageTransitions.{again, to_rebalance}
use Rattle.kw_world.specs.ReplaceTransitions.{at_before}
use Rattle.kw_world.specs.SeekTransitions.{moved_left}
use Rattle.kw_world.specs.Transition.{Transition, Outcome, at, to, row_linked, row_or_first}

-- the full row is now the row at which the walk is
abbrev pub to_leader : Local → Outcome
to_leader l = to_rebalance (moved_left l)

-- Left::Start without a guess: the walk begins at the first row, which is no follower
abbrev pub first_left : ℕ → Local → Outcome
first_left r l = if r == l.row then again l else to (Activity.Rebalance (Rebalance.Left Left.Next)) (at_before (Some r) 0 l)

abbrev pub left_head_transition : Local → Transition
left_head_transition l = at kind.LoadHead name.Head Load (λ w. first_left (row_or_first (row_linked (link_of w))) l)

-- Left::Start with a guess: the seat is at the leader that the follower's state named
abbrev pub leader_named : ℕ → Local → Outcome
leader_named least l = to_leader (at_before l.rebalance.before least l)

abbrev pub left_leader_transition : Local → Transition
left_leader_transition l = at kind.LoadLeast (name.Least (row_or_first l.rebalance.before)) Load (λ w. leader_named (key_of_word w) l)

-- Left::Start; whatever row the guess names, it counts
abbrev pub left_transition : Choice → Local → Transition
left_transition (Begin call) l = left_head_transition l
left_transition Go l = left_head_transition l
left_transition (Guess r) l = left_leader_transition l
left_transition Stop l = left_head_transition l

-- Left::Next: the link leads to the follower, to a row before it, or to none
abbrev pub link_left : Option ℕ → Local → Outcome
link_left (Some r) l = if r == l.row then to_leader l else to (Activity.Rebalance (Rebalance.Left Left.NextLeast)) (record l { candidate = r })
link_left None l = again l

-- Left::NextLeast: the walk goes on as long as the least key is below that of the follower
abbrev pub least_left : ℕ → Local → Outcome
least_left least l = if nat_lt least l.lower then to (Activity.Rebalance (Rebalance.Left Left.Next)) (at_before (Some l.candidate) least l) else again l
