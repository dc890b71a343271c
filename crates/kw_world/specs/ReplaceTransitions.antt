-- What follows from the events that find the row before the full one, link the new rows in place of
-- the group, and retire its rows.
--
-- The walk to the row before goes from the first row, or from a guessed one, and ends at the link
-- to the full row. Where it sees a row whose least key is not below that of the full row, or no
-- row, the full row was replaced by somebody else.
use Rattle.std.specs.Prelude.{ℕ, ◌+◌, Bool, nat_lt, ◌==◌, if◌then◌else◌, Option, Some, None, slice_index}
use Rattle.kw_words.specs.declared.layout.Name.{Name}
use Rattle.kw_words.specs.declared.layout.Name.TheVariants as name
use Rattle.kw_words.specs.declared.kind.Kind.TheVariants as kind
use Rattle.kw_words.specs.declared.link.Link.{Link}
use Rattle.kw_words.specs.declared.state.State.{State}
use Rattle.kw_words.specs.declared.state.State.TheVariants.{Free, Infant, Normal, Leader, Follower, Retired}
use Rattle.kw_words.specs.Link.{link_of}
use Rattle.kw_words.specs.State.{state_of}
use Rattle.kw_world.specs.declared.activity.Activity.TheVariants as Activity
use Rattle.kw_world.specs.declared.activity.rebalance.Rebalance.TheVariants as Rebalance
use Rattle.kw_world.specs.declared.activity.rebalance.replace.Replace.TheVariants as Replace
use Rattle.kw_world.specs.declared.local.Local.{Local}
use Rattle.kw_world.specs.declared.rebalance.Afterwards.TheVariants.{TryAgain, MoveLeft}
use Rattle.kw_world.specs.declared.event.Choice.{Choice}
use Rattle.kw_world.specs.declared.event.Choice.TheVariants.{Begin, Go, Guess, Stop}
use Rattle.kw_world.specs.declared.operation.Action.TheVariants.{Load}
use Rattle.kw_world.specs.EngageTransitions.{again}
use Rattle.kw_world.specs.GroupPlaces.{at_first_row, at_last_row}
use Rattle.kw_world.specs.SeekTransitions.{give_back, at_infant, has_more}
use Rattle.kw_world.specs.Transition.{Transition, Outcome, at, to, row_linked, row_or_first}

-- the walk is at this row, whose least key is this
abbrev pub at_before : Option ℕ → ℕ → Local → Local
at_before r least l = record l { rebalance = record l.rebalance { before = r; least = least } }

-- Replace::First, and Replace::Start without a guess: the full row may be the first one, and no row
-- stands before it then
abbrev pub first_before : ℕ → Local → Outcome
first_before r l = if r == l.row then to (Activity.Rebalance (Rebalance.Replace Replace.Exchange)) (at_before None 0 l) else to (Activity.Rebalance (Rebalance.Replace Replace.Next)) (at_before (Some r) 0 l)

-- the line of both
abbrev pub before_head_transition : Local → Transition
before_head_transition l = at kind.LoadHead name.Head Load (λ w. first_before (row_or_first (row_linked (link_of w))) l)

-- Before with a guess: a row in the normal state is taken, and every other one sends the walk to
-- the first row
abbrev pub guess_before : ℕ → Option State → Local → Outcome
guess_before r (Some Free) l = to (Activity.Rebalance (Rebalance.Replace Replace.First)) l
guess_before r (Some (Infant seat)) l = to (Activity.Rebalance (Rebalance.Replace Replace.First)) l
guess_before r (Some Normal) l = to (Activity.Rebalance (Rebalance.Replace Replace.GuessedLeast)) (record l { rebalance = record l.rebalance { before = Some r } })
guess_before r (Some (Leader count)) l = to (Activity.Rebalance (Rebalance.Replace Replace.First)) l
guess_before r (Some (Follower leader)) l = to (Activity.Rebalance (Rebalance.Replace Replace.First)) l
guess_before r (Some (Retired number)) l = to (Activity.Rebalance (Rebalance.Replace Replace.First)) l
guess_before r None l = to (Activity.Rebalance (Rebalance.Replace Replace.First)) l

-- Before
abbrev pub before_transition : Choice → Local → Transition
before_transition (Begin call) l = before_head_transition l
before_transition Go l = before_head_transition l
before_transition (Guess r) l = at kind.LoadState (name.State r) Load (λ w. guess_before r (state_of w) l)
before_transition Stop l = before_head_transition l

-- Replace::GuessedLeast: the guessed row serves if its least key is below that of the full row
abbrev pub guess_least : ℕ → Local → Outcome
guess_least least l =
    if nat_lt least l.lower then to (Activity.Rebalance (Rebalance.Replace Replace.Next)) (record l { rebalance = record l.rebalance { least = least } })
    else to (Activity.Rebalance (Rebalance.Replace Replace.First)) (record l { rebalance = record l.rebalance { before = None } })

-- the link leads to this row, and is marked or not: where that is the full row, it is replaced at
-- this link, or the row in which the link stands is replaced before it
abbrev pub row_before : Option ℕ → Bool → Local → Outcome
row_before (Some r) marked l =
    if r == l.row then (if marked then give_back MoveLeft l else to (Activity.Rebalance (Rebalance.Replace Replace.Exchange)) l)
    else to (Activity.Rebalance (Rebalance.Replace Replace.NextLeast)) (record l { candidate = r })
row_before None marked l = give_back TryAgain l

-- Replace::Next
abbrev pub link_before : Option Link → Local → Outcome
link_before (Some link) l = row_before link.row link.marked l
link_before None l = give_back TryAgain l

-- Replace::NextLeast: the walk goes on as long as the least key is below that of the full row
abbrev pub least_before : ℕ → Local → Outcome
least_before least l = if nat_lt least l.lower then to (Activity.Rebalance (Rebalance.Replace Replace.Next)) (at_before (Some l.candidate) least l) else give_back TryAgain l

-- the link that leads to the full row: that after the row before it, or the one to the first row
abbrev pub replaced_link : Option ℕ → Name
replaced_link (Some r) = name.Next r
replaced_link None = name.Head

-- the first of the new rows
abbrev pub first_infant : Local → ℕ
first_infant l = slice_index l.rebalance.taken 0

-- the link was found to lead to this row, and marked or not
abbrev pub row_replaced : Option ℕ → Bool → Local → Outcome
row_replaced (Some r) marked l =
    if r == l.row then (if marked then give_back MoveLeft l else to (Activity.Rebalance (Rebalance.Replace Replace.Normalise)) (at_infant 0 l))
    else give_back TryAgain l
row_replaced None marked l = give_back TryAgain l

-- Replace: the exchange was made where the link led to the full row and was not marked
abbrev pub replaced : Option Link → Local → Outcome
replaced (Some link) l = row_replaced link.row link.marked l
replaced None l = give_back TryAgain l

-- Normalise: the next of the new rows, and after all of them the number of the first row of the
-- group
abbrev pub normalised : Local → Outcome
normalised l = if has_more l then to (Activity.Rebalance (Rebalance.Replace Replace.Normalise)) (at_infant (l.rebalance.at + 1) l) else to (Activity.Rebalance (Rebalance.Replace Replace.Number)) (at_first_row l)

-- Retire: the row at hand is retired; the next row of the group gets a number, and after the last
-- one the rebalance is over
abbrev pub retired : Option ℕ → Local → Outcome
retired (Some r) l = to (Activity.Rebalance (Rebalance.Replace Replace.Number)) (at_last_row r l)
retired None l = again l
