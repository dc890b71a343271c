-- What follows from the events of a walk, and the lines that a choice decides.
use Rattle.std.specs.Prelude.{ℕ, Bool, true, false, ◌&&◌, nat_le, nat_lt, if◌then◌else◌, Option, Some, None}
use Rattle.kw_words.specs.declared.layout.Name.TheVariants as name
use Rattle.kw_words.specs.declared.kind.Kind.TheVariants as kind
use Rattle.kw_words.specs.declared.state.State.{State}
use Rattle.kw_words.specs.declared.state.State.TheVariants.{Free, Infant, Normal, Leader, Follower, Retired}
use Rattle.kw_words.specs.declared.scan.ScanWord.TheVariants.{Quiet}
use Rattle.kw_words.specs.Link.{link_of}
use Rattle.kw_words.specs.State.{state_of}
use Rattle.kw_words.specs.Scan.{scan_word}
use Rattle.kw_model.specs.declared.call.Call.{Call}
use Rattle.kw_model.specs.declared.call.Call.TheVariants.{Put, Del, Get, Scan, Pin, ScanAt, Unpin}
use Rattle.kw_world.specs.declared.answer.Answer.TheVariants.{Stopped}
use Rattle.kw_world.specs.declared.activity.Activity.TheVariants as Activity
use Rattle.kw_world.specs.declared.activity.look.Look.TheVariants as Look
use Rattle.kw_world.specs.declared.activity.put.Put.TheVariants as Put
use Rattle.kw_world.specs.declared.activity.walk.Walk.TheVariants as Walk
use Rattle.kw_world.specs.declared.local.Local.{Local}
use Rattle.kw_world.specs.declared.event.Choice.{Choice}
use Rattle.kw_world.specs.declared.event.Choice.TheVariants.{Begin, Go, Guess, Stop}
use Rattle.kw_world.specs.declared.operation.Action.TheVariants.{Load, Store}
use Rattle.kw_world.specs.Calls.{is_scan}
use Rattle.kw_world.specs.Local.{before_row}
use Rattle.kw_world.specs.Transition.{Transition, Outcome, at, to, leave, row_linked, row_or_first}

-- a guess at a row that the table does not have is not offered
abbrev pub offered : ℕ → Choice → Choice
offered rows (Begin call) = Begin call
offered rows Go = Go
offered rows (Guess r) = if nat_lt r rows then Guess r else Go
offered rows Stop = Stop

-- Head, and Start without a guess: the walk begins at the first row, whose least key is 0; with how
-- many cells it was built is not asked for
abbrev pub head_transition : Local → Transition
head_transition l = at kind.LoadHead name.Head Load (λ w. to (Activity.Walk Walk.Next) (record l { row = row_or_first (row_linked (link_of w)); lower = 0; built = 0 }))

-- Start with a guess: a row in the normal state is taken, and every other one sends the walk to the
-- first row
abbrev pub guess_seen : ℕ → Option State → Local → Outcome
guess_seen r (Some Free) l = to (Activity.Walk Walk.First) l
guess_seen r (Some (Infant seat)) l = to (Activity.Walk Walk.First) l
guess_seen r (Some Normal) l = to (Activity.Walk Walk.GuessedLeast) (record l { row = r })
guess_seen r (Some (Leader count)) l = to (Activity.Walk Walk.First) l
guess_seen r (Some (Follower leader)) l = to (Activity.Walk Walk.First) l
guess_seen r (Some (Retired number)) l = to (Activity.Walk Walk.First) l
guess_seen r None l = to (Activity.Walk Walk.First) l

-- Start
abbrev pub start_transition : Choice → Local → Transition
start_transition (Begin call) l = head_transition l
start_transition Go l = head_transition l
start_transition (Guess r) l = at kind.LoadState (name.State r) Load (λ w. guess_seen r (state_of w) l)
start_transition Stop l = head_transition l

-- Walk::GuessedLeast: the guessed row serves if the wanted key is not below its least key; then it
-- is known as well with how many cells it was built
abbrev pub guessed_least : ℕ → ℕ → Local → Outcome
guessed_least least built l = if nat_le least l.want then to (Activity.Walk Walk.Next) (record l { lower = least; built = built }) else to (Activity.Walk Walk.First) l

-- Arrive has no event: the walk has found the row of the wanted key
abbrev pub arrive : Option Call → Local → Outcome
arrive (Some (Put key value)) l = to (Activity.Put Put.Count) l
arrive (Some (Del key)) l = to (Activity.Put Put.Count) l
arrive (Some (Get key)) l = to (Activity.Look (Look.Entry 0)) (before_row l)
arrive (Some (Scan from upto)) l = to (Activity.Look (Look.Entry 0)) (before_row l)
arrive (Some Pin) l = to (Activity.Look (Look.Entry 0)) (before_row l)
arrive (Some (ScanAt from upto)) l = to (Activity.Look (Look.Entry 0)) (before_row l)
arrive (Some Unpin) l = to (Activity.Look (Look.Entry 0)) (before_row l)
arrive None l = to (Activity.Look (Look.Entry 0)) (before_row l)

-- Walk: the last row has no next one; else the least key of the next one decides
abbrev pub link_reached : Option ℕ → Local → Outcome
link_reached None l = arrive l.call (record l { next = None; upper = 0 })
link_reached (Some r) l = to (Activity.Walk Walk.NextLeast) (record l { candidate = r })

-- Walk::NextLeast: the walk goes on to a row whose least key is at most the wanted key, and else
-- ends before it
abbrev pub walk_least : ℕ → ℕ → Local → Outcome
walk_least least built l =
    if nat_le least l.want then to (Activity.Walk Walk.Next) (record l { row = l.candidate; lower = least; built = built })
    else arrive l.call (record l { next = Some l.candidate; upper = least })

-- the choice is to stop
abbrev pub is_stop : Choice → Bool
is_stop (Begin call) = false
is_stop Go = false
is_stop (Guess r) = false
is_stop Stop = true

-- a walk is stopped where the choice is to stop and the call is a scan that has read a row
abbrev pub is_stopped : Choice → Local → Bool
is_stopped choice l = is_stop choice && (is_scan l.call && l.has_read)

-- Walk; the first test is whether it is stopped
abbrev pub walk_transition : Bool → ℕ → Local → Transition
walk_transition true s l = at kind.ClearScan (name.Scan s) (Store (scan_word Quiet)) (λ _. leave Stopped l)
walk_transition false s l = at kind.LoadLink (name.Next l.row) Load (λ w. link_reached (row_linked (link_of w)) l)
