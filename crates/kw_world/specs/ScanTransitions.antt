-- What follows from the events by which a call begins, and a scan gets its version.
use Rattle.std.specs.Prelude.{ℕ, ◌+◌, nat_le, if◌then◌else◌, Option, Some, None}
use Rattle.kw_words.specs.declared.scan.ScanWord.{ScanWord}
use Rattle.kw_words.specs.declared.scan.ScanWord.TheVariants.{Quiet, Waiting, Drawn}
use Rattle.kw_words.specs.declared.sizes.TheConstants.{SPENT}
use Rattle.kw_model.specs.declared.call.Call.{Call}
use Rattle.kw_model.specs.declared.call.Call.TheVariants.{Put, Del, Get, Scan, Pin, ScanAt, Unpin}
use Rattle.kw_world.specs.declared.answer.Answer.{Answer}
use Rattle.kw_world.specs.declared.answer.Answer.TheVariants.{Pairs, Spent, Stopped, Held, NotPinned}
use Rattle.kw_world.specs.declared.activity.Activity.TheVariants as Activity
use Rattle.kw_world.specs.declared.activity.draw.Draw.TheVariants as Draw
use Rattle.kw_world.specs.declared.activity.enter.Enter.TheVariants as Enter
use Rattle.kw_world.specs.declared.activity.walk.Walk.TheVariants as Walk
use Rattle.kw_world.specs.declared.local.Local.{Local}
use Rattle.kw_world.specs.declared.event.Choice.{Choice}
use Rattle.kw_world.specs.declared.event.Choice.TheVariants.{Begin, Go, Guess, Stop}
use Rattle.kw_world.specs.declared.event.StepDone.TheVariants.{Skipped}
use Rattle.kw_world.specs.Calls.{first_key, is_range_empty, is_pin}
use Rattle.kw_world.specs.Transition.{Outcome, outcome, to, leave}

-- Idle: the call is begun, and counted. An event with another choice is skipped, and never comes to
-- this line
abbrev pub begun : Choice → ℕ → Local → Outcome
begun (Begin call) epoch l = to (Activity.Enter Enter.Announce) (record l { call = Some call; number = l.number + 1; epoch = epoch })
begun Go epoch l = outcome l Skipped
begun (Guess r) epoch l = outcome l Skipped
begun Stop epoch l = outcome l Skipped

-- Start, with the key that is wanted first
abbrev pub to_start : Local → Outcome
to_start l = to (Activity.Walk Walk.Start) (record l { want = first_key l.call })

-- a pin gets its version, unless the seat holds one
abbrev pub pin_entered : Option ℕ → Local → Outcome
pin_entered None l = to (Activity.Draw Draw.Clock) l
pin_entered (Some version) l = leave Held l

-- a scan of the map as it was pinned begins its walk with the version of the pin, and one of no
-- keys is over
abbrev pub scan_at_entered : Option ℕ → Local → Outcome
scan_at_entered None l = leave NotPinned l
scan_at_entered (Some version) l =
    if is_range_empty l.call then leave Pairs (record l { version = version })
    else to_start (record l { version = version })

-- a pin that the seat holds is taken back
abbrev pub unpin_entered : Option ℕ → Local → Outcome
unpin_entered None l = leave NotPinned l
unpin_entered (Some version) l = to Activity.ClearPin l

-- Enter: a scan gets its version first, and a call of a pin goes by what the seat holds
abbrev pub entered : Option Call → Local → Outcome
entered (Some (Put key value)) l = to_start l
entered (Some (Del key)) l = to_start l
entered (Some (Get key)) l = to_start l
entered (Some (Scan from upto)) l = to (Activity.Draw Draw.Clock) l
entered (Some Pin) l = pin_entered l.pin l
entered (Some (ScanAt from upto)) l = scan_at_entered l.pin l
entered (Some Unpin) l = unpin_entered l.pin l
entered None l = to_start l

-- Draw::Clock: from a certain clock on no scan begins, and no pin
abbrev pub clock_seen : ℕ → Local → Outcome
clock_seen clock l = if nat_le SPENT clock then leave Spent l else to (Activity.Draw Draw.Wait) (record l { waiting = clock })

-- Draw::Settle: the version that was set for the scan, else its own
abbrev pub version_settled : Option ScanWord → ℕ → ℕ
version_settled (Some Quiet) drawn = drawn
version_settled (Some (Waiting clock)) drawn = drawn
version_settled (Some (Drawn version)) drawn = version
version_settled None drawn = drawn

-- Draw::Settle: a pin is stored; a scan of no keys is over, and every other one begins its walk
abbrev pub settled : ℕ → Local → Outcome
settled version l =
    if is_pin l.call then to (Activity.Draw Draw.Pin) (record l { version = version })
    else if is_range_empty l.call then to (Activity.EndScan Pairs) (record l { version = version })
    else to_start (record l { version = version })

-- EndScan(x): the answer, unless the scan is stopped here
abbrev pub answer_or_stopped : Answer → Choice → Answer
answer_or_stopped answer (Begin call) = answer
answer_or_stopped answer Go = answer
answer_or_stopped answer (Guess r) = answer
answer_or_stopped answer Stop = Stopped
