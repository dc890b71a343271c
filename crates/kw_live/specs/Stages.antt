-- Where a call stands between the functions that make its events.
use Rattle.std.specs.Prelude.{ℕ, ◌<◌, ◌≤◌, Option, Some, None}
use Rattle.kw_model.specs.declared.call.Call.{Call}
use Rattle.kw_model.specs.declared.call.Call.TheVariants.{Put, Del, Get, Scan, Pin, ScanAt, Unpin}
use Rattle.kw_world.specs.declared.answer.Answer.TheVariants.{Pairs, Spent}
use Rattle.kw_world.specs.declared.activity.Activity.{Activity}
use Rattle.kw_world.specs.declared.activity.look.Look.TheVariants as Look
use Rattle.kw_world.specs.declared.activity.put.Put.TheVariants as Put
use Rattle.kw_world.specs.declared.activity.walk.Walk.TheVariants as Walk
use Rattle.kw_world.specs.declared.event.Choice.{Choice}
use Rattle.kw_world.specs.declared.event.Choice.TheVariants.{Go, Guess}

-- where a call stands once it has entered: on its way to the row of its first key; a scan of no
-- keys is over, and one that found the versions spent leaves
abbrev pub HasEntered : Call → Activity → Type 0
HasEntered (Put key value) (Activity.Walk Walk.Start) = Unit {0}
HasEntered (Del key) (Activity.Walk Walk.Start) = Unit {0}
HasEntered (Get key) (Activity.Walk Walk.Start) = Unit {0}
HasEntered (Scan from upto) (Activity.Walk Walk.Start) = from ≤ upto
HasEntered (Scan from upto) (Activity.EndScan Pairs) = upto < from
HasEntered (Scan from upto) (Activity.Leave Spent) = Unit {0}
HasEntered _ _ = ⊥

-- where a call stands once it is at its row
abbrev pub arrived : Option Call → Activity
arrived (Some (Put key value)) = Activity.Put Put.Count
arrived (Some (Del key)) = Activity.Put Put.Count
arrived (Some (Get key)) = Activity.Look (Look.Entry 0)
arrived (Some (Scan from upto)) = Activity.Look (Look.Entry 0)
arrived (Some Pin) = Activity.Look (Look.Entry 0)
arrived (Some (ScanAt from upto)) = Activity.Look (Look.Entry 0)
arrived (Some Unpin) = Activity.Look (Look.Entry 0)
arrived None = Activity.Look (Look.Entry 0)

-- the choice with which a walk begins
abbrev pub guessing : Option ℕ → Choice
guessing (Some row) = Guess row
guessing None = Go
