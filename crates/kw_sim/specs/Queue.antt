-- The calls that a seat is still to make, in runs of one call each.
use Rattle.std.specs.Prelude.{◌≤◌, List, replicate}
use Rattle.std.specs.List.{flat_map}
use Rattle.kw_model.specs.declared.call.Call.{Call}
use Rattle.kw_line.specs.Line.{FitsCall}
use Rattle.kw_sim.specs.declared.queue.Run.{Run}

-- the calls of a run
abbrev pub run_calls : Run → List Call
run_calls r = replicate r.count r.call

-- the run has a call, and its numbers are in range
abbrev pub IsRun : Run → Type 0
IsRun r = (1 ≤ r.count) × FitsCall r.call

-- the calls of runs
abbrev pub all_calls : List Run → List Call
all_calls runs = flat_map run_calls runs
