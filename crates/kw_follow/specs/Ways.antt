-- Which local a get has that left its own at rest and came so far on its way.
use Rattle.std.specs.Prelude.{ℕ, Some}
use Rattle.kw_model.specs.declared.call.Call.TheVariants.{Get}
use Rattle.kw_world.specs.declared.activity.Activity.{Activity}
use Rattle.kw_world.specs.declared.activity.enter.Enter.TheVariants as Enter
use Rattle.kw_world.specs.declared.activity.walk.Walk.TheVariants as Walk
use Rattle.kw_world.specs.declared.local.Local.{Local}
use Rattle.kw_world.specs.Local.{resting}
use Rattle.kw_follow.specs.declared.way.Way.{Way}

-- the local of a get that has loaded this epoch
abbrev pub entering : ℕ → ℕ → Local
entering key epoch = record (resting 1) { activity = Activity.Enter Enter.Announce; call = Some (Get key); epoch = epoch }

-- and has announced it
abbrev pub starting : ℕ → ℕ → Local
starting key epoch = record (entering key epoch) { activity = Activity.Walk Walk.Start; want = key }

-- the local of a get that is at this activity and came so far: between calls it knows nothing, and
-- has learnt this alone since
abbrev pub on_way : Activity → Way → Local
on_way a w = record (resting 1) { activity = a; call = Some (Get w.key); epoch = w.epoch; want = w.key; row = w.row; lower = w.lower; built = w.built; candidate = w.candidate; next = w.next; upper = w.upper }
